use Rattle.deciding.proofs.children.+list_children.Given as goal

abbrev pub decreases-list_children : goal.decreases-list_children
decreases-list_children l = l.last
