-- The answer by readings is the answer by every map that they agree with.
use Rattle.std.proofs.Common.{◌≡◌, List, sym, ◌∙◌, subst}
use Rattle.values.specs.declared.value.Value.{Value}
use Rattle.policy.specs.declared.line.Line.{Line}
use Rattle.combining.specs.Combined.{Response}
use Rattle.combining.specs.Fewer.{Fewer}
use Rattle.trees.specs.Expressions.{Map}
use Rattle.trees.specs.declared.duty.Duty.{Duty}
use Rattle.trees.specs.Policies.{respond}
use Rattle.trees.specs.Known.{known_policy, nothing, Reads}
use Rattle.trees.specs.Parts.{policy_of}
use Rattle.trees.specs.AllVisited.{all_visited}
use Rattle.trees.proofs.Bridge.{known-respond}
use Rattle.trees.proofs.Greedy.{fewer_all}

module _ (ls : List Line) (vs : List Value) (m : Map) (r : Reads ls vs m) (x : Response Duty) (e : x ≡ respond nothing (known_policy ls vs)) where
  pub by_map : x ≡ respond m (policy_of ls)
  by_map = e ∙ known-respond ls vs m r

  pub fewer_by_map : Fewer x (respond m (all_visited (policy_of ls)))
  fewer_by_map = let P : Response Duty → Type 0 = λ y. Fewer y (respond m (all_visited (policy_of ls))) in subst P (sym by_map) (fewer_all m (policy_of ls))
