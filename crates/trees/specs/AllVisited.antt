-- The same policy with every greedy set visiting all its children.
use Rattle.spelling.specs.declared.algorithm.Combining.{Combining}
use Rattle.spelling.specs.declared.algorithm.Strategy.TheVariants.{All}
use Rattle.combining.specs.Fewer.{Fewer}
use Rattle.trees.specs.Expressions.{Map}
use Rattle.trees.specs.Policies.{Policy, rule, set, Items, one, more, respond}

abbrev pub visiting_all : Combining → Combining
visiting_all c = record { algorithm = c.algorithm; strategy = All }

unfoldable mutual
  pub all_visited : Policy → Policy
  all_visited (rule e t ds) = rule e t ds
  all_visited (set c t is p d) = set (visiting_all c) t (each_all_visited is) p d

  pub each_all_visited : Items → Items
  each_all_visited (one p) = one (all_visited p)
  each_all_visited (more is p) = more (each_all_visited is) (all_visited p)

-- whatever the map, visiting all children changes no decision, and adds duties at most
abbrev pub GreedyOnlyOmitsDuties : Type 0
GreedyOnlyOmitsDuties = (m : Map) (p : Policy) → Fewer (respond m p) (respond m (all_visited p))
