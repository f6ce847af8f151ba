-- The tree that the lines of a policy file spell.
use Rattle.std.specs.Prelude.{ℕ, List, [], ◌∷◌, ◌++◌, length, Some, None, Option, slice_index_or}
use Rattle.values.specs.declared.value.Value.TheVariants.{Error as error, Bool as boolean, Number as number, Text as text}
use Rattle.policy.specs.declared.line.Effect.TheVariants as effect
use Rattle.policy.specs.declared.line.Line.{Line}
use Rattle.policy.specs.declared.line.Line.TheVariants as l
use Rattle.trees.specs.Expressions.{Expression, constant, attribute, negation, binary}
use Rattle.trees.specs.Duties.{Duties, none, then}
use Rattle.trees.specs.Policies.{Policy, rule, set, Items, one, more}

-- what a line stands for, with all that it names
pub data Part : Type 0 where
  expression : Expression → Part
  duties : Duties → Part
  items : Items → Part
  policy : Policy → Part

-- each family's part; in an accepted file no line has a part of another family in its place

abbrev pub no_expression : Expression
no_expression = constant error

abbrev pub no_policy : Policy
no_policy = rule effect.Deny no_expression none

abbrev pub no_part : Part
no_part = expression no_expression

abbrev pub as_expression : Part → Expression
as_expression (expression e) = e
as_expression (duties ds) = no_expression
as_expression (items is) = no_expression
as_expression (policy p) = no_expression

abbrev pub as_duties : Part → Duties
as_duties (expression e) = none
as_duties (duties ds) = ds
as_duties (items is) = none
as_duties (policy p) = none

abbrev pub as_items : Part → Items
as_items (expression e) = one no_policy
as_items (duties ds) = one no_policy
as_items (items is) = is
as_items (policy p) = one no_policy

abbrev pub as_policy : Part → Policy
as_policy (expression e) = no_policy
as_policy (duties ds) = no_policy
as_policy (items is) = no_policy
as_policy (policy p) = p

-- the part of a line among the parts ps of all lines
abbrev pub part_at : List Part → ℕ → Part
part_at ps n = slice_index_or ps n no_part

abbrev pub duties_at : List Part → Option ℕ → Duties
duties_at ps None = none
duties_at ps (Some n) = as_duties (part_at ps n)

abbrev pub items_with : List Part → Option ℕ → Policy → Items
items_with ps None p = one p
items_with ps (Some n) p = more (as_items (part_at ps n)) p

-- the part of line n, which names only lines with parts in ps; `leaf` is what stands for an attribute
abbrev pub part_for : (ℕ → List ℕ → Expression) → ℕ → List Part → Line → Part
part_for leaf n ps (l.Truth b) = expression (constant (boolean b))
part_for leaf n ps (l.Attribute x) = expression (leaf n x)
part_for leaf n ps (l.Number z) = expression (constant (number z))
part_for leaf n ps (l.Text x) = expression (constant (text x))
part_for leaf n ps (l.Not j) = expression (negation (as_expression (part_at ps j)))
part_for leaf n ps (l.Binary o j k) = expression (binary o (as_expression (part_at ps j)) (as_expression (part_at ps k)))
part_for leaf n ps (l.Duty f a e d) = duties (then (duties_at ps d) f a (as_expression (part_at ps e)))
part_for leaf n ps (l.Item p i) = items (items_with ps i (as_policy (part_at ps p)))
part_for leaf n ps (l.Rule e t d) = policy (rule e (as_expression (part_at ps t)) (duties_at ps d))
part_for leaf n ps (l.Set c t i p d) = policy (set c (as_expression (part_at ps t)) (as_items (part_at ps i)) (duties_at ps p) (duties_at ps d))

abbrev pub parts_after : (ℕ → List ℕ → Expression) → List Part → List Line → List Part
parts_after leaf ps [] = ps
parts_after leaf ps (x ∷ ls) = parts_after leaf (ps ++ part_for leaf (length ps) ps x ∷ []) ls

-- the parts of all lines, by line number; line 0 has none
unfoldable pub parts_of : (ℕ → List ℕ → Expression) → List Line → List Part
parts_of leaf ls = parts_after leaf (no_part ∷ []) ls

-- an attribute stands for itself
abbrev pub named : ℕ → List ℕ → Expression
named n x = attribute x

-- the policy that the lines spell: the last one's
abbrev pub policy_of : List Line → Policy
policy_of ls = as_policy (part_at (parts_of named ls) (length ls))
