-- The algorithm of the set that each item belongs to.
use Rattle.std.specs.Prelude.{◌≡◌, ℕ, ◌<◌, ◌≤◌, List, Some, None, length, slice_index_or}
use Rattle.spelling.specs.declared.algorithm.Algorithm.{Algorithm}
use Rattle.spelling.specs.declared.algorithm.Algorithm.TheVariants.{PermitOverrides}
use Rattle.policy.specs.declared.line.Line.{Line}
use Rattle.policy.specs.declared.line.Line.TheVariants as l
use Rattle.policy.specs.Lines.{line_at}

-- the item that line n names, which is x: the earlier one of a chain, or the last of a set; n itself where it names none
abbrev pub item_named : ℕ → Line → ℕ
item_named n (l.Truth b) = n
item_named n (l.Attribute x) = n
item_named n (l.Number z) = n
item_named n (l.Text x) = n
item_named n (l.Not j) = n
item_named n (l.Binary o j k) = n
item_named n (l.Duty f a e d) = n
item_named n (l.Item p None) = n
item_named n (l.Item p (Some k)) = k
item_named n (l.Rule e t d) = n
item_named n (l.Set c t i p d) = i

-- the algorithm that a line gives to the item that it names: a set its own, and an item that of its set
abbrev pub given_by : Algorithm → Line → Algorithm
given_by a (l.Truth b) = a
given_by a (l.Attribute x) = a
given_by a (l.Number z) = a
given_by a (l.Text x) = a
given_by a (l.Not j) = a
given_by a (l.Binary o j k) = a
given_by a (l.Duty f b e d) = a
given_by a (l.Item p i) = a
given_by a (l.Rule e t d) = a
given_by a (l.Set c t i p d) = c.algorithm

abbrev pub algorithm_at : List Algorithm → ℕ → Algorithm
algorithm_at hs n = slice_index_or hs n PermitOverrides

-- line n has given its algorithm on
abbrev pub Given : List Algorithm → List Line → ℕ → Type 0
Given hs ls n = algorithm_at hs (item_named n (line_at ls n)) ≡ given_by (algorithm_at hs n) (line_at ls n)

-- every line has
abbrev pub Handed : List Algorithm → List Line → Type 0
Handed hs ls = (n : ℕ) → 0 < n → n ≤ length ls → Given hs ls n
