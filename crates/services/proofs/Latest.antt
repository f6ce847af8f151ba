-- The latest entry.
use Rattle.std.proofs.Common.{◌≡◌, ℕ, ◌+◌, ◌<◌, List, [], ◌∷◌, ◌++◌, length, take, slice_set, Some, None, Option, refl, ap, ◌∙◌}
use Rattle.std.specs.List.{last_or}
use Rattle.std.proofs.lemmas.List.{take_more_set}

last_or-snoc : {X : Type 0} (o : Option X) (xs : List X) (y : X) → last_or o (xs ++ y ∷ []) ≡ Some y
last_or-snoc o [] y = refl
last_or-snoc o (x ∷ xs) y = last_or-snoc (Some x) xs y

pub latest-appended : {X : Type 0} (xs : List X) (n : ℕ) (y : X) → n < length xs → last_or None (take (n + 1) (slice_set xs n y)) ≡ Some y
latest-appended xs n y within = ap (last_or None) (take_more_set xs n y within) ∙ last_or-snoc None (take n xs) y
