-- Bytes cut at a separator.
use Rattle.std.specs.Prelude.{ℕ, ◌+◌, cond, List, [], ◌∷◌, length, take, drop, Some, None, Option, ◌==◌}

-- how many bytes stand before the first b; all of them where there is none
abbrev pub reach : ℕ → List ℕ → ℕ
reach b [] = 0
reach b (x ∷ xs) = cond (x == b) 0 (reach b xs + 1)

-- what stands before the first b and after it
abbrev pub cut_of : ℕ → List ℕ → Option (List ℕ × List ℕ)
cut_of b xs = cond (reach b xs == length xs) None (Some (take (reach b xs) xs, drop (reach b xs + 1) xs))

-- x put before the first of the parts
abbrev pub onto : ℕ → List (List ℕ) → List (List ℕ)
onto x [] = (x ∷ []) ∷ []
onto x (p ∷ ps) = (x ∷ p) ∷ ps

-- the parts that the separators b leave, empty ones too: one more than there are separators
abbrev pub parts : ℕ → List ℕ → List (List ℕ)
parts b [] = [] ∷ []
parts b (x ∷ xs) = cond (x == b) ([] ∷ parts b xs) (onto x (parts b xs))

-- the six fields of a line of a policy file
pub record Six : Type 0 where
  pub kind : List ℕ
  pub a : List ℕ
  pub b : List ℕ
  pub c : List ℕ
  pub d : List ℕ
  pub e : List ℕ

-- six parts, neither fewer nor more
abbrev pub six_of : List (List ℕ) → Option Six
six_of [] = None
six_of (k ∷ []) = None
six_of (k ∷ a ∷ []) = None
six_of (k ∷ a ∷ b ∷ []) = None
six_of (k ∷ a ∷ b ∷ c ∷ []) = None
six_of (k ∷ a ∷ b ∷ c ∷ d ∷ []) = None
six_of (k ∷ a ∷ b ∷ c ∷ d ∷ e ∷ []) = Some (record { kind = k; a = a; b = b; c = c; d = d; e = e })
six_of (k ∷ a ∷ b ∷ c ∷ d ∷ e ∷ f ∷ fs) = None
