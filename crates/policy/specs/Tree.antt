-- What holds of the lines of every accepted file.
use Rattle.std.specs.Prelude.{◌≡◌, ℕ, ◌+◌, ◌<◌, ◌≤◌, Bool, true, cond, ◌&&◌, List, [], ◌∷◌, length, ◌==◌, nat_lt}
use Rattle.policy.specs.declared.line.Line.{Line}
use Rattle.policy.specs.declared.line.Family.TheVariants.{Policy}
use Rattle.policy.specs.Lines.{family_of, same_family, line_at, Reference, references}

-- a line above line n, of the family that its place asks for
abbrev pub is_sound : List Line → ℕ → Reference → Bool
is_sound ls n r = nat_lt 0 r.line && (nat_lt r.line n && same_family (family_of (line_at ls r.line)) r.family)

abbrev pub all_sound : List Line → ℕ → List Reference → Bool
all_sound ls n [] = true
all_sound ls n (r ∷ rs) = is_sound ls n r && all_sound ls n rs

-- how often line k is among the references
abbrev pub times : ℕ → List Reference → ℕ
times k [] = 0
times k (r ∷ rs) = cond (r.line == k) 1 0 + times k rs

-- how often line k is named
abbrev pub namings : ℕ → List Line → ℕ
namings k [] = 0
namings k (l ∷ ls) = times k (references l) + namings k ls

-- each line names only lines above it, in places of their family
abbrev pub Above : List Line → Type 0
Above ls = (n : ℕ) → 0 < n → n ≤ length ls → all_sound ls n (references (line_at ls n)) ≡ true

-- one field names each line above the last, and no second one does
abbrev pub Once : List Line → Type 0
Once ls = (k : ℕ) → 0 < k → k < length ls → namings k ls ≡ 1

abbrev pub last_is_policy : List Line → Bool
last_is_policy ls = same_family (family_of (line_at ls (length ls))) Policy

-- 1 to 256 such lines, the last a policy
pub record Tree (ls : List Line) : Type 0 where
  pub some : 0 < length ls
  pub few : length ls ≤ 256
  pub above : Above ls
  pub once : Once ls
  pub last : last_is_policy ls ≡ true
