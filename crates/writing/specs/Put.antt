-- Bytes put into given memory.
use Rattle.std.specs.Prelude.{◌≡◌, ℕ, ◌+◌, ◌≤◌, List, ◌++◌, length, take, drop}

-- s was put into d from `at` on, which left `after`; n is where it ends
pub record Puts (d : List ℕ) (at : ℕ) (s : List ℕ) (after : List ℕ) (n : ℕ) : Type 0 where
  pub next : n ≡ at + length s
  pub within : n ≤ length d
  pub len : length after ≡ length d
  pub bytes : after ≡ take at d ++ (s ++ drop n d)
