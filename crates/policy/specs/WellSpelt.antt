-- Which files a policy's lines have.
use Rattle.std.specs.Prelude.{◌≡◌, ℕ, ◌<◌, ◌≤◌, List, length, Some, decimal}
use Rattle.std.specs.Fmt.{signed_decimal}
use Rattle.spelling.specs.Numbers.{number_of, action_of}
use Rattle.spelling.specs.Words.{name_of, text_of}
use Rattle.policy.specs.declared.line.Line.{Line}
use Rattle.policy.specs.declared.line.Line.TheVariants as l
use Rattle.policy.specs.Lines.{line_at}
use Rattle.policy.specs.Spelt.{spelt}
use Rattle.policy.specs.Tree.{Tree}

-- a name, number, text or action that is read as it is written
abbrev pub WellSpelt : Line → Type 0
WellSpelt (l.Truth b) = Unit {0}
WellSpelt (l.Attribute x) = name_of x ≡ Some x
WellSpelt (l.Number z) = number_of (signed_decimal z) ≡ Some z
WellSpelt (l.Text x) = text_of x ≡ Some x
WellSpelt (l.Not j) = Unit {0}
WellSpelt (l.Binary o j k) = Unit {0}
WellSpelt (l.Duty f a e d) = action_of (decimal a) ≡ Some a
WellSpelt (l.Item p i) = Unit {0}
WellSpelt (l.Rule e t d) = Unit {0}
WellSpelt (l.Set c t i p d) = Unit {0}

abbrev pub AllWellSpelt : List Line → Type 0
AllWellSpelt ls = (n : ℕ) → 0 < n → n ≤ length ls → WellSpelt (line_at ls n)

-- the file is the spelling of these lines, which are a tree and can be spelled
pub record Spells (bytes : List ℕ) (ls : List Line) : Type 0 where
  pub file : spelt ls ≡ bytes
  pub tree : Tree ls
  pub fields : AllWellSpelt ls
