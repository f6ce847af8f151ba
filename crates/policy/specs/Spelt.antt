-- How a policy is spelled: each has one file.
use Rattle.std.specs.Prelude.{ℕ, Bool, true, false, List, [], ◌∷◌, ◌++◌, Some, None, codes, decimal, Option}
use Rattle.std.specs.Fmt.{signed_decimal}
use Rattle.spelling.specs.Algorithms.{combining_word}
use Rattle.spelling.specs.Cuts.{Six}
use Rattle.policy.specs.declared.line.Line.{Line}
use Rattle.policy.specs.declared.line.Line.TheVariants as l
use Rattle.policy.specs.declared.line.Operator.{Operator}
use Rattle.policy.specs.declared.line.Operator.TheVariants as o
use Rattle.policy.specs.declared.line.Force.{Force}
use Rattle.policy.specs.declared.line.Force.TheVariants.{Must, May}
use Rattle.policy.specs.declared.line.Effect.{Effect}
use Rattle.policy.specs.declared.line.Effect.TheVariants.{Permit, Deny}

abbrev pub truth_word : Bool → List ℕ
truth_word true = codes "true"
truth_word false = codes "false"

abbrev pub operator_word : Operator → List ℕ
operator_word o.And = codes "and"
operator_word o.Or = codes "or"
operator_word o.Equal = codes "equal"
operator_word o.In = codes "in"
operator_word o.Greater = codes "greater"
operator_word o.Add = codes "add"
operator_word o.Sub = codes "sub"
operator_word o.Mul = codes "mul"
operator_word o.Div = codes "div"

abbrev pub force_word : Force → List ℕ
force_word Must = codes "must"
force_word May = codes "may"

abbrev pub effect_word : Effect → List ℕ
effect_word Permit = codes "permit"
effect_word Deny = codes "deny"

abbrev pub optional : Option ℕ → List ℕ
optional None = codes "-"
optional (Some k) = decimal k

abbrev pub six : List ℕ → List ℕ → List ℕ → List ℕ → List ℕ → List ℕ → Six
six kind a b c d e = record { kind = kind; a = a; b = b; c = c; d = d; e = e }

-- the six fields of a line
abbrev pub fields_for : Line → Six
fields_for (l.Truth b) = six (truth_word b) (codes "-") (codes "-") (codes "-") (codes "-") (codes "-")
fields_for (l.Attribute x) = six (codes "attr") x (codes "-") (codes "-") (codes "-") (codes "-")
fields_for (l.Number z) = six (codes "num") (signed_decimal z) (codes "-") (codes "-") (codes "-") (codes "-")
fields_for (l.Text x) = six (codes "text") x (codes "-") (codes "-") (codes "-") (codes "-")
fields_for (l.Not j) = six (codes "not") (decimal j) (codes "-") (codes "-") (codes "-") (codes "-")
fields_for (l.Binary op j k) = six (operator_word op) (decimal j) (decimal k) (codes "-") (codes "-") (codes "-")
fields_for (l.Duty f a e d) = six (force_word f) (decimal a) (decimal e) (optional d) (codes "-") (codes "-")
fields_for (l.Item p i) = six (codes "item") (decimal p) (optional i) (codes "-") (codes "-") (codes "-")
fields_for (l.Rule e t d) = six (effect_word e) (decimal t) (optional d) (codes "-") (codes "-") (codes "-")
fields_for (l.Set c t i p d) = six (codes "set") (combining_word c) (decimal t) (decimal i) (optional p) (optional d)

-- the fields with a space between
abbrev pub row : Six → List ℕ
row f = f.kind ++ 32 ∷ (f.a ++ 32 ∷ (f.b ++ 32 ∷ (f.c ++ 32 ∷ (f.d ++ 32 ∷ f.e))))

abbrev pub rows : List Line → List ℕ
rows [] = []
rows (l ∷ ls) = row (fields_for l) ++ 10 ∷ rows ls

-- the file of these lines
abbrev pub spelt : List Line → List ℕ
spelt ls = codes "kind a b c d e" ++ 10 ∷ rows ls
