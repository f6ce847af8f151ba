-- The check of a policy file: its lines, or the first fault with its place.
-- Throughout, xs are bytes, f the six fields of a line, ls the lines above it and ms their marks.
use Rattle.std.specs.Prelude.{ℕ, zero, suc, ◌+◌, ◌-◌, Bool, true, false, cond, ◌&&◌, List, [], ◌∷◌, ◌++◌, length, take, drop, replicate, ℤ, pos, negsuc, Some, None, Ok, Err, codes, Option, Result, ◌==◌, nat_le, slice_index_or, slice_set}
use Rattle.std.specs.Borrow.{Bor}
use Rattle.std.specs.Str.{bytes_eq}
use Rattle.values.specs.Options.{bind}
use Rattle.spelling.specs.Algorithms.{combining_of}
use Rattle.spelling.specs.Cuts.{Six, cut_of, parts, six_of}
use Rattle.spelling.specs.Numbers.{number_of, line_number_of, action_of}
use Rattle.spelling.specs.Words.{name_of, text_of}
use Rattle.refusals.specs.Results.{bind_r, or_refuse}
use Rattle.refusals.specs.Places.{at_field, at_line}
use Rattle.refusals.specs.declared.cause.Cause.{Cause}
use Rattle.refusals.specs.declared.cause.Cause.TheVariants as why
use Rattle.refusals.specs.declared.place.LineFault.{LineFault}
use Rattle.refusals.specs.declared.place.Rejection.{Rejection}
use Rattle.policy.specs.declared.kind.Kind.{Kind}
use Rattle.policy.specs.declared.kind.Kind.TheVariants as k
use Rattle.policy.specs.declared.line.Operator.{Operator}
use Rattle.policy.specs.declared.line.Force.{Force}
use Rattle.policy.specs.declared.line.Effect.{Effect}
use Rattle.policy.specs.declared.line.Line.{Line}
use Rattle.policy.specs.declared.line.Line.TheVariants as l
use Rattle.policy.specs.declared.line.Family.{Family}
use Rattle.policy.specs.declared.line.Family.TheVariants.{Expression, Duty, Item, Policy}
use Rattle.policy.specs.Kinds.{kind_of}
use Rattle.policy.specs.Lines.{family_of, same_family, line_at}

-- for each line number, whether a line has named it
abbrev pub Marks : Type 0
Marks = List Bool

unfoldable pub no_marks : Marks
no_marks = replicate 257 false

-- a value with the marks that it leaves
abbrev pub marking : {A E : Type 0} → Result A E → Marks → Result (A × Marks) E
marking (Ok x) ms = Ok (x, ms)
marking (Err e) ms = Err e

-- a line number from 1 to n
abbrev pub above : ℕ → ℤ → Option ℕ
above n (pos k) = cond (nat_le 1 k && nat_le k n) (Some k) None
above n (negsuc k) = None

-- a field that names a line: its spelling, then that the line stands above and has the family, then that it is not yet named
abbrev pub refer_of : Family → List Line → Marks → List ℕ → Result (ℕ × Marks) Cause
refer_of want ls ms xs =
    bind_r (or_refuse (line_number_of xs) why.Misspelt) (λ z.
    bind_r (or_refuse (above (length ls) z) why.NotAbove) (λ n.
    cond (same_family (family_of (line_at ls n)) want)
    (cond (slice_index_or ms n false) (Err why.NamedTwice) (Ok (n, slice_set ms n true)))
    (Err why.WrongFamily)))

abbrev pub some : Result (ℕ × Marks) Cause → Result (Option ℕ × Marks) Cause
some (Ok p) = Ok (Some p.0, p.1)
some (Err e) = Err e

-- a field that may be `-`
abbrev pub may_refer_of : Family → List Line → Marks → List ℕ → Result (Option ℕ × Marks) Cause
may_refer_of want ls ms xs = cond (bytes_eq xs (codes "-")) (Ok (None, ms)) (some (refer_of want ls ms xs))

-- an unused field
abbrev pub unused_of : List ℕ → Result (Unit {0}) Cause
unused_of xs = cond (bytes_eq xs (codes "-")) (Ok tt) (Err why.Misspelt)

abbrev pub last_two : Six → Result (Unit {0}) LineFault
last_two f = bind_r (at_field 5 (unused_of f.d)) (λ _. at_field 6 (unused_of f.e))

abbrev pub last_three : Six → Result (Unit {0}) LineFault
last_three f = bind_r (at_field 4 (unused_of f.c)) (λ _. last_two f)

abbrev pub last_four : Six → Result (Unit {0}) LineFault
last_four f = bind_r (at_field 3 (unused_of f.b)) (λ _. last_three f)

-- a line of each kind, its fields from the left

-- a line that names no other, of what its one field spells
abbrev pub leaf_of : {A : Type 0} → Option A → (A → Line) → Six → Result Line LineFault
leaf_of spelled line f = bind_r (at_field 2 (or_refuse spelled why.Misspelt)) (λ x. bind_r (last_four f) (λ _. Ok (line x)))

abbrev pub truth_of : Bool → Six → Result Line LineFault
truth_of b f = bind_r (at_field 2 (unused_of f.a)) (λ _. bind_r (last_four f) (λ _. Ok (l.Truth b)))

abbrev pub attribute_of : Six → Result Line LineFault
attribute_of f = leaf_of (name_of f.a) l.Attribute f

abbrev pub number_line_of : Six → Result Line LineFault
number_line_of f = leaf_of (number_of f.a) l.Number f

abbrev pub text_line_of : Six → Result Line LineFault
text_line_of f = leaf_of (text_of f.a) l.Text f

abbrev pub not_of : List Line → Marks → Six → Result (Line × Marks) LineFault
not_of ls ms f =
    bind_r (at_field 2 (refer_of Expression ls ms f.a)) (λ a.
    bind_r (last_four f) (λ _.
    Ok (l.Not a.0, a.1)))

abbrev pub binary_of : Operator → List Line → Marks → Six → Result (Line × Marks) LineFault
binary_of o ls ms f =
    bind_r (at_field 2 (refer_of Expression ls ms f.a)) (λ a.
    bind_r (at_field 3 (refer_of Expression ls a.1 f.b)) (λ b.
    bind_r (last_three f) (λ _.
    Ok (l.Binary o a.0 b.0, b.1))))

abbrev pub duty_of : Force → List Line → Marks → Six → Result (Line × Marks) LineFault
duty_of force ls ms f =
    bind_r (at_field 2 (or_refuse (action_of f.a) why.Misspelt)) (λ a.
    bind_r (at_field 3 (refer_of Expression ls ms f.b)) (λ b.
    bind_r (at_field 4 (may_refer_of Duty ls b.1 f.c)) (λ c.
    bind_r (last_two f) (λ _.
    Ok (l.Duty force a b.0 c.0, c.1)))))

abbrev pub item_of : List Line → Marks → Six → Result (Line × Marks) LineFault
item_of ls ms f =
    bind_r (at_field 2 (refer_of Policy ls ms f.a)) (λ a.
    bind_r (at_field 3 (may_refer_of Item ls a.1 f.b)) (λ b.
    bind_r (last_three f) (λ _.
    Ok (l.Item a.0 b.0, b.1))))

abbrev pub rule_of : Effect → List Line → Marks → Six → Result (Line × Marks) LineFault
rule_of effect ls ms f =
    bind_r (at_field 2 (refer_of Expression ls ms f.a)) (λ a.
    bind_r (at_field 3 (may_refer_of Duty ls a.1 f.b)) (λ b.
    bind_r (last_three f) (λ _.
    Ok (l.Rule effect a.0 b.0, b.1))))

abbrev pub set_of : List Line → Marks → Six → Result (Line × Marks) LineFault
set_of ls ms f =
    bind_r (at_field 2 (or_refuse (combining_of f.a) why.UnknownAlgorithm)) (λ a.
    bind_r (at_field 3 (refer_of Expression ls ms f.b)) (λ b.
    bind_r (at_field 4 (refer_of Item ls b.1 f.c)) (λ c.
    bind_r (at_field 5 (may_refer_of Duty ls c.1 f.d)) (λ d.
    bind_r (at_field 6 (may_refer_of Duty ls d.1 f.e)) (λ e.
    Ok (l.Set a b.0 c.0 d.0 e.0, e.1))))))

abbrev pub line_for : Kind → List Line → Marks → Six → Result (Line × Marks) LineFault
line_for (k.Truth b) ls ms f = marking (truth_of b f) ms
line_for k.Attribute ls ms f = marking (attribute_of f) ms
line_for k.Number ls ms f = marking (number_line_of f) ms
line_for k.Text ls ms f = marking (text_line_of f) ms
line_for k.Not ls ms f = not_of ls ms f
line_for (k.Binary o) ls ms f = binary_of o ls ms f
line_for (k.Duty force) ls ms f = duty_of force ls ms f
line_for k.Item ls ms f = item_of ls ms f
line_for (k.Rule effect) ls ms f = rule_of effect ls ms f
line_for k.Set ls ms f = set_of ls ms f

-- a line's kind and then its other fields
abbrev pub line_of : List Line → Marks → Six → Result (Line × Marks) LineFault
line_of ls ms f = bind_r (at_field 1 (or_refuse (kind_of f.kind) why.UnknownKind)) (λ kind. line_for kind ls ms f)

-- the first line of xs and what follows it
abbrev pub step_of : List Line → Marks → List ℕ → Result (Line × Marks × List ℕ) LineFault
step_of ls ms xs =
    bind_r (at_field 0 (or_refuse (cut_of 10 xs) why.Shape)) (λ p.
    bind_r (at_field 0 (or_refuse (six_of (parts 32 p.0)) why.Shape)) (λ f.
    bind_r (line_of ls ms f) (λ s. Ok (s.0, s.1, p.1))))

abbrev pub stepped : Result (Line × Bor (List ℕ)) Rejection → Marks → Result (Line × Marks × List ℕ) Rejection
stepped (Ok p) ms = Ok (p.0, ms, p.1.now)
stepped (Err e) ms = Err e

-- the first line number from n on whose mark is not set
abbrev pub unmarked_from : ℕ → Marks → Option ℕ
unmarked_from n [] = None
unmarked_from n (m ∷ ms) = cond m (unmarked_from (n + 1) ms) (Some n)

abbrev pub rejected : {A : Type 0} → Cause → ℕ → Result A Rejection
rejected cause n = Err (record { cause = cause; line = n; field = 0 })

abbrev pub all_named : Option ℕ → Result (Unit {0}) Rejection
all_named None = Ok tt
all_named (Some n) = rejected why.NeverNamed n

-- what is left to check once every line is read: that there is one, that all but the last are named, that the last is a policy
abbrev pub end_of : List Line → Marks → Result (Unit {0}) Rejection
end_of ls ms =
    cond (length ls == 0) (rejected why.LineCount 1)
    (bind_r (all_named (unmarked_from 1 (take (length ls - 1) (drop 1 ms)))) (λ _.
    cond (same_family (family_of (line_at ls (length ls))) Policy) (Ok tt) (rejected why.LastNotPolicy (length ls))))

-- the lines ls and those of xs, of which there may be `left` more
abbrev pub body_of : ℕ → List Line → Marks → List ℕ → Result (List Line) Rejection
body_of left ls ms [] = bind_r (end_of ls ms) (λ _. Ok ls)
body_of zero ls ms (x ∷ xs) = rejected why.LineCount (length ls + 1)
body_of (suc left) ls ms (x ∷ xs) = bind_r (at_line (length ls + 1) (step_of ls ms (x ∷ xs))) (λ s. body_of left (ls ++ s.0 ∷ []) s.1 s.2)

-- what follows line 0
abbrev pub header_of : List ℕ → Option (List ℕ)
header_of xs = bind (cut_of 10 xs) (λ p. cond (bytes_eq p.0 (codes "kind a b c d e")) (Some p.1) None)

abbrev pub after_header : Option (List ℕ) → Result (List Line) Rejection
after_header None = rejected why.Header 0
after_header (Some xs) = body_of 256 [] no_marks xs

-- the lines of a policy file, or why and where it is refused
abbrev pub check_of : List ℕ → Result (List Line) Rejection
check_of xs = after_header (header_of xs)
