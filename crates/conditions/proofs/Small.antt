-- That whatever an operator gives is no text and no set.
use Rattle.std.proofs.Common.{◌≡◌, ℕ, Bool, true, false, List, ℤ, refl}
use Rattle.std.specs.Prelude.{cond, ◌||◌, ◌&&◌, int_lt, int_div, ◌+ℤ◌, ◌-ℤ◌, ◌*ℤ◌, pos}
use Rattle.values.specs.declared.value.Value.{Value}
use Rattle.values.specs.declared.value.Value.TheVariants.{Missing as missing, Error as error, Bool as boolean, Number as number, Text as text, Numbers as numbers, Texts as texts}
use Rattle.policy.specs.declared.line.Operator.{Operator}
use Rattle.policy.specs.declared.line.Operator.TheVariants as o
use Rattle.operators.specs.Classes.{is_missing, is_error, is_true, is_false, on_boolean, on_number, on_text, on_numbers, on_texts}
use Rattle.operators.specs.Operators.{not_of, strict, same_number, compared, member, in_range}
use Rattle.trees.specs.Expressions.{applied}
use Rattle.operators.specs.Operands.{given}
use Rattle.conditions.specs.Results.{narrow}

-- nothing is lost of the value
abbrev pub Small : Value → Type 0
Small v = given (narrow v) ≡ v

cond_small : (b : Bool) (v w : Value) → Small v → Small w → Small (cond b v w)
cond_small true v w h k = h
cond_small false v w h k = k

boolean_small : (a : Value) (f : Bool → Value) → ((x : Bool) → Small (f x)) → Small (on_boolean a f)
boolean_small missing f h = refl
boolean_small error f h = refl
boolean_small (boolean x) f h = h x
boolean_small (number x) f h = refl
boolean_small (text x) f h = refl
boolean_small (numbers x) f h = refl
boolean_small (texts x) f h = refl

number_small : (a : Value) (f : ℤ → Value) → ((x : ℤ) → Small (f x)) → Small (on_number a f)
number_small missing f h = refl
number_small error f h = refl
number_small (boolean x) f h = refl
number_small (number x) f h = h x
number_small (text x) f h = refl
number_small (numbers x) f h = refl
number_small (texts x) f h = refl

text_small : (a : Value) (f : List ℕ → Value) → ((x : List ℕ) → Small (f x)) → Small (on_text a f)
text_small missing f h = refl
text_small error f h = refl
text_small (boolean x) f h = refl
text_small (number x) f h = refl
text_small (text x) f h = h x
text_small (numbers x) f h = refl
text_small (texts x) f h = refl

numbers_small : (a : Value) (f : List ℤ → Value) → ((x : List ℤ) → Small (f x)) → Small (on_numbers a f)
numbers_small missing f h = refl
numbers_small error f h = refl
numbers_small (boolean x) f h = refl
numbers_small (number x) f h = refl
numbers_small (text x) f h = refl
numbers_small (numbers x) f h = h x
numbers_small (texts x) f h = refl

texts_small : (a : Value) (f : List (List ℕ) → Value) → ((x : List (List ℕ)) → Small (f x)) → Small (on_texts a f)
texts_small missing f h = refl
texts_small error f h = refl
texts_small (boolean x) f h = refl
texts_small (number x) f h = refl
texts_small (text x) f h = refl
texts_small (numbers x) f h = refl
texts_small (texts x) f h = h x

strict_small : (a b v : Value) → Small v → Small (strict a b v)
strict_small a b v h = cond_small (is_error a || is_error b) error _ refl (cond_small (is_missing a || is_missing b) missing v refl h)

compared_small : (a b : Value) → Small (compared a b)
compared_small missing b = refl
compared_small error b = refl
compared_small (boolean x) b = boolean_small b _ (λ y. refl)
compared_small (number x) b = number_small b _ (λ y. refl)
compared_small (text x) b = text_small b _ (λ y. refl)
compared_small (numbers x) b = refl
compared_small (texts x) b = refl

member_small : (a b : Value) → Small (member a b)
member_small missing b = refl
member_small error b = refl
member_small (boolean x) b = refl
member_small (number x) b = numbers_small b _ (λ y. refl)
member_small (text x) b = texts_small b _ (λ y. refl)
member_small (numbers x) b = refl
member_small (texts x) b = refl

both_small : (a b : Value) (f : ℤ → ℤ → Value) → ((x y : ℤ) → Small (f x y)) → Small (strict a b (on_number a (λ x. on_number b (λ y. f x y))))
both_small a b f h = strict_small a b _ (number_small a _ (λ x. number_small b _ (λ y. h x y)))

ranged_small : (z : ℤ) → Small (cond (in_range z) (number z) error)
ranged_small z = cond_small (in_range z) (number z) error refl refl

pub not_small : (a : Value) → Small (not_of a)
not_small a = cond_small (is_missing a) missing _ refl (boolean_small a _ (λ x. refl))

pub applied_small : (op : Operator) (a b : Value) → Small (applied op a b)
unfolding applied
applied_small o.And a b =
    cond_small (is_false a || is_false b) (boolean false) _ refl (cond_small (is_true a && is_true b) (boolean true) _ refl (cond_small ((is_true a || is_missing a) && (is_true b || is_missing b)) missing error refl refl))
applied_small o.Or a b =
    cond_small (is_true a || is_true b) (boolean true) _ refl (cond_small (is_false a && is_false b) (boolean false) _ refl (cond_small ((is_false a || is_missing a) && (is_false b || is_missing b)) missing error refl refl))
applied_small o.Equal a b = strict_small a b (compared a b) (compared_small a b)
applied_small o.In a b = strict_small a b (member a b) (member_small a b)
applied_small o.Greater a b = both_small a b (λ x y. boolean (int_lt y x)) (λ x y. refl)
applied_small o.Add a b = both_small a b _ (λ x y. ranged_small (x +ℤ y))
applied_small o.Sub a b = both_small a b _ (λ x y. ranged_small (x -ℤ y))
applied_small o.Mul a b = both_small a b _ (λ x y. ranged_small (x *ℤ y))
applied_small o.Div a b = both_small a b _ (λ x y. cond_small (same_number y (pos 0)) error _ refl (ranged_small (int_div x y)))
