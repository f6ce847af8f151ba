-- The operators on values.
use Rattle.std.specs.Prelude.{Bool, true, false, cond, not, ◌&&◌, ◌||◌, List, [], ◌∷◌, ℤ, pos, negsuc, ◌+ℤ◌, ◌-ℤ◌, ◌*ℤ◌, ◌==◌, int_div, int_le, int_lt}
use Rattle.std.specs.Str.{bytes_eq}
use Rattle.values.specs.declared.value.Value.{Value}
use Rattle.values.specs.declared.value.Value.TheVariants.{Missing as missing, Error as error, Bool as boolean, Number as number, Text as text, Numbers as numbers, Texts as texts}
use Rattle.operators.specs.Classes.{is_missing, is_error, is_true, is_false, on_boolean, on_number, on_text, on_numbers, on_texts}

-- one false side decides; two true ones give true; missing beside true or missing gives missing; the rest is error
abbrev pub and_of : Value → Value → Value
and_of a b =
    cond (is_false a || is_false b) (boolean false)
    (cond (is_true a && is_true b) (boolean true)
    (cond ((is_true a || is_missing a) && (is_true b || is_missing b)) missing error))

-- as `and_of`, with the two booleans in each other's place
abbrev pub or_of : Value → Value → Value
or_of a b =
    cond (is_true a || is_true b) (boolean true)
    (cond (is_false a && is_false b) (boolean false)
    (cond ((is_false a || is_missing a) && (is_false b || is_missing b)) missing error))

-- missing stays missing, and what is no boolean is an error
abbrev pub not_of : Value → Value
not_of a = cond (is_missing a) missing (on_boolean a (λ b. boolean (not b)))

-- an error on one side goes before missing on the other, and both before v
abbrev pub strict : Value → Value → Value → Value
strict a b v = cond (is_error a || is_error b) error (cond (is_missing a || is_missing b) missing v)

abbrev pub same_boolean : Bool → Bool → Bool
same_boolean true y = y
same_boolean false y = not y

abbrev pub same_number : ℤ → ℤ → Bool
same_number (pos x) (pos y) = x == y
same_number (pos x) (negsuc y) = false
same_number (negsuc x) (pos y) = false
same_number (negsuc x) (negsuc y) = x == y

-- booleans, numbers and texts, each with its like; no other pair can be compared
abbrev pub compared : Value → Value → Value
compared missing b = error
compared error b = error
compared (boolean x) b = on_boolean b (λ y. boolean (same_boolean x y))
compared (number x) b = on_number b (λ y. boolean (same_number x y))
compared (text x) b = on_text b (λ y. boolean (bytes_eq x y))
compared (numbers xs) b = error
compared (texts xs) b = error

abbrev pub equal_of : Value → Value → Value
equal_of a b = strict a b (compared a b)

abbrev pub among : {A : Type 0} → (A → A → Bool) → A → List A → Bool
among same x [] = false
among same x (y ∷ ys) = same x y || among same x ys

-- a number in a set of numbers, or a text in a set of texts; no other pair is allowed
abbrev pub member : Value → Value → Value
member missing b = error
member error b = error
member (boolean x) b = error
member (number x) b = on_numbers b (λ ys. boolean (among same_number x ys))
member (text x) b = on_texts b (λ ys. boolean (among bytes_eq x ys))
member (numbers xs) b = error
member (texts xs) b = error

abbrev pub in_of : Value → Value → Value
in_of a b = strict a b (member a b)

-- what is made of two numbers; error of any other pair
abbrev pub on_two_numbers : Value → Value → (ℤ → ℤ → Value) → Value
on_two_numbers a b f = strict a b (on_number a (λ x. on_number b (λ y. f x y)))

abbrev pub greater_of : Value → Value → Value
greater_of a b = on_two_numbers a b (λ x y. boolean (int_lt y x))

-- from -2,147,483,648 to 2,147,483,647
abbrev pub in_range : ℤ → Bool
in_range z = int_le (negsuc 2147483647) z && int_le z (pos 2147483647)

-- a result outside the range is an error
abbrev pub ranged : ℤ → Value
ranged z = cond (in_range z) (number z) error

abbrev pub add_of : Value → Value → Value
add_of a b = on_two_numbers a b (λ x y. ranged (x +ℤ y))

abbrev pub sub_of : Value → Value → Value
sub_of a b = on_two_numbers a b (λ x y. ranged (x -ℤ y))

abbrev pub mul_of : Value → Value → Value
mul_of a b = on_two_numbers a b (λ x y. ranged (x *ℤ y))

-- the quotient without its fraction, so towards zero; a zero divisor is an error
abbrev pub div_of : Value → Value → Value
div_of a b = on_two_numbers a b (λ x y. cond (same_number y (pos 0)) error (ranged (int_div x y)))
