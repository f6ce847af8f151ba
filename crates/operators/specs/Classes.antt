-- What an operator asks of a value.
use Rattle.std.specs.Prelude.{ℕ, Bool, true, false, not, List, ℤ}
use Rattle.values.specs.declared.value.Value.{Value}
use Rattle.values.specs.declared.value.Value.TheVariants.{Missing as missing, Error as error, Bool as boolean, Number as number, Text as text, Numbers as numbers, Texts as texts}

abbrev pub is_missing : Value → Bool
is_missing missing = true
is_missing error = false
is_missing (boolean b) = false
is_missing (number z) = false
is_missing (text t) = false
is_missing (numbers zs) = false
is_missing (texts ts) = false

abbrev pub is_error : Value → Bool
is_error missing = false
is_error error = true
is_error (boolean b) = false
is_error (number z) = false
is_error (text t) = false
is_error (numbers zs) = false
is_error (texts ts) = false

abbrev pub is_true : Value → Bool
is_true missing = false
is_true error = false
is_true (boolean b) = b
is_true (number z) = false
is_true (text t) = false
is_true (numbers zs) = false
is_true (texts ts) = false

abbrev pub is_false : Value → Bool
is_false missing = false
is_false error = false
is_false (boolean b) = not b
is_false (number z) = false
is_false (text t) = false
is_false (numbers zs) = false
is_false (texts ts) = false

-- what is made of booleans, numbers, texts and sets of these; error of any other value

abbrev pub on_boolean : Value → (Bool → Value) → Value
on_boolean missing f = error
on_boolean error f = error
on_boolean (boolean b) f = f b
on_boolean (number z) f = error
on_boolean (text t) f = error
on_boolean (numbers zs) f = error
on_boolean (texts ts) f = error

abbrev pub on_number : Value → (ℤ → Value) → Value
on_number missing f = error
on_number error f = error
on_number (boolean b) f = error
on_number (number z) f = f z
on_number (text t) f = error
on_number (numbers zs) f = error
on_number (texts ts) f = error

abbrev pub on_text : Value → (List ℕ → Value) → Value
on_text missing f = error
on_text error f = error
on_text (boolean b) f = error
on_text (number z) f = error
on_text (text t) f = f t
on_text (numbers zs) f = error
on_text (texts ts) f = error

abbrev pub on_numbers : Value → (List ℤ → Value) → Value
on_numbers missing f = error
on_numbers error f = error
on_numbers (boolean b) f = error
on_numbers (number z) f = error
on_numbers (text t) f = error
on_numbers (numbers zs) f = f zs
on_numbers (texts ts) f = error

abbrev pub on_texts : Value → (List (List ℕ) → Value) → Value
on_texts missing f = error
on_texts error f = error
on_texts (boolean b) f = error
on_texts (number z) f = error
on_texts (text t) f = error
on_texts (numbers zs) f = error
on_texts (texts ts) f = f ts
