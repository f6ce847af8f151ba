-- The spelling of names and texts.
use Rattle.std.specs.Prelude.{ℕ, Bool, true, false, cond, not, ◌&&◌, ◌||◌, List, [], ◌∷◌, None, codes, Option, ◌==◌, nat_le}
use Rattle.std.specs.List.{list_all}
use Rattle.std.specs.Str.{bytes_eq}
use Rattle.values.specs.Short.{Name, Text, name_for, text_for}
use Rattle.spelling.specs.Numbers.{is_digit}

abbrev pub is_letter : ℕ → Bool
is_letter b = nat_le 97 b && nat_le b 122

-- a letter, a digit or `-`; where `slash` is set also `/`
abbrev pub is_word_byte : Bool → ℕ → Bool
is_word_byte slash b = is_letter b || (is_digit b || (b == 45 || (slash && b == 47)))

abbrev pub all_word_bytes : Bool → List ℕ → Bool
all_word_bytes slash bs = list_all (is_word_byte slash) bs

-- a letter and then word bytes
abbrev pub is_word : Bool → List ℕ → Bool
is_word slash [] = false
is_word slash (b ∷ bs) = is_letter b && all_word_bytes slash bs

-- a name has at most 24 bytes
abbrev pub name_of : List ℕ → Option Name
name_of xs = cond (is_word true xs) (name_for xs) None

-- the words of the two booleans are no texts
abbrev pub is_text : List ℕ → Bool
is_text xs = is_word false xs && (not (bytes_eq xs (codes "true")) && not (bytes_eq xs (codes "false")))

-- a text has at most 16 bytes
abbrev pub text_of : List ℕ → Option Text
text_of xs = cond (is_text xs) (text_for xs) None
