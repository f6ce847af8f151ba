-- The spelling of a cell of a readings file.
use Rattle.std.specs.Prelude.{ℕ, true, false, cond, List, [], ◌∷◌, length, Some, None, codes, Option, nat_le}
use Rattle.std.specs.Str.{bytes_eq}
use Rattle.values.specs.Options.{each, bind, or_else}
use Rattle.values.specs.declared.value.Value.{Value}
use Rattle.values.specs.declared.value.Value.TheVariants.{Missing as missing, Error as error, Bool as boolean, Number as number, Text as text, Numbers as numbers, Texts as texts}
use Rattle.spelling.specs.Cuts.{parts}
use Rattle.spelling.specs.Numbers.{number_of}
use Rattle.spelling.specs.Words.{text_of}

-- what each of the parts spells, where all of them spell something
abbrev pub read_all : {A : Type 0} → (List ℕ → Option A) → List (List ℕ) → Option (List A)
read_all f [] = Some []
read_all f (p ∷ ps) = bind (f p) (λ x. each (λ xs. x ∷ xs) (read_all f ps))

abbrev pub at_most_eight : {A : Type 0} → List A → Option (List A)
at_most_eight xs = cond (nat_le (length xs) 8) (Some xs) None

-- one member stands for itself, two to eight make a set
abbrev pub gathered : {A : Type 0} → (A → Value) → (List A → Value) → List A → Option Value
gathered one set [] = None
gathered one set (x ∷ []) = Some (one x)
gathered one set (x ∷ y ∷ zs) = each set (at_most_eight (x ∷ y ∷ zs))

-- a boolean, or else o
abbrev pub word_of : List ℕ → Option Value → Option Value
word_of xs o = cond (bytes_eq xs (codes "true")) (Some (boolean true)) (cond (bytes_eq xs (codes "false")) (Some (boolean false)) o)

-- missing, error, a boolean, or members joined by commas that are all numbers or all texts
abbrev pub cell_of : List ℕ → Option Value
cell_of xs =
    cond (bytes_eq xs (codes "-")) (Some missing)
    (cond (bytes_eq xs (codes "!")) (Some error)
    (word_of xs
    (or_else (bind (read_all number_of (parts 44 xs)) (gathered number numbers))
    (bind (read_all text_of (parts 44 xs)) (gathered text texts)))))
