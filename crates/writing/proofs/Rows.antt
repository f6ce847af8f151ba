-- A line by its words, and a file by its lines.
use Rattle.std.proofs.Common.{◌≡◌, ℕ, ◌-◌, List, [], ◌∷◌, ◌++◌, length, take, drop, sum_by, Ok, Result, sym, refl, ap, ◌∙◌, subst, append_assoc}
use Rattle.std.specs.List.{flat_map}
use Rattle.std.proofs.lemmas.List.Concat.{length-flat_map}
use Rattle.refusals.specs.declared.place.Rejection.{Rejection}
use Rattle.spelling.specs.Cuts.{Six}
use Rattle.policy.specs.Check.{check_of}
use Rattle.policy.specs.Spelt.{row, rows, spelt, fields_for}
use Rattle.policy.specs.declared.line.Line.{Line}
use Rattle.policy.proofs.Laws.{one_spelling}
use Rattle.writing.specs.Rows.{listed, line_bytes}
use Rattle.writing.specs.Written.{Written}

pub rows_flat : (ls : List Line) → rows ls ≡ flat_map line_bytes ls
rows_flat [] = refl
rows_flat (l ∷ ls) = ap (λ r. row (fields_for l) ++ 10 ∷ r) (rows_flat ls) ∙ sym (append_assoc (row (fields_for l)) (10 ∷ []) (flat_map line_bytes ls))

pub length-rows : (ls : List Line) → length (rows ls) ≡ sum_by (λ l. length (line_bytes l)) ls
length-rows ls = ap length (rows_flat ls) ∙ length-flat_map line_bytes ls

-- a word with a space before it
abbrev pub spaced : List ℕ → List ℕ
spaced w = 32 ∷ w

-- the words after the first
abbrev pub later : List (List ℕ) → List (List ℕ)
later ws = take (length ws - 1) (drop 1 ws)

pub row_spaced : (ws : List (List ℕ)) (f : Six) → ws ≡ listed f → (f.kind ++ flat_map spaced (later ws)) ++ 10 ∷ [] ≡ row f ++ 10 ∷ []
row_spaced ws f h = ap (λ xs. (f.kind ++ flat_map spaced (later xs)) ++ 10 ∷ []) h ∙ simp append_assoc refl

-- a policy has one file, so what is written of its lines is the file that was checked
pub for_file : (ls : List Line) (d e : List ℕ) (r : Result ℕ Rejection) → Written (spelt ls) d e r → (f : List ℕ) → check_of f ≡ Ok ls → Written f d e r
for_file ls d e r h f ok = subst (λ s. Written s d e r) (one_spelling f ls ok) h
