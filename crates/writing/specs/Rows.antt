-- A line by its fields.
use Rattle.std.specs.Prelude.{ℕ, List, [], ◌∷◌, ◌++◌}
use Rattle.spelling.specs.Cuts.{Six}
use Rattle.policy.specs.Spelt.{fields_for, row}
use Rattle.policy.specs.declared.line.Line.{Line}

-- the fields in order
abbrev pub listed : Six → List (List ℕ)
listed f = f.kind ∷ f.a ∷ f.b ∷ f.c ∷ f.d ∷ f.e ∷ []

-- a line's bytes with its last one
abbrev pub line_bytes : Line → List ℕ
line_bytes l = row (fields_for l) ++ 10 ∷ []
