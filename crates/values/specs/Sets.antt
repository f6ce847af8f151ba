use Rattle.std.specs.Prelude.{cond, List, [], ◌∷◌, ◌++◌, length, Some, None, Option, nat_lt}

-- one member more, of at most eight
abbrev pub joined : {A : Type 0} → List A → A → Option (List A)
joined xs x = cond (nat_lt (length xs) 8) (Some (xs ++ x ∷ [])) None
