use Rattle.std.specs.Prelude.{ℕ, cond, List, length, Some, None, Option, nat_lt}

-- a name is the list of its bytes, and so is a text
abbrev pub Name : Type 0
Name = List ℕ

abbrev pub Text : Type 0
Text = List ℕ

-- xs, where there are at most n
abbrev pub fitting : ℕ → List ℕ → Option (List ℕ)
fitting n xs = cond (nat_lt n (length xs)) None (Some xs)

-- a name has at most 24 bytes
abbrev pub name_for : List ℕ → Option Name
name_for xs = fitting 24 xs

-- a text has at most 16 bytes
abbrev pub text_for : List ℕ → Option Text
text_for xs = fitting 16 xs
