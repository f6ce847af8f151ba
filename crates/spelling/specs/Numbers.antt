-- The spelling of numbers.
use Rattle.std.specs.Prelude.{ℕ, ◌+◌, ◌-◌, ◌*◌, Bool, cond, ◌&&◌, List, [], ◌∷◌, ℤ, pos, negsuc, neg_ℤ, Some, None, Option, ◌==◌, nat_le}
use Rattle.values.specs.Options.{bind}

abbrev pub is_digit : ℕ → Bool
is_digit b = nat_le 48 b && nat_le b 57

-- the number that n and the digits after it spell
abbrev pub digits_after : ℕ → List ℕ → Option ℕ
digits_after n [] = Some n
digits_after n (b ∷ bs) = cond (is_digit b) (digits_after (n * 10 + (b - 48)) bs) None

-- digits, and no zero in front of another
abbrev pub natural_of : List ℕ → Option ℕ
natural_of [] = None
natural_of (b ∷ []) = digits_after 0 (b ∷ [])
natural_of (b ∷ c ∷ bs) = cond (b == 48) None (digits_after 0 (b ∷ c ∷ bs))

abbrev pub at_most : ℕ → Option ℕ → Option ℕ
at_most limit None = None
at_most limit (Some n) = cond (nat_le n limit) (Some n) None

abbrev pub positive : Option ℕ → Option ℤ
positive None = None
positive (Some n) = Some (pos n)

-- there is no negative zero
abbrev pub negative : Option ℕ → Option ℤ
negative None = None
negative (Some n) = cond (n == 0) None (Some (neg_ℤ (pos n)))

-- a number of 32 bits with sign
abbrev pub number_of : List ℕ → Option ℤ
number_of [] = None
number_of (b ∷ bs) = cond (b == 45) (negative (at_most 2147483648 (natural_of bs))) (positive (at_most 2147483647 (natural_of (b ∷ bs))))

-- a line number is spelled as any number is
abbrev pub line_number_of : List ℕ → Option ℤ
line_number_of xs = number_of xs

abbrev pub to_fifteen : ℤ → Option ℕ
to_fifteen (pos n) = at_most 15 (Some n)
to_fifteen (negsuc n) = None

-- an action is a number from 0 to 15
abbrev pub action_of : List ℕ → Option ℕ
action_of xs = bind (number_of xs) to_fifteen
