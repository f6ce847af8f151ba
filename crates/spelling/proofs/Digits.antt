-- More digits make no number smaller.
use Rattle.std.proofs.Common.{◌≡◌, ℕ, ◌+◌, ◌-◌, ◌*◌, ◌<◌, Bool, true, false, cond, List, [], ◌∷◌, None, Option, refl, arith}
use Rattle.std.proofs.lemmas.Bool.Decides.{nat_tests}
use Rattle.spelling.specs.Numbers.{is_digit, digits_after, at_most}

digit_or_not : (limit : ℕ) (t : Bool) (o : Option ℕ) → at_most limit o ≡ None → at_most limit (cond t o None) ≡ None
digit_or_not limit true o h = h
digit_or_not limit false o h = refl

pub over-limit : (limit n : ℕ) (bs : List ℕ) → limit < n → at_most limit (digits_after n bs) ≡ None
over-limit limit n [] h = grind (arith, nat_tests)
over-limit limit n (b ∷ bs) h = digit_or_not limit (is_digit b) _ (over-limit limit (n * 10 + (b - 48)) bs (omega arith))
