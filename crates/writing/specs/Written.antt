-- What writing a policy back leaves.
use Rattle.std.specs.Prelude.{◌≡◌, ℕ, ◌<◌, ◌≤◌, List, ◌++◌, length, drop, Ok, Err, Result}
use Rattle.refusals.specs.declared.cause.Cause.TheVariants.{TooSmall}
use Rattle.refusals.specs.declared.place.Rejection.{Rejection}

-- xs stands at the front of the bytes d, and those beyond are as before; or it does not fit, and all are as before
abbrev pub Written : List ℕ → List ℕ → List ℕ → Result ℕ Rejection → Type 0
Written xs d after (Ok n) = (n ≡ length xs) × (length xs ≤ length d) × (after ≡ xs ++ drop (length xs) d)
Written xs d after (Err e) = (length d < length xs) × (after ≡ d) × (e ≡ record { cause = TooSmall; line = 0; field = 0 })
