-- What may be refused, taken further.
use Rattle.std.specs.Prelude.{Some, None, Ok, Err, Option, Result}

-- the first refusal, or what comes of the value
abbrev pub bind_r : {A B E : Type 0} → Result A E → (A → Result B E) → Result B E
bind_r (Ok x) f = f x
bind_r (Err e) f = Err e

abbrev pub or_refuse : {A E : Type 0} → Option A → E → Result A E
or_refuse None e = Err e
or_refuse (Some x) e = Ok x
