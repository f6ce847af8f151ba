-- What may be absent, taken further.
use Rattle.std.specs.Prelude.{Some, None, Option}

abbrev pub each : {A B : Type 0} → (A → B) → Option A → Option B
each f None = None
each f (Some x) = Some (f x)

abbrev pub bind : {A B : Type 0} → Option A → (A → Option B) → Option B
bind None f = None
bind (Some x) f = f x

-- the second where the first is absent
abbrev pub or_else : {A : Type 0} → Option A → Option A → Option A
or_else None o = o
or_else (Some x) o = Some x
