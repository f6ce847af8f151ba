-- What is known once a check has succeeded.
use Rattle.std.proofs.Common.{◌≡◌, ℕ, Bool, true, false, cond, Some, None, Ok, Err, Option, Result, refl, ap}
use Rattle.refusals.specs.Results.{bind_r, or_refuse}
use Rattle.refusals.specs.Places.{at_field, at_line}
use Rattle.refusals.specs.declared.cause.Cause.{Cause}
use Rattle.refusals.specs.declared.place.LineFault.{LineFault}

pub bind_ok : {A B E : Type 0} (r : Result A E) (f : A → Result B E) (y : B) → bind_r r f ≡ Ok y → (x : A) × ((r ≡ Ok x) × (f x ≡ Ok y))
bind_ok (Ok x) f y h = (x, (refl, h))
bind_ok (Err e) f y h = cc

pub ok_same : {A E : Type 0} {x y : A} → ◌≡◌ {A = Result A E} (Ok x) (Ok y) → x ≡ y
ok_same h = cc

pub or_ok : {A E : Type 0} (o : Option A) (e : E) (x : A) → or_refuse o e ≡ Ok x → o ≡ Some x
or_ok (Some y) e x h = ap Some (ok_same h)
or_ok None e x h = cc

-- a test that had to hold
pub passed : {A E : Type 0} (t : Bool) (r : Result A E) (e : E) (x : A) → cond t r (Err e) ≡ Ok x → (t ≡ true) × (r ≡ Ok x)
passed true r e x h = (refl, h)
passed false r e x h = cc

-- a test that had to fail
pub cleared : {A E : Type 0} (t : Bool) (r : Result A E) (e : E) (x : A) → cond t (Err e) r ≡ Ok x → (t ≡ false) × (r ≡ Ok x)
cleared true r e x h = cc
cleared false r e x h = (refl, h)

pub field_ok : {A : Type 0} (n : ℕ) (r : Result A Cause) (x : A) → at_field n r ≡ Ok x → r ≡ Ok x
field_ok n (Ok y) x h = ap Ok (ok_same h)
field_ok n (Err e) x h = cc

pub line_ok : {A : Type 0} (n : ℕ) (r : Result A LineFault) (x : A) → at_line n r ≡ Ok x → r ≡ Ok x
line_ok n (Ok y) x h = ap Ok (ok_same h)
line_ok n (Err e) x h = cc

-- a field that was read, and what came after it
pub field_bind : {A B : Type 0} (n : ℕ) (r : Result A Cause) (f : A → Result B LineFault) (y : B) → bind_r (at_field n r) f ≡ Ok y → (x : A) × ((r ≡ Ok x) × (f x ≡ Ok y))
field_bind n (Ok x) f y h = (x, (refl, h))
field_bind n (Err e) f y h = cc
