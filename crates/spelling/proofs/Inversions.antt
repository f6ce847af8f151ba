-- What is known once a reading has succeeded.
use Rattle.std.proofs.Common.{◌≡◌, ℕ, Bool, true, false, cond, ◌⊎◌, List, Some, None, Option, refl, inl, inr}
use Rattle.std.proofs.lemmas.Slice.Eq.{bytes_eq-Decides}
use Rattle.std.specs.Str.{bytes_eq}
use Rattle.values.specs.Options.{each, bind}

pub bind-some : {A B : Type 0} (r : Option A) (f : A → Option B) (y : B) → bind r f ≡ Some y → (x : A) × ((r ≡ Some x) × (f x ≡ Some y))
bind-some (Some x) f y h = (x, (refl, h))
bind-some None f y h = cc

pub each-some : {A B : Type 0} (f : A → B) (o : Option A) (y : B) → each f o ≡ Some y → (x : A) × ((o ≡ Some x) × (f x ≡ y))
each-some f (Some x) y h = (x, (refl, cc))
each-some f None y h = cc

-- a test that had to fail
pub past : {A : Type 0} (t : Bool) (r : Option A) (x : A) → cond t None r ≡ Some x → (t ≡ false) × (r ≡ Some x)
past true r x h = cc
past false r x h = (refl, h)

-- a test that had to hold
pub held : {A : Type 0} (t : Bool) (r : Option A) (x : A) → cond t r None ≡ Some x → (t ≡ true) × (r ≡ Some x)
held true r x h = (refl, h)
held false r x h = cc

pub either : {A : Type 0} (t : Bool) (p q : Option A) (x : A) → cond t p q ≡ Some x → ((t ≡ true) × (p ≡ Some x)) ⊎ ((t ≡ false) × (q ≡ Some x))
either true p q x h = inl (refl, h)
either false p q x h = inr (refl, h)

pub same : (xs ys : List ℕ) → bytes_eq xs ys ≡ true → xs ≡ ys
same xs ys = (bytes_eq-Decides xs ys).0
