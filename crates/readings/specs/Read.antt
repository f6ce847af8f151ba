-- What a reader answered, with the items that it left.
use Rattle.std.specs.Prelude.{◌≡◌, ℕ, ◌+◌, List, [], ◌∷◌, ◌++◌, Ok, Err, MatchResult, Result}
use Rattle.std.specs.Borrow.{Bor}
use Rattle.refusals.specs.Results.{bind_r}
use Rattle.refusals.specs.declared.cause.Cause.{Cause}
use Rattle.refusals.specs.declared.place.LineFault.{LineFault}

-- the items that were left, or the refusal
abbrev pub items_as : {A E : Type 0} → Result (Unit {0}) E → List A → Result (List A) E
items_as (Ok u) xs = Ok xs
items_as (Err e) xs = Err e

-- items before those that were read
abbrev pub after : {A E : Type 0} → List A → Result (List A) E → Result (List A) E
after before r = bind_r r (λ xs. Ok (before ++ xs))

-- the parts from a field on, each read with the items before it in view, up to the first fault: the answer, and the items then
abbrev pub ReadInTurn : {A : Type 0} → (Bor (List ℕ) → Bor (List A) → Result A Cause → Type 0) → ℕ → List A → List (List ℕ) → Result (Unit {0}) LineFault → List A → Type 0
ReadInTurn {A} Reads field before [] r items = (r ≡ Ok tt) × (items ≡ before)
ReadInTurn {A} Reads field before (p ∷ ps) r items =
    (part : Bor (List ℕ)) × (seen : Bor (List A)) × (x : Result A Cause) × (part.now ≡ p) × (seen.now ≡ before) × Reads part seen x
    × MatchResult x (λ v. ReadInTurn Reads (field + 1) (before ++ v ∷ []) ps r items) (λ e. (r ≡ Err (record { cause = e; field = field })) × (items ≡ before))
