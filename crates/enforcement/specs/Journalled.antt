-- Enforcing on a new journal: the results, and what its memory then holds.
use Rattle.std.specs.Prelude.{◌≡◌, ℕ, ◌+◌, cond, List, [], ◌∷◌, ◌++◌, length, drop, Ok, Err, Result}
use Rattle.refusals.specs.declared.place.Rejection.{Rejection}
use Rattle.combining.specs.declared.decision.Decision.{Decision}
use Rattle.trees.specs.declared.duty.Duty.{Duty}
use Rattle.services.specs.declared.service.Reply.{Reply}
use Rattle.services.specs.declared.service.Reply.TheVariants.{Done, NotReady}
use Rattle.services.specs.Enough.{enough_of}
use Rattle.services.specs.Journal.{takes}
use Rattle.enforcement.specs.Asked.{carried, is_must}
use Rattle.enforcement.specs.Enforced.{results_of}
use Rattle.enforcement.specs.declared.bias.Bias.{Bias}

-- what a journal with n entries replies to the duties that are asked of it, up to the first must that fails
abbrev pub replies_at : ℕ → List Duty → List Reply
replies_at n [] = []
replies_at n (d ∷ ds) =
    cond (takes n d.action) (Done ∷ replies_at (n + 1) ds)
    (cond (is_must d) (NotReady ∷ []) (NotReady ∷ replies_at n ds))

-- xs in the first places of ys
abbrev pub in_front : {A : Type 0} → List A → List A → List A
in_front xs ys = xs ++ drop (length xs) ys

-- the duties that were carried out stand at the front of the memory, whose other places stay; memory that is too small stays as it was
abbrev pub Journalled : Bias → Decision → List Duty → List Duty → Result (Decision × ℕ × ℕ × ℕ) Rejection → List Duty → Type 0
Journalled bias d ds before (Ok results) after =
    (enough_of before ≡ Ok tt) × (results ≡ results_of bias d ds (replies_at 0 ds)) × (after ≡ in_front (carried ds (replies_at 0 ds)) before)
Journalled bias d ds before (Err e) after =
    (enough_of before ≡ Err e) × (after ≡ before)
