-- Responses kept line by line: a decision, and a span of the line numbers of duties.
use Rattle.std.specs.Prelude.{◌≡◌, ℕ, ◌+◌, ◌<◌, ◌≤◌, Bool, cond, List, All, map, length, take, drop, Some, None, Option, slice_index_or}
use Rattle.spelling.specs.declared.algorithm.Combining.{Combining}
use Rattle.combining.specs.declared.decision.Decision.{Decision}
use Rattle.combining.specs.declared.decision.Decision.TheVariants.{Permit, Indeterminate}
use Rattle.combining.specs.Combined.{Response, joined, first_taken}
use Rattle.trees.specs.declared.duty.Duty.{Duty}
use Rattle.trees.specs.Policies.{first, rest, bare, closed_by, combined_by}
use Rattle.trees.specs.Known.{nothing}
use Rattle.deciding.specs.declared.known.Known.{Known}
use Rattle.deciding.specs.declared.kept.Kept.{Kept}
use Rattle.deciding.specs.declared.taken.Taken.{Taken}
use Rattle.deciding.specs.declared.duties.OwnDuties.{OwnDuties}
use Rattle.deciding.specs.Known.{duties_of, items_at, response_at}

-- a span of the duties that were written so far, or of their line numbers, with its decision
abbrev pub response_in : {D : Type 0} → List D → Kept → Response D
response_in os k = record { decision = k.decision; duties = take k.count (drop k.start os) }

pub record Means (k : Kept) (os : List Duty) (r : Response Duty) : Type 0 where
  pub is : response_in os k ≡ r
  pub within : k.start + k.count ≤ length os

-- what stands for the response of a line that is no policy
abbrev pub no_response : Kept
no_response = record { decision = Indeterminate; start = 0; count = 0 }

-- what a place holds that is not there
abbrev pub unset : Kept
unset = record { decision = Permit; start = 0; count = 0 }

-- the responses of the lines above n are kept
abbrev pub KeptTo : ℕ → Known → List Kept → List Duty → Type 0
KeptTo n known ks os = (k : ℕ) → 0 < k → k < n → Means (slice_index_or ks k unset) os (response_at known k)

-- their spans are parts of n duties
abbrev pub all_within : ℕ → List Kept → Type 0
all_within n ks = All (λ (k : Kept). k.start + k.count ≤ n) ks

-- children with the responses rs
pub record MeanAll (ks : List Kept) (os : List Duty) (rs : List (Response Duty)) : Type 0 where
  pub are : map (response_in os) ks ≡ rs
  pub within : all_within (length os) ks

-- the duties of the children with a decision: of all of them, or of the first
abbrev pub duties_by : {D : Type 0} → Bool → Decision → List (Response D) → List D
duties_by joins d rs = cond joins (joined d rs) (first_taken d rs)

-- what is taken from children whose duties, or their line numbers, stand in os
abbrev pub taken_from : {D : Type 0} → Taken → List D → Response D
taken_from taken os = record { decision = taken.decision; duties = duties_by taken.joins taken.decision (map (response_in os) taken.children.now) }

-- the response of a set whose target is true
abbrev pub set_response : Known → Combining → ℕ → OwnDuties → Response Duty
set_response known c i own =
    closed_by nothing (duties_of known own.on_permit) (duties_of known own.on_deny)
    (combined_by c (first nothing (items_at known i)) (rest nothing (items_at known i)))

-- where a target ends the matter there is a decision without duties
abbrev pub ended_by : Option Decision → Response Duty → Response Duty
ended_by None r = r
ended_by (Some d) r = bare d
