-- What becomes of duties, put together from the first ones and the others.
use Rattle.std.proofs.Common.{◌≡◌, ℕ, suc, ◌+◌, ◌<◌, ◌≤◌, Bool, true, false, List, [], ◌∷◌, length, drop, slice_index_or, refl, sym, ap, ◌∙◌, arith}
use Rattle.std.proofs.Math.Seq.{drop-cons}
use Rattle.std.proofs.lemmas.List.{drop_all}
use denote.Enum.Bare.{sameb}
use Rattle.policy.specs.contracts.line.Force.{the_type}
use Rattle.policy.specs.declared.line.Force.{Force}
use Rattle.policy.specs.declared.line.Force.TheVariants.{Must, May}
use Rattle.trees.specs.declared.duty.Duty.{Duty}
use Rattle.services.specs.declared.service.Reply.TheVariants.{Done, NotReady}
use Rattle.services.specs.Meaning.{Meaning, Did}
use Rattle.enforcement.specs.declared.tally.Tally.{Tally}
use Rattle.enforcement.specs.Asked.{all, next, last, must, is_must}
use Rattle.enforcement.specs.Tried.{Tried}

-- a comparison of forces, which compares the places of their variants, tells a must
pub sameb-must : (f : Force) → sameb the_type f Must ≡ must f
sameb-must Must = refl
sameb-must May = refl

-- so many more that were carried out and that failed
abbrev pub plus : ℕ → ℕ → Tally → Tally
plus c f t = record { carried = c + t.carried; failed = f + t.failed; skipped = t.skipped; must_failed = t.must_failed }

-- whatever becomes of the duties that are left, that is what becomes of all, with the counts so far
abbrev pub SoFar : {S : Type 0} → Meaning S → S → List Duty → S → List Duty → ℕ → ℕ → Type 0
SoFar {S} m s ds t left c f = (tally : Tally) (u : S) → Tried m t left tally u → Tried m s ds (plus c f tally) u

same_counts : {c f p q k : ℕ} {b : Bool} → c ≡ p → f ≡ q → ◌≡◌ {A = Tally} (record { carried = c; failed = f; skipped = k; must_failed = b }) (record { carried = p; failed = q; skipped = k; must_failed = b })
same_counts p q = rw (p, q)

-- the duty at a place, and those behind it
left-cons : (ds : List Duty) (i : ℕ) (d : Duty) → i < length ds → d ≡ slice_index_or ds i d → drop i ds ≡ d ∷ drop (i + 1) ds
left-cons ds i d within at = drop-cons ds i d within ∙ ap (λ x. x ∷ drop (suc i) ds) (sym at) ∙ (let e : suc i ≡ i + 1 = omega arith in ap (λ n. d ∷ drop n ds) e)

module _ {S : Type 0} {m : Meaning S} where
  tried-done : {s t u : S} {d : Duty} {ds : List Duty} {x : Tally} → Did m s d Done t → Tried m t ds x u → Tried m s (d ∷ ds) (plus 1 0 x) u
  tried-done did after = (Done ∷ after.0, next did refl after.1, ap (plus 1 0) after.2 ∙ same_counts (omega arith) (omega arith))

  tried-may : {s t u : S} {d : Duty} {ds : List Duty} {x : Tally} → Did m s d NotReady t → is_must d ≡ false → Tried m t ds x u → Tried m s (d ∷ ds) (plus 0 1 x) u
  tried-may {d = d} did may after = (NotReady ∷ after.0, next did may after.1, ap (plus 0 1) after.2 ∙ rw may (same_counts (omega arith) (omega arith)))

  pub so-far-none : (s : S) (ds : List Duty) → SoFar m s ds s (drop 0 ds) 0 0
  so-far-none s ds x u after = (after.0, after.1, same_counts (omega arith) (omega arith) ∙ after.2)

  pub so-far-done : (s t u : S) (ds : List Duty) (i c f : ℕ) (d : Duty) → i < length ds → d ≡ slice_index_or ds i d → SoFar m s ds t (drop i ds) c f → Did m t d Done u → SoFar m s ds u (drop (i + 1) ds) (c + 1) f
  so-far-done s t u ds i c f d within at before did x v after =
      let now : Tried m t (drop i ds) (plus 1 0 x) v = rw (left-cons ds i d within at) (tried-done did after) in
      let k = before (plus 1 0 x) v now in
      (k.0, k.1, same_counts (omega arith) (omega arith) ∙ k.2)

  pub so-far-may : (s t u : S) (ds : List Duty) (i c f : ℕ) (d : Duty) → i < length ds → d ≡ slice_index_or ds i d → SoFar m s ds t (drop i ds) c f → Did m t d NotReady u → is_must d ≡ false → SoFar m s ds u (drop (i + 1) ds) c (f + 1)
  so-far-may s t u ds i c f d within at before did may x v after =
      let now : Tried m t (drop i ds) (plus 0 1 x) v = rw (left-cons ds i d within at) (tried-may did may after) in
      let k = before (plus 0 1 x) v now in
      (k.0, k.1, same_counts (omega arith) (omega arith) ∙ k.2)

  -- a must that fails leaves out the duties behind it
  pub so-far-must : (s t u : S) (ds : List Duty) (i c f k : ℕ) (d : Duty) → i < length ds → d ≡ slice_index_or ds i d → SoFar m s ds t (drop i ds) c f → Did m t d NotReady u → is_must d ≡ true → k ≡ length (drop (i + 1) ds)
      → Tried m s ds (record { carried = c; failed = f + 1; skipped = k; must_failed = true }) u
  so-far-must s t u ds i c f k d within at before did must left =
      let one : Tally = record { carried = 0; failed = 1; skipped = k; must_failed = true } in
      let now : Tried m t (drop i ds) one u = rw (left-cons ds i d within at, left) (NotReady ∷ [], last did must, rw must) in
      let r = before one u now in
      (r.0, r.1, same_counts (omega arith) (omega arith) ∙ r.2)

  pub so-far-all : (s t : S) (ds : List Duty) (i c f : ℕ) → length ds ≤ i → SoFar m s ds t (drop i ds) c f → Tried m s ds (record { carried = c; failed = f; skipped = 0; must_failed = false }) t
  so-far-all s t ds i c f end before =
      let none : Tally = record { carried = 0; failed = 0; skipped = 0; must_failed = false } in
      let now : Tried m t (drop i ds) none t = rw (drop_all i ds end) ([], all, refl) in
      let r = before none t now in
      (r.0, r.1, same_counts (omega arith) (omega arith) ∙ r.2)
