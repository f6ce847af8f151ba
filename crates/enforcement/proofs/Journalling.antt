-- What a journal keeps of the duties that are asked of it.
use Rattle.std.proofs.Common.{◌≡◌, ℕ, suc, ◌+◌, ◌<◌, Bool, true, false, ◌&&◌, List, [], ◌∷◌, ◌++◌, length, take, drop, nat_le, nat_lt, slice_set, refl, sym, ap, ◌∙◌, arith}
use Rattle.std.proofs.lemmas.Bool.{ltb-true, false≢true}
use Rattle.std.proofs.lemmas.List.{take-append-drop, take_more_set, drop-set-lt, drop-drop, append_assoc}
use Rattle.trees.specs.declared.duty.Duty.{Duty}
use Rattle.services.specs.declared.service.Reply.{Reply}
use Rattle.services.specs.declared.service.Reply.TheVariants.{Done, NotReady}
use Rattle.services.specs.declared.journal.Journal.{Journal}
use Rattle.services.specs.Meaning.{Did}
use Rattle.services.specs.Journal.{journal_meaning, takes}
use Rattle.enforcement.specs.Asked.{Asked, all, next, last, carried, is_must}
use Rattle.enforcement.specs.Journalled.{replies_at, in_front}

-- the memory after so many duties were carried out: it holds them from place n on
abbrev pub filled : ℕ → List Duty → List Duty → List Duty
filled n memory ds = take n memory ++ in_front ds (drop n memory)

pub record Kept (j : Journal) (ds : List Duty) (rs : List Reply) (k : Journal) : Type 0 where
  pub replies : rs ≡ replies_at j.count ds
  pub items : k.entries.now ≡ filled j.count j.entries.now (carried ds rs)

-- a duty in a place, and others behind it
filled-then : (memory ds : List Duty) (n : ℕ) (d : Duty) → n < length memory → filled (n + 1) (slice_set memory n d) ds ≡ filled n memory (d ∷ ds)
filled-then memory ds n d within =
    let after = slice_set memory n d in
    let behind = in_front ds (drop (n + 1) after) in
    let k : (n + 1) + length ds ≡ n + suc (length ds) = omega arith in
    let e : drop (length ds) (drop (n + 1) after) ≡ drop (suc (length ds)) (drop n memory) =
    ap (drop (length ds)) (drop-set-lt (n + 1) memory n d (omega arith)) ∙ drop-drop (length ds) (n + 1) memory ∙ ap (λ i. drop i memory) k ∙ sym (drop-drop (suc (length ds)) n memory) in
    let front : take (n + 1) after ++ behind ≡ (take n memory ++ d ∷ []) ++ behind = ap (λ t. t ++ behind) (take_more_set memory n d within) in
    let joined : (take n memory ++ d ∷ []) ++ behind ≡ take n memory ++ d ∷ behind = append_assoc (take n memory) (d ∷ []) behind in
    let back : take n memory ++ d ∷ behind ≡ filled n memory (d ∷ ds) = ap (λ t. take n memory ++ d ∷ (ds ++ t)) e in
    front ∙ joined ∙ back

filled-none : (memory : List Duty) (n : ℕ) → memory ≡ filled n memory []
filled-none memory n = sym (take-append-drop n memory)

reply-done : (n : ℕ) (d : Duty) (ds : List Duty) → takes n d.action ≡ true → replies_at n (d ∷ ds) ≡ Done ∷ replies_at (n + 1) ds
reply-done n d ds e = rw e

reply-may : (n : ℕ) (d : Duty) (ds : List Duty) → takes n d.action ≡ false → is_must d ≡ false → replies_at n (d ∷ ds) ≡ NotReady ∷ replies_at n ds
reply-may n d ds e f = rw (e, f)

reply-must : (n : ℕ) (d : Duty) (ds : List Duty) → takes n d.action ≡ false → is_must d ≡ true → replies_at n (d ∷ ds) ≡ NotReady ∷ []
reply-must n d ds e f = rw (e, f)

below : (b c : Bool) → b && c ≡ true → c ≡ true
below true c e = e
below false c e = absurd (false≢true e)

-- a place is left where the journal takes a duty
left : (j : Journal) (d : Duty) → takes j.count d.action ≡ true → j.count < length j.entries.now
left j d e = let k = ltb-true j.count 64 (below (nat_le d.action 7) (nat_lt j.count 64) e) in omega (arith, k, j.enough)

-- one duty that the journal takes, and those asked after it
kept-done : (j k l : Journal) (d : Duty) (ds : List Duty) (rs : List Reply) → Did journal_meaning j d Done k → Kept k ds rs l → Kept j (d ∷ ds) (Done ∷ rs) l
kept-done j k l d ds rs did after = record {
  replies = ap (λ x. Done ∷ x) (after.replies ∙ ap (λ n. replies_at n ds) did.1.1) ∙ sym (reply-done j.count d ds did.1.0);
  items = after.items ∙ ap (λ n. filled n k.entries.now (carried ds rs)) did.1.1 ∙ ap (λ m. filled (j.count + 1) m (carried ds rs)) did.1.3 ∙ filled-then j.entries.now (carried ds rs) j.count d (left j d did.1.0);
}

kept-may : (j k l : Journal) (d : Duty) (ds : List Duty) (rs : List Reply) → Did journal_meaning j d NotReady k → is_must d ≡ false → Kept k ds rs l → Kept j (d ∷ ds) (NotReady ∷ rs) l
kept-may j k l d ds rs did may after = record {
  replies = ap (λ x. NotReady ∷ x) (after.replies ∙ ap (λ x. replies_at x.count ds) did.1.1) ∙ sym (reply-may j.count d ds did.1.0 may);
  items = after.items ∙ ap (λ x. filled x.count x.entries.now (carried ds rs)) did.1.1;
}

kept-must : (j k : Journal) (d : Duty) (ds : List Duty) → Did journal_meaning j d NotReady k → is_must d ≡ true → Kept j (d ∷ ds) (NotReady ∷ []) k
kept-must j k d ds did must = record {
  replies = sym (reply-must j.count d ds did.1.0 must);
  items = ap (λ x. x.entries.now) did.1.1 ∙ filled-none j.entries.now j.count;
}

pub kept : {j k : Journal} {ds : List Duty} {rs : List Reply} → Asked journal_meaning j ds rs k → Kept j ds rs k
kept {j} all = record { replies = refl; items = filled-none j.entries.now j.count }
kept (next {r = Done} did on after) = kept-done _ _ _ _ _ _ did (kept after)
kept (next {r = NotReady} did on after) = kept-may _ _ _ _ _ _ did on (kept after)
kept (last {r = Done} did off) = absurd (false≢true off)
kept (last {r = NotReady} did off) = kept-must _ _ _ _ did off
