-- That the decision on the visited children is the decision on all.
use Rattle.std.proofs.Common.{◌≡◌, Bool, true, false, cond, List, [], ◌∷◌, ◌++◌, length, take, sym, refl, ap, ◌∙◌, append_assoc, append-nil}
use Rattle.std.proofs.lemmas.List.{take_at}
use Rattle.spelling.specs.declared.algorithm.Strategy.{Strategy}
use Rattle.spelling.specs.declared.algorithm.Strategy.TheVariants.{All, Greedy}
use Rattle.combining.specs.declared.decision.Decision.{Decision}
use Rattle.combining.specs.Wording.{Wording, FinalStays}
use Rattle.combining.specs.Combined.{stops, visits}

-- a set that stops has a final decision
final_of : (s : Strategy) (b : Bool) → stops s b ≡ true → b ≡ true
final_of All true h = refl
final_of All false h = h
final_of Greedy b h = h

-- a final decision is kept, whatever all further children decide
pub keeps : (w : Wording) → FinalStays w → (seen ds : List Decision) → w.is_final (w.decision seen) ≡ true → w.decision (seen ++ ds) ≡ w.decision seen
keeps w law seen [] h = ap w.decision (append-nil seen)
keeps w law seen (d ∷ ds) h =
    let e = law seen d h in
    ap w.decision (sym (append_assoc seen (d ∷ []) ds)) ∙ keeps w law (seen ++ d ∷ []) ds (ap w.is_final e ∙ h) ∙ e

-- so a decision after which a set stops is that on all
pub stopped_decides : (w : Wording) → FinalStays w → (s : Strategy) (seen ds whole : List Decision) (final stop : Bool) (d : Decision) → seen ++ ds ≡ whole
    → final ≡ w.is_final (w.decision seen) → stop ≡ stops s final → stop ≡ true → d ≡ w.decision seen → d ≡ w.decision whole
stopped_decides w law s seen ds whole final stop d all f b h e = e ∙ sym (keeps w law seen ds (sym f ∙ final_of s final (sym b ∙ h))) ∙ ap w.decision all

-- and the decision on the visited is that on all
pub visited_decide : (w : Wording) → FinalStays w → (s : Strategy) (seen ds : List Decision) → w.decision (take (visits w s seen ds) (seen ++ ds)) ≡ w.decision (seen ++ ds)
visited_decide w law s seen [] = ap w.decision (take_at seen [] (length seen) refl ∙ sym (append-nil seen))
visited_decide w law s seen (d ∷ ds) =
    by (stops s (w.is_final (w.decision seen))) refl (ap (λ xs. w.decision (take (visits w s (seen ++ d ∷ []) ds) xs)) (sym (append_assoc seen (d ∷ []) ds)) ∙ visited_decide w law s (seen ++ d ∷ []) ds ∙ ap w.decision (append_assoc seen (d ∷ []) ds))
  where
    by : (b : Bool) → stops s (w.is_final (w.decision seen)) ≡ b → w.decision (take (visits w s (seen ++ d ∷ []) ds) (seen ++ d ∷ ds)) ≡ w.decision (seen ++ d ∷ ds)
        → w.decision (take (cond b (length seen) (visits w s (seen ++ d ∷ []) ds)) (seen ++ d ∷ ds)) ≡ w.decision (seen ++ d ∷ ds)
    by true h e = ap w.decision (take_at seen (d ∷ ds) (length seen) refl) ∙ sym (keeps w law seen (d ∷ ds) (final_of s (w.is_final (w.decision seen)) h))
    by false h e = e
