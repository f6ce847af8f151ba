-- What reading a file and writing lines say of the file that is shown.
use Rattle.std.proofs.Common.{◌≡◌, ℕ, ◌≤◌, true, List, ◌++◌, length, take, drop, Ok, Err, Result, ap, ◌∙◌, subst, append_assoc, arith}
use Rattle.std.specs.Prelude.{is_ok}
use Rattle.std.proofs.Math.Seq.{take-append_seam}
use Rattle.std.proofs.lemmas.List.{take-take}
use Rattle.refusals.specs.declared.place.Rejection.{Rejection}
use Rattle.policy.specs.Check.{check_of}
use Rattle.policy.specs.Idle.{Reloaded}
use Rattle.policy.specs.declared.line.Line.{Line}
use Rattle.writing.specs.Written.{Written}

-- what was read without a refusal are the file's lines
pub read_lines : (file : List ℕ) (r : Result (Unit {0}) Rejection) (ls : List Line) → Reloaded file r ls → true ≡ is_ok r → check_of file ≡ Ok ls
read_lines file (Ok u) ls h e = h
read_lines file (Err x) ls h e = cc

-- the bytes that were written stand at the front of the memory
pub take-written : (xs d e rest : List ℕ) (r : Result ℕ Rejection) (n m : ℕ) → Written xs d e r → r ≡ Ok n → length d ≤ m → take n (take m (e ++ rest)) ≡ xs
take-written xs d e rest r n m w is le =
    let h : Written xs d e (Ok n) = subst (λ (s : Result ℕ Rejection). Written xs d e s) is w in
    let n-fits : n ≤ m = omega (arith, h.0, h.1) in
    take-take n m (e ++ rest) n-fits
    ∙ (λ i. take (h.0 i) (h.2 i ++ rest))
    ∙ ap (take (length xs)) (append_assoc xs (drop (length xs) d) rest)
    ∙ take-append_seam xs (drop (length xs) d ++ rest)
