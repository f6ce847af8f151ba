use Rattle.std.proofs.Common.{◌≡◌, ℕ, List, cond, Some, None, Option, codes, sym, ap, ◌∙◌, rules}
use Rattle.std.proofs.lemmas.Slice.Eq.{text_from_reads}
use Rattle.std.specs.Str.{bytes_eq}
use Rattle.values.specs.Options.{bind}
use Rattle.spelling.specs.Cuts.{cut_of}
use Rattle.policy.proofs.body.header.Goals as goal

pub returns-in-107 : goal.returns-in-107
returns-in-107 c =
    let first = c.in_ok-first.first.now in
    let rest = c.in_ok-first.rest.now in
    let e : first ≡ codes "kind a b c d e" = search (rules, text_from_reads) in
    let R : Option (List ℕ × List ℕ) = Some (first, rest) in
    let known : cut_of 10 c.args.file.now ≡ R = search rules in
    ap (λ xs. cond (bytes_eq xs (codes "kind a b c d e")) (Some rest) None) (sym e)
    ∙ ap (λ (o : Option (List ℕ × List ℕ)). bind o (λ p. cond (bytes_eq p.0 (codes "kind a b c d e")) (Some p.1) None)) (sym known)
