use Rattle.std.proofs.Common.{rules, ◌≡◌, ap, ◌∙◌}
use Rattle.enforcement.specs.Asked.{carried}
use Rattle.enforcement.specs.Enforced.{results_of}
use Rattle.enforcement.specs.Journalled.{replies_at, in_front}
use Rattle.enforcement.proofs.Journalling.{kept, filled}
use Rattle.enforcement.proofs.journalled.enforce_by_journal.Goals as goal

pub returns : goal.returns
returns c =
    let e = c.enforce.ensures.enforced in
    let k = kept e.1 in
    let o = c.over-journal.ensures in
    let same : e.0 ≡ replies_at 0 c.args.duties.now = k.replies ∙ ap (λ n. replies_at n c.args.duties.now) o.empty in
    let results = e.2 ∙ ap (results_of c.args.bias c.args.decision c.args.duties.now) same in
    let ds = c.args.duties.now in
    let front : c.enforce.new.service.entries.now ≡ in_front (carried ds (replies_at 0 ds)) c.args.memory.now =
    k.items ∙ ap (λ n. filled n c.over-journal.result.entries.now (carried ds e.0)) o.empty ∙ ap (λ m. filled 0 m (carried ds e.0)) o.kept ∙ ap (λ rs. in_front (carried ds rs) c.args.memory.now) same in
    (search rules, results, search rules)
