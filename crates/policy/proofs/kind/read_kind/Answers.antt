use Rattle.std.proofs.Common.{◌≡◌, codes, sym, ap, rules}
use Rattle.std.proofs.lemmas.Slice.Eq.{text_from_reads}
use Rattle.policy.specs.Kinds.{kind_of}
use Rattle.policy.proofs.kind.read_kind.Goals as goal

pub returns-in-false : goal.returns-in-false
returns-in-false c = let e : c.args.s.now ≡ codes "false" = search (rules, text_from_reads) in ap kind_of (sym e)

pub returns-in-equal : goal.returns-in-equal
returns-in-equal c = let e : c.args.s.now ≡ codes "equal" = search (rules, text_from_reads) in ap kind_of (sym e)

pub returns-in-permit : goal.returns-in-permit
returns-in-permit c = let e : c.args.s.now ≡ codes "permit" = search (rules, text_from_reads) in ap kind_of (sym e)

pub returns-in-greater : goal.returns-in-greater
returns-in-greater c = let e : c.args.s.now ≡ codes "greater" = search (rules, text_from_reads) in ap kind_of (sym e)
