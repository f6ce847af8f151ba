-- An entry of a tested table is the decision on two children.
use Rattle.std.proofs.Common.{◌≡◌, refl}
use denote.Enum.Declared.{tag_of}
use Rattle.combining.specs.contracts.decision.Decision.{the_type}
use Rattle.combining.specs.declared.decision.Decision.{Decision}
use Rattle.combining.specs.declared.decision.Decision.TheVariants.{Permit, Deny, NotApplicable, Indeterminate}
use Rattle.combining.specs.Table.{place}
use Rattle.combining.specs.Merging.{agrees_at}
use Rattle.combining.proofs.tables.cell.Goals as goal

tag_place : (d : Decision) → tag_of the_type d ≡ place d
tag_place Permit = refl
tag_place Deny = refl
tag_place NotApplicable = refl
tag_place Indeterminate = refl

pub returns : goal.returns
returns c =
    let h = agrees_at c.args.algorithm c.table.result.now c.table.ensures c.args.state c.args.child in
    simp tag_place h
