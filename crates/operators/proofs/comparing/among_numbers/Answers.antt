use Rattle.std.proofs.Common.{ap, ◌∙◌, to_z-of_z, w32, SFits, rules}
use Rattle.std.specs.List.{list_any}
use Rattle.std.specs.Ordering.{int_eq}
use Rattle.operators.specs.Operators.{same_number}
use Rattle.operators.proofs.Among.{contained, same_number-int_eq}
use Rattle.operators.proofs.comparing.among_numbers.Goals as goal

pub returns : goal.returns
returns c =
    let f : SFits w32 c.args.x = search rules in
    c.contains.ensures.value ∙ ap (λ x. list_any (λ y. int_eq y x) c.args.numbers.now) (to_z-of_z f) ∙ contained int_eq same_number same_number-int_eq c.args.x c.args.numbers.now
