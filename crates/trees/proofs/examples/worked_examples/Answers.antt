use Rattle.std.proofs.Common.{refl}
use Rattle.policy.specs.Check.{no_marks}
use Rattle.trees.specs.Expressions.{applied}
use Rattle.trees.specs.Policies.{respond}
use Rattle.trees.specs.Parts.{parts_of}
use Rattle.trees.proofs.examples.worked_examples.Goals as goal

pub returns : goal.returns
unfolding no_marks applied respond parts_of
returns c = refl
