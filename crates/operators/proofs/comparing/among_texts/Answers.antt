use Rattle.std.proofs.Common.{◌∙◌}
use Rattle.std.specs.Str.{bytes_eq}
use Rattle.operators.proofs.Among.{contained, eq_text, same_text-turned}
use Rattle.operators.proofs.comparing.among_texts.Goals as goal

pub returns : goal.returns
returns c = c.contains.ensures.value ∙ contained eq_text bytes_eq same_text-turned c.args.x.now c.args.texts.now
