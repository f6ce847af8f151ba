use Rattle.std.proofs.Common.{arith}
use Rattle.variants.proofs.variant.Variant.new.Goals as goal

pub invariant_of-result : goal.invariant_of-result
invariant_of-result c = record { line_places = omega (arith, c.in_ok-lines.ensures.capacity); byte_places = omega (arith, c.in_ok-bytes.ensures.len) }
