use Rattle.std.proofs.Common.{◌≡◌, Ok, refl, ap, sym, take, ◌∙◌, arith}
use Rattle.policy.specs.Accepted.{lines_of}
use Rattle.policy.specs.Check.{check_of}
use Rattle.policy.specs.Spelt.{spelt}
use Rattle.std.specs.Prelude.{is_ok}
use Rattle.variants.specs.VisitingAll.{lines_visiting_all}
use Rattle.variants.proofs.Shown.{read_lines, take-written}
use Rattle.variants.proofs.Visiting.{variant_spelt}
use Rattle.variants.proofs.variant.Variant.write.Goals as goal

pub returns : goal.returns
returns c =
    let file = c.args.file.now in
    let ls = lines_of c.reload.new.self in
    let read : check_of file ≡ Ok ls = read_lines file c.reload.result ls c.reload.ensures.value c.in_ok-ok.ensures.variant in
    let lines : c.as_slice.result.now ≡ lines_visiting_all ls = cc in
    let shown = take-written (spelt c.as_slice.result.now) c.as_mut_slice.result.now c.write_lines-written.new.out _ c.write_lines-written.result c.unwrap.result c.args.self.now.bytes.len c.write_lines-written.ensures.written c.unwrap.ensures (omega arith) in
    record {
      accepted = (λ _. ap is_ok read, λ _. refl);
      written = ap (λ s. take c.unwrap.result s) c.as_slice-2.ensures.value ∙ shown ∙ ap spelt lines ∙ sym (variant_spelt file ls read);
    }
