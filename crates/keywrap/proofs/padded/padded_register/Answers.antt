use Rattle.std.proofs.Common.{ap, ◌∙◌, ◌++◌}
use Rattle.keywrap.proofs.PaddedTexts.{started}
use Rattle.keywrap.proofs.padded.padded_register.Goals as goal

pub returns : goal.returns
returns g c =
    started c.args.text.now c.alternative_value.result c.extend_from_slice.new.self.items
    c.extend_from_slice-2.new.self.items c.extend_from_slice-3.new.self.items
    c.alternative_value.ensures (c.in_ok-extend_from_slice.ensures.items
    ∙ ap (λ x. x ++ c.alternative_value.result) c.in_ok-bytes.ensures.items)
    c.in_ok-extend_from_slice-2.ensures.items c.in_ok-extend_from_slice-3.ensures.items
