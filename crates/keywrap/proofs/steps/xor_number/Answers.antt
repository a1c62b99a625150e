use Rattle.std.proofs.Common.{refl, ap, ◌∙◌}
use Rattle.octets.specs.Bytes.{xor_bytes}
use Rattle.octets.proofs.Xors.{zip2_xor}
use Rattle.keywrap.proofs.steps.xor_number.Goals as goal

pub returns : goal.returns
returns c = zip2_xor _ c.args.half c.to_be_bytes.result (λ x y. refl) ∙ ap (xor_bytes c.args.half) c.to_be_bytes.ensures
