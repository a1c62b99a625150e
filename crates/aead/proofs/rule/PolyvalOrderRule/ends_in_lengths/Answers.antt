use Rattle.std.proofs.Common.{◌<◌, ◌^◌, ap, refl, arith}
use Rattle.aead.specs.Suites.{text_limit, text_limit_by, aad_limit, aad_limit_by}
use Rattle.aead.proofs.Tags.{polyval_over}
use Rattle.aead.proofs.rule.PolyvalOrderRule.ends_in_lengths.Goals as goal

pub returns : goal.returns
returns c = λ s m by fits.
    let aad_most : aad_limit s.suite < 2 ^ 61 = rw (ap aad_limit_by by) (omega arith) in
    let most : text_limit s.suite < 2 ^ 61 = rw (ap text_limit_by by) (omega arith) in
    (omega (arith, fits.aad_fits, aad_most), omega (arith, fits.text_fits, most), polyval_over s m _ _ _ by refl refl refl)
