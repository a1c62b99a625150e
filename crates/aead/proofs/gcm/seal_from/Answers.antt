use Rattle.std.proofs.Common.{◌≡◌, ℕ, ◌+◌, ◌-◌, List, [], length, ap, sym, subst, ◌∙◌, arith}
use Rattle.aead.specs.Suites.{is_one_pass}
use Rattle.aead.specs.Sealing.{Fits, tag_over}
use Rattle.aead.specs.Code.GcmStarts.{IsStart}
use Rattle.aead.proofs.GcmStarts.{start_masks_text}
use Rattle.aead.proofs.Opens.{seals_one_pass}
use Rattle.aead.proofs.gcm.seal_from.Goals as goal

pub returns : goal.returns
returns g c = λ s is by_key aad fits.
    let text : List ℕ = c.args.text.now in
    let start : List ℕ = c.args.start.now in
    let out : List ℕ = c.xor_into.new.dst in
    let same : length out ≡ length text = c.xor_into.auto.dst in
    let out_is = c.xor_into.ensures ∙ start_masks_text start s [] text (16 + length text - 16) is (omega arith) in
    let still : Fits s out = record { aad_fits = fits.aad_fits; text_fits = omega (arith, same, fits.text_fits) } in
    seals_one_pass s [] text out c.short_tag.result (ap is_one_pass is.by_gcm) fits c.tells_bytes.ensures.bytes out_is
    (c.short_tag.ensures s (subst (IsStart start s) (sym same) is) by_key aad still
    ∙ ap (tag_over s.suite s.key s.nonce s.aad) out_is)
