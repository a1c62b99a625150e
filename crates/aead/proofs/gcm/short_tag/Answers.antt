use Rattle.std.proofs.Common.{[], sym, ◌∙◌, length, arith}
use Rattle.std.proofs.lemmas.Grind.{merely}
use Rattle.gf128.specs.Orders.{Straight}
use Rattle.aead.specs.Suites.{ByGcm}
use Rattle.aead.specs.Sealing.{hash_key}
use Rattle.aead.specs.Code.States.{HeldByBlocks}
use Rattle.aead.proofs.GcmStarts.{start_masks_tag}
use Rattle.aead.proofs.gcm.short_tag.Goals as goal

pub returns : goal.returns
returns g c = λ s is by_key aad fits.
    let body = c.args.body.now in
    let held : HeldByBlocks ByGcm Straight (λ m. g.M.Multiply.key_bytes m.now) c.with.result s [] =
    (is.by_gcm, merely (c.with.ensures (hash_key s.key) by_key)) in
    let none = c.begin.ensures.holds s aad (rw (sym aad) fits.aad_fits) (rw (sym c.empty-authenticator.ensures.0) at held) in
    let fed = c.update.ensures.holds s [] none (omega (arith, fits.text_fits)) in
    c.masked_tag.ensures s body is.by_gcm
    (c.new.ensures.value ∙ c.copy_from_slice.ensures.after ∙ start_masks_tag c.args.start.now s (length body) is)
    (c.digest.ensures.digest s body fed)
