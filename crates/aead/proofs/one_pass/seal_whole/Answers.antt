use Rattle.std.proofs.Common.{ℕ, List, [], sym, subst, refl, arith}
use Rattle.aead.specs.Sealing.{Setting, Fits, mask_of}
use Rattle.aead.specs.Ciphers.{setting}
use Rattle.aead.specs.declared.step.Order.TheVariants.{MaskFirst}
use Rattle.aead.specs.Code.States.{HoldsAuthenticator}
use Rattle.aead.specs.Code.Masks.{none_hashed}
use Rattle.aead.proofs.Opens.{seals_one_pass}
use Rattle.aead.proofs.one_pass.seal_whole.Goals as goal

pub returns : goal.returns
returns g c =
    let s : Setting = setting (g.N.OnePass.keyed c.args.message.now) (g.N.OnePass.nonce c.args.message.now)
    c.args.aad.now in
    let fits : Fits s c.args.text.now =
    record { aad_fits = c.requires.aad_fits; text_fits = c.requires.text_fits } in
    let P : List ℕ → Type 0 = λ x. HoldsAuthenticator g.N.Hash.TagHash.held c.begin.new.self s x in
    let hash = rw (sym c.empty-authenticator.ensures.0) at (c.hash.ensures c.args.aad.now) in
    let none = subst P (sym (none_hashed MaskFirst (mask_of s [])))
    (c.begin.ensures.holds s refl c.requires.aad_fits hash) in
    let fed = c.step.ensures.step s [] [] (c.mask-mask.ensures c.args.aad.now []) none (omega (arith, fits.text_fits)) in
    seals_one_pass s [] c.args.text.now c.step.new.piece c.tag.result
    (g.met.N.OnePass.one_pass c.args.message.now) fits c.tells_bytes.ensures.bytes fed.2
    (c.tag.ensures c.args.aad.now _ (c.digest.ensures.digest s _ fed.1))
