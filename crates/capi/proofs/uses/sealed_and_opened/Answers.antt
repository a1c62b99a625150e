use Rattle.aead.specs.KeyedPasses.{setting_of}
use Rattle.capi.proofs.Outcomes.{done_to}
use Rattle.capi.proofs.uses.sealed_and_opened.Goals as goal

pub returns : goal.returns
returns c = λ named is zero.
    let s = setting_of named c.args.key.now c.args.nonce.now c.args.aad.now in
    let one = (done_to _ _ _ _ (c.aeadkit_seal-one.ensures.known named is) c.if-one-ne0.false).1 in
    let two = (done_to _ _ _ _ (c.aeadkit_open.ensures.known named is) zero).1 in
    (one, (c.sealing_has_one_text.ensures s _ _ one).1 _ two)
