use Rattle.std.proofs.Common.{refl, sym}
use Rattle.aead.specs.Ciphers.{setting}
use Rattle.aead.proofs.pieces.siv.SivAbsorb.new.Goals as goal

pub returns : goal.returns
returns c =
    let s = setting c.args.cipher.now c.args.nonce.now c.args.aad.now in
    let keys = c.new-keys.ensures c.args.aad.now in
    let pass = c.initial_state.ensures s keys refl (rw (sym c.suite.ensures.value) c.in_ok-check_aad.ensures) in
    record { keys = keys; state = c.first_reading-state.ensures s pass }
