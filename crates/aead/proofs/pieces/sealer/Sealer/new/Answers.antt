use Rattle.aead.specs.Ciphers.{setting}
use Rattle.aead.specs.AnyCiphers.{one_pass_keyed}
use Rattle.aead.proofs.TakenIn.{empty_text}
use Rattle.aead.proofs.pieces.sealer.Sealer.new.Goals as goal

pub returns : goal.returns
returns c =
    let s = setting (one_pass_keyed c.args.cipher.now) c.args.nonce.now c.args.aad.now in
    record {
      keys = (c.keys.ensures c.args.aad.now).0;
      one_pass = (c.keys.ensures c.args.aad.now).2;
      state = empty_text _ s c.initial_state.ensures;
      known = c.none.ensures _;
    }
