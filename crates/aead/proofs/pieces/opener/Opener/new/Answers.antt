use Rattle.std.proofs.Common.{[], subst}
use Rattle.aead.specs.Sealing.{Setting}
use Rattle.aead.specs.Ciphers.{setting}
use Rattle.aead.specs.AnyCiphers.{keyed_of}
use Rattle.aead.specs.Pieces.{IsInFirstPass}
use Rattle.aead.proofs.pieces.opener.Opener.new.Goals as goal

pub returns : goal.returns
returns c =
    let s : Setting = setting (keyed_of c.args.cipher.now) c.args.nonce.now c.args.aad.now in
    let begin = c.keys_and_state.ensures in
    record {
      keys = (begin.keys c.args.aad.now).0;
      bytes = (begin.keys c.args.aad.now).1;
      state = subst (λ t. IsInFirstPass c.first_pass-state.result s t []) c.bytes.ensures.value
          (c.first_pass-state.ensures s begin.holds);
    }
