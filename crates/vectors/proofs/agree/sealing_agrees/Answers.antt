use Rattle.std.proofs.Common.{arith}
use Rattle.aead.specs.AnyCiphers.{keyed_of}
use Rattle.aead.specs.Ciphers.{setting}
use Rattle.aead.specs.Sealing.{Opened}
use Rattle.vectors.specs.Code.Views.{bytes_in}
use Rattle.vectors.proofs.AgreeLemmas.{none_is}
use Rattle.vectors.proofs.agree.sealing_agrees.Goals as goal

pub returns-then-count-lt16 : goal.returns-then-count-lt16
returns-then-count-lt16 g c =
    let s = setting (keyed_of c.args.cipher.now) c.args.nonce.now c.args.aad.now in
    let sealed = bytes_in c.args.sealed in
    none_is (Opened s sealed) c.args.text c.is_none.result
    (λ x o. let size = (c.sealing_has_one_text.ensures s sealed x o).0 in
    omega (arith, size, c.byte_count-count.ensures, c.if-count-lt16.true))
    c.is_none.ensures
