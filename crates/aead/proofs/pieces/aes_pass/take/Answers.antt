use Rattle.std.proofs.Common.{subst, sym}
use Rattle.aead.specs.Code.MessageKeys.{AreAesKeys}
use Rattle.aead.specs.declared.pieces.keys.AesKeys.{AesKeys}
use Rattle.aead.proofs.pieces.aes_pass.take.Goals as goal

pub returns-in-Expanded-clause-takes : goal.returns-in-Expanded-clause-takes
returns-in-Expanded-clause-takes g c = λ s bytes by keys.
    let k = subst (λ (x : AesKeys). AreAesKeys g.R.Count.MaskCount.by g.R.HashOrder.order x s) c.in-Expanded.is keys in
    c.take.ensures.takes s bytes (by, rw (sym c.by.ensures) at k.1)
