use Rattle.std.proofs.Common.{subst, sym}
use Rattle.aead.specs.Code.MessageKeys.{AreAesKeys}
use Rattle.aead.specs.declared.pieces.keys.AesKeys.{AesKeys}
use Rattle.aead.proofs.pieces.aes_pass.digest.Goals as goal

pub returns-in-Expanded : goal.returns-in-Expanded
returns-in-Expanded g c = λ s bytes by keys h.
    let k = subst (λ (x : AesKeys). AreAesKeys g.R.Count.MaskCount.by g.R.HashOrder.order x s) c.in-Expanded.is keys in
    c.digest.ensures s bytes (by, rw (sym c.by.ensures) at k.1) h
