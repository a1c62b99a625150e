use Rattle.std.proofs.Common.{subst}
use Rattle.aead.specs.Code.MessageKeys.{AreAesKeys}
use Rattle.aead.specs.declared.pieces.keys.AesKeys.{AesKeys}
use Rattle.aead.proofs.pieces.aes_pass.mask.Goals as goal

pub returns-in-Expanded-clause-masks : goal.returns-in-Expanded-clause-masks
returns-in-Expanded-clause-masks g c = λ s fed by keys.
    let k = subst (λ (x : AesKeys). AreAesKeys g.R.Count.MaskCount.by g.R.HashOrder.order x s) c.in-Expanded.is keys in
    c.mask_expanded.ensures.masks s fed by k
