use Rattle.std.proofs.Common.{subst}
use Rattle.gf128.specs.Orders.{Reversed}
use Rattle.aead.specs.Suites.{ByGcmSiv}
use Rattle.aead.specs.declared.pieces.keys.AesKeys.{AesKeys}
use Rattle.aead.specs.Code.MessageKeys.{AreAesKeys}
use Rattle.aead.proofs.pieces.keys.siv_tag.Goals as goal

pub returns-in-Expanded : goal.returns-in-Expanded
returns-in-Expanded c = λ s m by keys nonce digest.
    let k = subst (λ (x : AesKeys). AreAesKeys ByGcmSiv Reversed x s) c.in-Expanded.is keys in
    c.encrypted_tag.ensures s m by k.0 nonce digest
