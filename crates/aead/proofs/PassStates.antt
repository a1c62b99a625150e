-- Facts about the numbers of a pass.
use Rattle.std.proofs.Common.{[], refl}
use Rattle.octets.specs.Bytes.{sum_below}
use Rattle.poly1305.specs.Poly1305.{block_sum}
use Rattle.gf128.specs.Orders.{Straight, Reversed}
use Rattle.gf128.proofs.Sums.{block_sum_none}
use Rattle.aead.specs.Suites.{Construction, ByChaCha, ByGcm, ByGcmSiv}
use Rattle.aead.specs.Sealing.{Setting}
use Rattle.aead.specs.PassStates.{IsSumOf}

-- the sum of each hash over no bytes is 0
pub no_sum : (by : Construction) (s : Setting) → IsSumOf by 0 0 s []
unfolding block_sum sum_below
no_sum ByChaCha s = refl
no_sum ByGcm s = (λ k serves. block_sum_none Straight k [], refl)
no_sum ByGcmSiv s = (∣ (λ k serves. block_sum_none Reversed k []) ∣₁, refl)
