use Rattle.std.proofs.Common.{ℕ, List, length, refl, sym, subst}
use Rattle.poly1305.specs.Code.States.{Holds}
use Rattle.aead.specs.Sealing.{poly_key}
use Rattle.aead.proofs.Maskings.{blocks_and_rest}
use Rattle.aead.proofs.interleaved.mask_first_interleaved.Goals as goal

pub returns-clause-takes : goal.returns-clause-takes
returns-clause-takes c = λ s m h.
    let k = poly_key s.key s.nonce in
    let x : List ℕ = c.apply_and_hash.new.bytes in
    let blocks = c.apply_and_hash.ensures.hashed k m (c.partial_sum-partial.ensures k m h.1 (c.requires.whole s m h)) in
    let all = blocks_and_rest m x (length c.args.piece.now) (sym c.apply_and_hash.auto.bytes) in (
      h.0,
      subst (Holds c.update.new.self k) all
          (c.update.ensures k _ (c.set_sum.ensures k m _ c.apply_and_hash.new.hash h.1 (c.requires.whole s m h) blocks refl)),
    )
