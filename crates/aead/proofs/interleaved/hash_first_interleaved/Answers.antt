use Rattle.std.proofs.Common.{◌≡◌, ℕ, List, ◌++◌, length, refl, sym, subst, ap, ◌∙◌, arith, drop, take, ◌*◌, ◌/◌, ◌-◌, replicate}
use Rattle.poly1305.specs.Code.States.{Holds}
use Rattle.aead.specs.Sealing.{poly_key}
use Rattle.aead.specs.Code.Masks.{chacha_masks}
use Rattle.aead.proofs.Maskings.{blocks_and_rest}
use Rattle.std.proofs.Math.Seq.{take-append_seam}
use Rattle.std.proofs.lemmas.List.{length-drop, length-take-le}
use Rattle.aead.proofs.interleaved.hash_first_interleaved.Goals as goal

pub returns-clause-masks : goal.returns-clause-masks
returns-clause-masks c = chacha_masks c.args.mask.now _ c.args.piece.now _ c.hash_and_apply.ensures.did

pub returns-clause-takes : goal.returns-clause-takes
returns-clause-takes c = λ s m h.
    let k = poly_key s.key s.nonce in
    let x : List ℕ = c.args.piece.now in
    let n : ℕ = length x / 16 * 16 in
    let r : List ℕ = take (length x - n) (drop n x) in
    let blocks = c.hash_and_apply.ensures.hashed k m (c.partial_sum-partial.ensures k m h.1 (c.requires s m h)) in
    let rest : take (length x - n) c.padded-rest.result ≡ r =
    ap (take (length x - n)) c.padded-rest.ensures
    ∙ ap (λ (j : ℕ). take j (r ++ replicate (16 - length r) 0))
    (sym (length-take-le (length x - n) (drop n x) (omega (arith, length-drop n x))))
    ∙ take-append_seam r (replicate (16 - length r) 0) in (
      h.0,
      subst (Holds c.update.new.self k)
          (ap (λ y. (m ++ take n x) ++ y) rest ∙ blocks_and_rest m x (length x) refl)
          (c.update.ensures k _ (c.set_sum.ensures k m _ c.hash_and_apply.new.hash h.1 (c.requires s m h) blocks refl)),
    )
