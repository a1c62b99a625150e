use Rattle.std.proofs.Common.{◌≡◌, ◌<◌, ◌%◌, ◌/◌, ℕ, ◌∙◌, ap, refl, arith}
use Rattle.aes.specs.Cipher.{cipher}
use Rattle.aes.proofs.counter.Counter.at.Goals as goal
use Rattle.aes.proofs.counter.Counter.at.Goals.{then-used-eq0, else-used-eq0}

none : (n : ℕ) → 0 < n → n ≡ 0 → ⊥
none n l e = omega (arith, l, e)

pub returns : goal.returns
returns g c = λ knows. record {
  first_is = refl;
  block_count_is = refl;
  used_is = refl;
  mask_is = λ some.
      let first = c.args.first.now in
      let key = c.args.key.now in
      elim c.if-used-eq0.branch [
        | then-used-eq0 w ↦ absurd (none (c.args.position % 16) some w.if-used-eq0.true)
        | else-used-eq0 w ↦ w.mask-is ∙ w.encrypt-mask.ensures knows ∙ ap (cipher key) (w.block.ensures.value
            ∙ g.met.C.Count.wraps first (c.args.position / 16))
      ];
}
