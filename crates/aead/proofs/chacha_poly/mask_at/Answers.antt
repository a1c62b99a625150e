use Rattle.std.proofs.Common.{ℕ, List, subst, sym, arith}
use Rattle.chacha.specs.Code.States.{Holds}
use Rattle.aead.proofs.chacha_poly.mask_at.Goals as goal

pub returns : goal.returns
returns c = λ s tag by key nonce. (
  by,
  subst (λ (k : List ℕ). Holds c.at.result k s.nonce 1 c.args.done) (sym key)
      (subst (λ (n : List ℕ). Holds c.at.result c.args.key.now n 1 c.args.done) (sym nonce)
      (c.at.ensures 1 c.args.done (omega arith))),
)
