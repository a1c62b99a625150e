use Rattle.std.proofs.Common.{ℕ, List, [], ◌∙◌, ap, arith, refl, take, drop}
use Rattle.std.proofs.lemmas.List.{length-drop, length-take-le, drop_at}
use Rattle.chacha.proofs.Applied.{applied}
use Rattle.chacha.proofs.stream.ChaStream.apply_and_hash.Goals as goal

pub returns-then-bytes-begun-clause-hashed : goal.returns-then-bytes-begun-clause-hashed
returns-then-bytes-begun-clause-hashed g c = λ k m h.
    c.take_all.ensures k _ (g.met.W.BlockWork.grows c.args.hash.now [] _ k m h)

pub returns-clause-did : goal.returns-clause-did
returns-clause-did g c = λ key nonce first made held within.
    let was : List ℕ = c.args.bytes.now in
    let b : ℕ = c.args.begun in
    applied c.args.self.now _ (drop b was) _ refl refl
    (omega (arith, c.mask_interleaved.auto.bytes, length-drop b was, c.requires))
    (ap (drop b) c.mask_interleaved.ensures.masked ∙ drop_at (take b was) _ b (length-take-le b was c.requires))
    key nonce first made held within
