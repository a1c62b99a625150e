use Rattle.std.proofs.Common.{ℕ, List, [], refl, subst}
use Rattle.poly1305.specs.Code.States.{Holds}
use Rattle.aead.proofs.chacha_poly.NoncedChaChaOnePass.hash.Goals as goal

pub returns : goal.returns
returns c = λ aad.
    let P : List ℕ → Type 0 = λ k. Holds c.new.result k [] in
    (refl, subst P c.one_time_key.ensures c.new.ensures)
