use Rattle.std.proofs.Common.{ℕ, List, [], refl, subst, ◌∙◌}
use Rattle.poly1305.specs.Code.States.{Holds}
use Rattle.aead.proofs.KeyStreamStart.{poly_key_first}
use Rattle.aead.proofs.chacha_poly.BufferedChaChaOnePass.hash.Goals as goal

pub returns : goal.returns
returns c = λ aad.
    let m = c.args.self.now in
    let P : List ℕ → Type 0 = λ k. Holds c.new.result k [] in (
      refl,
      subst P (c.first_32.ensures
          ∙ poly_key_first m.key.now m.nonce.now m.start.now m.has_a_block m.start_is) c.new.ensures,
    )
