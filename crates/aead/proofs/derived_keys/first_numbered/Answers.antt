use Rattle.std.proofs.Common.{◌≡◌, ℕ, ◌+◌, List, ◌++◌, length, refl, ap, ap₂, ◌∙◌, append_assoc}
use Rattle.std.proofs.lemmas.List.{length-append}
use Rattle.std.specs.Int.{w32, to_le_bytes}
use Rattle.aes.proofs.StreamSteps.{joined_blocks}
use Rattle.aead.proofs.derived_keys.first_numbered.Goals as goal

pub returns : goal.returns
returns c =
    let nonce : List ℕ = c.args.nonce.now in
    let f : ℕ → List ℕ = λ q. to_le_bytes w32 q ++ nonce in
    let long : (q : ℕ) → length (f q) ≡ 16 =
    λ q. length-append (to_le_bytes w32 q) nonce ∙ ap (λ n. 4 + n) c.told-nonce in
    let front : c.joined-front.result ≡ f 0 ++ f 1 =
    c.joined-front.ensures ∙ ap₂ (λ a b. a ++ b) c.numbered.ensures c.numbered-2.ensures in
    let back : c.joined-back.result ≡ f 2 ++ f 3 =
    c.joined-back.ensures ∙ ap₂ (λ a b. a ++ b) c.numbered-3.ensures c.numbered-4.ensures in
    joined_blocks (f 0) (f 1) (f 2) (f 3) c.joined.result f (long 0) (long 1) (long 2) (long 3)
    (c.joined.ensures ∙ ap₂ (λ a b. a ++ b) front back ∙ append_assoc (f 0) (f 1) (f 2 ++ f 3))
    refl refl refl refl
