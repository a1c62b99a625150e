use Rattle.std.proofs.Common.{◌≡◌, ℕ, List, length, take, drop, replicate, sym, ap, subst, ◌∙◌}
use Rattle.std.proofs.lemmas.List.{take_at, drop_at}
use Rattle.gf128.specs.Orders.{Reversed, Serves}
use Rattle.aead.specs.Sealing.{authentication_key}
use Rattle.aead.proofs.gcm_siv.message_secret.Goals as goal

pub returns : goal.returns
returns c = λ s serves.
    let auth = authentication_key s.key s.nonce in
    let first : take 16 c.joined.result ≡ c.args.multiplier_key.now =
    ap (take 16) c.joined.ensures
    ∙ take_at c.bytes.result.now _ 16 (ap length c.bytes.ensures.value ∙ c.bytes.ensures.are_bytes.length_is)
    ∙ c.bytes.ensures.value in
    let zeros : drop 16 c.joined.result ≡ replicate 16 0 =
    ap (drop 16) c.joined.ensures
    ∙ drop_at c.bytes.result.now _ 16 (ap length c.bytes.ensures.value ∙ c.bytes.ensures.are_bytes.length_is) in
    (subst (λ (k : List ℕ). Serves Reversed auth k) (sym first) serves, zeros)
