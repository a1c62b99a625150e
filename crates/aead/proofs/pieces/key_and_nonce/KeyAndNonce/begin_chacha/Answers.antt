use Rattle.std.proofs.Common.{◌≡◌, length, refl, sym, ap, subst, ◌∙◌}
use Rattle.aead.specs.Suites.{Construction, construction_of, key_length}
use Rattle.aead.specs.Sealing.{Setting}
use Rattle.aead.specs.KeyedPasses.{setting_of, cipher_key}
use Rattle.aead.specs.PassStates.{IsMessageSecret}
use Rattle.aead.proofs.KeyedPasses.{chacha_key_length, has_keys}
use Rattle.aead.proofs.pieces.key_and_nonce.KeyAndNonce.begin_chacha.Goals as goal

pub returns : goal.returns
returns c = λ suite by fits.
    let key = c.args.key.now in
    let s : Setting = setting_of suite key c.args.nonce.now c.args.aad.now in
    let long : length key ≡ key_length suite =
    c.bytes.ensures.are_bytes.length_is ∙ sym (chacha_key_length suite by) in
    let keyed : IsMessageSecret (construction_of suite) c.one_time_key.result s =
    subst (λ (x : Construction). IsMessageSecret x c.one_time_key.result s) (sym by) c.one_time_key.ensures in (
      has_keys c.of.result s c.bytes.result.now
          (c.bytes.ensures.value ∙ ap (λ (x : Construction). cipher_key x s) (sym by))
          (ap length c.bytes.ensures.value ∙ long)
          long c.of.ensures.nonce_length c.of.ensures.key c.of.ensures.padded c.of.ensures.nonce,
      c.initial.ensures s by keyed refl fits,
    )
