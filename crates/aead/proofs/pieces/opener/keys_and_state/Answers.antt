use Rattle.std.proofs.Common.{ap, ap₂, sym, subst, true≢false, ◌∙◌}
use Rattle.std.proofs.Common.{List, ℕ, []}
use Rattle.aes.specs.Cipher.{IsKey}
use Rattle.aead.specs.declared.suite.Suite.{Suite}
use Rattle.aead.specs.Suites.{construction_of, is_one_pass}
use Rattle.aead.specs.Sealing.{Setting, encryption_key}
use Rattle.aead.specs.Ciphers.{Keyed, setting}
use Rattle.aead.specs.AnyCiphers.{keyed_of}
use Rattle.aead.specs.PassStates.{HoldsNumbers}
use Rattle.aead.specs.KeyedPasses.{setting_of, HasKeys}
use Rattle.aead.specs.Code.MessageKeys.{AreKeysOf}
use Rattle.aead.specs.Pieces.{MasksByBytes}
use Rattle.aead.proofs.ByteMasks.{mask_of_small}
use Rattle.aead.proofs.KeyedPasses.{has_keys_with}
use Rattle.aead.proofs.pieces.opener.keys_and_state.Goals as goal

pub returns-in-OnePass-clause-keys : goal.returns-in-OnePass-clause-keys
returns-in-OnePass-clause-keys c = λ any.
    let lent = c.keys.ensures any in
    subst (λ (k : Keyed). let s = setting k c.args.nonce.now any in AreKeysOf c.keys.result s × MasksByBytes s)
    (sym (ap keyed_of c.in-OnePass.is)) (lent.0, lent.1)

pub returns-in-OnePass-clause-holds : goal.returns-in-OnePass-clause-holds
returns-in-OnePass-clause-holds c =
    subst (λ (k : Keyed). HoldsNumbers c.initial_state.result (setting k c.args.nonce.now c.args.aad.now) [])
    (sym (ap keyed_of c.in-OnePass.is)) c.initial_state.ensures

pub returns-in-Siv-clause-keys : goal.returns-in-Siv-clause-keys
returns-in-Siv-clause-keys c = λ any.
    let s : Setting = setting (keyed_of c.args.cipher.now) c.args.nonce.now any in
    let suite = c.suite-suite.ensures.value ∙ sym (ap (λ k. (keyed_of k).suite) c.in-Siv.is) in
    let by = ap construction_of (sym suite) ∙ c.suite-suite.ensures.by_gcm_siv in
    let key = c.key.ensures.key ∙ sym (ap (λ k. (keyed_of k).key) c.in-Siv.is) in (
      (
        suite,
        subst (λ (s : Setting). HasKeys c.begin_siv.new.self s)
            (ap₂ (λ (x : Suite) (y : List ℕ). setting_of x y c.args.nonce.now any) suite key)
            (has_keys_with _ _ any c.begin_siv.ensures.holds.0),
      ),
      λ tag. mask_of_small s tag (λ e. absurd (true≢false (ap is_one_pass (sym e ∙ by))))
          (λ e. subst (λ (x : List ℕ). IsKey (encryption_key x c.args.nonce.now)) key c.begin_siv.ensures.is_key),
    )

pub returns-in-Siv-clause-holds : goal.returns-in-Siv-clause-holds
returns-in-Siv-clause-holds c =
    let suite = c.suite-suite.ensures.value ∙ sym (ap (λ k. (keyed_of k).suite) c.in-Siv.is) in
    let key = c.key.ensures.key ∙ sym (ap (λ k. (keyed_of k).key) c.in-Siv.is) in
    subst (λ (s : Setting). HoldsNumbers c.begin_siv.new.state s [])
    (ap₂ (λ (x : Suite) (y : List ℕ). setting_of x y c.args.nonce.now c.args.aad.now) suite key) c.begin_siv.ensures.holds.1
