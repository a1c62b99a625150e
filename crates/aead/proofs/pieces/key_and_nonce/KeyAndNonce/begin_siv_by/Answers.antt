use Rattle.std.proofs.Common.{ap, sym, subst, true≢false, ◌∙◌}
use Rattle.aes.specs.Cipher.{IsKey}
use Rattle.aead.specs.Suites.{is_one_pass}
use Rattle.aead.specs.Sealing.{encryption_key}
use Rattle.aead.specs.KeyedPasses.{setting_of}
use Rattle.aead.proofs.ByteMasks.{mask_of_small}
use Rattle.aead.proofs.pieces.key_and_nonce.KeyAndNonce.begin_siv_by.Goals as goal

pub returns-clause-bytes : goal.returns-clause-bytes
returns-clause-bytes c = λ tag.
    mask_of_small (setting_of c.args.suite c.args.cipher.now c.args.nonce.now c.args.aad.now) tag
    (λ e. absurd (true≢false (ap is_one_pass (sym e ∙ c.requires.by))))
    (λ _. subst (λ x. IsKey (encryption_key c.args.cipher.now x)) c.in_ok-nonce.ensures.0 c.begin_siv.ensures.is_key)
