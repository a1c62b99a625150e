use Rattle.std.proofs.Common.{take, sym, ap, arith, ◌∙◌}
use Rattle.aead.specs.declared.suite.Suite.{Suite}
use Rattle.aead.specs.Suites.{construction_of, key_length}
use Rattle.aead.proofs.KeyedPasses.{chacha_key, gcm_key, siv_key}
use Rattle.aead.proofs.pieces.key_and_nonce.KeyAndNonce.keys.Goals as goal

pub returns-in-ChaChaPoly-clause-keys : goal.returns-in-ChaChaPoly-clause-keys
returns-in-ChaChaPoly-clause-keys c = λ s same h.
    let by = ap construction_of same ∙ sym c.construction.ensures ∙ c.in-ChaChaPoly.is in
    record { by = by; cipher = chacha_key c.args.self.now s by (omega arith) h; nonce_is = h.nonce_is }

pub returns-in-Gcm-clause-keys : goal.returns-in-Gcm-clause-keys
returns-in-Gcm-clause-keys c = λ s same h.
    let p = c.args.self.now in
    let by = ap construction_of same ∙ sym c.construction.ensures ∙ c.in-Gcm.is in
    record {
      by = by;
      cipher = ap (λ (x : Suite). take (key_length x) p.key) (sym same) ∙ gcm_key p s by h;
      nonce_is = h.nonce_is;
    }

pub returns-in-GcmSiv-clause-keys : goal.returns-in-GcmSiv-clause-keys
returns-in-GcmSiv-clause-keys c = λ s same h.
    let p = c.args.self.now in
    let by = ap construction_of same ∙ sym c.construction.ensures ∙ c.in-GcmSiv.is in
    record {
      by = by;
      cipher = ap (λ (x : Suite). take (key_length x) p.key) (sym same) ∙ siv_key p s by h;
      nonce_is = h.nonce_is;
    }
