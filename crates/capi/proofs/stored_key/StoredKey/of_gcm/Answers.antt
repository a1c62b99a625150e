use Rattle.std.proofs.Common.{◌≡◌, ◌∙◌, sym, ap, subst, true≢false}
use Rattle.aes.specs.Code.ReadyKeys.{KeepsReadyKeys}
use Rattle.gf128.specs.Code.PlainMultiples.{HasMultiples}
use Rattle.aead.specs.declared.suite.Suite.{Suite}
use Rattle.aead.specs.Sealing.{hash_key}
use Rattle.capi.specs.Keys.{key_mark, first_key, has_aes, has_hash_key}
use Rattle.capi.proofs.Marks.{one_suite}
use Rattle.capi.proofs.stored_key.StoredKey.of_gcm.Goals as goal

pub invariant_of-result : goal.invariant_of-result
invariant_of-result c =
    let own = λ (s : Suite) (is : c.of_key-numbers.result.mark ≡ key_mark s).
    c.expanded-aes.ensures.value ∙ sym c.of_key-numbers.ensures.key
    ∙ ap (λ (x : Suite). first_key x c.of_key-numbers.result.key)
    (one_suite c.args.suite s (sym c.of_key-numbers.ensures.mark ∙ is)) in
    let hashed = λ (s : Suite) (is : c.of_key-numbers.result.mark ≡ key_mark s).
    c.hash_subkey-ghash_key.ensures.value ∙ ap hash_key (own s is) in
    record {
      ready = λ s is has. subst (KeepsReadyKeys c.ready_keys-numbers.result) (own s is) c.ready_keys-numbers.ensures;
      hashes = λ s is has. c.bytes-bytes.ensures.value ∙ hashed s is;
      multiplied = λ s is has. subst (HasMultiples c.plain_multiples-numbers.result) (c.of.ensures ∙ hashed s is)
          c.plain_multiples-numbers.ensures;
    }

pub returns : goal.returns
returns c = record {
  keeps = record { mark_is = c.of_key-numbers.ensures.mark; key_is = sym c.of_key-numbers.ensures.key };
  zeros = record {
    padded = c.of_key-numbers.ensures.padded;
    ready_keys_are = λ none. absurd (true≢false (sym (ap has_aes c.requires.by) ∙ none));
    ghash_key_is = λ none. absurd (true≢false (sym (ap has_hash_key c.requires.by) ∙ none));
    multiples_are = λ none. absurd (true≢false (sym (ap has_hash_key c.requires.by) ∙ none));
  };
}
