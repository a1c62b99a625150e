use Rattle.std.proofs.Common.{◌≡◌, ◌∙◌, sym, ap, subst, true≢false}
use Rattle.aes.specs.Code.ReadyKeys.{KeepsReadyKeys}
use Rattle.aead.specs.declared.suite.Suite.{Suite}
use Rattle.aead.specs.Suites.{construction_of}
use Rattle.capi.specs.Keys.{key_mark, first_key, has_aes, has_hash_key}
use Rattle.capi.proofs.Marks.{one_suite}
use Rattle.capi.proofs.stored_key.StoredKey.of_siv.Goals as goal

pub invariant_of-result : goal.invariant_of-result
invariant_of-result c =
    let same = λ (s : Suite) (is : c.of_key-numbers.result.mark ≡ key_mark s).
    one_suite c.args.suite s (sym c.of_key-numbers.ensures.mark ∙ is) in
    let by = λ (s : Suite) (is : c.of_key-numbers.result.mark ≡ key_mark s).
    ap construction_of (sym (same s is)) ∙ c.requires.by in
    record {
      ready = λ s is has. subst (KeepsReadyKeys c.ready_keys-numbers.result)
          (c.expanded.ensures.value ∙ sym c.of_key-numbers.ensures.key
          ∙ ap (λ (x : Suite). first_key x c.of_key-numbers.result.key) (same s is)) c.ready_keys-numbers.ensures;
      hashes = λ s is has. absurd (true≢false (sym has ∙ ap has_hash_key (by s is)));
      multiplied = λ s is has. absurd (true≢false (sym has ∙ ap has_hash_key (by s is)));
    }

pub returns : goal.returns
returns c = record {
  keeps = record { mark_is = c.of_key-numbers.ensures.mark; key_is = sym c.of_key-numbers.ensures.key };
  zeros = record {
    padded = c.of_key-numbers.ensures.padded;
    ready_keys_are = λ none. absurd (true≢false (sym (ap has_aes c.requires.by) ∙ none));
    ghash_key_is = λ none. c.of_key-numbers.ensures.ghash_key;
    multiples_are = λ none. c.of_key-numbers.ensures.multiples;
  };
}
