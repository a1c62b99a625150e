use Rattle.std.proofs.Common.{◌≡◌, ◌∙◌, sym, ap, true≢false}
use Rattle.aead.specs.declared.suite.Suite.{Suite}
use Rattle.aead.specs.Suites.{construction_of}
use Rattle.capi.specs.Keys.{key_mark, has_aes, has_hash_key}
use Rattle.capi.proofs.Marks.{one_suite}
use Rattle.capi.proofs.stored_key.StoredKey.of_chacha.Goals as goal

pub invariant_of-result : goal.invariant_of-result
invariant_of-result c =
    let by = λ (s : Suite) (is : c.of_key-numbers.result.mark ≡ key_mark s).
    ap construction_of (sym (one_suite c.args.suite s (sym c.of_key-numbers.ensures.mark ∙ is))) ∙ c.requires.by in
    record {
      ready = λ s is has. absurd (true≢false (sym has ∙ ap has_aes (by s is)));
      hashes = λ s is has. absurd (true≢false (sym has ∙ ap has_hash_key (by s is)));
      multiplied = λ s is has. absurd (true≢false (sym has ∙ ap has_hash_key (by s is)));
    }

pub returns : goal.returns
returns c = record {
  keeps = record { mark_is = c.of_key-numbers.ensures.mark; key_is = sym c.of_key-numbers.ensures.key };
  zeros = record {
    padded = c.of_key-numbers.ensures.padded;
    ready_keys_are = λ none. c.of_key-numbers.ensures.ready_keys;
    ghash_key_is = λ none. c.of_key-numbers.ensures.ghash_key;
    multiples_are = λ none. c.of_key-numbers.ensures.multiples;
  };
}
