-- A key stream after more of its bytes were used.
use Rattle.std.proofs.Common.{◌≡◌, ℕ, ◌+◌, ◌*◌, ◌^◌, ◌≤◌, List, ◌∙◌, ap, ap₂, arith, length}
use Rattle.octets.specs.Masked.{masked}
use Rattle.chacha.specs.Stream.{key_stream_byte}
use Rattle.chacha.specs.Code.States.{Holds, Applied}
use Rattle.chacha.specs.declared.stream.ChaStream.{ChaStream}
use Rattle.chacha.proofs.Masking.{masked_same, key_stream_byte-first}

-- `Applied` holds if bytes were masked at the offset of a stream, and the offset moved on by their number
pub applied : (a b : ChaStream) (was now : List ℕ) → b.key ≡ a.key → b.nonce ≡ a.nonce
    → b.offset ≡ a.offset + length was → now ≡ masked (key_stream_byte a.key a.nonce 0) a.offset was
    → (key nonce : List ℕ) (first made : ℕ) → Holds a key nonce first made
    → first * 64 + made + length was ≤ 2 ^ 38 → Applied b key nonce first made was now
applied a b was now same_key same_nonce moved is key nonce first made held within = record {
  holds = record {
    key_is = same_key ∙ held.key_is;
    nonce_is = same_nonce ∙ held.nonce_is;
    offset_is = omega (arith, moved, held.offset_is);
  };
  there = λ i before. omega (arith, before, within);
  within = within;
  masked_is =
      is ∙ ap₂ (λ (k n : List ℕ). masked (key_stream_byte k n 0) a.offset was) held.key_is held.nonce_is
      ∙ ap (λ (p : ℕ). masked (key_stream_byte key nonce 0) p was) held.offset_is
      ∙ masked_same (key_stream_byte key nonce 0) (key_stream_byte key nonce first) (first * 64 + made)
      made was (key_stream_byte-first key nonce first made);
}
