use Rattle.std.proofs.Common.{◌≡◌, ℕ, ◌+◌, ◌-◌, ◌^◌, List, ◌++◌, length, take, drop, max, refl, ap, ap₂, sym, subst, ◌∙◌}
use Rattle.std.proofs.Common.{arith}
use Rattle.std.proofs.lemmas.List.{length-drop, take_at, drop_at, take-append-drop}
use Rattle.octets.specs.Bytes.{xor_bytes}
use Rattle.octets.specs.Masked.{masked}
use Rattle.chacha.specs.Stream.{key_stream_byte}
use Rattle.chacha.specs.Code.States.{Holds}
use Rattle.aead.specs.Suites.{text_limit, text_limit_by}
use Rattle.aead.specs.Code.Masks.{chacha_mask}
use Rattle.aead.proofs.BufferedStreams.{buffered_masked}
use Rattle.aead.proofs.buffered_stream.BufferedStream.mask_first_interleaved.Goals as goal

pub returns-clause-did : goal.returns-clause-did
returns-clause-did c = λ s tag n h room.
    let m = c.args.self.now in
    let q = h.1 in
    let there : ℕ = length m.start.now in
    let was : List ℕ = c.args.piece.now in
    let k : ℕ = c.min-n.result in
    let new : List ℕ = c.mask_first_interleaved.new.piece in
    let first : List ℕ = c.xor_into.new.dst in
    let back : List ℕ = c.split_at_mut-first.result.1.now in
    let size : length first ≡ k = c.xor_into.auto.dst ∙ c.split_at_mut-first.ensures.front_len in
    let rest : drop k (first ++ back) ≡ drop k was = drop_at first back k size ∙ c.split_at_mut-first.ensures.back in
    let long : length (drop k (first ++ back)) ≡ length was - k = ap length rest ∙ length-drop k was in
    let limit : text_limit s.suite ≡ 2 ^ 38 - 64 = ap text_limit_by h.0 in
    let applied = c.mask_first_interleaved.ensures.did s.key s.nonce 0 (max (64 + n) there) q.rest_is
    (omega (arith, room, limit, long, m.short, q.used_is, c.min-n.ensures)) in
    let next : max (64 + n) there + length (drop k (first ++ back)) ≡ max (64 + (n + length was)) there =
    omega (arith, q.used_is, c.min-n.ensures, long) in
    let count : m.used + k - m.used ≡ k = omega arith in
    let P : ℕ → Type 0 = λ j. Holds c.mask_first_interleaved.new.mask s.key s.nonce 0 j in (
      (
        h.0,
        record {
          start_is = q.start_is;
          used_is = omega (arith, q.used_is, c.min-n.ensures);
          rest_is = subst P next applied.holds;
        },
      ),
      sym (take-append-drop k new)
          ∙ buffered_masked s.key s.nonce m.start.now was (take k new) (drop k new) n m.used k (max (64 + n) there)
          q.start_is q.used_is c.min-n.ensures refl
          (c.mask_first_interleaved.ensures.begun ∙ take_at first back k size ∙ c.xor_into.ensures
          ∙ ap₂ xor_bytes c.split_at_mut-first.ensures.front (ap (λ j. take j (drop m.used m.start.now)) count))
          (applied.masked_is ∙ ap (masked (key_stream_byte s.key s.nonce 0) (max (64 + n) there)) rest)
          ∙ sym (ap (λ f. masked f n was) (chacha_mask s tag h.0)),
    )
