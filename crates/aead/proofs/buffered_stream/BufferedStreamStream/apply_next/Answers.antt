use Rattle.std.proofs.Common.{◌≡◌, ℕ, ◌+◌, ◌-◌, ◌^◌, length, take, drop, max, refl, ap, ap₂, sym, subst, ◌∙◌}
use Rattle.std.proofs.Common.{arith}
use Rattle.octets.specs.Bytes.{xor_bytes}
use Rattle.octets.specs.Masked.{masked}
use Rattle.chacha.specs.Stream.{key_stream_byte}
use Rattle.chacha.specs.Code.States.{Holds}
use Rattle.aead.specs.Suites.{text_limit, text_limit_by}
use Rattle.aead.specs.Code.Masks.{chacha_mask}
use Rattle.aead.proofs.BufferedStreams.{buffered_masked}
use Rattle.aead.proofs.buffered_stream.BufferedStreamStream.apply_next.Goals as goal

pub returns : goal.returns
returns c = λ s tag n h room.
    let m = c.args.self.now in
    let q = h.1 in
    let there : ℕ = length m.start.now in
    let limit : text_limit s.suite ≡ 2 ^ 38 - 64 = ap text_limit_by h.0 in
    let applied = c.apply_next.ensures s.key s.nonce 0 (max (64 + n) there) q.rest_is
    (omega (arith, room, limit, m.short, q.used_is, c.min-n.ensures, c.split_at_mut-first.ensures.back_len)) in
    let next : max (64 + n) there + length c.split_at_mut-first.result.1.now
    ≡ max (64 + (n + length c.args.bytes.now)) there =
    omega (arith, q.used_is, c.min-n.ensures, c.split_at_mut-first.ensures.back_len) in
    let count : m.used + c.min-n.result - m.used ≡ c.min-n.result = omega arith in
    let P : ℕ → Type 0 = λ k. Holds c.apply_next.new.self s.key s.nonce 0 k in (
      (
        h.0,
        record {
          start_is = q.start_is;
          used_is = omega (arith, q.used_is, c.min-n.ensures);
          rest_is = subst P next applied.holds;
        },
      ),
      buffered_masked s.key s.nonce m.start.now c.args.bytes.now c.xor_into.new.dst c.apply_next.new.bytes n m.used
          c.min-n.result (max (64 + n) there)
          q.start_is q.used_is c.min-n.ensures refl
          (c.xor_into.ensures ∙ ap₂ xor_bytes c.split_at_mut-first.ensures.front
          (ap (λ k. take k (drop m.used m.start.now)) count))
          (applied.masked_is ∙ ap (masked (key_stream_byte s.key s.nonce 0) (max (64 + n) there))
          c.split_at_mut-first.ensures.back)
          ∙ sym (ap (λ f. masked f n c.args.bytes.now) (chacha_mask s tag h.0)),
    )
