use Rattle.std.proofs.Common.{ℕ, ◌++◌, List, ◌∙◌, ap, ap₂, sym, arith}
use Rattle.octets.specs.Masked.{masked}
use Rattle.chacha.specs.Stream.{key_stream_byte}
use Rattle.chacha.specs.Code.Lanes.{lane}
use Rattle.chacha.proofs.Masking.{four_masked}
use Rattle.chacha.proofs.lanes.xor_serialized.Goals as goal

pub returns : goal.returns
returns c = λ key nonce counter has.
    let whole = c.split_at_mut-front.ensures in
    let front = c.split_at_mut-first.ensures in
    let back = c.split_at_mut-third.ensures in
    four_masked key nonce counter (λ j. lane j c.args.x.now) _ _ _ _ _ _ _ _ has front.front_len
    (omega (arith, whole.front_len, front.back_len))
    back.front_len (omega (arith, c.requires, whole.back_len, back.back_len))
    c.xor_lanes.ensures.first c.xor_lanes.ensures.second c.xor_lanes.ensures.third
    c.xor_lanes.ensures.fourth
    ∙ ap (masked (key_stream_byte key nonce counter) 0)
    (ap₂ (λ (y z : List ℕ). y ++ z) (sym front.value) (sym back.value) ∙ sym whole.value)
