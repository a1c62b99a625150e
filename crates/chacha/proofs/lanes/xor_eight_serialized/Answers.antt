use Rattle.std.proofs.Common.{◌∙◌, ap, sym}
use Rattle.octets.specs.Masked.{masked}
use Rattle.chacha.specs.Stream.{key_stream_byte}
use Rattle.chacha.proofs.Masking.{joined}
use Rattle.chacha.proofs.lanes.xor_eight_serialized.Goals as goal

pub returns : goal.returns
returns c = λ key nonce n has.
    let whole = c.split_at_mut-front.ensures in
    joined key nonce n 4 _ _ _ _ whole.front_len (c.xor_halves.ensures.front key nonce n has)
    (c.xor_halves.ensures.back key nonce n has)
    ∙ ap (masked (key_stream_byte key nonce n) 0) (sym whole.value)
