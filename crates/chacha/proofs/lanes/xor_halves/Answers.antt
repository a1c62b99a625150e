use Rattle.std.proofs.Common.{◌≡◌, ◌+◌, ◌++◌, ◌∙◌, List, ℕ, ap, ap₂, sym, arith}
use Rattle.octets.specs.Masked.{masked}
use Rattle.chacha.specs.Block.{block}
use Rattle.chacha.specs.Code.Lanes.{lane}
use Rattle.chacha.specs.Stream.{key_stream_byte}
use Rattle.chacha.proofs.Masking.{four_masked}
use Rattle.chacha.proofs.lanes.xor_halves.Goals as goal

pub returns-clause-front : goal.returns-clause-front
returns-clause-front c = λ key nonce n has.
    let front = c.split_at_mut-front_low.ensures in
    let low = c.split_at_mut-first.ensures in
    let high = c.split_at_mut-third.ensures in
    let written = c.xor_eight_lanes.ensures in
    four_masked key nonce n (λ j. lane j c.args.x.now) _ _ _ _ _ _ _ _ (λ j l. has j (omega (arith, l)))
    low.front_len (omega (arith, front.front_len, low.back_len))
    high.front_len (omega (arith, c.requires.front, front.back_len, high.back_len))
    written.first written.second written.third written.fourth
    ∙ ap (masked (key_stream_byte key nonce n) 0)
    (ap₂ (λ (y z : List ℕ). y ++ z) (sym low.value) (sym high.value) ∙ sym front.value)

pub returns-clause-back : goal.returns-clause-back
returns-clause-back c = λ key nonce n has.
    let back = c.split_at_mut-back_low.ensures in
    let low = c.split_at_mut-fifth.ensures in
    let high = c.split_at_mut-seventh.ensures in
    let written = c.xor_eight_lanes.ensures in
    let counter : (j : ℕ) → n + (4 + j) ≡ n + 4 + j = λ j. omega arith in
    four_masked key nonce (n + 4) (λ j. lane (4 + j) c.args.x.now) _ _ _ _ _ _ _ _
    (λ j l. has (4 + j) (omega (arith, l)) ∙ ap (λ m. block key m nonce) (counter j))
    low.front_len (omega (arith, back.front_len, low.back_len))
    high.front_len (omega (arith, c.requires.back, back.back_len, high.back_len))
    written.fifth written.sixth written.seventh written.eighth
    ∙ ap (masked (key_stream_byte key nonce (n + 4)) 0)
    (ap₂ (λ (y z : List ℕ). y ++ z) (sym low.value) (sym high.value) ∙ sym back.value)
