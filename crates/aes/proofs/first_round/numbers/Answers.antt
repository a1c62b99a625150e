use Rattle.std.proofs.Common.{◌≡◌, ℕ, List, [], ◌∷◌, ◌+◌, ◌*◌, ◌%◌, get_or, bit_xor, arith}
use Rattle.aes.proofs.Tested.{eight_cases}
use Rattle.aes.proofs.SixteenBlocks.{same_bytes}
use Rattle.aes.proofs.first_round.numbers.Goals as goal

pub returns : goal.returns
returns c =
    let all : List (List ℕ) =
    c.counted.result ∷ c.counted-2.result ∷ c.counted-3.result ∷ c.counted-4.result ∷ c.counted-5.result
    ∷ c.counted-6.result ∷ c.counted-7.result ∷ c.counted-8.result ∷ [] in
    same_bytes c.lower.result
    (c.lower.ensures (λ l k. get_or (get_or all k []) l 0) c.transpose.ensures)
    (λ l k hl hk.
    eight_cases (λ k. get_or (get_or all k []) l 0 ≡ bit_xor ((c.args.first + (8 * l + k)) % 256) c.args.key)
    (c.counted.ensures.each l (omega arith)) (c.counted-2.ensures.each l (omega arith))
    (c.counted-3.ensures.each l (omega arith)) (c.counted-4.ensures.each l (omega arith))
    (c.counted-5.ensures.each l (omega arith)) (c.counted-6.ensures.each l (omega arith))
    (c.counted-7.ensures.each l (omega arith)) (c.counted-8.ensures.each l (omega arith)) k hk)
