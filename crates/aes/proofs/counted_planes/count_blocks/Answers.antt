use Rattle.std.proofs.Common.{rules, ◌≡◌, ℕ, ◌+◌, ◌*◌, ◌/◌, ◌%◌, ◌<◌}
use Rattle.std.proofs.Common.{List, length, get_or, bit_xor, ap, ◌∙◌, sym, arith, cond, ◌==◌}
use Rattle.std.specs.Int.{bit_at}
use Rattle.std.proofs.lemmas.Simd.{get_or-zip2}
use lib.Lanes.{zip2}
use Rattle.aes.specs.Code.Planes.{spot}
use Rattle.aes.proofs.CountedBlocks.{counted_byte}
use Rattle.aes.proofs.KeyPlanes.{spot_half}
use Rattle.aes.proofs.SixteenBlocks.{same_bytes}
use Rattle.aes.proofs.counted_planes.count_blocks.Goals as goal

pub returns : goal.returns
returns c = λ f same.
    let a : List ℕ = c.args.a.now in
    let b : List ℕ = c.args.b.now in
    let x : List ℕ = c.rows-before.result in
    let y : List ℕ = c.rows-after.result in
    let hx : length x ≡ 16 = search rules in
    let hy : length y ≡ 16 = search rules in
    let first : ℕ = c.args.first in
    let m : List ℕ = c.block_bits.result in
    let apart : ℕ → ℕ → ℕ = λ (l k : ℕ). get_or (zip2 bit_xor x y) (l % 16) 0 in
    let number : ℕ → ℕ → ℕ = λ (l k : ℕ). cond (spot l == c.args.place) ((first + (l / 16 * 8 + k)) % 16) 0 in
    same_bytes c.add-2.result
    (c.add-2.ensures (λ l k. bit_xor (get_or x (l % 16) 0) (bit_at (get_or m l 0) k * apart l k)) number
    (c.add.ensures (λ l k. get_or x (l % 16) 0) (λ l k. bit_at (get_or m l 0) k * apart l k)
    (c.from_half.ensures (λ l k. get_or x l 0) c.spread-2.ensures)
    (c.select-change.ensures apart (c.from_half-apart.ensures (λ l k. get_or (zip2 bit_xor x y) l 0) c.spread.ensures)))
    c.numbers.ensures)
    (λ l k hl hk.
    let q : ℕ = l / 16 * 8 + k in
    let i : ℕ = spot l in
    let j : ℕ = l % 16 in
    let hq : q < 16 = omega arith in
    let hi : i < 16 = omega arith in
    let hj : j < 16 = omega arith in
    ap (λ (v : ℕ). bit_xor (bit_xor (get_or x j 0) (bit_at (get_or m l 0) k * v)) (number l k))
    (get_or-zip2 bit_xor x y j 0 0 0 (omega arith) (omega arith))
    ∙ counted_byte a b first q (get_or x j 0) (get_or y j 0) (bit_at (get_or m l 0) k) (number l k) i c.requires.0 hq
    (c.rows-before.ensures j hj ∙ ap (λ (p : ℕ). get_or a p 0) (spot_half l))
    (c.rows-after.ensures j hj ∙ ap (λ (p : ℕ). get_or b p 0) (spot_half l)) (c.block_bits.ensures.bits l k hl hk)
    ∙ sym (same q i hq hi))
