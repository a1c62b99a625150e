use Rattle.std.proofs.Common.{◌≡◌, ℕ, List, [], ◌∷◌, ◌+◌, ◌*◌, ◌/◌, ◌%◌, ◌==◌, cond, get_or, length, refl, sym, ap, ap₂, ◌∙◌, arith, bit_xor}
use Rattle.std.specs.Int.{bit_at}
use Rattle.aes.specs.Code.Planes.{HoldsBits, block_byte, spot}
use Rattle.aes.proofs.FirstRounds.{chosen_bit}
use Rattle.aes.proofs.SixteenBlocks.{same_bytes}
use Rattle.aes.proofs.Tested.{eight_cases}
use Rattle.aes.proofs.first_round.sixteen_states.Goals as goal

pub returns : goal.returns
returns c = λ f count shares room.
    let run : ℕ = c.args.run in
    let first : ℕ → ℕ → ℕ = λ (l k : ℕ). cond (l % 4 == 0) (shares.column (l % 16 / 4) (16 * run + (l / 16 * 8 + k))) 0 in
    let all : List (List ℕ) =
    c.first_lanes.result ∷ c.first_lanes-2.result ∷ c.first_lanes-3.result ∷ c.first_lanes-4.result
    ∷ c.first_lanes-5.result ∷ c.first_lanes-6.result ∷ c.first_lanes-7.result ∷ c.first_lanes-8.result ∷ [] in
    let list : ℕ → ℕ → ℕ = λ j l. get_or (get_or (get_or c.args.columns.now j []) (run / 2) []) (8 * (run % 2) + l / 4) 0 in
    let firsts : HoldsBits all first = record {
      count = refl;
      long = eight_cases (λ j. length (get_or all j []) ≡ 32) c.first_lanes.ensures.long c.first_lanes-2.ensures.long
          c.first_lanes-3.ensures.long c.first_lanes-4.ensures.long c.first_lanes-5.ensures.long
          c.first_lanes-6.ensures.long c.first_lanes-7.ensures.long c.first_lanes-8.ensures.long;
      each = λ j l k hj hl hk.
          let p : ℕ = 2 * run + l / 16 in
          let r : ℕ = l % 16 / 4 in
          let place : 8 * (run % 2) + l / 4 ≡ 4 * (p % 4) + r = omega (arith, hl) in
          let half : run / 2 ≡ p / 4 = omega (arith, hl) in
          let number : 8 * p + k ≡ 16 * run + (l / 16 * 8 + k) = omega arith in
          ap (λ (x : ℕ). bit_at x k)
          (eight_cases (λ j. get_or (get_or all j []) l 0 ≡ cond (l % 4 == 0) (list j l) 0)
          (c.first_lanes.ensures.each l hl) (c.first_lanes-2.ensures.each l hl) (c.first_lanes-3.ensures.each l hl)
          (c.first_lanes-4.ensures.each l hl) (c.first_lanes-5.ensures.each l hl) (c.first_lanes-6.ensures.each l hl)
          (c.first_lanes-7.ensures.each l hl) (c.first_lanes-8.ensures.each l hl) j hj)
          ∙ chosen_bit (l % 4 == 0) (list j l)
          (shares.column r (16 * run + (l / 16 * 8 + k))) j k
          (ap₂ (λ (h i : ℕ). bit_at (get_or (get_or (get_or c.args.columns.now j []) h []) i 0) k) half place
          ∙ shares.columns_are.each j p r k hj (omega (arith, c.requires)) (omega arith) hk
          ∙ ap (λ (n : ℕ). bit_at (shares.column r n) j) number);
    } in
    same_bytes c.add.result
    (c.add.ensures (λ l k. block_byte (λ q. shares.base) (l % 16) k) first
    (c.from_half.ensures (block_byte (λ q. shares.base)) shares.base_is) firsts)
    (λ l k hl hk.
    let n : ℕ = 16 * run + (l / 16 * 8 + k) in
    let column : l % 4 ≡ spot l / 4 = omega arith in
    let row : l % 16 / 4 ≡ spot l % 4 = omega arith in
    let same : spot (l % 16) ≡ spot l = omega arith in
    ap₂ bit_xor (ap (λ (i : ℕ). get_or shares.base i 0) same)
    (ap₂ (λ (c r : ℕ). cond (c == 0) (shares.column r n) 0) column row)
    ∙ sym (shares.sums n (spot l) (omega (arith, room)) (omega arith)))
