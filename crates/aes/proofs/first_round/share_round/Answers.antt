use Rattle.std.proofs.Common.{◌≡◌, ℕ, List, ◌+◌, ◌*◌, ◌%◌, ◌<◌, drop, get_or, length, sym, ap, ◌∙◌, arith, rules, bit_xor}
use Rattle.std.proofs.lemmas.Nat.{xor_of_8}
use Rattle.octets.specs.Bytes.{IsBlock}
use Rattle.aes.specs.Schedule.{schedule, round_count}
use Rattle.aes.specs.Cipher.{sub_bytes, shift_rows, mix_columns, add_round_key}
use Rattle.aes.specs.Code.FirstRound.{share}
use Rattle.aes.specs.Code.Lanes.{linear_sbox}
use Rattle.aes.specs.Code.Planes.{spot, masked_byte}
use Rattle.aes.proofs.Expanded.{next_round}
use Rattle.aes.proofs.Permutation.{words_are}
use Rattle.aes.proofs.FirstRounds.{start_of, key_block, start_block, shared_byte}
use Rattle.aes.proofs.FourBlocks.{linear_small}
use Rattle.aes.proofs.SixteenBlocks.{same_bytes, dropped_row}
use Rattle.aes.proofs.first_round.share_round.Goals as goal

pub returns : goal.returns
returns c = λ f count blocks steps.
    let key = c.args.key.now in
    let ws = schedule key in
    let words = words_are key (4 * (round_count key + 1)) c.plain_key-first_key.ensures.is_key.bytes in
    let vs = drop (4 * 1) ws in
    let b : List ℕ = c.args.block.now in
    let k : List ℕ = c.plain_key-first_key.result in
    let place : ℕ = c.args.place in
    let keyed = c.plain_key-first_key.ensures.bytes (omega arith) in
    let size : length k ≡ 16 = search rules in
    let hb : IsBlock b = record { length_is = c.told-block; bytes = c.fits-block } in
    let hk : IsBlock k = key_block ws k words size keyed in
    let z : List ℕ = start_of b k place in
    let value : ℕ → ℕ = λ n. bit_xor ((get_or b place 0 + n) % 256) (get_or k place 0) in
    let small : (n : ℕ) → value n < 256 = λ n. xor_of_8 ((get_or b place 0 + n) % 256) (get_or k place 0) (omega arith) (hk.bytes place) in
    let column : ℕ → ℕ → ℕ = λ r n. share place r (linear_sbox (value n)) in
    record {
      base = add_round_key vs 0 (mix_columns (shift_rows (sub_bytes z)));
      column = column;
      base_is = c.round.ensures (λ q. z) vs (λ q. start_block b k place c.requires.end hb hk)
          (same_bytes c.spread.result c.spread.ensures (λ l k hl hk. c.rows.ensures l hl))
          (same_bytes _ (c.unpack.ensures (λ l k. masked_byte ws 1 (spot l)) (c.requires.ready.middle 1 (omega arith) (omega arith)))
          (λ l k hl hk. dropped_row ws 1 l));
      columns_are = c.weave_planes.ensures column
          (c.column_of.ensures (λ l k. linear_sbox (value (8 * l + k))) (λ l k. linear_small (value (8 * l + k)) (small (8 * l + k)))
          (c.substitute-once.ensures (λ l k. value (8 * l + k)) (λ l k. small (8 * l + k)) c.numbers.ensures));
      sums = λ n i hn hi.
          ap (λ (s : List ℕ). get_or s i 0) (sym (next_round key (f n) 0 (omega arith)))
          ∙ shared_byte ws vs b k (f n) place n i c.requires.end words hb hk (blocks n) keyed (λ i hi. steps n i hn hi) hi;
    }
