-- The register as a list of blocks, and as one list of bytes.
use Rattle.std.proofs.Common.{◌≡◌, ℕ, zero, suc, ◌+◌, ◌-◌, ◌*◌, ◌/◌, ◌%◌, ◌≤◌, List, [], ◌∷◌, ◌++◌, take}
use Rattle.std.proofs.Common.{drop, get_or, length, bit_xor, refl, sym, ap, ap₂, ◌∙◌, arith, append_assoc}
use Rattle.std.proofs.Common.{length-append, length-drop}
use Rattle.std.proofs.lemmas.List.{append-nil, length-take-le}
use Rattle.std.proofs.lemmas.List.FromFn.{length-map-range_with_len}
use Rattle.std.specs.Int.{bytes_high_first}
use Rattle.aes.specs.Schedule.{schedule, round_count}
use Rattle.aes.specs.Cipher.{at, cipher, add_round_key, shift_rows, sub_bytes, rounds}
use Rattle.octets.specs.Bytes.{xor_bytes}
use Rattle.octets.proofs.Xors.{length-xor_bytes}
use Rattle.keywrap.specs.Wrapping.{step, steps, initial_value}
use Rattle.keywrap.specs.Blocks.{Register, block_step, block_steps, joined_blocks, AreBlocks, WrapsByBlocks}
use Rattle.keywrap.proofs.Bytes.{length_number}
use Rattle.keywrap.proofs.Pieces.{step_at}

-- a block is 16 bytes long after a round key was added
length_added : (ws : List (List ℕ)) (n : ℕ) (s : List ℕ) → length (add_round_key ws n s) ≡ 16
unfolding add_round_key
length_added ws n s =
    length-map-range_with_len (λ i. bit_xor (at s (i % 4) (i / 4))
    (get_or (get_or ws (4 * n + i / 4) []) (i % 4) 0)) 0 16

-- the cipher returns 16 bytes, whatever the key is
pub length_cipher : (key b : List ℕ) → length (cipher key b) ≡ 16
unfolding cipher
length_cipher key b =
    length_added (schedule key) (round_count key)
    (shift_rows (sub_bytes (rounds (schedule key) (round_count key - 1) b)))

-- blocks and one more, joined, are the joined blocks and then that block
joined_push : (rs : List (List ℕ)) (h : List ℕ) → joined_blocks (rs ++ h ∷ []) ≡ joined_blocks rs ++ h
joined_push [] h = append-nil h
joined_push (r ∷ rs) h = ap (λ x. r ++ x) (joined_push rs h) ∙ sym (append_assoc r (joined_blocks rs) h)

-- a list of blocks with one more block at its end is a list of blocks
blocks_push : (rs : List (List ℕ)) (h : List ℕ) → AreBlocks rs → length h ≡ 8 → AreBlocks (rs ++ h ∷ [])
blocks_push [] h b l = (l, tt)
blocks_push (r ∷ rs) h b l = (b.0, blocks_push rs h b.1 l)

-- n blocks, joined, are 8n bytes long
joined_length : (rs : List (List ℕ)) → AreBlocks rs → length (joined_blocks rs) ≡ 8 * length rs
joined_length [] b = refl
joined_length (r ∷ rs) b = length-append r (joined_blocks rs) ∙ ap₂ (λ m n. m + n) b.0 (joined_length rs b.1)
    ∙ omega arith

-- s is the register of A and the blocks as one list of bytes
record IsLike (s : List ℕ) (first : List ℕ) (blocks : List (List ℕ)) : Type 0 where
  eight : length first ≡ 8
  blocks_are : AreBlocks blocks
  some : 1 ≤ length blocks
  joined : s ≡ first ++ joined_blocks blocks

-- after a step, both forms of the register still agree
like_step : (key s a : List ℕ) (blocks : List (List ℕ)) (t : ℕ) → IsLike s a blocks
    → IsLike (step key t s) (block_step key t a blocks).first (block_step key t a blocks).blocks
like_step key s a [] t like = absurd (let h : 1 ≤ length {A = List ℕ} [] = like.some in omega arith)
like_step key s a (r ∷ rs) t like =
    let b : List ℕ = cipher key (a ++ r) in
    let n : List ℕ = bytes_high_first 8 t in
    let whole : length b ≡ 16 = length_cipher key (a ++ r) in
    let half : length (take 8 b) ≡ 8 = length-take-le 8 b (omega arith) in
    let second : length (drop 8 b) ≡ 8 = length-drop 8 b ∙ omega arith in
    record {
      eight = length-xor_bytes (take 8 b) n (half ∙ sym (length_number 8 t)) ∙ half;
      blocks_are = blocks_push rs (drop 8 b) like.blocks_are.1 second;
      some = omega (arith, length-append rs (drop 8 b ∷ []));
      joined =
          ap (step key t) like.joined ∙ step_at key t a r (joined_blocks rs) like.eight like.blocks_are.0
          ∙ ap (λ x. xor_bytes (take 8 b) n ++ x) (sym (joined_push rs (drop 8 b)));
    }

-- after any number of steps, both forms of the register still agree
like_steps : (key s : List ℕ) (u : Register) (t : ℕ) → IsLike s u.first u.blocks
    → IsLike (steps key t s) (block_steps key t u).first (block_steps key t u).blocks
unfolding steps block_steps
like_steps key s u zero like = like
like_steps key s u (suc t) like =
    like_step key (steps key t s) (block_steps key t u).first (block_steps key t u).blocks (suc t)
    (like_steps key s u t like)

-- the wrapping is A and the blocks after the last step
pub wraps_by_blocks : WrapsByBlocks
wraps_by_blocks key blocks b some =
    let u : Register = record { first = initial_value; blocks = blocks } in
    let count : length (joined_blocks blocks) / 8 ≡ length blocks = omega (arith, joined_length blocks b) in
    ap (λ n. steps key (6 * n) (initial_value ++ joined_blocks blocks)) count
    ∙ (like_steps key (initial_value ++ joined_blocks blocks) u (6 * length blocks)
    (record { eight = refl; blocks_are = b; some = some; joined = refl })).joined
