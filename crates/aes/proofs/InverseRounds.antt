-- The rounds of the equivalent inverse cipher.
use Rattle.std.proofs.Common.{◌≡◌, ℕ, suc, ◌+◌, ◌-◌, ◌*◌, ◌/◌, ◌%◌, ◌<◌, List, [], get_or, length, sym}
use Rattle.std.proofs.Common.{ap, ◌∙◌, arith}
use Rattle.octets.specs.Bytes.{IsBlock}
use Rattle.aes.specs.Schedule.{round_count, schedule}
use Rattle.aes.specs.Cipher.{shift_rows, sub_bytes, mix_columns, add_round_key, rounds, cipher, IsKey}
use Rattle.aes.specs.Code.InverseSteps.{inverse_mix_columns, round_key}
use Rattle.aes.proofs.Expanded.{rounds_start, rounds_suc, cipher_is}
use Rattle.aes.proofs.Permutation.{words_are}
use Rattle.aes.proofs.Grids.{grid_is}
use Rattle.aes.proofs.Steps.{add_twice, add_block, mix_unmix_block}

-- AddRoundKey gives a block
pub added_block : (key : List ℕ) (n : ℕ) (s : List ℕ) → IsKey key → IsBlock s → IsBlock (add_round_key (schedule key) n s)
added_block key n s k b = add_block (schedule key) n s (words_are key (4 * (round_count key + 1)) k.bytes) b

-- if b comes to c and the last round key before the last AddRoundKey, the cipher takes b to c
pub last_added : (key c b : List ℕ) → length c ≡ 16
    → shift_rows (sub_bytes (rounds (schedule key) (round_count key - 1 - 0) b))
    ≡ add_round_key (schedule key) (round_count key) c → cipher key b ≡ c
last_added key c b long h =
    let start : round_count key - 1 ≡ round_count key - 1 - 0 = omega arith in
    cipher_is key b
    ∙ ap (add_round_key (schedule key) (round_count key))
    (ap (λ (i : ℕ). shift_rows (sub_bytes (rounds (schedule key) i b))) start ∙ h)
    ∙ add_twice (schedule key) (round_count key) c long

-- one round is undone, from t, which SubBytes and ShiftRows make of u, to the state before: if b comes to that, it comes to t one
-- round later
pub one_back : (key u t b : List ℕ) (d n : ℕ) → IsKey key → IsBlock u → d + 1 < round_count key
    → n ≡ round_count key - 1 - d → shift_rows (sub_bytes u) ≡ t
    → shift_rows (sub_bytes (rounds (schedule key) (round_count key - 1 - (d + 1)) b))
    ≡ inverse_mix_columns (add_round_key (schedule key) n u)
    → shift_rows (sub_bytes (rounds (schedule key) (round_count key - 1 - d) b)) ≡ t
one_back key u t b d n k block below is back h =
    let ws = schedule key in
    let m : ℕ = round_count key - 1 - (d + 1) in
    let up : suc m ≡ n = omega arith in
    ap (λ y. shift_rows (sub_bytes y)) (
    ap (λ (i : ℕ). rounds ws i b) (sym is ∙ sym up) ∙ rounds_suc ws m b
    ∙ ap (add_round_key ws (suc m)) (ap mix_columns h ∙ mix_unmix_block (add_round_key ws n u) (added_block key n u k block))
    ∙ ap (λ (i : ℕ). add_round_key ws i (add_round_key ws n u)) up
    ∙ add_twice ws n u block.length_is)
    ∙ back

-- if no round is left, AddRoundKey alone is undone
pub first_added : (key u t : List ℕ) (n : ℕ) → n ≡ 0 → length u ≡ 16 → shift_rows (sub_bytes u) ≡ t
    → shift_rows (sub_bytes (rounds (schedule key) n (add_round_key (schedule key) 0 u))) ≡ t
first_added key u t n none long back =
    ap (λ y. shift_rows (sub_bytes y)) (
    ap (λ (i : ℕ). rounds (schedule key) i (add_round_key (schedule key) 0 u)) none
    ∙ rounds_start (schedule key) (add_round_key (schedule key) 0 u) ∙ add_twice (schedule key) 0 u long)
    ∙ back

-- the bytes of round key n of the schedule are the round key
pub plain_is : (v key : List ℕ) (n : ℕ) → length v ≡ 16
    → ((i : ℕ) → i < 16 → get_or v i 0 ≡ get_or (get_or (schedule key) (4 * n + i / 4) []) (i % 4) 0)
    → v ≡ round_key (schedule key) n
unfolding round_key
plain_is v key n long each = grid_is (λ r c. get_or (get_or (schedule key) (4 * n + c) []) r 0) v long each
