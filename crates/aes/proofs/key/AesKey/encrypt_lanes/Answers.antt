use Rattle.std.proofs.Common.{◌≡◌, ℕ, List, [], ◌+◌, ◌*◌, ◌-◌, drop, get_or, ap, sym, ◌∙◌, arith, bit_xor}
use Rattle.std.proofs.lemmas.List.{get_or-drop}
use Rattle.aes.specs.Schedule.{round_count, schedule}
use Rattle.aes.specs.Cipher.{sub_bytes, shift_rows, mix_columns, add_round_key, rounds, cipher}
use Rattle.aes.specs.Code.Lanes.{row_source}
use Rattle.aes.proofs.Expanded.{kept_keys, kept_length, is_key, rounds_start, next_round, final_round}
use Rattle.aes.proofs.Permutation.{words_are, rounds_block}
use Rattle.aes.proofs.FourRounds.{basis_same, blocks_same, ready_first, word_first}
use Rattle.aes.proofs.key.AesKey.encrypt_lanes.Goals as goal

pub loop-done-init : goal.loop-done-init
loop-done-init g c = λ f blocks held.
    let key = c.args.self.now in
    let ws = schedule key in
    let kept = kept_keys c.self.inside.keys c.self.inside.size key c.self.invariant c.self.view_is in
    basis_same _ (λ q. add_round_key ws 0 (f q)) (λ q. rounds ws 0 (f q)) (λ q. sym (rounds_start ws (f q)))
    (c.first-state.ensures f ws held kept.first)

pub loop-done-preserved : goal.loop-done-preserved
loop-done-preserved g c = λ f blocks held.
    let key = c.args.self.now in
    let ws = schedule key in
    let kept = kept_keys c.self.inside.keys c.self.inside.size key c.self.invariant c.self.view_is in
    let long = kept_length c.self.inside.keys c.self.inside.size key c.self.invariant c.self.view_is in
    let k = is_key c.self.inside.keys c.self.inside.size key c.self.invariant c.self.view_is in
    let n = c.loop-done.done in
    let words = words_are key (4 * (round_count key + 1)) k.bytes in
    let vs = drop (4 * (n + 1)) ws in
    let state : ℕ → List ℕ = λ q. rounds ws n (f q) in
    basis_same _ (λ q. add_round_key vs 0 (mix_columns (shift_rows (sub_bytes (state q))))) (λ q. rounds ws (n + 1) (f q))
    (λ q. next_round key (f q) n (omega arith))
    (c.round-next.ensures state vs (λ q. rounds_block ws n (f q) words (blocks q))
    (λ i r. rw (get_or-drop (4 * (n + 1)) ws i []) (words (4 * (n + 1) + i) r)) (c.loop-done.invariant f blocks held)
    (λ i l. kept.middle (n + 1) i (omega arith) (omega arith) l ∙ ready_first ws (n + 1) (row_source i)))

pub returns-clause-value : goal.returns-clause-value
returns-clause-value g c = λ f blocks held.
    let key = c.args.self.now in
    let ws = schedule key in
    let kept = kept_keys c.self.inside.keys c.self.inside.size key c.self.invariant c.self.view_is in
    let long = kept_length c.self.inside.keys c.self.inside.size key c.self.invariant c.self.view_is in
    let k = is_key c.self.inside.keys c.self.inside.size key c.self.invariant c.self.view_is in
    let n = c.loop-done.done in
    let words = words_are key (4 * (round_count key + 1)) k.bytes in
    let last = round_count key in
    let count : c.self.inside.size + 6 ≡ last = omega arith in
    let before : n ≡ last - 1 = omega arith in
    let vs = drop (4 * last) ws in
    let state : ℕ → List ℕ = λ q. rounds ws n (f q) in
    blocks_same _ (λ q. add_round_key vs 0 (shift_rows (sub_bytes (state q)))) (λ q. cipher key (f q))
    (λ q. final_round key (f q) n before)
    (c.last.ensures state vs (λ q. rounds_block ws n (f q) words (blocks q)) (c.loop-done.invariant f blocks held)
    (λ i l. ap (λ (m : ℕ). get_or (get_or c.self.inside.keys m []) i 0) count ∙ kept.last i l
    ∙ ap (λ (b : ℕ). bit_xor b 0x63) (word_first ws last i)))

pub returns-clause-is_key : goal.returns-clause-is_key
returns-clause-is_key g c = is_key c.self.inside.keys c.self.inside.size c.args.self.now c.self.invariant c.self.view_is
