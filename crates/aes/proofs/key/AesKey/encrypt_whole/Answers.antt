use Rattle.std.proofs.Common.{[], drop, ◌≡◌, ℕ, List, ◌+◌, ◌*◌, ◌-◌, ◌/◌, ◌%◌, get_or, sym, ap, subst}
use Rattle.std.proofs.Common.{◌∙◌, arith}
use Rattle.aes.specs.Schedule.{round_count, schedule}
use Rattle.aes.specs.Cipher.{sub_bytes, shift_rows, mix_columns, add_round_key, rounds}
use Rattle.aes.specs.Code.Planes.{HoldsWords, spot, masked_byte}
use Rattle.aes.proofs.Expanded.{next_round, final_round, is_key, kept_length}
use Rattle.aes.proofs.Permutation.{words_are, rounds_block}
use Rattle.aes.proofs.KeyPlanes.{spot_half}
use Rattle.aes.proofs.SixteenBlocks.{same_bytes, same_blocks, dropped_row, dropped_last}
use Rattle.aes.proofs.key.AesKey.encrypt_whole.Goals as goal

pub loop-done-init : goal.loop-done-init
loop-done-init c = λ f blocks held. held

pub loop-done-preserved : goal.loop-done-preserved
loop-done-preserved c = λ f blocks held.
    let key = c.args.self.now in
    let ws = schedule key in
    let long = kept_length c.self.inside.keys c.self.inside.size key c.self.invariant c.self.view_is in
    let k = is_key c.self.inside.keys c.self.inside.size key c.self.invariant c.self.view_is in
    let n = c.loop-done.done in
    let words = words_are key (4 * (round_count key + 1)) k.bytes in
    let vs = drop (4 * (n + 1)) ws in
    let state : ℕ → List ℕ = λ q. rounds ws n (f q) in
    same_blocks c.round-next.result
    (λ q. add_round_key vs 0 (mix_columns (shift_rows (sub_bytes (state q)))))
    (λ q. rounds ws (n + 1) (f q)) (λ q. next_round key (f q) n (omega arith))
    (c.round-next.ensures state vs (λ q. rounds_block ws n (f q) words (blocks q))
    (c.loop-done.invariant f blocks held)
    (same_bytes _ (c.from_half.ensures (λ l k. masked_byte ws (n + 1) (spot l))
    (c.unpack.ensures (λ l k. masked_byte ws (n + 1) (spot l))
    (c.requires.ready.middle (n + 1) (omega arith) (omega arith))))
    (λ l k hl hk. ap (masked_byte ws (n + 1)) (spot_half l) ∙ dropped_row ws (n + 1) l)))

pub returns-clause-value : goal.returns-clause-value
returns-clause-value c = λ f blocks held.
    let key = c.args.self.now in
    let ws = schedule key in
    let long = kept_length c.self.inside.keys c.self.inside.size key c.self.invariant c.self.view_is in
    let k = is_key c.self.inside.keys c.self.inside.size key c.self.invariant c.self.view_is in
    let n = c.loop-done.done in
    let last = round_count key in
    let count : c.self.inside.size + 6 ≡ last = omega arith in
    let before : n ≡ last - 1 = omega arith in
    let words = words_are key (4 * (last + 1)) k.bytes in
    let vs = drop (4 * last) ws in
    let state : ℕ → List ℕ = λ q. rounds ws n (f q) in
    let final = subst (λ i. HoldsWords (get_or c.args.keys.now i []) (λ l k. masked_byte ws last l))
    (sym count) c.requires.ready.final in
    same_bytes c.last_round.result
    (c.last_round.ensures state vs (λ q. rounds_block ws n (f q) words (blocks q))
    (c.loop-done.invariant f blocks held)
    (same_bytes _ (c.from_half-2.ensures (λ l k. masked_byte ws last l)
    (c.unpack-2.ensures (λ l k. masked_byte ws last l) final)) (λ l k hl hk. dropped_last ws last l)))
    (λ l k hl hk. ap (λ b. get_or b (l % 16) 0) (final_round key (f (l / 16 * 8 + k)) n before))

pub returns-clause-is_key : goal.returns-clause-is_key
returns-clause-is_key c = is_key c.self.inside.keys c.self.inside.size c.args.self.now c.self.invariant c.self.view_is
