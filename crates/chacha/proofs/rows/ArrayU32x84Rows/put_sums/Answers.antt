use Rattle.std.proofs.Common.{◌≡◌, ℕ, ◌+◌, ◌*◌, ◌≤◌, ◌++◌, ◌∙◌, List, [], ap, ap₂, arith, take, drop, get_or, length}
use Rattle.std.proofs.lemmas.List.{take_at, drop_at, take_all}
use Rattle.chacha.specs.Block.{added, serialized}
use Rattle.chacha.specs.Code.Rows.{four_from, state_in}
use Rattle.chacha.proofs.ByRows.{both, four_sums, sums_put}
use Rattle.chacha.proofs.rows.ArrayU32x84Rows.put_sums.Goals as goal

pub returns : goal.returns
returns c =
    let x = c.args.self.now in
    let start = c.args.start.now in
    let first = c.put_two.new.out in
    let second = c.put_two-2.new.out in
    let cut = c.split_at_mut-first.ensures in
    let front : length first ≡ 64 = omega (arith, c.requires, cut.front_len, c.put_two.auto.out) in
    let back : length second ≡ 64 = omega (arith, c.requires, cut.back_len, c.put_two-2.auto.out) in
    let all = λ (m : ℕ) (out : List ℕ) (room : m + 4 ≤ 8).
    sums_put m x start (four_from m c.sum-a.result) (four_from m c.sum-b.result) (four_from m c.sum-c.result)
    (four_from m c.sum-d.result) out
    (four_sums m c.sum-a.result (get_or x 0 []) (get_or start 0 []) room c.sum-a.ensures)
    (four_sums m c.sum-b.result (get_or x 1 []) (get_or start 1 []) room c.sum-b.ensures)
    (four_sums m c.sum-c.result (get_or x 2 []) (get_or start 2 []) room c.sum-c.ensures)
    (four_sums m c.sum-d.result (get_or x 3 []) (get_or start 3 []) room c.sum-d.ensures)
    in
    both (λ n. take 64 (drop (64 * n) (first ++ second)) ≡ serialized (added (state_in x n) (state_in start n)))
    (take_at first second 64 front ∙ all 0 first (omega arith)
    (c.put_two.ensures ∙ ap₂ (λ u v. serialized u ++ serialized v) c.low_halves.ensures c.low_halves-2.ensures))
    (ap (take 64) (drop_at first second 64 front) ∙ take_all 64 second (omega (arith, back)) ∙ all 4 second (omega arith)
    (c.put_two-2.ensures ∙ ap₂ (λ u v. serialized u ++ serialized v) c.high_halves.ensures c.high_halves-2.ensures))
