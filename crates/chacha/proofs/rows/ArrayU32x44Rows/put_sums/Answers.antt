use Rattle.std.proofs.Common.{◌≡◌, ℕ, List, [], ◌++◌, ◌∙◌, ap, ap₂, sym, refl, arith, length, get_or, take, drop, ◌*◌}
use Rattle.chacha.specs.Block.{added, serialized}
use Rattle.chacha.specs.Code.Rows.{four_from, read_by_rows, state_in}
use Rattle.chacha.proofs.Words.{serialized-append}
use Rattle.chacha.proofs.Lengths.{length-serialized}
use Rattle.chacha.proofs.ByRows.{put_more, only_first}
use Rattle.chacha.proofs.rows.ArrayU32x44Rows.put_sums.Goals as goal

pub returns : goal.returns
unfolding added read_by_rows
returns c =
    let x : ℕ → List ℕ = λ r. get_or c.args.self.now r [] in
    let start : ℕ → List ℕ = λ r. get_or c.args.start.now r [] in
    let s : ℕ → List ℕ = λ r. added (four_from 0 (x r)) (four_from 0 (start r)) in
    let size : (r : ℕ) → length (serialized (s r)) ≡ 16 = λ r. length-serialized (s r) in
    let p1 = put_more c.args.out.now c.serialized_sum.result [] c.put.new.out 0 c.requires
    (ap length c.serialized_sum.ensures ∙ size 0) (omega arith) refl c.put.ensures in
    let p2 = put_more c.put.new.out c.serialized_sum-2.result _ c.put-2.new.out 16 p1.0
    (ap length c.serialized_sum-2.ensures ∙ size 1) (omega arith) p1.1 c.put-2.ensures in
    let p3 = put_more c.put-2.new.out c.serialized_sum-3.result _ c.put-3.new.out 32 p2.0
    (ap length c.serialized_sum-3.ensures ∙ size 2) (omega arith) p2.1 c.put-3.ensures in
    let p4 = put_more c.put-3.new.out c.serialized_sum-4.result _ c.put-4.new.out 48 p3.0
    (ap length c.serialized_sum-4.ensures ∙ size 3) (omega arith) p3.1 c.put-4.ensures in
    only_first (λ n. take 64 (drop (64 * n) c.put-4.new.out)
    ≡ serialized (added (state_in c.args.self.now n) (state_in c.args.start.now n)))
    (p4.1
    ∙ ap₂ (λ u v. u ++ v) (ap₂ (λ u v. u ++ v)
    (ap₂ (λ u v. u ++ v) c.serialized_sum.ensures c.serialized_sum-2.ensures) c.serialized_sum-3.ensures)
    c.serialized_sum-4.ensures
    ∙ ap (λ l. (l ++ serialized (s 2)) ++ serialized (s 3)) (sym (serialized-append (s 0) (s 1)))
    ∙ ap (λ l. l ++ serialized (s 3)) (sym (serialized-append (s 0 ++ s 1) (s 2)))
    ∙ sym (serialized-append ((s 0 ++ s 1) ++ s 2) (s 3)))
