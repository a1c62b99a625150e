use Rattle.std.proofs.Common.{◌≡◌, ap, arith}
use Rattle.chacha.specs.Code.Halves.{half_diagonals}
use Rattle.chacha.specs.Code.Rows.{four_from, state_in}
use Rattle.chacha.proofs.ByRows.{both, diagonals}
use Rattle.chacha.proofs.rows.ArrayU32x84Rows.half_diagonals.Goals as goal

pub returns : goal.returns
returns c =
    let was = c.args.self.now in
    let turned = c.half_quarter.new.x in
    let each = c.half_quarter.ensures in
    both (λ k. state_in _ k ≡ half_diagonals c.args.n c.args.m (state_in was k))
    (diagonals c.args.n c.args.m 0 was turned _ _ _ _ _ _ (ap (four_from 0) c.halves_moved_by_three.ensures) (ap (four_from 0) c.halves_moved_by_one.ensures) (ap (four_from 0) c.halves_moved_by_two.ensures)
    (each 0 (omega arith)) (each 1 (omega arith)) (each 2 (omega arith)) (each 3 (omega arith))
    (ap (four_from 0) c.halves_moved_by_one-2.ensures) (ap (four_from 0) c.halves_moved_by_three-2.ensures) (ap (four_from 0) c.halves_moved_by_two-2.ensures))
    (diagonals c.args.n c.args.m 4 was turned _ _ _ _ _ _ (ap (four_from 4) c.halves_moved_by_three.ensures) (ap (four_from 4) c.halves_moved_by_one.ensures) (ap (four_from 4) c.halves_moved_by_two.ensures)
    (each 4 (omega arith)) (each 5 (omega arith)) (each 6 (omega arith)) (each 7 (omega arith))
    (ap (four_from 4) c.halves_moved_by_one-2.ensures) (ap (four_from 4) c.halves_moved_by_three-2.ensures) (ap (four_from 4) c.halves_moved_by_two-2.ensures))
