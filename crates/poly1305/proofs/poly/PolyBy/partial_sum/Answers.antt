use Rattle.std.proofs.Common.{◌≡◌, ◌*◌, ◌/◌, subst, arith, length, take}
use Rattle.std.proofs.lemmas.List.{take_all}
use Rattle.poly1305.specs.Code.States.{PolySumHolds}
use Rattle.poly1305.proofs.PartialSums.{begun}
use Rattle.poly1305.proofs.poly.PolyBy.partial_sum.Goals as goal

pub returns : goal.returns
returns g c = λ k m held whole.
    let factor = g.M.Multiplier.factor in
    let all : take (length m / 16 * 16) m ≡ m = take_all (length m / 16 * 16) m (omega (arith, whole)) in
    let taken = subst (PolySumHolds factor c.args.self.now.pieces.core k) all held.taken in
    begun factor _ k m taken.factor_is whole taken.sum_is
