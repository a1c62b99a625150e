use Rattle.std.proofs.Common.{map}
use Rattle.aead.proofs.CutPieces.{CutSoFar}
use Rattle.aead.proofs.cuts.cut_into.Given as goal

abbrev pub invariant-loop-cut : goal.invariant-loop-cut
invariant-loop-cut g l = CutSoFar l.bytes l.cuts l.cut-index l.place (map (λ v. v.items) l.pieces.items)
