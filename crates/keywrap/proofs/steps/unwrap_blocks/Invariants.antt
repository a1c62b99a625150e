use Rattle.std.proofs.Common.{◌+◌, ◌*◌, ◌++◌, length}
use Rattle.octets.specs.Bytes.{AreBytes}
use Rattle.keywrap.specs.Code.Places.{register}
use Rattle.keywrap.proofs.Runs.{LeadsTo}
use Rattle.keywrap.proofs.steps.unwrap_blocks.Given as goal

abbrev pub invariant-loop-round : goal.invariant-loop-round
invariant-loop-round l = record {
  leads : LeadsTo l.key (l.count * 6) (l.fn.first ++ l.fn.blocks) (l.count * l.round) (l.a ++ l.blocks);
  first : AreBytes (length l.a) l.a;
  rest : AreBytes (length l.blocks) l.blocks;
}

abbrev pub invariant-loop-i : goal.invariant-loop-i
invariant-loop-i l = record {
  leads : LeadsTo l.key (l.count * 6) (l.fn.first ++ l.fn.blocks) (l.count * l.round + l.i)
      (register (8 * l.i) l.a l.blocks);
  first : AreBytes (length l.a) l.a;
  rest : AreBytes (length l.blocks) l.blocks;
}
