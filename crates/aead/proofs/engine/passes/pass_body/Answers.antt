use Rattle.std.proofs.Common.{◌+◌, ◌-◌, ◌≤◌, ◌<◌, [], ◌++◌, length, take, arith, refl, ◌∙◌, length-append}
use Rattle.std.proofs.lemmas.Grind.{common_steps}
use Rattle.std.proofs.lemmas.Result.{err_from_is_err_and}
use Rattle.aead.proofs.Passing.{passed_none, passed_more, stopped_more, far_more}
use Rattle.aead.proofs.engine.passes.pass_body.Goals as goal

pub loop-done-init : goal.loop-done-init
loop-done-init g c = record {
  in_range = omega arith;
  room = omega arith;
  went = λ m h. ([], passed_none _ _ [] _ _ _ h, refl);
  read = refl;
  wrote = refl;
}

pub returns-in_err-n-clause-passed : goal.returns-in_err-n-clause-passed
returns-in_err-n-clause-passed g c = λ m h.
    let w = c.loop-done.invariant.went m h in
    let room : length (take c.min-want.result c.loop-done.buf) ≤ c.args.length - c.loop-done.done =
    grind (arith, common_steps) in
    let fits : length w.0 + length (take c.min-want.result c.loop-done.buf) ≤ c.args.length =
    omega (arith, w.2, room) in
    let q = c.in_err-n.ensures.passed m w.0 w.1.held in
    let p = err_from_is_err_and c.from_residual.result c.from_residual.ensures.1 in
    rw p.1 (stopped_more _ _ [] w.0 _ _ _ _ _ _ _ _ _ w.1 q fits)

pub returns-then-n-want-clause-passed : goal.returns-then-n-want-clause-passed
returns-then-n-want-clause-passed g c = λ m h.
    let w = c.loop-done.invariant.went m h in
    let less : c.in_ok-n.n < length (take c.min-want.result c.loop-done.buf) = grind (arith, common_steps) in
    let room : c.loop-done.done + length (take c.min-want.result c.loop-done.buf) ≤ c.args.length =
    grind (arith, common_steps) in
    let q = c.in_ok-n.ensures.passed m w.0 w.1.held in
    far_more _ _ w.0 _ _ _ _ _ _ _ _ _ _ _ _ w.1 w.2 q less room

pub loop-done-preserved : goal.loop-done-preserved
loop-done-preserved g c = record {
  in_range = grind (arith, common_steps);
  room = omega (arith, c.in_ok-n.ensures.room, c.loop-done.invariant.room);
  went = λ m h.
      let w = c.loop-done.invariant.went m h in
      let room : c.loop-done.done + length (take c.min-want.result c.loop-done.buf) ≤ c.args.length =
      grind (arith, common_steps) in
      let q = c.in_ok-n.ensures.passed m w.0 w.1.held in (
        w.0 ++ q.bytes,
        passed_more _ _ [] w.0 q.bytes _ _ _ _ _ _ _ _ w.1 q.went,
        omega (arith, length-append w.0 q.bytes, q.count, w.2),
      );
  read = c.in_ok-n.ensures.blame.0 ∙ c.loop-done.invariant.read;
  wrote = c.in_ok-n.ensures.blame.1 ∙ c.loop-done.invariant.wrote;
}
