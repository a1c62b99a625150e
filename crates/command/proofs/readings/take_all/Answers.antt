use Rattle.std.proofs.Common.{[]}
use Rattle.std.proofs.lemmas.Result.{err_from_is_err_and}
use Rattle.std.specs.Io.KnownBytes.{prepend_known}
use Rattle.command.proofs.NewFileLemmas.{keeps_more}
use Rattle.command.proofs.ReadingsLemmas.{took_none, took_last}
use Rattle.command.proofs.readings.take_all.Goals as goal

pub loop-init : goal.loop-init
loop-init g c = took_none (g.I.Intake.left c.args.input.now) c.new-bytes.result.items c.new-bytes.ensures.items

pub returns-in_err-is_last : goal.returns-in_err-is_last
returns-in_err-is_last g c =
    let p = err_from_is_err_and c.from_residual-in_err-is_last.result
    c.from_residual-in_err-is_last.ensures.1 in
    rw (p.1, p.2) c.in_err-is_last.ensures.blame

pub returns-then-is_last : goal.returns-then-is_last
returns-then-is_last g c =
    took_last (g.I.Intake.left c.args.input.now) (g.I.Intake.left c.loop.input)
    (g.I.Intake.left c.take_chunk.new.input) c.loop.bytes.items c.take_chunk.new.bytes.items c.loop.invariant
    c.in_ok-is_last.ensures.taken (c.in_ok-is_last.ensures.all c.if-is_last.true)

pub loop-preserved : goal.loop-preserved
loop-preserved g c =
    keeps_more (prepend_known [] (g.I.Intake.left c.args.input.now))
    (prepend_known c.loop.bytes.items (g.I.Intake.left c.loop.input))
    (prepend_known c.take_chunk.new.bytes.items (g.I.Intake.left c.take_chunk.new.input)) c.loop.invariant
    c.in_ok-is_last.ensures.taken
