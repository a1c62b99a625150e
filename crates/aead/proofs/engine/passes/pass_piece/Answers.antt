use Rattle.std.proofs.Common.{◌≤◌, length, take, arith}
use Rattle.std.proofs.lemmas.Grind.{common_steps}
use Rattle.aead.proofs.Passing.{stopped}
use Rattle.aead.proofs.engine.passes.pass_piece.Goals as goal

pub returns-in-Err-give_all-clause-passed : goal.returns-in-Err-give_all-clause-passed
returns-in-Err-give_all-clause-passed g c = λ m fed h.
    let short : length (take c.in-Ok.n c.fill.new.buf) ≤ length c.args.buf.now = grind (arith, common_steps) in
    stopped _ fed _ _ _ _ _ _ _ _ c.in-Ok.ensures.bytes.0 short
    (c.take_in.ensures.holds m fed h).1
    c.in-Err-give_all.ensures.bytes.1 c.in-Err-give_all.ensures.bytes.2
