use Rattle.std.proofs.Common.{arith}
use Rattle.chacha.proofs.stream.ChaStreamStream.apply_next.Goals as goal

pub returns-in-Ok : goal.returns-in-Ok
returns-in-Ok c = λ key nonce first made held room. c.in-Ok.ensures key nonce first made held

pub returns-in-Err : goal.returns-in-Err
returns-in-Err c = λ key nonce first made held room.
    let past = (c.in-Err.ensures key nonce first made held).past_end in absurd (omega (arith, room, past))
