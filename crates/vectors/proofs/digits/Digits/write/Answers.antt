use Rattle.std.proofs.Common.{◌<◌, length, arith, ◌∙◌}
use Rattle.std.proofs.lemmas.Grind.{common_steps, same_number_lists}
use Rattle.vectors.specs.Code.Views.{bytes_in}
use Rattle.vectors.proofs.DigitLemmas.{written_more}
use Rattle.vectors.proofs.digits.Digits.write.Goals as goal

pub bytes-preserved : goal.bytes-preserved
bytes-preserved c =
    let size = c.bytes.invariant.length_is in
    let written : c.bytes.i < length c.bytes.room = omega (arith, c.bytes-test.true, size) in
    record {
      length_is = grind (arith, common_steps, size);
      done = written_more (bytes_in c.args.self) c.bytes.room c.bytes.i _ written c.byte.ensures
          c.bytes.invariant.done;
    }

pub returns : goal.returns
returns c =
    let size = c.bytes.invariant.length_is in
    same_number_lists c.bytes.room (bytes_in c.args.self) (size ∙ c.requires)
    (λ k l. c.bytes.invariant.done k (omega (arith, size, l, c.bytes-test.false)))
