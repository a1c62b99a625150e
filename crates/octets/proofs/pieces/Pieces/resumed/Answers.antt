use Rattle.std.proofs.Common.{◌*◌, ◌/◌, ◌∙◌, ap, arith, length}
use Rattle.std.proofs.lemmas.List.{length-drop, drop-replicate}
use Rattle.std.proofs.lemmas.Slice.{take-put_mid, drop-put_mid}
use Rattle.std.proofs.Common.{replicate}
use Rattle.octets.proofs.pieces.Pieces.resumed.Goals as goal

pub returns : goal.returns
returns g c = λ k m held e.
    let x = c.args.rest.now in
    let after = c.copy_from_slice.ensures.after in
    record {
      taken = held;
      rest = record {
        used_is = omega (arith, ap length e, length-drop (length m / 16 * 16) m);
        rest_is = take-put_mid 0 (length x) (replicate 16 0) c.copy_from_slice.new.self (length x)
            (omega (arith, ap length after)) (omega arith)
            ∙ after ∙ e;
      };
      zeros = drop-put_mid 0 (length x) (replicate 16 0) c.copy_from_slice.new.self (length x) (omega arith)
          (omega arith) (ap length after ∙ omega arith)
          ∙ drop-replicate (length x) 16 0;
    }
