use Rattle.std.proofs.Common.{ℕ, arith, inl, inr, refl, replicate, ◌∙◌}
use Rattle.aead.proofs.Measuring.{last_whole}
use Rattle.aead.proofs.Passing.{reading_failed}
use Rattle.aead.proofs.engine.measure.Measured.of.Goals as goal

pub returns-in-Err : goal.returns-in-Err
returns-in-Err g c =
    let w = c.in-Err.ensures.passed tt refl in
    record {
      bytes = w.bytes;
      consumed = w.consumed;
      cause = inr (inr (refl, reading_failed ℕ _ _ _ c.in-Err.ensures.blame));
    }

pub returns-then-length-limit : goal.returns-then-length-limit
returns-then-length-limit g c =
    let q = c.in-Ok.ensures.passed tt refl in
    record {
      bytes = q.bytes;
      consumed = q.went.consumed;
      cause = inl (refl, omega (arith, q.count, q.short), c.in-Ok.ensures.blame.0);
    }

pub returns-then-length-lt16 : goal.returns-then-length-lt16
returns-then-length-lt16 g c =
    let q = c.in-Ok.ensures.passed tt refl in
    record {
      bytes = q.bytes;
      consumed = q.went.consumed;
      cause = inr (inl (refl, omega (arith, q.count), q.end (omega arith), c.in-Ok.ensures.blame.0));
    }

pub returns : goal.returns
returns g c =
    let q = c.in-Ok.ensures.passed tt refl in (
      record {
        bytes = q.bytes;
        consumed = q.went.consumed;
        end = q.end (omega arith);
        low = omega (arith, q.count);
        high = omega (arith, q.count);
        count = omega (arith, q.count);
        last = c.new.ensures.value ∙ q.went.held ∙ last_whole (replicate 16 0) q.bytes (omega (arith, q.count));
      },
      c.in-Ok.ensures.blame.0,
    )
