use Rattle.std.proofs.Common.{◌≤◌, ◌<◌, length, ap, arith, length-append}
use Rattle.aead.proofs.Extents.{all_short, all_more, all_stopped}
use Rattle.aead.proofs.engine.passes.pass_all.Goals as goal

pub returns-then-n-length-clause-passed : goal.returns-then-n-length-clause-passed
returns-then-n-length-clause-passed g c = λ m h.
    let less : c.in-Ok.n < c.args.length = omega arith in
    all_short _ _ _ _ _ _ _ _ _ (c.in-Ok.ensures.passed m h) less

pub returns-in-Ok-true-clause-passed : goal.returns-in-Ok-true-clause-passed
returns-in-Ok-true-clause-passed g c = λ m h.
    let q = c.in-Ok.ensures.passed m h in
    let full : c.args.length ≤ c.in-Ok.n = omega arith in
    let more = c.in-Ok-true.ensures.more in
    let some = more.some c.in-Ok-true.field-0-test in
    all_more _ _ _ _ _ _ _ _ _ _ _ _ q full more
    (λ size. (
      omega (arith, size, some, length-append q.bytes more.bytes),
      λ fits.
          absurd (omega (arith, size, some, fits, length-append q.bytes more.bytes)),
    ))

pub returns-in-Ok-false-clause-passed : goal.returns-in-Ok-false-clause-passed
returns-in-Ok-false-clause-passed g c = λ m h.
    let q = c.in-Ok.ensures.passed m h in
    let full : c.args.length ≤ c.in-Ok.n = omega arith in
    let more = c.in-Ok-false.ensures.more in
    let none = more.none c.in-Ok-false.field-0-test in
    all_more _ _ _ _ _ _ _ _ _ _ _ _ q full more
    (λ size. (
      (omega (arith, q.count, ap length none.0, length-append q.bytes more.bytes), q.short),
      λ _.
          c.in-Ok-false.field-0-test,
    ))

pub returns-in-Err-has_more-clause-passed : goal.returns-in-Err-has_more-clause-passed
returns-in-Err-has_more-clause-passed g c = λ m h.
    all_stopped _ _ _ _ _ _ _ _ _ _ _ (c.in-Ok.ensures.passed m h) c.in-Err-has_more.ensures.more.1
