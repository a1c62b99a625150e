use Rattle.std.proofs.Common.{◌≡◌, ◌-◌, ◌≤◌, ◌<◌, arith, ◌∙◌, sym, true≢false}
use Rattle.aead.proofs.Findings.{differs_found, sealed_found, unsealed_found}
use Rattle.aead.proofs.Findings.{whole_short, whole_tail, stopped_tail}
use Rattle.aead.proofs.engine.passes.finding_of.Goals as goal

pub returns-then-came-measured-clause-found : goal.returns-then-came-measured-clause-found
returns-then-came-measured-clause-found g c = λ s l o o' q.
    let less : c.args.came < c.args.measured.now.length - 16 = omega arith in
    whole_short s _ _ _ _ _ _ _ _ c.args.measured.now.tag_is.length_is q less

pub returns-then-same-clause-found : goal.returns-then-same-clause-found
returns-then-same-clause-found g c = λ s l o o' q.
    let full : c.args.measured.now.length - 16 ≤ c.args.came = omega arith in
    let tail = c.in-Ok-true.ensures.ends in
    let same : c.args.computed ≡ c.args.measured.now.tag =
    sym c.bytes.ensures.value ∙ c.same.ensures.0 c.if-same.true ∙ c.bytes-in-Ok-true.ensures.value in
    whole_tail s _ _ _ _ _ _ _ _ _ _ _ c.args.measured.now.low q full tail
    (λ size. sealed_found s _ q.bytes tail.bytes _ size (sym tail.equal ∙ c.in-Ok-true.field-0-test)
    (q.went.held.0, sym same ∙ q.went.held.1) q.went.small)

pub returns-else-same-clause-found : goal.returns-else-same-clause-found
returns-else-same-clause-found g c = λ s l o o' q.
    let full : c.args.measured.now.length - 16 ≤ c.args.came = omega arith in
    let tail = c.in-Ok-true.ensures.ends in
    whole_tail s _ _ _ _ _ _ _ _ _ _ _ c.args.measured.now.low q full tail
    (λ size. unsealed_found s _ q.bytes tail.bytes _ c.args.measured.now.tag_is.length_is size
    (sym tail.equal ∙ c.in-Ok-true.field-0-test)
    (λ e. true≢false (sym (c.same.ensures.1
    (c.bytes.ensures.value ∙ q.went.held.1 ∙ e ∙ sym c.bytes-in-Ok-true.ensures.value)) ∙ c.if-same.false)))

pub returns-in-Ok-false-clause-found : goal.returns-in-Ok-false-clause-found
returns-in-Ok-false-clause-found g c = λ s l o o' q.
    let full : c.args.measured.now.length - 16 ≤ c.args.came = omega arith in
    let tail = c.in-Ok-false.ensures.ends in
    whole_tail s _ _ _ _ _ _ _ _ _ _ _ c.args.measured.now.low q full tail
    (λ size. differs_found s _ q.bytes tail.bytes _ size (sym tail.equal ∙ c.in-Ok-false.field-0-test))

pub returns-in-Err-clause-found : goal.returns-in-Err-clause-found
returns-in-Err-clause-found g c = λ s l o o' q. stopped_tail s _ _ _ _ _ _ _ _ _ _ q c.in-Err.ensures.ends.1
