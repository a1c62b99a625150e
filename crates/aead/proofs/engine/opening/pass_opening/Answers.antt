use Rattle.std.proofs.Common.{◌∙◌, sym, refl, ap}
use Rattle.aead.specs.Suites.{Construction}
use Rattle.aead.specs.Sealing.{mask_of, tag_over}
use Rattle.aead.specs.KeyedPasses.{authenticated_by}
use Rattle.aead.specs.Code.Maskings.{message_task}
use Rattle.aead.proofs.Findings.{took_masked}
use Rattle.aead.proofs.KeyedPasses.{tag_authenticated}
use Rattle.aead.proofs.Maskings.{none_fed}
use Rattle.aead.proofs.engine.opening.pass_opening.Goals as goal

pub returns-in-Ok-clause-passed : goal.returns-in-Ok-clause-passed
returns-in-Ok-clause-passed g c = λ s k h.
    let tag = c.args.measured.now.tag in
    let order = c.order_of_opening.result in
    let t = message_task order s tag in
    let q = c.in-Ok.ensures.passed t (none_fed t _ k refl c.bytes.ensures.value h) in
    let mask = mask_of s tag in
    let same = c.order_of_opening.ensures mask q.bytes
    ∙ ap (λ (x : Construction). authenticated_by x mask q.bytes) (sym k.by) in
    c.finding_of.ensures.found s _ _ _
    (took_masked order s tag _ _ _ _ _ _ c.pass_body.new.stage _ q
    (c.tag.ensures s _ k q.went.held.taken ∙ ap (tag_over s.suite s.key s.nonce s.aad) same
    ∙ tag_authenticated s tag q.bytes))

pub returns-in-Err-clause-passed : goal.returns-in-Err-clause-passed
returns-in-Err-clause-passed g c = λ s k h.
    let t = message_task c.order_of_opening.result s c.args.measured.now.tag in
    c.in-Err.ensures.passed t (none_fed t _ k refl c.bytes.ensures.value h)
