use Rattle.std.proofs.Common.{◌∙◌, ap}
use Rattle.aead.specs.Suites.{is_one_pass}
use Rattle.aead.proofs.Findings.{took_read, stopped_read}
use Rattle.aead.proofs.engine.opening.pass_sealed.Goals as goal

pub returns-in-Ok-clause-passed : goal.returns-in-Ok-clause-passed
returns-in-Ok-clause-passed g c = λ s by b.
    let one = ap is_one_pass b.keys_are.by ∙ by in
    let q = c.in-Ok.ensures.passed s (record { keys_are = b.keys_are; taken = b.state_is }) in
    c.finding_of.ensures.found s _ _ _
    (took_read s _ _ _ _ _ c.pass_body.new.stage _ one (b.bytes one) q
    (c.tag.ensures s q.bytes b.keys_are q.went.held.taken))

pub returns-in-Err-clause-passed : goal.returns-in-Err-clause-passed
returns-in-Err-clause-passed g c = λ s by b.
    stopped_read _ _ _ _ _ (c.in-Err.ensures.passed s (record { keys_are = b.keys_are; taken = b.state_is }))
