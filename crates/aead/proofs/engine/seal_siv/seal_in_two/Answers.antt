use Rattle.std.proofs.Common.{◌≡◌, ◌∙◌, sym, ap}
use Rattle.aead.specs.Suites.{is_one_pass, text_limit, text_limit_by}
use Rattle.aead.specs.Sealing.{tag_of}
use Rattle.aead.proofs.Opens.{two_pass_tag}
use Rattle.aead.proofs.SivExits.{exit_first, exit_long, exit_second}
use Rattle.aead.proofs.engine.seal_siv.seal_in_two.Goals as goal

pub returns-in-Err-clause-seals : goal.returns-in-Err-clause-seals
returns-in-Err-clause-seals g c = λ s by k h.
    exit_first (g.I.Intake.left c.args.first.now) (g.J.Intake.left c.args.second.now)
    (g.O.Outlet.taken c.args.out.now) s
    (g.I.Intake.failures c.args.first.now) (g.I.Intake.failures c.pass_all.new.intake)
    (g.J.Intake.failures c.args.second.now) (g.O.Outlet.failures c.args.out.now)
    c.in-Err.field-0 c.in-Err.ensures.blame

pub returns-in-Ok-None-clause-seals : goal.returns-in-Ok-None-clause-seals
returns-in-Ok-None-clause-seals g c = λ s by k h.
    let limit : c.text_limit.result ≡ text_limit s.suite = c.text_limit.ensures ∙ ap text_limit_by (sym k.by) in
    let went = rw c.in-Ok-None.field-0-is at (c.in-Ok-None.ensures.passed s (record { keys_are = k; taken = h })) in
    exit_long _ _ _ _ _ _ _ _ s _ _ _ _ _ _ limit h.fits.aad_fits c.in-Ok-None.ensures.blame.0 went

pub returns-in-Ok-Some-clause-seals : goal.returns-in-Ok-Some-clause-seals
returns-in-Ok-Some-clause-seals g c = λ s by k h.
    let went = rw c.in-Ok-Some.field-0-is at (c.in-Ok-Some.ensures.passed s (record { keys_are = k; taken = h })) in
    exit_second _ _ _ _ _ _ _ _ s _ _ _ _ _ _ _ _ _ _ c.in-Ok-Some.ensures.blame.0 went
    (λ a held size.
    let tag_is : c.tag-tag.result ≡ tag_of s a =
    c.tag-tag.ensures s a k held.taken ∙ sym (two_pass_tag s a (ap is_one_pass by)) in
    c.write_again.ensures.written s a by k h (sym size) tag_is)
