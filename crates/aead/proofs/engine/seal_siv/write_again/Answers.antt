use Rattle.std.proofs.Common.{◌≡◌, ℕ, List, [], length, take, refl, arith, inl, inr, sym, ◌∙◌, subst, Some}
use Rattle.std.proofs.Common.{None, Option, true≢false}
use Rattle.std.proofs.lemmas.List.{take_all}
use Rattle.std.specs.Io.KnownBytes.{Appends}
use Rattle.octets.specs.Device.{Failed}
use Rattle.aead.specs.declared.step.Order.TheVariants.{HashFirst}
use Rattle.aead.specs.Sealing.{mask_of, tag_of}
use Rattle.aead.specs.Code.Maskings.{HoldsMasking, message_task}
use Rattle.aead.specs.Code.Passes.{Stopped}
use Rattle.aead.specs.Code.Extents.{HasPassedAll}
use Rattle.aead.proofs.Maskings.{none_fed}
use Rattle.aead.proofs.SealExits.{told, if_known}
use Rattle.aead.proofs.SivExits.{again_stopped, again_long, again_differs, again_tag}
use Rattle.aead.proofs.engine.seal_siv.write_again.Goals as goal

pub returns-in-Err-clause-written : goal.returns-in-Err-clause-written
returns-in-Err-clause-written g c = λ s first by k h size tag_is.
    let t = message_task HashFirst s (tag_of s first) in
    let none = none_fed t _ k refl (c.bytes.ensures.value ∙ tag_is) h in
    let l : Option (List ℕ) = g.J.Intake.left c.args.intake.now in
    if_known l _ _
    (told l (λ m. Stopped (mask_of s (tag_of s first)) [] c.args.first_length m
    (g.J.Intake.left c.pass_all.new.intake) (g.O.Outlet.taken c.args.outlet.now)
    (g.O.Outlet.taken c.pass_all.new.outlet))
    (c.in-Err.ensures.passed t none))
    (λ b w. again_stopped s first b _ _ _ _ _ _ _ _ _ size w c.in-Err.ensures.blame)

pub returns-in-Ok-None-clause-written : goal.returns-in-Ok-None-clause-written
returns-in-Ok-None-clause-written g c = λ s first by k h size tag_is.
    let t = message_task HashFirst s (tag_of s first) in
    let none = none_fed t _ k refl (c.bytes.ensures.value ∙ tag_is) h in
    let l : Option (List ℕ) = g.J.Intake.left c.args.intake.now in
    let went = rw c.in-Ok-None.field-0-is
    at (c.in-Ok-None.ensures.passed t none) in
    if_known l _ _
    (told l (λ m. HasPassedAll (HoldsMasking t)
    (mask_of s (tag_of s first)) c.args.first_length m (g.J.Intake.left c.pass_all.new.intake) (g.O.Outlet.taken c.args.outlet.now)
    (g.O.Outlet.taken c.pass_all.new.outlet) c.pass_all.new.stage None) went)
    (λ b w. again_long _ s first b _ _ _ _ _ _ _ _ _ size w c.in-Ok-None.ensures.blame)

pub returns-else-repeats-clause-written : goal.returns-else-repeats-clause-written
returns-else-repeats-clause-written g c = λ s first by k h size tag_is.
    let t = message_task HashFirst s (tag_of s first) in
    let none = none_fed t _ k refl (c.bytes.ensures.value ∙ tag_is) h in
    let l : Option (List ℕ) = g.J.Intake.left c.args.intake.now in
    let went = rw c.in-Ok-Some.field-0-is
    at (c.in-Ok-Some.ensures.passed t none) in
    if_known l _ _
    (told l (λ m. HasPassedAll (HoldsMasking t)
    (mask_of s (tag_of s first)) c.args.first_length m (g.J.Intake.left c.pass_all.new.intake) (g.O.Outlet.taken c.args.outlet.now)
    (g.O.Outlet.taken c.pass_all.new.outlet) c.pass_all.new.stage (Some c.in-Ok-Some.field-0-0)) went)
    (λ b w. again_differs _ s first b _ _ _ _ _ _ _ _ _ _ size w c.in-Ok-Some.ensures.blame
    (λ text held r. true≢false (sym ((c.repeats.ensures s first text by k size (c.bytes-in-Ok-Some.ensures.value ∙ tag_is) held.taken).1 r) ∙ c.if-repeats.false)))

pub returns-in-Ok-clause-written : goal.returns-in-Ok-clause-written
returns-in-Ok-clause-written g c = λ s first by k h size tag_is.
    let t = message_task HashFirst s (tag_of s first) in
    let none = none_fed t _ k refl (c.bytes.ensures.value ∙ tag_is) h in
    let l : Option (List ℕ) = g.J.Intake.left c.args.intake.now in
    let went = rw c.in-Ok-Some.field-0-is
    at (c.in-Ok-Some.ensures.passed t none) in
    let long : length c.args.tag.now ≡ 16 = c.bytes-then-repeats.ensures.are_bytes.length_is in
    let R : List ℕ → Type 0 =
    λ x. Appends (g.O.Outlet.taken c.pass_all.new.outlet) (g.O.Outlet.taken c.give_all.new.outlet) x in
    if_known l _ _
    (told l (λ m. HasPassedAll (HoldsMasking t)
    (mask_of s (tag_of s first)) c.args.first_length m (g.J.Intake.left c.pass_all.new.intake) (g.O.Outlet.taken c.args.outlet.now)
    (g.O.Outlet.taken c.pass_all.new.outlet) c.pass_all.new.stage (Some c.in-Ok-Some.field-0-0)) went)
    (λ b w. again_tag _ s first b c.args.tag.now _ _ 16 _ _ _ _ _ _ _ _ _ _ size w
    (λ text held. (c.repeats.ensures s first text by k size (c.bytes-in-Ok-Some.ensures.value ∙ tag_is) held.taken).0 c.if-repeats.true) tag_is
    (subst R (c.bytes-then-repeats.ensures.value ∙ sym (take_all 16 c.args.tag.now (omega (arith, long))))
    c.in-Ok.ensures.bytes)
    (inl (
      refl,
      omega (arith, long),
      c.in-Ok-Some.ensures.blame.0,
      c.in-Ok.ensures.count
          ∙ c.in-Ok-Some.ensures.blame.1,
    )))

pub returns-in-Err-give_all-clause-written : goal.returns-in-Err-give_all-clause-written
returns-in-Err-give_all-clause-written g c = λ s first by k h size tag_is.
    let t = message_task HashFirst s (tag_of s first) in
    let none = none_fed t _ k refl (c.bytes.ensures.value ∙ tag_is) h in
    let l : Option (List ℕ) = g.J.Intake.left c.args.intake.now in
    let went = rw c.in-Ok-Some.field-0-is
    at (c.in-Ok-Some.ensures.passed t none) in
    let given = c.in-Err-give_all.ensures.bytes in
    let R : List ℕ → Type 0 =
    λ x. Appends (g.O.Outlet.taken c.pass_all.new.outlet) (g.O.Outlet.taken c.give_all.new.outlet)
    (take given.0 x) in
    let F : ℕ → Type 0 = λ n. Failed n (g.O.Outlet.failures c.give_all.new.outlet) in
    if_known l _ _
    (told l (λ m. HasPassedAll (HoldsMasking t)
    (mask_of s (tag_of s first)) c.args.first_length m (g.J.Intake.left c.pass_all.new.intake) (g.O.Outlet.taken c.args.outlet.now)
    (g.O.Outlet.taken c.pass_all.new.outlet) c.pass_all.new.stage (Some c.in-Ok-Some.field-0-0)) went)
    (λ b w. again_tag _ s first b c.args.tag.now _ _ given.0 _ _ _ _ _ _ _ _ _ _ size w
    (λ text held. (c.repeats.ensures s first text by k size (c.bytes-in-Ok-Some.ensures.value ∙ tag_is) held.taken).0 c.if-repeats.true) tag_is
    (subst R c.bytes-then-repeats.ensures.value given.2)
    (inr (refl, subst F c.in-Ok-Some.ensures.blame.1 c.in-Err-give_all.ensures.count)))
