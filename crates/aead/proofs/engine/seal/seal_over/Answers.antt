use Rattle.std.proofs.Common.{◌≡◌, ℕ, List, length, take, refl, ap, arith, inl, inr, sym, ◌∙◌, subst}
use Rattle.std.proofs.lemmas.List.{take_all}
use Rattle.std.specs.Io.KnownBytes.{Appends}
use Rattle.octets.specs.Device.{Failed}
use Rattle.aead.specs.declared.step.Order.TheVariants.{MaskFirst}
use Rattle.aead.specs.Suites.{text_limit, text_limit_by}
use Rattle.aead.specs.Code.Maskings.{message_task, no_tag}
use Rattle.aead.proofs.Maskings.{none_fed}
use Rattle.aead.proofs.Opens.{one_pass_tag}
use Rattle.aead.proofs.SealExits.{exit_stopped, exit_long, exit_tag}
use Rattle.aead.proofs.engine.seal.seal_over.Goals as goal

pub returns-in-Err-clause-seals : goal.returns-in-Err-clause-seals
returns-in-Err-clause-seals g c = λ s k h one.
    let limit : c.text_limit.result ≡ text_limit s.suite = c.text_limit.ensures ∙ ap text_limit_by (sym k.by) in
    let t = message_task MaskFirst s no_tag in
    exit_stopped _ _ _ _ s _ _ _ _ _ _ limit one h.fits.aad_fits
    (c.in-Err.ensures.passed t (none_fed t _ k refl refl h)) c.in-Err.ensures.blame

pub returns-in-Ok-None-clause-seals : goal.returns-in-Ok-None-clause-seals
returns-in-Ok-None-clause-seals g c = λ s k h one.
    let limit : c.text_limit.result ≡ text_limit s.suite = c.text_limit.ensures ∙ ap text_limit_by (sym k.by) in
    let t = message_task MaskFirst s no_tag in
    let went = rw c.in-Ok-None.field-0-is at (c.in-Ok-None.ensures.passed t (none_fed t _ k refl refl h)) in
    exit_long _ _ _ _ _ s _ _ _ _ _ _ limit one h.fits.aad_fits went c.in-Ok-None.ensures.blame

pub returns-in-Ok-clause-seals : goal.returns-in-Ok-clause-seals
returns-in-Ok-clause-seals g c = λ s k h one.
    let limit : c.text_limit.result ≡ text_limit s.suite = c.text_limit.ensures ∙ ap text_limit_by (sym k.by) in
    let t = message_task MaskFirst s no_tag in
    let tag : List ℕ = c.tag.result in
    let size : length tag ≡ 16 = c.bytes.ensures.are_bytes.length_is in
    let R : List ℕ → Type 0 =
    λ b. Appends (g.O.Outlet.taken c.pass_all.new.outlet) (g.O.Outlet.taken c.give_all.new.outlet) b in
    exit_tag _ _ _ _ _ _ s _ tag _ _ 16 _ _ _ _ _ limit one h.fits.aad_fits
    (rw c.in-Ok-Some.field-0-is at (c.in-Ok-Some.ensures.passed t (none_fed t _ k refl refl h)))
    (λ text held. c.tag.ensures s _ k held.taken ∙ sym (one_pass_tag s no_tag text one))
    (subst R (c.bytes.ensures.value ∙ sym (take_all 16 tag (omega (arith, size)))) c.in-Ok.ensures.bytes)
    (inl (
      refl,
      omega (arith, size),
      c.in-Ok-Some.ensures.blame.0,
      c.in-Ok.ensures.count
          ∙ c.in-Ok-Some.ensures.blame.1,
    ))

pub returns-in-Err-give_all-clause-seals : goal.returns-in-Err-give_all-clause-seals
returns-in-Err-give_all-clause-seals g c = λ s k h one.
    let limit : c.text_limit.result ≡ text_limit s.suite = c.text_limit.ensures ∙ ap text_limit_by (sym k.by) in
    let t = message_task MaskFirst s no_tag in
    let given = c.in-Err-give_all.ensures.bytes in
    let R : List ℕ → Type 0 =
    λ b. Appends (g.O.Outlet.taken c.pass_all.new.outlet) (g.O.Outlet.taken c.give_all.new.outlet)
    (take given.0 b) in
    let F : ℕ → Type 0 = λ n. Failed n (g.O.Outlet.failures c.give_all.new.outlet) in
    exit_tag _ _ _ _ _ _ s _ c.tag.result _ _ given.0 _ _ _ _ _ limit one h.fits.aad_fits
    (rw c.in-Ok-Some.field-0-is at (c.in-Ok-Some.ensures.passed t (none_fed t _ k refl refl h)))
    (λ text held. c.tag.ensures s _ k held.taken ∙ sym (one_pass_tag s no_tag text one))
    (subst R c.bytes.ensures.value given.2)
    (inr (refl, subst F c.in-Ok-Some.ensures.blame.1 c.in-Err-give_all.ensures.count))

pub returns-in-Err-give_all-clause-blame : goal.returns-in-Err-give_all-clause-blame
returns-in-Err-give_all-clause-blame g c =
    let F : ℕ → Type 0 = λ n. Failed n (g.O.Outlet.failures c.give_all.new.outlet) in
    inr (inr (refl, subst F c.in-Ok-Some.ensures.blame.1 c.in-Err-give_all.ensures.count))
