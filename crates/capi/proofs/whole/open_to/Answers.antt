use Rattle.std.proofs.Common.{◌≡◌, ◌-◌, ◌∙◌, ℕ, List, ◌++◌, length, sym, ap₂, subst, rules, inl, Err}
use Rattle.std.proofs.lemmas.List.{take-append-drop}
use Rattle.octets.specs.declared.fault.Fault.{Fault}
use Rattle.octets.specs.declared.fault.Fault.TheVariants.{TooShort}
use Rattle.aead.specs.Sealing.{Setting, IsSealing}
use Rattle.aead.specs.Ciphers.{setting}
use Rattle.capi.specs.Whole.{BodyRefused, SealedRefused, left_at}
use Rattle.capi.proofs.Refused.{wrong_tag}
use Rattle.capi.proofs.whole.open_to.Goals as goal

pub returns-in_default-split_last_chunk : goal.returns-in_default-split_last_chunk
returns-in_default-split_last_chunk g c = inl (Err TooShort, search rules)

pub returns-in-Err-run : goal.returns-in-Err-run
returns-in-Err-run g c =
    let under : List ℕ → Setting = λ nonce. setting (g.K.Keys.keyed c.args.keys.now) nonce c.args.aad.now in
    let s = under c.args.nonce.now in
    let sealed = c.args.sealed.now in
    let body = c.copy_from_slice.new.self in
    let tag = c.in-Some.tag.now in
    let found = wrong_tag s body tag c.in-Err-run.fault c.in_default.ensures.0 (search rules)
    (subst (λ n. BodyRefused (under n) body tag c.in-Err-run.fault) c.nonce_of.ensures c.in-Err-run.ensures.1) in
    let parts = c.in-Some.ensures.cases in
    let whole : body ++ tag ≡ sealed =
    ap₂ (λ x y. x ++ y) (c.copy_from_slice.ensures.after ∙ parts.0) parts.1 ∙ take-append-drop (length sealed - 16) sealed in
    let none = subst (λ x. ¬ IsSealing s x) whole found.1 in
    let P : Fault → Type 0 = λ e. (c.fill.new.self ≡ left_at e c.args.text.now) × SealedRefused s sealed c.args.text.now e in
    inl (
      Err c.in-Err-run.fault,
      (c.outcome_number-in-Err-run.ensures, subst P (sym found.0) (search rules)),
    )
