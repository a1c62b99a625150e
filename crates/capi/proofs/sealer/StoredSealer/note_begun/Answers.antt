use Rattle.std.proofs.Common.{◌∙◌, sym, ap, subst, Ok, Err, MatchResult}
use Rattle.aead.specs.Suites.{construction_of, is_one_pass}
use Rattle.aead.specs.Sealing.{mask_of}
use Rattle.aead.specs.Code.Masks.{none_leaves}
use Rattle.aead.specs.PassStates.{HoldsNumbers}
use Rattle.aead.specs.KeyedPasses.{BeginRefused, HasBegun}
use Rattle.capi.specs.Sealers.{sealer_mark}
use Rattle.capi.proofs.sealer.StoredSealer.note_begun.Goals as goal

pub returns-in-Ok-clause-begins : goal.returns-in-Ok-clause-begins
returns-in-Ok-clause-begins c = λ s same one h.
    let begun = subst (λ r. MatchResult r (λ _. HasBegun c.args.self.now.keys c.args.self.now.state s)
    (BeginRefused s)) c.in-Ok.is h in (
      Ok tt,
      (
        c.outcome_number.ensures,
        record {
          mark_is = c.mark_of-self.ensures ∙ ap sealer_mark (sym same);
          one_pass = ap (λ x. is_one_pass (construction_of x)) same ∙ one;
          keys = begun.0;
          state = λ tag. subst (HoldsNumbers c.args.self.now.state s) (sym (none_leaves (mask_of s tag))) begun.1;
        },
      ),
    )

pub returns-in-Err-clause-begins : goal.returns-in-Err-clause-begins
returns-in-Err-clause-begins c = λ s same one h. (
  Err c.in-Err.fault,
  (
    c.outcome_number-in-Err.ensures,
    subst (λ r. MatchResult r (λ _. HasBegun c.args.self.now.keys c.args.self.now.state s)
        (BeginRefused s)) c.in-Err.is h,
  ),
)
