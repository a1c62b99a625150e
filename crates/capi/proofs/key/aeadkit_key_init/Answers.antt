use Rattle.std.proofs.Common.{◌≡◌, ◌∙◌, refl, sym, ap, subst, Ok, Err}
use Rattle.std.proofs.lemmas.Option.{same_Some}
use Rattle.octets.specs.declared.fault.Fault.TheVariants.{KeyLength}
use Rattle.aead.specs.Suites.{key_length}
use Rattle.capi.specs.StoredKeys.{KeepsKey, HasZeros}
use Rattle.capi.proofs.key.aeadkit_key_init.Goals as goal

pub returns-then-key-key_length-clause-known : goal.returns-then-key-key_length-clause-known
returns-then-key-key_length-clause-known c = λ named is.
    let same : c.in-Some.suite ≡ named = same_Some _ _ ((c.in-Some.ensures named).1 is) in (
      Err KeyLength,
      (
        c.outcome_number.ensures,
        λ e. c.if-key-key_length.true (e ∙ sym (c.key_length.ensures ∙ ap key_length same)),
      ),
    )

pub returns-clause-known : goal.returns-clause-known
returns-clause-known c = λ named is.
    let same : c.in-Some.suite ≡ named = same_Some _ _ ((c.in-Some.ensures named).1 is) in (
      Ok tt,
      (
        c.outcome_number-2.ensures,
        record {
          keeps = (c.new.result, (refl, subst (λ x. KeepsKey c.new.result x c.args.key.now) same c.new.ensures.keeps));
          zeros = subst (HasZeros c.new.result.numbers) same c.new.ensures.zeros;
        },
      ),
    )

pub returns-then-key-key_length-clause-unknown : goal.returns-then-key-key_length-clause-unknown
returns-then-key-key_length-clause-unknown c = λ none.
    absurd (none c.in-Some.suite ((c.in-Some.ensures c.in-Some.suite).0 refl))

pub returns-clause-unknown : goal.returns-clause-unknown
returns-clause-unknown c = λ none.
    absurd (none c.in-Some.suite ((c.in-Some.ensures c.in-Some.suite).0 refl))
