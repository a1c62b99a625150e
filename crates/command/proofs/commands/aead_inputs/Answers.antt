use Rattle.std.proofs.Common.{rules, ◌≡◌}
use Rattle.std.proofs.lemmas.Result.{err_from_is_err_and}
use Rattle.aead.specs.Suites.{suite_name}
use Rattle.command.proofs.AeadLemmas.{wrong_key, wrong_nonce}
use Rattle.command.proofs.commands.aead_inputs.Goals as goal

pub returns-in_err-new : goal.returns-in_err-new
returns-in_err-new g c =
    let p = err_from_is_err_and c.from_residual-in_err-new.result c.from_residual-in_err-new.ensures.1 in
    let suite_is : c.args.words.now.suite.now ≡ suite_name c.in-Some.suite = search rules in
    rw (p.1, p.2) (wrong_key _ (record { suite = c.in-Some.suite; key = c.deref.result.now }) _ _ _ _
    (record {
      suite_is = suite_is;
      key_is = rw c.deref.ensures.value c.in_ok-key.ensures;
      nonce_is = c.in_ok-nonce.ensures;
      aad_is = c.in_ok-aad.ensures;
      body_is = c.in_ok-body.ensures;
    }) c.in_err-new.ensures.1 c.in_err-new.ensures.0)

pub returns-in_err-from_slice : goal.returns-in_err-from_slice
returns-in_err-from_slice g c =
    let p = err_from_is_err_and c.from_residual-in_err-from_slice.result
    c.from_residual-in_err-from_slice.ensures.1 in
    let suite_is : c.args.words.now.suite.now ≡ suite_name c.in-Some.suite = search rules in
    rw (p.1, p.2) (wrong_nonce _ (record { suite = c.in-Some.suite; key = c.deref.result.now })
    c.deref-2.result.now _ _ _ (record {
      suite_is = suite_is;
      key_is = rw c.deref.ensures.value c.in_ok-key.ensures;
      nonce_is = rw c.deref-2.ensures.value c.in_ok-nonce.ensures;
      aad_is = c.in_ok-aad.ensures;
      body_is = c.in_ok-body.ensures;
    }) c.in_ok-new.ensures.1 c.in_err-from_slice.ensures.1 c.in_err-from_slice.ensures.0)
