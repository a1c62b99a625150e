use Rattle.std.proofs.Common.{inr, refl}
use Rattle.std.proofs.lemmas.Result.{err_from_is_err_and}
use Rattle.command.specs.Keywrap.{WrapFault}
use Rattle.command.proofs.KeywrapLemmas.{spelled_pair, call_refused}
use Rattle.command.proofs.commands.wrap.Goals as goal

pub returns-in_err-wrap_text : goal.returns-in_err-wrap_text
returns-in_err-wrap_text g c =
    let p = err_from_is_err_and c.from_residual-in_err-wrap_text.result
    c.from_residual-in_err-wrap_text.ensures.1 in
    let is = c.in_ok-call.ensures in
    rw (p.1, p.2) (inr (call_refused (WrapFault c.args.pad) _ _ _ (spelled_pair _ _ _ _ _ _ _
    is.1 is.2 refl c.deref.ensures.value (is.0, c.in_err-wrap_text.ensures))))

pub returns : goal.returns
returns g c =
    let is = c.in_ok-call.ensures in
    spelled_pair _ _ _ _ _ _ _ is.1 is.2 refl c.deref.ensures.value (is.0, c.in_ok-wrap_text.ensures)
