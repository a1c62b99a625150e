use Rattle.std.proofs.lemmas.Result.{err_from_is_err_and}
use Rattle.command.proofs.KeywrapLemmas.{key_refused}
use Rattle.command.proofs.commands.wrap_inputs.Goals as goal

pub returns-in_err-from_slice : goal.returns-in_err-from_slice
returns-in_err-from_slice g c =
    let p = err_from_is_err_and c.from_residual-in_err-from_slice.result
    c.from_residual-in_err-from_slice.ensures.1 in
    rw (p.1, p.2) (key_refused _ _ _ _ _ _ c.in_ok-key_bytes.ensures c.in_ok-body.ensures
    c.deref.ensures.value c.in_err-from_slice.ensures.0 c.in_err-from_slice.ensures.1)
