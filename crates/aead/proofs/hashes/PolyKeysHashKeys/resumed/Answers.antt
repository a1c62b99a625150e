use Rattle.std.proofs.Common.{List, ℕ, subst, sym}
use Rattle.poly1305.specs.Code.States.{Holds, IsSum}
use Rattle.aead.specs.PassStates.{IsMessageSecret, IsSumOf}
use Rattle.aead.proofs.hashes.PolyKeysHashKeys.resumed.Goals as goal

pub returns : goal.returns
returns c = λ s m by keyed_by sum_by rest.
    let keyed = subst (λ x. IsMessageSecret x c.args.secret.now s) by keyed_by in
    let sum = subst (λ x. IsSumOf x c.args.low c.args.high s m) by sum_by in
    let held = subst (λ (x : List ℕ). IsSum x m c.args.low c.args.high) (sym keyed) sum in
    (by, subst (λ (x : List ℕ). Holds c.resumed.result x m) keyed (c.resumed.ensures m held rest))
