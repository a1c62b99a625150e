use Rattle.std.proofs.Common.{refl}
use Rattle.capi.proofs.whole.aeadkit_open.Goals as goal

-- a suite that was found has the number
pub returns-in-Some-clause-unknown : goal.returns-in-Some-clause-unknown
returns-in-Some-clause-unknown c = λ none.
    absurd (none c.in-Some.suite ((c.in-Some.ensures c.in-Some.suite).0 refl))
