use Rattle.std.proofs.Common.{ap, sym, subst, ◌∙◌}
use Rattle.aead.specs.declared.pieces.opener.OpenerKeys.{OpenerKeys}
use Rattle.aead.specs.Pieces.{OpensUnder, construction_under}
use Rattle.aead.proofs.pieces.opener.OpenerKeys.keys.Goals as goal

pub returns-in-OnePass-clause-by : goal.returns-in-OnePass-clause-by
returns-in-OnePass-clause-by c = sym (ap construction_under c.in-OnePass.is)

pub returns-in-OnePass-clause-keys : goal.returns-in-OnePass-clause-keys
returns-in-OnePass-clause-keys c = λ s h. subst (λ (x : OpenerKeys). OpensUnder x s) c.in-OnePass.is h

pub returns-in-Siv-clause-by : goal.returns-in-Siv-clause-by
returns-in-Siv-clause-by c = c.keys.ensures.by ∙ sym (ap construction_under c.in-Siv.is)

pub returns-in-Siv-clause-keys : goal.returns-in-Siv-clause-keys
returns-in-Siv-clause-keys c = λ s h.
    let k = subst (λ (x : OpenerKeys). OpensUnder x s) c.in-Siv.is h in
    c.keys.ensures.keys s (sym k.0) k.1
