use Rattle.std.proofs.Common.{refl}
use Rattle.capi.proofs.stored_key.KeyNumbers.zeros.Goals as goal

pub returns-clause-cleared : goal.returns-clause-cleared
returns-clause-cleared c = record {
  mark_is = refl;
  key_is = refl;
  ready_keys_are = refl;
  ghash_key_is = refl;
  multiples_are = c.zeros.ensures;
}
