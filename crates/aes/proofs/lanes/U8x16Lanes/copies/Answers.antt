use Rattle.std.proofs.Common.{◌≡◌, ◌%◌, ℕ, get_or, sym, ap, arith, rules}
use Rattle.aes.proofs.lanes.U8x16Lanes.copies.Goals as goal

pub returns : goal.returns
returns c = record {
  long = search rules;
  each = λ k l. let own : k % 16 ≡ k = omega arith in ap (λ (i : ℕ). get_or c.args.bytes i 0) (sym own);
}
