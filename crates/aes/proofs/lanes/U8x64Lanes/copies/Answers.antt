use Rattle.std.proofs.Common.{◌≡◌, ◌%◌, ◌++◌, get_or, length, refl, ◌∙◌, arith, rules}
use Rattle.std.proofs.lemmas.List.FromFn.{get_or-map-range_with_len}
use Rattle.std.proofs.lemmas.List.{get_or_append_left}
use Rattle.aes.proofs.lanes.U8x64Lanes.copies.Goals as goal

pub returns : goal.returns
returns c =
    let v = c.args.bytes in
    let long : length v ≡ 16 = search rules in
    record {
      long = refl;
      each = λ k l.
          get_or-map-range_with_len (λ j. get_or (v ++ v) (j % 16) 0) 0 64 k k 0 l (omega arith)
          ∙ get_or_append_left v v 0 (k % 16) (omega (arith, long));
    }
