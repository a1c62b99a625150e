use Rattle.std.proofs.Common.{◌≡◌, ◌<◌, ◌^◌, true, take}
use Rattle.std.specs.List.{list_all}
use Rattle.vectors.specs.Cuts.{is_digit, decimal_value}
use Rattle.vectors.proofs.cuts.number_of.Given as goal

abbrev pub invariant-loop-digit : goal.invariant-loop-digit
invariant-loop-digit l = record {
  value : l.number ≡ decimal_value (take l.digit-index l.text);
  digits : list_all is_digit (take l.digit-index l.text) ≡ true;
  small : l.number < 2 ^ 64;
}
