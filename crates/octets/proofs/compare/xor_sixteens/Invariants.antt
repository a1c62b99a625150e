use Rattle.std.proofs.Common.{◌≡◌, ◌-◌, ◌≤◌, length, take, drop}
use Rattle.octets.specs.Bytes.{xor_bytes}
use Rattle.octets.proofs.compare.xor_sixteens.Given as goal

abbrev pub invariant-sixteens : goal.invariant-sixteens
invariant-sixteens l = record {
  length_is : length l.dst ≡ length l.fn.dst;
  within : l.at ≤ length l.fn.dst;
  done : take l.at l.dst ≡ xor_bytes (take l.at l.fn.dst) (take l.at l.src);
  left : drop l.at l.dst ≡ drop l.at l.fn.dst;
}

abbrev pub decreases-sixteens : goal.decreases-sixteens
decreases-sixteens l = length l.dst - l.at
