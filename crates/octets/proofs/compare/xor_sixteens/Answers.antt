use Rattle.std.proofs.Common.{◌≡◌, ℕ, ◌+◌, ◌-◌, ◌≤◌, length, drop, refl, ap₂, ◌∙◌, arith}
use Rattle.std.proofs.lemmas.List.{length-take-le, length-drop, take_all}
use Rattle.octets.specs.Bytes.{xor_bytes}
use Rattle.octets.proofs.Xors.{length-put_mid, xor_more, xor_last}
use Rattle.octets.proofs.compare.xor_sixteens.Goals as goal

pub sixteens-init : goal.sixteens-init
unfolding xor_bytes
sixteens-init c = record { length_is = refl; within = omega arith; done = refl; left = refl }

pub sixteens-preserved : goal.sixteens-preserved
sixteens-preserved c =
    let a : ℕ = c.sixteens.at in
    let mid = c.sixteens.dst in
    let whole : length mid ≡ length c.args.dst.now = c.sixteens.invariant.length_is in
    let long : a + 16 ≤ length mid = omega (arith, c.requires, c.sixteens-test.true, whole) in
    let part : length c.xor_lanes.new.dst ≡ a + 16 - a =
    c.xor_lanes.auto.dst ∙ length-take-le (a + 16 - a) (drop a mid) (omega (arith, length-drop a mid)) in
    let more = xor_more c.args.dst.now mid c.args.src.now c.xor_lanes.new.dst a (a + 16 - a) (a + 16) c.requires.0
    whole long (omega arith) part c.sixteens.invariant.done c.sixteens.invariant.left
    c.xor_lanes.ensures in
    record {
      length_is = length-put_mid a (a + 16 - a) mid c.xor_lanes.new.dst (omega arith) part ∙ whole;
      within = omega (arith, long, whole);
      done = more.0;
      left = more.1;
    }

pub returns : goal.returns
returns c =
    let mid = c.sixteens.dst in
    let was = c.args.dst.now in
    let by = c.args.src.now in
    let whole : length mid ≡ length was = c.sixteens.invariant.length_is in
    let b : ℕ = length was - 16 in
    xor_last was mid by c.put_lanes.new.dst c.sixteens.at b (length mid - b) c.requires.0 whole
    c.sixteens-test.false (omega (arith, whole, c.sixteens.invariant.within)) refl c.sixteens.invariant.done
    (c.put_lanes.ensures ∙ c.xored_lanes-last.ensures
    ∙ ap₂ xor_bytes (take_all (length was - b) (drop b was) (omega (arith, length-drop b was)))
    (take_all (length by - b) (drop b by) (omega (arith, length-drop b by))))
