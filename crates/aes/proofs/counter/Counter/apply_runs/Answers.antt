use Rattle.std.proofs.Common.{◌≡◌, ℕ, ◌-◌, ◌∙◌, length, take, drop, refl, arith}
use Rattle.std.proofs.lemmas.List.{length-take-le, length-drop}
use Rattle.aes.proofs.StreamSteps.{front_none, front_then}
use Rattle.aes.proofs.counter.Counter.apply_runs.Goals as goal

pub returns : goal.returns
returns g c =
    let a : ℕ = c.apply_sixteens_by-done.result in
    let mid = c.apply_sixteens_by-done.new.bytes in
    let k : ℕ = length mid - a in
    let part : length (take k (drop a mid)) ≡ k = length-take-le k (drop a mid) (omega (arith, length-drop a mid)) in
    front_then g.C.Count.up c.args.key.now c.args.self.now c.apply_sixteens_by-done.new.self c.apply_fours-2.new.self c.args.bytes.now mid
    c.apply_fours-2.new.bytes a k c.apply_fours-2.result c.apply_sixteens_by-done.auto.bytes
    c.apply_sixteens_by-done.ensures refl (c.apply_fours-2.auto.bytes ∙ part) c.apply_fours-2.ensures

pub returns-then-bytes-four_pay : goal.returns-then-bytes-four_pay
returns-then-bytes-four_pay g c = front_none g.C.Count.up c.args.key.now c.args.self.now c.args.bytes.now c.requires.none
