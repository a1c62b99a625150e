use Rattle.std.proofs.Common.{◌≡◌, ℕ, ◌+◌, ◌-◌, ◌≤◌, ◌∙◌, length, take, drop, arith}
use Rattle.std.proofs.lemmas.List.{length-take-le, length-drop}
use Rattle.aes.proofs.StreamSteps.{front_none, front_more}
use Rattle.aes.proofs.counter.Counter.apply_sixteens.Goals as goal

pub loop-bytes-init : goal.loop-bytes-init
loop-bytes-init g c = front_none g.C.Count.up c.args.key.now c.args.self.now c.args.bytes.now c.requires.none

pub loop-bytes-preserved : goal.loop-bytes-preserved
loop-bytes-preserved g c =
    let a : ℕ = c.loop-bytes.done in
    let k : ℕ = a + c.next_run-next.result - a in
    let mid = c.loop-bytes.bytes in
    let same : length mid ≡ length c.args.bytes.now = c.loop-bytes.auto.bytes in
    let within : a ≤ length mid = omega (arith, same, c.loop-bytes.invariant.within) in
    let room : a + k ≤ length mid = omega (arith, within, c.next_run-next.ensures.within) in
    let part : length (take k (drop a mid)) ≡ k =
    length-take-le k (drop a mid) (omega (arith, room, length-drop a mid)) in
    front_more g.C.Count.up c.args.key.now c.args.self.now c.loop-bytes.self c.mask_run.new.self c.args.bytes.now mid
    c.mask_run.new.bytes a k (a + c.next_run-next.result) same c.loop-bytes.invariant room (omega arith)
    (c.mask_run.auto.bytes ∙ part) c.mask_run.ensures.advances
    (λ l. omega (arith, l, part, within, c.next_run-next.ensures.whole (omega (arith, l, within)), c.mask_run.ensures.used))
