use Rattle.std.proofs.Common.{◌≡◌, ℕ, ◌+◌, ◌-◌, ◌≤◌, ◌∙◌, length, take, drop, arith}
use Rattle.std.proofs.lemmas.List.{length-take-le, length-drop}
use Rattle.aes.proofs.StreamSteps.{front_more, front_all}
use Rattle.aes.proofs.counter.Counter.apply_blocks.Goals as goal

pub loop-bytes-init : goal.loop-bytes-init
loop-bytes-init g c = c.apply_runs-done.ensures

pub loop-bytes-preserved : goal.loop-bytes-preserved
loop-bytes-preserved g c =
    let a : ℕ = c.loop-bytes.done in
    let k : ℕ = a + c.min-next.result - a in
    let mid = c.loop-bytes.bytes in
    let same : length mid ≡ length c.args.bytes.now = c.loop-bytes.auto.bytes ∙ c.apply_runs-done.auto.bytes in
    let within : a ≤ length mid = omega (arith, same, c.loop-bytes.invariant.within) in
    let room : a + k ≤ length mid = omega (arith, within, c.min-next.ensures) in
    let part : length (take k (drop a mid)) ≡ k =
    length-take-le k (drop a mid) (omega (arith, room, length-drop a mid)) in
    front_more g.C.Count.up c.args.key.now c.args.self.now c.loop-bytes.self c.mask_two.new.self c.args.bytes.now mid c.mask_two.new.bytes a k
    (a + c.min-next.result) same c.loop-bytes.invariant room (omega arith) (c.mask_two.auto.bytes ∙ part) c.mask_two.ensures.advances
    (λ l. omega (arith, l, part, within, c.min-next.ensures, c.mask_two.ensures.used))

pub loop-done-init : goal.loop-done-init
loop-done-init g c = c.loop-bytes.invariant

pub loop-done-preserved : goal.loop-done-preserved
loop-done-preserved g c =
    let a : ℕ = c.loop-done.done in
    let k : ℕ = a + c.min-next-in-loop-done.result - a in
    let mid = c.loop-done.bytes in
    let same : length mid ≡ length c.args.bytes.now = c.loop-done.auto.bytes ∙ c.loop-bytes.auto.bytes ∙ c.apply_runs-done.auto.bytes in
    let within : a ≤ length mid = omega (arith, same, c.loop-done.invariant.within) in
    let room : a + k ≤ length mid = omega (arith, within, c.min-next-in-loop-done.ensures) in
    let part : length (take k (drop a mid)) ≡ k =
    length-take-le k (drop a mid) (omega (arith, room, length-drop a mid)) in
    front_more g.C.Count.up c.args.key.now c.args.self.now c.loop-done.self c.mask_block.new.self c.args.bytes.now mid c.mask_block.new.bytes a k
    (a + c.min-next-in-loop-done.result) same c.loop-done.invariant room (omega arith) (c.mask_block.auto.bytes ∙ part) c.mask_block.ensures.advances
    (λ l. omega (arith, l, part, within, c.min-next-in-loop-done.ensures, c.mask_block.ensures.used))

pub returns : goal.returns
returns g c =
    let same : length c.loop-done.bytes ≡ length c.args.bytes.now = c.loop-done.auto.bytes ∙ c.loop-bytes.auto.bytes ∙ c.apply_runs-done.auto.bytes in
    front_all g.C.Count.up c.args.key.now c.args.self.now c.loop-done.self c.args.bytes.now c.loop-done.bytes c.loop-done.done
    same c.loop-done.invariant (omega (arith, c.loop-done-test.false, same))
