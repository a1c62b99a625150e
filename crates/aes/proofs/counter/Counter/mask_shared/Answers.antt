use Rattle.std.proofs.Common.{◌≡◌, ℕ, List, ◌+◌, ◌-◌, ◌*◌, ◌/◌, ◌%◌, ◌^◌, ◌≤◌, ◌==◌, cond, ◌∙◌, ap, ap₂, sym, length, take, drop, get_or, refl, subst, arith}
use Rattle.std.proofs.lemmas.List.{length-take-le, length-drop}
use Rattle.octets.specs.Bytes.{IsBlock}
use Rattle.aes.specs.Cipher.{rounds}
use Rattle.aes.specs.Schedule.{schedule}
use Rattle.aes.specs.Code.FirstRound.{Shares}
use Rattle.aes.proofs.SixteenBlocks.{same_blocks}
use Rattle.aes.proofs.StreamSteps.{front_same, front_more, front_all}
use Rattle.aes.proofs.counter.Counter.mask_shared.Goals as goal

pub loop-done-init : goal.loop-done-init
loop-done-init g c =
    let s = c.args.self.now in
    record {
      front = front_same g.C.Count.up c.args.key.now s _ c.args.bytes.now refl refl refl refl c.requires.none;
      none = c.requires.none;
      first = refl;
      number = omega arith;
      whole = refl;
    }

pub slice_bounds-mask_states-end : goal.slice_bounds-mask_states-end
slice_bounds-mask_states-end g c =
    omega (arith, c.loop-done.invariant.whole, c.requires.can.0, c.loop-done-test.true, c.loop-done.auto.bytes)

pub mask_states-requires-clause-none : goal.mask_states-requires-clause-none
mask_states-requires-clause-none g c = c.loop-done.invariant.none

pub mask_states-requires-clause-are_blocks : goal.mask_states-requires-clause-are_blocks
mask_states-requires-clause-are_blocks g c = λ j.
    subst (λ b. IsBlock (g.C.Count.up b j)) (sym c.loop-done.invariant.first)
    (c.counts_in_byte.ensures.blocks c.args.self.now.first j c.block-block.ensures.is_block)

pub mask_states-requires-clause-states : goal.mask_states-requires-clause-states
mask_states-requires-clause-states g c =
    let s = c.args.self.now in
    let up : List ℕ → ℕ → List ℕ = g.C.Count.up in
    let ws = schedule c.args.key.now in
    let number : ℕ = s.block_count in
    let count : ℕ = length c.args.bytes.now / 16 in
    let counts = c.counts_in_byte.ensures in
    let block : IsBlock s.first = c.block-block.ensures.is_block in
    let f : ℕ → List ℕ = λ n. up s.first ((number + n) % 2 ^ 32) in
    let shares : Shares c.share_round.new.base c.share_round.new.columns (λ n. rounds ws 1 (f n)) count =
    c.share_round.ensures f count (λ n. counts.blocks s.first ((number + n) % 2 ^ 32) block) (λ n i hn hi.
    ap (λ (b : List ℕ). get_or b i 0) (g.met.C.Count.wraps s.first (number + n))
    ∙ counts.near s.first number n i block (omega (arith, hn, c.requires.can.2)) hi
    ∙ ap₂ (λ (b : List ℕ) (p : ℕ). get_or b i 0 + cond (i == p) n 0) (sym (c.bytes.ensures.value ∙ c.block-block.ensures.value))
    (sym c.LOW.ensures)) in
    let run : ℕ = c.loop-done.done / 256 in
    let room : 16 * run + 16 ≤ count =
    omega (arith, c.loop-done.invariant.whole, c.requires.can.0, c.loop-done-test.true, c.loop-done.auto.bytes) in
    same_blocks c.sixteen_states-states.result (λ q. rounds ws 1 (f (16 * run + q)))
    (λ q. rounds ws 1 (up c.loop-done.self.first ((c.loop-done.self.block_count + q) % 2 ^ 32)))
    (λ q.
    let place : (number + (16 * run + q)) % 2 ^ 32 ≡ (c.loop-done.self.block_count + q) % 2 ^ 32 =
    omega (arith, c.loop-done.invariant.number, c.loop-done.invariant.whole) in
    ap (rounds ws 1) (ap₂ up (sym c.loop-done.invariant.first) place))
    (c.sixteen_states-states.ensures (λ n. rounds ws 1 (f n)) count shares room)

pub loop-done-preserved : goal.loop-done-preserved
loop-done-preserved g c =
    let a : ℕ = c.loop-done.done in
    let k : ℕ = a + 256 - a in
    let mid = c.loop-done.bytes in
    let same : length mid ≡ length c.args.bytes.now = c.loop-done.auto.bytes in
    let room : a + k ≤ length mid =
    omega (arith, c.loop-done.invariant.whole, c.requires.can.0, c.loop-done-test.true, c.loop-done.auto.bytes) in
    let part : length (take k (drop a mid)) ≡ k =
    length-take-le k (drop a mid) (omega (arith, room, length-drop a mid)) in
    record {
      front = front_more g.C.Count.up c.args.key.now c.args.self.now c.loop-done.self c.mask_states.new.self c.args.bytes.now mid
          c.mask_states.new.bytes a k (a + 256) same c.loop-done.invariant.front room (omega arith)
          (c.mask_states.auto.bytes ∙ part) c.mask_states.ensures.advances (λ l. c.mask_states.ensures.used);
      none = c.mask_states.ensures.used;
      first = c.mask_states.ensures.first ∙ c.loop-done.invariant.first;
      number = omega (arith, c.mask_states.ensures.number, c.loop-done.invariant.number);
      whole = omega (arith, c.loop-done.invariant.whole);
    }

pub returns-clause-advances : goal.returns-clause-advances
returns-clause-advances g c =
    front_all g.C.Count.up c.args.key.now c.args.self.now c.loop-done.self c.args.bytes.now c.loop-done.bytes c.loop-done.done
    c.loop-done.auto.bytes c.loop-done.invariant.front (omega (arith, c.loop-done-test.false, c.loop-done.auto.bytes))

pub returns-clause-used : goal.returns-clause-used
returns-clause-used g c = c.loop-done.invariant.none
