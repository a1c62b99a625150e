use Rattle.std.proofs.Common.{◌≡◌, ℕ, ◌+◌, ◌-◌, ◌/◌, ◌%◌, ◌^◌, ◌≤◌, List, [], ◌++◌, length, take, drop}
use Rattle.std.proofs.Common.{sym, ap, subst, ◌∙◌, arith}
use Rattle.std.proofs.lemmas.List.{append_assoc, length-take-le, length-drop, take_all}
use Rattle.octets.proofs.Ends.{all_left}
use Rattle.octets.specs.Ends.{IsEnd}
use Rattle.octets.specs.Masked.{masked}
use Rattle.chacha.specs.Stream.{key_stream_byte}
use Rattle.chacha.proofs.InterleavedRuns.{interleaved, carried, left_of, front_is, back_is, run_masked, run_ends, left_grows, next_exists, none_masked}
use Rattle.chacha.proofs.runs.mask_then_hash.Goals as goal

pub runs-init : goal.runs-init
runs-init g c =
    let b : ℕ = c.args.begun in
    let was : List ℕ = c.args.bytes.now in
    let none : b - b ≡ 0 = omega arith in
    let f = key_stream_byte c.args.key.now c.args.nonce.now c.args.counter in (
      omega arith,
      omega (arith, c.requires.some),
      omega arith,
      omega arith,
      omega arith,
      subst (λ n. g.R.Run.starts c.starts_at-start.result c.args.key.now n c.args.nonce.now) (omega (arith, none))
          c.starts_at-start.ensures,
      none_masked f 0 b was,
      λ k m h. g.met.W.BlockWork.grows c.args.hash.now [] (take b was) k m h,
    )

pub next-x-requires : goal.next-x-requires
next-x-requires g c =
    let a : ℕ = c.runs.done - c.args.begun in
    let i = c.runs.invariant in
    let room : a + g.R.Run.SIZE ≤ length c.args.bytes.now - c.args.begun =
    omega (arith, c.runs-test.true, i.0, i.1, c.runs.auto.bytes, c.SIZE-size.ensures) in (
      c.args.key.now,
      (
        c.args.nonce.now,
        (
          c.args.counter + a / 64,
          (
            next_exists c.args.counter a g.R.Run.SIZE _ g.met.R.Run.whole.1 i.2 room c.requires.counters,
            i.5,
          ),
        ),
      ),
    )

pub overflow_sub-taken : goal.overflow_sub-taken
overflow_sub-taken g c =
    let before : List ℕ = c.split_at_mut-before.result.0.now in
    let t : ℕ = c.runs.taken in
    let left : List ℕ = take (length before - t) (drop t before) in
    let end : IsEnd c.next-x.new.work.left.now left = (c.next-x.ensures.work (interleaved c.runs.own left) (all_left left, λ k m h. h)).0 in
    omega (
      arith,
      end.shorter,
      c.split_at_mut-before.ensures.front_len,
      length-take-le (length before - t) (drop t before) (omega (arith, length-drop t before)),
    )

pub runs-preserved : goal.runs-preserved
runs-preserved g c =
    let key = c.args.key.now in
    let nonce = c.args.nonce.now in
    let n : ℕ = c.args.counter in
    let was : List ℕ = c.args.bytes.now in
    let p : List ℕ = c.runs.bytes in
    let d : ℕ = c.runs.done in
    let t : ℕ = c.runs.taken in
    let s : ℕ = c.SIZE-size.result in
    let a : ℕ = d - c.args.begun in
    let b : List ℕ = take c.args.begun was in
    let rest : List ℕ = drop c.args.begun was in
    let i = c.runs.invariant in
    let halves = c.split_at_mut-before.ensures in
    let before : List ℕ = c.split_at_mut-before.result.0.now in
    let after : List ℕ = c.split_at_mut-before.result.1.now in
    let new : List ℕ = c.xor_serialized.new.bytes in
    let left : List ℕ = take (length before - t) (drop t before) in
    let f = key_stream_byte key nonce n in
    let e : s ≡ g.R.Run.SIZE = c.SIZE-size.ensures in
    let whole : s % 64 ≡ 0 = omega (arith, e, g.met.R.Run.whole.1) in
    let room : d + s ≤ length was = omega (arith, c.runs-test.true, i.1, c.runs.auto.bytes) in
    let le : a ≤ length rest = omega (arith, i.1, length-drop c.args.begun was) in
    let place : d ≡ length b + a = omega (arith, i.0, i.1, length-take-le c.args.begun was (omega (arith, i.0, i.1))) in
    let eb : length before ≡ d = halves.front_len in
    let en : length new ≡ s =
    c.xor_serialized.auto.bytes ∙ length-take-le s after (omega (arith, room, halves.back_len, c.runs.auto.bytes)) in
    let is_before = halves.front ∙ front_is f 0 b rest p a d place le i.6 in
    let is_after = halves.back ∙ back_is f 0 b rest p a d place le i.6 in
    let next : n + a / 64 + g.R.Run.SIZE / 64 ≡ n + (d + s - c.args.begun) / 64 =
    omega (arith, e, i.0, i.2, g.met.R.Run.whole.1) in
    let last : n + a / 64 + g.R.Run.SIZE / 64 ≤ 2 ^ 32 = omega (arith, next, room, c.requires.counters) in
    let more : a + s ≡ d + s - c.args.begun = omega (arith, i.0) in
    let tail : left ≡ drop t before =
    take_all (length before - t) (drop t before) (omega (arith, length-drop t before)) in
    let went : IsEnd c.next-x.new.work.left.now left
    × ((k m : List ℕ) → g.W.BlockWork.comes_to c.runs.own left k m
    → g.W.BlockWork.comes_to c.next-x.new.work.hash c.next-x.new.work.left.now k m) =
    c.next-x.ensures.work (interleaved c.runs.own left) (all_left left, λ k m h. h) in
    let size : length left ≡ d - t = ap length tail ∙ length-drop t before ∙ ap (λ (x : ℕ). x - t) eb in
    let now : ℕ = d - length c.next-x.new.work.left.now in
    let ends : take (d + s) (before ++ (new ++ drop s after)) ≡ before ++ new =
    run_ends before new (drop s after) d s eb en in
    let left_is : c.next-x.new.work.left.now ≡ drop now before =
    left_of t _ left before went.0 tail (omega (arith, i.3, eb))
    ∙ ap (λ (x : ℕ). drop (x - length c.next-x.new.work.left.now) before) eb in (
      omega (arith, i.0),
      room,
      omega (arith, i.0, i.2, whole),
      omega arith,
      omega (arith, went.0.shorter, went.0.whole, size, i.3, i.4),
      subst (λ m. g.R.Run.starts c.next-x.new.self key m nonce) next
          (c.next-x.ensures.next key nonce (n + a / 64) i.5),
      run_masked key nonce n a s b rest before after new i.2 le is_before is_after
          (c.xor_serialized.ensures key nonce (n + a / 64) (c.next-x.ensures.made key nonce (n + a / 64) i.5 last))
          ∙ ap (λ (x : ℕ). b ++ (masked f 0 (take x rest) ++ drop x rest)) more,
      λ k m h. carried (λ x y. g.W.BlockWork.comes_to c.next-x.new.work.hash x k y) _ _ _ _
          (ap (λ x. x ++ new) left_is
          ∙ sym (ap (drop now) ends ∙ left_grows before new now (omega (arith, eb))))
          (append_assoc m before new ∙ ap (λ x. m ++ x) (sym ends))
          (g.met.W.BlockWork.grows c.next-x.new.work.hash c.next-x.new.work.left.now new k (m ++ before)
          (went.1 k (m ++ before) (carried (λ x y. g.W.BlockWork.comes_to c.runs.own x k y) _ _ _ _
          (sym (tail ∙ ap (drop t) halves.front)) (ap (λ x. m ++ x) (sym halves.front)) (i.7 k m h)))),
    )
