use Rattle.std.proofs.Common.{◌≡◌, ℕ, ◌-◌, ◌*◌, ◌/◌, ◌%◌, ◌≤◌, List, ◌++◌, ◌∙◌, ap, sym, arith, length, take, drop}
use Rattle.std.proofs.lemmas.List.{append_assoc, length-append, length-drop, length-take-le, take_all}
use Rattle.octets.proofs.Ends.{all_left}
use Rattle.octets.specs.Ends.{IsEnd, whole_blocks}
use Rattle.chacha.proofs.InterleavedRuns.{interleaved, carried, left_of, whole_split, whole_left}
use Rattle.chacha.proofs.interleaved.mask_last.Goals as goal

pub overflow_sub-left : goal.overflow_sub-left
overflow_sub-left g c =
    let before : List ℕ = c.split_at_mut-before.result.0.now in
    let t : ℕ = c.args.taken in
    let left : List ℕ = take (length before - t) (drop t before) in
    let end : IsEnd c.xor_stream.new.work.left.now left =
    (c.xor_stream.ensures.work (interleaved c.args.hash.now left) (all_left left, λ k m h. h)).0 in
    omega (
      arith,
      end.shorter,
      c.split_at_mut-before.ensures.front_len,
      length-take-le (length before - t) (drop t before) (omega (arith, length-drop t before)),
    )

pub take_all-requires : goal.take_all-requires
take_all-requires g c =
    let before : List ℕ = c.split_at_mut-before.result.0.now in
    let new : List ℕ = c.xor_stream.new.bytes in
    let t : ℕ = c.args.taken in
    let left : List ℕ = take (length before - t) (drop t before) in
    let end : IsEnd c.xor_stream.new.work.left.now left =
    (c.xor_stream.ensures.work (interleaved c.args.hash.now left) (all_left left, λ k m h. h)).0 in
    let size : length left ≡ length before - t =
    length-take-le (length before - t) (drop t before) (omega (arith, length-drop t before)) in
    let eb : length before ≡ c.args.done = c.split_at_mut-before.ensures.front_len in
    let now : ℕ = c.args.done - length c.xor_stream.new.work.left.now in
    let whole : length before % 16 ≡ 0 = omega (arith, eb, c.requires.done.1) in
    let le : now ≤ length before = omega (arith, eb) in
    omega (
      arith,
      ap length (whole_left before new now whole le),
      length-append (drop now before) (whole_blocks new),
      length-drop now before,
      length-take-le (length new / 16 * 16) new (omega arith),
      end.whole,
      end.shorter,
      size,
      eb,
      c.requires.done.1,
      c.requires.taken.0,
      c.requires.taken.1,
    )

pub returns-clause-hashed : goal.returns-clause-hashed
returns-clause-hashed g c = λ k m h.
    let before : List ℕ = c.split_at_mut-before.result.0.now in
    let new : List ℕ = c.xor_stream.new.bytes in
    let t : ℕ = c.args.taken in
    let left : List ℕ = take (length before - t) (drop t before) in
    let tail : left ≡ drop t before =
    take_all (length before - t) (drop t before) (omega (arith, length-drop t before)) in
    let went : IsEnd c.xor_stream.new.work.left.now left
    × ((k m : List ℕ) → g.W.BlockWork.comes_to c.args.hash.now left k m
    → g.W.BlockWork.comes_to c.xor_stream.new.work.hash c.xor_stream.new.work.left.now k m) =
    c.xor_stream.ensures.work (interleaved c.args.hash.now left) (all_left left, λ k m h. h) in
    let halves = c.split_at_mut-before.ensures in
    let eb : length before ≡ c.args.done = halves.front_len in
    let now : ℕ = c.args.done - length c.xor_stream.new.work.left.now in
    let whole : length before % 16 ≡ 0 = omega (arith, eb, c.requires.done.1) in
    let left_is : c.xor_stream.new.work.left.now ≡ drop now before =
    left_of t _ left before went.0 tail (omega (arith, eb, c.requires.taken.0))
    ∙ ap (λ (x : ℕ). drop (x - length c.xor_stream.new.work.left.now) before) eb in
    c.take_all.ensures k _ (carried (λ x y. g.W.BlockWork.comes_to c.xor_stream.new.work.hash x k y) _ _ _ _
    (ap (λ x. x ++ whole_blocks new) left_is ∙ sym (whole_left before new now whole (omega (arith, eb))))
    (append_assoc m before (whole_blocks new) ∙ ap (λ x. m ++ x) (sym (whole_split before new whole)))
    (g.met.W.BlockWork.grows c.xor_stream.new.work.hash c.xor_stream.new.work.left.now (whole_blocks new) k (m ++ before)
    (went.1 k (m ++ before) (carried (λ x y. g.W.BlockWork.comes_to c.args.hash.now x k y) _ _ _ _
    (sym (tail ∙ ap (drop t) halves.front)) (ap (λ x. m ++ x) (sym halves.front)) h))))
