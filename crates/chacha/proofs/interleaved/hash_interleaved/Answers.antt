use Rattle.std.proofs.Common.{◌≡◌, ℕ, ◌%◌, List, [], ◌++◌, ◌∙◌, ap, sym, subst, arith, length, take, drop}
use Rattle.std.proofs.lemmas.List.{append_assoc, take-append-drop, length-take-le, take_at, drop_at}
use Rattle.octets.specs.Ends.{whole_blocks}
use Rattle.octets.specs.Masked.{masked}
use Rattle.octets.proofs.Masks.{length-masked}
use Rattle.chacha.specs.Stream.{key_stream_byte}
use Rattle.chacha.proofs.InterleavedRuns.{all_masked, whole_split}
use Rattle.chacha.proofs.interleaved.hash_interleaved.Goals as goal

pub returns-clause-masked : goal.returns-clause-masked
returns-clause-masked g c =
    let f = key_stream_byte c.args.key.now c.args.nonce.now 0 in
    let was : List ℕ = c.args.bytes.now in
    let n : ℕ = c.hash_runs-done.result in
    let le = c.hash_runs-done.ensures.done.0 in
    let front : List ℕ = masked f c.args.offset (take n was) in
    let size : length front ≡ n = length-masked f c.args.offset (take n was) ∙ length-take-le n was le in
    all_masked f c.args.offset n was _ _ _ le
    (c.split_at_mut-after.ensures.front ∙ ap (take n) c.hash_runs-done.ensures.masked ∙ take_at front (drop n was) n size)
    (c.split_at_mut-after.ensures.back ∙ ap (drop n) c.hash_runs-done.ensures.masked ∙ drop_at front (drop n was) n size)
    c.hash_last.ensures.masked

pub returns-clause-hashed : goal.returns-clause-hashed
returns-clause-hashed g c = λ k m h.
    let f = key_stream_byte c.args.key.now c.args.nonce.now 0 in
    let was : List ℕ = c.args.bytes.now in
    let n : ℕ = c.hash_runs-done.result in
    let le = c.hash_runs-done.ensures.done.0 in
    let front : List ℕ = masked f c.args.offset (take n was) in
    let size : length front ≡ n = length-masked f c.args.offset (take n was) ∙ length-take-le n was le in
    let back : c.split_at_mut-after.result.1.now ≡ drop n was =
    c.split_at_mut-after.ensures.back ∙ ap (drop n) c.hash_runs-done.ensures.masked ∙ drop_at front (drop n was) n size in
    let whole : length (take n was) % 16 ≡ 0 = omega (arith, length-take-le n was le, c.hash_runs-done.ensures.done.1) in
    subst (λ x. g.W.BlockWork.comes_to c.hash_last.new.hash [] k x)
    (ap (λ y. (m ++ take n was) ++ whole_blocks y) back
    ∙ append_assoc m (take n was) (whole_blocks (drop n was))
    ∙ ap (λ y. m ++ y) (sym (whole_split (take n was) (drop n was) whole) ∙ ap whole_blocks (take-append-drop n was)))
    (c.hash_last.ensures.hashed k _ (c.hash_runs-done.ensures.hashed k m h))
