use Rattle.std.proofs.Common.{◌≡◌, ℕ, ◌+◌, ◌-◌, ◌/◌, ◌^◌, ◌≤◌, List, [], length, take, drop, sym, ap, subst, ◌∙◌, arith}
use Rattle.std.proofs.lemmas.List.{append-nil}
use Rattle.octets.proofs.Ends.{all_left}
use Rattle.octets.specs.Ends.{IsEnd}
use Rattle.chacha.specs.Stream.{key_stream_byte}
use Rattle.chacha.proofs.Masking.{no_run, blocks_more}
use Rattle.chacha.proofs.InterleavedRuns.{interleaved, length-begun, length-run, next_exists, run_came}
use Rattle.chacha.proofs.runs.hash_then_mask.Goals as goal

pub runs-init : goal.runs-init
runs-init g c = (
  omega arith,
  omega arith,
  subst (λ n. g.R.Run.starts c.starts_at-start.result c.args.key.now n c.args.nonce.now) (omega arith)
      c.starts_at-start.ensures,
  no_run (key_stream_byte c.args.key.now c.args.nonce.now c.args.counter) 0 c.args.bytes.now,
  λ k m h. subst (λ x. g.W.BlockWork.comes_to c.args.hash.now [] k x) (sym (append-nil m)) h,
)

pub overflow_sub-bytes : goal.overflow_sub-bytes
overflow_sub-bytes g c =
    let i = c.runs.invariant in
    omega (
      arith,
      i.0,
      ap length i.3,
      length-begun (key_stream_byte c.args.key.now c.args.nonce.now c.args.counter) c.runs.done c.args.bytes.now i.0,
    )

pub next-x-requires : goal.next-x-requires
next-x-requires g c =
    let a : ℕ = c.runs.done in
    let i = c.runs.invariant in
    let size = ap length i.3
    ∙ length-begun (key_stream_byte c.args.key.now c.args.nonce.now c.args.counter) a c.args.bytes.now i.0 in
    let room : a + g.R.Run.SIZE ≤ length c.args.bytes.now =
    omega (arith, c.runs-test.true, i.0, size, c.SIZE-size.ensures) in (
      c.args.key.now,
      (
        c.args.nonce.now,
        (
          c.args.counter + a / 64,
          (
            next_exists c.args.counter a g.R.Run.SIZE _ g.met.R.Run.whole.1 i.1 room c.requires.counters,
            i.2,
          ),
        ),
      ),
    )

pub take_all-requires : goal.take_all-requires
take_all-requires g c =
    let a : ℕ = c.runs.done in
    let s : ℕ = c.SIZE-size.result in
    let bytes : List ℕ = c.runs.bytes in
    let piece : List ℕ = take (a + s - a) (drop a bytes) in
    let i = c.runs.invariant in
    let size : length bytes ≡ length c.args.bytes.now = ap length i.3
    ∙ length-begun (key_stream_byte c.args.key.now c.args.nonce.now c.args.counter) a c.args.bytes.now i.0 in
    let end : IsEnd c.next-x.new.work.left.now piece = (c.next-x.ensures.work (interleaved c.runs.own piece) (all_left piece, λ k m h. h)).0 in
    omega (
      arith,
      end.shorter,
      end.whole,
      length-run a s bytes (omega (arith, c.runs-test.true, i.0, size)),
      c.SIZE-size.ensures,
      g.met.R.Run.whole.1,
    )

pub runs-smaller : goal.runs-smaller
runs-smaller g c =
    let i = c.runs.invariant in
    let size = ap length i.3
    ∙ length-begun (key_stream_byte c.args.key.now c.args.nonce.now c.args.counter) c.runs.done c.args.bytes.now i.0 in
    omega (arith, c.runs-test.true, size, c.SIZE-size.ensures, g.met.R.Run.whole.0)

pub runs-preserved : goal.runs-preserved
runs-preserved g c =
    let key = c.args.key.now in
    let nonce = c.args.nonce.now in
    let n : ℕ = c.args.counter in
    let a : ℕ = c.runs.done in
    let s : ℕ = c.SIZE-size.result in
    let was : List ℕ = c.args.bytes.now in
    let bytes : List ℕ = c.runs.bytes in
    let piece : List ℕ = take (a + s - a) (drop a bytes) in
    let i = c.runs.invariant in
    let f = key_stream_byte key nonce n in
    let size : length bytes ≡ length was = ap length i.3 ∙ length-begun f a was i.0 in
    let room : a + s ≤ length was = omega (arith, c.runs-test.true, i.0, size) in
    let e : s ≡ g.R.Run.SIZE = c.SIZE-size.ensures in
    let next : n + a / 64 + g.R.Run.SIZE / 64 ≡ n + (a + s) / 64 = omega (arith, e, i.1, g.met.R.Run.whole.1) in
    let last : n + a / 64 + g.R.Run.SIZE / 64 ≤ 2 ^ 32 = omega (arith, next, room, c.requires.counters) in
    let went : IsEnd c.next-x.new.work.left.now piece
    × ((k m : List ℕ) → g.W.BlockWork.comes_to c.runs.own piece k m
    → g.W.BlockWork.comes_to c.next-x.new.work.hash c.next-x.new.work.left.now k m) =
    c.next-x.ensures.work (interleaved c.runs.own piece) (all_left piece, λ k m h. h) in (
      room,
      omega (arith, i.1, e, g.met.R.Run.whole.1),
      subst (λ m. g.R.Run.starts c.next-x.new.self key m nonce) next (c.next-x.ensures.next key nonce (n + a / 64) i.2),
      blocks_more key nonce n a s was bytes c.xor_serialized.new.bytes i.1 i.0 i.3
          (c.xor_serialized.ensures key nonce (n + a / 64) (c.next-x.ensures.made key nonce (n + a / 64) i.2 last)),
      λ k m h. subst (λ x. g.W.BlockWork.comes_to c.take_all.new.self [] k x) (run_came f a s was bytes m i.0 i.3)
          (c.take_all.ensures k _ (went.1 k _ (g.met.W.BlockWork.grows c.runs.own [] piece k _ (i.4 k m h)))),
    )

pub shape_of-bytes : goal.shape_of-bytes
shape_of-bytes g c =
    let i = c.runs.invariant in
    ap length i.3
    ∙ length-begun (key_stream_byte c.args.key.now c.args.nonce.now c.args.counter) c.runs.done c.args.bytes.now i.0
