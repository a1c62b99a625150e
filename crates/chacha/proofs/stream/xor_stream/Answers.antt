use Rattle.std.proofs.Common.{◌≡◌, ℕ, ◌-◌, ◌≤◌, ◌∙◌, arith, length, take, drop}
use Rattle.std.proofs.lemmas.List.{length-take-le, length-drop}
use Rattle.chacha.specs.Stream.{key_stream_byte}
use Rattle.chacha.proofs.Masking.{no_run, run_more, all_runs}
use Rattle.chacha.proofs.stream.xor_stream.Goals as goal

pub runs-init : goal.runs-init
runs-init g c = (
  omega arith,
  no_run (key_stream_byte c.args.key.now c.args.nonce.now 0) c.args.offset
      c.args.bytes.now,
  λ w h. h,
)

pub runs-preserved : goal.runs-preserved
runs-preserved g c =
    let was = c.args.bytes.now in
    let mid = c.runs.bytes in
    let a : ℕ = c.runs.done in
    let k : ℕ = length mid - a in
    let r : ℕ = c.xor_run-done.result in
    let same : length mid ≡ length was = c.runs.auto.bytes in
    let part : length (take k (drop a mid)) ≡ k =
    length-take-le k (drop a mid) (omega (arith, length-drop a mid)) in
    let room : r ≤ k = omega (arith, part, c.xor_run-done.ensures.in_range) in (
      omega (arith, same, c.runs.invariant.0, room),
      run_more (key_stream_byte c.args.key.now c.args.nonce.now 0) c.args.offset a k r was mid
          c.xor_run-done.new.bytes
          (omega (arith, same, c.runs.invariant.0)) room c.runs.invariant.1 c.xor_run-done.ensures.masked,
      λ w h. c.xor_run-done.ensures.work w (c.runs.invariant.2 w h),
    )

pub returns-clause-masked : goal.returns-clause-masked
returns-clause-masked g c =
    c.runs.invariant.1
    ∙ all_runs (key_stream_byte c.args.key.now c.args.nonce.now 0) c.args.offset c.runs.done c.args.bytes.now
    (omega (arith, c.runs.auto.bytes, c.runs-test.false))

pub returns-clause-work : goal.returns-clause-work
returns-clause-work g c = c.runs.invariant.2
