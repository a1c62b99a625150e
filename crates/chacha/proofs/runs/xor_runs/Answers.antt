use Rattle.std.proofs.Common.{◌≡◌, ℕ, ◌+◌, ◌-◌, ◌/◌, ◌%◌, ◌^◌, ◌<◌, ◌≤◌, ◌∙◌, sym, ap, subst, arith, length}
use Rattle.std.proofs.Math.Nat.{mod-eq_of_lt, mod-eq-sub-mod}
use Rattle.chacha.specs.Stream.{key_stream_byte}
use Rattle.chacha.proofs.InterleavedRuns.{next_exists}
use Rattle.chacha.proofs.Masking.{no_run, blocks_more, all_runs}
use Rattle.chacha.proofs.runs.xor_runs.Goals as goal

pub runs-init : goal.runs-init
runs-init g c =
    let all : length c.args.bytes.now - 0 ≡ length c.args.bytes.now = omega arith in (
      omega arith,
      omega arith,
      subst (λ n. g.R.Run.starts c.starts_at-start.result c.args.key.now n c.args.nonce.now) (omega arith)
          c.starts_at-start.ensures,
      no_run (key_stream_byte c.args.key.now c.args.nonce.now c.args.counter) 0 c.args.bytes.now,
      ap (λ (m : ℕ). m % g.R.Run.SIZE) all ∙ c.requires.whole,
      λ w h. h,
    )

pub next-x-requires : goal.next-x-requires
next-x-requires g c =
    let i = c.runs.invariant in
    let a : ℕ = c.runs.done in
    let room : a + g.R.Run.SIZE ≤ length c.args.bytes.now =
    omega (arith, i.0, c.runs-test.true, c.runs.auto.bytes, c.SIZE-size.ensures) in (
      c.args.key.now,
      (
        c.args.nonce.now,
        (
          c.args.counter + a / 64,
          (
            next_exists c.args.counter a g.R.Run.SIZE _ g.met.R.Run.whole.1 i.1 room c.requires.counters,
            i.2,
          ),
        ),
      ),
    )

pub runs-smaller : goal.runs-smaller
runs-smaller g c =
    omega (arith, c.runs-test.true, c.runs.invariant.0, c.runs.auto.bytes, c.SIZE-size.ensures, g.met.R.Run.whole.0)

pub runs-preserved : goal.runs-preserved
runs-preserved g c =
    let key = c.args.key.now in
    let nonce = c.args.nonce.now in
    let n : ℕ = c.args.counter in
    let a : ℕ = c.runs.done in
    let s : ℕ = c.SIZE-size.result in
    let was = c.args.bytes.now in
    let i = c.runs.invariant in
    let e : s ≡ g.R.Run.SIZE = c.SIZE-size.ensures in
    let room : a + s ≤ length was = omega (arith, i.0, c.runs-test.true, c.runs.auto.bytes) in
    let next : n + a / 64 + g.R.Run.SIZE / 64 ≡ n + (a + s) / 64 = omega (arith, e, i.1, g.met.R.Run.whole.1) in
    let last : n + a / 64 + g.R.Run.SIZE / 64 ≤ 2 ^ 32 = omega (arith, next, room, c.requires.counters) in
    let less : length was - a - g.R.Run.SIZE ≡ length was - (a + s) = omega (arith, e) in (
      room,
      omega (arith, i.1, e, g.met.R.Run.whole.1),
      subst (λ m. g.R.Run.starts c.next-x.new.self key m nonce) next (c.next-x.ensures.next key nonce (n + a / 64) i.2),
      blocks_more key nonce n a s was c.runs.bytes c.xor_serialized.new.bytes i.1 i.0 i.3
          (c.xor_serialized.ensures key nonce (n + a / 64) (c.next-x.ensures.made key nonce (n + a / 64) i.2 last)),
      ap (λ (m : ℕ). m % g.R.Run.SIZE) (sym less)
          ∙ sym (mod-eq-sub-mod {n = length was - a} {m = g.R.Run.SIZE} (omega (arith, e, room))) ∙ i.4,
      λ w h. c.next-x.ensures.work w (i.5 w h),
    )

pub returns-clause-masked : goal.returns-clause-masked
returns-clause-masked g c =
    let was = c.args.bytes.now in
    let a : ℕ = c.runs.done in
    let i = c.runs.invariant in
    let few : length was - a < g.R.Run.SIZE =
    omega (arith, c.runs-test.false, i.0, c.runs.auto.bytes, c.SIZE-size.ensures) in
    let none : length was - a ≡ 0 = sym (mod-eq_of_lt few) ∙ i.4 in
    i.3 ∙ all_runs (key_stream_byte c.args.key.now c.args.nonce.now c.args.counter) 0 a was (omega (arith, none))

pub returns-clause-work : goal.returns-clause-work
returns-clause-work g c = c.runs.invariant.5
