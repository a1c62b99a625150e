use Rattle.std.proofs.Common.{ℕ, ◌-◌, List, [], ◌++◌, ◌∙◌, ap, take, drop}
use Rattle.chacha.specs.Stream.{key_stream_byte}
use Rattle.chacha.proofs.Masking.{whole_blocks}
use Rattle.chacha.proofs.InterleavedRuns.{none_masked}
use Rattle.chacha.proofs.interleaved.mask_runs.Goals as goal

pub returns-then-has_run_of_eight-clause-masked : goal.returns-then-has_run_of_eight-clause-masked
returns-then-has_run_of_eight-clause-masked g c =
    let was = c.args.bytes.now in
    let b : ℕ = c.args.begun in
    let rest : List ℕ = drop b was in
    let n : ℕ = c.mask_then_hash.result.0 - b in
    c.mask_then_hash.ensures.masked
    ∙ ap (λ l. take b was ++ (l ++ drop n rest))
    (whole_blocks c.args.key.now c.args.nonce.now c.args.offset (take n rest) (c.has_run_of_eight.ensures c.if-has_run_of_eight.true).0)

pub returns-then-has_run_of_four-clause-masked : goal.returns-then-has_run_of_four-clause-masked
returns-then-has_run_of_four-clause-masked g c =
    let was = c.args.bytes.now in
    let b : ℕ = c.args.begun in
    let rest : List ℕ = drop b was in
    let n : ℕ = c.mask_then_hash-then-has_run_of_four.result.0 - b in
    c.mask_then_hash-then-has_run_of_four.ensures.masked
    ∙ ap (λ l. take b was ++ (l ++ drop n rest))
    (whole_blocks c.args.key.now c.args.nonce.now c.args.offset (take n rest) (c.has_run_of_four.ensures c.if-has_run_of_four.true).0)

pub returns-clause-masked : goal.returns-clause-masked
returns-clause-masked g c =
    none_masked (key_stream_byte c.args.key.now c.args.nonce.now 0) c.args.offset c.args.begun c.args.bytes.now

pub returns-clause-hashed : goal.returns-clause-hashed
returns-clause-hashed g c = λ k m h.
    g.met.W.BlockWork.grows c.args.hash.now [] (take c.args.begun c.args.bytes.now) k m h
