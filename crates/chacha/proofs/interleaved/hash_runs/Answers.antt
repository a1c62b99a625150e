use Rattle.std.proofs.Common.{ℕ, ◌++◌, ◌∙◌, ap, take, drop}
use Rattle.chacha.specs.Stream.{key_stream_byte}
use Rattle.chacha.proofs.Masking.{whole_blocks, no_run}
use Rattle.chacha.proofs.interleaved.hash_runs.Goals as goal

pub returns-then-has_run_of_eight-clause-masked : goal.returns-then-has_run_of_eight-clause-masked
returns-then-has_run_of_eight-clause-masked g c =
    let was = c.args.bytes.now in
    let n : ℕ = c.hash_then_mask.result in
    c.hash_then_mask.ensures.masked
    ∙ ap (λ l. l ++ drop n was)
    (whole_blocks c.args.key.now c.args.nonce.now c.args.offset (take n was) (c.has_run_of_eight.ensures c.if-has_run_of_eight.true).0)

pub returns-then-has_run_of_four-clause-masked : goal.returns-then-has_run_of_four-clause-masked
returns-then-has_run_of_four-clause-masked g c =
    let was = c.args.bytes.now in
    let n : ℕ = c.hash_then_mask-then-has_run_of_four.result in
    c.hash_then_mask-then-has_run_of_four.ensures.masked
    ∙ ap (λ l. l ++ drop n was)
    (whole_blocks c.args.key.now c.args.nonce.now c.args.offset (take n was) (c.has_run_of_four.ensures c.if-has_run_of_four.true).0)

pub returns-clause-masked : goal.returns-clause-masked
returns-clause-masked g c = no_run (key_stream_byte c.args.key.now c.args.nonce.now 0) c.args.offset c.args.bytes.now
