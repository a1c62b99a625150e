use Rattle.std.proofs.Common.{ℕ, ◌*◌, ◌/◌, ◌++◌, ◌∙◌, ap, refl, arith, length, take, drop}
use Rattle.chacha.proofs.Masking.{whole_blocks, front_and_run, run_of_block}
use Rattle.chacha.proofs.stream.xor_run.Goals as goal

pub returns-then-has_run_of_eight-clause-masked : goal.returns-then-has_run_of_eight-clause-masked
returns-then-has_run_of_eight-clause-masked g c =
    let n : ℕ = length c.args.bytes.now / 512 * 512 in
    ap (λ l. l ++ drop n c.args.bytes.now)
    (c.xor_runs.ensures.masked
    ∙ whole_blocks c.args.key.now c.args.nonce.now c.args.offset (take n c.args.bytes.now) (omega (arith, (c.has_run_of_eight.ensures c.if-has_run_of_eight.true).0)))

pub returns-then-has_run_of_four-clause-masked : goal.returns-then-has_run_of_four-clause-masked
returns-then-has_run_of_four-clause-masked g c =
    let n : ℕ = length c.args.bytes.now / 256 * 256 in
    ap (λ l. l ++ drop n c.args.bytes.now)
    (c.xor_runs-then-has_run_of_four.ensures.masked
    ∙ whole_blocks c.args.key.now c.args.nonce.now c.args.offset (take n c.args.bytes.now) (omega (arith, (c.has_run_of_four.ensures c.if-has_run_of_four.true).0)))

pub returns-then-counter-clause-masked : goal.returns-then-counter-clause-masked
returns-then-counter-clause-masked g c =
    let split = c.split_at_mut-front.ensures in
    front_and_run c.args.key.now c.args.nonce.now c.args.offset 256 c.xor_part.result c.args.bytes.now _ _ _ _ _
    c.if-skip-eq0.true refl split.front_len split.value c.xor_eight.ensures.front c.xor_eight.ensures.back
    c.xor_eight.auto.back c.xor_part.ensures.count c.xor_part.ensures.xored

pub returns-then-skip-bytes-clause-masked : goal.returns-then-skip-bytes-clause-masked
returns-then-skip-bytes-clause-masked g c =
    run_of_block c.args.key.now c.args.nonce.now c.args.offset c.xor_part-then-skip-bytes.result c.args.bytes.now
    c.block.result _
    c.block.ensures.value c.xor_part-then-skip-bytes.ensures.count c.xor_part-then-skip-bytes.ensures.xored
