use Rattle.chacha.proofs.runs.xor_eight.Goals as goal

pub next-x-requires : goal.next-x-requires
next-x-requires g c =
    (c.args.key.now, (c.args.nonce.now, (c.args.counter, (c.requires.counters, c.starts_at-start.ensures))))

pub returns-clause-front : goal.returns-clause-front
returns-clause-front g c =
    let key = c.args.key.now in
    let nonce = c.args.nonce.now in
    c.xor_halves.ensures.front key nonce c.args.counter
    (c.next-x.ensures.made key nonce c.args.counter c.starts_at-start.ensures c.requires.counters)

pub returns-clause-back : goal.returns-clause-back
returns-clause-back g c =
    let key = c.args.key.now in
    let nonce = c.args.nonce.now in
    c.xor_halves.ensures.back key nonce c.args.counter
    (c.next-x.ensures.made key nonce c.args.counter c.starts_at-start.ensures c.requires.counters)
