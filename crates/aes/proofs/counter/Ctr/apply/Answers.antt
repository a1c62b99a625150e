use Rattle.aes.proofs.counter.Ctr.apply.Goals as goal

pub returns : goal.returns
returns g c = λ key first made held.
    let out = (rw held.key_is at c.apply.ensures) first made held.makes in
    (record { key_is = held.key_is; makes = out.0 }, out.1)
