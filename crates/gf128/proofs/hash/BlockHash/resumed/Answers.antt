use Rattle.gf128.proofs.hash.BlockHash.resumed.Goals as goal

pub returns : goal.returns
returns g c = λ h m serves sum rest.
    c.resumed.ensures h m (record { serves = serves; sum_is = sum (g.M.Multiply.key_bytes c.args.multiplier) serves }) rest
