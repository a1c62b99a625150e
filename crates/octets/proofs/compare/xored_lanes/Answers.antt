use Rattle.std.proofs.Common.{take, refl, ap₂, ◌∙◌, arith}
use Rattle.std.proofs.lemmas.List.{take_all}
use Rattle.octets.specs.Bytes.{xor_bytes}
use Rattle.octets.proofs.Xors.{zip2_xor}
use Rattle.octets.proofs.compare.xored_lanes.Goals as goal

pub returns : goal.returns
returns g c =
    let xs = c.args.a.now in
    let ys = c.args.b.now in
    let n = g.row.N in
    zip2_xor _ (take n xs) (take n ys) (λ x y. refl)
    ∙ ap₂ xor_bytes (take_all n xs (omega (arith, c.requires.0))) (take_all n ys (omega (arith, c.requires.1)))
