use Rattle.std.proofs.Common.{◌++◌, ◌∙◌, ap, ap₂, arith, take, drop}
use Rattle.std.proofs.lemmas.List.{take_all, length-drop}
use Rattle.octets.specs.Bytes.{xor_bytes}
use Rattle.octets.proofs.Xors.{xor_bytes-split}
use Rattle.octets.proofs.compare.xor_fifteen.Goals as goal

pub returns : goal.returns
returns c =
    let by = c.args.src.now in
    let parts = c.split_at_mut-front.ensures in
    ap₂ (λ x y. x ++ y)
    (c.xor_lanes.ensures ∙ ap (λ x. xor_bytes x (take 8 by)) parts.front)
    (c.xor_seven-2.ensures ∙ ap₂ xor_bytes parts.back (take_all _ (drop 8 by) (omega (arith, length-drop 8 by))))
    ∙ xor_bytes-split 8 c.args.dst.now by c.requires (omega (arith, c.if-dst-lt8.false))
