use Rattle.std.proofs.Common.{ap, arith, length, drop, replicate}
use Rattle.std.proofs.lemmas.List.{length-append}
use Rattle.octets.proofs.Blocks.{two_parts}
use Rattle.octets.proofs.words.joined.Goals as goal

pub returns : goal.returns
returns g c =
    let x = c.copy_from_slice.new.self in
    let z = drop g.row.N (replicate g.row.T 0) in
    let after = c.copy_from_slice.ensures.after in
    two_parts g.row.N _ x z c.copy_from_slice-2.new.self c.args.first.now c.args.second.now
    after c.copy_from_slice-2.ensures.after c.told-first
    (omega (arith, length-append x z, ap length after, c.told-first))
