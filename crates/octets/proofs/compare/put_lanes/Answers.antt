use Rattle.std.proofs.Common.{sym, ◌∙◌}
use Rattle.std.proofs.lemmas.Simd.{put_chunk_whole}
use Rattle.octets.proofs.compare.put_lanes.Goals as goal

pub returns : goal.returns
returns g c = put_chunk_whole c.args.dst.now c.args.lanes (c.requires ∙ sym c.fits-lanes.0)
