use Rattle.octets.specs.Bytes.{pad16}
use Rattle.octets.proofs.Texts.{whole_padded}
use Rattle.gf128.proofs.hash.BlockHash.finish.Goals as goal

pub returns-clause-value : goal.returns-clause-value
returns-clause-value x c = λ h m held.
    c.hash.ensures.value h (pad16 m) (c.pad16.ensures h m held) (whole_padded m)
