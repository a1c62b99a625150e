use Rattle.chacha.specs.Stream.{key_stream_byte}
use Rattle.chacha.proofs.Masking.{bytes_from_zeros}
use Rattle.chacha.proofs.start.FourBlocksKeyStreamStart.set_from.Goals as goal

pub returns-else-wide-clause-stream : goal.returns-else-wide-clause-stream
returns-else-wide-clause-stream g c =
    bytes_from_zeros (key_stream_byte c.args.key.now c.args.nonce.now c.args.counter) 256 c.xor_runs.new.bytes
    c.xor_runs.ensures.masked
