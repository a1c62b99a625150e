use Rattle.chacha.specs.Stream.{key_stream_byte}
use Rattle.chacha.proofs.Masking.{bytes_from_zeros}
use Rattle.chacha.proofs.start.EightBlocksKeyStreamStart.set_from.Goals as goal

pub returns-clause-stream : goal.returns-clause-stream
returns-clause-stream g c =
    bytes_from_zeros (key_stream_byte c.args.key.now c.args.nonce.now c.args.counter) 512 c.xor_runs.new.bytes
    c.xor_runs.ensures.masked
