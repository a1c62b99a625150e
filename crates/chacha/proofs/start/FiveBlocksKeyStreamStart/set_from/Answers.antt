use Rattle.chacha.specs.Stream.{key_stream_byte}
use Rattle.chacha.proofs.Masking.{bytes_from_zeros}
use Rattle.chacha.proofs.start.FiveBlocksKeyStreamStart.set_from.Goals as goal

pub returns-clause-stream : goal.returns-clause-stream
returns-clause-stream g c =
    bytes_from_zeros (key_stream_byte c.args.key.now c.args.nonce.now c.args.counter) 320 c.xor_five_blocks.new.bytes
    c.xor_five_blocks.ensures.masked
