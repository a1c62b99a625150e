use Rattle.std.proofs.Common.{◌/◌, length, rules}
use Rattle.aes.proofs.Expanded.{key_size, some_words}
use Rattle.aes.proofs.MadeKeys.{has_words, key_columns_are}
use Rattle.aes.proofs.key.AesKey.round_key.Goals as goal

pub returns : goal.returns
returns c = λ within i l.
    let key = c.args.self.now in
    let k = c.plain_key.ensures.is_key in
    let size = key_size key k.length_is in
    key_columns_are c.load.result c.plain_key.result key (length key / 4) c.args.n i (search rules) c.load.ensures
    (has_words key (length key / 4) size.1 k.bytes) (some_words (length key / 4) size.0) (c.plain_key.ensures.bytes within) within l
