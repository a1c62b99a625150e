use Rattle.std.proofs.Common.{◌+◌, ◌*◌, ◌/◌, get_or, sym, ap, ◌∙◌}
use Rattle.aes.specs.Schedule.{schedule}
use Rattle.aes.specs.Code.Planes.{block_byte, spot, word_byte}
use Rattle.aes.proofs.Expanded.{rounds_start}
use Rattle.aes.proofs.KeyPlanes.{spot_half}
use Rattle.aes.proofs.SixteenBlocks.{same_bytes, first_value}
use Rattle.aes.proofs.key.AesKey.add_first_key.Goals as goal

pub returns : goal.returns
returns c = λ f held.
    let ws = schedule c.args.self.now in
    same_bytes c.add.result
    (c.add.ensures (block_byte f) (λ l k. word_byte ws 0 (spot l)) held
    (same_bytes _ (c.from_half.ensures (λ l k. word_byte ws 0 (spot l))
    (c.unpack.ensures (λ l k. word_byte ws 0 (spot l)) c.requires.first))
    (λ l k hl hk. ap (word_byte ws 0) (spot_half l))))
    (λ l k hl hk. first_value f ws l k ∙ ap (λ b. get_or b (spot l) 0) (sym (rounds_start ws (f (l / 16 * 8 + k)))))
