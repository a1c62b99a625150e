use Rattle.std.proofs.Common.{◌≡◌, ◌+◌, ◌-◌, ◌++◌, List, ℕ, take, drop, arith, ap, ◌∙◌}
use Rattle.std.specs.Int.{bytes_high_first}
use Rattle.aes.specs.Cipher.{cipher}
use Rattle.octets.specs.Bytes.{xor_bytes}
use Rattle.keywrap.specs.Code.Places.{register}
use Rattle.keywrap.proofs.Pieces.{wrapped_at, read_at}
use Rattle.keywrap.proofs.steps.wrap_step.Goals as goal
use borrow.Rule.Slice.PartMut.{put_mid}

pub returns : goal.returns
returns c =
    let b : List ℕ = c.bytes.result.now in
    let p : ℕ = c.args.place in
    let eight : p + 8 - p ≡ 8 = omega arith in
    let numbered : c.xor_number.result ≡ xor_bytes (take 8 b) (bytes_high_first 8 c.args.t) =
    c.xor_number.ensures ∙ ap (λ x. xor_bytes x (bytes_high_first 8 c.args.t)) c.halves.ensures.first in
    let taken : b ≡ cipher c.args.key.now (c.args.first ++ take (p + 8 - p) (drop p c.args.blocks.now)) =
    c.bytes.ensures.value ∙ c.encrypt_in_registers.ensures.value
    ∙ ap (cipher c.args.key.now) (c.new.ensures.value ∙ c.join_halves-block.ensures
    ∙ ap (λ r. c.args.first ++ r) (read_at p c.args.blocks.now c.requires)) in
    ap (λ x. register (p + 8) x (put_mid p (p + 8 - p) c.args.blocks.now c.copy_from_slice.new.self)) numbered
    ∙ wrapped_at c.args.key.now c.args.t p (p + 8 - p) c.args.first c.args.blocks.now b
    c.copy_from_slice.new.self
    eight c.fits-first.0 c.requires c.halves.ensures.long taken
    (c.copy_from_slice.ensures.after ∙ c.halves.ensures.second)
