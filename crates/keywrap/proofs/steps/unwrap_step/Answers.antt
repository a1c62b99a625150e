use Rattle.std.proofs.Common.{◌≡◌, ◌+◌, ◌-◌, ◌++◌, List, ℕ, take, drop, arith, ap, ap₂, ◌∙◌}
use Rattle.std.specs.Int.{bytes_high_first}
use Rattle.aes.specs.Cipher.{cipher}
use Rattle.octets.specs.Bytes.{xor_bytes}
use Rattle.keywrap.specs.Wrapping.{step}
use Rattle.keywrap.specs.Code.Places.{register}
use Rattle.keywrap.proofs.Pieces.{unwrapped_at, read_at}
use Rattle.keywrap.proofs.steps.unwrap_step.Goals as goal
use borrow.Rule.Slice.PartMut.{put_mid}

pub returns-clause-step : goal.returns-clause-step
returns-clause-step c = λ key x.
    let d : List ℕ = c.bytes.result.now in
    let p : ℕ = c.args.place in
    let a : List ℕ = c.args.first in
    let s : List ℕ = c.args.blocks.now in
    let eight : p + 8 - p ≡ 8 = omega arith in
    let taken : cipher key d ≡ xor_bytes a (bytes_high_first 8 c.args.t) ++ take (p + 8 - p) (drop p s) =
    ap (cipher key) c.bytes.ensures.value ∙ (c.decrypt.ensures.value key x).taken ∙ c.new.ensures.value
    ∙ c.join_halves-block.ensures
    ∙ ap₂ (λ y r. y ++ r) c.xor_number.ensures (read_at p s c.requires) in
    ap (λ y. step key c.args.t (register p y (put_mid p (p + 8 - p) s c.copy_from_slice.new.self)))
    c.halves.ensures.first
    ∙ unwrapped_at key c.args.t p (p + 8 - p) a s d c.copy_from_slice.new.self
    eight c.fits-first.0 c.requires c.halves.ensures.long taken
    (c.copy_from_slice.ensures.after ∙ c.halves.ensures.second)
