use Rattle.std.proofs.Common.{◌∙◌, ◌-◌, ap, arith, bit_xor}
use Rattle.std.proofs.lemmas.Simd.{get_or-zip2, length-zip2, shifts_fit_splat}
use Rattle.std.specs.Int.{w32, rotate_left}
use Rattle.std.specs.Simd.Lanes.{zip2}
use Rattle.chacha.proofs.SideBySide.{shifts_rotate}
use Rattle.chacha.proofs.lanes.xor_rotated.Goals as goal

pub overflow_shl-result : goal.overflow_shl-result
overflow_shl-result g c = shifts_fit_splat 32 _ g.row.N c.args.n c.requires.1

pub overflow_shr-result : goal.overflow_shr-result
overflow_shr-result g c = shifts_fit_splat 32 _ g.row.N (32 - c.args.n) (omega (arith, c.requires.0))

pub returns : goal.returns
returns g c = λ j l.
    let x = c.args.x in
    let y = c.args.y in
    let long = length-zip2 bit_xor x y (omega (arith, c.fits-x.0, c.fits-y.0)) ∙ c.fits-x.0 in
    shifts_rotate (zip2 bit_xor x y) g.row.N c.args.n j long l c.requires.0 c.requires.1
    ∙ ap (λ z. rotate_left w32 z c.args.n) (get_or-zip2 bit_xor x y j 0 0 0 (omega (arith, l, c.fits-x.0))
    (omega (arith, l, c.fits-y.0)))
