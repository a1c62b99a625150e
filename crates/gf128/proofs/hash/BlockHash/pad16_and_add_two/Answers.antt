use Rattle.std.proofs.Common.{◌≡◌, ℕ, List, length, refl, arith}
use Rattle.octets.specs.Bytes.{pad16}
use Rattle.octets.proofs.Texts.{holds_blocks, whole_padded}
use Rattle.gf128.specs.Code.States.{SumHolds}
use Rattle.gf128.specs.Orders.{two_numbers}
use Rattle.gf128.proofs.Sums.{length-two_numbers}
use Rattle.gf128.proofs.hash.BlockHash.pad16_and_add_two.Goals as goal

pub returns : goal.returns
returns g c = λ h m held.
    let o = g.O.HashOrder.order in
    let block : List ℕ = two_numbers o c.args.first c.args.second in
    let long : length block ≡ 16 = length-two_numbers o c.args.first c.args.second in
    let padded = c.pad16.ensures h m held in
    let none : c.pad16.new.self.used ≡ 0 = omega (arith, padded.rest.used_is, whole_padded m) in
    holds_blocks (SumHolds o g.M.Multiply.key_bytes) c.pad16.new.self _ h (pad16 m) block block padded
    (omega (arith, none, long)) (rw none refl)
    (λ j t whole before. c.absorb_word.ensures j t block whole long c.word_of_two.ensures before) none padded.zeros
