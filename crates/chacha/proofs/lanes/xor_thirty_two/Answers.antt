use Rattle.std.proofs.Common.{length, take, refl, sym, ap, ◌∙◌, arith}
use Rattle.std.proofs.lemmas.List.{take_all}
use Rattle.std.proofs.lemmas.Simd.{put_chunk_whole}
use Rattle.octets.specs.Bytes.{xor_bytes}
use Rattle.octets.proofs.Xors.{zip2_xor, length-xor_bytes}
use Rattle.chacha.proofs.lanes.xor_thirty_two.Goals as goal

pub returns : goal.returns
returns c =
    let xs = c.args.bytes.now in
    let ys = c.args.by in
    let whole = take_all 32 xs (omega (arith, c.requires)) in
    let sum = zip2_xor _ (take 32 xs) ys (λ x y. refl) ∙ ap (λ l. xor_bytes l ys) whole in
    let long = ap length sum ∙ length-xor_bytes xs ys (c.requires ∙ sym c.fits-by.0) in
    put_chunk_whole xs _ (sym long) ∙ sum
