use Rattle.std.proofs.Common.{◌≡◌, ◌++◌, take, drop, length, arith}
use Rattle.std.proofs.lemmas.Grind.{common_steps}
use Rattle.aead.proofs.whole.seal.Goals as goal

pub returns : goal.returns
returns g c =
    let body = take c.extend_from_slice.new.self.len
    (c.seal_fitting-tag.new.text ++ drop (length c.seal_fitting-tag.new.text) c.extend_from_slice.new.self.items) in
    let whole : c.extend_from_slice-2.new.self.items ≡ body ++ c.bytes.result.now =
    c.in_ok-extend_from_slice-2.ensures.items in
    grind (arith, common_steps)
