use Rattle.std.proofs.Common.{◌∙◌, inl, refl, rules}
use Rattle.aes.proofs.Expanded.{spelled, expanded}
use Rattle.aes.proofs.key.AesKey.new128.Goals as goal

pub invariant_of-result : goal.invariant_of-result
invariant_of-result c =
    expanded c.expand.result c.bytes.result.now 4 (rw c.bytes.ensures.value c.bytes.ensures.are_bytes.bytes)
    (inl refl) (search rules) c.expand.ensures

pub returns : goal.returns
returns c =
    spelled c.expand.result c.bytes.result.now 4 (rw c.bytes.ensures.value c.bytes.ensures.are_bytes.bytes) (inl refl)
    (search rules) c.expand.ensures ∙ c.bytes.ensures.value
