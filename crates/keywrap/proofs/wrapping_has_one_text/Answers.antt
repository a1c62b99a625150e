use Rattle.aes.proofs.Permutation.{is_permutation}
use Rattle.keywrap.proofs.Texts.{one_text}
use Rattle.keywrap.proofs.wrapping_has_one_text.Goals as goal

pub returns : goal.returns
returns c = one_text is_permutation
