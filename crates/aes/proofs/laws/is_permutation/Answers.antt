use Rattle.aes.proofs.Permutation as permutation
use Rattle.aes.proofs.laws.is_permutation.Goals as goal

pub returns : goal.returns
returns c = permutation.is_permutation
