use Rattle.std.proofs.Common.{[], sym, ◌∙◌}
use Rattle.aead.proofs.Opens.{one_pass_tag}
use Rattle.aead.proofs.pieces.pass_state.PassState.tag_of_text.Goals as goal

pub returns : goal.returns
returns c = λ s text k one h. c.tag.ensures s _ k (h []) ∙ sym (one_pass_tag s [] text one)
