use Rattle.std.proofs.Common.{sym, ◌∙◌}
use Rattle.aead.proofs.Streams.{first_block}
use Rattle.aead.proofs.rule.GhashOrderRule.first_counter.Goals as goal

pub returns : goal.returns
returns c = c.nonce_and_counter.ensures.value ∙ sym (first_block c.args.nonce.now c.nonce_and_counter.ensures.nonce_length)
