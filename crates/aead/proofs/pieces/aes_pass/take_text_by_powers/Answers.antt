use Rattle.std.proofs.Common.{ℕ, List, sym, subst}
use Rattle.gf128.specs.Orders.{Serves}
use Rattle.aead.specs.Code.States.{block_key}
use Rattle.aead.proofs.pieces.aes_pass.take_text_by_powers.Goals as goal

pub returns : goal.returns
returns g c = λ s fed by key serves nonce.
    let powers = subst (λ (k : List ℕ). Serves g.R.HashOrder.order (block_key g.R.Count.MaskCount.by s) k)
    (sym c.set_table.ensures) serves in
    c.take_text_in_planes.ensures s fed by key powers nonce
