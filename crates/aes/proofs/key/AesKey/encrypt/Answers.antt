use Rattle.std.proofs.Common.{◌+◌, ◌∙◌, refl, arith}
use Rattle.aes.specs.Schedule.{schedule}
use Rattle.aes.specs.Code.Columns.{columns_of}
use Rattle.aes.proofs.Expanded.{is_key, kept_length, first_state, next_state, last_state}
use Rattle.aes.proofs.key.AesKey.encrypt.Goals as goal

pub loop-done-init : goal.loop-done-init
loop-done-init c =
    let key = c.args.self.now in
    first_state (columns_of c.round_key.result) (schedule key) key _ _ _ (λ i h. refl) (c.round_key.ensures (omega arith))
    (c.load.ensures ∙ c.bytes.ensures.value) c.add_key-state.ensures

pub loop-done-preserved : goal.loop-done-preserved
loop-done-preserved c =
    let key = c.args.self.now in
    let long = kept_length c.self.inside.keys c.self.inside.size key c.self.invariant c.self.view_is in
    next_state (columns_of c.round_key-in-loop-done.result) (schedule key) key c.loop-done.done _ _ _ (λ i h. refl)
    (omega arith) (c.round_key-in-loop-done.ensures (omega arith)) c.loop-done.invariant c.round-next.ensures

pub returns-clause-value : goal.returns-clause-value
returns-clause-value c =
    let key = c.args.self.now in
    let long = kept_length c.self.inside.keys c.self.inside.size key c.self.invariant c.self.view_is in
    c.new.ensures.value ∙ c.store.ensures
    ∙ last_state (columns_of c.round_key-2.result) (schedule key) key c.loop-done.done (c.self.inside.size + 6) _ _ _
    (λ i h. refl) (omega arith) (omega arith) (c.round_key-2.ensures (omega arith)) c.loop-done.invariant c.last_round.ensures

pub returns-clause-is_key : goal.returns-clause-is_key
returns-clause-is_key c =
    is_key c.self.inside.keys c.self.inside.size c.args.self.now c.self.invariant c.self.view_is
