use Rattle.std.proofs.Common.{◌∙◌, ◌++◌, [], ℕ, List, sym, ap}
use Rattle.aead.specs.Sealing.{Setting, tag_of}
use Rattle.aead.specs.KeyedPasses.{setting_of}
use Rattle.capi.proofs.Outcomes.{done}
use Rattle.capi.proofs.uses.sealed_by_two_readings.Goals as goal

pub returns : goal.returns
returns c = λ named by is zero.
    let s : Setting = setting_of named c.args.key.now c.args.nonce.now c.args.aad.now in
    let read : List ℕ = c.args.head.now ++ c.args.rest.now in
    let text : List ℕ = c.args.first.now ++ c.args.second.now in
    let h0 = done _ _ _ (c.aeadkit_siv_init-begun.ensures.known named by is) c.if-begun-ne0.false in
    let u1 = done _ _ _ (c.aeadkit_siv_absorb-one.ensures.holds s [] h0) c.if-one-ne0.false in
    let u2 = done _ _ _ (c.aeadkit_siv_absorb-two.ensures.holds s c.args.head.now u1) c.if-two-ne0.false in
    let t = c.aeadkit_siv_begin_second-ended.ensures.holds s read u2 in
    let w1 = done _ _ _ (c.aeadkit_siv_update-three.ensures.holds s read [] t.2) c.if-three-ne0.false in
    let w2 = done _ _ _ (c.aeadkit_siv_update-four.ensures.holds s read c.args.first.now w1.0) c.if-four-ne0.false in
    let e = done _ _ _ (c.aeadkit_siv_finish.ensures.holds s read text w2.0) zero in
    let join = c.masked_pieces_make_a_sealing.ensures s (tag_of s read) in
    let both = (join _ _ w1.1).0 _ _ w2.1 in
    ap (λ z. (c.aeadkit_siv_update-three.new.piece ++ c.aeadkit_siv_update-four.new.piece) ++ z) t.1
    ∙ (join _ _ both).1 (sym e.1)
