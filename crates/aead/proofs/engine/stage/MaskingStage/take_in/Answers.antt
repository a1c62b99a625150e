use Rattle.std.proofs.Common.{◌+◌, ◌≤◌, ap, arith, length, length-append}
use Rattle.aead.specs.Suites.{text_limit, text_limit_by}
use Rattle.aead.proofs.engine.stage.MaskingStage.take_in.Goals as goal

pub returns-clause-holds : goal.returns-clause-holds
returns-clause-holds c = λ t fed h.
    let s = t.setting in
    let self = c.args.self.now in
    let fits : self.state.length + length c.args.piece.now ≤ text_limit s.suite =
    omega (arith, c.requires, ap text_limit_by h.keys_are.by) in
    let masks = rw h.order_is at (rw h.tag_is at (c.mask.ensures.masks s fed h.keys_are)) in
    let went = masks h.count_is fits h.taken (c.none-known.ensures _) in (
      record {
        keys_are = h.keys_are;
        order_is = h.order_is;
        tag_is = h.tag_is;
        taken = went.0;
        count_is = omega (arith, c.mask.ensures.length, h.count_is, length-append fed c.args.piece.now);
      },
      went.1,
    )
