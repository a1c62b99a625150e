use Rattle.std.proofs.Common.{◌≡◌, ◌+◌, ◌/◌, ◌%◌, ◌^◌, ◌∙◌, ap, length, refl, sym, arith}
use Rattle.std.proofs.lemmas.List.{take_all}
use Rattle.octets.specs.Bytes.{xor_bytes}
use Rattle.aes.proofs.StreamSteps.{began}
use Rattle.aes.proofs.counter.Counter.mask_with.Goals as goal

pub returns-then-count-masks-clause-advances : goal.returns-then-count-masks-clause-advances
returns-then-count-masks-clause-advances g c = λ key are.
    let masks = c.args.masks.now in
    let xs = c.args.bytes.now in
    let whole : length xs ≡ length masks = omega (arith, c.if-count-masks.true) in
    let counted : (c.args.self.now.block_count + (length xs + 15) / 16 % 2 ^ 32) % 2 ^ 32
    ≡ (c.args.self.now.block_count + (length xs + 15) / 16) % 2 ^ 32 = omega arith in
    began g.C.Count.up key c.args.self.now _ masks xs c.xor_into.new.dst g.met.C.Count.wraps refl counted refl
    c.requires.none c.requires.room c.requires.whole (λ short. absurd (omega (arith, short, whole))) are
    (c.xor_into.ensures ∙ ap (xor_bytes xs) (sym (take_all (length xs) masks (omega (arith, whole)))))

pub returns-else-count-masks-clause-advances : goal.returns-else-count-masks-clause-advances
returns-else-count-masks-clause-advances g c = λ key are.
    let masks = c.args.masks.now in
    let xs = c.args.bytes.now in
    let counted : (c.args.self.now.block_count + (length xs + 15) / 16 % 2 ^ 32) % 2 ^ 32
    ≡ (c.args.self.now.block_count + (length xs + 15) / 16) % 2 ^ 32 = omega arith in
    began g.C.Count.up key c.args.self.now _ masks xs c.xor_into-else-count-masks.new.dst g.met.C.Count.wraps refl counted
    refl c.requires.none c.requires.room c.requires.whole (λ short. c.block_of-self.ensures) are
    c.xor_into-else-count-masks.ensures
