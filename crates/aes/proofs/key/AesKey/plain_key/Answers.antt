use Rattle.std.proofs.Common.{◌≡◌, ℕ, [], ◌+◌, ◌*◌, ◌/◌, ◌%◌, get_or, ap, ap₂, sym, ◌∙◌, arith, bit_xor, rules}
use Rattle.std.proofs.lemmas.List.{get_or-replicate}
use Rattle.std.specs.Int.Bits.{xor_assoc, xor_zero_r}
use Rattle.aes.specs.Schedule.{schedule, round_count}
use Rattle.aes.specs.Code.Planes.{word_byte, masked_byte}
use Rattle.aes.proofs.Expanded.{kept_keys, kept_length, is_key}
use Rattle.aes.proofs.Permutation.{words_are}
use Rattle.aes.proofs.MadeKeys.{unshifted}
use Rattle.aes.proofs.key.AesKey.plain_key.Goals as goal

pub returns-then-n-eq0-clause-bytes : goal.returns-then-n-eq0-clause-bytes
returns-then-n-eq0-clause-bytes c = λ within i l.
    let key = c.args.self.now in
    let kept = kept_keys c.self.inside.keys c.self.inside.size key c.self.invariant c.self.view_is in
    let none : c.args.n ≡ 0 = c.if-n-eq0.true in
    ap (λ (n : ℕ). get_or (get_or c.self.inside.keys n []) i 0) none ∙ kept.first i l
    ∙ ap (λ (n : ℕ). word_byte (schedule key) n i) (sym none)

pub returns-then-n-self-clause-bytes : goal.returns-then-n-self-clause-bytes
returns-then-n-self-clause-bytes c = λ within i l.
    let key = c.args.self.now in
    let kept = kept_keys c.self.inside.keys c.self.inside.size key c.self.invariant c.self.view_is in
    let long = kept_length c.self.inside.keys c.self.inside.size key c.self.invariant c.self.view_is in
    let last : c.args.n ≡ round_count key = omega arith in
    c.sum.ensures.each i l
    ∙ ap₂ bit_xor (ap (λ (n : ℕ). get_or (get_or c.self.inside.keys n []) i 0) last ∙ kept.last i l
    ∙ ap (λ (n : ℕ). masked_byte (schedule key) n i) (sym last)) (get_or-replicate {A = ℕ} 16 i 0x63 0 l)
    ∙ xor_assoc (word_byte (schedule key) c.args.n i) 0x63 0x63 ∙ xor_zero_r (word_byte (schedule key) c.args.n i)

pub returns-clause-bytes : goal.returns-clause-bytes
returns-clause-bytes c = λ within i l.
    let key = c.args.self.now in
    let kept = kept_keys c.self.inside.keys c.self.inside.size key c.self.invariant c.self.view_is in
    let long = kept_length c.self.inside.keys c.self.inside.size key c.self.invariant c.self.view_is in
    let k = is_key c.self.inside.keys c.self.inside.size key c.self.invariant c.self.view_is in
    let n = c.args.n in
    let bytes = words_are key (4 * (round_count key + 1)) k.bytes in
    (c.from_basis.ensures (λ i. word_byte (schedule key) n i) (λ i h. bytes (4 * n + i / 4) (i % 4))
    (unshifted _ _ _ (schedule key) n (search rules) c.sum-2.ensures.each (λ i h. kept.middle n i (omega arith) (omega arith) h)
    c.unshift_rows.ensures.each)).each i l

pub returns-then-n-eq0-clause-is_key : goal.returns-then-n-eq0-clause-is_key
returns-then-n-eq0-clause-is_key c = is_key c.self.inside.keys c.self.inside.size c.args.self.now c.self.invariant c.self.view_is

pub returns-then-n-self-clause-is_key : goal.returns-then-n-self-clause-is_key
returns-then-n-self-clause-is_key c = is_key c.self.inside.keys c.self.inside.size c.args.self.now c.self.invariant c.self.view_is

pub returns-clause-is_key : goal.returns-clause-is_key
returns-clause-is_key c = is_key c.self.inside.keys c.self.inside.size c.args.self.now c.self.invariant c.self.view_is
