use Rattle.std.proofs.Common.{◌≡◌, ℕ, ◌∙◌, sym, ap, arith, length, take, drop, bit_and}
use Rattle.std.proofs.lemmas.List.{take_all, length-drop}
use Rattle.octets.specs.Bytes.{le}
use Rattle.octets.proofs.Numbers.{le_word}
use Rattle.poly1305.proofs.Texts.{clamped, read_sum}
use Rattle.poly1305.proofs.poly.PolyBy.resumed.Goals as goal

pub new-requires : goal.new-requires
new-requires g c = clamped c.from_le_bytes.result

pub returns : goal.returns
returns g c = λ m sum rest.
    let key = c.args.key.now in
    let n : length key ≡ 32 = omega arith in
    let first : c.copy_from_slice.new.self ≡ take 16 key = c.copy_from_slice.ensures.after in
    let second : c.copy_from_slice-2.new.self ≡ drop 16 key = c.copy_from_slice-2.ensures.after
    ∙ take_all 16 (drop 16 key) (omega (arith, length-drop 16 key)) in
    let n1 : length c.copy_from_slice.new.self ≡ 16 = omega arith in
    let n2 : length c.copy_from_slice-2.new.self ≡ 16 = omega arith in
    c.resumed.ensures key m (record {
      factor_is = c.new.ensures ∙ ap (λ (x : ℕ). bit_and x 0x0ffffffc0ffffffc0ffffffc0fffffff)
          (c.from_le_bytes.ensures ∙ sym (le_word c.copy_from_slice.new.self n1) ∙ ap le first);
      addend_is = c.from_le_bytes-2.ensures ∙ sym (le_word c.copy_from_slice-2.new.self n2) ∙ ap le second;
      sum_is = read_sum c.args.low c.args.high _ sum;
    }) rest
