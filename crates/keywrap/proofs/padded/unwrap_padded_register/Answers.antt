use Rattle.std.proofs.Common.{◌≡◌, ◌+◌, ◌++◌, List, ℕ, length, arith, length-append}
use Rattle.keywrap.proofs.Bytes.{bytes_append, bytes_resized}
use Rattle.aes.proofs.Permutation.{is_permutation}
use Rattle.keywrap.proofs.PaddedTexts.{found_by, start_found}
use Rattle.keywrap.proofs.padded.unwrap_padded_register.Goals as goal

pub returns-clause-found : goal.returns-clause-found
returns-clause-found c =
    let first : List ℕ = c.decrypt_register.new.first in
    let rest : List ℕ = c.decrypt_register.new.blocks in
    let wrapped : List ℕ = c.args.first.now ++ c.args.blocks.now in
    let eight : length first ≡ 8 = omega arith in
    let long : length first + length rest ≡ length wrapped =
    omega (arith, length-append c.args.first.now c.args.blocks.now) in
    found_by c.args.key.now wrapped first rest c.text_length.result is_permutation c.decrypt_register.ensures.key
    (bytes_resized (length first + length rest) (length wrapped) (first ++ rest) long
    (bytes_append (length first) (length rest) first rest c.decrypt_register.ensures.first
    c.decrypt_register.ensures.rest))
    eight c.decrypt_register.ensures.rest c.decrypt_register.ensures.undone c.text_length.ensures

pub returns-clause-start : goal.returns-clause-start
returns-clause-start c = start_found c.decrypt_register.new.first c.decrypt_register.new.blocks c.text_length.result
    c.text_length.ensures
