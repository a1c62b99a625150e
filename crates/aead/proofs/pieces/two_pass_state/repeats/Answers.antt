use Rattle.std.proofs.Common.{◌≡◌, ◌∙◌, sym, ap, arith}
use Rattle.aead.specs.Suites.{is_one_pass}
use Rattle.aead.specs.Sealing.{tag_of}
use Rattle.aead.proofs.Opens.{two_pass_tag}
use Rattle.aead.proofs.pieces.two_pass_state.repeats.Goals as goal

pub returns-then-again-first_length : goal.returns-then-again-first_length
returns-then-again-first_length c = λ s first text by k size is h.
    let tag_is : c.tag.result ≡ tag_of s text =
    c.tag.ensures s text k h ∙ sym (two_pass_tag s text (ap is_one_pass by)) in (
      λ e. (
        omega (arith, h.length_is, size, c.if-again-first_length.true),
        sym tag_is ∙ sym c.bytes.ensures.value ∙ c.same.ensures.0 e ∙ is,
      ),
      λ r. c.same.ensures.1 (c.bytes.ensures.value ∙ tag_is ∙ r.1 ∙ sym is),
    )
