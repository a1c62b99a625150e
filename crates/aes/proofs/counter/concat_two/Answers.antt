use Rattle.std.proofs.Common.{◌++◌, ◌∙◌, ap}
use Rattle.std.proofs.lemmas.List.{append-nil}
use Rattle.aes.proofs.counter.concat_two.Goals as goal

pub returns : goal.returns
returns c =
    c.copy_from_slice.ensures.after ∙ c.as_flattened.ensures.value ∙ ap (λ y. c.args.a.now ++ y) (append-nil c.args.b.now)
