use Rattle.aes.proofs.counter.Counter.apply_sixteens_by.Goals as goal

pub apply_sixteens-requires-clause-ready : goal.apply_sixteens-requires-clause-ready
apply_sixteens-requires-clause-ready g c = c.requires.ready c.in-Some.words c.in-Some.is
