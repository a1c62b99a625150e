use Rattle.command.proofs.NewFileLemmas.{wrote}
use Rattle.command.proofs.new_file.NewFile.write_some.Goals as goal

pub returns-in-Ok-clause-taken : goal.returns-in-Ok-clause-taken
returns-in-Ok-clause-taken g c =
    rw c.in-Some.is (wrote _ _ c.args.self.now.pending.items c.deref.result.now c.args.self.now.written
    c.in-Ok.n c.deref.ensures.value c.in-Ok.ensures.bytes)
