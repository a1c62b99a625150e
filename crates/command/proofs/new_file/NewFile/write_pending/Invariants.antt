use Rattle.std.proofs.Common.{◌≡◌, ◌-◌, true, drop, is_some, vec_len}
use Rattle.std.specs.Io.KnownBytes.{Keeps, append_known}
use Rattle.command.specs.NewFiles.{held}
use Rattle.command.proofs.new_file.NewFile.write_pending.Given as goal

abbrev pub invariant-loop-self : goal.invariant-loop-self
invariant-loop-self g l = record {
  kept : Keeps
      (append_known (held (g.F.Storage.blank l.initial.self.files.now l.initial.self.path.now) g.F.Output.Outlet.taken
      l.initial.self.file) (drop l.initial.self.written l.initial.self.pending.items))
      (append_known (held (g.F.Storage.blank l.self.files.now l.self.path.now) g.F.Output.Outlet.taken l.self.file)
      (drop l.self.written l.self.pending.items));
  pending : l.self.pending ≡ l.initial.self.pending;
  failed : l.self.failures ≡ l.initial.self.failures;
  made : is_some l.self.file ≡ true;
}

abbrev pub decreases-loop-self : goal.decreases-loop-self
decreases-loop-self g l = vec_len l.initial.self.pending - l.self.written
