-- When two paths lead to one file.
use Rattle.std.specs.Prelude.{◌≡◌, Some}
use Rattle.std.specs.declared.option.Option.{Option}
use Rattle.command.specs.declared.identity.Identity.{Identity}

-- both files can be compared, and they are the same inode of the same device
abbrev pub IsOneFile : Option Identity → Option Identity → Type 0
IsOneFile (Some a) (Some b) = (a.device ≡ b.device) × (a.inode ≡ b.inode)
IsOneFile _ _ = ⊥
