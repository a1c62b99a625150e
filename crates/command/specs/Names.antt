-- The texts of failures.
use Rattle.std.specs.Prelude.{ℕ, List, [], ◌∷◌, ◌++◌, codes}
use Rattle.octets.specs.Names.{fault_name}
use Rattle.vectors.specs.Names.{fault_text}
use Rattle.command.specs.declared.failure.Failure.{Failure}
use Rattle.command.specs.declared.failure.Failure.TheVariants.{Words, UnknownSuite, BadHex, Fault as OfFault}
use Rattle.command.specs.declared.failure.Failure.TheVariants.{Vector as OfVector}

-- the bytes of a failure's text
abbrev pub failure_text : Failure → List ℕ
failure_text Words = codes "Words"
failure_text UnknownSuite = codes "UnknownSuite"
failure_text BadHex = codes "BadHex"
failure_text (OfFault fault) = fault_name fault
failure_text (OfVector fault) = fault_text fault

-- the line that names a failure on standard error, with LF
abbrev pub failure_line : Failure → List ℕ
failure_line failure = codes "aeadkit: " ++ (failure_text failure ++ 10 ∷ [])
