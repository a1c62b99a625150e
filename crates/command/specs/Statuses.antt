-- The statuses that the program ends with.
use Rattle.std.specs.Prelude.{ℕ}
use Rattle.octets.specs.declared.fault.Fault.{Fault}
use Rattle.octets.specs.declared.fault.Fault.TheVariants as fault
use Rattle.vectors.specs.declared.fault.VectorFault.{VectorFault}
use Rattle.vectors.specs.declared.fault.VectorFault.TheVariants as vector
use Rattle.command.specs.declared.failure.Failure.{Failure}
use Rattle.command.specs.declared.failure.Failure.TheVariants.{Words, UnknownSuite, BadHex, Fault as OfFault}
use Rattle.command.specs.declared.failure.Failure.TheVariants.{Vector as OfVector}

-- 1: authentication failed; 2: an input is invalid; 3: a read or a write failed, or a file changed; 4: out of memory
abbrev pub fault_status : Fault → ℕ
fault_status fault.TooShort = 1
fault_status fault.TagMismatch = 1
fault_status fault.WrapIntegrity = 1
fault_status fault.KeyLength = 2
fault_status fault.NonceLength = 2
fault_status fault.TextTooLong = 2
fault_status fault.AadTooLong = 2
fault_status fault.WrapLength = 2
fault_status fault.StreamEnd = 2
fault_status fault.Read = 3
fault_status fault.Write = 3
fault_status fault.SourceChanged = 3
fault_status fault.OutOfMemory = 4

-- the status for a file that is not a vector file is 1
abbrev pub vector_status : VectorFault → ℕ
vector_status vector.OutOfMemory = 4
vector_status _ = 1

-- the status of a failure: a fault has its own, and invalid words, names and digits are an invalid input
abbrev pub failure_status : Failure → ℕ
failure_status Words = 2
failure_status UnknownSuite = 2
failure_status BadHex = 2
failure_status (OfFault f) = fault_status f
failure_status (OfVector f) = vector_status f
