-- The names of faults.
use Rattle.std.specs.Prelude.{ℕ, List, codes}
use Rattle.octets.specs.declared.fault.Fault.{Fault}
use Rattle.octets.specs.declared.fault.Fault.TheVariants.{KeyLength, NonceLength, TextTooLong, AadTooLong}
use Rattle.octets.specs.declared.fault.Fault.TheVariants.{TooShort, TagMismatch, WrapLength, WrapIntegrity}
use Rattle.octets.specs.declared.fault.Fault.TheVariants.{OutOfMemory, StreamEnd, Read, Write, SourceChanged}

-- the bytes of a fault's name
abbrev pub fault_name : Fault → List ℕ
fault_name KeyLength = codes "KeyLength"
fault_name NonceLength = codes "NonceLength"
fault_name TextTooLong = codes "TextTooLong"
fault_name AadTooLong = codes "AadTooLong"
fault_name TooShort = codes "TooShort"
fault_name TagMismatch = codes "TagMismatch"
fault_name WrapLength = codes "WrapLength"
fault_name WrapIntegrity = codes "WrapIntegrity"
fault_name OutOfMemory = codes "OutOfMemory"
fault_name StreamEnd = codes "StreamEnd"
fault_name Read = codes "Read"
fault_name Write = codes "Write"
fault_name SourceChanged = codes "SourceChanged"
