-- The texts of faults.
use Rattle.std.specs.Prelude.{ℕ, List, ◌++◌, codes}
use Rattle.std.specs.Fmt.{decimal}
use Rattle.vectors.specs.declared.fault.Cause.{Cause}
use Rattle.vectors.specs.declared.fault.Cause.TheVariants.{BadFormat, BadLine, WrongName, UnknownSuite}
use Rattle.vectors.specs.declared.fault.Cause.TheVariants.{BadHex, BadLength, BadCuts}
use Rattle.vectors.specs.declared.fault.VectorFault.{VectorFault}
use Rattle.vectors.specs.declared.fault.VectorFault.TheVariants.{AtLine, NoRecords, Unfinished, OutOfMemory}

-- the bytes of a cause's name
abbrev pub cause_name : Cause → List ℕ
cause_name BadFormat = codes "BadFormat"
cause_name BadLine = codes "BadLine"
cause_name WrongName = codes "WrongName"
cause_name UnknownSuite = codes "UnknownSuite"
cause_name BadHex = codes "BadHex"
cause_name BadLength = codes "BadLength"
cause_name BadCuts = codes "BadCuts"

-- a name, and the number of a line
abbrev pub at_line : List ℕ → ℕ → List ℕ
at_line name n = name ++ (codes " at line " ++ decimal n)

-- the bytes of a fault's text
abbrev pub fault_text : VectorFault → List ℕ
fault_text (AtLine n cause) = at_line (cause_name cause) n
fault_text NoRecords = codes "NoRecords"
fault_text (Unfinished n) = at_line (codes "Unfinished") n
fault_text OutOfMemory = codes "OutOfMemory"
