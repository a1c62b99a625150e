-- The contents of a file that is not made before it is needed.
use Rattle.std.specs.Prelude.{ℕ, List, Option, Some, None}

-- the contents of a file: `blank` before it is made, and then those of its output
abbrev pub held : {O : Type 0} → Option (List ℕ) → (O → Option (List ℕ)) → Option O → Option (List ℕ)
held blank contents None = blank
held blank contents (Some output) = contents output
