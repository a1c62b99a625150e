-- Reports of a file.
use Rattle.std.specs.Prelude.{◌≡◌, ℕ, ◌+◌, ◌⊎◌, List, [], ◌∷◌, ◌++◌, length, Result, Ok, Err}
use Rattle.vectors.specs.declared.fault.VectorFault.{VectorFault}
use Rattle.vectors.specs.declared.fault.VectorFault.TheVariants.{OutOfMemory}
use Rattle.vectors.specs.Grammar.{Record, IsFile}
use Rattle.vectors.specs.Agreement.{Agrees}

-- the numbers of the records that disagree, in rising order, where the first record has number n
pub data IsBad : ℕ → List Record → List ℕ → Type 0 where
  ends : {n : ℕ} → IsBad n [] []
  agrees : {n : ℕ} {r : Record} {rs : List Record} {bad : List ℕ} → Agrees r → IsBad (n + 1) rs bad
      → IsBad n (r ∷ rs) bad
  disagrees : {n : ℕ} {r : Record} {rs : List Record} {bad : List ℕ} → ¬ Agrees r → IsBad (n + 1) rs bad
      → IsBad n (r ∷ rs) (n ∷ bad)

-- the lines are a file of this many records, and these are the numbers of the bad ones
pub record IsReport (lines : List (List ℕ)) (count : ℕ) (bad : List ℕ) : Type 0 where
  pub records : List Record
  pub file : IsFile lines records
  pub count_is : count ≡ length records
  pub judged : IsBad 1 records bad

-- a report, or `OutOfMemory`
abbrev pub IsReported : {R : Type 0} → Result R VectorFault → Type 0
IsReported (Ok report) = Unit {0}
IsReported (Err fault) = fault ≡ OutOfMemory
