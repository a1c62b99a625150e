-- The answer of a command whose value is printed.
use Rattle.std.proofs.Common.{◌≡◌, ℕ, inl, inr, List, Ok, Err, MatchResult}
use Rattle.std.specs.declared.option.Option.{Option}
use Rattle.std.specs.declared.result.Result.{Result}
use Rattle.std.specs.Io.KnownBytes.{Appends}
use Rattle.command.specs.declared.failure.Failure.{Failure}
use Rattle.command.specs.Answers.{Printed, Silent, IsOutputFailure}
use Rattle.command.specs.Hex.{hex_line}

-- either a value with this property was printed, or the command was refused, or standard output failed
pub printed : {V : Type 0} (items : V → List ℕ) (property : List ℕ → Type 0) (refused : Failure → Type 0)
    (before after : Option (List ℕ)) (value : Result V Failure) (result : Result ℕ Failure)
    → MatchResult value (λ v. property (items v)) refused
    → MatchResult value (λ v. MatchResult result
    (λ status. (status ≡ 0) × Appends before after (hex_line (items v))) IsOutputFailure)
    (λ e. (result ≡ Err e) × (after ≡ before))
    → MatchResult result (Printed property before after) (Silent before after refused)
printed items property refused before after (Ok v) (Ok status) h p =
    record { bytes = items v; right = h; line = p.1; done = p.0 }
printed items property refused before after (Ok v) (Err e) h p = inr p
printed items property refused before after (Err e) result h p = rw p.0 (inl (h, p.1))
