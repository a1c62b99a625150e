-- A line that is made in memory of a fixed size, and is written as far as the writer takes it.
use Rattle.std.proofs.Common.{◌≡◌, ℕ, List, [], ◌∷◌, ◌++◌, Ok, Err, length, ap, sym, ◌∙◌, subst, append_assoc}
use Rattle.std.proofs.lemmas.List.{append-nil}
use Rattle.std.proofs.Math.Seq.{take-length}
use Rattle.std.specs.declared.fmt.InlineText.{InlineText}
use Rattle.std.specs.declared.option.Option.{Option}
use Rattle.std.specs.declared.result.Result.{Result}
use Rattle.std.specs.Fmt.{WritesInCalls}
use Rattle.std.specs.Fmt.InlineText.{inline_text, IsIntact, AppendsIfIntact}
use Rattle.std.specs.Io.KnownBytes.{Appends}
use Rattle.std.specs.List.{FoldsTo, concat}
use Rattle.octets.specs.Device.{GivesAll}
use Rattle.command.specs.Answers.{AppendsBeginning}

-- parts that are written one after another are appended, joined
appends_parts : {n : ℕ} (s : InlineText n) (parts : List (List ℕ)) (t : InlineText n)
    → FoldsTo AppendsIfIntact s parts t → AppendsIfIntact s (concat parts) t
appends_parts s [] t same intact =
    (subst IsIntact same intact, ap inline_text (sym same) ∙ sym (append-nil (inline_text s)))
appends_parts s (part ∷ parts) t calls intact =
    let first = calls.1 intact in
    let rest = appends_parts calls.0 parts t calls.2 first.0 in
    (rest.0, rest.1 ∙ ap (λ l. l ++ concat parts) first.1 ∙ append_assoc (inline_text s) part (concat parts))

-- the bytes of a text that was empty are the line that was written to it
pub line_is : {n : ℕ} (s t : InlineText n) (bytes text line : List ℕ) → inline_text s ≡ [] → IsIntact s
    → WritesInCalls AppendsIfIntact s line t → text ≡ inline_text t → bytes ≡ text → bytes ≡ line
line_is s t bytes text line empty intact wrote shown same =
    same ∙ shown ∙ (appends_parts s wrote.parts t wrote.calls intact).1
    ∙ ap (λ l. l ++ concat wrote.parts) empty ∙ wrote.whole

-- if bytes are given as far as possible, a beginning of them is appended
pub begins : {T E : Type 0} (before after : Option (List ℕ)) (r : Result T E) (bytes line : List ℕ) → bytes ≡ line
    → GivesAll before after r bytes → AppendsBeginning before after line
begins before after (Ok _) bytes line same given =
    (length line, subst (Appends before after) (same ∙ sym (take-length line)) given)
begins before after (Err _) bytes line same given = rw (← same) (given.0, given.2)
