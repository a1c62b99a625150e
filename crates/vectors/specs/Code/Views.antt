-- The program's values in the words of the grammar.
use Rattle.std.specs.Prelude.{◌≡◌, ℕ, List, [], ◌∷◌, Option, Some, None, Result, Ok, Err}
use Rattle.vectors.specs.declared.digits.Digits.{Digits}
use Rattle.vectors.specs.declared.place.Entry.{Entry}
use Rattle.vectors.specs.declared.place.Next.{Next}
use Rattle.vectors.specs.declared.place.Place.{Place}
use Rattle.vectors.specs.declared.place.Place.TheVariants.{Start, Between, Fields, Text}
use Rattle.vectors.specs.declared.fault.Cause.{Cause}
use Rattle.vectors.specs.Grammar.{Record}
use Rattle.vectors.specs.Faults.{bytes_of}
use Rattle.vectors.specs.Code.Steps as steps

-- the bytes that the digits spell
abbrev pub bytes_in : Digits → List ℕ
bytes_in d = bytes_of d.text.now

abbrev pub text_view : Option Digits → Option (List ℕ)
text_view None = None
text_view (Some t) = Some (bytes_in t)

abbrev pub entry_view : Entry → Record
entry_view e = record {
  suite = e.suite;
  key = bytes_in e.key;
  nonce = bytes_in e.nonce;
  aad = bytes_in e.aad;
  sealed = bytes_in e.sealed;
  text = text_view e.text;
}

abbrev pub view : Place → steps.Place
view Start = steps.start
view (Between format) = steps.between format
view (Fields format left e) = steps.fields format left.now (entry_view e)
view (Text format e) = steps.text format (entry_view e)

-- the record that a line ended, if it ended one
abbrev pub ended_view : Option Entry → List Record
ended_view None = []
ended_view (Some e) = entry_view e ∷ []

abbrev pub next_view : Next → steps.Place × List Record
next_view n = (view n.place, ended_view n.ended)

-- a call returns this result, where f says what a value means
abbrev pub Gives : {X Y : Type 0} → (X → Y) → Result X Cause → Result Y Cause → Type 0
Gives f (Ok x) read = read ≡ Ok (f x)
Gives f (Err e) read = read ≡ Err e
