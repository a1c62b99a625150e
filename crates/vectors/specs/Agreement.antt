-- Whether a record agrees with its standard.
use Rattle.std.specs.Prelude.{ℕ, List, Option, Some, None}
use Rattle.aead.specs.Sealing.{Opened}
use Rattle.keywrap.specs.Wrapping.{Unwrapped}
use Rattle.keywrap.specs.Padded.{UnwrappedPadded}
use Rattle.vectors.specs.declared.suite.Algorithm.{Algorithm}
use Rattle.vectors.specs.declared.suite.Algorithm.TheVariants.{Aead, Wrap, WrapPad}
use Rattle.vectors.specs.Grammar.{Record}

-- the record's sealed bytes are the sealing or the wrapping of the text, under a suite and the record's key, nonce and
-- associated data
abbrev pub HoldsBy : Algorithm → Record → List ℕ → Type 0
HoldsBy (Aead suite) r text =
    Opened (record { suite = suite; key = r.key; nonce = r.nonce; aad = r.aad }) r.sealed text
HoldsBy (Wrap aes) r text = Unwrapped r.key r.sealed text
HoldsBy (WrapPad aes) r text = UnwrappedPadded r.key r.sealed text

-- a fact holds of the text, or of no text at all if there is none
abbrev pub TextIs : (List ℕ → Type 0) → Option (List ℕ) → Type 0
TextIs P (Some text) = P text
TextIs P None = (text : List ℕ) → ¬ P text

-- the sealed bytes are those of the record's text, or not valid if the record says `invalid`
abbrev pub Agrees : Record → Type 0
Agrees r = TextIs (HoldsBy r.suite r) r.text
