-- The state of a sealing or an opening in pieces, in terms of the bytes that it has taken in.
use Rattle.std.specs.Prelude.{◌≡◌, ℕ, ◌<◌, ◌≤◌, min, true, List, ◌++◌, length, get_or, replicate}
use Rattle.octets.specs.Masked.{masked}
use Rattle.gf128.specs.Code.States.{key_of}
use Rattle.aead.specs.declared.pieces.pass_state.PassState.{PassState}
use Rattle.aead.specs.declared.pieces.opener.Opener.{Opener}
use Rattle.aead.specs.declared.pieces.opener.OpenWriter.{OpenWriter}
use Rattle.aead.specs.declared.pieces.opener.OpenerKeys.{OpenerKeys}
use Rattle.aead.specs.declared.pieces.opener.OpenerKeys.TheVariants.{OnePass, Siv}
use Rattle.aead.specs.declared.pieces.sealer.Sealer.{Sealer}
use Rattle.aead.specs.declared.pieces.siv.SivAbsorb.{SivAbsorb}
use Rattle.aead.specs.declared.pieces.siv.SivWriter.{SivWriter}
use Rattle.aead.specs.declared.derived_keys.SivKeys.{SivKeys}
use Rattle.aead.specs.declared.pieces.two_pass_state.TwoPassState.{TwoPassState}
use Rattle.aead.specs.Suites.{Construction, ByGcmSiv, construction_of, is_one_pass, text_limit, text_limit_by}
use Rattle.aead.specs.Sealing.{Setting, Opened, mask_of, tag_of, sealing}
use Rattle.aead.specs.PassStates.{HoldsNumbers, HoldsState, IsStart, zero_state, zero_sum}
use Rattle.aead.specs.KeyedPasses.{HasKeys, KnowsCipherOf, authenticated_by}
use Rattle.aead.specs.Code.MessageKeys.{construction_by, AreDerived, AreKeysOf}

-- the sealer has the keys of a message and has taken in this text
pub record HoldsSealer (sealer : Sealer) (s : Setting) (text : List ℕ) : Type 0 where
  pub keys : AreKeysOf sealer.keys s
  pub one_pass : is_one_pass (construction_of s.suite) ≡ true
  pub state : HoldsState sealer.state s text
  pub known : KnowsCipherOf sealer.known s

-- k holds the derived keys of a message of AES-GCM-SIV, and its nonce
pub record AreKeys (k : SivKeys) (s : Setting) : Type 0 where
  pub derived : AreDerived k.derived s
  pub multiplier_is : key_of k.multiplier ≡ k.derived.multiplier_key
  pub nonce_is : k.nonce ≡ s.nonce

-- the state of two readings or passes whose numbers are all zeros
abbrev pub zero_passes : TwoPassState
zero_passes = record { pass = zero_state; start = zero_sum; tag = replicate 16 0; first = 0 }

-- n is the state of a first reading that has taken in this text
pub record IsInFirstReading (n : TwoPassState) (s : Setting) (text : List ℕ) : Type 0 where
  pub pass : HoldsNumbers n.pass s text
  pub start : IsStart n.start s
  pub tag_is : n.tag ≡ replicate 16 0
  pub first_is : n.first ≡ 0

-- n is the state of a second reading that has taken in this text, after a first reading of another text, which is no shorter
pub record IsInSecondReading (n : TwoPassState) (s : Setting) (first text : List ℕ) : Type 0 where
  pub pass : HoldsNumbers n.pass s text
  pub start : IsStart n.start s
  pub tag_is : n.tag ≡ tag_of s first
  pub first_is : n.first ≡ length first
  pub first_fits : length first ≤ text_limit s.suite
  pub within : length text ≤ length first

-- the first reading has the keys of a message and has taken in this text
pub record HoldsAbsorb (a : SivAbsorb) (s : Setting) (text : List ℕ) : Type 0 where
  pub keys : AreKeys a.keys s
  pub state : IsInFirstReading a.state s text

-- the second reading has the keys of a message and has taken in this text, after a first reading of `first`
pub record HoldsWriter (w : SivWriter) (s : Setting) (first text : List ℕ) : Type 0 where
  pub keys : AreKeys w.keys s
  pub state : IsInSecondReading w.state s first text
  pub known : KnowsCipherOf w.known s

-- how many bytes the second reading has counted
abbrev pub siv_writer_count : SivWriter → ℕ
siv_writer_count w = w.state.pass.length

-- how many bytes the second reading may count: as many as the first reading counted, and no more than the suite's limit
abbrev pub siv_writer_limit : SivWriter → ℕ
siv_writer_limit w = min w.state.first (text_limit_by ByGcmSiv)

-- ---- an opening in two passes

-- the ciphertext and the tag are the sealing of the text that the ciphertext decrypts to
abbrev pub Opens : Setting → (tag body : List ℕ) → Type 0
Opens s tag body = Opened s (body ++ tag) (masked (mask_of s tag) 0 body)

-- some ciphertext of `first` bytes with this tag is a valid sealing
abbrev pub WasOverASealing : Setting → (tag : List ℕ) → (first : ℕ) → Type 0
WasOverASealing s tag first = (body : List ℕ) × (length body ≡ first) × Opens s tag body

-- the numbers have taken in the bytes of this ciphertext that are authenticated, with the mask for this tag
abbrev pub HasTakenIn : PassState → Setting → (tag body : List ℕ) → Type 0
HasTakenIn n s tag body = HoldsNumbers n s (authenticated_by (construction_of s.suite) (mask_of s tag) body)

-- n is the state of a first or second pass that has taken in these bytes of a ciphertext under this tag
pub record IsInPass (n : TwoPassState) (s : Setting) (tag body : List ℕ) : Type 0 where
  pub pass : HasTakenIn n.pass s tag body
  pub start : IsStart n.start s
  pub tag_is : n.tag ≡ tag
  pub tag_long : length tag ≡ 16
  pub small : (i : ℕ) → get_or body i 0 < 256

-- n is the state of a first pass that has taken in these bytes
pub record IsInFirstPass (n : TwoPassState) (s : Setting) (tag body : List ℕ) : Type 0 where
  pub pass : IsInPass n s tag body
  pub first_is : n.first ≡ 0

-- n is the state of a second pass that has taken in these bytes; the first pass was over `first` bytes, a valid sealing
pub record IsInSecondPass (n : TwoPassState) (s : Setting) (tag : List ℕ) (first : ℕ) (body : List ℕ) : Type 0 where
  pub pass : IsInPass n s tag body
  pub first_is : n.first ≡ first
  pub first_fits : first ≤ text_limit s.suite
  pub within : length body ≤ first
  pub passed : WasOverASealing s tag first

-- every number of the masks of a message is a byte
abbrev pub MasksByBytes : Setting → Type 0
MasksByBytes s = (tag : List ℕ) (i : ℕ) → mask_of s tag i < 256

-- the keys of an opening, borrowed from a cipher or its own, are those of a message
abbrev pub OpensUnder : OpenerKeys → Setting → Type 0
OpensUnder (OnePass k) s = AreKeysOf k s
OpensUnder (Siv suite own) s = (suite ≡ s.suite) × HasKeys own s

-- the construction that the keys of an opening are for
abbrev pub construction_under : OpenerKeys → Construction
construction_under (OnePass k) = construction_by k.cipher
construction_under (Siv suite own) = construction_of suite

-- the first pass has the keys of a message and has taken in these bytes of a ciphertext under this tag
pub record HoldsOpener (o : Opener) (s : Setting) (tag body : List ℕ) : Type 0 where
  pub keys : OpensUnder o.keys s
  pub bytes : MasksByBytes s
  pub state : IsInFirstPass o.state s tag body

-- the second pass has the keys of a message and has taken in these bytes; the first pass was over `first` bytes, a valid sealing
pub record HoldsOpenWriter (w : OpenWriter) (s : Setting) (tag : List ℕ) (first : ℕ) (body : List ℕ) : Type 0 where
  pub keys : OpensUnder w.keys s
  pub bytes : MasksByBytes s
  pub state : IsInSecondPass w.state s tag first body
  pub known : KnowsCipherOf w.known s

-- how many bytes the second pass has counted
abbrev pub open_writer_count : OpenWriter → ℕ
open_writer_count w = w.state.pass.length

-- how many bytes the second pass may count: as many as the first pass counted, and no more than the suite's limit
abbrev pub open_writer_limit : OpenWriter → ℕ
open_writer_limit w = min w.state.first (text_limit_by (construction_under w.keys))

-- ---- pieces that are joined

-- the text has the length and the tag of the first text
abbrev pub Repeats : Setting → List ℕ → List ℕ → Type 0
Repeats s first text = (length text ≡ length first) × (tag_of s text ≡ tag_of s first)

-- c is the ciphertext of a text, whatever its tag
abbrev pub IsCiphertext : Setting → List ℕ → List ℕ → Type 0
IsCiphertext s text c = (tag : List ℕ) → c ≡ masked (mask_of s tag) 0 text

-- if c is the ciphertext of a text, and d that of the piece after it, c ++ d is the ciphertext of both; and c followed by the
-- tag of its text is the sealing of the text
abbrev pub PiecesMakeASealing : Type 0
PiecesMakeASealing = (s : Setting) (text c : List ℕ) → IsCiphertext s text c
    → ((piece d : List ℕ) → ((tag : List ℕ) → d ≡ masked (mask_of s tag) (length text) piece)
    → IsCiphertext s (text ++ piece) (c ++ d))
    × (c ++ tag_of s text ≡ sealing s text)

-- c is the text, masked under this tag
abbrev pub IsMasked : Setting → (tag text c : List ℕ) → Type 0
IsMasked s tag text c = c ≡ masked (mask_of s tag) 0 text

-- if c is a text masked under a tag, and d the piece after it masked under the same tag, c ++ d is both of them masked; and
-- c followed by the tag is the sealing of the text, if the tag is that of the text
abbrev pub MaskedPiecesMakeASealing : Type 0
MaskedPiecesMakeASealing = (s : Setting) (tag text c : List ℕ) → IsMasked s tag text c
    → ((piece d : List ℕ) → d ≡ masked (mask_of s tag) (length text) piece
    → IsMasked s tag (text ++ piece) (c ++ d))
    × (tag ≡ tag_of s text → c ++ tag ≡ sealing s text)

-- a text and the piece after it, masked one after the other under one tag and joined, are both of them masked
abbrev pub MaskedPiecesJoin : Type 0
MaskedPiecesJoin = (s : Setting) (tag text piece : List ℕ)
    → masked (mask_of s tag) 0 text ++ masked (mask_of s tag) (length text) piece
    ≡ masked (mask_of s tag) 0 (text ++ piece)
