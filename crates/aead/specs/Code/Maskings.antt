-- The stages of the stream engines, in terms of the pieces that they have taken in.
use Rattle.std.specs.Prelude.{◌≡◌, ℕ, ◌+◌, ◌-◌, List, length, replicate}
use Rattle.aead.specs.declared.step.Order.{Order}
use Rattle.aead.specs.declared.engine.stage.Masking.{Masking}
use Rattle.aead.specs.declared.engine.stage.Reading.{Reading}
use Rattle.aead.specs.declared.pieces.keys.MessageKeys.{MessageKeys}
use Rattle.aead.specs.declared.pieces.pass_state.PassState.{PassState}
use Rattle.aead.specs.Suites.{text_limit_by}
use Rattle.aead.specs.Sealing.{Setting, mask_of}
use Rattle.aead.specs.PassStates.{HoldsNumbers}
use Rattle.aead.specs.Code.Masks.{hashed_by}
use Rattle.aead.specs.Code.MessageKeys.{construction_by, AreKeysOf}

-- a message whose pieces are masked and authenticated, in this order, with the mask for this tag
pub record Task : Type 0 where
  pub order : Order
  pub setting : Setting
  pub tag : List ℕ

-- the task of a message under this tag
abbrev pub message_task : Order → Setting → List ℕ → Task
message_task o s tag = record { order = o; setting = s; tag = tag }

-- the mask of a task
abbrev pub task_mask : Task → ℕ → ℕ
task_mask t = mask_of t.setting t.tag

-- the tag where the mask does not depend on it
abbrev pub no_tag : List ℕ
no_tag = replicate 16 0

-- a state under these keys can take in fewer bytes than this
abbrev pub room_under : MessageKeys → PassState → ℕ
room_under k p = text_limit_by (construction_by k.cipher) + 1 - p.length

-- m belongs to this task and has taken in these pieces
pub record HoldsMasking (t : Task) (m : Masking) (fed : List ℕ) : Type 0 where
  pub keys_are : AreKeysOf m.keys.now t.setting
  pub order_is : m.order ≡ t.order
  pub tag_is : m.tag ≡ t.tag
  pub taken : HoldsNumbers m.state t.setting (hashed_by t.order (task_mask t) fed)
  pub count_is : m.state.length ≡ length fed

-- r belongs to a message and has authenticated these pieces
pub record HoldsReading (s : Setting) (r : Reading) (fed : List ℕ) : Type 0 where
  pub keys_are : AreKeysOf r.keys.now s
  pub taken : HoldsNumbers r.state s fed
