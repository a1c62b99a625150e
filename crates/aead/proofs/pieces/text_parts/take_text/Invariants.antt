use Rattle.std.proofs.Common.{◌≡◌, ◌+◌, ◌-◌, ◌≤◌, length, take}
use Rattle.aead.specs.Code.Masks.{TakesText}
use Rattle.aead.proofs.pieces.text_parts.take_text.Given as goal

abbrev pub invariant-loop-done : goal.invariant-loop-done
invariant-loop-done g l = (l.done ≤ length l.piece)
    × (l.authenticator.length ≡ l.fn.authenticator.length + l.done)
    × TakesText g.S.MaskStream.made g.H.TagHash.held l.fn.mask l.mask l.fn.authenticator l.authenticator (take l.done l.piece)

abbrev pub decreases-loop-done : goal.decreases-loop-done
decreases-loop-done g l = length l.piece - l.done
