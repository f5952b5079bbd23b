-- Which messages are fit to be routed: one comes from a slot that has an object, and where it replies to an object it names a slot that has one.
use Rattle.std.specs.Prelude.{◌≡◌, ◌&&◌, ℕ, Bool, true, is_some}
use Rattle.timeline.specs.Switch.{Switch, is_fit, object_at}
use Rattle.timeline.specs.declared.message.Message.{Message}
use Rattle.timeline.specs.declared.message.Message.TheVariants as message

-- Whom a message replies to is there.
abbrev pub replies_fit : Switch → Message → Bool
replies_fit s (message.Reply to result) = is_fit s to
replies_fit s other = true

pub record IsFit (s : Switch) (sent : ℕ × Message) : Type 0 where
  pub comes : is_some (object_at s sent.0) ≡ true
  pub replies : replies_fit s sent.1 ≡ true

-- The same, as a test has it.
abbrev pub fits : Switch → ℕ × Message → Bool
fits s sent = is_some (object_at s sent.0) && replies_fit s sent.1
