-- Which messages are fit.
use Rattle.std.proofs.Common.{◌≡◌, ℕ, true, is_some}
use Rattle.std.proofs.lemmas.Bool.{and_parts}
use Rattle.timeline.specs.Switch.{Switch, object_at}
use Rattle.timeline.specs.declared.message.Message.{Message}
use Rattle.mailbox.specs.Fit.{IsFit, fits, replies_fit}

-- one that passes the test
pub fits_so : (s : Switch) (sent : ℕ × Message) → fits s sent ≡ true → IsFit s sent
fits_so s sent is = let parts = and_parts (is_some (object_at s sent.0)) (replies_fit s sent.1) is in record { comes = parts.0; replies = parts.1 }
