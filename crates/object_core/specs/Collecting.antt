-- What collecting a message does.
use Rattle.std.specs.Prelude.{◌≡◌, [], ◌∷◌, ◌++◌}
use Rattle.timeline.specs.declared.message.Message.{Message as Sent}
use Rattle.object_core.specs.declared.object.Core.{Core}

-- The first of the messages that wait is gone, and nothing else is changed.
pub record Collects {D : Type 0} (old new : Core D) (message : Sent) : Type 0 where
  pub first : old.out.waiting ≡ message ∷ new.out.waiting
  pub got : new.out.got ≡ old.out.got ++ message ∷ []
  pub same : new ≡ record old { out = new.out }
