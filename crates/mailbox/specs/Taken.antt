-- What is taken from the lanes on which objects let their messages go.
use Rattle.std.specs.Prelude.{◌≡◌, ◌<◌, ◌≤◌, ℕ, List, [], ◌∷◌, ◌++◌, length, map, set, get_or}
use Rattle.lane.specs.Lanes.{LaneId, StartsWith}
use Rattle.timeline.specs.declared.message.Message.{Message}
use Rattle.mailbox.specs.Posting.{at_slot}

-- All that these lanes know of was taken.
abbrev pub AreEmpty : {S : Type 0} → (got told : S → List Message) → (from to : ℕ) → List S → Type 0
AreEmpty got told from to outs = (slot : ℕ) → from ≤ slot → slot < to → StartsWith (at_slot got outs slot) (at_slot told outs slot)

-- What was taken from each lane, with this message from the lane of this slot.
abbrev pub got_more : ℕ → Message → List (List Message) → List (List Message)
got_more slot message lanes = set lanes slot (get_or lanes slot [] ++ message ∷ [])

-- One message was taken from the lane of its slot, which is there, and this is done to it.
pub record IsTakenOf {S : Type 0} (got : S → List Message) (old new : List S) (Does : ℕ × Message → Type 0) : Type 0 where
  pub sent : ℕ × Message
  pub there : sent.0 < length old
  pub taken : map got new ≡ got_more sent.0 sent.1 (map got old)
  pub does : Does sent

-- The ends are those of the same lanes.
pub record SameInlets {S : Type 0} (inlet : S → LaneId) (told : S → List Message) (old new : List S) : Type 0 where
  pub lanes : map inlet new ≡ map inlet old
  pub known : map told new ≡ map told old

-- This message was taken from the lane of this slot, which is there, and handed back.
pub record HandsBack {S : Type 0} (got : S → List Message) (old new : List S) (slot : ℕ) (message : Message) : Type 0 where
  pub there : slot < length old
  pub taken : map got new ≡ got_more slot message (map got old)
