-- Where the values of an object stand in its journal's file, and the index of them. This project's profile.
use Rattle.std.specs.Prelude.{◌≡◌, ◌+◌, ◌-◌, ◌^◌, ◌<◌, min, ℕ, List, [], ◌∷◌, ◌++◌, length}
use Rattle.do_value.specs.Tree.{size_of}
use Rattle.do_value.specs.Seen.{tree_of}
use Rattle.do_value.specs.Encoding.{encoding}
use Rattle.do_value.specs.declared.value.Value.{Value}
use Rattle.storage_map.specs.Contents.{Contents, nothing, apply}
use Rattle.storage_map.specs.Indexed.{Indexed, StandsFor, AllStand}
use Rattle.storage_map.specs.Limits.{Object, Format}
use Rattle.storage_map.specs.Ops.{IsStored, op_bytes}
use Rattle.storage_map.specs.declared.place.Place.{Place}
use Rattle.storage_map.specs.declared.op.Op.{Op}
use Rattle.storage_map.specs.declared.op.Op.TheVariants.{Put, Delete, DeleteAll, SetAlarm, ClearAlarm}
use Rattle.batch_codec.specs.Frames as codec
use Rattle.batch_codec.specs.Views.{operations_of}
use Rattle.batch_journal.specs.Frames.{Version, Frame, file_bytes, journal_bytes, operations_in}

-- The part stands in the bytes from this place on.
pub record HasPart (bytes : List ℕ) (at : ℕ) (part : List ℕ) : Type 0 where
  pub front : List ℕ
  pub rest : List ℕ
  pub whole : bytes ≡ front ++ part ++ rest
  pub place : length front ≡ at

-- At the place stands the encoding of this value, which can be stored, and it has as many bytes as the place says.
pub record HasValueAt (bytes : List ℕ) (place : Place) (value : Value) : Type 0 where
  pub stored : IsStored value
  pub size : place.size ≡ size_of (tree_of value)
  pub stands : HasPart bytes place.at (encoding (tree_of value))

-- a place from its two parts
abbrev pub place_of : ℕ → ℕ → Place
place_of at size = record { at = at; size = size }

-- so it is in the file of each version
abbrev pub InEach : (Version → List ℕ) → Place → Value → Type 0
InEach files place value = (version : Version) → HasValueAt (files version) place value

-- so it is in the journal of these frames, whatever its version
abbrev pub IsPlaceIn : List Frame → Place → Value → Type 0
IsPlaceIn frames = InEach (λ version. file_bytes version frames)

-- The index stands for what the frames leave of their object's storage: it has the map's keys and alarm, and at the place of each
-- key stands its value.
abbrev pub Indexes : List Frame → Indexed → Type 0
Indexes frames index = StandsFor (IsPlaceIn frames) index (apply nothing (operations_in frames))

-- Once the frame stands behind the others, in a file whose length fits a disk's, these values stand at these places.
abbrev pub ArePlaced : List Frame → Frame → List Place → List Value → Type 0
ArePlaced frames frame places values = length (journal_bytes (frames ++ frame ∷ [])) < 2 ^ 64 → AllStand (IsPlaceIn (frames ++ frame ∷ [])) places values

-- ---- what the code's own functions say

-- An index over files in which the payload stands from this place on goes by these operations of the payload.
abbrev pub GoesBy : ℕ → List ℕ → Indexed → Indexed → List Op → Type 0
GoesBy start payload old new ops = (files : Version → List ℕ) (m : Contents) → ((version : Version) → HasPart (files version) start payload)
    → StandsFor (InEach files) old m → StandsFor (InEach files) new (apply m ops)

-- The index goes by all operations of a frame of the format that names this object and says the payload.
pub record IndexesFrame (format : Format) (start : ℕ) (said : List ℕ) (object : Object) (old new : Indexed) : Type 0 where
  pub frame : codec.Frame
  pub of_format : codec.IsFrameIn format frame
  pub is : codec.payload frame ≡ said
  pub names : frame.object ≡ object
  pub goes : GoesBy start said old new (operations_of frame)

-- the place of each value that is put, where the bytes of the operations begin at this place
abbrev pub placed : ℕ → List Op → List Place
placed at [] = []
placed at (Put key value ∷ ops) =
    record { at = at + 5 + length key; size = size_of (tree_of value) } ∷ placed (at + length (op_bytes (Put key value))) ops
placed at (Delete key ∷ ops) = placed (at + length (op_bytes (Delete key))) ops
placed at (DeleteAll ∷ ops) = placed (at + 1) ops
placed at (SetAlarm time retry ∷ ops) = placed (at + 10) ops
placed at (ClearAlarm ∷ ops) = placed (at + 1) ops

-- the same, where a place past u64's end is its greatest value
abbrev pub near : ℕ → ℕ
near at = min at (2 ^ 64 - 1)

abbrev pub placed_near : ℕ → List Op → List Place
placed_near at [] = []
placed_near at (Put key value ∷ ops) =
    record { at = near (at + 5 + length key); size = size_of (tree_of value) } ∷ placed_near (at + length (op_bytes (Put key value))) ops
placed_near at (Delete key ∷ ops) = placed_near (at + length (op_bytes (Delete key))) ops
placed_near at (DeleteAll ∷ ops) = placed_near (at + 1) ops
placed_near at (SetAlarm time retry ∷ ops) = placed_near (at + 10) ops
placed_near at (ClearAlarm ∷ ops) = placed_near (at + 1) ops
