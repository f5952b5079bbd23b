-- The file of one put, for the examples.
use Rattle.std.specs.Prelude.{◌≡◌, pos, ℕ, List, [], ◌∷◌, ◌++◌, length, take, codes}
use Rattle.do_value.specs.declared.value.Value.TheVariants.{Num}
use Rattle.storage_map.specs.declared.op.Op.{Op}
use Rattle.storage_map.specs.declared.op.Op.TheVariants.{Put}
use Rattle.batch_codec.specs.Frames as codec
use Rattle.batch_journal.specs.Frames.{Version, One, Two, Frame, holds, marker, file_bytes, open_gate, operations_in}
use Rattle.batch_journal.specs.Places.{HasPart}
use Rattle.batch_journal.specs.Recovery.{IsJournal, Recovers}
use Rattle.batch_journal.specs.Refused.{IsDamaged}

-- the number 5 at the key k, in the storage of an object of the class C with the name a
abbrev pub put_five : Op
put_five = Put (codes "k") (Num (pos 5))

abbrev pub one_put : Frame
one_put = holds (codec.frame_of (codes "C", codes "a") ((put_five ∷ []) ∷ []))

-- a file of a version with these frames, and nothing behind the closed gate
abbrev pub file_of : Version → List Frame → List ℕ
file_of version frames = file_bytes version frames ++ 0 ∷ []

-- The 86 bytes of one put in a file of version 1 recover to it and the marker. Once they are mounted they are 131 bytes: the marker's open
-- gate stands at 85, its length at 86, what it says at 90, and the closed gate at 130. The put is what it was.
pub record GetsMarker : Type 0 where
  pub before : length (file_of One (one_put ∷ [])) ≡ 86
  pub recovers : Recovers (file_of One (one_put ∷ [])) (one_put ∷ marker ∷ [])
  pub mounted : IsJournal (file_of One (one_put ∷ marker ∷ [])) (one_put ∷ marker ∷ [])
  pub after : length (file_of One (one_put ∷ marker ∷ [])) ≡ 131
  pub gate : HasPart (file_of One (one_put ∷ marker ∷ [])) 85 (open_gate ∷ 0 ∷ 0 ∷ 0 ∷ 8 ∷ codec.marker_payload)
  pub closed : HasPart (file_of One (one_put ∷ marker ∷ [])) 130 (0 ∷ [])
  pub same : operations_in (one_put ∷ marker ∷ []) ≡ put_five ∷ []

-- A file of version 2 gets no marker.
abbrev pub GetsNone : Type 0
GetsNone = IsJournal (file_of Two (one_put ∷ [])) (one_put ∷ [])

-- Without its last byte the file with the marker is damaged where the marker's gate stands.
abbrev pub IsDamagedWithoutGate : Type 0
IsDamagedWithoutGate = IsDamaged (take 130 (file_of One (one_put ∷ marker ∷ []))) 85
