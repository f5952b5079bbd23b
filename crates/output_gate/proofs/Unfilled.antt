-- A small write fills no journal.
use Rattle.std.proofs.Common.{◌≡◌, ◌≤◌, ap, refl, ◌+◌, List, [], ◌∷◌, append-nil, length, arith}
use Rattle.std.specs.List.{flat_map}
use Rattle.batch_codec.proofs.Sizes.{length-payload}
use Rattle.batch_codec.specs.Frames as codec
use Rattle.batch_journal.specs.Frames.{Frame, frame_room, payload}
use Rattle.batch_journal.specs.Staged.{frame_of}
use Rattle.storage_map.proofs.Sizes.{length-batch_bytes, length-object_bytes}
use Rattle.storage_map.specs.Ops.{batch_bytes}
use Rattle.storage_map.specs.declared.op.Op.{Op}
use Rattle.storage_map.specs.declared.op.Op.TheVariants.{DeleteAll}
use Rattle.timeline.specs.History.{Incarnation, incarnation_at}
use Rattle.output_gate.specs.Examples.{IsFilledByNone, early, full_early, some_object}
use Rattle.output_gate.specs.Written.{IsFull, needed_by}
use Rattle.output_gate.proofs.Frames.{end_push}

abbrev batches : List (List Op)
batches = (DeleteAll ∷ []) ∷ []

abbrev frame : Frame
frame = frame_of some_object batches

-- the bytes of the batch
small : length (flat_map batch_bytes ((DeleteAll ∷ []) ∷ [])) ≡ 5
small = omega (arith, ap length (append-nil (batch_bytes (DeleteAll ∷ []))), length-batch_bytes (DeleteAll ∷ []))

pub fills_nothing : IsFilledByNone full_early
fills_nothing front end little filled =
    let i : Incarnation = incarnation_at front full_early 0 in
    let full : IsFull 4096 end some_object i [] 4097 4096 = filled.3.1 early refl in
    let whole : needed_by end some_object i [] ≡ (end + 0) + (frame_room + length (payload frame)) = end_push end [] frame in
    let fits : length (payload frame) ≤ 1000 = omega (arith, length-payload (codec.frame_of some_object batches), length-object_bytes some_object, small) in
    omega (arith, full.passed, whole, fits, little)
