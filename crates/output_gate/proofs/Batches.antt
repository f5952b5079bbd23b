-- How many bytes a batch has, and that it fits the frame that is staged.
use Rattle.std.proofs.Common.{◌≡◌, ◌∙◌, ap, ℕ, ◌+◌, ◌<◌, ◌≤◌, ◌^◌, List, [], ◌∷◌, ◌++◌, append-nil, length, length-append, get_or, take, drop, arith}
use Rattle.std.proofs.lemmas.Grind.{flat_map-append}
use Rattle.std.proofs.lemmas.List.{take_more, take-append-drop}
use Rattle.std.proofs.Math.Seq.{take-length}
use Rattle.std.specs.List.{flat_map}
use Rattle.batch_codec.proofs.Sizes.{length-payload}
use Rattle.batch_codec.specs.Frames as codec
use Rattle.batch_journal.specs.Frames.{payload}
use Rattle.batch_journal.specs.Staged.{frame_of}
use Rattle.storage_map.proofs.Sizes.{length-batch_bytes, length-object_bytes}
use Rattle.storage_map.specs.Limits.{Object, IsObject}
use Rattle.storage_map.specs.Ops.{op_bytes, batch_bytes, IsBatch}
use Rattle.storage_map.specs.declared.op.Op.{Op}

abbrev bytes : List Op → ℕ
bytes ops = length (flat_map op_bytes ops)

-- one operation more
pub bytes_more : (ops : List Op) (k : ℕ) (x : Op) → k < length ops → bytes (take (k + 1) ops) ≡ bytes (take k ops) + length (op_bytes (get_or ops k x))
bytes_more ops k x less =
    ap bytes (take_more ops k x less) ∙ ap length (flat_map-append op_bytes (take k ops) (get_or ops k x ∷ []))
    ∙ length-append (flat_map op_bytes (take k ops)) (op_bytes (get_or ops k x) ++ []) ∙ ap (λ (bs : List ℕ). bytes (take k ops) + length bs) (append-nil (op_bytes (get_or ops k x)))

pub bytes_within : (ops : List Op) (k : ℕ) → bytes (take k ops) ≤ bytes ops
bytes_within ops k =
    omega (arith, ap bytes (take-append-drop k ops), ap length (flat_map-append op_bytes (take k ops) (drop k ops)), length-append (flat_map op_bytes (take k ops)) (flat_map op_bytes (drop k ops)))

-- the sum so far fits a word
pub size_fits : (ops : List Op) (size k n : ℕ) (x : Op) → IsBatch ops → k < length ops → size ≡ 4 + bytes (take k ops) → n ≡ length (op_bytes (get_or ops k x)) → size + n ≤ 4194304
size_fits ops size k n x batch less is one = omega (arith, is, one, bytes_more ops k x less, bytes_within ops (k + 1), length-batch_bytes ops, batch.fits)

pub size_all : (ops : List Op) (size k : ℕ) → k ≡ length ops → size ≡ 4 + bytes (take k ops) → size ≡ length (batch_bytes ops)
size_all ops size k all is = omega (arith, is, ap (λ (n : ℕ). bytes (take n ops)) all, ap bytes (take-length ops), length-batch_bytes ops)

-- a batch fits the frame while less is staged than the most that may be unflushed
pub fits_frame : (object : Object) (batches : List (List Op)) (ops : List Op) → IsObject object → IsBatch ops → length (flat_map batch_bytes batches) < 1048576
    → length (payload (frame_of object (batches ++ ops ∷ []))) < 2 ^ 32
fits_frame object batches ops is_object batch few =
    omega (
      arith,
      length-payload (codec.frame_of object (batches ++ ops ∷ [])),
      length-object_bytes object,
      ap length (flat_map-append batch_bytes batches (ops ∷ [])),
      length-append (flat_map batch_bytes batches) (batch_bytes ops ++ []),
      ap length (append-nil (batch_bytes ops)),
      is_object.class_short,
      is_object.name_short,
      batch.fits,
      few,
    )
