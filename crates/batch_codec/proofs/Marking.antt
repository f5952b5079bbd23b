-- What tells a marker from a frame.
use Rattle.std.proofs.Common.{◌≡◌, ℕ, ◌≤◌, ◌<◌, ◌^◌, List, [], ◌∷◌, length, take, sym, ◌∙◌, ap, arith}
use Rattle.std.specs.Int.{w32, to_be_bytes, from_be_bytes}
use Rattle.std.proofs.lemmas.Nat.{from_be_bytes-to_be_bytes_4}
use Rattle.storage_map.proofs.Sizes.{length-object_bytes}
use Rattle.batch_codec.specs.Frames.{Frame, payload}
use Rattle.batch_codec.specs.Laws.{MarkerIsNoFrame}
use Rattle.batch_codec.proofs.Sizes.{length-payload}

-- a payload has the lengths of the class and of the name, and the number of batches
pub payload_long : (frame : Frame) → 12 ≤ length (payload frame)
payload_long frame = omega (arith, length-payload frame, length-object_bytes frame.object)

-- no class is so long as the marker says
pub marker_differs : MarkerIsNoFrame
marker_differs format frame is e =
    let n : ℕ = length frame.object.0 in
    let short = is.object.class_short in
    let small : n < 2 ^ 32 = omega (arith, short) in
    let first : to_be_bytes w32 n ≡ 255 ∷ 255 ∷ 255 ∷ 255 ∷ [] = ap (λ (bs : List ℕ). take 4 bs) e in
    let long : n ≡ 4294967295 = sym (from_be_bytes-to_be_bytes_4 n small) ∙ ap (λ (bs : List ℕ). from_be_bytes w32 bs) first in
    omega (arith, short, long)
