-- The limits of the formats, and frames of both.
use Rattle.std.proofs.Common.{ℕ, eqb, inl, inr}
use Rattle.std.proofs.lemmas.Bool.{cases_Bool}
use Rattle.std.proofs.lemmas.List.Elements.{All-weaker}
use Rattle.storage_map.specs.Limits.{Format, format_two}
use Rattle.storage_map.specs.Ops.{IsBatchIn}
use Rattle.storage_map.proofs.Larger.{AllowsNoMore, larger_batch, first_allows_no_more, second_allows_no_more}
use Rattle.batch_codec.specs.Formats.{limits_of}
use Rattle.batch_codec.specs.Frames.{Frame, IsFrame, IsFrameIn}

-- no format allows more than the one in which journals are written
pub allows_no_more : (format : ℕ) → AllowsNoMore (limits_of format) format_two
allows_no_more format = elim (cases_Bool (eqb format 1)) [
  | inl first ↦ rw first first_allows_no_more
  | inr other ↦ rw other second_allows_no_more
]

-- a frame of a format is one of a format that allows more
pub larger_frame : (small large : Format) → AllowsNoMore small large → (frame : Frame) → IsFrameIn small frame → IsFrameIn large frame
larger_frame small large less frame is = record {
  object = is.object;
  some = is.some;
  each = All-weaker (IsBatchIn small) (IsBatchIn large) (larger_batch small large less) frame.batches is.each;
  fits = is.fits;
}

-- so a frame of either format is one of the grammar
pub of_grammar : (format : ℕ) (frame : Frame) → IsFrameIn (limits_of format) frame → IsFrame frame
of_grammar format = larger_frame (limits_of format) format_two (allows_no_more format)
