-- What a reader of bytes gave of its source.
use Rattle.std.specs.Prelude.{◌≡◌, ◌<◌, ◌≤◌, ◌+◌, ℕ, List, [], ◌∷◌, ◌++◌, true, false, length, Option, Result, OnOk, IsErrOf}
use Rattle.do_disk.specs.Disk.{IfTold, Rose}
use Rattle.line_server.specs.Cut.{line_end}
use Rattle.line_server.specs.Ends.{has_no_end}
use Rattle.line_server.specs.Raw.{IsRaw}
use Rattle.line_server.specs.Reader.{Moved}
use Rattle.line_server.specs.declared.bytes.Bytes.{Bytes}
use Rattle.line_server.specs.declared.bytes.Given.{Given}
use Rattle.line_server.specs.declared.bytes.Given.TheVariants as given
use Rattle.line_server.specs.declared.fault.LineFault.{LineFault}
use Rattle.line_server.specs.declared.fault.LineFault.TheVariants.{ReadFailed}
use Rattle.line_server.specs.declared.raw_line.RawLine.{RawLine}

-- These bytes, of which none is an LF, went to a line.
pub record GoesTo (old new : RawLine) (bytes : List ℕ) : Type 0 where
  pub no_end : has_no_end bytes ≡ true
  pub length_is : new.length ≡ old.length + length bytes
  pub more : (line : List ℕ) → IsRaw line old → IsRaw (line ++ bytes) new

module _ {S : Type 0} (left : S → Option (List ℕ)) where
  -- the reader gave these bytes, where its source tells what it has left
  abbrev pub Gives : Bytes S → Bytes S → List ℕ → Type 0
  Gives old new given = IfTold (left old.source) (λ before. Moved before (left new.source) old.buffer given new.buffer)

  -- the reader holds nothing, and its source has nothing left, where it tells that
  abbrev pub IsAtEnd : Bytes S → Type 0
  IsAtEnd bytes = (bytes.buffer ≡ []) × IfTold (left bytes.source) (λ rest. rest ≡ [])

  -- The reader gave a line at most so many bytes: all up to an LF, which was taken too; or some, which no LF ends yet; or
  -- nothing, where it met the end of the input.
  abbrev pub AddsTo : Bytes S → Bytes S → RawLine → RawLine → ℕ → Given → Type 0
  AddsTo old new raw more most given.Rest =
      (bytes : List ℕ) × GoesTo raw more bytes × (length bytes < most) × Gives old new (bytes ++ line_end ∷ []) × (new.ended ≡ false)
  AddsTo old new raw more most given.Part =
      (bytes : List ℕ) × GoesTo raw more bytes × (0 < length bytes) × (length bytes ≤ most) × Gives old new bytes × (new.ended ≡ false)
  AddsTo old new raw more most given.Nothing = (more ≡ raw) × Gives old new [] × IsAtEnd new × (new.ended ≡ true)

-- The source's count of faults never falls, a good answer leaves it, and `ReadFailed` comes only where it rose.
pub record CountsReads {T : Type 0} (before now : ℕ) (result : Result T LineFault) : Type 0 where
  pub later : before ≤ now
  pub steady : OnOk result (now ≡ before)
  pub rose : IsErrOf result ReadFailed → Rose before now
