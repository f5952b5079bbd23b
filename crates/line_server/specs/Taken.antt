-- What is taken of a reader's bytes for one line.
use Rattle.std.specs.Prelude.{◌≡◌, ◌⊎◌, ◌+◌, ℕ, List, [], ◌∷◌, ◌++◌, Bool, true, false, Option, Result, Ok, Err}
use Rattle.line_server.specs.Cut.{lines, ended}
use Rattle.line_server.specs.Given.{Gives, IsAtEnd}
use Rattle.line_server.specs.Raw.{IsRaw}
use Rattle.line_server.specs.declared.bytes.Bytes.{Bytes}
use Rattle.line_server.specs.declared.fault.LineFault.{LineFault}
use Rattle.line_server.specs.declared.fault.LineFault.TheVariants.{ReadFailed}
use Rattle.line_server.specs.declared.raw_line.RawLine.{RawLine}

-- these bytes are the line with what ends it, whatever follows
pub record IsLine (bytes line : List ℕ) : Type 0 where
  pub first : (more : List ℕ) → lines (bytes ++ more) ≡ line ∷ lines more
  pub one_ended : (more : List ℕ) → ended (bytes ++ more) ≡ 1 + ended more

module _ {S : Type 0} (left : S → Option (List ℕ)) where
  -- The reader gave the next line: with what ends it, or as the last one of the input.
  pub record TakesLine (old new : Bytes S) (line : List ℕ) : Type 0 where
    pub bytes : List ℕ
    pub gives : Gives left old new bytes
    pub first : IsLine bytes line ⊎ ((lines bytes ≡ line ∷ []) × IsAtEnd left new)
    pub at_end : new.ended ≡ true → IsAtEnd left new

  -- A fault comes in the middle of a line, of which these bytes were given. Where the source failed nothing else of what it
  -- gave is left, and these end no line.
  pub record StopsAmid (old new : Bytes S) (fault : LineFault) : Type 0 where
    pub bytes : List ℕ
    pub gives : Gives left old new bytes
    pub none_held : fault ≡ ReadFailed → new.buffer ≡ []
    pub none_ended : fault ≡ ReadFailed → ended bytes ≡ 0
    pub going : new.ended ≡ false

  -- A call reads a line, or nothing at the input's end. With a fault it has read some bytes.
  abbrev pub ReadsLine : Bytes S → Bytes S → RawLine → Result Bool LineFault → Type 0
  ReadsLine old new raw (Ok true) = (line : List ℕ) × IsRaw line raw × TakesLine old new line
  ReadsLine old new raw (Ok false) = Gives left old new [] × IsAtEnd left new × (new.ended ≡ true)
  ReadsLine old new raw (Err fault) = StopsAmid old new fault
