-- What contracts see of a reader of lines.
use Rattle.std.specs.Prelude.{◌≡◌, ◌≤◌, ◌⊎◌, ℕ, List, [], ◌∷◌, ◌++◌, Bool, true, false, Option, Some, None, Result, Ok, Err, OnOk, min, length}
use Rattle.do_disk.specs.Disk.{IfTold}
use Rattle.line_server.specs.Requests.{SeenLine, requests, through}
use Rattle.line_server.specs.Cut.{lines as lines_of}
use Rattle.line_server.specs.Given.{IsAtEnd}
use Rattle.line_server.specs.Going.{HasGiven, HasLookedAt, HasReadAll, GoesOn}
use Rattle.line_server.specs.Seen.{seen}
use Rattle.line_server.specs.declared.fault.LineFault.{LineFault}
use Rattle.line_server.specs.declared.fault.LineFault.TheVariants.{ReadFailed, NoMemory}
use Rattle.line_server.specs.declared.line.Line.{Line}
use Rattle.line_server.specs.declared.lines.Lines.{Lines}
use Rattle.line_server.specs.Limits.{most_lines}

-- the line of an answer
abbrev pub lines_in : Result (Option Line) LineFault → List SeenLine
lines_in (Ok (Some line)) = seen line ∷ []
lines_in (Ok None) = []
lines_in (Err fault) = []

-- the fault of an answer
abbrev pub fault_in : {T : Type 0} → Result T LineFault → Option LineFault
fault_in (Ok x) = None
fault_in (Err fault) = Some fault

-- how many lines an answer may leave looked at and not given: one where memory was wanting
abbrev pub most_left : {T : Type 0} → Result T LineFault → ℕ
most_left (Ok x) = 0
most_left (Err ReadFailed) = 0
most_left (Err NoMemory) = 1

module _ {S : Type 0} where
  abbrev pub source_of : Lines S → S
  source_of lines = lines.bytes.source

  -- how many lines were read, blank ones included
  abbrev pub count_of : Lines S → ℕ
  count_of lines = lines.count

  -- the fault at which it stands
  abbrev pub fault_of : Lines S → Option LineFault
  fault_of lines = lines.fault

  -- the bytes that were read and not given yet
  abbrev pub held_of : Lines S → List ℕ
  held_of lines = lines.bytes.buffer

  -- whether a read gave no byte, so that nothing more is read
  abbrev pub has_ended : Lines S → Bool
  has_ended lines = lines.bytes.ended

module _ {S : Type 0} (left : S → Option (List ℕ)) where
  -- It stands at no fault, and it has given these lines of the whole input, which goes on with the lines still to come. Where it
  -- reads no more, nothing is left.
  abbrev pub IsReading : List ℕ → List SeenLine → Lines S → Type 0
  IsReading whole given lines =
      (lines.fault ≡ None) × GoesOn whole given lines.count lines.bytes.buffer (left lines.bytes.source) × (has_ended lines ≡ true → IsAtEnd left lines.bytes)

  -- The lines given are the first ones of the bytes that its source was read of.
  abbrev pub IsFirstOf : List ℕ → List SeenLine → Lines S → Type 0
  IsFirstOf whole given lines = HasGiven whole given (left lines.bytes.source)

  -- The lines given, with at most so many more, are those that it looked at.
  abbrev pub LooksAt : List ℕ → List SeenLine → ℕ → Lines S → Type 0
  LooksAt whole given most lines = HasLookedAt whole given most lines.count (left lines.bytes.source)

  -- The lines given are those of all that its source was read of, but for a line that isn't ended.
  abbrev pub IsAllRead : List ℕ → List SeenLine → Lines S → Type 0
  IsAllRead whole given lines = HasReadAll whole given lines.count (left lines.bytes.source)

  -- What reading on does where it stands at no fault.
  pub record ReadsOn (old new : Lines S) (result : Result (Option Line) LineFault) : Type 0 where
    pub reading : OnOk result ((whole : List ℕ) (given : List SeenLine) → IsReading whole given old → IsReading whole (given ++ lines_in result) new)
    pub first : (whole : List ℕ) (given : List SeenLine) → IsReading whole given old → IsFirstOf whole (given ++ lines_in result) new
    pub looked : (whole : List ℕ) (given : List SeenLine) → IsReading whole given old → LooksAt whole (given ++ lines_in result) (most_left result) new
    pub exact : result ≡ Err ReadFailed → (whole : List ℕ) (given : List SeenLine) → IsReading whole given old → IsAllRead whole given new
    pub all : result ≡ Ok None → (whole : List ℕ) (given : List SeenLine) → IsReading whole given old → given ≡ through most_lines (requests whole)
    pub total : result ≡ Ok None → (whole : List ℕ) (given : List SeenLine) → IsReading whole given old
        → count_of new ≡ min most_lines (length (lines_of whole))
    pub end : result ≡ Ok None → (count_of new ≡ most_lines) ⊎ (has_ended new ≡ true)
    pub met_end : has_ended old ≡ false → has_ended new ≡ true → IfTold (left (source_of new)) (λ rest. rest ≡ [])
    pub count : count_of old ≤ count_of new
