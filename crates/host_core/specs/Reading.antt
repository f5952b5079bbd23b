-- The lines that a run reads and accepts.
use Rattle.std.specs.Prelude.{◌≡◌, ℕ, zero, suc, List, ◌++◌, map, length, min, Option, Some, None, Result, Ok, Err}
use Rattle.lane.specs.Lanes.{Both}
use Rattle.do_value.specs.Seen.{tree_of, trees_in}
use Rattle.line_server.specs.Asked.{Asked, call, tick, fetched, fetch_failed, evict}
use Rattle.line_server.specs.Cut.{lines as all_lines}
use Rattle.line_server.specs.Going.{HasGiven, HasLookedAt, HasReadAll}
use Rattle.line_server.specs.Limits.{most_lines}
use Rattle.line_server.specs.Lines.{IsAllRead, IsFirstOf, IsReading, LooksAt, fault_of}
use Rattle.line_server.specs.Requests.{SeenLine, requests, through}
use Rattle.line_server.specs.declared.fault.LineFault.TheVariants.{ReadFailed}
use Rattle.line_server.specs.declared.line.Line as read
use Rattle.line_server.specs.declared.lines.Lines.{Lines}
use Rattle.line_server.specs.declared.refusal.Refusal.{Refusal}
use Rattle.line_server.specs.declared.refusal.Refusal.TheVariants as refusal
use Rattle.mailbox.specs.Seen.{seen_line}
use Rattle.host_workers.specs.Lines.{most_at}
use Rattle.timeline.specs.Lines as timeline
use Rattle.timeline.specs.Lines.{Line, Request}

-- A line of a switch's log as the reader of lines has it: its values as trees.
abbrev pub asked_in : Request → Asked
asked_in (timeline.calls number to method args) = call number to method (trees_in args)
asked_in (timeline.ticks moment) = tick moment
asked_in (timeline.fetched k value) = fetched k (tree_of value)
asked_in (timeline.fetch_failed k) = fetch_failed k
asked_in (timeline.evicts object) = evict object

abbrev pub refusal_in : ℕ → Refusal
refusal_in zero = refusal.Long
refusal_in (suc zero) = refusal.Json
refusal_in (suc (suc n)) = refusal.Shape

abbrev pub body_in : Result Request ℕ → Result Asked Refusal
body_in (Ok request) = Ok (asked_in request)
body_in (Err why) = Err (refusal_in why)

abbrev pub read_line : Line → SeenLine
read_line l = record { number = l.number; body = body_in l.body }

abbrev pub read_lines : List Line → List SeenLine
read_lines = map read_line

-- The accepted lines are the first ones of the bytes that were read of the whole input, of which these are left. They are the first of those that
-- were looked at, so many, blank ones counted.
pub record Accepts (whole : List ℕ) (left : Option (List ℕ)) (accepted : List Line) (count : ℕ) : Type 0 where
  pub first : HasGiven whole (read_lines accepted) left
  pub most : ℕ
  pub looked_at : HasLookedAt whole (read_lines accepted) most count left

-- Of the whole input the reader gave these lines and no others. It reads on from there; or stands at a fault, where the lines given are all that
-- it looked at, but for one where memory was wanting.
pub record HasRead {S : Type 0} (left : S → Option (List ℕ)) (whole : List ℕ) (given : List SeenLine) (lines : Lines S) : Type 0 where
  pub goes : fault_of lines ≡ None → IsReading left whole given lines
  pub first : IsFirstOf left whole given lines
  pub looked : LooksAt left whole given (most_at (fault_of lines)) lines
  pub exact : fault_of lines ≡ Some ReadFailed → IsAllRead left whole given lines

-- The lines that wait behind those that were accepted, as a switch logs them.
abbrev pub with_rest : List Line → Both read.Line → List Line
with_rest accepted rest = accepted ++ map seen_line rest.waiting

-- They are all lines of the input, or through the last line that counts.
pub record AcceptsAll (whole : List ℕ) (accepted : List Line) (count : ℕ) : Type 0 where
  pub all : read_lines accepted ≡ through most_lines (requests whole)
  pub counted : count ≡ min most_lines (length (all_lines whole))

-- They are all lines that were read before the source failed.
abbrev pub AcceptsAllRead : (whole : List ℕ) → (left : Option (List ℕ)) → (accepted : List Line) → (count : ℕ) → Type 0
AcceptsAllRead whole left accepted count = HasReadAll whole (read_lines accepted) count left
