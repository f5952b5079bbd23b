-- What contracts see of a switch, and what its calls do.
use Rattle.std.specs.Prelude.{◌≡◌, ℕ, List, [], ◌∷◌, ◌++◌, length, Option, Some, None, Result, Ok, Err, OnOk, OnErr}
use Rattle.do_tree.specs.Tree.{Script}
use Rattle.lane.specs.Lanes.{LaneId}
use Rattle.line_server.specs.declared.line.Line.{Line}
use Rattle.line_server.specs.declared.out_line.OutLine.{OutLine}
use Rattle.timeline.specs.Switch as switch
use Rattle.timeline.specs.Switch.{gave, accepts, routes, IsSwitchRun}
use Rattle.timeline.specs.declared.event.Event.{Event}
use Rattle.timeline.specs.declared.message.Message.{Message}
use Rattle.mailbox.specs.declared.fault.SwitchFault.{SwitchFault}
use Rattle.mailbox.specs.declared.fault.SwitchFault.TheVariants.{WriteFailed}
use Rattle.mailbox.specs.declared.given.Given.{Given}
use Rattle.mailbox.specs.declared.switch.Switch.{Switch}
use Rattle.mailbox.specs.Givens.{lines_in}
use Rattle.mailbox.specs.Seen.{seen_line, seen_log}
use Rattle.mailbox.specs.Posting.{GoesOn, Posts, SameOutlets}
use Rattle.mailbox.specs.Written.{Writes, WritesInPart, CountsWrites}

-- The fault of an answer.
abbrev pub fault_in : {T : Type 0} → Result T SwitchFault → Option SwitchFault
fault_in (Ok x) = None
fault_in (Err fault) = Some fault

-- The log with a line or a message more.
abbrev pub with_line : switch.SwitchLog → Line → switch.SwitchLog
with_line log line = record log { accepted = log.accepted ++ seen_line line ∷ [] }

abbrev pub with_message : switch.SwitchLog → ℕ × Message → switch.SwitchLog
with_message log sent = record log { routed = log.routed ++ sent ∷ [] }

-- Of what is given the first posts and lines are logged.
pub record Begins (old new : switch.SwitchLog) (given : switch.Given) : Type 0 where
  pub accepted : new.accepted ≡ old.accepted
  pub routed : new.routed ≡ old.routed
  pub posts : GoesOn old.posts new.posts given.posts
  pub lines : GoesOn old.lines new.lines given.lines

-- What the code has as given, where the switch goes by this.
abbrev pub given_by : switch.Switch → Given → switch.Given
given_by s given = record { posts = given.posts.items; lines = lines_in given.line; after = s }

module _ {W : Type 0} where
  -- What it goes by, what it has logged, its sink, and the fault at which it stands.
  abbrev pub state_of : Switch W → switch.Switch
  state_of s = s.state

  abbrev pub log_of : Switch W → switch.SwitchLog
  log_of s = seen_log s.log

  abbrev pub out_of : Switch W → W
  out_of s = s.out

  abbrev pub fault_of : Switch W → Option SwitchFault
  fault_of s = s.fault

  -- Its posts and lines as the log has them.
  abbrev pub posts_of : Switch W → List (ℕ × Event)
  posts_of s = s.log.posts.items

  abbrev pub lines_of : Switch W → List OutLine
  lines_of s = s.log.lines.items

  -- How many slots there are.
  abbrev pub slots_of : Switch W → ℕ
  slots_of s = length s.state.objects

  -- All that is given is logged, and the switch goes by what is then; after a fault the first of it is logged.
  pub record Gives {T : Type 0} (old new : Switch W) (given : switch.Given) (result : Result T SwitchFault) : Type 0 where
    pub log : OnOk result (log_of new ≡ gave (log_of old) given)
    pub state : OnOk result (state_of new ≡ given.after)
    pub begun : OnErr result (Begins (log_of old) (log_of new) given)

  -- The line was accepted: what it gives was posted and printed, and the switch goes by what is then.
  pub record Accepts (script : Script) (old new : Switch W) (line : Line) : Type 0 where
    pub log : log_of new ≡ gave (with_line (log_of old) line) (accepts script (state_of old) (seen_line line))
    pub state : state_of new ≡ (accepts script (state_of old) (seen_line line)).after

  -- The message was routed.
  pub record Routes (script : Script) (old new : Switch W) (sent : ℕ × Message) : Type 0 where
    pub log : log_of new ≡ gave (with_message (log_of old) sent) (routes script (state_of old) sent)
    pub state : state_of new ≡ (routes script (state_of old) sent).after

  -- The line or the message is logged, with the first of what it gives.
  abbrev pub BeginsLine : Script → Switch W → Switch W → Line → Type 0
  BeginsLine script old new line = Begins (with_line (log_of old) line) (log_of new) (accepts script (state_of old) (seen_line line))

  abbrev pub BeginsMessage : Script → Switch W → Switch W → ℕ × Message → Type 0
  BeginsMessage script old new sent = Begins (with_message (log_of old) sent) (log_of new) (routes script (state_of old) sent)

  -- Nothing is logged, and the switch goes by what it did.
  pub record IsStill (old new : Switch W) : Type 0 where
    pub log : log_of new ≡ log_of old
    pub state : state_of new ≡ state_of old

  -- The log of a run is still one.
  abbrev pub KeepsRun : Script → Switch W → Switch W → Type 0
  KeepsRun script old new = (first : switch.Switch) → IsSwitchRun script first (log_of old) (state_of old)
      → IsSwitchRun script first (log_of new) (state_of new)

-- What a call does beside: it sends what it logs as posts, it writes what it logs as lines, where a write failed the first bytes of
-- it, and then the sink's count rose; the inboxes are of the same lanes, and there are as many slots.
pub record Acts {S W T : Type 0} (sent : S → List Event) (outlet : S → LaneId) (left : S → List Event) (taken : W → Option (List ℕ))
    (faults : W → ℕ) (old new : Switch W) (before after : List S) (result : Result T SwitchFault) : Type 0 where
  pub posted : Posts sent before after (posts_of old) (posts_of new)
  pub ends : SameOutlets outlet left before after
  pub written : (result ≡ Err WriteFailed → ⊥) → Writes (taken (out_of old)) (taken (out_of new)) (lines_of old) (lines_of new)
  pub part : result ≡ Err WriteFailed → WritesInPart (taken (out_of old)) (taken (out_of new)) (lines_of old) (lines_of new)
  pub counted : fault_of old ≡ None → CountsWrites (faults (out_of old)) (faults (out_of new)) result
  pub slots : slots_of new ≡ slots_of old

-- What a call does that posts nothing: it writes what it logs as lines, and goes by what it did.
pub record Prints {W T : Type 0} (taken : W → Option (List ℕ)) (faults : W → ℕ) (old new : Switch W) (result : Result T SwitchFault) : Type 0 where
  pub written : (result ≡ Err WriteFailed → ⊥) → Writes (taken (out_of old)) (taken (out_of new)) (lines_of old) (lines_of new)
  pub part : result ≡ Err WriteFailed → WritesInPart (taken (out_of old)) (taken (out_of new)) (lines_of old) (lines_of new)
  pub counted : fault_of old ≡ None → CountsWrites (faults (out_of old)) (faults (out_of new)) result
  pub state : state_of new ≡ state_of old
