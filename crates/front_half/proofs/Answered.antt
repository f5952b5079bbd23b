-- Whom entries answer, and who called in events.
use Rattle.std.proofs.Common.{ℕ, List, map}
use Rattle.std.specs.List.{flat_map}
use Rattle.timeline.specs.Replies.{answered_by, caller_of}
use Rattle.timeline.specs.declared.caller.Caller.{Caller}
use Rattle.timeline.specs.declared.entry.Entry.{Entry}
use Rattle.timeline.specs.declared.event.Event.{Event}

abbrev pub answered_in : List Entry → List Caller
answered_in entries = flat_map answered_by (map (λ entry. entry.body) entries)

abbrev pub callers_in : List (ℕ × Event) → List Caller
callers_in events = flat_map caller_of (map (λ event. event.1) events)
