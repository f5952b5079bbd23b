-- Requests that are left at the end.
use Rattle.std.specs.Prelude.{ℕ, List, []}
use Rattle.line_server.specs.declared.out_line.OutLine as out
use Rattle.timeline.specs.Finish.{finishes}
use Rattle.timeline.specs.Lines.{OutLine}
use Rattle.timeline.specs.Switch as switch
use Rattle.timeline.specs.declared.caller.Caller.{Caller}
use Rattle.timeline.specs.declared.notice.Waits.{Waits}
use Rattle.mailbox.specs.Seen.{seen_out}

-- The line of a request, with the number of its own line.
abbrev pub seen_left : ℕ × out.OutLine → ℕ × OutLine
seen_left line = (line.0, seen_out line.1)

-- The lines of what is left, and nothing else.
abbrev pub finished_by : switch.Switch → List (ℕ × Caller × Waits) → switch.Given
finished_by s left = record { posts = []; lines = finishes s left; after = s }
