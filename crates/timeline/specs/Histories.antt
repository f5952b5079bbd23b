-- Logs of objects whose disk failed or whose journal was full, for the examples; and what the examples ask of a front, a state
-- and a switch.
use Prim.Native.String.{String}
use Rattle.std.specs.Prelude.{ℕ, pos, Bool, true, false, not, List, [], ◌∷◌, codes, Some, None, Result, Ok, Err}
use Rattle.do_value.specs.declared.value.Value.{Value}
use Rattle.do_value.specs.declared.value.Value.TheVariants as value
use Rattle.do_tree.specs.Tree.{Method, Script}
use Rattle.script_mean.specs.Builders.{script_of}
use Rattle.script_mean.specs.Examples.{puts, own_write, two}
use Rattle.storage_map.specs.declared.ask.StoreAsk.TheVariants.{Get}
use Rattle.timeline.specs.Eligible.{is_eligible}
use Rattle.timeline.specs.Examples.{request, calls, goes, number, lives, runs_to}
use Rattle.timeline.specs.History.{History, history}
use Rattle.timeline.specs.Intake.{Taken, opened, sent_by}
use Rattle.timeline.specs.Left.{left}
use Rattle.timeline.specs.Lines as line_in
use Rattle.timeline.specs.Logs.{Fronted, Backed}
use Rattle.timeline.specs.Object.{Life, OpenTask, serves, State, idle}
use Rattle.timeline.specs.Passed.{Passed}
use Rattle.timeline.specs.Switch as switch
use Rattle.timeline.specs.Switch.{Switch, routes}
use Rattle.timeline.specs.declared.back_log.End.{End}
use Rattle.timeline.specs.declared.back_log.Missed.{Missed}
use Rattle.timeline.specs.declared.back_log.Stop.{Stop}
use Rattle.timeline.specs.declared.caller.Caller.{Caller}
use Rattle.timeline.specs.declared.caller.Cause.{Cause}
use Rattle.timeline.specs.declared.caller.Cause.TheVariants as cause
use Rattle.timeline.specs.declared.caller.Failure.{Failure}
use Rattle.timeline.specs.declared.caller.Failure.TheVariants as failure
use Rattle.timeline.specs.declared.entry.Body.{Body}
use Rattle.timeline.specs.declared.entry.Body.TheVariants as body
use Rattle.timeline.specs.declared.entry.Entry.{Entry}
use Rattle.timeline.specs.declared.event.Event.{Event}
use Rattle.timeline.specs.declared.message.Message.{Message}
use Rattle.timeline.specs.declared.message.Message.TheVariants as message
use Rattle.timeline.specs.declared.notice.Waits.{Waits}

abbrev pub entry : ℕ → ℕ → Body → Entry
entry incarnation number b = record { incarnation = incarnation; number = number; body = b }

abbrev pub reply : ℕ → Result Value Failure → Message
reply n result = message.Reply (request n) result

abbrev pub sends : ℕ → Result Value Failure → Body
sends n result = body.Message (reply n result)

abbrev pub fronts : List (ℕ × Event) → List Entry → List Cause → Fronted
fronts events entries causes = record { delivered = events; downed = []; dropped = []; sent = entries; ends = causes }

abbrev pub backs : List Entry → List ℕ → List Stop → List End → List Missed → Backed
backs entries flights stops ends missed = record { taken = entries; flights = flights; stops = stops; released = []; ends = ends; downs = missed }

abbrev pub stops : Cause → ℕ → ℕ → Stop
stops c flights batches = record { cause = c; flights = flights; batches = batches; read = false }

-- The same at a read of a value.
abbrev pub stops_at_read : Cause → ℕ → ℕ → Stop
stops_at_read c flights batches = record { cause = c; flights = flights; batches = batches; read = true }

abbrev pub keeps : ℕ → Cause → End
keeps kept c = record { kept = kept; cause = c }

-- A mounting that failed to begin the second incarnation, with the disk's counts.
abbrev pub misses : ℕ → ℕ → Missed
misses before after = record { incarnation = 2; before = before; after = after }

abbrev pub leaves : Message → ℕ → ℕ → Passed
leaves sent needs since = record { message = sent; needs = needs; since = since }

abbrev pub failed_disk : Cause
failed_disk = cause.Disk 0 1

-- `two` is served, and then the object is called no more.
abbrev pub acknowledged : History
acknowledged = let entries = entry 1 1 (body.Batch (puts "x" 1 ∷ puts "y" 2 ∷ []) None true) ∷ entry 1 2 (sends 1 (Ok (number 3))) ∷ [] in
    history (fronts ((1, calls 1 0 []) ∷ []) entries []) (backs entries (1 ∷ []) [] [] [])

-- The flight of `two` fails, the object can't be mounted again, and a second call finds it down.
abbrev pub downed_entries : List Entry
downed_entries = entry 1 1 (body.Batch (puts "x" 1 ∷ puts "y" 2 ∷ []) None true) ∷ entry 1 2 (sends 1 (Ok (number 3)))
    ∷ entry 2 1 body.Mend ∷ entry 2 2 (sends 2 (Err (failure.Down 2 3))) ∷ []

abbrev pub downed_front : Fronted
downed_front = record (fronts ((1, calls 1 0 []) ∷ []) downed_entries (failed_disk ∷ [])) { downed = (2, calls 2 0 []) ∷ [] }

abbrev pub downed_back : Backed
downed_back = backs downed_entries [] (stops failed_disk 0 1 ∷ []) [] (misses 1 2 ∷ misses 2 3 ∷ [])

abbrev pub downed : History
downed = history downed_front downed_back

abbrev pub the_two : Script
the_two = script_of (two ∷ [])

-- `go` writes in a block and throws out of it: the incarnation ends, its call is reset, and the write is kept.
abbrev pub the_goes : Script
the_goes = script_of (goes ∷ [])

abbrev pub thrown_entries : List Entry
thrown_entries = entry 1 1 (body.Batch (puts "k" 1 ∷ []) None true) ∷ entry 1 2 (body.Halt cause.BlockThrew)
    ∷ entry 2 1 (sends 1 (Err (failure.Reset cause.BlockThrew))) ∷ []

abbrev pub thrown_front : Fronted
thrown_front = fronts ((1, calls 1 0 []) ∷ []) thrown_entries (cause.BlockThrew ∷ [])

abbrev pub thrown_back : Backed
thrown_back = backs thrown_entries (1 ∷ []) (stops cause.BlockThrew 1 1 ∷ []) (keeps 1 cause.BlockThrew ∷ []) []

-- `add` twice. The first flight fails, and so many of its batches are found.
abbrev pub added_again : ℕ → ℕ → History
added_again kept n = let entries = entry 1 1 (body.Ask (Get (codes "n")) false) ∷ entry 1 2 (body.Batch (puts "n" 1 ∷ []) None true)
    ∷ entry 1 3 (sends 1 (Ok (number 1)))
    ∷ entry 2 1 (body.Ask (Get (codes "n")) false) ∷ entry 2 2 (body.Batch (puts "n" n ∷ []) None true) ∷ entry 2 3 (sends 2 (Ok (number n))) ∷ [] in
    history (fronts ((1, calls 1 0 []) ∷ (2, calls 2 0 []) ∷ []) entries (failed_disk ∷ []))
    (backs entries (1 ∷ []) (stops failed_disk 0 1 ∷ []) (keeps kept failed_disk ∷ []) [])

-- A long `set` would pass the journal's limit; then a key is read.
abbrev pub filled : History
filled = let entries = entry 1 1 (body.Batch (puts "k" 5 ∷ []) None true) ∷ entry 1 2 (sends 1 (Ok (number 5))) ∷ entry 2 1 (sends 2 (Ok value.Undefined))
    ∷ [] in
    history (fronts ((1, calls 1 0 []) ∷ (2, calls 2 1 []) ∷ []) entries (cause.Full 5082 4096 ∷ []))
    (backs entries [] (stops (cause.Full 5082 4096) 0 1 ∷ []) (keeps 0 (cause.Full 5082 4096) ∷ []) [])

-- `quick` is served, whose batch is unconfirmed; and `both`, whose batch is confirmed.
abbrev pub early : History
early = let entries = entry 1 1 (body.Batch (puts "n" 5 ∷ []) (Some 1) false) ∷ entry 1 2 (sends 1 (Ok (number 5))) ∷ [] in
    history (fronts ((1, calls 1 1 (number 5 ∷ [])) ∷ []) entries []) (backs entries [] [] [] [])

abbrev pub sure : History
sure = let entries = entry 1 1 (body.Batch (puts "n" 5 ∷ puts "m" 5 ∷ []) None true) ∷ entry 1 2 (sends 1 (Ok (number 5))) ∷ [] in
    history (fronts ((1, calls 1 2 (number 5 ∷ [])) ∷ []) entries []) (backs entries [] [] [] [])

-- Three batches, of which the second alone is confirmed, with a reply behind each; so many flights of one batch have succeeded.
abbrev pub middle_entries : List Entry
middle_entries = entry 1 1 (body.Batch (puts "a" 1 ∷ []) None false) ∷ entry 1 2 (sends 1 (Ok (number 1)))
    ∷ entry 1 3 (body.Batch (puts "b" 2 ∷ []) None true) ∷ entry 1 4 (sends 2 (Ok (number 2)))
    ∷ entry 1 5 (body.Batch (puts "c" 3 ∷ []) None false) ∷ entry 1 6 (sends 3 (Ok (number 3))) ∷ []

abbrev pub middle : History
middle = history (fronts ((1, calls 1 0 []) ∷ (1, calls 2 0 []) ∷ (1, calls 3 0 []) ∷ []) middle_entries []) (backs middle_entries [] [] [] [])

-- The same where the flight of the first succeeded and that of the other two failed, and nothing of it was found.
abbrev pub middle_failed : History
middle_failed = history (fronts ((1, calls 1 0 []) ∷ (1, calls 2 0 []) ∷ (1, calls 3 0 []) ∷ []) middle_entries [])
    (backs middle_entries (1 ∷ []) (stops failed_disk 1 3 ∷ []) (keeps 1 failed_disk ∷ []) [])

-- A reply stands behind a batch; the read of an open ask fails, and the batches before it are flushed. Behind the ask stand a fetch, a
-- reply, an unconfirmed batch with a reply behind it, and a confirmed one with a reply and a fetch behind it.
abbrev pub read_fails : History
read_fails = let entries = entry 1 1 (body.Batch (puts "a" 1 ∷ []) None true) ∷ entry 1 2 (sends 1 (Ok (number 1)))
    ∷ entry 1 3 (body.Ask (Get (codes "n")) true) ∷ entry 1 4 (body.Message (message.Fetch 1 1 (value.Text (codes "x"))))
    ∷ entry 1 5 (sends 2 (Ok (number 2))) ∷ entry 1 6 (body.Batch (puts "b" 3 ∷ []) None false) ∷ entry 1 7 (sends 3 (Ok (number 3)))
    ∷ entry 1 8 (body.Batch (puts "c" 4 ∷ []) None true) ∷ entry 1 9 (sends 4 (Ok (number 4)))
    ∷ entry 1 10 (body.Message (message.Fetch 1 2 (value.Text (codes "y")))) ∷ [] in
    history (fronts ((1, calls 1 0 []) ∷ (1, calls 2 0 []) ∷ (1, calls 3 0 []) ∷ (1, calls 4 0 []) ∷ (1, calls 5 0 []) ∷ []) entries (failed_disk ∷ []))
    (backs entries (1 ∷ []) (stops_at_read failed_disk 1 1 ∷ []) (keeps 1 failed_disk ∷ []) [])

-- An object that is idle defers the event; and what it then leaves.
abbrev pub defers : State → Event → Bool
defers (idle o) e = not (is_eligible o e)
defers state e = true

abbrev pub left_in : Life → List Event → List Body → List Event → State → List (Caller × Waits)
left_in l events said deferred (idle o) = left l o events said deferred
left_in l events said deferred state = []

abbrev pub left_of : List Method → List Event → List Event → List (Caller × Waits)
left_of methods events deferred = let r = runs_to methods [] events in left_in (lives 1 methods) events r.says deferred r.state

-- The entries of a front of these methods.
abbrev pub sent_for : List Method → List Taken → List Entry
sent_for methods taken = sent_by (record { script = script_of methods; class = 0 }) (opened None) taken

-- A task that serves this request.
abbrev pub task_for : ℕ → OpenTask
task_for n = record {
  purpose = serves (request n);
  method = 0;
  args = [];
  depth = 0;
  first = record { fields = []; now = pos 0 };
  resumes = [];
  made = 0;
  number = 0;
  block = false;
}

-- A switch of two free slots, and calls by lines.
abbrev pub two_slots : Switch
two_slots = switch.opened (None ∷ None ∷ [])

abbrev pub line_calls : ℕ → String → String → String → line_in.Line
line_calls n class name method = record { number = n; body = Ok (line_in.calls (pos n) (codes class, codes name) (codes method) []) }

abbrev pub line_fails : ℕ → ℕ → line_in.Line
line_fails n k = record { number = n; body = Ok (line_in.fetch_failed k) }

abbrev pub line_ticks : ℕ → ℕ → line_in.Line
line_ticks n moment = record { number = n; body = Ok (line_in.ticks (pos moment)) }

-- A script of one class, and a switch whose slot 0 has an object of it, at moment 5; and the same where that object has fetched.
abbrev pub script_c : Script
script_c = script_of (own_write ∷ [])

abbrev pub with_a : Switch
with_a = record { objects = Some (codes "C", codes "a") ∷ None ∷ []; fetches = 0; unanswered = []; tick = pos 5 }

abbrev pub fetching : Switch
fetching = (routes script_c with_a (0, message.Fetch 1 1 (value.Text (codes "x")))).after
