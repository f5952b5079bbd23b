-- Logs that no host may be let through with, for the negative examples.
use Rattle.std.specs.Prelude.{ℕ, true, false, List, [], ◌∷◌, ◌++◌, codes, None, Ok, Err}
use Rattle.do_value.specs.declared.value.Value.TheVariants as value
use Rattle.do_tree.specs.Tree.{Script}
use Rattle.script_mean.specs.Examples.{puts}
use Rattle.storage_map.specs.Contents.{Contents}
use Rattle.storage_map.specs.declared.ask.StoreAsk.TheVariants.{Get}
use Rattle.timeline.specs.Examples.{calls, number, word}
use Rattle.timeline.specs.Headline.{IsHistory, IsQuiet}
use Rattle.timeline.specs.Histories.{backs, entry, failed_disk, fronts, keeps, sends, stops}
use Rattle.timeline.specs.Logs.{Fronted, Backed}
use Rattle.timeline.specs.declared.caller.Cause.TheVariants as cause
use Rattle.timeline.specs.declared.caller.Failure.TheVariants as failure
use Rattle.timeline.specs.declared.entry.Body.TheVariants as body
use Rattle.timeline.specs.declared.entry.Entry.{Entry}
use Rattle.timeline.specs.declared.event.Event.{Event}
use Rattle.timeline.specs.declared.message.Message.{Message}
use Rattle.timeline.specs.declared.message.Message.TheVariants as message

-- No slot of any script shows these, whatever it had at the opening; nor is one quiet that shows them.
abbrev pub IsNoHistory : Fronted → Backed → Type 0
IsNoHistory front back = (script : Script) (class : ℕ) (opened : Contents) → IsHistory script class opened front back → ⊥

abbrev pub IsNeverQuiet : Fronted → Backed → Type 0
IsNeverQuiet front back = (script : Script) (class : ℕ) (opened : Contents) (posted : List Event) (gone : List Message)
    → IsQuiet script class opened front back posted gone → ⊥

-- `two` is served.
abbrev pub two_entries : List Entry
two_entries = entry 1 1 (body.Batch (puts "x" 1 ∷ puts "y" 2 ∷ []) None true) ∷ entry 1 2 (sends 1 (Ok (number 3))) ∷ []

-- Its flight failed and the file was mounted again, but the front was never told: the object is dead for good.
abbrev pub untold_front : Fronted
untold_front = fronts ((1, calls 1 0 []) ∷ []) two_entries []

abbrev pub untold_back : Backed
untold_back = backs two_entries [] (stops failed_disk 0 1 ∷ []) (keeps 0 failed_disk ∷ []) []

-- A call that fetches is reset by a turn that exceeded, which there was not.
abbrev pub broken_entries : List Entry
broken_entries = entry 1 1 (body.Message (message.Fetch 1 1 (word "x"))) ∷ entry 2 1 (sends 1 (Err (failure.Reset cause.Exceeded))) ∷ []

abbrev pub broken_front : Fronted
broken_front = fronts ((1, calls 1 0 []) ∷ []) broken_entries (cause.Exceeded ∷ [])

abbrev pub broken_back : Backed
broken_back = backs broken_entries [] (stops cause.Exceeded 0 0 ∷ []) (keeps 0 cause.Exceeded ∷ []) []

-- `two` is served, and then a halt is taken that its script doesn't make.
abbrev pub halted_entries : List Entry
halted_entries = two_entries ++ entry 1 3 (body.Halt cause.BlockThrew) ∷ []

abbrev pub halted_front : Fronted
halted_front = fronts ((1, calls 1 0 []) ∷ []) halted_entries (cause.BlockThrew ∷ [])

abbrev pub halted_back : Backed
halted_back = backs halted_entries (1 ∷ []) (stops cause.BlockThrew 1 1 ∷ []) (keeps 1 cause.BlockThrew ∷ []) []

-- What was durable and acknowledged is read as `undefined`, behind an end that no mounting followed.
abbrev pub gone_entries : List Entry
gone_entries = two_entries ++ entry 1 3 (body.Halt cause.BlockThrew) ∷ entry 2 1 (body.Ask (Get (codes "x")) false) ∷ entry 2 2 (sends 2 (Ok value.Undefined))
    ∷ []

abbrev pub gone_front : Fronted
gone_front = fronts ((1, calls 1 0 []) ∷ (2, calls 2 1 (word "x" ∷ [])) ∷ []) gone_entries (cause.BlockThrew ∷ [])

abbrev pub gone_back : Backed
gone_back = backs gone_entries (1 ∷ []) (stops cause.BlockThrew 1 1 ∷ []) [] []

-- Two incarnations end one behind the other, and neither was followed by a mounting.
abbrev pub twice_front : Fronted
twice_front = fronts ((1, calls 1 0 []) ∷ []) two_entries (failed_disk ∷ failed_disk ∷ [])

abbrev pub twice_back : Backed
twice_back = backs two_entries [] (stops failed_disk 0 1 ∷ stops failed_disk 0 0 ∷ []) [] []
