-- The text of an output line: compact JSON (RFC 8259) with an LF. In it `undefined` is null at the top and in lists, and
-- a record's pair whose value is `undefined` is left out (this project's profile).
use Rattle.std.specs.Prelude.{ℕ, ℤ, List, [], ◌∷◌, ◌++◌, codes}
use Rattle.serde_json.specs.Data.{Data, number, unsigned, string, array}
use Rattle.serde_json.specs.Find.{of_integer}
use Rattle.serde_json.specs.View.{items_of}
use Rattle.serde_json.specs.Written.{compact_text}
use Rattle.do_value.specs.Seen.{tree_of}
use Rattle.do_value.specs.declared.value.Value.{Value}
use Rattle.do_wire.specs.Json.{json_of}
use Rattle.timeline.specs.declared.caller.Cause.{Cause}
use Rattle.timeline.specs.declared.caller.Cause.TheVariants as cause
use Rattle.timeline.specs.declared.caller.Failure.{Failure}
use Rattle.timeline.specs.declared.caller.Failure.TheVariants as failure
use Rattle.line_server.specs.Cut.{line_end}
use Rattle.line_server.specs.declared.out_line.OutLine.{OutLine}
use Rattle.line_server.specs.declared.out_line.OutLine.TheVariants as out
use Rattle.line_server.specs.declared.out_line.WaitLine.{WaitLine}
use Rattle.line_server.specs.declared.out_line.WaitLine.TheVariants as wait
use Rattle.line_server.specs.declared.out_line.Why.{Why}
use Rattle.line_server.specs.declared.out_line.Why.TheVariants as why

-- an array of these parts; a number of a request; a count; a value
abbrev pub parts : List Data → Data
parts ds = array (items_of ds)

abbrev pub integer : ℤ → Data
integer n = number (of_integer n)

abbrev pub count : ℕ → Data
count n = number (unsigned n)

abbrev pub printed : Value → Data
printed value = json_of (tree_of value)

-- `["reply",n,value]`
abbrev pub reply_json : ℤ → Value → Data
reply_json n value = parts (string (codes "reply") ∷ integer n ∷ printed value ∷ [])

-- `["error",n,word]`
abbrev pub error_word : ℤ → List ℕ → Data
error_word n word = parts (string (codes "error") ∷ integer n ∷ string word ∷ [])

-- `["error",n,"Thrown",value]`
abbrev pub thrown_json : ℤ → Value → Data
thrown_json n value = parts (string (codes "error") ∷ integer n ∷ string (codes "Thrown") ∷ printed value ∷ [])

-- `["disk",before,after]`, `["full",needed,limit]`, or the word of another cause alone
abbrev pub cause_json : Cause → Data
cause_json (cause.Disk before after) = parts (string (codes "disk") ∷ count before ∷ count after ∷ [])
cause_json (cause.Full needed limit) = parts (string (codes "full") ∷ count needed ∷ count limit ∷ [])
cause_json cause.Exceeded = parts (string (codes "exceeded") ∷ [])
cause_json cause.StartThrew = parts (string (codes "start") ∷ [])
cause_json cause.BlockThrew = parts (string (codes "block") ∷ [])

-- `["error",n,"Reset",cause]`
abbrev pub reset_json : ℤ → Cause → Data
reset_json n why = parts (string (codes "error") ∷ integer n ∷ string (codes "Reset") ∷ cause_json why ∷ [])

-- why a request has no value
abbrev pub error_json : ℤ → Failure → Data
error_json n failure.NoClass = error_word n (codes "NoClass")
error_json n failure.NoMethod = error_word n (codes "NoMethod")
error_json n (failure.NoSlot slots) = parts (string (codes "error") ∷ integer n ∷ string (codes "NoSlot") ∷ count slots ∷ [])
error_json n failure.NoFetch = error_word n (codes "NoFetch")
error_json n (failure.Thrown value) = thrown_json n value
error_json n failure.Exceeded = error_word n (codes "Exceeded")
error_json n (failure.Reset why) = reset_json n why
error_json n (failure.Down before after) = parts (string (codes "error") ∷ integer n ∷ string (codes "Down") ∷ count before ∷ count after ∷ [])

-- `["fetch",k,class,name,value]`
abbrev pub fetch_json : ℕ → List ℕ → List ℕ → Value → Data
fetch_json k class name value = parts (string (codes "fetch") ∷ count k ∷ string class ∷ string name ∷ printed value ∷ [])

-- `["refused",line,why]`
abbrev pub why_word : Why → List ℕ
why_word why.Long = codes "long"
why_word why.Json = codes "json"
why_word why.Shape = codes "shape"
why_word why.Tick = codes "tick"
why_word why.Fetch = codes "fetch"

abbrev pub refused_json : ℕ → Why → Data
refused_json line reason = parts (string (codes "refused") ∷ count line ∷ string (why_word reason) ∷ [])

-- `["waiting",n,"fetch",k]`, `["waiting",n,"call",class,name]` or `["waiting",n,"block"]`
abbrev pub waiting_json : ℤ → WaitLine → Data
waiting_json n (wait.Fetch k) = parts (string (codes "waiting") ∷ integer n ∷ string (codes "fetch") ∷ count k ∷ [])
waiting_json n (wait.Call class name) =
    parts (string (codes "waiting") ∷ integer n ∷ string (codes "call") ∷ string class ∷ string name ∷ [])
waiting_json n wait.Block = parts (string (codes "waiting") ∷ integer n ∷ string (codes "block") ∷ [])

abbrev pub json_of_out : OutLine → Data
json_of_out (out.Reply n value) = reply_json n value
json_of_out (out.Error n f) = error_json n f
json_of_out (out.Fetch k class name value) = fetch_json k class name value
json_of_out (out.Refused line reason) = refused_json line reason
json_of_out (out.Waiting n on) = waiting_json n on

abbrev pub text : OutLine → List ℕ
text line = compact_text (json_of_out line) ++ line_end ∷ []
