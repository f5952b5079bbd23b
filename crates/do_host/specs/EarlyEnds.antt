-- How a run ends before a slot is asked for.
use Rattle.std.specs.Prelude.{◌≡◌, ◌⊎◌, ℕ, List, Option, Some, Result, Err, Vec}
use Rattle.std.specs.declared.alloc.Global.{Global}
use Rattle.do_host.specs.ScriptLines.{refused_line}
use Rattle.do_host.specs.declared.early_end.EarlyEnd.{EarlyEnd}
use Rattle.do_host.specs.declared.early_end.EarlyEnd.TheVariants.{Refused, Stopped}
use Rattle.do_host.specs.declared.run_end.RunEnd.{RunEnd}
use Rattle.do_host.specs.declared.run_end.RunEnd.TheVariants.{DepotFailed, NoMemory}

-- the run ends so, as its script is refused with this line
abbrev pub IsRefusedBy : {T : Type 0} → Result T EarlyEnd → List ℕ → Type 0
IsRefusedBy result line = (bytes : Vec ℕ Global) × (result ≡ Err (Refused bytes)) × (bytes.items ≡ line)

-- the run ends so, for this reason
abbrev pub IsStoppedBy : {T : Type 0} → Result T EarlyEnd → RunEnd → Type 0
IsStoppedBy result stop = result ≡ Err (Stopped stop)

-- a script is refused, the depot failed, or memory was wanting
abbrev pub IsScriptEnd : {T : Type 0} → Result T EarlyEnd → Type 0
IsScriptEnd result = ((line : List ℕ) × IsRefusedBy result line) ⊎ IsStoppedBy result DepotFailed ⊎ IsStoppedBy result NoMemory

-- how a run ends whose script has a fault of this word at a place: where there is no word, memory was wanting
abbrev pub Refuses : ℕ → Option (List ℕ) → EarlyEnd → Type 0
Refuses place word (Refused line) = (is : List ℕ) × (word ≡ Some is) × (line.items ≡ refused_line place is)
Refuses place word (Stopped stop) = stop ≡ NoMemory
