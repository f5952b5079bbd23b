-- How a run ends.
use Rattle.std.specs.Prelude.{Bool, true, false, Result, Ok, Err, ⊤}
use Rattle.mailbox.specs.declared.fault.SwitchFault.{SwitchFault}
use Rattle.mailbox.specs.declared.fault.SwitchFault.TheVariants as switch
use Rattle.line_server.specs.declared.fault.LineFault.{LineFault}
use Rattle.line_server.specs.declared.fault.LineFault.TheVariants as line
use Rattle.host_core.specs.declared.opening.OpenEnd.{OpenEnd}
use Rattle.host_core.specs.declared.opening.OpenEnd.TheVariants as opening
use Rattle.host_core.specs.declared.serving.Stop.{Stop}
use Rattle.host_core.specs.declared.serving.Stop.TheVariants.{ReadFailed, WriteFailed, NoMemory}
use Rattle.host_core.specs.declared.settings.ServeEnd.{ServeEnd}
use Rattle.host_core.specs.declared.settings.ServeEnd.TheVariants as end

-- The stop of a fault of the switch, and of one of the reader of lines.
abbrev pub switch_stop : SwitchFault → Stop
switch_stop switch.WriteFailed = WriteFailed
switch_stop switch.NoMemory = NoMemory

abbrev pub line_stop : LineFault → Stop
line_stop line.ReadFailed = ReadFailed
line_stop line.NoMemory = NoMemory

-- The end of a run whose opening stopped so, and of one whose lines did.
abbrev pub opening_end : OpenEnd → ServeEnd
opening_end opening.Failed = end.OpenFailed
opening_end (opening.BadSlot bad) = end.BadSlot bad
opening_end opening.NoMemory = end.NoMemory

abbrev pub serving_end : Result (Unit {0}) Stop → ServeEnd
serving_end (Ok done) = end.Finished
serving_end (Err ReadFailed) = end.ReadFailed
serving_end (Err WriteFailed) = end.WriteFailed
serving_end (Err NoMemory) = end.NoMemory

-- All was served that was read: the input was read to its end or to where its source failed, and no write and no memory did.
abbrev pub is_served : ServeEnd → Bool
is_served end.Finished = true
is_served end.ReadFailed = true
is_served other = false

-- An end behind the opening.
abbrev pub is_late : ServeEnd → Type 0
is_late end.OpenFailed = ⊥
is_late (end.BadSlot bad) = ⊥
is_late other = ⊤
