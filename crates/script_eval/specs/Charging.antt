-- Parts that are other parts, once a step is charged.
use Rattle.std.specs.Prelude.{◌≡◌, ◌<◌, ◌+◌}
use Rattle.script_mean.specs.Calls.{Calls}
use Rattle.script_steps.specs.Seen.{charged, focus_run}
use Rattle.script_steps.specs.Weight.{focus_weight, step_pays}
use Rattle.script_steps.specs.declared.focus.Focus.{Focus}

-- The first part is the second, once a step is charged, and leaves less to do than that step pays.
abbrev pub Charges : Focus → Focus → Type 0
Charges f g = ((calls : Calls) → focus_run calls f ≡ charged 1 (focus_run calls g)) × (focus_weight g < focus_weight f + step_pays)
