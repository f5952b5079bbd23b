-- What a step of a machine leads to.
use Rattle.script_steps.specs.declared.focus.Focus.{Focus}
use Rattle.script_eval.specs.declared.machine.Stop.{Stop}

-- A part that is next, or the turn's end.
pub data Leads : Type 0 where
  On : (next : Focus) → Leads
  To : (stop : Stop) → Leads
