-- The log of a run is one, step by step.
use Rattle.std.proofs.Common.{◌≡◌, ℕ, List, map, refl, sym, subst}
use Rattle.std.specs.Prelude.{Result, Ok}
use Rattle.do_tree.specs.Tree.{Script}
use Rattle.line_server.specs.declared.line.Line.{Line}
use Rattle.timeline.specs.Switch as switch
use Rattle.timeline.specs.Switch.{IsSwitchRun, accepts, routes}
use Rattle.timeline.specs.declared.message.Message.{Message}
use Rattle.timeline.specs.declared.notice.Stepped.{Stepped}
use Rattle.timeline.specs.declared.notice.Stepped.TheVariants.{Did, Nothing}
use Rattle.mailbox.specs.declared.fault.SwitchFault.{SwitchFault}
use Rattle.mailbox.specs.declared.switch.Switch.{Switch}
use Rattle.mailbox.specs.Seen.{seen_line}
use Rattle.mailbox.specs.Runs.{log_of, state_of, slots_of, Accepts, Routes, IsStill, KeepsRun}
use Rattle.mailbox.specs.Taken.{AreEmpty, IsTakenOf}

module _ {W : Type 0} (script : Script) (old new : Switch W) where
  pub keeps_line : (line : Line) → Accepts script old new line → KeepsRun script old new
  keeps_line line did = λ first run.
      let next = switch.accepted (log_of old) (state_of old) (seen_line line) run in
      subst (λ (s : switch.Switch). IsSwitchRun script first (log_of new) s) (sym did.state)
      (subst (λ (log : switch.SwitchLog). IsSwitchRun script first log (accepts script (state_of old) (seen_line line)).after) (sym did.log) next)

  pub keeps_message : (sent : ℕ × Message) → Routes script old new sent → KeepsRun script old new
  keeps_message sent did = λ first run.
      let next = switch.routed (log_of old) (state_of old) sent run in
      subst (λ (s : switch.Switch). IsSwitchRun script first (log_of new) s) (sym did.state)
      (subst (λ (log : switch.SwitchLog). IsSwitchRun script first log (routes script (state_of old) sent).after) (sym did.log) next)

  pub keeps_still : IsStill old new → KeepsRun script old new
  keeps_still still = λ first run.
      subst (λ (s : switch.Switch). IsSwitchRun script first (log_of new) s) (sym still.state)
      (subst (λ (log : switch.SwitchLog). IsSwitchRun script first log (state_of old)) (sym still.log) run)

-- The good answer that is this.
abbrev went : Stepped → Result Stepped SwitchFault
went stepped = Ok stepped

-- whatever a step did
pub keeps_step : {W O : Type 0} (got told : O → List Message) (script : Script) (old new : Switch W) (before after : List O) (stepped : Stepped)
    → (went stepped ≡ Ok Did → IsTakenOf got before after (Routes script old new))
    → (went stepped ≡ Ok Nothing → AreEmpty got told 0 (slots_of old) before × IsStill old new × (map got after ≡ map got before))
    → KeepsRun script old new
keeps_step got told script old new before after Did routed nothing = let took = routed refl in keeps_message script old new took.sent took.does
keeps_step got told script old new before after Nothing routed nothing = keeps_still script old new (nothing refl).1
