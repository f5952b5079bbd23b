-- A line that is accepted leaves a run one that serves; after a fault it is one at its end.
use Rattle.std.proofs.Common.{◌≡◌, ap, inl, inr, ℕ, List, map, Option, None}
use Rattle.std.specs.Prelude.{◌⊎◌, Result, Err}
use Rattle.do_tree.specs.Tree.{Script}
use Rattle.lane.specs.Lanes.{Both}
use Rattle.line_server.specs.declared.line.Line.{Line}
use Rattle.placement.specs.Slots.{Slots}
use Rattle.timeline.specs.declared.message.Message.{Message}
use Rattle.mailbox.specs.Runs.{Accepts, BeginsLine, KeepsRun, fault_of, log_of}
use Rattle.mailbox.specs.declared.fault.SwitchFault.{SwitchFault}
use Rattle.mailbox.specs.declared.fault.SwitchFault.TheVariants.{NoMemory}
use Rattle.mailbox.specs.declared.switch.Switch.{Switch}
use Rattle.host_core.proofs.Servings.{ActsOn, outs_same, serving_line, served_line, served_still}
use Rattle.host_core.specs.Running.{HasServed, IsServing}
use Rattle.host_core.specs.declared.objects.Objects.{Objects}

module _ {D W T : Type 0} (moment_of : D → ℕ) (left_since : D → ℕ → List ℕ → Type 0) (told : D → Option (List ℕ)) (image : D → List ℕ → Type 0) (faults_of : D → ℕ)
    (limit : ℕ) (script : Script) (contents : ℕ → Option (List ℕ)) (named : Slots) (before after : Switch W) (old new : Objects D)
    (taken : W → Option (List ℕ)) (faults : W → ℕ) (result : Result T SwitchFault) (line : Line)
    (cores : new.cores.items ≡ old.cores.items) (outs : new.outs.items ≡ old.outs.items) (acts : ActsOn taken faults before after old new result) where
  same_got : map (λ (p : Both Message). p.got) new.outs.items ≡ map (λ (p : Both Message). p.got) old.outs.items
  same_got = ap (map (λ (p : Both Message). p.got)) outs

  -- The line was accepted.
  pub accept_serves : Accepts script before after line → KeepsRun script before after → fault_of after ≡ None
      → IsServing moment_of left_since told image faults_of limit script contents named before old
      → IsServing moment_of left_since told image faults_of limit script contents named after new
  accept_serves accepts keeps goes =
      serving_line moment_of left_since told image faults_of limit script contents named before after old new taken faults result cores acts
      (outs_same old new outs) line same_got accepts keeps goes

  -- It was not, or in part.
  pub accept_served : (BeginsLine script before after line ⊎ ((log_of after ≡ log_of before) × (result ≡ Err NoMemory)))
      → IsServing moment_of left_since told image faults_of limit script contents named before old
      → HasServed moment_of left_since told image faults_of limit script contents named after new
  accept_served begun = elim begun [
    | inl begins ↦ served_line moment_of left_since told image faults_of limit script contents named before after old new taken faults result cores acts
        (outs_same old new outs) line same_got begins
    | inr same ↦ served_still moment_of left_since told image faults_of limit script contents named before after old new taken faults result cores acts
        (outs_same old new outs) same.0 same_got
  ]
