-- A move that is applied to a machine, as its code does that.
use Rattle.std.proofs.Common.{◌≡◌, ℕ, ◌-◌, ◌≤◌, List, [], ◌∷◌, sym, ap, ◌∙◌, subst}
use Rattle.do_tree.specs.Tree.{Class}
use Rattle.script_state.specs.declared.state.State.{State}
use Rattle.script_steps.specs.Weight.{move_cost}
use Rattle.script_steps.specs.declared.focus.Focus.{Focus}
use Rattle.script_steps.specs.declared.focus.Move.{Move}
use Rattle.script_steps.specs.declared.focus.Move.TheVariants as move
use Rattle.script_steps.specs.declared.frame.Frame.{Frame as Waiting}
use Rattle.script_eval.proofs.Led.{inside_leads, then_leads}
use Rattle.script_eval.specs.Machines.{Applies, IsDeep}
use Rattle.script_eval.specs.declared.act.Act.TheVariants as act
use Rattle.script_eval.specs.declared.frames.Layer.{Layer}
use Rattle.script_eval.specs.declared.frames.Layer.TheVariants as layer
use Rattle.script_eval.specs.Leads.{Leads}
use Rattle.script_eval.specs.Leads as leads
use Rattle.script_eval.specs.declared.machine.Machine.{Machine}

-- A state with other steps left,
abbrev with_left : State → ℕ → State
with_left s n = record s { left = n }

-- and a machine with another state, or with other frames too.
abbrev with_state : Machine → State → Machine
with_state m s = record m { state = s }

abbrev pub with_frames : Machine → List Layer → Machine
with_frames m fs = record m { frames = fs }

-- A move without a frame, whose steps were charged.
pub then_moved : (old : Machine) (s : State) (m : Move) (n cost : ℕ) (f : Focus) → IsDeep old → m ≡ move.Then cost f → n ≡ move_cost m
    → (n ≤ old.state.left) × (s ≡ record old.state { left = old.state.left - n })
    → (class : Class) → Applies class (act.Moves m) old (record old { state = s }) (leads.On f)
then_moved old s m n cost f deep is_m is_n took class =
    let same : n ≡ cost = is_n ∙ ap move_cost is_m in
    let new : Machine = record old { state = s } in
    let enough : cost ≤ old.state.left = subst (λ k. k ≤ old.state.left) same took.0 in
    let is : new ≡ record old { state = record old.state { left = old.state.left - cost } } =
    ap (with_state old) (took.1 ∙ ap (λ k. with_left old.state (old.state.left - k)) same) in
    subst (λ x. Applies class (act.Moves x) old new (leads.On f)) (sym is_m) (then_leads old new cost f deep enough is class)

-- A move with one.
pub inside_moved : (old new : Machine) (s : State) (m : Move) (n cost : ℕ) (w : Waiting) (f : Focus) → IsDeep old → m ≡ move.Inside cost w f → n ≡ move_cost m
    → (n ≤ old.state.left) × (s ≡ record old.state { left = old.state.left - n })
    → new ≡ record old { state = s; frames = layer.Inner w ∷ old.frames }
    → (class : Class) → Applies class (act.Moves m) old new (leads.On f)
inside_moved old new s m n cost w f deep is_m is_n took pushed class =
    let same : n ≡ cost = is_n ∙ ap move_cost is_m in
    let enough : cost ≤ old.state.left = subst (λ k. k ≤ old.state.left) same took.0 in
    let is : new ≡ record old { state = record old.state { left = old.state.left - cost }; frames = layer.Inner w ∷ old.frames } =
    pushed
    ∙ ap (with_state (with_frames old (layer.Inner w ∷ old.frames))) (took.1 ∙ ap (λ k. with_left old.state (old.state.left - k)) same) in
    subst (λ x. Applies class (act.Moves x) old new (leads.On f)) (sym is_m) (inside_leads old new cost w f deep enough is class)

-- No layer was there to be taken out.
pub none_popped : (old : Machine) (fs : List Layer) → old.frames ≡ [] → fs ≡ [] → record old { frames = fs } ≡ old
none_popped old fs none left = ap (with_frames old) (left ∙ sym none)
