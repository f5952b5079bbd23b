-- Parts that are done at once by the step that comes to them.
use Rattle.std.proofs.Common.{◌≡◌, ℕ, ◌+◌, ◌-◌, ◌<◌, ◌≤◌, ◌∷◌, [], Result, Ok, Err, IfOk, sym, ap, ◌∙◌, subst, arith}
use Rattle.do_tree.specs.Tree.{Class}
use Rattle.script_mean.specs.Calls.{Calls}
use Rattle.script_mean.specs.Task as task
use Rattle.script_state.specs.Seen.{state_of}
use Rattle.script_state.specs.declared.done.Done.TheVariants as done
use Rattle.script_state.specs.declared.state.State.{State}
use Rattle.script_steps.specs.Seen.{focus_run}
use Rattle.script_steps.specs.Weight.{focus_weight}
use Rattle.script_steps.specs.declared.focus.Focus.{Focus}
use Rattle.script_steps.specs.declared.focus.Focus.TheVariants as focus
use Rattle.script_steps.specs.declared.focus.Move.{Move}
use Rattle.script_steps.specs.declared.focus.Move.TheVariants as move
use Rattle.script_steps.specs.declared.focus.Outcome.{Outcome}
use Rattle.script_vars.specs.Seen.{env_of}
use Rattle.script_paths.proofs.Charged.{charged_exceeds, charged_takes}
use Rattle.script_eval.specs.Acts.{Changes}
use Rattle.script_eval.specs.Charging.{Charges}
use Rattle.script_eval.specs.Leads as leads
use Rattle.script_eval.specs.Leads.{Leads}
use Rattle.script_eval.specs.Machines.{Applies, Finishes, GoesOnBelow, Steps, StepsFrom, calls_in, leads_of, next_in, to_go}
use Rattle.script_eval.specs.declared.act.Act.TheVariants as act
use Rattle.script_eval.specs.declared.machine.Machine.{Machine}
use Rattle.script_eval.specs.declared.machine.Progress.{Progress}

-- Less than less is less.
goes_below : (a b : ℕ) (m : Machine) (n : Leads) → a ≤ b → GoesOnBelow a m n → GoesOnBelow b m n
goes_below a b m (leads.On f) less h = omega (arith, less, h)
goes_below a b m (leads.To s) less h = tt

-- An end is a part like any other.
pub finishes_from : (o : Outcome) (old new : Machine) (n : Leads) → ((class : Class) → Finishes class o old new n) → StepsFrom (focus.Ended o) old new n
finishes_from o old new n ends class =
    let led = ends class (to_go (focus.Ended o) old) (omega arith) in
    record { same = led.same; deep = led.deep; less = led.less; ready = led.ready }

pub ended_from : {E : Type 0} (o : Outcome) (old new : Machine) (r : Result Progress E) (k : Focus)
    → IfOk r (λ p. (class : Class) → Finishes class o old new (leads_of p k)) → IfOk r (λ p. StepsFrom (focus.Ended o) old new (leads_of p k))
ended_from o old new (Ok p) k ends = finishes_from o old new (leads_of p k) ends
ended_from o old new (Err e) k ends = ends

-- A part that is another one by another name.
pub steps_same : (f g : Focus) (old new : Machine) (n : Leads) → ((calls : Calls) → focus_run calls f ≡ focus_run calls g) → focus_weight g ≤ focus_weight f
    → StepsFrom g old new n → StepsFrom f old new n
steps_same f g old new n same weighs steps class =
    let led : Steps class g old new n = steps class in
    let less : to_go g old ≤ to_go f old = omega (arith, weighs) in
    record {
      same = λ starts rs.
          ap (λ r. r (env_of old.state.vars) (next_in class starts old.frames) (state_of old.state rs)) (same (calls_in class old.frames))
          ∙ led.same starts rs;
      deep = led.deep;
      less = goes_below (to_go g old) (to_go f old) new n less led.less;
      ready = led.ready;
    }

-- A part that is another one, once its step is charged,
pub charged_steps : (f g : Focus) (old new : Machine) (s : State) (n : Leads) → Charges f g → 1 ≤ old.state.left → s ≡ record old.state { left = old.state.left - 1 }
    → StepsFrom g (record old { state = s }) new n → StepsFrom f old new n
charged_steps f g old new s n charges some is steps class =
    let mid : Machine = record old { state = s } in
    let led : Steps class g mid new n = steps class in
    let fewer : s.left ≡ old.state.left - 1 = ap (λ (x : State). x.left) is in
    let weighs : focus_weight g < focus_weight f + 40 = charges.1 in
    let less : to_go g mid ≤ to_go f old = omega (arith, fewer, some, weighs) in
    record {
      same = λ starts rs.
          ap (λ r. r (env_of old.state.vars) (next_in class starts old.frames) (state_of old.state rs)) (charges.0 (calls_in class old.frames))
          ∙ charged_takes 1 (focus_run (calls_in class old.frames) g) (env_of old.state.vars) (next_in class starts old.frames) (state_of old.state rs) some
          ∙ ap (λ (x : State). focus_run (calls_in class old.frames) g (env_of x.vars) (next_in class starts old.frames) (state_of x rs)) (sym is)
          ∙ led.same starts rs;
      deep = led.deep;
      less = goes_below (to_go g mid) (to_go f old) new n less led.less;
      ready = led.ready;
    }

-- or where none is left.
pub charged_ends : (f g : Focus) (old new : State) → Charges f g → old.left < 1 → new ≡ old → Changes f old new (act.Does done.Exceeded)
charged_ends f g old new charges none is = λ has_handler. record {
  same = λ calls are next rs.
      ap (λ r. r (env_of old.vars) next (state_of old rs)) (charges.0 calls)
      ∙ charged_exceeds 1 (focus_run calls g) (env_of old.vars) next (state_of old rs) none
      ∙ ap (λ (s : State). task.exceeded s.closed.items ∷ []) (sym is);
  less = tt;
  ready = tt;
}

-- A part that a move leaves and charges nothing for.
at_once : (g : Focus) (old new : Machine) (n : Leads) → StepsFrom g old new n → (class : Class) → Applies class (act.Moves (move.Then 0 g)) old new n
at_once g old new n steps class before below ready =
    let led : Steps class g old new n = steps class in
    let less : to_go g old ≤ before = omega (arith, below) in
    record {
      same = λ starts rs. led.same starts rs;
      deep = led.deep;
      less = goes_below (to_go g old) before new n less led.less;
      ready = led.ready;
    }

pub moves_at_once : {E : Type 0} (m : Move) (g : Focus) (old new : Machine) (r : Result Progress E) (k : Focus) → m ≡ move.Then 0 g
    → IfOk r (λ p. StepsFrom g old new (leads_of p k)) → IfOk r (λ p. (class : Class) → Applies class (act.Moves m) old new (leads_of p k))
moves_at_once m g old new (Ok p) k is steps = λ class. subst (λ x. Applies class (act.Moves x) old new (leads_of p k)) (sym is) (at_once g old new (leads_of p k) steps class)
moves_at_once m g old new (Err e) k is steps = steps
