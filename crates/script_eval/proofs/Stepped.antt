-- Steps of a machine, as its code makes them.
use Rattle.std.proofs.Common.{◌≡◌, Result, Ok, Err, IfOk, refl, sym, subst, arith}
use Rattle.do_tree.specs.Tree.{Class}
use Rattle.script_mean.specs.Meaning.{has_alarm_handler}
use Rattle.script_mean.specs.declared.ask.Ask.{Ask}
use Rattle.do_value.specs.declared.value.Value.{Value}
use Rattle.script_state.specs.declared.done.Done.{Done}
use Rattle.script_state.specs.declared.done.Done.TheVariants as done
use Rattle.script_state.specs.declared.state.State.{State}
use Rattle.script_state.specs.declared.waiting.Waiting.{Waiting}
use Rattle.script_steps.specs.declared.focus.Focus.{Focus}
use Rattle.script_steps.specs.declared.focus.Focus.TheVariants as focus
use Rattle.script_steps.specs.declared.focus.Outcome.{Outcome}
use Rattle.script_eval.proofs.Led.{step_leads}
use Rattle.script_eval.specs.Acts.{Changes, Unfolds}
use Rattle.script_eval.specs.Leads as leads
use Rattle.script_eval.specs.Leads.{Leads}
use Rattle.script_eval.specs.Machines.{Applies, Finishes, IsDeep, Steps, StepsFrom, leads_of, to_go}
use Rattle.script_eval.specs.declared.act.Act.{Act}
use Rattle.script_eval.specs.declared.act.Act.TheVariants as act
use Rattle.script_eval.specs.declared.machine.Machine.{Machine}
use Rattle.script_eval.specs.declared.machine.Progress.{Progress}
use Rattle.script_eval.specs.declared.machine.Stop.{Stop}
use Rattle.script_eval.specs.declared.machine.Stop.TheVariants as stop

-- A part whose kind is known,
pub steps_as : {E : Type 0} (class : Class) (part f : Focus) (old new : Machine) (r : Result Progress E) (g : Focus) → part ≡ f
    → IfOk r (λ p. StepsFrom f old new (leads_of p g)) → IfOk r (λ p. Steps class part old new (leads_of p g))
steps_as class part f old new (Ok p) g is h = subst (λ x. Steps class x old new (leads_of p g)) (sym is) (h class)
steps_as class part f old new (Err e) g is h = h

-- a call,
pub steps_so : {E : Type 0} (class : Class) (part f : Focus) (old new : Machine) (r : Result Progress E) (g : Focus) → part ≡ f
    → IfOk r (λ p. Steps class f old new (leads_of p g)) → IfOk r (λ p. Steps class part old new (leads_of p g))
steps_so class part f old new (Ok p) g is h = subst (λ x. Steps class x old new (leads_of p g)) (sym is) h
steps_so class part f old new (Err e) g is h = h

-- or one that has ended.
pub steps_ended : {E : Type 0} (class : Class) (part : Focus) (o : Outcome) (old new : Machine) (r : Result Progress E) (g : Focus) → part ≡ focus.Ended o
    → IfOk r (λ p. (class : Class) → Finishes class o old new (leads_of p g)) → IfOk r (λ p. Steps class part old new (leads_of p g))
steps_ended class part o old new (Ok p) g is h =
    let led = h class (to_go (focus.Ended o) old) (omega arith) in
    let steps : Steps class (focus.Ended o) old new (leads_of p g) = record { same = led.same; deep = led.deep; less = led.less; ready = led.ready } in
    subst (λ x. Steps class x old new (leads_of p g)) (sym is) steps
steps_ended class part o old new (Err e) g is h = h

-- A part that leaves what the task has, and then what was done with it is applied.
pub unfolds_on : {E : Type 0} (f : Focus) (a : Act) (old new : Machine) (r : Result Progress E) (g : Focus) → Unfolds f old.state a
    → IfOk r (λ p. (class : Class) → Applies class a old new (leads_of p g)) → IfOk r (λ p. StepsFrom f old new (leads_of p g))
unfolds_on f a old new (Ok p) g acts led = λ class. step_leads class (has_alarm_handler class) f old old new old.state a (leads_of p g) refl refl (acts (has_alarm_handler class)) (led class)
unfolds_on f a old new (Err e) g acts led = led

-- A part that changes it.
pub changes_on : {E : Type 0} (f : Focus) (a : Act) (old mid new : Machine) (s : State) (r : Result Progress E) (g : Focus) → mid ≡ record old { state = s }
    → Changes f old.state s a → IfOk r (λ p. (class : Class) → Applies class a mid new (leads_of p g)) → IfOk r (λ p. StepsFrom f old new (leads_of p g))
changes_on f a old mid new s (Ok p) g is acts led = λ class. step_leads class (has_alarm_handler class) f old mid new s a (leads_of p g) refl is (acts (has_alarm_handler class)) (led class)
changes_on f a old mid new s (Err e) g is acts led = led

pub changes_at : (f : Focus) (a : Act) (old mid new : Machine) (s : State) (n : Leads) → mid ≡ record old { state = s }
    → Changes f old.state s a → ((class : Class) → Applies class a mid new n) → StepsFrom f old new n
changes_at f a old mid new s n is acts led = λ class. step_leads class (has_alarm_handler class) f old mid new s a n refl is (acts (has_alarm_handler class)) (led class)

-- What was done at once has ended.
pub ended_applies : (class : Class) (o : Outcome) (old new : Machine) (n : Leads) → Finishes class o old new n → Applies class (act.Does (done.Ended o)) old new n
ended_applies class o old new n led before below ready = led before (omega (arith, below))

pub ended_ok : {E : Type 0} (o : Outcome) (old new : Machine) (r : Result Progress E) (g : Focus)
    → IfOk r (λ p. (class : Class) → Finishes class o old new (leads_of p g)) → IfOk r (λ p. (class : Class) → Applies class (act.Does (done.Ended o)) old new (leads_of p g))
ended_ok o old new (Ok p) g led = λ class. ended_applies class o old new (leads_of p g) (led class)
ended_ok o old new (Err e) g led = led

-- The same with a part that is done so.
pub reads_on : {E : Type 0} (f : Focus) (o : Outcome) (old new : Machine) (r : Result Progress E) (g : Focus) → Unfolds f old.state (act.Does (done.Ended o))
    → IfOk r (λ p. (class : Class) → Finishes class o old new (leads_of p g)) → IfOk r (λ p. StepsFrom f old new (leads_of p g))
reads_on f o old new r g acts led = unfolds_on f (act.Does (done.Ended o)) old new r g acts (ended_ok o old new r g led)

pub ends_on : {E : Type 0} (f : Focus) (o : Outcome) (old mid new : Machine) (s : State) (r : Result Progress E) (g : Focus) → mid ≡ record old { state = s }
    → Changes f old.state s (act.Does (done.Ended o)) → IfOk r (λ p. (class : Class) → Finishes class o mid new (leads_of p g)) → IfOk r (λ p. StepsFrom f old new (leads_of p g))
ends_on f o old mid new s r g is acts led = changes_on f (act.Does (done.Ended o)) old mid new s r g is acts (ended_ok o mid new r g led)

-- What stops the turn.
pub stops_on : {E : Type 0} (a : Act) (old new : Machine) (s : Stop) (r : Result Progress E) (g : Focus) → IfOk r (λ p. (f : Focus) → leads_of p f ≡ leads.To s)
    → ((class : Class) → Applies class a old new (leads.To s)) → IfOk r (λ p. (class : Class) → Applies class a old new (leads_of p g))
stops_on a old new s (Ok p) g is led = λ class. subst (λ n. Applies class a old new n) (sym (is g)) (led class)
stops_on a old new s (Err e) g is led = is

pub stops_over : {E : Type 0} (o : Outcome) (old new : Machine) (s : Stop) (r : Result Progress E) (g : Focus) → IfOk r (λ p. (f : Focus) → leads_of p f ≡ leads.To s)
    → ((class : Class) → Finishes class o old new (leads.To s)) → IfOk r (λ p. (class : Class) → Finishes class o old new (leads_of p g))
stops_over o old new s (Ok p) g is led = λ class. subst (λ n. Finishes class o old new n) (sym (is g)) (led class)
stops_over o old new s (Err e) g is led = is

-- What was done at once by another name.
done_is : {E : Type 0} (m new : Machine) (d e : Done) (r : Result Progress E) (g : Focus) → d ≡ e
    → IfOk r (λ p. (class : Class) → Applies class (act.Does e) m new (leads_of p g)) → IfOk r (λ p. (class : Class) → Applies class (act.Does d) m new (leads_of p g))
done_is m new d e r g is h = subst (λ x. IfOk r (λ p. (class : Class) → Applies class (act.Does x) m new (leads_of p g))) (sym is) h

-- It has ended,
pub finish_ended : {E : Type 0} (m new : Machine) (d : Done) (o : Outcome) (r : Result Progress E) (g : Focus) → d ≡ done.Ended o
    → IfOk r (λ p. (class : Class) → Finishes class o m new (leads_of p g)) → IfOk r (λ p. (class : Class) → Applies class (act.Does d) m new (leads_of p g))
finish_ended m new d o r g is led = done_is m new d (done.Ended o) r g is (ended_ok o m new r g led)

-- asks,
pub finish_asks : {E : Type 0} (m : Machine) (d : Done) (a : Ask) (w : Waiting) (r : Result Progress E) (g : Focus) → IsDeep m → d ≡ done.Asks a w
    → IfOk r (λ p. (f : Focus) → leads_of p f ≡ leads.To (stop.Asks a w)) → IfOk r (λ p. (class : Class) → Applies class (act.Does d) m m (leads_of p g))
finish_asks m d a w r g deep is to =
    done_is m m d (done.Asks a w) r g is
    (stops_on (act.Does (done.Asks a w)) m m (stop.Asks a w) r g to (λ class before below ready. record { same = λ starts rs. refl; deep = deep; less = tt; ready = ready }))

-- is stopped at a limit,
pub finish_exceeded : {E : Type 0} (m : Machine) (d : Done) (r : Result Progress E) (g : Focus) → IsDeep m → d ≡ done.Exceeded
    → IfOk r (λ p. (f : Focus) → leads_of p f ≡ leads.To stop.Exceeded) → IfOk r (λ p. (class : Class) → Applies class (act.Does d) m m (leads_of p g))
finish_exceeded m d r g deep is to =
    done_is m m d done.Exceeded r g is
    (stops_on (act.Does done.Exceeded) m m stop.Exceeded r g to (λ class before below ready. record { same = λ starts rs. refl; deep = deep; less = tt; ready = tt }))

-- or is thrown out of a block.
pub finish_reset : {E : Type 0} (m : Machine) (d : Done) (v : Value) (r : Result Progress E) (g : Focus) → IsDeep m → d ≡ done.Reset v
    → IfOk r (λ p. (f : Focus) → leads_of p f ≡ leads.To (stop.Reset v)) → IfOk r (λ p. (class : Class) → Applies class (act.Does d) m m (leads_of p g))
finish_reset m d v r g deep is to =
    done_is m m d (done.Reset v) r g is
    (stops_on (act.Does (done.Reset v)) m m (stop.Reset v) r g to (λ class before below ready. record { same = λ starts rs. refl; deep = deep; less = tt; ready = tt }))

-- What is next, where it was put.
pub put_leads : (a : Act) (old new : Machine) (f g : Focus) → g ≡ f → ((class : Class) → Applies class a old new (leads.On f)) → (class : Class) → Applies class a old new (leads.On g)
put_leads a old new f g is led = λ class. subst (λ x. Applies class a old new (leads.On x)) (sym is) (led class)

pub put_at : (class : Class) (a : Act) (old new : Machine) (f g : Focus) → g ≡ f → Applies class a old new (leads.On f) → Applies class a old new (leads.On g)
put_at class a old new f g is led = subst (λ x. Applies class a old new (leads.On x)) (sym is) led

pub put_finishes : (o : Outcome) (old new : Machine) (f g : Focus) → g ≡ f → ((class : Class) → Finishes class o old new (leads.On f)) → (class : Class) → Finishes class o old new (leads.On g)
put_finishes o old new f g is led = λ class. subst (λ x. Finishes class o old new (leads.On x)) (sym is) (led class)

-- An act by another name.
pub applies_as : {E : Type 0} (class : Class) (a b : Act) (old new : Machine) (r : Result Progress E) (g : Focus) → a ≡ b
    → IfOk r (λ p. Applies class b old new (leads_of p g)) → IfOk r (λ p. Applies class a old new (leads_of p g))
applies_as class a b old new r g is h = subst (λ x. IfOk r (λ p. Applies class x old new (leads_of p g))) (sym is) h

pub applies_at : {E : Type 0} (class : Class) (a b : Act) (old new : Machine) (r : Result Progress E) (g : Focus) → a ≡ b
    → IfOk r (λ p. (class : Class) → Applies class b old new (leads_of p g)) → IfOk r (λ p. Applies class a old new (leads_of p g))
applies_at class a b old new (Ok p) g is h = subst (λ x. Applies class x old new (leads_of p g)) (sym is) (h class)
applies_at class a b old new (Err e) g is h = h
