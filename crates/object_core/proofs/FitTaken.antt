-- Each event that a front is delivered is one that a front of the class takes that it then has.
use Rattle.std.proofs.Common.{◌≡◌, ap, sym, subst, refl, inl, inr, ℕ, List, [], ◌∷◌, ◌++◌, Option}
use Rattle.std.specs.Prelude.{Bool, true, false, if◌then◌else◌}
use Rattle.do_tree.specs.Tree.{Script}
use Rattle.timeline.specs.Eligible.{is_fit}
use Rattle.timeline.specs.Intake.{Kind, Front, Taken, delivered, noticed, wanted, takes, delivered_in, events_in}
use Rattle.timeline.specs.declared.event.Event.{Event}
use Rattle.timeline.specs.declared.notice.Notice.{Notice}
use Rattle.front_half.proofs.Items.{IsItemOf, takes_none, delivers_it, wants_it, event_item}
use Rattle.object_front.specs.Came.{events}
use Rattle.object_front.specs.Classed.{class_behind}
use Rattle.front_half.specs.Standing.{Stood}
use Rattle.front_half.specs.Taking.{Led, IsLedBy, fits, sticks_at, at_mode, class_after, does, on_event, stale, without}
use Rattle.front_half.specs.Turning.{IsTaken, IsEntered}
use Rattle.object_core.specs.Fitting.{IsFitIntake}

item_fit : (script : Script) (class : Option ℕ) (e : Event) (item : List Taken) → IsItemOf e item → is_fit script class e ≡ true → IsFitIntake script class item
item_fit script class e item takes_none is = tt
item_fit script class e item delivers_it is = (is, tt)
item_fit script class e item (wants_it call) is = (call, tt)

module _ (script : Script) (st : Stood) (e : Event) where
  fit_as : (fit : Bool) → is_fit script st.class e ≡ fit → IsFitIntake script st.class (on_event script st e).item
  fit_as true is = item_fit script st.class e (on_event script st e).item (event_item script st e) is
  fit_as false is =
      subst (λ (item : List Taken). IsFitIntake script st.class item)
      (sym (ap (λ (b : Bool). (does script st e (if b then at_mode st.front.incarnation st.front.mode e else stale false)).item) is)) tt

  event_fit : IsFitIntake script st.class (on_event script st e).item
  event_fit = fit_as (is_fit script st.class e) refl

led_fit : (script : Script) (st : Stood) (e : Event) (led : Led) → led ≡ on_event script st e → IsFitIntake script st.class led.item
led_fit script st e led leads = subst (λ (l : Led). IsFitIntake script st.class l.item) (sym leads) (event_fit script st e)

notice_fit : (script : Script) (st : Stood) (n : Notice) (led : Led) → IsLedBy script st n led → IsFitIntake script st.class led.item
notice_fit script st n led (fits so) = tt
notice_fit script st n led (sticks_at unfit) = tt

entered_fit : (script : Script) (st : Stood) (before events : List Event) (led : Led) → IsEntered script st before events led
    → IsFitIntake script st.class led.item
entered_fit script st before events led (inl deferred) = led_fit script (without st deferred.place) deferred.event led deferred.leads
entered_fit script st before events led (inr come) = led_fit script st come.event led come.leads

pub taken_fit : (script : Script) (st : Stood) (events_before events : List Event) (got_before got told : List Notice) (led : Led)
    → IsTaken script st events_before events got_before got told led → IsFitIntake script st.class led.item
taken_fit script st events_before events got_before got told led (inl t) = notice_fit script st t.notice led t.leads
taken_fit script st events_before events got_before got told led (inr t) = entered_fit script st events_before events led t.entered

-- More behind what was taken.
pub fit_more : (script : Script) (class : Option ℕ) (taken more : List Taken) → IsFitIntake script class taken
    → IsFitIntake script (class_behind script class (events_in taken)) more → IsFitIntake script class (taken ++ more)
fit_more script class [] more first rest = rest
fit_more script class (delivered e ∷ taken) more first rest = (first.0, fit_more script (class_after script class e) taken more first.1 rest)
fit_more script class (noticed n ∷ taken) more first rest = fit_more script class taken more first rest
fit_more script class (wanted e ∷ taken) more first rest = (first.0, fit_more script class taken more first.1 rest)

-- The events that are logged are those that were taken.
pub events_logged : (k : Kind) (f : Front) (taken : List Taken) → events (delivered_in k f taken) ≡ events_in taken
events_logged k f [] = refl
events_logged k f (delivered e ∷ taken) = ap (λ (es : List Event). e ∷ es) (events_logged k (takes k f (delivered e)) taken)
events_logged k f (noticed n ∷ taken) = events_logged k (takes k f (noticed n)) taken
events_logged k f (wanted e ∷ taken) = events_logged k (takes k f (wanted e)) taken
