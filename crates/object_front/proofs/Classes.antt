-- A turn keeps the class that a front has by what was delivered.
use Rattle.std.proofs.Common.{◌≡◌, ◌∙◌, sym, ap, subst, refl, ⊎_elim, true≢false, ℕ, Bool, List, [], ◌∷◌, ◌++◌, append-nil, Option, Some, None}
use Rattle.std.specs.Prelude.{false, true}
use Rattle.do_tree.specs.Tree.{Script}
use Rattle.timeline.specs.Intake as intake
use Rattle.timeline.specs.Intake.{Kind, Front, Taken, delivered_by, delivered_in}
use Rattle.timeline.specs.Logs.{Fronted, fronted}
use Rattle.timeline.specs.declared.event.Event.{Event}
use Rattle.timeline.specs.declared.event.Event.TheVariants as event
use Rattle.timeline.specs.declared.notice.Notice.{Notice}
use Rattle.object_front.specs.Evaluated.{seen}
use Rattle.front_half.specs.Standing.{Stood, IsClass, IsTakenBy, IsCutShort, kind_in, is_stopped}
use Rattle.front_half.specs.Taking.{Led, IsLedBy, fits, sticks_at, doing, does, class_after, on_event, without}
use Rattle.front_half.specs.Turning.{IsTaken, TakesDeferred, TakesEvent, TakesNone, TakesNotice, Turns, Halts}
use Rattle.object_front.specs.declared.evaluated.Evaluated.{Evaluated}
use Rattle.front_half.specs.declared.half.Half.{Half}
use Rattle.front_half.specs.declared.testing.Doing.{Doing}
use Rattle.front_half.specs.declared.testing.Doing.TheVariants.{Delivers, Wants, Defers, Drops, Sticks}
use Rattle.object_front.proofs.Coming.{grown_by, mode_goes}
use Rattle.object_front.specs.Came.{events}
use Rattle.object_front.specs.Classed.{ClassComes, IsClassed, class_behind, class_by}

module _ (script : Script) where
  behind_more : (class : Option ℕ) (es more : List Event) → class_behind script class (es ++ more) ≡ class_behind script (class_behind script class es) more
  behind_more class [] more = refl
  behind_more class (e ∷ es) more = behind_more (class_after script class e) es more

  module _ (k : Kind) where
    -- An event that is delivered is the one behind which the class is another.
    does_class : (st : Stood) (e : Event) (case : Doing)
        → (does script st e case).stood.class ≡ class_behind script st.class (events (delivered_in k st.front (does script st e case).item))
    does_class st e Delivers = refl
    does_class st e Wants = refl
    does_class st e Defers = refl
    does_class st e Drops = refl
    does_class st e Sticks = refl

    notice_class : (st : Stood) (n : Notice) (led : Led) → IsLedBy script st n led → led.stood.class ≡ class_behind script st.class (events (delivered_in k st.front led.item))
    notice_class st n _ (fits fit) = refl
    notice_class st n _ (sticks_at unfit) = refl

    led_class : (st : Stood) (before got : List Event) (notices_before notices told : List Notice) (led : Led)
        → IsTaken script st before got notices_before notices told led → led.stood.class ≡ class_behind script st.class (events (delivered_in k st.front led.item))
    led_class st before got notices_before notices told led taken =
        ⊎_elim
        (λ (by : TakesNotice script st before got notices_before notices led). notice_class st by.notice led by.leads)
        (λ (by : TakesNone script st before got notices_before notices told led). ⊎_elim
        (λ (enters : TakesDeferred script st before got led).
        subst (λ (other : Led). other.stood.class ≡ class_behind script st.class (events (delivered_in k st.front other.item))) (sym enters.leads)
        (does_class (without st enters.place) enters.event _))
        (λ (enters : TakesEvent script st before got led).
        subst (λ (other : Led). other.stood.class ≡ class_behind script st.class (events (delivered_in k st.front other.item))) (sym enters.leads)
        (does_class st enters.event _))
        by.entered)
        taken

  -- Another object isn't bound once there is a class.
  does_stays : (st : Stood) (e : Event) (case : Doing) → class_after script st.class e ≡ st.class → (does script st e case).stood.class ≡ st.class
  does_stays st e Delivers same = same
  does_stays st e Wants same = refl
  does_stays st e Defers same = refl
  does_stays st e Drops same = refl
  does_stays st e Sticks same = refl

  event_stays : (st : Stood) (class : ℕ) (e : Event) → (on_event script (record st { class = Some class }) e).stood.class ≡ Some class
  event_stays st class (event.Bind identity) = refl
  event_stays st class (event.Call from method args depth at) =
      does_stays (record st { class = Some class }) (event.Call from method args depth at) _ refl
  event_stays st class (event.Answer incarnation number result at) =
      does_stays (record st { class = Some class }) (event.Answer incarnation number result at) _ refl
  event_stays st class (event.Tick at) = does_stays (record st { class = Some class }) (event.Tick at) _ refl
  event_stays st class (event.Evict at) = does_stays (record st { class = Some class }) (event.Evict at) _ refl

  on_stays : (st : Stood) (class : ℕ) (e : Event) → st.class ≡ Some class → (on_event script st e).stood.class ≡ Some class
  on_stays st class e is =
      subst (λ (x : Option ℕ). (on_event script (record st { class = x }) e).stood.class ≡ Some class) (sym is) (event_stays st class e)

  led_by_stays : (st : Stood) (class : ℕ) (n : Notice) (led : Led) → IsLedBy script st n led → st.class ≡ Some class → led.stood.class ≡ Some class
  led_by_stays st class n _ (fits fit) is = is
  led_by_stays st class n _ (sticks_at unfit) is = is

  led_stays : (st : Stood) (class : ℕ) (before got : List Event) (notices_before notices told : List Notice) (led : Led)
      → IsTaken script st before got notices_before notices told led → st.class ≡ Some class → led.stood.class ≡ Some class
  led_stays st class before got notices_before notices told led taken is =
      ⊎_elim
      (λ (by : TakesNotice script st before got notices_before notices led). led_by_stays st class by.notice led by.leads is)
      (λ (by : TakesNone script st before got notices_before notices told led). ⊎_elim
      (λ (enters : TakesDeferred script st before got led).
      subst (λ (other : Led). other.stood.class ≡ Some class) (sym enters.leads) (on_stays (without st enters.place) class enters.event is))
      (λ (enters : TakesEvent script st before got led).
      subst (λ (other : Led). other.stood.class ≡ Some class) (sym enters.leads) (on_stays st class enters.event is))
      by.entered)
      taken

  -- The class by what is logged, where the turn is logged.
  pub grown_class : (k : Kind) (first : Option ℕ) (from : intake.Front) (taken : List Taken) (st : Stood) (before got : List Event) (notices_before notices told : List Notice)
      (led : Led) (old new : Fronted) → IsTaken script st before got notices_before notices told led → IsTakenBy k from taken st.front old
      → new.delivered ≡ delivered_in k from (taken ++ led.item) → st.class ≡ class_by script first old → led.stood.class ≡ class_by script first new
  grown_class k first from taken st before got notices_before notices told led old new takes by delivered was =
      led_class k st before got notices_before notices told led takes
      ∙ ap (λ (x : Option ℕ). class_behind script x (events (delivered_in k st.front led.item))) was
      ∙ sym (behind_more first (events old.delivered) (events (delivered_in k st.front led.item)))
      ∙ ap (class_behind script first) (sym (grown_by (λ f t. delivered_by f.incarnation t) k from st.front taken led.item _ _ by.at by.delivered delivered))

goes_on : (script : Script) (class : ℕ) (first : Option ℕ) (from : intake.Front) (taken : List Taken) (old new : Half Evaluated) (st : Stood)
    (before got : List Event) (notices_before notices told : List Notice) → is_stopped old ≡ false → IsClassed script first old st
    → IsTakenBy (kind_in script class) from taken st.front (fronted old.log)
    → (turns : Turns seen script old new st before got notices_before notices told) → IsClass turns.led.stood.class class
    → IsClassed script first new turns.led.stood
goes_on script class first from taken old new st before got notices_before notices told runs has by turns is =
    let now : turns.led.stood.class ≡ class_by script first (fronted new.log) =
    grown_class script (kind_in script class) first from taken st before got notices_before notices told turns.led (fronted old.log) (fronted new.log)
    turns.taken by (turns.moves.taken class from taken is by).delivered (has.now runs) in
    record { now = λ _. now; stays = λ c some. now ∙ some }

halts : (script : Script) (class : ℕ) (first : Option ℕ) (from : intake.Front) (taken : List Taken) (old new : Half Evaluated) (st : Stood)
    (before got : List Event) (notices_before notices told : List Notice) → is_stopped old ≡ false → IsClassed script first old st
    → IsTakenBy (kind_in script class) from taken st.front (fronted old.log)
    → (stops : Halts script old new st before got notices_before notices told) → IsClass stops.led.stood.class class
    → IsClassed script first new stops.led.stood
halts script class first from taken old new st before got notices_before notices told runs has by stops is =
    ⊎_elim
    (λ same. record {
      now = λ goes. absurd (true≢false (sym stops.stops.stopped ∙ goes));
      stays = λ c some. led_stays script st c before got notices_before notices told stops.led stops.taken
          (has.now runs ∙ ap (class_by script first) (sym same) ∙ some);
    })
    (λ logs. record {
      now = λ goes. absurd (true≢false (sym stops.stops.stopped ∙ goes));
      stays = λ c some. grown_class script (kind_in script class) first from taken st before got notices_before notices told stops.led (fronted old.log) (fronted new.log)
          stops.taken by (logs.1 class from taken is by).delivered (has.now runs) ∙ some;
    })
    stops.stops.cut

pub class_comes : ClassComes
class_comes = record { goes_on = goes_on; halts = halts }
