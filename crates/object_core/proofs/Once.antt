-- Who called an object in which nothing is to be done got one reply or is left.
use Rattle.std.proofs.Common.{◌≡◌, ◌∙◌, ap, sym, refl, subst, true≢false, ℕ, zero, suc, List, [], ◌∷◌, ◌++◌, length, map, drop, Option, Some, None, unwrap_or}
use Rattle.std.proofs.lemmas.List.Elements.{Contains-append_right}
use Rattle.std.specs.List.{Contains}
use Rattle.std.specs.Prelude.{false}
use Rattle.do_tree.specs.Tree.{Script}
use Rattle.lane.specs.Lanes.{sent_on}
use Rattle.timeline.specs.History.{history}
use Rattle.timeline.specs.Intake.{Front, Kind, Mode, Taken, serves, down, opened}
use Rattle.timeline.specs.Left.{left}
use Rattle.timeline.specs.Logs.{Backed, Fronted, backed, fronted}
use Rattle.timeline.specs.Object.{Object, begun, ended, idle, waiting}
use Rattle.timeline.specs.Passed.{passed}
use Rattle.timeline.specs.Replies.{caller_of, unanswered}
use Rattle.timeline.specs.declared.caller.Caller.{Caller}
use Rattle.timeline.specs.declared.event.Event.{Event}
use Rattle.timeline.specs.declared.message.Message.{Message as Sent}
use Rattle.front_history.specs.Turns.{HalvesAreWhole}
use Rattle.front_turns.specs.Held.{life_in}
use Rattle.object_front.specs.Came.{AreCome, events, kept}
use Rattle.object_front.specs.Evaluated.{seen}
use Rattle.front_half.specs.Remaining.{left_at, object_at}
use Rattle.front_half.specs.Standing.{IsClass, IsHalf, IsTakenBy, Stood, kind_in}
use Rattle.front_half.specs.Taking.{waits}
use Rattle.object_messages.proofs.Leaving.{left_each, object_leaves}
use Rattle.object_messages.specs.Exact.{IsServedOnce, callers}
use Rattle.object_messages.specs.Laws.{gone}
use Rattle.object_messages.specs.Naming.{called_in, replied_in}
use Rattle.object_core.proofs.Owing.{first_of, passed_first, released_first}
use Rattle.object_core.proofs.Quiet.{has_let_go, is_newest, none_wanting, waits_not}
use Rattle.object_core.proofs.Serving.{serves_once}
use Rattle.object_core.specs.Laws.{GoesOn, HasLetGo, HasNothingToDo}
use Rattle.object_core.specs.Fitting.{IsFitIntake}
use Rattle.object_core.specs.One.{HasItsClass, IsOne, Origin, TellsNow, class_in}
use Rattle.object_core.specs.declared.object.Core.{Core}

-- The class of a front, or the first where it has none.
pub class_is : (known : Option ℕ) → IsClass known (unwrap_or known 0)
class_is None = tt
class_is (Some class) = refl

-- What a front that stands so leaves: those of its incarnation that it hasn't answered, and the deferred calls.
leaves_by : (script : Script) (class : ℕ) (front : Front) (deferred : List Event)
    → ((o : Object) → front.mode ≡ serves (idle o) → callers (left (life_in script class front.incarnation) o front.events front.said deferred)
    ≡ unanswered front.events front.said ++ called_in deferred)
    → (m : Mode) → front.mode ≡ m → waits m ≡ false
    → callers (left (life_in script class front.incarnation) (object_at m) front.events front.said deferred)
    ≡ unanswered front.events front.said ++ called_in deferred
leaves_by script class front deferred at_idle (serves (idle o)) is rests = at_idle o is
leaves_by script class front deferred at_idle (serves (waiting o t b)) is rests = absurd (true≢false rests)
leaves_by script class front deferred at_idle (serves (ended cause)) is rests = absurd (true≢false rests)
leaves_by script class front deferred at_idle (down call) is rests = object_leaves (life_in script class front.incarnation) (begun None) front.events front.said deferred tt

-- The events of the items behind some are events of all.
behind_called : (n : ℕ) (items : List (ℕ × Event)) (c : Caller) → Contains (called_in (map (λ (d : ℕ × Event). d.1) (drop n items))) c
    → Contains (called_in (events items)) c
behind_called zero items c is = is
behind_called (suc n) [] c is = is
behind_called (suc n) (item ∷ items) c is = Contains-append_right (caller_of item.1) (called_in (events items)) c (behind_called n items c is)

module _ {D : Type 0} (moment_of : D → ℕ) (left_since : D → ℕ → List ℕ → Type 0) (told : D → Option (List ℕ)) (image : D → List ℕ → Type 0) (faults_of : D → ℕ)
    (core : Core D) (script : Script) (origin : Origin) (one : IsOne moment_of left_since told image faults_of script origin core)
    (laws : HalvesAreWhole) (tells : TellsNow told core.back) (has : HasItsClass script origin.object) (goes : GoesOn core) (nothing : HasNothingToDo script core)
    (none_left : origin.left ≡ []) (none_dropped : called_in (fronted core.front.half.log).dropped ≡ []) where
  abbrev st : Stood
  st = one.st

  abbrev class : ℕ
  class = unwrap_or one.st.class 0

  abbrev log : Fronted
  log = fronted core.front.half.log

  abbrev back : Backed
  back = backed core.back.log

  abbrev kind : Kind
  kind = kind_in script class

  half : IsHalf seen script core.front.half st
  half = one.front_stands goes.front

  rests : waits st.front.mode ≡ false
  rests = waits_not moment_of left_since told image faults_of core script origin one tells class (class_is one.st.class) has goes.front goes.back nothing laws goes.fits

  let_go : HasLetGo log back (sent_on core.out)
  let_go = has_let_go moment_of left_since told image faults_of core script origin one tells class (class_is one.st.class) has goes.front goes.back nothing none_left

  newest : st.front.incarnation ≡ suc (length back.stops)
  newest = is_newest moment_of left_since told image faults_of core script origin one tells class (class_is one.st.class) has goes.front goes.back nothing laws goes.fits

  took : (taken : List Taken) × IsTakenBy kind (opened one.alarm) taken st.front log × IsFitIntake script (class_in script origin.object) taken
  took = one.has_taken goes.front class (class_is one.st.class)

  -- What left is what passes.
  gone_is : sent_on core.out ≡ gone (passed (history log back))
  gone_is =
      let_go.left ∙ sym (released_first core.back.log.released.items) ∙ ap (λ (both : List (Sent × ℕ)). map first_of both) let_go.released
      ∙ passed_first (passed (history log back))

  -- It keeps what is deferred, and nothing was lost.
  keeps_deferred : kept st ≡ st.deferred
  keeps_deferred = ap (λ (es : List Event). es ++ st.deferred) (none_wanting st.front.mode rests)

  come : AreCome core.inbox.got log st.deferred []
  come =
      subst (λ (keeps : List Event). AreCome core.inbox.got log keeps []) keeps_deferred
      (subst (λ (lost : List Event). AreCome core.inbox.got log (kept st) lost) (one.has_got.none_lost goes.front (sym half.stuck ∙ goes.fits)) one.has_got.come)

  left_is : callers (left_at script st) ≡ unanswered st.front.events st.front.said ++ called_in st.deferred
  left_is =
      leaves_by script class st.front st.deferred
      (λ o is.
      subst (λ (f : Front). callers (left (life_in script class f.incarnation) o f.events f.said st.deferred) ≡ unanswered f.events f.said ++ called_in st.deferred) took.1.at
      (left_each kind one.alarm took.0 o st.deferred took.1.gate (ap (λ (f : Front). f.mode) took.1.at ∙ is)))
      st.front.mode refl rests

  own_called : (c : Caller) → Contains (called_in st.front.events) c → Contains (called_in (events log.delivered)) c
  own_called c is =
      behind_called core.front.half.first_delivered log.delivered c (subst (λ (es : List Event). Contains (called_in es) c) (sym half.events) is)

  pub one_serves : IsServedOnce (called_in core.inbox.got) (replied_in (sent_on core.out)) (callers (left_at script st))
  one_serves =
      serves_once kind one.alarm took.0 st.front log took.1 back let_go.taken newest (sent_on core.out) gone_is core.inbox.got st.deferred come none_dropped
      own_called (left_at script st) left_is
