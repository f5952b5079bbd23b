-- The row of an object that rests: it is quiet, or its front stands still at an answer to what it didn't ask.
use Rattle.std.proofs.Common.{◌≡◌, ◌∙◌, ap, sym, refl, subst, inl, inr, ℕ, List, [], ◌++◌, append-nil, Option, Some, None}
use Rattle.std.specs.Prelude.{Bool, true, false, ◌⊎◌}
use Rattle.std.specs.List.{All, Contains}
use Rattle.std.proofs.lemmas.Grind.{flat_map-append}
use Rattle.std.proofs.lemmas.List.Elements.{All-contains_itself, All-weaker, Contains-append_left}
use Rattle.batch_journal.specs.Moments.{IsTold}
use Rattle.do_tree.specs.Tree.{Script}
use Rattle.lane.specs.Lanes.{Both, sent_on}
use Rattle.object_core.specs.Classless.{OneWithoutClass}
use Rattle.object_core.specs.Dropping.{AreFitting}
use Rattle.object_core.specs.Fetches.{IsUnanswered, OneWaitsForFetches}
use Rattle.object_core.specs.Laws.{GoesOn, HasNothingToDo, OneHasLetGo, OneIsQuiet}
use Rattle.object_core.specs.Leaving.{OneLeaves, OneRests, left_of}
use Rattle.object_core.specs.Once.{OneServesOnce}
use Rattle.object_core.specs.One.{HasItsClass, IsGivenUnasked, TellsNow, class_in}
use Rattle.object_core.specs.Owing.{OneSticks}
use Rattle.object_core.specs.declared.object.Core.{Core}
use Rattle.object_front.specs.Came.{AreCome, kept}
use Rattle.object_front.specs.Classed.{class_by}
use Rattle.object_front.specs.Evaluated.{seen}
use Rattle.front_half.specs.Remaining.{left_at}
use Rattle.front_half.specs.Standing.{IsClass, IsHalf}
use Rattle.object_messages.specs.Exact.{IsServedOnce, callers}
use Rattle.object_messages.specs.Naming.{answered_by, answered_in, asked_in, called_in, messages_of, replied_in}
use Rattle.output_gate.specs.Storing.{IsDiskOf}
use Rattle.output_gate.specs.Telling.{opened_map}
use Rattle.storage_map.specs.Limits.{Object}
use Rattle.timeline.specs.Headline.{IsQuiet}
use Rattle.timeline.specs.Logs.{Backed, Fronted, backed, fronted}
use Rattle.timeline.specs.declared.caller.Caller.{Caller}
use Rattle.timeline.specs.declared.event.Event.{Event}
use Rattle.timeline.specs.declared.message.Message.{Message}
use Rattle.timeline.specs.declared.notice.Waits.{Waits}
use Rattle.timeline.specs.declared.notice.Waits.TheVariants as waits
use Rattle.host_core.proofs.Quiet.{all_given, all_routed, nothing_to_do, row_lets_go}
use Rattle.host_core.proofs.Untouched.{row_untouched}
use Rattle.host_core.specs.Closing.{IsLeftOf, IsSettledOf}
use Rattle.host_core.specs.Quiet.{IsSettled, WaitsForRouted}
use Rattle.host_core.specs.Slots.{IsGoing, IsResting}
use Rattle.host_core.specs.declared.report.SlotReport.{SlotReport}

-- a class that a front may have
class_now : (has : Option ℕ) → (class : ℕ) × IsClass has class
class_now None = (0, tt)
class_now (Some class) = (class, refl)

-- what was answered by the first events was answered by all
answered_more : (first rest : List Event) (asked : ℕ × ℕ) → Contains (answered_in first) asked → Contains (answered_in (first ++ rest)) asked
answered_more first rest asked has =
    subst (λ (xs : List (ℕ × ℕ)). Contains xs asked) (sym (flat_map-append answered_by first rest))
    (Contains-append_left (answered_in first) (answered_in rest) asked has)

module _ {D : Type 0} (moment_of : D → ℕ) (left_since : D → ℕ → List ℕ → Type 0) (told : D → Option (List ℕ)) (image : D → List ℕ → Type 0) (faults_of : D → ℕ)
    (core : Core D) (row : SlotReport D) (store_is : IsDiskOf core.back.store row.store)
    (front_is : fronted row.front ≡ fronted core.front.half.log) (back_is : backed row.back ≡ backed core.back.log)
    (quiet : OneIsQuiet moment_of left_since told image faults_of core) (leaves : OneLeaves moment_of left_since told image faults_of core)
    (rests : OneRests moment_of left_since told image faults_of core) (sticks : OneSticks moment_of left_since told image faults_of core)
    (serves : OneServesOnce moment_of left_since told image faults_of core) (lets_go : OneHasLetGo moment_of left_since told image faults_of core)
    (waits_for : OneWaitsForFetches moment_of left_since told image faults_of core) (classless : OneWithoutClass moment_of left_since told image faults_of core) where
  module _ (limit : ℕ) (script : Script) (content : Option (List ℕ)) (named : Option Object) (posts : List Event) (routed : List Message) (inbox : Both Event) (out : Both Message)
      (going : IsGoing moment_of left_since told image faults_of limit script content named posts routed core inbox out) (resting : IsResting script core inbox)
      (none : out.waiting ≡ []) (remaining : List (Caller × Waits)) (is_left : IsLeftOf core.front.half remaining)
      (is_told : IsTold (told row.store)) (has : HasItsClass script named) where
    tells : TellsNow told core.back
    tells = (row.store, store_is, is_told)

    has_class : HasItsClass script going.origin.object
    has_class = subst (λ (o : Option Object). HasItsClass script o) (sym going.begun.object) has

    nothing : HasNothingToDo script core
    nothing = nothing_to_do script core resting.settled

    -- all that was posted went to the object
    posts_are : sent_on core.inbox ≡ posts
    posts_are = all_given moment_of left_since told image faults_of core limit script content named posts routed inbox out going resting

    -- ---- its front stands still
    row_unasked : IsGivenUnasked (fronted core.front.half.log) core.inbox.got → IsGivenUnasked (fronted row.front) posts
    row_unasked given = record {
      asked = given.asked;
      given = subst (λ (es : List Event). Contains (answered_in es) given.asked) posts_are (answered_more core.inbox.got core.inbox.waiting given.asked given.given);
      unasked = subst (λ (log : Fronted). Contains (asked_in (messages_of log.sent)) given.asked → ⊥) (sym front_is) given.unasked;
    }

    -- ---- its front goes on
    module _ (fits : core.front.half.stuck ≡ false) where
      goes : GoesOn core
      goes = record { front = resting.settled.front_goes; back = resting.settled.back_goes; fits = fits }

      half : IsHalf seen script core.front.half going.one.st
      half = going.one.front_stands resting.settled.front_goes

      class_is : (class : ℕ) → IsClass (class_by script (class_in script named) (fronted row.front)) class → IsClass going.one.st.class class
      class_is class is =
          subst (λ (o : Option ℕ). IsClass o class)
          (ap (λ (o : Option Object). class_by script (class_in script o) (fronted row.front)) (sym going.begun.object)
          ∙ ap (λ (log : Fronted). class_by script (class_in script going.origin.object) log) front_is ∙ sym (going.one.classed.now resting.settled.front_goes)) is

      core_quiet : (class : ℕ) → IsClass going.one.st.class class → (core.inbox.waiting ≡ [])
          × IsQuiet script class (opened_map going.origin.start) (fronted core.front.half.log) (backed core.back.log) core.inbox.got (sent_on core.out)
      core_quiet class is = quiet script going.origin tells going.one class is has_class goes nothing going.begun.left

      all_got : core.inbox.got ≡ posts
      all_got =
          let class = class_now going.one.st.class in
          sym (append-nil core.inbox.got) ∙ ap (λ (es : List Event). core.inbox.got ++ es) (sym (core_quiet class.0 class.1).0) ∙ posts_are

      row_quiet : (class : ℕ) → IsClass going.one.st.class class
          → IsQuiet script class (opened_map going.origin.start) (fronted row.front) (backed row.back) posts routed
      row_quiet class is =
          subst (λ (log : Backed). IsQuiet script class (opened_map going.origin.start) (fronted row.front) log posts routed) (sym back_is)
          (subst (λ (log : Fronted). IsQuiet script class (opened_map going.origin.start) log (backed core.back.log) posts routed) (sym front_is)
          (subst (λ (ms : List Message). IsQuiet script class (opened_map going.origin.start) (fronted core.front.half.log) (backed core.back.log) posts ms)
          (all_routed moment_of left_since told image faults_of core limit script content named posts routed inbox out going resting none)
          (subst (λ (es : List Event). IsQuiet script class (opened_map going.origin.start) (fronted core.front.half.log) (backed core.back.log) es (sent_on core.out)) all_got
          (core_quiet class is).1)))

      row_left : (class : ℕ) → IsClass going.one.st.class class
          → remaining ≡ left_of script class (opened_map going.origin.start) (fronted row.front) (backed row.back) (kept going.one.st)
      row_left class is =
          is_left script going.one.st half (rests script going.origin tells going.one class is has_class goes nothing)
          ∙ leaves script going.origin tells going.one class is has_class goes nothing
          ∙ ap (λ (log : Fronted). left_of script class (opened_map going.origin.start) log (backed core.back.log) (kept going.one.st)) (sym front_is)
          ∙ ap (λ (log : Backed). left_of script class (opened_map going.origin.start) (fronted row.front) log (kept going.one.st)) (sym back_is)

      row_come : AreCome posts (fronted row.front) (kept going.one.st) []
      row_come =
          subst (λ (es : List Event). AreCome es (fronted row.front) (kept going.one.st) []) all_got
          (subst (λ (log : Fronted). AreCome core.inbox.got log (kept going.one.st) []) (sym front_is)
          (subst (λ (lost : List Event). AreCome core.inbox.got (fronted core.front.half.log) (kept going.one.st) lost)
          (going.one.has_got.none_lost resting.settled.front_goes (sym half.stuck ∙ fits)) going.one.has_got.come))

      row_once : called_in (fronted row.front).dropped ≡ [] → IsServedOnce (called_in posts) (replied_in routed) (callers remaining)
      row_once dropped_none =
          let class = class_now going.one.st.class in
          let once : IsServedOnce (called_in core.inbox.got) (replied_in (sent_on core.out)) (callers (left_at script going.one.st)) =
          serves script going.origin tells going.one has_class goes nothing going.begun.left (subst (λ (log : Fronted). called_in log.dropped ≡ []) front_is dropped_none) in
          subst (λ (es : List Event). IsServedOnce (called_in es) (replied_in routed) (callers remaining)) all_got
          (subst (λ (ms : List Message). IsServedOnce (called_in core.inbox.got) (replied_in ms) (callers remaining))
          (all_routed moment_of left_since told image faults_of core limit script content named posts routed inbox out going resting none)
          (subst (λ (items : List (Caller × Waits)). IsServedOnce (called_in core.inbox.got) (replied_in (sent_on core.out)) (callers items))
          (sym (is_left script going.one.st half (rests script going.origin tells going.one class.0 class.1 has_class goes nothing))) once))

      -- what a left call waits for was routed, and got no answer
      waits_at : AreFitting script (class_in script named) posts → (from : Caller) (incarnation number : ℕ)
          → Contains (left_at script going.one.st) (from, waits.Fetch incarnation number)
          → IsUnanswered posts routed (incarnation, number)
      waits_at fit from incarnation number has =
          let own : AreFitting script (class_in script going.origin.object) core.inbox.got =
          subst (λ (o : Option Object). AreFitting script (class_in script o) core.inbox.got) (sym going.begun.object)
          (subst (AreFitting script (class_in script named)) (sym all_got) fit) in
          subst (λ (es : List Event). IsUnanswered es routed (incarnation, number)) all_got
          (subst (λ (ms : List Message). IsUnanswered core.inbox.got ms (incarnation, number))
          (all_routed moment_of left_since told image faults_of core limit script content named posts routed inbox out going resting none)
          (waits_for script going.origin tells going.one has_class goes nothing going.begun.left own from incarnation number has))

      each_waits : AreFitting script (class_in script named) posts → (item : Caller × Waits) → Contains (left_at script going.one.st) item → WaitsForRouted posts routed item
      each_waits fit (from, waits.Fetch incarnation number) has = waits_at fit from incarnation number has
      each_waits fit (from, waits.Call class name) has = tt
      each_waits fit (from, waits.Block) has = tt

      row_waits : AreFitting script (class_in script named) posts → All (WaitsForRouted posts routed) remaining
      row_waits fit =
          let class = class_now going.one.st.class in
          subst (All (WaitsForRouted posts routed))
          (sym (is_left script going.one.st half (rests script going.origin tells going.one class.0 class.1 has_class goes nothing)))
          (All-weaker (Contains (left_at script going.one.st)) (WaitsForRouted posts routed) (each_waits fit) (left_at script going.one.st)
          (All-contains_itself (left_at script going.one.st)))

      row_settled : IsSettled limit script content named posts routed remaining row
      row_settled = record {
        origin = going.origin;
        begun = going.begun;
        keeps = kept going.one.st;
        come = row_come;
        quiet = λ class is. row_quiet class (class_is class is);
        left = λ class is. row_left class (class_is class is);
        once = row_once;
        let_go = row_lets_go moment_of left_since told image faults_of core row store_is front_is back_is lets_go limit script content named posts routed inbox out going resting none is_told has;
        waits = row_waits;
      }

    settled_as : (stuck : Bool) → core.front.half.stuck ≡ stuck
        → IsGivenUnasked (fronted row.front) posts ⊎ IsSettled limit script content named posts routed remaining row
    settled_as true is = inl (row_unasked (sticks script going.origin tells going.one resting.settled.front_goes is))
    settled_as false is = inr (row_settled is)

  pub is_settled_of : IsSettledOf moment_of left_since told image faults_of core row
  is_settled_of limit script content named posts routed inbox out going resting none remaining is_left = record {
    known = λ is_told has.
        settled_as limit script content named posts routed inbox out going resting none remaining is_left is_told has core.front.half.stuck refl;
    unknown = λ is_told unknown unposted.
        row_untouched moment_of left_since told image faults_of core row store_is front_is back_is classless limit script content named posts routed inbox out going resting none
        remaining is_left is_told unknown unposted;
  }
