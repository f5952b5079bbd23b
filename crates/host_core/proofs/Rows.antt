-- The row of an object, and those of all.
use Rattle.std.proofs.Common.{◌≡◌, ⊎_elim, inl, inr, ℕ, List, [], ◌∷◌, ◌++◌, length, map, Option, Some, None, refl, sym, ap, subst, ◌∙◌, arith, append_assoc}
use Rattle.std.specs.Prelude.{Bool, true, false, slice_get}
use Rattle.std.specs.List.{Contains}
use Rattle.std.proofs.lemmas.Bool.{cases_lt}
use Rattle.std.proofs.lemmas.List.Elements.{All-cons, All-head, All-nil, All-tail, Contains-append_left, Contains-push}
use Rattle.std.proofs.lemmas.Option.{slice_get_within}
use Rattle.batch_journal.specs.Moments.{IsTold}
use Rattle.do_tree.specs.Tree.{Script}
use Rattle.lane.specs.Lanes.{Both, sent_on}
use Rattle.mailbox.specs.Posting.{of_slot}
use Rattle.object_core.specs.Classless.{HasDoneNothing, OneWithoutClass}
use Rattle.object_core.specs.Dropping.{AreFitting}
use Rattle.object_core.specs.Drops.{DropsOnly, OneDrops}
use Rattle.object_core.specs.Laws.{HasIntake, OneHasClass, OneHasGot, OneHasIntake, OneHasLeft, OneHasTold, OneIsHistory, OneIsLimited}
use Rattle.object_core.specs.Limited.{IsFullAt}
use Rattle.object_core.specs.One.{CanRun, TellsNow, class_in, messages}
use Rattle.object_core.specs.Owing.{IsOwed, OneIsOwed}
use Rattle.object_core.specs.Unended.{OneTellsNoEnd}
use Rattle.object_messages.specs.Ends.{TellNoEnd}
use Rattle.object_messages.specs.Naming.{asked_in, messages_of}
use Rattle.object_messages.specs.Unmoved.{AreAnswers, is_answer}
use Rattle.object_core.specs.declared.object.Core.{Core}
use Rattle.object_front.specs.Came.{AreCome, kept}
use Rattle.object_front.specs.Classed.{class_by}
use Rattle.object_front.specs.Evaluated.{seen}
use Rattle.front_half.specs.Standing.{IsClass, IsHalf, Stood, is_stopped}
use Rattle.front_half.specs.Turning.{CanTurn}
use Rattle.object_front.specs.declared.evaluated.Evaluated.{Evaluated}
use Rattle.front_half.specs.declared.half.Half.{Half}
use Rattle.output_gate.proofs.Written.{written_history}
use Rattle.output_gate.specs.Storing.{IsDiskOf}
use Rattle.output_gate.specs.Telling.{HasTold, opened_map}
use Rattle.output_gate.specs.Kept.{MayBe}
use Rattle.output_gate.specs.Written.{AreFilled}
use Rattle.placement.specs.Slots.{Slots, object_at}
use Rattle.storage_map.specs.Limits.{Object}
use Rattle.timeline.specs.Headline.{IsHistory, IsPrefix}
use Rattle.timeline.specs.History.{history as logged}
use Rattle.timeline.specs.Logs.{Backed, Fronted, backed, fronted}
use Rattle.timeline.specs.Switch.{SwitchLog}
use Rattle.timeline.specs.declared.back_log.Stop.{Stop}
use Rattle.timeline.specs.declared.caller.Caller.{Caller}
use Rattle.timeline.specs.declared.entry.Body.TheVariants as body
use Rattle.timeline.specs.declared.entry.Entry.{Entry}
use Rattle.timeline.specs.declared.event.Event.{Event}
use Rattle.timeline.specs.declared.message.Message.{Message}
use Rattle.timeline.specs.declared.notice.Waits.{Waits}
pub use Rattle.host_core.proofs.Found.{item_at}
use Rattle.host_core.proofs.Pushed.{before_push, next_at, push_before, push_last, push_within}
use Rattle.host_core.proofs.Remaining.{AreLeftBy}
use Rattle.host_core.proofs.Silent.{recovers_as_opened, silent_history, silent_intake}
use Rattle.host_core.specs.Closing.{AreSettledUnless, IsLetGoOf, IsRowOf, IsSettledOf}
use Rattle.host_core.specs.Objects.{ObjectsTell, AreGoing, AreResting, AreRouted, AreSlots, CanAllRun}
use Rattle.host_core.specs.Quiet.{AreLetGo, IsOfNoClass, RowsTell, remaining_of}
use Rattle.host_core.specs.Rows.{AreRows, AreServed, IsObjectIn, RecoversAsOpened}
use Rattle.host_core.specs.Slots.{IsSlot}
use Rattle.host_core.specs.declared.objects.Objects.{Objects}
use Rattle.host_core.specs.declared.report.SlotReport.{SlotReport}

-- a front stands, or memory was wanting
can_turn_by : (script : Script) (front : Half Evaluated) (st : Stood) (stopped : Bool) → is_stopped front ≡ stopped → (is_stopped front ≡ false → IsHalf seen script front st)
    → CanTurn seen script front
can_turn_by script front st true is stands = inl is
can_turn_by script front st false is stands = inr (st, stands is)

pub can_turn : (script : Script) (front : Half Evaluated) (st : Stood) → (is_stopped front ≡ false → IsHalf seen script front st) → CanTurn seen script front
can_turn script front st = can_turn_by script front st (is_stopped front) refl

-- what has no item is empty
none_there : {X : Type 0} (x : X) → Contains {X = X} [] x → ⊥
none_there x there = omega (arith, there.1)

none_contained : {X : Type 0} (xs : List X) → ((x : X) → Contains xs x → ⊥) → xs ≡ []
none_contained [] away = refl
none_contained (x ∷ xs) away = absurd (away x (Contains-append_left (x ∷ []) xs x (Contains-push [] x)))

-- the first of some answers are answers
pub first_answers : (first rest : List Event) → AreAnswers (first ++ rest) → AreAnswers first
first_answers [] rest all = All-nil (λ (e : Event). is_answer e ≡ true)
first_answers (e ∷ first) rest all =
    All-cons (λ (x : Event). is_answer x ≡ true) e first (All-head (λ (x : Event). is_answer x ≡ true) e (first ++ rest) all)
    (first_answers first rest (All-tail (λ (x : Event). is_answer x ≡ true) e (first ++ rest) all))

-- the class that is known
class_is : (has : Option ℕ) (class : ℕ) → has ≡ Some class → IsClass has class
class_is has class is = subst (λ (o : Option ℕ). IsClass o class) (sym is) refl

module _ {D : Type 0} (moment_of : D → ℕ) (left_since : D → ℕ → List ℕ → Type 0) (told : D → Option (List ℕ)) (image : D → List ℕ → Type 0) (faults_of : D → ℕ)
    (core : Core D) (row : SlotReport D) (store_is : IsDiskOf core.back.store row.store) (identity_is : row.identity ≡ core.back.identity)
    (front_is : fronted row.front ≡ fronted core.front.half.log) (back_is : backed row.back ≡ backed core.back.log)
    (history : OneIsHistory moment_of left_since told image faults_of core) (intake : OneHasIntake moment_of left_since told image faults_of core)
    (got : OneHasGot moment_of left_since told image faults_of core) (class : OneHasClass moment_of left_since told image faults_of core)
    (left : OneHasLeft moment_of left_since told image faults_of core) (tells : OneHasTold moment_of left_since told image faults_of core)
    (owed : OneIsOwed moment_of left_since told image faults_of core) (limited : OneIsLimited moment_of left_since told image faults_of core)
    (unended : OneTellsNoEnd moment_of left_since told image faults_of core) (drops : OneDrops moment_of left_since told image faults_of core)
    (classless : OneWithoutClass moment_of left_since told image faults_of core) where
  module _ (limit : ℕ) (script : Script) (content : Option (List ℕ)) (named : Option Object) (posts : List Event) (routed : List Message) (inbox : Both Event) (out : Both Message)
      (slot : IsSlot moment_of left_since told image faults_of limit script content named posts routed core inbox out) where
    object_in : IsObjectIn named row
    object_in =
        ⊎_elim (λ same. inl (identity_is ∙ same ∙ slot.begun.object))
        (λ bound. inr (
          sym slot.begun.object ∙ bound.0,
          bound.1,
          identity_is ∙ bound.2,
          subst (λ (log : Backed). Contains (map (λ (e : Entry). e.body) log.taken) (body.Bind bound.1)) (sym back_is) bound.3,
        ))
        (class script slot.origin slot.one).named

    class_of : (c : ℕ) → class_by script (class_in script named) (fronted row.front) ≡ Some c → IsClass slot.one.st.class c
    class_of c is =
        class_is slot.one.st.class c ((class script slot.origin slot.one).classed.stays c
        (subst (λ (log : Fronted). class_by script (class_in script slot.origin.object) log ≡ Some c) front_is
        (subst (λ (o : Option Object). class_by script (class_in script o) (fronted row.front) ≡ Some c) (sym slot.begun.object) is)))

    done_nothing : IsTold (told row.store) → class_by script (class_in script named) (fronted row.front) ≡ None
        → HasDoneNothing (fronted row.front) (backed row.back)
    done_nothing is_told none =
        subst (λ (log : Backed). HasDoneNothing (fronted row.front) log) (sym back_is)
        (subst (λ (log : Fronted). HasDoneNothing log (backed core.back.log)) (sym front_is)
        ((classless script slot.origin (row.store, store_is, is_told) slot.one).unbound
        (subst (λ (log : Fronted). class_by script (class_in script slot.origin.object) log ≡ None) front_is
        (subst (λ (o : Option Object). class_by script (class_in script o) (fronted row.front) ≡ None) (sym slot.begun.object) none))))

    known_history : IsTold (told row.store) → (c : ℕ) → class_by script (class_in script named) (fronted row.front) ≡ Some c
        → IsHistory script c (opened_map slot.origin.start) (fronted row.front) (backed row.back)
    known_history is_told c is =
        subst (λ (log : Backed). IsHistory script c (opened_map slot.origin.start) (fronted row.front) log) (sym back_is)
        (subst (λ (log : Fronted). IsHistory script c (opened_map slot.origin.start) log (backed core.back.log)) (sym front_is)
        (history script slot.origin (row.store, store_is, is_told) slot.one c (class_of c is)))

    known_intake : IsTold (told row.store) → (c : ℕ) → class_by script (class_in script named) (fronted row.front) ≡ Some c
        → HasIntake script c (opened_map slot.origin.start) (fronted row.front)
    known_intake is_told c is =
        subst (λ (log : Fronted). HasIntake script c (opened_map slot.origin.start) log) (sym front_is)
        (intake script slot.origin (row.store, store_is, is_told) slot.one c (class_of c is))

    tells_in : IsTold (told row.store)
        → HasTold moment_of left_since faults_of row.identity slot.origin.start slot.origin.opening (fronted row.front) row.store (backed row.back)
    tells_in is_told =
        subst (λ (o : Option Object). HasTold moment_of left_since faults_of o slot.origin.start slot.origin.opening (fronted row.front) row.store (backed row.back)) (sym identity_is)
        (subst (λ (log : Backed). HasTold moment_of left_since faults_of core.back.identity slot.origin.start slot.origin.opening (fronted row.front) row.store log) (sym back_is)
        (subst (λ (log : Fronted). HasTold moment_of left_since faults_of core.back.identity slot.origin.start slot.origin.opening log row.store (backed core.back.log)) (sym front_is)
        (tells script slot.origin row.store store_is is_told slot.one)))

    history_in : IsTold (told row.store) → (c : ℕ) → IsClass (class_by script (class_in script named) (fronted row.front)) c
        → IsHistory script c (opened_map slot.origin.start) (fronted row.front) (backed row.back)
    history_in is_told c = by_class (class_by script (class_in script named) (fronted row.front)) refl
      where
        by_class : (x : Option ℕ) → class_by script (class_in script named) (fronted row.front) ≡ x → IsClass x c
            → IsHistory script c (opened_map slot.origin.start) (fronted row.front) (backed row.back)
        by_class None none is = silent_history script c (opened_map slot.origin.start) (fronted row.front) (backed row.back) (done_nothing is_told none) (tells_in is_told).kept (tells_in is_told).followed
        by_class (Some class) some is = known_history is_told c (some ∙ ap Some is)

    intake_in : IsTold (told row.store) → (c : ℕ) → IsClass (class_by script (class_in script named) (fronted row.front)) c
        → HasIntake script c (opened_map slot.origin.start) (fronted row.front)
    intake_in is_told c = by_class (class_by script (class_in script named) (fronted row.front)) refl
      where
        by_class : (x : Option ℕ) → class_by script (class_in script named) (fronted row.front) ≡ x → IsClass x c
            → HasIntake script c (opened_map slot.origin.start) (fronted row.front)
        by_class None none is = silent_intake script c (opened_map slot.origin.start) (fronted row.front) (done_nothing is_told none).said
        by_class (Some class) some is = known_intake is_told c (some ∙ ap Some is)

    unwritten_in : IsTold (told row.store) → (backed row.back).taken ≡ [] → RecoversAsOpened left_since slot.origin row
    unwritten_in is_told none = λ c left_then.
        recovers_as_opened row.identity slot.origin.start (fronted row.front) (backed row.back) none c ((tells_in is_told).images c left_then)

    served_in : AreServed posts row
    served_in =
        let has = got script slot.origin slot.one in
        record {
          got = core.inbox.got;
          first = (core.inbox.waiting ++ slot.given.0, slot.given.1 ∙ append_assoc core.inbox.got core.inbox.waiting slot.given.0);
          keeps = kept slot.one.st;
          lost = has.lost;
          few = has.few;
          come = subst (λ (log : Fronted). AreCome core.inbox.got log (kept slot.one.st) has.lost) (sym front_is) has.come;
        }

    routes_in : IsPrefix routed (messages row.back.released.items)
    routes_in =
        let rest = out.waiting ++ slot.handed.0 in (
          rest,
          ap (λ (ms : List Message). ms ++ rest) (sym slot.routed_first) ∙ sym (append_assoc (slot.taken_before ++ out.got) out.waiting slot.handed.0)
              ∙ ap (λ (ms : List Message). ms ++ slot.handed.0) (append_assoc slot.taken_before out.got out.waiting) ∙ sym slot.handed.1
              ∙ ap (λ (ms : List Message). ms ++ sent_on core.out) (sym slot.begun.left) ∙ sym (left script slot.origin slot.one)
              ∙ ap (λ (log : Backed). messages log.released) (sym back_is),
        )

    owed_in : IsTold (told row.store) → IsOwed (fronted row.front) (messages row.back.released.items)
    owed_in is_told =
        subst (λ (log : Backed). IsOwed (fronted row.front) (messages log.released)) (sym back_is)
        (subst (λ (log : Fronted). IsOwed log (messages core.back.log.released.items)) (sym front_is)
        (owed script slot.origin (row.store, store_is, is_told) slot.one))

    unended_in : IsTold (told row.store) → (backed row.back).stops ≡ [] → TellNoEnd (messages row.back.released.items)
    unended_in is_told none =
        subst (λ (log : Backed). TellNoEnd (messages log.released)) (sym back_is)
        (unended script slot.origin (row.store, store_is, is_told) slot.one (subst (λ (log : Backed). log.stops ≡ []) back_is none))

    full_in : (stop : Stop) → Contains (backed row.back).stops stop → IsFullAt limit stop.cause
    full_in stop has =
        subst (λ (n : ℕ). IsFullAt n stop.cause) slot.begun.limited
        ((limited script slot.origin slot.one).full stop (subst (λ (log : Backed). Contains log.stops stop) back_is has))

    filled_in : IsTold (told row.store) → (object : Object) → MayBe row.identity object
        → AreFilled limit slot.origin.extent.end object (logged (fronted row.front) (backed row.back))
    filled_in is_told object may =
        let by = limited script slot.origin slot.one in
        let logs = (tells script slot.origin row.store store_is is_told slot.one).logs in
        let all = written_history slot.origin.extent.limit slot.origin.extent.end core.back logs (by.written row.store store_is is_told) (fronted row.front) object
        (subst (λ (o : Option Object). MayBe o object) identity_is may) in
        subst (λ (log : Backed). AreFilled limit slot.origin.extent.end object (logged (fronted row.front) log)) (sym back_is)
        (subst (λ (n : ℕ). AreFilled n slot.origin.extent.end object (logged (fronted row.front) (backed core.back.log))) slot.begun.limited all)

    drops_in : IsTold (told row.store) → AreFitting script (class_in script named) posts → DropsOnly posts (fronted row.front) row.back.downs.items
    unfolding served_in
    drops_in is_told fit =
        subst (λ (log : Backed). DropsOnly posts (fronted row.front) log.downs) (sym back_is)
        (subst (λ (log : Fronted). DropsOnly posts log core.back.log.downs.items) (sym front_is)
        (drops script slot.origin (row.store, store_is, is_told) slot.one posts served_in.first
        (subst (λ (o : Option Object). AreFitting script (class_in script o) posts) (sym slot.begun.object) fit)))

    silent_in : IsTold (told row.store) → IsOfNoClass script named → AreAnswers posts → asked_in (messages row.back.released.items) ≡ []
    unfolding served_in
    silent_in is_told unknown alone =
        let first = served_in.first in
        let own : AreAnswers core.inbox.got = first_answers core.inbox.got first.0 (subst AreAnswers first.1 alone) in
        let nothing : messages_of (fronted core.front.half.log).sent ≡ [] =
        (classless script slot.origin (row.store, store_is, is_told) slot.one).asks (ap (class_in script) slot.begun.object ∙ unknown.1) own in
        none_contained (asked_in (messages row.back.released.items))
        (λ asked has. none_there asked
        (subst (λ (ms : List Message). Contains (asked_in ms) asked) (ap (λ (log : Fronted). messages_of log.sent) front_is ∙ nothing) ((owed_in is_told).asked asked has)))

  pub is_row_of : IsRowOf moment_of left_since told image faults_of core row
  is_row_of limit script content named posts routed inbox out slot = record {
    origin = slot.origin;
    begun = slot.begun;
    object = object_in limit script content named posts routed inbox out slot;
    meaning = λ is_told. record {
      history = history_in limit script content named posts routed inbox out slot is_told;
      intake = intake_in limit script content named posts routed inbox out slot is_told;
      unbound = done_nothing limit script content named posts routed inbox out slot is_told;
    };
    kept = λ is_told. record {
      tells = tells_in limit script content named posts routed inbox out slot is_told;
      unwritten = unwritten_in limit script content named posts routed inbox out slot is_told;
      filled = filled_in limit script content named posts routed inbox out slot is_told;
    };
    answered = λ is_told. record {
      owed = owed_in limit script content named posts routed inbox out slot is_told;
      unended = unended_in limit script content named posts routed inbox out slot is_told;
      drops = drops_in limit script content named posts routed inbox out slot is_told;
      silent = silent_in limit script content named posts routed inbox out slot is_told;
    };
    served = served_in limit script content named posts routed inbox out slot;
    routes = routes_in limit script content named posts routed inbox out slot;
    full = full_in limit script content named posts routed inbox out slot;
  }

module _ {D : Type 0} (moment_of : D → ℕ) (left_since : D → ℕ → List ℕ → Type 0) (told : D → Option (List ℕ)) (image : D → List ℕ → Type 0) (faults_of : D → ℕ) where
  -- what a row tells of its object, also where that rests
  pub record TellsOf (core : Core D) (row : SlotReport D) : Type 0 where
    pub row_of : IsRowOf moment_of left_since told image faults_of core row
    pub let_go : IsLetGoOf moment_of left_since told image faults_of core row
    pub settled : IsSettledOf moment_of left_since told image faults_of core row
    pub tells : IsTold (told row.store) → TellsNow told core.back

  -- each row is one of the object in its place
  abbrev pub AreRowsOf : List (Core D) → List (SlotReport D) → Type 0
  AreRowsOf cores rows = (slot : ℕ) (row : SlotReport D) → slice_get rows slot ≡ Some row
      → (core : Core D) × (slice_get cores slot ≡ Some core) × TellsOf core row

  pub no_rows : (rows : List (SlotReport D)) → rows ≡ [] → AreRowsOf [] rows
  no_rows rows none = λ slot row there.
      let never : None ≡ Some row = subst (λ (xs : List (SlotReport D)). slice_get xs slot ≡ Some row) none there in absurd cc

  pub rows_more : (cores : List (Core D)) (rows after : List (SlotReport D)) (core : Core D) (row : SlotReport D) → length rows ≡ length cores
      → after ≡ rows ++ row ∷ [] → TellsOf core row → AreRowsOf cores rows → AreRowsOf (cores ++ core ∷ []) after
  rows_more cores rows after core row many pushed is are = λ slot that there.
      let at : slice_get (rows ++ row ∷ []) slot ≡ Some that = subst (λ (xs : List (SlotReport D)). slice_get xs slot ≡ Some that) pushed there in
      ⊎_elim
      (λ less. let of = are slot that (push_before rows row that slot less at) in (of.0, before_push cores core of.0 slot of.1, of.2))
      (λ more.
      let last : length cores ≡ slot = omega (arith, more, many, push_within rows row that slot at) in
      let mine : slice_get (cores ++ core ∷ []) slot ≡ Some core = subst (λ (n : ℕ). slice_get (cores ++ core ∷ []) n ≡ Some core) last (next_at cores core []) in
      (core, mine, subst (λ (r : SlotReport D). TellsOf core r) (push_last rows row that slot (many ∙ last) at) is))
      (cases_lt slot (length rows))

  -- the core at a place is one
  same_core : (cores : List (Core D)) (slot : ℕ) (one other : Core D) → slice_get cores slot ≡ Some one → slice_get cores slot ≡ Some other → one ≡ other
  same_core cores slot one other first second = let both : Some one ≡ Some other = sym first ∙ second in let same : one ≡ other = cc in same

  -- where the disks of all rows tell their content, those of all objects did
  pub all_tell : (objects : Objects D) (rows : List (SlotReport D)) → AreRowsOf objects.cores.items rows → length rows ≡ length objects.cores.items
      → RowsTell told rows → ObjectsTell told objects
  all_tell objects rows are many tell = λ slot core at.
      let within = slice_get_within objects.cores.items slot core at in
      let row = item_at rows slot (omega (arith, within, many)) in
      let of = are slot row.0 row.1 in
      subst (λ (c : Core D). TellsNow told c.back) (same_core objects.cores.items slot of.0 core of.1 at) (of.2.tells (tell slot row.0 row.1))

  pub all_rows : (objects : Objects D) (rows : List (SlotReport D)) → AreRowsOf objects.cores.items rows
      → (limit : ℕ) (script : Script) (contents : ℕ → Option (List ℕ)) (named : Slots) (log : SwitchLog)
      → AreSlots moment_of left_since told image faults_of limit script contents named log objects → AreRows moment_of left_since told faults_of limit script contents named log rows
  all_rows objects rows are limit script contents named log slots = λ slot row there.
      let of = are slot row there in
      let within = slice_get_within objects.cores.items slot of.0 of.1 in
      let inbox = item_at objects.inboxes.items slot (omega (arith, within, slots.inboxes)) in
      let out = item_at objects.outs.items slot (omega (arith, within, slots.outs)) in
      of.2.row_of limit script (contents slot) (object_at named slot) (of_slot slot log.posts) (of_slot slot log.routed) inbox.0 out.0 (slots.each slot of.0 inbox.0 out.0 of.1 inbox.1 out.1)

  pub all_let_go : (objects : Objects D) (rows : List (SlotReport D)) → AreRowsOf objects.cores.items rows
      → (limit : ℕ) (script : Script) (contents : ℕ → Option (List ℕ)) (named : Slots) (log : SwitchLog)
      → AreGoing moment_of left_since told image faults_of limit script contents named log objects → AreResting script objects → AreRouted objects
      → AreLetGo told script named log rows
  all_let_go objects rows are limit script contents named log going rests routed = λ slot row there.
      let of = are slot row there in
      let within = slice_get_within objects.cores.items slot of.0 of.1 in
      let inbox = item_at objects.inboxes.items slot (omega (arith, within, going.inboxes)) in
      let out = item_at objects.outs.items slot (omega (arith, within, going.outs)) in
      of.2.let_go limit script (contents slot) (object_at named slot) (of_slot slot log.posts) (of_slot slot log.routed) inbox.0 out.0
      (going.each slot of.0 inbox.0 out.0 of.1 inbox.1 out.1) (rests.each slot of.0 inbox.0 out.0 of.1 inbox.1 out.1) (routed.each slot of.0 inbox.0 out.0 of.1 inbox.1 out.1)

  pub all_settled : (objects : Objects D) (rows : List (SlotReport D)) (left : List (ℕ × Caller × Waits)) → AreRowsOf objects.cores.items rows
      → AreLeftBy objects.cores.items left → (limit : ℕ) (script : Script) (contents : ℕ → Option (List ℕ)) (named : Slots) (log : SwitchLog)
      → AreGoing moment_of left_since told image faults_of limit script contents named log objects → AreResting script objects → AreRouted objects
      → AreSettledUnless told limit script contents named log left rows
  all_settled objects rows left are has_left limit script contents named log going rests routed = λ slot row there.
      let of = are slot row there in
      let within = slice_get_within objects.cores.items slot of.0 of.1 in
      let inbox = item_at objects.inboxes.items slot (omega (arith, within, going.inboxes)) in
      let out = item_at objects.outs.items slot (omega (arith, within, going.outs)) in
      of.2.settled limit script (contents slot) (object_at named slot) (of_slot slot log.posts) (of_slot slot log.routed) inbox.0 out.0
      (going.each slot of.0 inbox.0 out.0 of.1 inbox.1 out.1) (rests.each slot of.0 inbox.0 out.0 of.1 inbox.1 out.1) (routed.each slot of.0 inbox.0 out.0 of.1 inbox.1 out.1)
      (remaining_of slot left) (has_left.each slot of.0 of.1)

  -- the next object can run
  pub next_can : (objects : Objects D) (script : Script) (before rest : List (Core D)) (core : Core D) → objects.cores.items ≡ before ++ core ∷ rest
      → CanAllRun moment_of left_since told image faults_of script objects → CanRun moment_of left_since told image faults_of script core
  next_can objects script before rest core all can =
      let there : slice_get objects.cores.items (length before) ≡ Some core =
      subst (λ (xs : List (Core D)). slice_get xs (length before) ≡ Some core) (sym all) (next_at before core rest) in
      let within = slice_get_within objects.cores.items (length before) core there in
      let inbox = item_at objects.inboxes.items (length before) (omega (arith, within, can.inboxes)) in
      let out = item_at objects.outs.items (length before) (omega (arith, within, can.outs)) in
      can.each (length before) core inbox.0 out.0 there inbox.1 out.1
