-- A front replies to those alone who called it.
use Rattle.std.proofs.Common.{sym, subst, ℕ, suc, List, [], ◌∷◌, ◌++◌}
use Rattle.std.proofs.lemmas.List.Concat.{flat_map-append}
use Rattle.std.proofs.lemmas.List.Elements.{All-contains, All-from_recursion, Contains-append_left, Contains-append_right, Contains-push}
use Rattle.std.specs.List.{AllByRecursion, Contains, filter, flat_map, list_any}
use Rattle.std.specs.Prelude.{Bool, true, false, not, cond, Some, None}
use Rattle.do_value.specs.declared.value.Value.TheVariants as value
use Rattle.storage_map.specs.declared.answer.Reading.TheVariants as reading
use Rattle.script_mean.specs.declared.answer.Answer.TheVariants as answer
use Rattle.timeline.specs.Intake.{Front, Kind, Mode, Taken, delivered, noticed, wanted, closed_by, delivered_by, delivered_in, down, down_replies, downed_by, downed_in, life, numbered, opened, resets, sent_by, serves, steps_to, takes}
use Rattle.timeline.specs.Object.{State, Step, idle, waiting, ended}
use Rattle.timeline.specs.Replies.{answered_by, caller_of, resets_of, same_caller, unanswered}
use Rattle.timeline.specs.Steps.{delivers, answers}
use Rattle.timeline.specs.Told.{asking}
use Rattle.timeline.specs.declared.caller.Caller.{Caller}
use Rattle.timeline.specs.declared.caller.Cause.{Cause}
use Rattle.timeline.specs.declared.entry.Body.{Body}
use Rattle.timeline.specs.declared.entry.Body.TheVariants as body
use Rattle.timeline.specs.declared.entry.Entry.{Entry}
use Rattle.timeline.specs.declared.event.Event.{Event}
use Rattle.timeline.specs.declared.event.Event.TheVariants as event
use Rattle.timeline.specs.declared.notice.Notice.TheVariants as notice
use Rattle.object_messages.proofs.Counts.{one_replies}
use Rattle.object_messages.proofs.Whose.{BodiesName, BodyNames, EventNames, ObjectNames, PurposeNames, StateNames, StepNames, all_both, answers_name, delivers_names}
use Rattle.object_messages.specs.Exact.{RepliesNameCallers}
use Rattle.object_messages.specs.Laws.{events}
use Rattle.object_messages.specs.Naming.{called_in, message_of, messages_of, replied_by, replied_in}

module _ (P : Caller → Type 0) where
  -- How a front stands that serves these callers alone.
  abbrev ModeNames : Mode → Type 0
  ModeNames (serves (idle o)) = ObjectNames P o
  ModeNames (serves (waiting o t b)) = ObjectNames P o × PurposeNames P t.purpose
  ModeNames (serves (ended c)) = Unit {0}
  ModeNames (down call) = Unit {0}

  abbrev FrontNames : Front → Type 0
  FrontNames f = AllByRecursion (EventNames P) f.events × BodiesName P f.said × ModeNames f.mode

  abbrev ItemsName : List (ℕ × Event) → Type 0
  ItemsName items = AllByRecursion (λ (item : ℕ × Event). EventNames P item.1) items

  abbrev EntriesName : List Entry → Type 0
  EntriesName entries = AllByRecursion (λ (entry : Entry). BodyNames P entry.body) entries

  -- A step of a front.
  state_mode : (s : State) → StateNames P s → BodiesName P (asking s) × ModeNames (serves s)
  state_mode (idle o) names = (tt, names)
  state_mode (waiting o t b) names = ((names.0, tt), (names.1, names.2))
  state_mode (ended c) names = (tt, tt)

  steps_name : (f : Front) (s : Step) → AllByRecursion (EventNames P) f.events → BodiesName P f.said → StepNames P s → FrontNames (steps_to f s)
  steps_name f s called said names =
      let next = state_mode s.state names.1 in
      (called, all_both (BodyNames P) (f.said ++ s.says) (asking s.state) (all_both (BodyNames P) f.said s.says said names.0) next.0, next.1)

  -- Those that an incarnation leaves are some that called it.
  all_called : (events : List Event) → AllByRecursion (EventNames P) events → AllByRecursion P (flat_map caller_of events)
  all_called [] all = tt
  all_called (e ∷ events) all = all_both P (caller_of e) (flat_map caller_of events) all.0 (all_called events all.1)

  some_named : (p : Caller → Bool) (callers : List Caller) → AllByRecursion P callers → AllByRecursion P (filter p callers)
  some_named p [] all = tt
  some_named p (c ∷ callers) all = by_kept (p c) (some_named p callers all.1)
    where
      by_kept : (b : Bool) → AllByRecursion P (filter p callers) → AllByRecursion P (cond b (c ∷ filter p callers) (filter p callers))
      by_kept true rest = (all.0, rest)
      by_kept false rest = rest

  failures_name : (cause : Cause) (callers : List Caller) → AllByRecursion P callers → BodiesName P (resets_of cause callers)
  failures_name cause [] all = tt
  failures_name cause (c ∷ callers) all = ((all.0, tt), failures_name cause callers all.1)

  resets_name : (f : Front) (cause : Cause) → AllByRecursion (EventNames P) f.events → BodiesName P (resets f cause)
  resets_name f cause called =
      failures_name cause (unanswered f.events f.said)
      (some_named (λ from. not (list_any (same_caller from) (flat_map answered_by f.said))) (flat_map caller_of f.events) (all_called f.events called))

  -- The call that waited for a mounting.
  down_names : (e : Event) (before after : ℕ) → EventNames P e → BodiesName P (down_replies (Some e) before after)
  down_names (event.Call caller method args depth at) before after own = ((own.0, tt), tt)
  down_names (event.Bind identity) before after own = tt
  down_names (event.Answer incarnation number result at) before after own = tt
  down_names (event.Tick at) before after own = tt
  down_names (event.Evict at) before after own = tt

  -- Each item.
  takes_name : (k : Kind) (i : ℕ) (events : List Event) (said : List Body) (mode : Mode) (t : Taken)
      → let f : Front = record { incarnation = i; events = events; said = said; mode = mode } in
      FrontNames f → ItemsName (delivered_by i t) → ItemsName (downed_by i mode t) → FrontNames (takes k f t)
  takes_name k i events said (serves (idle o)) (delivered e) names own downed =
      let now : Front = record { incarnation = i; events = events ++ e ∷ []; said = said; mode = serves (idle o) } in
      steps_name now (delivers (life k i) o e) (all_both (EventNames P) events (e ∷ []) names.0 (own.0, tt)) names.1 (delivers_names P (life k i) o e names.2 own.0)
  takes_name k i events said (serves (waiting o t b)) (noticed (notice.Read number r)) names own downed =
      steps_name (record { incarnation = i; events = events; said = said; mode = serves (waiting o t b) }) (answers (life k i) o t (answer.Read r)) names.0 names.1
      (answers_name P (life k i) o t (answer.Read r) names.2.0 names.2.1)
  takes_name k i events said (serves (waiting o t b)) (noticed (notice.Taken number count)) names own downed =
      steps_name (record { incarnation = i; events = events; said = said; mode = serves (waiting o t b) }) (answers (life k i) o t (answer.Read (reading.Count count))) names.0 names.1
      (answers_name P (life k i) o t (answer.Read (reading.Count count)) names.2.0 names.2.1)
  takes_name k i events said (serves (waiting o t b)) (noticed (notice.Synced number)) names own downed =
      steps_name (record { incarnation = i; events = events; said = said; mode = serves (waiting o t b) }) (answers (life k i) o t (answer.Value value.Undefined)) names.0 names.1
      (answers_name P (life k i) o t (answer.Value value.Undefined) names.2.0 names.2.1)
  takes_name k i events said (serves state) (noticed (notice.Fresh incarnation alarm cause)) names own downed =
      (tt, resets_name (record { incarnation = i; events = events; said = said; mode = serves state }) cause names.0, (tt, tt))
  takes_name k i events said (serves state) (noticed (notice.Down cause before after)) names own downed =
      (tt, resets_name (record { incarnation = i; events = events; said = said; mode = serves state }) cause names.0, tt)
  takes_name k i events said (down call) (noticed (notice.Fresh incarnation alarm cause)) names own downed = (names.0, names.1, (tt, tt))
  takes_name k i events said (down (Some e)) (noticed (notice.Down cause before after)) names own downed =
      (names.0, all_both (BodyNames P) said (down_replies (Some e) before after) names.1 (down_names e before after downed.0), tt)
  takes_name k i events said (down None) (noticed (notice.Down cause before after)) names own downed =
      (names.0, all_both (BodyNames P) said [] names.1 tt, tt)
  takes_name k i events said (serves state) (wanted e) names own downed = (names.0, all_both (BodyNames P) said (body.Mend ∷ []) names.1 (tt, tt), tt)
  takes_name k i events said (down call) (wanted e) names own downed = (names.0, all_both (BodyNames P) said (body.Mend ∷ []) names.1 (tt, tt), tt)
  takes_name k i events said mode t names own downed = names

  -- The entries of an incarnation.
  numbered_name : (incarnation number : ℕ) (bodies : List Body) → BodiesName P bodies → EntriesName (numbered incarnation number bodies)
  numbered_name incarnation number [] names = tt
  numbered_name incarnation number (b ∷ bodies) names = (names.0, numbered_name incarnation (suc number) bodies names.1)

  closed_name : (f : Front) (mode : Mode) (t : Taken) → BodiesName P f.said → EntriesName (closed_by f mode t)
  closed_name f (serves state) (noticed (notice.Fresh incarnation alarm cause)) names = numbered_name f.incarnation 1 f.said names
  closed_name f (serves state) (noticed (notice.Down cause before after)) names = numbered_name f.incarnation 1 f.said names
  closed_name f mode t names = tt

  -- of two lists of which all is so, each is
  first_part : (xs ys : List (ℕ × Event)) → ItemsName (xs ++ ys) → ItemsName xs
  first_part [] ys all = tt
  first_part (x ∷ xs) ys all = (all.0, first_part xs ys all.1)

  last_part : (xs ys : List (ℕ × Event)) → ItemsName (xs ++ ys) → ItemsName ys
  last_part [] ys all = all
  last_part (x ∷ xs) ys all = last_part xs ys all.1

  -- So all that a front sends.
  sends_name : (k : Kind) (taken : List Taken) (f : Front) → FrontNames f → ItemsName (delivered_in k f taken) → ItemsName (downed_in k f taken)
      → EntriesName (sent_by k f taken)
  sends_name k [] f names own downed = numbered_name f.incarnation 1 f.said names.1
  sends_name k (t ∷ taken) f names own downed =
      let delivered_here = delivered_by f.incarnation t in
      let downed_here = downed_by f.incarnation f.mode t in
      let delivered_later = delivered_in k (takes k f t) taken in
      let downed_later = downed_in k (takes k f t) taken in
      all_both (λ (entry : Entry). BodyNames P entry.body) (closed_by f f.mode t) (sent_by k (takes k f t) taken) (closed_name f f.mode t names.1)
      (sends_name k taken (takes k f t)
      (takes_name k f.incarnation f.events f.said f.mode t names (first_part delivered_here delivered_later own) (first_part downed_here downed_later downed))
      (last_part delivered_here delivered_later own) (last_part downed_here downed_later downed))

  -- The replies among the messages of entries.
  entries_reply : (entries : List Entry) → EntriesName entries → AllByRecursion P (replied_in (messages_of entries))
  entries_reply [] names = tt
  entries_reply (entry ∷ entries) names =
      subst (AllByRecursion P) (sym (flat_map-append replied_by (message_of entry.body) (messages_of entries)))
      (all_both P (replied_in (message_of entry.body)) (replied_in (messages_of entries)) (subst (AllByRecursion P) (sym (one_replies entry.body)) names.0)
      (entries_reply entries names.1))

  -- What holds of each that is named holds of all.
  each_named : (callers : List Caller) → ((c : Caller) → Contains callers c → P c) → AllByRecursion P callers
  each_named [] each = tt
  each_named (c ∷ callers) each =
      (each c (Contains-append_left (c ∷ []) callers c (Contains-push [] c)), each_named callers (λ d there. each d (Contains-append_right (c ∷ []) callers d there)))

  items_named : (items : List (ℕ × Event)) → ((c : Caller) → Contains (called_in (events items)) c → P c) → ItemsName items
  items_named [] each = tt
  items_named (item ∷ items) each = (
    each_named (caller_of item.1) (λ c there. each c (Contains-append_left (caller_of item.1) (called_in (events items)) c there)),
    items_named items (λ c there. each c (Contains-append_right (caller_of item.1) (called_in (events items)) c there)),
  )

-- So who is replied to is one who called.
pub replies_name : RepliesNameCallers
replies_name k alarm taken from is =
    let delivered_items = delivered_in k (opened alarm) taken in
    let downed_items = downed_in k (opened alarm) taken in
    let all = called_in (events delivered_items ++ events downed_items) in
    let P : Caller → Type 0 = λ c. Contains all c in
    let both = flat_map-append caller_of (events delivered_items) (events downed_items) in
    let own = items_named P delivered_items (λ c there.
    subst (λ (cs : List Caller). Contains cs c) (sym both) (Contains-append_left (called_in (events delivered_items)) (called_in (events downed_items)) c there)) in
    let downed = items_named P downed_items (λ c there.
    subst (λ (cs : List Caller). Contains cs c) (sym both) (Contains-append_right (called_in (events delivered_items)) (called_in (events downed_items)) c there)) in
    let sent = sent_by k (opened alarm) taken in
    All-contains P (replied_in (messages_of sent)) from
    (All-from_recursion P (replied_in (messages_of sent)) (entries_reply P sent (sends_name P k taken (opened alarm) (tt, tt, (tt, tt)) own downed))) is
