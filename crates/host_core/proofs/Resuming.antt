-- The slots of a run as the workers have left them.
use Rattle.std.proofs.Common.{◌≡◌, ◌<◌, ◌+◌, ◌∙◌, ap, sym, subst, refl, arith, ℕ, List, [], ◌++◌, length, append-nil, append_assoc, replicate, Option, Some, Ok}
use Rattle.std.specs.Prelude.{slice_get}
use Rattle.std.specs.List.{All, Contains}
use Rattle.std.proofs.lemmas.List.{get_or-replicate, length-replicate}
use Rattle.std.proofs.lemmas.List.Elements.{All-contains, All-contains_itself, All-weaker, Contains-append_left}
use Rattle.std.proofs.lemmas.Option.{get_or_from_slice_get, slice_get-get_or, slice_get_within}
use Rattle.do_tree.specs.Tree.{Script}
use Rattle.lane.specs.Lanes.{Both, StartsWith, sent_on}
use Rattle.storage_map.specs.Limits.{Object}
use Rattle.timeline.specs.Switch as timeline
use Rattle.timeline.specs.Switch.{IsSwitchRun, SwitchLog, no_log, opened}
use Rattle.timeline.specs.declared.event.Event.{Event}
use Rattle.timeline.specs.declared.message.Message.{Message}
use Rattle.output_gate.specs.Serving.{CanServe}
use Rattle.output_gate.specs.declared.back.Back.{Back}
use Rattle.object_core.specs.One.{mounted_at, unused}
use Rattle.object_core.specs.declared.object.Core.{Core}
use Rattle.placement.specs.Slots.{Slots, object_at}
use Rattle.mailbox.proofs.Sendings.{of_slot-append}
use Rattle.mailbox.specs.Posting.{of_slot}
use Rattle.mailbox.specs.Runs.{log_of, state_of}
use Rattle.mailbox.specs.SoFar.{IsRunSoFar}
use Rattle.switch_history.specs.Fit.{IsFitRun, begins, accepted, routed}
use Rattle.host_workers.specs.Switches.{kept_in}
use Rattle.host_workers.specs.declared.joining.Halves.{Halves}
use Rattle.worker_pool.specs.Ended.{HasRun, IsRunOf}
use Rattle.worker_pool.specs.declared.ran.Ran.{Ran}
use Rattle.host_core.proofs.Found.{item_at}
use Rattle.host_core.proofs.Placings.{get_there}
use Rattle.host_core.specs.Begun.{AreBegun, HasBegun}
use Rattle.object_core.specs.Shown.{FreshAreOne}
use Rattle.host_core.specs.Closing.{AreHalves}
use Rattle.host_core.specs.Moving.{KeepsMessage}
use Rattle.host_core.specs.Objects.{AllSlots, AreThere}
use Rattle.host_core.specs.Resuming.{CameFrom}
use Rattle.host_core.specs.Running.{HasServed, IsServing}
use Rattle.host_core.specs.Slots.{IsGoing, IsSlot}
use Rattle.host_core.specs.declared.objects.Objects.{Objects}

-- An item of a list that repeats one is that one.
replicate_at : {X : Type 0} (n : ℕ) (x y : X) (at : ℕ) → slice_get (replicate n x) at ≡ Some y → y ≡ x
replicate_at n x y at is =
    let within = subst (λ (k : ℕ). at < k) (length-replicate n x) (slice_get_within (replicate n x) at y is) in
    sym (get_or_from_slice_get (replicate n x) at y x is) ∙ get_or-replicate n at x x within

-- What holds of each item of two lists holds of each of the first.
all_first : {X : Type 0} (P : X → Type 0) (xs ys : List X) → All P (xs ++ ys) → All P xs
all_first P xs ys all =
    All-weaker (Contains xs) P (λ x has. All-contains P (xs ++ ys) x all (Contains-append_left xs ys x has)) xs (All-contains_itself xs)

-- What holds at each place holds of each item.
pub all_places : {X : Type 0} (P : X → Type 0) (xs : List X) → ((at : ℕ) (x : X) → slice_get xs at ≡ Some x → P x) → All P xs
all_places P xs each = λ at x within. each at _ (slice_get-get_or xs at x within)

-- A run whose messages were fit is a run.
pub fit_runs : (script : Script) (first : timeline.Switch) (log : SwitchLog) (s : timeline.Switch) → IsFitRun script first log s → IsSwitchRun script first log s
fit_runs script first _ _ begins = timeline.begins
fit_runs script first _ _ (accepted log s l run) = timeline.accepted log s l (fit_runs script first log s run)
fit_runs script first _ _ (routed log s sent fit run) = timeline.routed log s sent (fit_runs script first log s run)

module _ {D : Type 0} (moment_of : D → ℕ) (left_since : D → ℕ → List ℕ → Type 0) (told : D → Option (List ℕ)) (image : D → List ℕ → Type 0) (faults_of : D → ℕ)
    (limit : ℕ) (script : Script) where
  -- ---- one object that the workers ran
  module _ (content : Option (List ℕ)) (named : Option Object) (halves : Halves D) (posts : List Event) (taken kept : List Message) (core : Core D)
      (begun : HasBegun moment_of left_since told image faults_of limit script content named halves)
      (ran : IsRunOf moment_of left_since told image faults_of script halves posts (taken ++ kept) core) where
    -- It goes on, where a message that was taken and isn't routed waits in the queue from it.
    run_goes : (out : Both Message) → out.got ≡ [] → sent_on out ≡ kept
        → IsGoing moment_of left_since told image faults_of limit script content named posts taken core unused out
    run_goes out none keeps = record {
      origin = mounted_at begun.start begun.opening halves.back;
      begun = begun.begun;
      one = ran.one begun.start begun.opening begun.stands;
      given_before = posts;
      taken_before = taken;
      posted = append-nil posts;
      gives = ran.given ∙ sym (append-nil posts);
      routed_first = ap (λ (ms : List Message). taken ++ ms) none ∙ append-nil taken;
      hands = ran.collected ∙ ap (λ (ms : List Message). taken ++ ms) (sym keeps);
    }

    -- It stands, also where that isn't in the queue.
    run_stands : (out : Both Message) → out.got ≡ [] → StartsWith kept (sent_on out)
        → IsSlot moment_of left_since told image faults_of limit script content named posts taken core unused out
    run_stands out none starts = record {
      origin = mounted_at begun.start begun.opening halves.back;
      begun = begun.begun;
      one = ran.one begun.start begun.opening begun.stands;
      given_before = posts;
      taken_before = taken;
      posted = append-nil posts;
      given = ([], sym ran.given ∙ sym (append-nil (sent_on core.inbox)));
      routed_first = ap (λ (ms : List Message). taken ++ ms) none ∙ append-nil taken;
      handed = (
        starts.0 ++ core.out.waiting,
        ap (λ (ms : List Message). ms ++ core.out.waiting) (ran.collected ∙ ap (λ (ms : List Message). taken ++ ms) starts.1
            ∙ sym (append_assoc taken (sent_on out) starts.0))
            ∙ append_assoc (taken ++ sent_on out) starts.0 core.out.waiting,
      );
    }

  -- ---- halves that were just mounted
  -- The halves are those of this slot's object.
  abbrev IsOfSlot : (contents : ℕ → Option (List ℕ)) (named : Slots) → SwitchLog → Halves D → ℕ → Type 0
  IsOfSlot contents named log halves slot = (core : Core D) × (inbox : Both Event) × (out : Both Message) × (core.front ≡ halves.front) × (core.back ≡ halves.back)
      × IsSlot moment_of left_since told image faults_of limit script (contents slot) (object_at named slot) (of_slot slot log.posts) (of_slot slot log.routed) core inbox out

  -- They are those of an object to which nothing was posted and of which nothing was taken.
  pub begun_halves : FreshAreOne moment_of left_since told image faults_of → (contents : ℕ → Option (List ℕ)) (named : Slots) (all : List (Halves D))
      → AreBegun moment_of left_since told image faults_of limit script contents named all
      → AreHalves moment_of left_since told image faults_of limit script contents named no_log 0 all
  begun_halves makes contents named all are = λ at halves is.
      let begun = are at halves is in
      let place : at ≡ 0 + at = omega arith in
      subst (IsOfSlot contents named no_log halves) place (
        record { front = halves.front; back = halves.back; inbox = unused; line = unused; notices = unused; out = unused },
        unused,
        unused,
        refl,
        refl,
        record {
          origin = mounted_at begun.start begun.opening halves.back;
          begun = begun.begun;
          one = makes script begun.start begun.opening halves.front.half halves.back begun.stands begun.fresh;
          given_before = [];
          taken_before = [];
          posted = refl;
          given = ([], refl);
          routed_first = refl;
          handed = ([], refl);
        },
      )

  -- Their backs can serve.
  pub begun_can : (contents : ℕ → Option (List ℕ)) (named : Slots) (all : List (Halves D))
      → AreBegun moment_of left_since told image faults_of limit script contents named all
      → All (λ (halves : Halves D). CanServe moment_of left_since told image faults_of halves.back) all
  begun_can contents named all are =
      all_places (λ (halves : Halves D). CanServe moment_of left_since told image faults_of halves.back) all (λ at halves is.
      let begun = are at halves is in (begun.start, begun.opening, begun.stands))

  -- So can those of halves of objects.
  pub halves_can : (contents : ℕ → Option (List ℕ)) (named : Slots) (log : SwitchLog) (from : ℕ) (apart : List (Halves D))
      → AreHalves moment_of left_since told image faults_of limit script contents named log from apart
      → All (λ (halves : Halves D). CanServe moment_of left_since told image faults_of halves.back) apart
  halves_can contents named log from apart are =
      all_places (λ (halves : Halves D). CanServe moment_of left_since told image faults_of halves.back) apart (λ at halves is.
      let of = are at halves is in
      let slot = of.5 in
      subst (λ (back : Back D). CanServe moment_of left_since told image faults_of back) of.4 (slot.origin.start, slot.origin.opening, slot.one.back_stands))

-- ---- all slots
module _ {D R W : Type 0} (moment_of : D → ℕ) (left_since : D → ℕ → List ℕ → Type 0) (told : D → Option (List ℕ)) (image : D → List ℕ → Type 0) (faults_of : D → ℕ)
    (left : R → Option (List ℕ)) (read_faults : R → ℕ) (taken : W → Option (List ℕ)) (write_faults : W → ℕ)
    (limit : ℕ) (script : Script) (contents : ℕ → Option (List ℕ)) (named : Slots) (ran : Ran D R W)
    (came : CameFrom moment_of left_since told image faults_of left read_faults taken write_faults limit script contents named ran) where
  abbrev log : SwitchLog
  log = log_of ran.switch

  abbrev so : HasRun moment_of left_since told image faults_of left read_faults taken write_faults script came.all came.switch came.lines ran
  so = came.ran_so

  -- The messages that were taken of a slot's object: those that were routed, and the one that was kept.
  taken_of : (slot : ℕ) (halves : Halves D) (core : Core D)
      → IsRunOf moment_of left_since told image faults_of script halves (of_slot slot log.posts) (of_slot slot (log.routed ++ kept_in ran.kept)) core
      → IsRunOf moment_of left_since told image faults_of script halves (of_slot slot log.posts) (of_slot slot log.routed ++ of_slot slot (kept_in ran.kept)) core
  taken_of slot halves core =
      subst (λ (ms : List Message). IsRunOf moment_of left_since told image faults_of script halves (of_slot slot log.posts) ms core)
      (of_slot-append slot log.routed (kept_in ran.kept))

  -- Each object that was joined ran from the halves of its slot.
  core_ran : (slot : ℕ) (core : Core D) → slice_get ran.cores.items slot ≡ Some core
      → (halves : Halves D) × HasBegun moment_of left_since told image faults_of limit script (contents slot) (object_at named slot) halves
      × IsRunOf moment_of left_since told image faults_of script halves (of_slot slot log.posts) (of_slot slot log.routed ++ of_slot slot (kept_in ran.kept)) core
  core_ran slot core is =
      let begun = item_at came.all slot (omega (arith, slice_get_within ran.cores.items slot core is, so.objects.many)) in
      (begun.0, came.begun slot begun.0 begun.1, taken_of slot begun.0 core (so.objects.cores slot begun.0 core begun.1 is))

  half_ran : (at : ℕ) (halves : Halves D) → slice_get ran.apart.items at ≡ Some halves → (begun : Halves D)
      × (slice_get came.all (length ran.cores.items + at) ≡ Some begun)
  half_ran at halves is = item_at came.all (length ran.cores.items + at) (omega (arith, slice_get_within ran.apart.items at halves is, so.objects.many))

  -- The halves that weren't joined are those of objects.
  pub resumed_halves : AreHalves moment_of left_since told image faults_of limit script contents named log (length ran.cores.items) ran.apart.items
  resumed_halves = λ at halves is.
      let slot = length ran.cores.items + at in
      let begun = half_ran at halves is in
      let of = so.objects.apart at begun.0 halves begun.1 is in (
        of.0,
        unused,
        unused,
        of.1,
        of.2,
        run_stands moment_of left_since told image faults_of limit script (contents slot) (object_at named slot) begun.0 (of_slot slot log.posts) (of_slot slot log.routed)
            (of_slot slot (kept_in ran.kept)) of.0 (came.begun slot begun.0 begun.1) (taken_of slot begun.0 of.0 of.3) unused refl (of_slot slot (kept_in ran.kept), refl),
      )

  pub resumed_can : All (λ (halves : Halves D). CanServe moment_of left_since told image faults_of halves.back) ran.apart.items
  resumed_can =
      halves_can moment_of left_since told image faults_of limit script contents named log (length ran.cores.items) ran.apart.items resumed_halves

  module _ (objects : Objects D) (cores : objects.cores.items ≡ ran.cores.items) (inboxes : objects.inboxes.items ≡ replicate (length objects.cores.items) unused) where
    -- The objects with a queue each to it, through which nothing went, and one from it.
    with_queues : (P : ℕ → Core D → Both Event → Both Message → Type 0) → length objects.outs.items ≡ length objects.cores.items
        → ((slot : ℕ) (core : Core D) (out : Both Message) → slice_get ran.cores.items slot ≡ Some core → slice_get objects.outs.items slot ≡ Some out → P slot core unused out)
        → AllSlots P objects
    with_queues P many holds = record {
      inboxes = ap length inboxes ∙ length-replicate (length objects.cores.items) unused;
      outs = many;
      each = λ slot core inbox out is_core is_inbox is_out.
          let none : inbox ≡ unused =
          replicate_at (length objects.cores.items) unused inbox slot (subst (λ (queues : List (Both Event)). slice_get queues slot ≡ Some inbox) inboxes is_inbox) in
          subst (λ (queue : Both Event). P slot core queue out) (sym none)
          (holds slot core out (subst (λ (all : List (Core D)). slice_get all slot ≡ Some core) cores is_core) is_out);
    }

    -- What was kept waits in the queues, or isn't there.
    abbrev Keeps : Type 0
    Keeps = KeepsMessage ran.kept (replicate (length objects.cores.items) unused) objects.outs.items

    kept_at : Keeps → (slot : ℕ) (out : Both Message) → slice_get objects.outs.items slot ≡ Some out → (out.got ≡ []) × (sent_on out ≡ of_slot slot (kept_in ran.kept))
    kept_at keeps slot out is =
        let before = get_there objects.outs.items (replicate (length objects.cores.items) unused) slot out (sym keeps.many) is in
        let none : before.0 ≡ unused = replicate_at (length objects.cores.items) unused before.0 slot before.1 in
        let after = keeps.each slot before.0 out before.1 is in (
          after.0 ∙ ap (λ (queue : Both Message). queue.got) none,
          after.1 ∙ ap (λ (queue : Both Message). sent_on queue ++ of_slot slot (kept_in ran.kept)) none,
        )

    many_kept : Keeps → length objects.outs.items ≡ length objects.cores.items
    many_kept keeps = keeps.many ∙ length-replicate (length objects.cores.items) unused

    abbrev Served : Type 0
    Served = HasServed moment_of left_since told image faults_of limit script contents named ran.switch objects

    served_by : ((slot : ℕ) (out : Both Message) → slice_get objects.outs.items slot ≡ Some out → (out.got ≡ []) × StartsWith (of_slot slot (kept_in ran.kept)) (sent_on out))
        → length objects.outs.items ≡ length objects.cores.items → Served
    served_by each many = record {
      run = subst (λ (s : timeline.Switch). IsRunSoFar script s log) came.objects so.logged.so_far;
      slots = with_queues _ many (λ slot core out is_core is_out.
          let of = core_ran slot core is_core in
          let queue = each slot out is_out in
          run_stands moment_of left_since told image faults_of limit script (contents slot) (object_at named slot) of.0 (of_slot slot log.posts) (of_slot slot log.routed)
          (of_slot slot (kept_in ran.kept)) core of.1 of.2 out queue.0 queue.1);
      there = subst (λ (n : ℕ). AreThere n log) (sym came.many)
          (all_first (λ sent. sent.0 < length came.all) log.routed (kept_in ran.kept) so.logged.there);
    }

    -- At any end the slots stand, whether or not what was kept is in its queue.
    pub resumed_stands : objects.outs.items ≡ replicate (length objects.cores.items) unused
        → HasServed moment_of left_since told image faults_of limit script contents named ran.switch objects
    resumed_stands outs =
        served_by (λ slot out is.
        let none : out ≡ unused =
        replicate_at (length objects.cores.items) unused out slot (subst (λ (queues : List (Both Message)). slice_get queues slot ≡ Some out) outs is) in (
          ap (λ (queue : Both Message). queue.got) none,
          (of_slot slot (kept_in ran.kept), ap (λ (queue : Both Message). sent_on queue ++ of_slot slot (kept_in ran.kept)) (sym none)),
        )) (ap length outs ∙ length-replicate (length objects.cores.items) unused)

    pub resumed_stands_kept : KeepsMessage ran.kept (replicate (length objects.cores.items) unused) objects.outs.items
        → HasServed moment_of left_since told image faults_of limit script contents named ran.switch objects
    resumed_stands_kept keeps =
        served_by (λ slot out is.
        let queue = kept_at keeps slot out is in
        (queue.0, ([], sym queue.1 ∙ sym (append-nil (sent_on out))))) (many_kept keeps)

    -- Where nothing stopped the workers, the run serves.
    pub resumed_serves : ran.end ≡ Ok tt → KeepsMessage ran.kept (replicate (length objects.cores.items) unused) objects.outs.items
        → IsServing moment_of left_since told image faults_of limit script contents named ran.switch objects
    resumed_serves good keeps =
        let goes = (so.ends.goes_on good).0 in
        let all_joined : length came.all ≡ length objects.cores.items = omega (arith, so.objects.many, ap length (so.ends.goes_on good).1, ap length cores) in
        let fit : IsFitRun script (opened named) log (state_of ran.switch) =
        subst (λ (s : timeline.Switch). IsFitRun script s log (state_of ran.switch)) came.objects (so.logged.run goes) in
        record {
          run = fit_runs script (opened named) log (state_of ran.switch) fit;
          slots = with_queues _ (many_kept keeps) (λ slot core out is_core is_out.
              let of = core_ran slot core is_core in
              let queue = kept_at keeps slot out is_out in
              run_goes moment_of left_since told image faults_of limit script (contents slot) (object_at named slot) of.0 (of_slot slot log.posts) (of_slot slot log.routed)
              (of_slot slot (kept_in ran.kept)) core of.1 of.2 out queue.0 queue.1);
          there = subst (λ (n : ℕ). AreThere n log) all_joined (all_first (λ sent. sent.0 < length came.all) log.routed (kept_in ran.kept) so.logged.there);
          many = so.logged.slots ∙ all_joined;
          all = came.many ∙ all_joined;
          goes = goes;
          fit = λ tells. fit;
        }
