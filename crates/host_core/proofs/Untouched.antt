-- The row of an object of no class of the script that rests, where nothing was posted to it.
use Rattle.std.proofs.Common.{◌≡◌, ◌∙◌, ap, sym, subst, arith, ℕ, List, [], ◌++◌, length, length-append, Option, None}
use Rattle.std.specs.Prelude.{false}
use Rattle.std.proofs.lemmas.List.{nil_from_length}
use Rattle.batch_journal.specs.Moments.{IsTold}
use Rattle.do_tree.specs.Tree.{Script}
use Rattle.lane.specs.Lanes.{Both, sent_on}
use Rattle.object_core.specs.Classless.{IsUnmoved, OneWithoutClass}
use Rattle.object_core.specs.Laws.{HasLetGo}
use Rattle.object_core.specs.One.{TellsNow, class_in}
use Rattle.object_core.specs.declared.object.Core.{Core}
use Rattle.object_front.specs.Came.{events, kept}
use Rattle.object_front.specs.Classed.{class_behind}
use Rattle.front_half.specs.Remaining.{left_at}
use Rattle.front_half.specs.Standing.{Stood, fresh}
use Rattle.front_half.specs.Taking.{waits}
use Rattle.output_gate.specs.Storing.{IsDiskOf}
use Rattle.storage_map.specs.Limits.{Object}
use Rattle.timeline.specs.Logs.{Backed, Fronted, backed, fronted}
use Rattle.timeline.specs.declared.caller.Caller.{Caller}
use Rattle.timeline.specs.declared.event.Event.{Event}
use Rattle.timeline.specs.declared.message.Message.{Message}
use Rattle.timeline.specs.declared.notice.Waits.{Waits}
use Rattle.host_core.proofs.Quiet.{all_given, all_routed, nothing_to_do}
use Rattle.host_core.specs.Closing.{IsLeftOf}
use Rattle.host_core.specs.Quiet.{IsOfNoClass, IsUntouched}
use Rattle.host_core.specs.Slots.{IsGoing, IsResting}
use Rattle.host_core.specs.declared.report.SlotReport.{SlotReport}

-- what is empty in all is empty at first
none_first : {X : Type 0} (first rest all : List X) → first ++ rest ≡ all → all ≡ [] → first ≡ []
none_first first rest all is none = nil_from_length first (omega (arith, ap length (is ∙ none), length-append first rest))

module _ {D : Type 0} (moment_of : D → ℕ) (left_since : D → ℕ → List ℕ → Type 0) (told : D → Option (List ℕ)) (image : D → List ℕ → Type 0) (faults_of : D → ℕ)
    (core : Core D) (row : SlotReport D) (store_is : IsDiskOf core.back.store row.store)
    (front_is : fronted row.front ≡ fronted core.front.half.log) (back_is : backed row.back ≡ backed core.back.log)
    (classless : OneWithoutClass moment_of left_since told image faults_of core) where
  module _ (limit : ℕ) (script : Script) (content : Option (List ℕ)) (named : Option Object) (posts : List Event) (routed : List Message) (inbox : Both Event) (out : Both Message)
      (going : IsGoing moment_of left_since told image faults_of limit script content named posts routed core inbox out) (resting : IsResting script core inbox)
      (none : out.waiting ≡ []) (remaining : List (Caller × Waits)) (is_left : IsLeftOf core.front.half remaining)
      (is_told : IsTold (told row.store)) (unknown : IsOfNoClass script named) (unposted : posts ≡ []) where
    tells : TellsNow told core.back
    tells = (row.store, store_is, is_told)

    no_class : class_in script going.origin.object ≡ None
    no_class = ap (class_in script) going.begun.object ∙ unknown.1

    -- it got nothing
    posts_are : sent_on core.inbox ≡ posts
    posts_are = all_given moment_of left_since told image faults_of core limit script content named posts routed inbox out going resting

    got_none : core.inbox.got ≡ []
    got_none = none_first core.inbox.got core.inbox.waiting posts posts_are unposted

    is_unmoved : IsUnmoved (fronted core.front.half.log) (backed core.back.log) (sent_on core.out) (kept going.one.st) (left_at script going.one.st)
    is_unmoved =
        (classless script going.origin tells going.one).rests no_class got_none resting.settled.front_goes (nothing_to_do script core resting.settled) going.begun.left

    -- it stands as it was made
    is_fresh : going.one.st ≡ fresh None going.one.alarm
    is_fresh =
        ((going.one.drops tells).unbound resting.settled.front_goes
        (going.one.classed.now resting.settled.front_goes
        ∙ ap (λ (items : List (ℕ × Event)). class_behind script (class_in script going.origin.object) (events items)) is_unmoved.delivered ∙ no_class)).0

    rests : waits going.one.st.front.mode ≡ false
    rests = ap (λ (st : Stood). waits st.front.mode) is_fresh

    lets_go : HasLetGo (fronted row.front) (backed row.back) routed
    lets_go =
        subst (λ (log : Backed). HasLetGo (fronted row.front) log routed) (sym back_is)
        (subst (λ (log : Fronted). HasLetGo log (backed core.back.log) routed) (sym front_is)
        (subst (λ (ms : List Message). HasLetGo (fronted core.front.half.log) (backed core.back.log) ms)
        (all_routed moment_of left_since told image faults_of core limit script content named posts routed inbox out going resting none) is_unmoved.let_go))

    pub row_untouched : IsUntouched posts routed remaining row
    row_untouched = record {
      posted = unposted;
      delivered = ap (λ (log : Fronted). log.delivered) front_is ∙ is_unmoved.delivered;
      downed = ap (λ (log : Fronted). log.downed) front_is ∙ is_unmoved.downed;
      dropped = ap (λ (log : Fronted). log.dropped) front_is ∙ is_unmoved.dropped;
      sent = ap (λ (log : Fronted). log.sent) front_is ∙ is_unmoved.sent;
      taken = ap (λ (log : Backed). log.taken) back_is ∙ is_unmoved.taken;
      let_go = lets_go;
      left = is_left script going.one.st (going.one.front_stands resting.settled.front_goes) rests ∙ is_unmoved.left;
    }
