-- The row of an object that rests.
use Rattle.std.proofs.Common.{◌≡◌, ◌∙◌, ℕ, List, [], ◌++◌, Option, ap, sym, subst, append-nil}
use Rattle.batch_journal.specs.Moments.{IsTold}
use Rattle.do_tree.specs.Tree.{Script}
use Rattle.lane.specs.Lanes.{Both, sent_on}
use Rattle.object_core.specs.Laws.{HasLetGo, HasNothingToDo, OneHasLetGo}
use Rattle.object_core.specs.One.{HasItsClass}
use Rattle.object_core.specs.declared.object.Core.{Core}
use Rattle.output_gate.specs.Storing.{IsDiskOf}
use Rattle.storage_map.specs.Limits.{Object}
use Rattle.timeline.specs.Logs.{Backed, Fronted, backed, fronted}
use Rattle.timeline.specs.declared.event.Event.{Event}
use Rattle.timeline.specs.declared.message.Message.{Message}
use Rattle.host_core.specs.Acting.{HasSettled}
use Rattle.host_core.specs.Closing.{IsLetGoOf}
use Rattle.host_core.specs.Slots.{IsGoing, IsResting}
use Rattle.host_core.specs.declared.report.SlotReport.{SlotReport}

-- nothing is to be done in an object that has settled
pub nothing_to_do : {D : Type 0} (script : Script) (core : Core D) → HasSettled script core → HasNothingToDo script core
nothing_to_do script core settled = record {
  turn = settled.turned;
  take = settled.taken;
  flush = settled.flushed;
  release = settled.released;
  mend = settled.mended;
}

-- all that was posted to an object that rests was given
pub all_given : {D : Type 0} (moment_of : D → ℕ) (left_since : D → ℕ → List ℕ → Type 0) (told : D → Option (List ℕ)) (image : D → List ℕ → Type 0) (faults_of : D → ℕ)
    (core : Core D) (limit : ℕ) (script : Script) (content : Option (List ℕ)) (named : Option Object) (posts : List Event) (routed : List Message) (inbox : Both Event) (out : Both Message)
    → IsGoing moment_of left_since told image faults_of limit script content named posts routed core inbox out → IsResting script core inbox
    → sent_on core.inbox ≡ posts
all_given moment_of left_since told image faults_of core limit script content named posts routed inbox out going rests =
    going.gives ∙ ap (λ (es : List Event). going.given_before ++ es) (sym (append-nil inbox.got))
    ∙ ap (λ (es : List Event). going.given_before ++ (inbox.got ++ es)) (sym rests.given) ∙ going.posted

-- all that an object released was routed, where it rests and nothing of it waits
pub all_routed : {D : Type 0} (moment_of : D → ℕ) (left_since : D → ℕ → List ℕ → Type 0) (told : D → Option (List ℕ)) (image : D → List ℕ → Type 0) (faults_of : D → ℕ)
    (core : Core D) (limit : ℕ) (script : Script) (content : Option (List ℕ)) (named : Option Object) (posts : List Event) (routed : List Message) (inbox : Both Event) (out : Both Message)
    → IsGoing moment_of left_since told image faults_of limit script content named posts routed core inbox out → IsResting script core inbox → out.waiting ≡ []
    → sent_on core.out ≡ routed
all_routed moment_of left_since told image faults_of core limit script content named posts routed inbox out going rests none =
    ap (λ (ms : List Message). core.out.got ++ ms) rests.let_go ∙ append-nil core.out.got ∙ going.hands
    ∙ ap (λ (ms : List Message). going.taken_before ++ (out.got ++ ms)) none ∙ ap (λ (ms : List Message). going.taken_before ++ ms) (append-nil out.got) ∙ going.routed_first

module _ {D : Type 0} (moment_of : D → ℕ) (left_since : D → ℕ → List ℕ → Type 0) (told : D → Option (List ℕ)) (image : D → List ℕ → Type 0) (faults_of : D → ℕ)
    (core : Core D) (row : SlotReport D) (store_is : IsDiskOf core.back.store row.store)
    (front_is : fronted row.front ≡ fronted core.front.half.log) (back_is : backed row.back ≡ backed core.back.log)
    (lets_go : OneHasLetGo moment_of left_since told image faults_of core) where
  module _ (limit : ℕ) (script : Script) (content : Option (List ℕ)) (named : Option Object) (posts : List Event) (routed : List Message) (inbox : Both Event) (out : Both Message)
      (going : IsGoing moment_of left_since told image faults_of limit script content named posts routed core inbox out) (rests : IsResting script core inbox)
      (none : out.waiting ≡ []) where
    core_lets_go : IsTold (told row.store) → HasItsClass script named → HasLetGo (fronted core.front.half.log) (backed core.back.log) (sent_on core.out)
    core_lets_go is_told has =
        lets_go script going.origin (row.store, store_is, is_told) going.one (subst (λ (o : Option Object). HasItsClass script o) (sym going.begun.object) has)
        rests.settled.front_goes rests.settled.back_goes (nothing_to_do script core rests.settled) going.begun.left

    pub row_lets_go : IsTold (told row.store) → HasItsClass script named → HasLetGo (fronted row.front) (backed row.back) routed
    row_lets_go is_told has =
        subst (λ (log : Backed). HasLetGo (fronted row.front) log routed) (sym back_is)
        (subst (λ (log : Fronted). HasLetGo log (backed core.back.log) routed) (sym front_is)
        (subst (λ (ms : List Message). HasLetGo (fronted core.front.half.log) (backed core.back.log) ms)
        (all_routed moment_of left_since told image faults_of core limit script content named posts routed inbox out going rests none) (core_lets_go is_told has)))

  pub is_let_go_of : IsLetGoOf moment_of left_since told image faults_of core row
  is_let_go_of limit script content named posts routed inbox out going rests none =
      record { each = row_lets_go limit script content named posts routed inbox out going rests none }
