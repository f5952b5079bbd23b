-- One slot of a run.
use Rattle.std.specs.Prelude.{◌≡◌, ℕ, List, [], ◌++◌, Option}
use Rattle.do_disk.specs.Disk.{IfTold, next_count}
use Rattle.do_tree.specs.Tree.{Script}
use Rattle.lane.specs.Lanes.{Both, sent_on, StartsWith}
use Rattle.batch_journal.specs.Frames.{Frame, AreOfJournal, batches_in}
use Rattle.batch_journal.specs.Laws.{end_after}
use Rattle.batch_journal.specs.Reading.{IsObjectOf}
use Rattle.batch_journal.specs.Recovery.{Recovers}
use Rattle.storage_map.specs.Limits.{Object}
use Rattle.timeline.specs.declared.event.Event.{Event}
use Rattle.timeline.specs.declared.message.Message.{Message}
use Rattle.object_core.specs.One.{IsOne, Origin}
use Rattle.object_core.specs.declared.object.Core.{Core}
use Rattle.host_core.specs.Acting.{HasSettled}

-- An object runs from the frames of a journal that its slot's file, of this content, recovered to, and which name this object, since the first call of
-- its disk; its journal may have so many bytes, and ended behind these frames.
pub record IsBegun (limit : ℕ) (content : Option (List ℕ)) (named : Option Object) (origin : Origin) : Type 0 where
  pub frames : List Frame
  pub stand : AreOfJournal frames
  pub recovered : IfTold content (λ c. Recovers c frames)
  pub names : IsObjectOf named frames
  pub start : origin.start ≡ batches_in frames
  pub opening : origin.opening ≡ next_count 0
  pub object : origin.object ≡ named
  pub left : origin.left ≡ []
  pub limited : origin.extent.limit ≡ limit
  pub end : origin.extent.end ≡ end_after frames

-- The object is one; what was posted to the slot went to the object before it had this queue, or into its queue, and the first of it to the object;
-- what was routed from the slot was taken of the object before, or came out of its queue, into which the first of what left went.
pub record IsSlot {D : Type 0} (moment_of : D → ℕ) (left_since : D → ℕ → List ℕ → Type 0) (told : D → Option (List ℕ)) (image : D → List ℕ → Type 0)
    (faults_of : D → ℕ)
    (limit : ℕ) (script : Script) (content : Option (List ℕ)) (named : Option Object) (posts : List Event) (routed : List Message)
    (core : Core D) (inbox : Both Event) (out : Both Message) : Type 0 where
  pub origin : Origin
  pub begun : IsBegun limit content named origin
  pub one : IsOne moment_of left_since told image faults_of script origin core
  pub given_before : List Event
  pub taken_before : List Message
  pub posted : given_before ++ sent_on inbox ≡ posts
  pub given : StartsWith posts (sent_on core.inbox)
  pub routed_first : taken_before ++ out.got ≡ routed
  pub handed : StartsWith (sent_on core.out) (taken_before ++ sent_on out)

-- As long as memory suffices, all that was taken out of either queue went on.
pub record IsGoing {D : Type 0} (moment_of : D → ℕ) (left_since : D → ℕ → List ℕ → Type 0) (told : D → Option (List ℕ)) (image : D → List ℕ → Type 0)
    (faults_of : D → ℕ)
    (limit : ℕ) (script : Script) (content : Option (List ℕ)) (named : Option Object) (posts : List Event) (routed : List Message)
    (core : Core D) (inbox : Both Event) (out : Both Message) : Type 0 where
  pub origin : Origin
  pub begun : IsBegun limit content named origin
  pub one : IsOne moment_of left_since told image faults_of script origin core
  pub given_before : List Event
  pub taken_before : List Message
  pub posted : given_before ++ sent_on inbox ≡ posts
  pub gives : sent_on core.inbox ≡ given_before ++ inbox.got
  pub routed_first : taken_before ++ out.got ≡ routed
  pub hands : core.out.got ≡ taken_before ++ sent_on out

-- Nothing is left to do for it, all that was posted to it was given, and all that it let go was handed on.
pub record IsResting {D : Type 0} (script : Script) (core : Core D) (inbox : Both Event) : Type 0 where
  pub settled : HasSettled script core
  pub given : inbox.waiting ≡ []
  pub let_go : core.out.waiting ≡ []
