-- What is known of each half of an object that ran by itself, over what went through its own ends of the lanes.
use Rattle.std.specs.Prelude.{◌≡◌, ◌≤◌, ℕ, ℤ, true, false, List, [], ◌∷◌, ◌++◌, length, Option, None, is_some}
use Rattle.do_tree.specs.Tree.{Script}
use Rattle.lane.specs.Lanes.{Both, sent_on}
use Rattle.storage_map.specs.Contents.{Contents}
use Rattle.storage_map.specs.Limits.{Object}
use Rattle.storage_map.specs.declared.op.Op.{Op}
use Rattle.timeline.specs.declared.entry.Entry.{Entry}
use Rattle.timeline.specs.declared.event.Event.{Event}
use Rattle.timeline.specs.declared.message.Message.{Message as Sent}
use Rattle.timeline.specs.declared.notice.Notice.{Notice}
use Rattle.object_front.specs.Came.{HasGot}
use Rattle.object_front.specs.Classed.{IsClassed}
use Rattle.object_front.specs.Evaluated.{seen}
use Rattle.front_half.specs.Standing as standing
use Rattle.front_half.specs.Standing.{Stood, IsHalf}
use Rattle.object_front.specs.declared.evaluated.Evaluated.{Evaluated}
use Rattle.front_half.specs.declared.half.Half.{Half}
use Rattle.output_gate.specs.Entering.{is_unfit}
use Rattle.output_gate.specs.Serving.{IsBack, is_stopped}
use Rattle.output_gate.specs.Taking.{fit_of, may_take}
use Rattle.output_gate.specs.Telling.{opened_map}
use Rattle.output_gate.specs.declared.back.Back.{Back}
use Rattle.object_core.specs.Apart.{BackRuns, FrontRuns}
use Rattle.object_core.specs.Fitting.{AreFit, known_over}
use Rattle.object_core.specs.Limited.{Extent, IsLimitedBy}
use Rattle.object_core.specs.One.{HasTaken, IsNamed, Origin, TellsNow, class_in, messages}
use Rattle.object_core.specs.Seen.{seen_of}

-- A front that was made with this class and this alarm, and ran so. What it has logged as sent was sent on its end of the line; and each event
-- that its inbox gave is accounted for.
pub record IsFrontAlone (script : Script) (first : Option ℕ) (alarm : Option (ℤ × ℕ)) (half : Half Evaluated) (inbox : List Event)
    (notices : List Notice) (line : List Entry) : Type 0 where
  pub st : Stood
  pub stands : standing.is_stopped half ≡ false → IsHalf seen script half st
  pub has_taken : standing.is_stopped half ≡ false → HasTaken script first alarm half st
  pub classed : IsClassed script first half st
  pub has_got : HasGot half st inbox
  pub sent : half.log.sent.items ≡ line
  pub runs : FrontRuns script first alarm half st inbox notices line

-- A back has run so by the entries that it has logged as taken, and the front was told this of it; but for the last notice, where memory was
-- wanting.
pub record HasTold {D : Type 0} (opened : Contents) (back : Back D) (sent : List Notice) : Type 0 where
  pub unheard : List Notice
  pub few : length unheard ≤ 1
  pub none_unheard : is_stopped back ≡ false → unheard ≡ []
  pub runs : BackRuns opened (seen_of opened back) back.log.taken.items (sent ++ unheard)

-- Where all that it has taken fits, it knows the slot's object where that was bound before, or by what it has taken.
abbrev pub KnowsObject : {D : Type 0} → Option Object → Back D → Type 0
KnowsObject object back = AreFit (is_some object) None back.log.taken.items → is_some back.identity ≡ known_over (is_some object) back.log.taken.items

-- A back is stuck at this entry, which it took when it stood so, where the entry didn't fit: it has taken and told nothing since.
pub record StuckAt {D : Type 0} (moment_of : D → ℕ) (left_since : D → ℕ → List ℕ → Type 0) (told : D → Option (List ℕ))
    (image : D → List ℕ → Type 0) (faults_of : D → ℕ) (start : List (List Op)) (opening : ℕ) (object : Option Object) (back : Back D) (entry : Entry)
    (notices : List Notice) : Type 0 where
  pub before : Back D
  pub stands : IsBack moment_of left_since told image faults_of start opening before
  pub may : may_take before ≡ true
  pub unfit : is_unfit (fit_of before entry) ≡ true
  pub taken : before.log.taken.items ≡ back.log.taken.items
  pub knows : KnowsObject object before
  pub runs : TellsNow told back → BackRuns (opened_map start) (seen_of (opened_map start) before) before.log.taken.items notices

-- A back of a slot with this object, this journal's extent and this alarm when it was mounted, that ran so while its disk tells its content. What it
-- has logged as taken is what its end of the line gave, but for the last entry, at which it is stuck or stopped; what it has logged as
-- released was sent on its lane out.
pub record IsBackAlone {D : Type 0} (moment_of : D → ℕ) (left_since : D → ℕ → List ℕ → Type 0) (told : D → Option (List ℕ))
    (image : D → List ℕ → Type 0) (faults_of : D → ℕ) (start : List (List Op)) (opening : ℕ) (object : Option Object) (extent : Extent)
    (alarm : Option (ℤ × ℕ)) (back : Back D) (got : List Entry) (notices : List Notice) (out : List Sent) : Type 0 where
  pub stands : IsBack moment_of left_since told image faults_of start opening back
  pub named : IsNamed object back
  pub limited : IsLimitedBy told extent back
  pub opened_at : TellsNow told back → alarm ≡ (opened_map start).alarm
  pub knows : KnowsObject object back
  pub lost : List Entry
  pub few : length lost ≤ 1
  pub none_lost : back.stuck ≡ false → is_stopped back ≡ false → lost ≡ []
  pub took : got ≡ back.log.taken.items ++ lost
  pub left : messages back.log.released.items ≡ out
  pub tells : TellsNow told back → HasTold (opened_map start) back notices
  pub stuck : back.stuck ≡ true → is_stopped back ≡ false
      → (e : Entry) × (got ≡ back.log.taken.items ++ e ∷ []) × StuckAt moment_of left_since told image faults_of start opening object back e notices

-- Halves that ran apart from a mounting on, and were put in one place with what their lanes still had: of the line and of the notices what
-- wasn't taken waits; of the inbox all that was taken is known; and of what was let go others may have taken the first.
pub record AreApart {D : Type 0} (moment_of : D → ℕ) (left_since : D → ℕ → List ℕ → Type 0) (told : D → Option (List ℕ))
    (image : D → List ℕ → Type 0) (faults_of : D → ℕ) (script : Script) (origin : Origin)
    (front : Half Evaluated) (inbox : Both Event) (back : Back D) (line : Both Entry) (notices : Both Notice) (out : Both Sent) : Type 0 where
  pub sent : List Entry
  pub took : List Entry
  pub noticed : List Notice
  pub heard : List Notice
  pub gone : List Sent
  pub alarm : Option (ℤ × ℕ)
  pub front_alone : IsFrontAlone script (class_in script origin.object) alarm front inbox.got heard sent
  pub back_alone :
      IsBackAlone moment_of left_since told image faults_of origin.start origin.opening origin.object origin.extent alarm back took noticed gone
  pub is_line : sent ≡ took ++ line.waiting
  pub is_told : noticed ≡ heard ++ notices.waiting
  pub is_gone : gone ≡ origin.left ++ sent_on out
