-- The rows of halves of which memory was wanting to make objects.
use Rattle.std.proofs.Common.{◌≡◌, ◌+◌, ◌∙◌, ⊎_elim, ap, sym, subst, arith, ℕ, List, [], ◌∷◌, ◌++◌, length, Option, Some}
use Rattle.std.specs.Prelude.{slice_get}
use Rattle.std.proofs.lemmas.Bool.{cases_lt}
use Rattle.do_tree.specs.Tree.{Script}
use Rattle.lane.specs.Lanes.{Both}
use Rattle.storage_map.specs.Limits.{Object}
use Rattle.timeline.specs.Logs.{backed, fronted}
use Rattle.timeline.specs.Switch.{SwitchLog}
use Rattle.timeline.specs.declared.event.Event.{Event}
use Rattle.timeline.specs.declared.message.Message.{Message}
use Rattle.object_core.specs.Shown.{AllShow}
use Rattle.object_core.specs.declared.object.Core.{Core}
use Rattle.object_front.specs.declared.front.Front.{Front}
use Rattle.output_gate.specs.Storing.{IsDiskOf}
use Rattle.output_gate.specs.declared.back.Back.{Back}
use Rattle.placement.specs.Slots.{Slots, object_at}
use Rattle.mailbox.specs.Posting.{of_slot}
use Rattle.host_workers.specs.declared.joining.Halves.{Halves}
use Rattle.host_core.proofs.Pushed.{before_push, next_at, push_before, push_last, push_within}
use Rattle.host_core.proofs.Rows.{is_row_of}
use Rattle.host_core.specs.Closing.{AreHalves}
use Rattle.host_core.specs.Rows.{AreRows, IsRow}
use Rattle.host_core.specs.Slots.{IsSlot}
use Rattle.host_core.specs.declared.report.SlotReport.{SlotReport}

module _ {D : Type 0} (moment_of : D → ℕ) (left_since : D → ℕ → List ℕ → Type 0) (told : D → Option (List ℕ)) (image : D → List ℕ → Type 0) (faults_of : D → ℕ) where
  -- The row tells of the object of these halves, whichever slot it stands in.
  abbrev pub IsRowOfHalves : Halves D → SlotReport D → Type 0
  IsRowOfHalves halves row = (limit : ℕ) (script : Script) (content : Option (List ℕ)) (named : Option Object) (posts : List Event) (routed : List Message)
      → (core : Core D) × (inbox : Both Event) × (out : Both Message) × (core.front ≡ halves.front) × (core.back ≡ halves.back)
      × IsSlot moment_of left_since told image faults_of limit script content named posts routed core inbox out
      → IsRow moment_of left_since told faults_of limit script content named posts routed row

  -- So does the row that is made of them.
  pub row_of_halves : AllShow moment_of left_since told image faults_of → (halves : Halves D) (row : SlotReport D) → IsDiskOf halves.back.store row.store
      → row.identity ≡ halves.back.identity → fronted row.front ≡ fronted halves.front.half.log → backed row.back ≡ backed halves.back.log → IsRowOfHalves halves row
  row_of_halves shows halves row store identity front back = λ limit script content named posts routed of.
      let core = of.0 in
      is_row_of moment_of left_since told image faults_of core row
      (subst (λ (b : Back D). IsDiskOf b.store row.store) (sym of.4) store)
      (identity ∙ ap (λ (b : Back D). b.identity) (sym of.4))
      (front ∙ ap (λ (f : Front). fronted f.half.log) (sym of.3))
      (back ∙ ap (λ (b : Back D). backed b.log) (sym of.4))
      (shows.history core) (shows.intake core) (shows.got core) (shows.class core) (shows.left core) (shows.tells core) (shows.owed core) (shows.limited core)
      (shows.unended core) (shows.drops core) (shows.classless core)
      limit script content named posts routed of.1 of.2 of.5

  -- Behind these rows stand those of these halves.
  abbrev pub AreRowsBehind : List (SlotReport D) → List (Halves D) → List (SlotReport D) → Type 0
  AreRowsBehind first apart rows = (limit : ℕ) (script : Script) (contents : ℕ → Option (List ℕ)) (named : Slots) (log : SwitchLog)
      → AreHalves moment_of left_since told image faults_of limit script contents named log (length first) apart
      → AreRows moment_of left_since told faults_of limit script contents named log first
      → AreRows moment_of left_since told faults_of limit script contents named log rows

  -- Those of one slot more.
  pub rows_behind : (first rows after : List (SlotReport D)) (apart : List (Halves D)) (halves : Halves D) (row : SlotReport D)
      → length rows ≡ length first + length apart → after ≡ rows ++ row ∷ [] → IsRowOfHalves halves row
      → AreRowsBehind first apart rows → AreRowsBehind first (apart ++ halves ∷ []) after
  rows_behind first rows after apart halves row many pushed is so_far = λ limit script contents named log are known slot that there.
      let at : slice_get (rows ++ row ∷ []) slot ≡ Some that = subst (λ (xs : List (SlotReport D)). slice_get xs slot ≡ Some that) pushed there in
      let own = length first + length apart in
      ⊎_elim
      (λ less.
      so_far limit script contents named log (λ place x is_x. are place x (before_push apart halves x place is_x)) known slot that (push_before rows row that slot less at))
      (λ more.
      let last : length rows ≡ slot = omega (arith, more, push_within rows row that slot at) in
      subst (λ (n : ℕ). IsRow moment_of left_since told faults_of limit script (contents n) (object_at named n) (of_slot n log.posts) (of_slot n log.routed) that) (sym many ∙ last)
      (subst (λ (r : SlotReport D). IsRow moment_of left_since told faults_of limit script (contents own) (object_at named own) (of_slot own log.posts) (of_slot own log.routed) r)
      (push_last rows row that slot last at)
      (is limit script (contents own) (object_at named own) (of_slot own log.posts) (of_slot own log.routed) (are (length apart) halves (next_at apart halves [])))))
      (cases_lt slot (length rows))
