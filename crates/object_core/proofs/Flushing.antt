-- An object whose back appends what it has taken.
use Rattle.std.proofs.Common.{◌≡◌, ◌≢◌, ◌∙◌, ap, sym, refl, subst, inl, inr, ⊎_elim, ℕ, List, [], ◌++◌, append-nil, Option}
use Rattle.std.proofs.lemmas.Bool.{cases_eq}
use Rattle.std.specs.Prelude.{not}
use Rattle.do_tree.specs.Tree.{Script}
use Rattle.lane.specs.Lanes.{Both}
use Rattle.storage_map.specs.Contents.{Contents}
use Rattle.timeline.specs.Logs.{Backed, backed}
use Rattle.timeline.specs.declared.entry.Entry.{Entry}
use Rattle.timeline.specs.declared.event.Event.{Event}
use Rattle.timeline.specs.declared.message.Message.{Message as Sent}
use Rattle.timeline.specs.declared.notice.Notice.{Notice}
use Rattle.timeline.specs.declared.notice.Stepped.{Stepped}
use Rattle.timeline.specs.declared.notice.Stepped.TheVariants.{Did, Nothing}
use Rattle.object_front.specs.declared.evaluated.Evaluated.{Evaluated}
use Rattle.front_half.specs.declared.half.Half.{Half}
use Rattle.output_gate.specs.Flushing.{Flushes}
use Rattle.output_gate.specs.Serving.{KeepsBack, is_stopped}
use Rattle.output_gate.specs.Storing.{KeepsLimit, KeepsTelling}
use Rattle.output_gate.specs.Telling.{opened_map}
use Rattle.output_gate.specs.declared.back.Back.{Back}
use Rattle.object_history.proofs.GateStepping as gate
use Rattle.object_history.specs.Stepping.{BackSteps}
use Rattle.front_history.specs.Turns.{BackStepsKeep}
use Rattle.object_core.proofs.Limiting.{limited_flush}
use Rattle.object_core.proofs.Rebuilding.{One, hears_on, stepped}
use Rattle.object_core.specs.One.{Origin, messages}
use Rattle.object_core.specs.Seen.{due_map, seen_of}

-- What the back's own contract says of a flush.
pub record FlushesBy {D : Type 0} (moment_of : D → ℕ) (left_since : D → ℕ → List ℕ → Type 0) (told : D → Option (List ℕ)) (image : D → List ℕ → Type 0) (faults_of : D → ℕ)
    (old new : Back D) (result : Stepped) : Type 0 where
  pub nothing : old.before ≡ old.durable → (result ≡ Nothing) × (new ≡ old)
  pub flushed : old.before ≢ old.durable → (result ≡ Did) × Flushes faults_of old new
  pub tells : KeepsTelling told old.store new.store
  pub limit : KeepsLimit old.store new.store
  pub stopped : is_stopped new ≡ is_stopped old
  pub back : KeepsBack moment_of left_since told image faults_of old new

flushed_stuck : {D : Type 0} (faults_of : D → ℕ) (old new : Back D) → Flushes faults_of old new → new.stuck ≡ old.stuck
flushed_stuck faults_of old new (inl all) = all.stuck
flushed_stuck faults_of old new (inr ends) = ends.stuck

flushed_identity : {D : Type 0} (faults_of : D → ℕ) (old new : Back D) → Flushes faults_of old new → new.identity ≡ old.identity
flushed_identity faults_of old new (inl all) = all.identity
flushed_identity faults_of old new (inr ends) = ends.identity

flushed_taken : {D : Type 0} (faults_of : D → ℕ) (old new : Back D) → Flushes faults_of old new → new.log.taken.items ≡ old.log.taken.items
flushed_taken faults_of old new (inl all) = ap (λ (x : Backed). x.taken) all.log
flushed_taken faults_of old new (inr ends) = ap (λ (x : Backed). x.taken) ends.log

flushed_released : {D : Type 0} (faults_of : D → ℕ) (old new : Back D) → Flushes faults_of old new → new.log.released.items ≡ old.log.released.items
flushed_released faults_of old new (inl all) = ap (λ (x : Backed). x.released) all.log
flushed_released faults_of old new (inr ends) = ap (λ (x : Backed). x.released) ends.log

module _ {D : Type 0} (moment_of : D → ℕ) (left_since : D → ℕ → List ℕ → Type 0) (told : D → Option (List ℕ)) (image : D → List ℕ → Type 0) (faults_of : D → ℕ)
    (keeps : BackStepsKeep) (script : Script) (origin : Origin) (front : Half Evaluated) (inbox : Both Event) (old new : Back D) (line : Both Entry) (notices : Both Notice) (out : Both Sent)
    (one : One moment_of left_since told image faults_of script origin front inbox old line notices out) (result : Stepped)
    (by : FlushesBy moment_of left_since told image faults_of old new result) where
  abbrev After : Type 0
  After = One moment_of left_since told image faults_of script origin front inbox new line notices out

  nothing_flown : old.before ≡ old.durable → After
  nothing_flown even =
      subst (λ (b : Back D). One moment_of left_since told image faults_of script origin front inbox b line notices out) (sym (by.nothing even).1) one

  flown : old.before ≢ old.durable → After
  flown differ =
      let flushes = (by.flushed differ).1 in
      let opened : Contents = opened_map origin.start in
      let steps : BackSteps (seen_of opened old) (seen_of opened new) [] [] =
      gate.flush_steps moment_of left_since told image faults_of origin.start origin.opening (not (is_stopped old)) old new (due_map opened (backed old.log))
      (due_map opened (backed new.log)) one.back_stands differ flushes in
      stepped moment_of left_since told image faults_of script origin front inbox keeps old new line notices notices out out one
      (by.back origin.start origin.opening one.back_stands) by.tells (flushed_identity faults_of old new flushes)
      (λ free on. one.none_lost (sym (flushed_stuck faults_of old new flushes) ∙ free) (sym by.stopped ∙ on))
      (λ on. (sym by.stopped ∙ on, flushed_stuck faults_of old new flushes))
      (flushed_taken faults_of old new flushes) (ap messages (flushed_released faults_of old new flushes) ∙ one.left)
      (λ tells. record { heard = []; given = []; steps = steps; are = inl refl; come = sym (append-nil notices.waiting) })
      (hears_on moment_of left_since told image faults_of script origin front inbox old new line notices out one by.tells (λ goes. sym by.stopped ∙ goes) []
      (one.lost ++ line.waiting) [] notices.waiting (λ tells goes. record { steps = steps; come = sym (append-nil notices.waiting) }) refl)
      (limited_flush moment_of left_since told image faults_of origin.start origin.opening (not (is_stopped old)) origin.extent old new one.back_stands by.tells one.limited
      differ flushes (by.limit old.limit))

  pub flush_keeps : After
  flush_keeps = ⊎_elim nothing_flown flown (cases_eq old.before old.durable)
