-- What a back lets go is a step of which the history speaks.
use Rattle.std.proofs.Common.{◌≡◌, ◌∙◌, ap, sym, refl, subst, inl, inr, true≢false, ℕ, suc, ◌+◌, List, [], ◌∷◌, ◌++◌, length, arith, Option}
use Rattle.std.specs.Prelude.{ℤ, Bool, ◌||◌}
use Rattle.std.specs.List.{flat_map}
use Rattle.storage_map.specs.Contents.{Contents}
use Rattle.storage_map.specs.declared.op.Op.{Op}
use Rattle.batch_journal.specs.Rest.{disk_in}
use Rattle.timeline.specs.Logs.{Backed, backed}
use Rattle.timeline.specs.declared.back_log.End.{End}
use Rattle.timeline.specs.declared.back_log.Release.{Release}
use Rattle.timeline.specs.declared.caller.Cause.{Cause}
use Rattle.timeline.specs.declared.message.Message.{Message as Sent}
use Rattle.timeline.specs.declared.notice.Notice.{Notice}
use Rattle.timeline.specs.declared.notice.Notice.TheVariants as notice
use Rattle.output_gate.specs.Held.{is_held_halt, has_halt}
use Rattle.output_gate.specs.Releasing.{released_log, released_notices, Releases}
use Rattle.output_gate.specs.Serving.{alarm_of, halt_of, IsBackAs}
use Rattle.output_gate.specs.Storing.{IsDiskOf}
use Rattle.output_gate.specs.declared.back.Back.{Back}
use Rattle.output_gate.specs.declared.back.Mode.TheVariants.{Mounted}
use Rattle.output_gate.specs.declared.held.Held.{Held as BackHeld}
use Rattle.output_gate.specs.declared.held.HeldBody.{HeldBody}
use Rattle.output_gate.specs.declared.held.HeldBody.TheVariants.{Message, Sync, Halt}
use Rattle.output_gate.specs.declared.store.Store.{Store}
use Rattle.object_history.proofs.BeingRear.{mode_of}
use Rattle.object_history.proofs.GateStepping.{numbered_so}
use Rattle.object_history.proofs.Seeing.{made, steps_to}
use Rattle.object_history.specs.Pair.{mounted}
use Rattle.object_history.specs.Seen.{held_for, held_of, stand_of, rear_of}
use Rattle.object_history.specs.Stepping.{BackSteps, sends, syncs, halts}

module _ {D : Type 0} (moment_of : D → ℕ) (left_since : D → ℕ → List ℕ → Type 0) (told : D → Option (List ℕ)) (image : D → List ℕ → Type 0) (faults_of : D → ℕ)
    (start : List (List Op)) (opening : ℕ) (sound : Bool) where
  -- a back has a disk
  disk_of : (back : Back D) → IsBackAs moment_of left_since told image faults_of start opening sound back → (disk : D) × IsDiskOf back.store disk
  disk_of back (inl m) = (disk_in m.journal, subst (λ (s : Store D). IsDiskOf s (disk_in m.journal)) (sym m.safe.store) refl)
  disk_of back (inr u) = (u.disk, u.safe.store)

  -- a halt is held while the newest incarnation is mounted alone
  stands_at_halt : (back : Back D) (first : BackHeld) (rest : List BackHeld) (c : Cause) → IsBackAs moment_of left_since told image faults_of start opening sound back
      → back.held.items ≡ first ∷ rest → first.body ≡ Halt c → stand_of back.mode ≡ mounted
  stands_at_halt back first rest c (inl m) held is = ap stand_of m.safe.mode
  stands_at_halt back first rest c (inr u) held is =
      absurd (true≢false (sym (ap (λ (b : HeldBody). is_held_halt b || has_halt rest) is) ∙ sym (ap has_halt held) ∙ u.safe.halts))

  module _ (back later : Back D) (m n : Contents) (sent_before sent : List Notice) (out_before out : List Sent)
      (known : IsBackAs moment_of left_since told image faults_of start opening sound back)
      (releases : Releases moment_of back later sent_before sent out_before out) (alarm : back.mode ≡ Mounted → n.alarm ≡ alarm_of back) where
    first_seen : (b : HeldBody) → releases.first.body ≡ b → flat_map held_of back.held.items ≡ held_for releases.first.needs b ++ flat_map held_of releases.rest
    first_seen b is = ap (flat_map held_of) releases.held ∙ ap (λ (x : HeldBody). held_for releases.first.needs x ++ flat_map held_of releases.rest) is

    rest_seen : flat_map held_of later.held.items ≡ flat_map held_of releases.rest
    rest_seen = ap (flat_map held_of) releases.others

    logged : (b : HeldBody) → releases.first.body ≡ b → backed later.log ≡ released_log back (moment_of (disk_of back known).0) releases.first b
    logged b is = releases.log (disk_of back known).0 (disk_of back known).1 ∙ ap (released_log back (moment_of (disk_of back known).0) releases.first) is

    stood : stand_of later.mode ≡ stand_of back.mode
    stood = ap stand_of releases.mode

    abbrev Goes : HeldBody → Type 0
    Goes b = BackSteps (rear_of m back) (rear_of n later) [] (released_notices back b)

    message_steps : (message : Sent) → releases.first.body ≡ Message message → Goes (Message message)
    message_steps message is =
        let release : Release = record { message = message; needs = releases.first.needs; moment = moment_of (disk_of back known).0 } in
        steps_to (rear_of m back) later n [] [] _ (stand_of back.mode) (flat_map held_of back.held.items) back.before back.durable (sends release n)
        (logged (Message message) is) stood (rest_seen ∙ sym (first_seen (Message message) is)) releases.before releases.durable

    sync_steps : (number : ℕ) → releases.first.body ≡ Sync number → Goes (Sync number)
    sync_steps number is =
        steps_to (rear_of m back) later n [] (notice.Synced number ∷ []) (backed back.log) (stand_of back.mode) (flat_map held_of releases.rest) back.before back.durable
        (syncs number releases.first.needs (flat_map held_of releases.rest) n (first_seen (Sync number) is))
        (logged (Sync number) is) stood rest_seen releases.before releases.durable

    halt_steps : (c : Cause) → releases.first.body ≡ Halt c → Goes (Halt c)
    halt_steps c is =
        let rest = flat_map held_of releases.rest in
        let end : End = record { kept = back.own; cause = c } in
        let next : suc (suc (length back.log.stops.items)) ≡ back.number + 1 =
        omega (arith, numbered_so moment_of left_since told image faults_of start opening sound back known) in
        let log : Backed = released_log back (moment_of (disk_of back known).0) releases.first (Halt c) in
        let stand = stands_at_halt back releases.first releases.rest c known releases.held is in
        let step = halts c releases.first.needs rest (halt_of back c) end n (first_seen (Halt c) is) stand refl refl in
        steps_to (rear_of m back) later n [] (notice.Fresh (back.number + 1) (alarm_of back) c ∷ []) log (stand_of back.mode) rest back.before back.durable
        (subst (λ (x : Option (ℤ × ℕ) × ℕ). BackSteps (rear_of m back) (made log (stand_of back.mode) rest back.before back.durable n) [] (notice.Fresh x.1 x.0 c ∷ []))
        (ap (λ (a : Option (ℤ × ℕ)). (a, suc (suc (length back.log.stops.items)))) (alarm (mode_of back.mode stand)) ∙ ap (λ (i : ℕ). (alarm_of back, i)) next) step)
        (logged (Halt c) is) stood rest_seen releases.before releases.durable

    steps_as : (b : HeldBody) → releases.first.body ≡ b → Goes b
    steps_as (Message message) is = message_steps message is
    steps_as (Sync number) is = sync_steps number is
    steps_as (Halt c) is = halt_steps c is

    pub release_steps : BackSteps (rear_of m back) (rear_of n later) [] (released_notices back releases.first.body)
    release_steps = steps_as releases.first.body refl
