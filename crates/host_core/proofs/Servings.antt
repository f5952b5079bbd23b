-- What one message that is routed, or one line that is accepted, leaves of a run.
use Rattle.std.proofs.Common.{◌≡◌, ◌<◌, ◌∙◌, ap, sym, subst, refl, arith, ℕ, List, [], ◌∷◌, ◌++◌, map, length, cond, append-nil, Option, Some, None}
use Rattle.std.specs.Prelude.{Bool, Result, Ok, Err, OnOk, OnErr, slice_get}
use Rattle.std.specs.List.{All, Contains}
use Rattle.std.proofs.lemmas.List.Elements.{All-nil, All-cons, Contains-append_left, Contains-push}
use Rattle.do_tree.specs.Tree.{Script}
use Rattle.lane.specs.Lanes.{Both, nowhere, sent_on}
use Rattle.line_server.specs.declared.line.Line.{Line}
use Rattle.placement.specs.Slots.{Slots}
use Rattle.mailbox.specs.Fit.{IsFit}
use Rattle.switch_history.specs.Fit.{IsFitRun, accepted as fit_accepted, routed as fit_routed}
use Rattle.switch_history.specs.Placed.{PostsArePlaced}
use Rattle.timeline.specs.Switch as timeline
use Rattle.timeline.specs.Switch.{SwitchLog, opened}
use Rattle.timeline.specs.declared.event.Event.{Event}
use Rattle.timeline.specs.declared.message.Message.{Message}
use Rattle.mailbox.proofs.Sendings.{same_count}
use Rattle.mailbox.specs.Posting.{at_slot, of_slot}
use Rattle.mailbox.specs.Runs.{Accepts, Acts, Routes, BeginsLine, BeginsMessage, IsStill, KeepsRun, fault_of, log_of, slots_of, state_of}
use Rattle.mailbox.specs.Seen.{seen_line}
use Rattle.mailbox.specs.Taken.{IsTakenOf, SameInlets, got_more}
use Rattle.mailbox.specs.declared.fault.SwitchFault.{SwitchFault}
use Rattle.mailbox.specs.declared.switch.Switch.{Switch}
use Rattle.object_core.specs.Unmoved.{AllAreOwed, AllSayNothing}
use Rattle.object_core.specs.declared.object.Core.{Core}
use Rattle.host_core.proofs.Fitting.{message_fits}
use Rattle.host_core.proofs.Found.{item_at}
use Rattle.host_core.proofs.Routings.{Moves, got_of, at_same, at_some, at_taken, is_own, going_moved, there_moved, all_stand, going_can, standing_can}
use Rattle.host_core.specs.Objects.{ObjectsTell, AreGoing, AreSlots, AreThere, CanAllRun}
use Rattle.host_core.specs.Running.{HasServed, IsServing}
use Rattle.mailbox.specs.SoFar.{IsRunSoFar, whole, in_line, in_message}
use Rattle.host_core.specs.declared.objects.Objects.{Objects}

-- What a call of the switch does to the inboxes of the slots.
abbrev pub ActsOn : {D W T : Type 0} → (W → Option (List ℕ)) → (W → ℕ) → (before after : Switch W) → (old new : Objects D) → Result T SwitchFault → Type 0
ActsOn taken faults before after old new result =
    Acts (λ (p : Both Event). sent_on p) (λ (p : Both Event). nowhere) (λ (p : Both Event). p.got) taken faults before after old.inboxes.items new.inboxes.items result

abbrev pub SameOuts : {D : Type 0} → (old new : Objects D) → Type 0
SameOuts old new = SameInlets (λ (p : Both Message). nowhere) (λ (p : Both Message). sent_on p) old.outs.items new.outs.items

-- The lanes out aren't touched.
pub outs_same : {D : Type 0} (old new : Objects D) → new.outs.items ≡ old.outs.items → SameOuts old new
outs_same old new same = record {
  lanes = ap (map (λ (p : Both Message). nowhere)) same;
  known = ap (map (λ (p : Both Message). sent_on p)) same;
}

module _ {D W T : Type 0} (taken : W → Option (List ℕ)) (faults : W → ℕ) (before after : Switch W) (old new : Objects D) (result : Result T SwitchFault)
    (cores : new.cores.items ≡ old.cores.items) (acts : ActsOn taken faults before after old new result) (lanes : SameOuts old new) where
  abbrev moves_by : (routed : List (ℕ × Message)) → (log_of after).routed ≡ (log_of before).routed ++ routed
      → ((slot : ℕ) → at_slot got_of new.outs.items slot ≡ at_slot got_of old.outs.items slot ++ of_slot slot routed)
      → Moves (log_of before) (log_of after) old new
  moves_by routed more got = record {
    cores = cores;
    inboxes = same_count (λ (p : Both Event). p.got) old.inboxes.items new.inboxes.items acts.ends.known;
    outs = same_count (λ (p : Both Message). sent_on p) old.outs.items new.outs.items lanes.known;
    posts = acts.posted.since;
    posted = acts.posted.logged;
    sent = acts.posted.each;
    left = at_same (λ (p : Both Event). p.got) old.inboxes.items new.inboxes.items acts.ends.known;
    routed = routed;
    taken = more;
    got = got;
    told = at_same (λ (p : Both Message). sent_on p) old.outs.items new.outs.items lanes.known;
  }

  -- One message was taken, which is logged.
  abbrev pub moves_one : (sent : ℕ × Message) → sent.0 < length old.outs.items
      → map (λ (p : Both Message). p.got) new.outs.items ≡ got_more sent.0 sent.1 (map (λ (p : Both Message). p.got) old.outs.items)
      → (log_of after).routed ≡ (log_of before).routed ++ sent ∷ [] → Moves (log_of before) (log_of after) old new
  moves_one sent there took more =
      moves_by (sent ∷ []) more (at_taken (λ (p : Both Message). p.got) old.outs.items new.outs.items sent.0 sent.1 there took)

  -- None was taken.
  abbrev pub moves_none : map (λ (p : Both Message). p.got) new.outs.items ≡ map (λ (p : Both Message). p.got) old.outs.items
      → (log_of after).routed ≡ (log_of before).routed → Moves (log_of before) (log_of after) old new
  moves_none same kept =
      moves_by [] (kept ∙ sym (append-nil (log_of before).routed)) (λ slot.
      at_same (λ (p : Both Message). p.got) old.outs.items new.outs.items same slot ∙ sym (append-nil (at_slot got_of old.outs.items slot)))

module _ {D W : Type 0} (moment_of : D → ℕ) (left_since : D → ℕ → List ℕ → Type 0) (told : D → Option (List ℕ)) (image : D → List ℕ → Type 0) (faults_of : D → ℕ)
    (limit : ℕ) (script : Script) (contents : ℕ → Option (List ℕ)) (named : Slots) (before after : Switch W) (old new : Objects D) where
  abbrev Serves : Switch W → Objects D → Type 0
  Serves = IsServing moment_of left_since told image faults_of limit script contents named

  abbrev Served : Switch W → Objects D → Type 0
  Served = HasServed moment_of left_since told image faults_of limit script contents named

  -- What was routed until then was fit.
  abbrev FitsAfter : Type 0
  FitsAfter = IsFitRun script (opened named) (log_of after) (state_of after)

  fits_as : (log : SwitchLog) (s : timeline.Switch) → log_of after ≡ log → state_of after ≡ s → IsFitRun script (opened named) log s → FitsAfter
  fits_as log s same_log same fits =
      subst (λ (l : SwitchLog). IsFitRun script (opened named) l (state_of after)) (sym same_log)
      (subst (λ (t : timeline.Switch). IsFitRun script (opened named) log t) (sym same) fits)

  abbrev AreOf : List (ℕ × Message) → Type 0
  AreOf = All (λ (sent : ℕ × Message). sent.0 < length old.cores.items)

  -- The same objects tell as before.
  still_tell : new.cores.items ≡ old.cores.items → ObjectsTell told new → ObjectsTell told old
  still_tell same tells = λ slot core at. tells slot core (subst (λ (xs : List (Core D)). slice_get xs slot ≡ Some core) (sym same) at)

  serving_moved : (moves : Moves (log_of before) (log_of after) old new) → AreOf moves.routed → KeepsRun script before after
      → slots_of after ≡ slots_of before → fault_of after ≡ None → (fits : Serves before old → ObjectsTell told old → FitsAfter) → Serves before old → Serves after new
  serving_moved moves are keeps many goes fits serving = record {
    run = keeps (opened named) serving.run;
    slots = going_moved (log_of before) (log_of after) old new moves moment_of left_since told image faults_of limit script contents named serving.slots;
    there = there_moved (log_of before) (log_of after) old new moves serving.there are;
    many = many ∙ serving.many ∙ sym (ap length moves.cores);
    all = serving.all ∙ sym (ap length moves.cores);
    goes = goes;
    fit = λ tells. fits serving (still_tell moves.cores tells);
  }

  served_moved : (moves : Moves (log_of before) (log_of after) old new) → AreOf moves.routed
      → IsRunSoFar script (opened named) (log_of after) → Serves before old → Served after new
  served_moved moves are run serving = record {
    run = run;
    slots = all_stand moment_of left_since told image faults_of limit script contents named (log_of after) new
        (going_moved (log_of before) (log_of after) old new moves moment_of left_since told image faults_of limit script contents named serving.slots);
    there = subst (λ (n : ℕ). AreThere n (log_of after)) (ap length moves.cores ∙ sym serving.all)
        (there_moved (log_of before) (log_of after) old new moves serving.there are);
  }

  one_of : (sent : ℕ × Message) → sent.0 < length old.outs.items → Serves before old → AreOf (sent ∷ [])
  one_of sent there serving =
      All-cons (λ (s : ℕ × Message). s.0 < length old.cores.items) sent [] (subst (λ (n : ℕ). sent.0 < n) serving.slots.outs there)
      (All-nil (λ (s : ℕ × Message). s.0 < length old.cores.items))

  none_of : AreOf []
  none_of = All-nil (λ (s : ℕ × Message). s.0 < length old.cores.items)

  -- The log is the same.
  same_run : log_of after ≡ log_of before → Serves before old → IsRunSoFar script (opened named) (log_of after)
  same_run same serving = subst (λ (log : SwitchLog). IsRunSoFar script (opened named) log) (sym same) (whole (state_of before) serving.run)

  module _ {T : Type 0} (taken : W → Option (List ℕ)) (faults : W → ℕ) (result : Result T SwitchFault)
      (cores : new.cores.items ≡ old.cores.items) (acts : ActsOn taken faults before after old new result) (lanes : SameOuts old new) where
    abbrev GotOld : List (List Message)
    GotOld = map (λ (p : Both Message). p.got) old.outs.items

    abbrev GotNew : List (List Message)
    GotNew = map (λ (p : Both Message). p.got) new.outs.items

    -- ---- one message is routed, or none
    -- The message that was taken waited to be.
    waited : (sent : ℕ × Message) (moves : Moves (log_of before) (log_of after) old new) → moves.routed ≡ sent ∷ [] → (out then : Both Message)
        → slice_get old.outs.items sent.0 ≡ Some out → slice_get new.outs.items sent.0 ≡ Some then → Contains (sent_on out) sent.1
    waited sent moves one out then is_out is_then =
        let own : of_slot sent.0 moves.routed ≡ sent.1 ∷ [] =
        ap (of_slot sent.0) one ∙ ap (λ (b : Bool). cond b (sent.1 ∷ []) []) (is_own sent.0 sent.0 refl) in
        let got : then.got ≡ out.got ++ sent.1 ∷ [] =
        sym (at_some got_of new.outs.items sent.0 then is_then) ∙ moves.got sent.0
        ∙ ap (λ (ms : List Message). ms ++ of_slot sent.0 moves.routed) (at_some got_of old.outs.items sent.0 out is_out)
        ∙ ap (λ (ms : List Message). out.got ++ ms) own in
        let told_same : sent_on then ≡ sent_on out =
        sym (at_some sent_on new.outs.items sent.0 then is_then) ∙ moves.told sent.0 ∙ at_some sent_on old.outs.items sent.0 out is_out in
        subst (λ (ms : List Message). Contains ms sent.1) told_same
        (Contains-append_left then.got then.waiting sent.1 (subst (λ (ms : List Message). Contains ms sent.1) (sym got) (Contains-push out.got sent.1)))

    -- So it is fit.
    taken_fits : PostsArePlaced → AllAreOwed moment_of left_since told image faults_of → AllSayNothing moment_of left_since told image faults_of
        → (sent : ℕ × Message) (moves : Moves (log_of before) (log_of after) old new) → moves.routed ≡ sent ∷ [] → sent.0 < length old.outs.items
        → Serves before old → ObjectsTell told old → IsFit (state_of before) sent
    taken_fits placed owed nothing sent moves one there serving tells =
        let slots = serving.slots in
        let out = item_at old.outs.items sent.0 there in
        let then = item_at new.outs.items sent.0 (omega (arith, there, moves.outs)) in
        let core = item_at old.cores.items sent.0 (omega (arith, there, slots.outs)) in
        let inbox = item_at old.inboxes.items sent.0 (omega (arith, there, slots.outs, slots.inboxes)) in
        message_fits moment_of left_since told image faults_of limit script contents named (log_of before) (state_of before) old placed owed nothing
        serving.run slots tells sent.0 core.0 inbox.0 out.0 core.1 inbox.1 out.1 sent.1 (waited sent moves one out.0 then.0 out.1 then.1)

    pub serving_routed : PostsArePlaced → AllAreOwed moment_of left_since told image faults_of → AllSayNothing moment_of left_since told image faults_of
        → IsTakenOf (λ (p : Both Message). p.got) old.outs.items new.outs.items (Routes script before after) → KeepsRun script before after
        → fault_of after ≡ None → Serves before old → Serves after new
    serving_routed placed owed nothing one keeps goes serving =
        let moves = moves_one taken faults before after old new result cores acts lanes one.sent one.there one.taken
        (ap (λ (log : SwitchLog). log.routed) one.does.log) in
        serving_moved moves (one_of one.sent one.there serving) keeps acts.slots goes
        (λ serves tells. fits_as _ _ one.does.log one.does.state
        (fit_routed (log_of before) (state_of before) one.sent (taken_fits placed owed nothing one.sent moves refl one.there serves tells) (serves.fit tells))) serving

    pub serving_still : IsStill before after → GotNew ≡ GotOld → KeepsRun script before after → fault_of after ≡ None → Serves before old → Serves after new
    serving_still still same keeps goes serving =
        serving_moved (moves_none taken faults before after old new result cores acts lanes same (ap (λ (log : SwitchLog). log.routed) still.log))
        none_of keeps acts.slots goes (λ serves tells. fits_as (log_of before) (state_of before) still.log still.state (serves.fit tells)) serving

    pub served_routed : IsTakenOf (λ (p : Both Message). p.got) old.outs.items new.outs.items (BeginsMessage script before after) → Serves before old → Served after new
    served_routed one serving =
        served_moved (moves_one taken faults before after old new result cores acts lanes one.sent one.there one.taken one.does.routed)
        (one_of one.sent one.there serving)
        (in_message (log_of before) (state_of before) one.sent serving.run one.does) serving

    pub served_still : log_of after ≡ log_of before → GotNew ≡ GotOld → Serves before old → Served after new
    served_still still same serving =
        served_moved (moves_none taken faults before after old new result cores acts lanes same (ap (λ (log : SwitchLog). log.routed) still))
        none_of (same_run still serving) serving

    -- ---- one line is accepted
    pub serving_line : (line : Line) → GotNew ≡ GotOld → Accepts script before after line → KeepsRun script before after → fault_of after ≡ None
        → Serves before old → Serves after new
    serving_line line same accepts keeps goes serving =
        serving_moved (moves_none taken faults before after old new result cores acts lanes same (ap (λ (log : SwitchLog). log.routed) accepts.log))
        none_of keeps acts.slots goes
        (λ serves tells. fits_as _ _ accepts.log accepts.state (fit_accepted (log_of before) (state_of before) (seen_line line) (serves.fit tells))) serving

    pub served_line : (line : Line) → GotNew ≡ GotOld → BeginsLine script before after line → Serves before old → Served after new
    served_line line same begins serving =
        served_moved (moves_none taken faults before after old new result cores acts lanes same begins.routed) none_of
        (in_line (log_of before) (state_of before) (seen_line line) serving.run begins) serving

-- ---- the ends as a call has them
module _ {D : Type 0} (old new : Objects D) (inboxes later : List (Both Event)) (outs then : List (Both Message))
    (were : inboxes ≡ old.inboxes.items) (are : new.inboxes.items ≡ later) (outs_were : outs ≡ old.outs.items) (outs_are : new.outs.items ≡ then) where
  pub acts_on : {W T : Type 0} (taken : W → Option (List ℕ)) (faults : W → ℕ) (before after : Switch W) (result : Result T SwitchFault)
      → Acts (λ (p : Both Event). sent_on p) (λ (p : Both Event). nowhere) (λ (p : Both Event). p.got) taken faults before after inboxes later result
      → ActsOn taken faults before after old new result
  acts_on taken faults before after result acts =
      subst (λ (xs : List (Both Event)). Acts (λ (p : Both Event). sent_on p) (λ (p : Both Event). nowhere) (λ (p : Both Event). p.got) taken faults before after xs new.inboxes.items result) were
      (subst (λ (ys : List (Both Event)). Acts (λ (p : Both Event). sent_on p) (λ (p : Both Event). nowhere) (λ (p : Both Event). p.got) taken faults before after inboxes ys result) (sym are) acts)

  pub outs_on : SameInlets (λ (p : Both Message). nowhere) (λ (p : Both Message). sent_on p) outs then → SameOuts old new
  outs_on lanes =
      subst (λ (xs : List (Both Message)). SameInlets (λ (p : Both Message). nowhere) (λ (p : Both Message). sent_on p) xs new.outs.items) outs_were
      (subst (λ (ys : List (Both Message)). SameInlets (λ (p : Both Message). nowhere) (λ (p : Both Message). sent_on p) outs ys) (sym outs_are) lanes)

  pub taken_on : (Does : ℕ × Message → Type 0) → IsTakenOf (λ (p : Both Message). p.got) outs then Does
      → IsTakenOf (λ (p : Both Message). p.got) old.outs.items new.outs.items Does
  taken_on Does one =
      subst (λ (xs : List (Both Message)). IsTakenOf (λ (p : Both Message). p.got) xs new.outs.items Does) outs_were
      (subst (λ (ys : List (Both Message)). IsTakenOf (λ (p : Both Message). p.got) outs ys Does) (sym outs_are) one)

  pub still_on : map (λ (p : Both Message). p.got) then ≡ map (λ (p : Both Message). p.got) outs
      → map (λ (p : Both Message). p.got) new.outs.items ≡ map (λ (p : Both Message). p.got) old.outs.items
  still_on same = ap (map (λ (p : Both Message). p.got)) outs_are ∙ same ∙ ap (map (λ (p : Both Message). p.got)) outs_were

-- ---- the objects have run
module _ {D W : Type 0} (moment_of : D → ℕ) (left_since : D → ℕ → List ℕ → Type 0) (told : D → Option (List ℕ)) (image : D → List ℕ → Type 0) (faults_of : D → ℕ)
    (limit : ℕ) (script : Script) (contents : ℕ → Option (List ℕ)) (named : Slots) (switch : Switch W) (old new : Objects D)
    (many : length new.cores.items ≡ length old.cores.items) where
  pub serving_ran : (ObjectsTell told new → ObjectsTell told old) → AreGoing moment_of left_since told image faults_of limit script contents named (log_of switch) new
      → IsServing moment_of left_since told image faults_of limit script contents named switch old → IsServing moment_of left_since told image faults_of limit script contents named switch new
  serving_ran tells slots serving = record {
    run = serving.run;
    slots = slots;
    there = subst (λ (n : ℕ). AreThere n (log_of switch)) (sym many) serving.there;
    many = serving.many ∙ sym many;
    all = serving.all ∙ sym many;
    goes = serving.goes;
    fit = λ told_now. serving.fit (tells told_now);
  }

  pub served_ran : AreSlots moment_of left_since told image faults_of limit script contents named (log_of switch) new
      → IsServing moment_of left_since told image faults_of limit script contents named switch old → HasServed moment_of left_since told image faults_of limit script contents named switch new
  served_ran slots serving = record {
    run = whole (state_of switch) serving.run;
    slots = slots;
    there = subst (λ (n : ℕ). AreThere n (log_of switch)) (sym serving.all) serving.there;
  }

-- The objects can run on, whichever the end.
pub can_after : {D W T : Type 0} (moment_of : D → ℕ) (left_since : D → ℕ → List ℕ → Type 0) (told : D → Option (List ℕ)) (image : D → List ℕ → Type 0) (faults_of : D → ℕ)
    (limit : ℕ) (script : Script) (contents : ℕ → Option (List ℕ)) (named : Slots) (switch : Switch W) (objects : Objects D) (result : Result T SwitchFault)
    → OnOk result (IsServing moment_of left_since told image faults_of limit script contents named switch objects)
    → OnErr result (HasServed moment_of left_since told image faults_of limit script contents named switch objects)
    → CanAllRun moment_of left_since told image faults_of script objects
can_after moment_of left_since told image faults_of limit script contents named switch objects (Ok x) serving served =
    going_can moment_of left_since told image faults_of limit script contents named (log_of switch) objects serving.slots
can_after moment_of left_since told image faults_of limit script contents named switch objects (Err e) serving served =
    standing_can moment_of left_since told image faults_of limit script contents named (log_of switch) objects served.slots

-- What an answer gives, by what it gives.
pub on_ok_then : {T E P Q : Type 0} (result : Result T E) → (P → Q) → OnOk result P → OnOk result Q
on_ok_then (Ok x) then holds = then holds
on_ok_then (Err e) then holds = tt

pub on_err_then : {T E P Q : Type 0} (result : Result T E) → (P → Q) → OnErr result P → OnErr result Q
on_err_then (Ok x) then holds = tt
on_err_then (Err e) then holds = then holds

pub of_ok : {T E : Type 0} (result : Result T E) (x : T) (P : Type 0) → result ≡ Ok x → OnOk result P → P
of_ok (Ok y) x P is p = p
of_ok (Err e) x P is p = cc
