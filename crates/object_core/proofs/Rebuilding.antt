-- What a step of the back leaves of an object.
use Rattle.std.proofs.Common.{◌≡◌, ◌∙◌, ap, sym, refl, subst, inl, inr, true≢false, ℕ, List, [], ◌++◌, Option}
use Rattle.std.specs.Prelude.{Bool, true, false, is_some}
use Rattle.std.specs.List.{flat_map}
use Rattle.batch_journal.specs.Rest.{disk_in}
use Rattle.do_tree.specs.Tree.{Script}
use Rattle.lane.specs.Lanes.{Both, sent_on}
use Rattle.storage_map.specs.Contents.{Contents}
use Rattle.timeline.specs.Intake.{Kind}
use Rattle.timeline.specs.Logs.{Backed, backed, fronted}
use Rattle.timeline.specs.declared.entry.Entry.{Entry}
use Rattle.timeline.specs.declared.event.Event.{Event}
use Rattle.timeline.specs.declared.message.Message.{Message as Sent}
use Rattle.timeline.specs.declared.notice.Notice.{Notice}
use Rattle.front_half.specs.Standing.{kind_in}
use Rattle.object_front.specs.declared.evaluated.Evaluated.{Evaluated}
use Rattle.front_half.specs.declared.half.Half.{Half}
use Rattle.output_gate.proofs.Steps.{told_before}
use Rattle.output_gate.specs.Serving.{alarm_of, IsBack, IsBackAs, is_stopped}
use Rattle.output_gate.specs.Storing.{IsDiskOf, KeepsTelling}
use Rattle.output_gate.specs.Telling.{opened_map}
use Rattle.output_gate.specs.declared.back.Back.{Back}
use Rattle.output_gate.specs.declared.back.Mode.{Mode}
use Rattle.output_gate.specs.declared.back.Mode.TheVariants.{Mounted}
use Rattle.output_gate.specs.declared.held.Held.{Held as BackHeld}
use Rattle.output_gate.specs.declared.store.Store.{Store}
use Rattle.object_history.specs.Pair.{Held, Stand, Rear, IsPair}
use Rattle.object_history.proofs.WellSaid.{delivers_well, answers_well}
use Rattle.object_history.specs.Seen.{held_of, stand_of}
use Rattle.object_history.specs.Stepping.{BackSteps}
use Rattle.front_history.specs.Paired.{ArePaired}
use Rattle.front_history.specs.Turns.{BackStepsKeep}
use Rattle.object_core.proofs.Alike.{class_for}
use Rattle.object_core.proofs.Dropping.{KeepsDowns, downs_drops, steps_downs}
use Rattle.object_core.proofs.Due.{alarm_due, seen_is_rear}
use Rattle.object_core.proofs.Hearing.{back_heard}
use Rattle.object_core.proofs.Lanes.{took_none}
use Rattle.object_core.proofs.Naming.{named_still}
use Rattle.object_core.proofs.Pairing.{Hears, paired_on, paired_as, pair_now}
use Rattle.object_core.specs.Heard.{IsHeard}
use Rattle.object_core.specs.Fitting.{known_over}
use Rattle.object_core.specs.Limited.{IsLimitedBy}
use Rattle.object_core.specs.One.{FitsItsBack, HearsOfBack, IsNamed, IsOneOf, Origin, TellsNow, class_in, messages}
use Rattle.object_core.specs.Seen.{due_map, seen_of}

abbrev looks : Contents → Backed → Stand → List Held → ℕ → ℕ → Rear
looks opened log stand held before durable = record { log = log; stand = stand; held = held; before = before; durable = durable; map = due_map opened log }

-- backs that look alike
pub seen_same : {D : Type 0} (opened : Contents) (old new : Back D) → backed new.log ≡ backed old.log → new.held.items ≡ old.held.items → new.mode ≡ old.mode
    → new.before ≡ old.before → new.durable ≡ old.durable → seen_of opened new ≡ seen_of opened old
seen_same opened old new log held mode before durable =
    ap (λ (x : Backed). looks opened x (stand_of new.mode) (flat_map held_of new.held.items) new.before new.durable) log
    ∙ ap (λ (x : Mode). looks opened (backed old.log) (stand_of x) (flat_map held_of new.held.items) new.before new.durable) mode
    ∙ ap (λ (x : List BackHeld). looks opened (backed old.log) (stand_of old.mode) (flat_map held_of x) new.before new.durable) held
    ∙ ap (λ (x : ℕ). looks opened (backed old.log) (stand_of old.mode) (flat_map held_of old.held.items) x new.durable) before
    ∙ ap (λ (x : ℕ). looks opened (backed old.log) (stand_of old.mode) (flat_map held_of old.held.items) old.before x) durable

pub same_queue : {X : Type 0} (old new : Both X) → new.got ≡ old.got → new.waiting ≡ old.waiting → new ≡ old
same_queue {X} old new got waiting =
    ap (λ (xs : List X). record { got = xs; waiting = new.waiting }) got ∙ ap (λ (xs : List X). record { got = old.got; waiting = xs }) waiting

module _ {D : Type 0} (moment_of : D → ℕ) (left_since : D → ℕ → List ℕ → Type 0) (told : D → Option (List ℕ)) (image : D → List ℕ → Type 0) (faults_of : D → ℕ)
    (script : Script) (origin : Origin) (front : Half Evaluated) (inbox : Both Event) where
  -- a back has a disk
  pub disk_of : (sound : Bool) (back : Back D) → IsBackAs moment_of left_since told image faults_of origin.start origin.opening sound back → (disk : D) × IsDiskOf back.store disk
  disk_of sound back (inl m) = (disk_in m.journal, subst (λ (s : Store D). IsDiskOf s (disk_in m.journal)) (sym m.safe.store) refl)
  disk_of sound back (inr u) = (u.disk, u.safe.store)

  -- A mounted back whose disk tells its content has the alarm that is due.
  pub alarm_now : (back : Back D) → TellsNow told back → IsBack moment_of left_since told image faults_of origin.start origin.opening back → is_stopped back ≡ false
      → back.mode ≡ Mounted → (due_map (opened_map origin.start) (backed back.log)).alarm ≡ alarm_of back
  alarm_now back tells known on mounted =
      alarm_due moment_of left_since told image faults_of origin.start origin.opening back tells.0 tells.1 tells.2 known on mounted

  -- The disk told its content before a step behind which it does.
  pub told_earlier : (old new : Back D) → KeepsTelling told old.store new.store → IsBack moment_of left_since told image faults_of origin.start origin.opening old
      → TellsNow told new → TellsNow told old
  told_earlier old new keeps known tells =
      let at = disk_of _ old known in
      (at.0, at.1, told_before (told at.0) (told tells.0) (keeps at.0 tells.0 at.1 tells.1) tells.2)

  abbrev pub One : Back D → Both Entry → Both Notice → Both Sent → Type 0
  One back line notices out = IsOneOf moment_of left_since told image faults_of script origin front inbox back line notices out

  -- What is left to show of a step of the back: that the halves stay a pair.
  abbrev pub StaysPair : (old new : Back D) (line later_line : Both Entry) (notices later : Both Notice) (out : Both Sent) → One old line notices out → (lost : List Entry) → Type 0
  StaysPair old new line later_line notices later out one lost = TellsNow told new → (k : Kind) → ArePaired k (opened_map origin.start) one.st front (seen_of (opened_map origin.start) old) (one.lost ++ line.waiting) notices.waiting
      → ArePaired k (opened_map origin.start) one.st front (seen_of (opened_map origin.start) new) (lost ++ later_line.waiting) later.waiting

  -- What is left to show besides: that the front hears of its back.
  abbrev pub StillHears : (old new : Back D) (line : Both Entry) (notices : Both Notice) (out : Both Sent) → One old line notices out → List Entry → List Notice → Type 0
  StillHears old new line notices out one under_way later = HearsOfBack told origin.start one.st front new under_way later

  module _ (old new : Back D) (line : Both Entry) (notices : Both Notice) (out : Both Sent) (one : One old line notices out)
      (telling : KeepsTelling told old.store new.store) (was_on : is_stopped new ≡ false → is_stopped old ≡ false) where
    -- A step of the back, of which the front is told.
    pub record ToldSo (got : List Entry) (tell later : List Notice) : Type 0 where
      pub steps : BackSteps (seen_of (opened_map origin.start) old) (seen_of (opened_map origin.start) new) got tell
      pub come : later ≡ notices.waiting ++ tell

    -- It hears where it is told what the step tells.
    pub hears_on : (got rest : List Entry) (tell later : List Notice) → (TellsNow told new → is_stopped new ≡ false → ToldSo got tell later)
        → one.lost ++ line.waiting ≡ got ++ rest → StillHears old new line notices out one rest later
    hears_on got rest tell later told_so is_line tells on goes =
        let is = told_so tells goes in
        let before : TellsNow told old = told_earlier old new telling one.back_stands tells in
        let c = class_for one.st.class in
        let k : Kind = kind_in script c.0 in
        let opened : Contents = opened_map origin.start in
        let pair = subst (λ (l : List Entry). IsPair k opened one.st.front (fronted front.log) (seen_of opened old) l notices.waiting) is_line
        (pair_now k opened one.st front (seen_of opened old) (one.lost ++ line.waiting) notices.waiting on (one.pair before c.0 c.1)) in
        subst (λ (n : List Notice). IsHeard one.st.front (seen_of opened new) rest n) (sym is.come)
        (back_heard (record { on_event = delivers_well; on_answer = answers_well }) k opened one.st.front (fronted front.log) (seen_of opened old) (seen_of opened new)
        got rest tell notices.waiting is.steps pair
        (subst (λ (l : List Entry). IsHeard one.st.front (seen_of opened old) l notices.waiting) is_line (one.heard before on (was_on goes))))

    -- So it does where nothing that is seen has changed.
    pub hears_as : (rest : List Entry) (later : List Notice) → seen_of (opened_map origin.start) new ≡ seen_of (opened_map origin.start) old
        → rest ≡ one.lost ++ line.waiting → later ≡ notices.waiting → StillHears old new line notices out one rest later
    hears_as rest later same is_line is_notices tells on goes =
        subst (λ (n : List Notice). IsHeard one.st.front (seen_of (opened_map origin.start) new) rest n) (sym is_notices)
        (subst (λ (l : List Entry). IsHeard one.st.front (seen_of (opened_map origin.start) new) l notices.waiting) (sym is_line)
        (subst (λ (r : Rear). IsHeard one.st.front r (one.lost ++ line.waiting) notices.waiting) (sym same)
        (one.heard (told_earlier old new telling one.back_stands tells) on (was_on goes))))

  pub rebuilt : (old new : Back D) (line later_line : Both Entry) (notices later : Both Notice) (out later_out : Both Sent) (one : One old line notices out)
      → IsBack moment_of left_since told image faults_of origin.start origin.opening new → KeepsTelling told old.store new.store → IsNamed origin.object new
      → (lost : List Entry) → (new.stuck ≡ false → is_stopped new ≡ false → lost ≡ [])
      → front.log.sent.items ≡ new.log.taken.items ++ lost ++ later_line.waiting → messages new.log.released.items ≡ origin.left ++ sent_on later_out
      → StaysPair old new line later_line notices later out one lost → StillHears old new line notices out one (lost ++ later_line.waiting) later.waiting
      → FitsItsBack told script origin.object front new → IsLimitedBy told origin.extent new
      → (TellsNow told new → KeepsDowns old.log.downs.items new.log.downs.items) → One new later_line later later_out
  rebuilt old new line later_line notices later out later_out one stands telling named lost none is_line left pair heard fits limited downs = record {
    back_stands = stands;
    alarm = one.alarm;
    st = one.st;
    front_stands = one.front_stands;
    has_taken = one.has_taken;
    classed = one.classed;
    named = named;
    has_got = one.has_got;
    lost = lost;
    none_lost = none;
    is_line = is_line;
    left = left;
    pair = λ tells class is. pair tells (kind_in script class) (one.pair (told_earlier old new telling one.back_stands tells) class is);
    fits = fits;
    heard = heard;
    sticks = λ tells on stuck. one.sticks (told_earlier old new telling one.back_stands tells) on stuck;
    limited = limited;
    drops = λ tells. downs_drops script (class_in script origin.object) one.alarm front one.st old.log.downs.items new.log.downs.items inbox.got (downs tells)
        (one.drops (told_earlier old new telling one.back_stands tells));
  }

  -- It fits still where nothing is taken.
  pub fits_still : (old new : Back D) (line : Both Entry) (notices : Both Notice) (out : Both Sent) → One old line notices out → KeepsTelling told old.store new.store
      → (is_stopped new ≡ false → (is_stopped old ≡ false) × (new.stuck ≡ old.stuck)) → new.identity ≡ old.identity → new.log.taken.items ≡ old.log.taken.items
      → FitsItsBack told script origin.object front new
  fits_still old new line notices out one telling was same taken has tells on goes =
      let w = was goes in
      let before = one.fits has (told_earlier old new telling one.back_stands tells) on w.0 in (
        w.1 ∙ before.0,
        ap is_some same ∙ before.1 ∙ ap (λ (entries : List Entry). known_over (is_some origin.object) entries) (sym taken),
      )

  module _ (keeps : BackStepsKeep) (old new : Back D) (line : Both Entry) (notices later : Both Notice) (out later_out : Both Sent) (one : One old line notices out)
      (known : IsBack moment_of left_since told image faults_of origin.start origin.opening new) (telling : KeepsTelling told old.store new.store)
      (same : new.identity ≡ old.identity)
      (none : new.stuck ≡ false → is_stopped new ≡ false → one.lost ≡ []) (was : is_stopped new ≡ false → (is_stopped old ≡ false) × (new.stuck ≡ old.stuck)) where
    -- What was sent is taken as it was.
    still_line : new.log.taken.items ≡ old.log.taken.items → front.log.sent.items ≡ new.log.taken.items ++ one.lost ++ line.waiting
    still_line taken = one.is_line ∙ ap (λ (x : List Entry). x ++ one.lost ++ line.waiting) (sym taken)

    -- A step that takes nothing of the line.
    pub stepped : new.log.taken.items ≡ old.log.taken.items → messages new.log.released.items ≡ origin.left ++ sent_on later_out
        → (TellsNow told new → Hears (seen_of (opened_map origin.start) old) (seen_of (opened_map origin.start) new) [] notices.waiting later.waiting)
        → StillHears old new line notices out one (one.lost ++ line.waiting) later.waiting → IsLimitedBy told origin.extent new → One new line later later_out
    stepped taken left steps heard limited =
        rebuilt old new line line notices later out later_out one known telling (named_still origin.object old new same taken one.named) one.lost none (still_line taken) left
        (λ tells k paired.
        paired_on keeps k (opened_map origin.start) one.st front (seen_of (opened_map origin.start) old) (seen_of (opened_map origin.start) new)
        (one.lost ++ line.waiting) (one.lost ++ line.waiting) [] notices.waiting later.waiting (steps tells)
        (seen_is_rear moment_of left_since told image faults_of origin.start origin.opening old one.back_stands)
        (seen_is_rear moment_of left_since told image faults_of origin.start origin.opening new known) refl paired) heard
        (fits_still old new line notices out one telling was same taken) limited
        (λ tells. steps_downs (seen_of (opened_map origin.start) old) (seen_of (opened_map origin.start) new) [] (steps tells).heard (steps tells).steps)

    -- Nothing that is seen has changed where memory was wanting.
    pub unseen : backed new.log ≡ backed old.log → new.held.items ≡ old.held.items → new.mode ≡ old.mode → new.before ≡ old.before → new.durable ≡ old.durable
        → later.got ≡ notices.got → sent_on later ≡ sent_on notices → later_out ≡ out → is_stopped new ≡ true → IsLimitedBy told origin.extent new
        → One new line later later_out
    unseen log held mode before durable got said left off limited =
        rebuilt old new line line notices later out later_out one known telling
        (named_still origin.object old new same (ap (λ (x : Backed). x.taken) log) one.named) one.lost none (still_line (ap (λ (x : Backed). x.taken) log))
        (ap (λ (x : Backed). messages x.released) log ∙ one.left ∙ ap (λ (x : Both Sent). origin.left ++ sent_on x) (sym left))
        (λ tells k paired.
        paired_as k (opened_map origin.start) one.st front (seen_of (opened_map origin.start) old) (seen_of (opened_map origin.start) new)
        (one.lost ++ line.waiting) (one.lost ++ line.waiting) notices.waiting later.waiting
        (seen_same (opened_map origin.start) old new log held mode before durable) refl (sym (took_none notices later got said)) paired)
        (λ tells on goes. absurd (true≢false (sym off ∙ goes)))
        (fits_still old new line notices out one telling was same (ap (λ (x : Backed). x.taken) log)) limited
        (λ tells some none. some (ap (λ (x : Backed). x.downs) (sym log) ∙ none))
