-- What is taken of an incarnation that has ended at an append: of a reply a failure waits, and nothing else changes.
use Rattle.std.proofs.Common.{◌≡◌, ◌∙◌, ap, sym, refl, subst, ℕ, suc, ◌+◌, ◌≤◌, List, [], ◌∷◌, ◌++◌, append-nil, append_assoc, length, take, arith, Option, Some, None}
use Rattle.std.proofs.lemmas.List.{take-append-le}
use Rattle.std.proofs.lemmas.List.Elements.{All-nil, All-append, All-push}
use Rattle.std.proofs.lemmas.Bool.{ltb-false}
use Rattle.std.specs.Prelude.{Bool, true, false, nat_lt, is_some}
use Rattle.std.specs.List.{All}
use Rattle.storage_map.specs.Limits.{Object}
use Rattle.storage_map.specs.declared.op.Op.{Op}
use Rattle.timeline.specs.History.{Incarnation, History, batches_in, before_stop, durable, durable_by, kept_before, kept_by, line, own_batches, said_in}
use Rattle.timeline.specs.Logs.{Fronted}
use Rattle.timeline.specs.Passed.{Passed, held_in, reaches, passed, is_mend, durable_at, bound_by, bound_if, discards}
use Rattle.timeline.specs.Told.{said_by, batches_of}
use Rattle.timeline.specs.declared.back_log.Stop.{Stop}
use Rattle.timeline.specs.declared.caller.Cause.{Cause}
use Rattle.timeline.specs.declared.entry.Body.{Body}
use Rattle.timeline.specs.declared.entry.Body.TheVariants as body
use Rattle.timeline.specs.declared.entry.Entry.{Entry}
use Rattle.timeline.specs.declared.message.Message.{Message}
use Rattle.output_gate.specs.Down.{place_down, IsDown}
use Rattle.output_gate.specs.Ended.{HasEnded, Marks, late_if}
use Rattle.output_gate.specs.Gate.{Place, history_at, Lists, IsGate}
use Rattle.output_gate.specs.Passing.{late_leaving, IsSilent}
use Rattle.output_gate.specs.Standing.{going_on}
use Rattle.output_gate.proofs.Downs.{replaced_all}
use Rattle.output_gate.proofs.Gates.{batches_more, same_left}
use Rattle.output_gate.proofs.Helds.{true_false}
use Rattle.output_gate.proofs.Kept.{Grows, grows_same, grows_at}
use Rattle.output_gate.proofs.Passing.{holds_late, silent_late}

-- what leaves of such an entry
abbrev pub late_passed : Marks → (since : ℕ) → Cause → Body → List Passed
late_passed marks since c (body.Message sent) = late_leaving marks.late marks.settled since c sent
late_passed marks since c b = []

abbrev pub later : Incarnation → Entry → Incarnation
later i e = record i { taken = i.taken ++ e ∷ [] }

abbrev of_known : ℕ → Option ℕ → ℕ
of_known other None = other
of_known other (Some n) = n

-- what a late message needs that passes
late_known : (less : Bool) (all needs : ℕ) → late_if less all ≡ Some needs → (less ≡ false) × (all ≡ needs)
late_known true all needs is = absurd (true_false (sym (ap is_some is)))
late_known false all needs is = (refl, ap (λ (o : Option ℕ). of_known all o) is)

-- what leaves of it
leaving_all : (P : Passed → Type 0) (settled number : ℕ) (c : Cause) (sent : Message) → ((m : Message) (n : ℕ) → n ≤ settled → P (record { message = m; needs = n; since = number }))
    → (late : Option ℕ) → ((needs : ℕ) → late ≡ Some needs → needs ≤ settled) → All P (late_leaving late settled number c sent)
leaving_all P settled number c sent new None within = replaced_all P settled number c sent (λ m. new m settled (omega arith))
leaving_all P settled number c sent new (Some needs) within = All-push P [] _ (All-nil P) (new sent needs (within needs refl))

-- the first batches are the same where more stand behind them
kept_more : (o : Option ℕ) (batches more : List (List Op)) → ((k : ℕ) → o ≡ Some k → k ≤ length batches) → kept_by o (batches ++ more) ≡ kept_by o batches
kept_more None batches more within = refl
kept_more (Some k) batches more within = take-append-le k batches more (within k refl)

module _ (marks : Marks) (i : Incarnation) (older : History) (e : Entry) (h : HasEnded marks i older) where
  pub same_kept : kept_before (later i e ∷ older) ≡ kept_before (i ∷ older)
  same_kept = ap (λ bs. kept_before older ++ bs)
      (ap (kept_by i.kept) (batches_more i.taken e) ∙ kept_more i.kept (batches_in i.taken) (batches_of (said_by e.body)) h.kept)

  pub same_own : own_batches (later i e) ≡ own_batches i
  same_own =
      ap (λ bs. before_stop i.stop bs) (batches_more i.taken e)
      ∙ ap (λ (o : Option Stop). before_stop o (batches_in i.taken ++ batches_of (said_by e.body))) h.stopped
      ∙ take-append-le h.stop.batches (batches_in i.taken) (batches_of (said_by e.body)) h.within
      ∙ sym (ap (λ (o : Option Stop). before_stop o (batches_in i.taken)) h.stopped)

  pub same_line : line (later i e ∷ older) ≡ line (i ∷ older)
  same_line = ap (λ bs. kept_before older ++ bs) same_own

  pub same_first : (k : ℕ) → k ≤ length (batches_in i.taken) → take k (batches_in (i.taken ++ e ∷ [])) ≡ take k (batches_in i.taken)
  same_first k within = ap (take k) (batches_more i.taken e) ∙ take-append-le k (batches_in i.taken) (batches_of (said_by e.body)) within

  late_bound : discards h.stop.cause h.stop.read ≡ true → bound_by i.stop i.flights ≡ Some (h.stop.cause, durable i)
  late_bound drops =
      ap (λ (o : Option Stop). bound_by o i.flights) h.stopped
      ∙ ap (λ b. bound_if b h.stop.cause (durable_by (Some h.stop) i.flights)) drops
      ∙ ap (λ (o : Option Stop). Some (h.stop.cause, durable_by o i.flights)) (sym h.stopped)

  late_message : (front : Fronted) (ended : ℕ) (flights : List ℕ) (sent : Message) → e.body ≡ body.Message sent → discards h.stop.cause h.stop.read ≡ true
      → passed (going_on front ended [] flights ∷ later i e ∷ older) ≡ passed (going_on front ended [] flights ∷ i ∷ older) ++ late_passed marks i.number h.stop.cause (body.Message sent)
  late_message front ended flights sent is drops =
      let d = h.discarded drops in
      holds_late front i older ended flights e sent h.stop.cause marks.settled is h.mounted (late_bound drops) d.1
      ∙ ap (λ (o : Option ℕ). passed (going_on front ended [] flights ∷ i ∷ older) ++ late_leaving o marks.settled i.number h.stop.cause sent) (sym d.2)

  late_silent : (front : Fronted) (ended : ℕ) (flights : List ℕ) → is_mend e.body ≡ false → IsSilent e.body → late_passed marks i.number h.stop.cause e.body ≡ []
      → passed (going_on front ended [] flights ∷ later i e ∷ older) ≡ passed (going_on front ended [] flights ∷ i ∷ older) ++ late_passed marks i.number h.stop.cause e.body
  late_silent front ended flights other silent none =
      silent_late front i older ended flights e other silent ∙ sym (append-nil (passed (going_on front ended [] flights ∷ i ∷ older)))
      ∙ ap (λ more. passed (going_on front ended [] flights ∷ i ∷ older) ++ more) (sym none)

  abbrev Passes : Fronted → ℕ → List ℕ → Body → Type 0
  Passes front ended flights b =
      passed (going_on front ended [] flights ∷ later i e ∷ older) ≡ passed (going_on front ended [] flights ∷ i ∷ older) ++ late_passed marks i.number h.stop.cause b

  late_by_body : (front : Fronted) (ended : ℕ) (flights : List ℕ) (b : Body) → e.body ≡ b → is_mend b ≡ false → discards h.stop.cause h.stop.read ≡ true → Passes front ended flights b
  late_by_body front ended flights (body.Message sent) is other drops = late_message front ended flights sent is drops
  late_by_body front ended flights (body.Batch ops tail confirmed) is other drops = subst (Passes front ended flights) is
      (late_silent front ended flights (ap is_mend is) (λ n k. ap (λ (b : Body). held_in n k (b ∷ [])) is) (ap (late_passed marks i.number h.stop.cause) is))
  late_by_body front ended flights (body.Bind identity) is other drops = subst (Passes front ended flights) is
      (late_silent front ended flights (ap is_mend is) (λ n k. ap (λ (b : Body). held_in n k (b ∷ [])) is) (ap (late_passed marks i.number h.stop.cause) is))
  late_by_body front ended flights (body.Ask ask free) is other drops = subst (Passes front ended flights) is
      (late_silent front ended flights (ap is_mend is) (λ n k. ap (λ (b : Body). held_in n k (b ∷ [])) is) (ap (late_passed marks i.number h.stop.cause) is))
  late_by_body front ended flights body.Sync is other drops = subst (Passes front ended flights) is
      (late_silent front ended flights (ap is_mend is) (λ n k. ap (λ (b : Body). held_in n k (b ∷ [])) is) (ap (late_passed marks i.number h.stop.cause) is))
  late_by_body front ended flights (body.Halt cause) is other drops = subst (Passes front ended flights) is
      (late_silent front ended flights (ap is_mend is) (λ n k. ap (λ (b : Body). held_in n k (b ∷ [])) is) (ap (late_passed marks i.number h.stop.cause) is))
  late_by_body front ended flights body.Mend is other drops = absurd (true_false other)

  -- all that is late needs no more than was durable at the end
  late_within : discards h.stop.cause h.stop.read ≡ true → (needs : ℕ) → marks.late ≡ Some needs → needs ≤ marks.settled
  late_within drops needs is =
      let d = h.discarded drops in
      let q = reaches 0 0 (said_in i.taken) in
      let known = late_known (nat_lt (durable i) q) (length (kept_before older) + q) needs (sym d.2 ∙ is) in
      omega (arith, d.1, known.1, ltb-false (durable i) q known.0)

  late_all : (P : Passed → Type 0) → ((sent : Message) (n : ℕ) → n ≤ marks.settled → P (record { message = sent; needs = n; since = i.number })) → discards h.stop.cause h.stop.read ≡ true
      → (b : Body) → All P (late_passed marks i.number h.stop.cause b)
  late_all P new drops (body.Message sent) = leaving_all P marks.settled i.number h.stop.cause sent new marks.late (late_within drops)
  late_all P new drops (body.Batch ops tail confirmed) = All-nil P
  late_all P new drops (body.Bind identity) = All-nil P
  late_all P new drops (body.Ask ask free) = All-nil P
  late_all P new drops body.Sync = All-nil P
  late_all P new drops (body.Halt cause) = All-nil P
  late_all P new drops body.Mend = All-nil P

module _ {D : Type 0} (moment_of : D → ℕ) (left_since : D → ℕ → List ℕ → Type 0) (object : Option Object) (start : List (List Op)) (opening : ℕ) (front : Fronted)
    (marks : Marks) (i : Incarnation) (older : History) (e : Entry) (h : HasEnded marks i older) (other : is_mend e.body ≡ false) (drops : discards h.stop.cause h.stop.read ≡ true) where
  grows_late : (head : Incarnation) → batches_in head.taken ≡ [] → head.stop ≡ None → Grows object start (head ∷ i ∷ older) (head ∷ later i e ∷ older)
  grows_late head none goes =
      grows_at object start head head (i ∷ older) (later i e ∷ older) [] refl
      (ap (λ bs. bs ++ own_batches head) (same_kept marks i older e h) ∙ sym (append-nil (line (head ∷ i ∷ older))))
      (grows_at object start i (later i e) older older [] refl (same_line marks i older e h ∙ sym (append-nil (line (i ∷ older)))) (grows_same object start older))

  -- while the next incarnation is mounted
  pub gate_late : (ended : ℕ) (flights : List ℕ) (disk : D) (l : Lists) (before now : ℕ)
      → IsGate moment_of left_since object start opening front (record { ended = ended; taken = []; flights = flights; older = i ∷ older }) disk l before now
      → IsGate moment_of left_since object start opening front (record { ended = ended; taken = []; flights = flights; older = later i e ∷ older }) disk
      (record l { waiting = l.waiting ++ late_passed marks i.number h.stop.cause e.body }) before now
  gate_late ended flights disk l before now g =
      let more : List Passed = late_passed marks i.number h.stop.cause e.body in
      let p : Place = record { ended = ended; taken = []; flights = flights; older = i ∷ older } in
      let q : Place = record { ended = ended; taken = []; flights = flights; older = later i e ∷ older } in
      let passes : passed (history_at front q) ≡ passed (history_at front p) ++ more = late_by_body marks i older e h front ended flights e.body refl other drops in
      let kept = same_kept marks i older e h in
      let grows : Grows object start (history_at front p) (history_at front q) = grows_late (going_on front ended [] flights) refl refl in
      let d = h.discarded drops in
      record {
        mounted = g.mounted;
        deep = g.deep;
        passes = passes ∙ ap (λ ps. ps ++ more) g.passes ∙ append_assoc l.left l.waiting more;
        since_left = g.since_left;
        since_waiting = All-append (λ (x : Passed). x.since ≤ suc ended) l.waiting more g.since_waiting
            (late_all marks i older e h (λ (x : Passed). x.since ≤ suc ended) (λ sent n le. omega (arith, h.number, g.deep)) drops e.body);
        needs_left = g.needs_left;
        settled = subst (All (λ (x : Passed). x.needs ≤ durable_at (i ∷ older)))
            (ap (λ ps. ps ++ more) (sym (append-nil (passed (i ∷ older)))) ∙ sym passes ∙ append-nil (passed (later i e ∷ older)))
            (All-append (λ (x : Passed). x.needs ≤ durable_at (i ∷ older)) (passed (i ∷ older)) more g.settled
            (late_all marks i older e h (λ (x : Passed). x.needs ≤ durable_at (i ∷ older)) (λ sent n le. omega (arith, le, d.1)) drops e.body));
        known = omega (arith, g.known, ap length kept);
        counted = omega (arith, g.counted, ap length kept);
        flown = omega (arith, g.flown, ap length kept);
        line = ap (λ bs. bs ++ []) kept ∙ g.line;
        long = g.long;
        opened = g.opened;
        images = λ c now. grows 0 0 c (g.images c now);
        released = same_left moment_of left_since object start opening front p l before now disk (history_at front p) (history_at front q) l.released l.left grows g.released;
      }

  -- and while it isn't
  pub down_late : (ended : ℕ) (disk : D) (l : Lists) (now : ℕ) → durable i + length l.staged ≤ length (batches_in i.taken)
      → IsDown moment_of left_since object start opening front ended [] i older disk l now
      → IsDown moment_of left_since object start opening front ended [] (later i e) older disk (record l { waiting = l.waiting ++ late_passed marks i.number h.stop.cause e.body }) now
  down_late ended disk l now whole g =
      let more : List Passed = late_passed marks i.number h.stop.cause e.body in
      let old : History = history_at front (place_down ended [] i older) in
      let new : History = history_at front (place_down ended [] (later i e) older) in
      let passes : passed new ≡ passed old ++ more = late_by_body marks i older e h front ended [] e.body refl other drops in
      let grows : Grows object start old new = grows_late (going_on front ended [] []) refl refl in
      let d = h.discarded drops in
      record {
        number = g.number;
        unfollowed = g.unfollowed;
        deep = g.deep;
        passes = passes ∙ ap (λ ps. ps ++ more) g.passes ∙ append_assoc l.left l.waiting more;
        since_left = g.since_left;
        since_waiting = All-append (λ (x : Passed). x.since ≤ ended) l.waiting more g.since_waiting
            (late_all marks i older e h (λ (x : Passed). x.since ≤ ended) (λ sent n le. omega (arith, g.number)) drops e.body);
        needs_left = g.needs_left;
        settled = subst (All (λ (x : Passed). x.needs ≤ now))
            (ap (λ ps. ps ++ more) (sym (append-nil (passed (i ∷ older)))) ∙ sym passes ∙ append-nil (passed (later i e ∷ older)))
            (All-append (λ (x : Passed). x.needs ≤ now) (passed (i ∷ older)) more g.settled
            (late_all marks i older e h (λ (x : Passed). x.needs ≤ now) (λ sent n le. omega (arith, le, d.1, g.at_end)) drops e.body));
        at_end = g.at_end;
        silent = refl;
        fails = ap (λ bs. kept_before older ++ bs) (same_first marks i older e h (durable i) (omega (arith, d.0))) ∙ g.fails;
        lands = (g.lands.0, g.lands.1, ap (λ bs. kept_before older ++ bs) (same_first marks i older e h g.lands.0 (omega (arith, g.lands.1, whole))) ∙ g.lands.2);
        line = same_line marks i older e h ∙ g.line;
        long = g.long;
        opened = g.opened;
        images = λ c left. grows 0 0 c (g.images c left);
        released = same_left moment_of left_since object start opening front (place_down ended [] i older) l now now disk old new l.released l.left grows g.released;
      }
