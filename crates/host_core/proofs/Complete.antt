-- A line that tells of an end is that of a message which left a slot, in which an incarnation has stopped for a cause.
use Rattle.std.proofs.Common.{◌≡◌, ◌∙◌, sym, refl, subst, ⊎_elim, true≢false, ℕ, ℤ, ◌<◌, ◌≤◌, ◌^◌, ◌-◌, List, [], ◌∷◌, ◌++◌, map, length, arith, Option, Some, true, false}
use Rattle.std.proofs.lemmas.Bool.Decides.{nat_tests}
use Rattle.std.proofs.lemmas.List.Elements.{All-nil, All-cons, All-head, All-tail, All-append, All-contains, All-map, All-weaker, Contains-append_left, Contains-append_right, Contains-push}
use Rattle.std.specs.List.{All, Contains, flat_map}
use Rattle.std.specs.Prelude.{Bool, ◌==◌, if◌then◌else◌, nat_le, slice_get}
use Rattle.do_tree.specs.Tree.{Script}
use Rattle.mailbox.specs.Posting.{GoesOn, of_slot}
use Rattle.object_core.specs.One.{messages}
use Rattle.object_messages.specs.Ends.{TellNoEnd, is_of_end, tells_end}
use Rattle.output_gate.specs.Counted.{AreRising, HasRisenIn, counts_from, counts_in, missed_counts, stop_counts}
use Rattle.placement.specs.Slots.{Slots}
use Rattle.switch_history.proofs.Ending.{still_routed}
use Rattle.switch_history.specs.Ends.{EndsAreRouted, IsRoutedEnd, IsToldBy}
use Rattle.timeline.specs.Headline.{missed_of}
use Rattle.timeline.specs.Finish.{finishes, in_order, left_line, ordered, wait_line}
use Rattle.timeline.specs.Lines.{OutLine, WaitLine}
use Rattle.timeline.specs.Lines as line
use Rattle.timeline.specs.Logs.{backed}
use Rattle.timeline.specs.Switch as timeline
use Rattle.timeline.specs.Switch.{SwitchLog, accepts, opened, routes}
use Rattle.timeline.specs.declared.back_log.Missed.{Missed}
use Rattle.timeline.specs.declared.back_log.Stop.{Stop}
use Rattle.timeline.specs.declared.caller.Caller.{Caller}
use Rattle.timeline.specs.declared.caller.Caller.TheVariants as from
use Rattle.timeline.specs.declared.caller.Cause.{Cause}
use Rattle.timeline.specs.declared.caller.Cause.TheVariants as cause
use Rattle.timeline.specs.declared.caller.Failure.{Failure}
use Rattle.timeline.specs.declared.message.Message.{Message}
use Rattle.timeline.specs.declared.notice.Waits.{Waits}
use Rattle.host_core.proofs.Rows.{item_at}
use Rattle.host_core.specs.Complete.{AreUnended, IsUnharmed, is_by_disk}
use Rattle.host_core.specs.Objects.{AreThere}
use Rattle.host_core.specs.Rows.{AreRows}
use Rattle.mailbox.specs.SoFar.{IsRunSoFar, whole, in_line, in_message, at_end}
use Rattle.host_core.specs.declared.report.SlotReport.{SlotReport}

-- ---- a disk of which no call failed has ended nothing

-- The counts behind others are no smaller.
rises_to : (first : ℕ) (counts : List (ℕ × ℕ)) (now : ℕ) → AreRising first counts now → All HasRisenIn counts → first ≤ now
rises_to first [] now rising rose = rising
rises_to first (c ∷ counts) now rising rose =
    let risen = All-head HasRisenIn c counts rose in
    omega (arith, rising.0, risen.later, rises_to c.1 counts now rising.1 (All-tail HasRisenIn c counts rose))

-- A count that rose isn't 0.
none_rose : (before after : ℕ) → HasRisenIn (before, after) → after ≤ 0 → ⊥
none_rose before after risen small =
    ⊎_elim (λ (rose : before < after). let no : ⊥ = omega (arith, rose, small) in no)
    (λ (most : 2 ^ 64 - 1 ≤ after). let no : ⊥ = omega (arith, most, small) in no) risen.rose

ends_none : (c : Cause) (missed rest : List (ℕ × ℕ)) → is_by_disk c ≡ true → AreRising 0 (stop_counts c ++ missed ++ rest) 0
    → All HasRisenIn (stop_counts c ++ missed ++ rest) → ⊥
ends_none (cause.Disk before after) missed rest is rising rose =
    none_rose before after (All-head HasRisenIn (before, after) (missed ++ rest) rose)
    (rises_to after (missed ++ rest) 0 rising.1 (All-tail HasRisenIn (before, after) (missed ++ rest) rose))
ends_none (cause.Full needed limit) missed rest is rising rose = cc
ends_none cause.Exceeded missed rest is rising rose = cc
ends_none cause.StartThrew missed rest is rising rose = cc
ends_none cause.BlockThrew missed rest is rising rose = cc

no_stops : (stops : List Stop) (downs : List Missed) → All (λ (stop : Stop). is_by_disk stop.cause ≡ true) stops
    → AreRising 0 (counts_from 1 stops downs) 0 → All HasRisenIn (counts_from 1 stops downs) → stops ≡ []
no_stops [] downs all rising rose = refl
no_stops (stop ∷ stops) downs all rising rose =
    absurd (ends_none stop.cause (map missed_counts (missed_of 2 downs)) (counts_from 2 stops downs)
    (All-head (λ (s : Stop). is_by_disk s.cause ≡ true) stop stops all) rising rose)

-- ---- what lines are those of messages

-- A wait tells of no end.
waits_routed : (routed : List (ℕ × Message)) (at : ℕ) (number : ℤ) (waits : List WaitLine)
    → All (λ (l : ℕ × OutLine). IsRoutedEnd routed l.1) (map (λ (on : WaitLine). (at, line.waiting number on)) waits)
waits_routed routed at number [] = All-nil (λ (l : ℕ × OutLine). IsRoutedEnd routed l.1)
waits_routed routed at number (on ∷ waits) =
    All-cons (λ (l : ℕ × OutLine). IsRoutedEnd routed l.1) (at, line.waiting number on) _ tt (waits_routed routed at number waits)

left_routed : (routed : List (ℕ × Message)) (s : timeline.Switch) (left : List (ℕ × Caller × Waits))
    → All (λ (l : ℕ × OutLine). IsRoutedEnd routed l.1) (flat_map (left_line s) left)
left_routed routed s [] = All-nil (λ (l : ℕ × OutLine). IsRoutedEnd routed l.1)
left_routed routed s ((slot, from.Request at number, wait) ∷ left) =
    All-append (λ (l : ℕ × OutLine). IsRoutedEnd routed l.1) (left_line s (slot, from.Request at number, wait)) (flat_map (left_line s) left)
    (waits_routed routed at number (wait_line s slot wait)) (left_routed routed s left)
left_routed routed s ((slot, from.Object other incarnation number, wait) ∷ left) = left_routed routed s left

placed_routed : (routed : List (ℕ × Message)) (b : Bool) (l other : ℕ × OutLine) (lines later : List (ℕ × OutLine)) → IsRoutedEnd routed l.1
    → All (λ (k : ℕ × OutLine). IsRoutedEnd routed k.1) (other ∷ lines) → All (λ (k : ℕ × OutLine). IsRoutedEnd routed k.1) later
    → All (λ (k : ℕ × OutLine). IsRoutedEnd routed k.1) (if b then l ∷ other ∷ lines else other ∷ later)
placed_routed routed true l other lines later is all behind = All-cons (λ (k : ℕ × OutLine). IsRoutedEnd routed k.1) l (other ∷ lines) is all
placed_routed routed false l other lines later is all behind =
    All-cons (λ (k : ℕ × OutLine). IsRoutedEnd routed k.1) other later (All-head (λ (k : ℕ × OutLine). IsRoutedEnd routed k.1) other lines all) behind

in_order_routed : (routed : List (ℕ × Message)) (l : ℕ × OutLine) (lines : List (ℕ × OutLine)) → IsRoutedEnd routed l.1
    → All (λ (k : ℕ × OutLine). IsRoutedEnd routed k.1) lines → All (λ (k : ℕ × OutLine). IsRoutedEnd routed k.1) (in_order l lines)
in_order_routed routed l [] is all = All-cons (λ (k : ℕ × OutLine). IsRoutedEnd routed k.1) l [] is all
in_order_routed routed l (other ∷ lines) is all =
    placed_routed routed (nat_le l.0 other.0) l other lines (in_order l lines) is all
    (in_order_routed routed l lines is (All-tail (λ (k : ℕ × OutLine). IsRoutedEnd routed k.1) other lines all))

ordered_routed : (routed : List (ℕ × Message)) (lines : List (ℕ × OutLine)) → All (λ (l : ℕ × OutLine). IsRoutedEnd routed l.1) lines
    → All (λ (l : ℕ × OutLine). IsRoutedEnd routed l.1) (ordered lines)
ordered_routed routed [] all = all
ordered_routed routed (l ∷ lines) all =
    in_order_routed routed l (ordered lines) (All-head (λ (k : ℕ × OutLine). IsRoutedEnd routed k.1) l lines all)
    (ordered_routed routed lines (All-tail (λ (k : ℕ × OutLine). IsRoutedEnd routed k.1) l lines all))

finishes_routed : (routed : List (ℕ × Message)) (s : timeline.Switch) (left : List (ℕ × Caller × Waits)) → All (IsRoutedEnd routed) (finishes s left)
finishes_routed routed s left =
    All-map (IsRoutedEnd routed) (λ (l : ℕ × OutLine). l.1) (ordered (flat_map (left_line s) left))
    (ordered_routed routed (flat_map (left_line s) left) (left_routed routed s left))

-- What goes on with the first of some lines.
goes_routed : (routed : List (ℕ × Message)) (before after given : List OutLine) → GoesOn before after given → All (IsRoutedEnd routed) before
    → All (IsRoutedEnd routed) given → All (IsRoutedEnd routed) after
goes_routed routed before after given goes first more =
    subst (All (IsRoutedEnd routed)) (sym goes.more)
    (All-append (IsRoutedEnd routed) before goes.since first
    (front_routed goes.since goes.first.0 (subst (All (IsRoutedEnd routed)) (sym goes.first.1) more)))
  where
    front_routed : (some rest : List OutLine) → All (IsRoutedEnd routed) (some ++ rest) → All (IsRoutedEnd routed) some
    front_routed [] rest all = All-nil (IsRoutedEnd routed)
    front_routed (out ∷ some) rest all =
        All-cons (IsRoutedEnd routed) out some (All-head (IsRoutedEnd routed) out (some ++ rest) all)
        (front_routed some rest (All-tail (IsRoutedEnd routed) out (some ++ rest) all))

-- So over a run, also one that was cut short.
pub so_far_routed : (law : EndsAreRouted) (script : Script) (named : Slots) (log : SwitchLog) → IsRunSoFar script (opened named) log
    → All (IsRoutedEnd log.routed) log.lines
so_far_routed law script named log (whole s run) = law.run script named log s run
so_far_routed law script named log (in_line before s l run cut) =
    subst (λ (routed : List (ℕ × Message)). All (IsRoutedEnd routed) log.lines) (sym cut.routed)
    (goes_routed before.routed before.lines log.lines (accepts script s l).lines cut.lines (law.run script named before s run) (law.line script s l before.routed))
so_far_routed law script named log (in_message before s sent run cut) =
    let routed : List (ℕ × Message) = before.routed ++ sent ∷ [] in
    subst (λ (all : List (ℕ × Message)). All (IsRoutedEnd all) log.lines) (sym cut.routed)
    (goes_routed routed before.lines log.lines (routes script s sent).lines cut.lines
    (All-weaker (IsRoutedEnd before.routed) (IsRoutedEnd routed) (λ out is. still_routed before.routed (sent ∷ []) out is) before.lines
    (law.run script named before s run))
    (law.message script s sent routed (Contains-push before.routed sent)))
so_far_routed law script named log (at_end before s left run cut) =
    subst (λ (routed : List (ℕ × Message)). All (IsRoutedEnd routed) log.lines) (sym cut.routed)
    (goes_routed before.routed before.lines log.lines (finishes s left) cut.lines (law.run script named before s run) (finishes_routed before.routed s left))

-- ---- a routed message is one that left its slot

-- A slot is itself.
is_own : (n : ℕ) → (n == n) ≡ true
is_own n = grind (arith, nat_tests)

-- Each item is one of its slot's.
more_own : {X : Type 0} (b : Bool) (x : X) (ys : List X) (y : X) → Contains ys y → Contains (if b then x ∷ ys else ys) y
more_own true x ys y there = Contains-append_right (x ∷ []) ys y there
more_own false x ys y there = there

all_own : {X : Type 0} (items : List (ℕ × X)) → All (λ (item : ℕ × X). Contains (of_slot item.0 items) item.1) items
all_own {X} [] = All-nil (λ (item : ℕ × X). Contains (of_slot item.0 []) item.1)
all_own {X} (x ∷ items) =
    All-cons (λ (item : ℕ × X). Contains (of_slot item.0 (x ∷ items)) item.1) x items
    (subst (λ (b : Bool). Contains (if b then x.1 ∷ of_slot x.0 items else of_slot x.0 items) x.1) (sym (is_own x.0))
    (Contains-append_left (x.1 ∷ []) (of_slot x.0 items) x.1 (Contains-push [] x.1)))
    (All-weaker (λ (item : ℕ × X). Contains (of_slot item.0 items) item.1) (λ (item : ℕ × X). Contains (of_slot item.0 (x ∷ items)) item.1)
    (λ item there. more_own (x.0 == item.0) x.1 (of_slot item.0 items) item.1 there) items (all_own items))

module _ {S : Type 0} (moment_of : S → ℕ) (left_since : S → ℕ → List ℕ → Type 0) (told : S → Option (List ℕ)) (faults_of : S → ℕ)
    (limit : ℕ) (law : EndsAreRouted) (script : Script) (contents : ℕ → Option (List ℕ)) (named : Slots) (log : SwitchLog) (rows : List (SlotReport S))
    (are : AreRows moment_of left_since told faults_of limit script contents named log rows) (so_far : IsRunSoFar script (opened named) log) (there : AreThere (length rows) log)
    (unharmed : (slot : ℕ) (row : SlotReport S) → slice_get rows slot ≡ Some row → IsUnharmed told faults_of row) where
  -- What left an unharmed slot tells of no end.
  row_tells_none : (slot : ℕ) (row : SlotReport S) → slice_get rows slot ≡ Some row → TellNoEnd (messages row.back.released.items)
  row_tells_none slot row at =
      let is = are slot row at in
      let whole = unharmed slot row at in
      let tells = (is.kept whole.tells).tells in
      (is.answered whole.tells).unended (no_stops (backed row.back).stops (backed row.back).downs whole.ends
      (subst (λ (n : ℕ). AreRising 0 (counts_in (backed row.back)) n) whole.steady tells.rising) tells.rose)

  -- So no routed message does.
  routed_tells_none : (sent : ℕ × Message) → Contains log.routed sent → tells_end sent.1 ≡ false
  routed_tells_none sent is_routed =
      let within = All-contains (λ (item : ℕ × Message). item.0 < length rows) log.routed sent there is_routed in
      let of = item_at rows sent.0 within in
      let own = All-contains (λ (item : ℕ × Message). Contains (of_slot item.0 log.routed) item.1) log.routed sent (all_own log.routed) is_routed in
      let from = (are sent.0 of.0 of.1).routes in
      All-contains (λ (m : Message). tells_end m ≡ false) (messages of.0.back.released.items) sent.1 (row_tells_none sent.0 of.0 of.1)
      (subst (λ (all : List Message). Contains all sent.1) from.1 (Contains-append_left (of_slot sent.0 log.routed) from.0 sent.1 own))

  -- Nor a line.
  line_tells_none : (f : Failure) (b : Bool) → is_of_end f ≡ b → (is_of_end f ≡ true → IsToldBy log.routed) → b ≡ false
  line_tells_none f false is by = refl
  line_tells_none f true is by = let told = by is in absurd (true≢false (sym told.tells ∙ routed_tells_none told.sent told.there))

  pub none_told : (number : ℤ) (f : Failure) → Contains log.lines (line.error number f) → is_of_end f ≡ false
  none_told number f at =
      line_tells_none f (is_of_end f) refl
      (All-contains (IsRoutedEnd log.routed) log.lines (line.error number f) (so_far_routed law script named log so_far) at)

-- So the lines of a run, as its rows and its log tell of them.
pub are_unended : {S : Type 0} (moment_of : S → ℕ) (left_since : S → ℕ → List ℕ → Type 0) (told : S → Option (List ℕ)) (faults_of : S → ℕ)
    (limit : ℕ) (law : EndsAreRouted) (script : Script) (contents : ℕ → Option (List ℕ)) (named : Slots) (log : SwitchLog) (rows : List (SlotReport S))
    → AreRows moment_of left_since told faults_of limit script contents named log rows → IsRunSoFar script (opened named) log → AreThere (length rows) log
    → AreUnended told faults_of log rows
are_unended moment_of left_since told faults_of limit law script contents named log rows are so_far there unharmed =
    none_told moment_of left_since told faults_of limit law script contents named log rows are so_far there unharmed

-- A log without lines tells of none.
pub unended_none : {S : Type 0} (told : S → Option (List ℕ)) (faults_of : S → ℕ) (log : SwitchLog) (rows : List (SlotReport S)) → log.lines ≡ [] → AreUnended told faults_of log rows
unended_none told faults_of log rows none unharmed number f at =
    absurd (subst (λ (lines : List OutLine). Contains lines (line.error number f) → ⊥) (sym none) (λ in_nothing. let no : ⊥ = omega (arith, in_nothing.1) in no) at)
