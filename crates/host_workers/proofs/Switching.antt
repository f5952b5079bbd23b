-- The cell of the switch is kept by each of its steps.
use Rattle.std.proofs.Common.{◌≡◌, ◌≢◌, ◌∙◌, ap, sym, refl, subst, inl, inr, ⊎_elim, ℕ, ◌<◌, ◌≤◌, arith, List, [], ◌∷◌, ◌++◌, length, map, get_or, set, cond, append-nil, Option, Some, None}
use Rattle.std.proofs.Math.Path.{transport}
use Rattle.std.proofs.lemmas.Bool.{cases_eq}
use Rattle.std.proofs.lemmas.Bool.Decides.{nat_tests}
use Rattle.std.proofs.lemmas.List.{get_or-set_same, get_or-set_other, length-map, map-append}
use Rattle.std.specs.Prelude.{Bool, true, false, ◌==◌, ◌⊎◌, Result, Ok, Err, OnOk, OnErr}
use Rattle.do_tree.specs.Tree.{Script}
use Rattle.lane.specs.Lanes.{Sending, Taking}
use Rattle.line_server.specs.declared.line.Line as read
use Rattle.timeline.specs.Lines.{Line}
use Rattle.timeline.specs.Switch as switch
use Rattle.timeline.specs.Switch.{accepts, routes}
use Rattle.timeline.specs.declared.event.Event.{Event}
use Rattle.timeline.specs.declared.message.Message.{Message}
use Rattle.mailbox.proofs.Sendings.{of_slot-append, same_count}
use Rattle.mailbox.specs.Posting.{at_slot, of_slot}
use Rattle.mailbox.specs.Fit.{IsFit}
use Rattle.mailbox.specs.Runs.{Accepts, Acts, BeginsLine, BeginsMessage, IsStill, Routes, fault_in, fault_of, log_of, posts_of, slots_of, state_of}
use Rattle.mailbox.specs.Seen.{seen_line}
use Rattle.mailbox.specs.SoFar.{IsRunSoFar, whole, in_line, in_message}
use Rattle.mailbox.specs.Taken.{HandsBack, IsTakenOf, got_more}
use Rattle.mailbox.specs.declared.fault.SwitchFault.{SwitchFault}
use Rattle.mailbox.specs.declared.fault.SwitchFault.TheVariants.{NoMemory}
use Rattle.mailbox.specs.declared.fitting.Routed.{Routed}
use Rattle.mailbox.specs.declared.fitting.Routed.TheVariants.{Did, Nothing, Unfit}
use Rattle.mailbox.specs.declared.switch.Switch.{Switch}
use Rattle.switch_history.proofs.Fits.{fit_is_run}
use Rattle.switch_history.specs.Fit.{IsFitRun, begins as fit_begins, accepted as fit_accepted, routed as fit_routed}
use Rattle.host_workers.specs.Switches.{AreUnused, IsSwitchOver, got_of, kept_in, sent_on}

none_is_few : 0 ≤ 1
none_is_few = omega arith

one_is_few : 1 ≤ 1
one_is_few = omega arith

some_none : {A : Type 0} (fault : SwitchFault) → Some fault ≡ None → A
some_none fault is = absurd cc

ok_err : {T A : Type 0} (x : T) (fault : SwitchFault) → Ok x ≡ Err fault → A
ok_err x fault is = absurd cc

is_own : (n k : ℕ) → n ≡ k → (n == k) ≡ true
is_own n k e = grind (arith, nat_tests, e)

is_other : (n k : ℕ) → (n ≡ k → ⊥) → (n == k) ≡ false
is_other n k e = grind (arith, nat_tests, e)

of_own : {X : Type 0} (own slot : ℕ) (x : X) → own ≡ slot → of_slot slot ((own, x) ∷ []) ≡ x ∷ []
of_own {X} own slot x e = ap (λ (b : Bool). cond b (x ∷ []) []) (is_own own slot e)

of_other : {X : Type 0} (own slot : ℕ) (x : X) → (own ≡ slot → ⊥) → of_slot slot ((own, x) ∷ []) ≡ []
of_other {X} own slot x e = ap (λ (b : Bool). cond b (x ∷ []) []) (is_other own slot e)

-- One message more of the lane of its slot.
got_each : (old new : List (Taking Message)) (own : ℕ) (message : Message) → own < length old → map got_of new ≡ got_more own message (map got_of old) → (slot : ℕ)
    → at_slot got_of new slot ≡ at_slot got_of old slot ++ of_slot slot ((own, message) ∷ [])
got_each old new own message within now slot =
    let lanes : List (List Message) = map got_of old in
    let less : own < length lanes = subst (λ (n : ℕ). own < n) (sym (length-map old got_of)) within in
    ⊎_elim
    (λ (here : own ≡ slot).
    ap (λ (l : List (List Message)). get_or l slot []) now
    ∙ ap (λ (n : ℕ). get_or (set lanes own (get_or lanes own [] ++ message ∷ [])) n []) (sym here)
    ∙ get_or-set_same lanes own (get_or lanes own [] ++ message ∷ []) [] less
    ∙ ap (λ (n : ℕ). get_or lanes n [] ++ message ∷ []) here
    ∙ ap (λ (l : List Message). at_slot got_of old slot ++ l) (sym (of_own own slot message here)))
    (λ (away : own ≢ slot).
    ap (λ (l : List (List Message)). get_or l slot []) now
    ∙ get_or-set_other lanes own slot (get_or lanes own [] ++ message ∷ []) [] (λ e. away (sym e))
    ∙ sym (append-nil (at_slot got_of old slot))
    ∙ ap (λ (l : List Message). at_slot got_of old slot ++ l) (sym (of_other own slot message away)))
    (cases_eq own slot)

-- The message that is kept after this answer.
abbrev pub kept_by : Result Routed SwitchFault → Option (ℕ × Message)
kept_by (Ok Did) = None
kept_by (Ok Nothing) = None
kept_by (Ok (Unfit slot message)) = Some (slot, message)
kept_by (Err fault) = None

-- ---- a fit run goes on
-- The run of a switch, as it is logged and as the switch is.
abbrev FitRun : {W : Type 0} → Script → switch.Switch → Switch W → Type 0
FitRun script first s = IsFitRun script first (log_of s) (state_of s)

module _ {W : Type 0} (script : Script) (first : switch.Switch) (old new : Switch W) where
  run_as : (log : switch.SwitchLog) (s : switch.Switch) → log_of new ≡ log → state_of new ≡ s → IsFitRun script first log s → FitRun script first new
  run_as log s same_log same run =
      subst (λ (t : switch.Switch). IsFitRun script first (log_of new) t) (sym same)
      (subst (λ (l : switch.SwitchLog). IsFitRun script first l s) (sym same_log) run)

  -- by a line that was accepted
  fit_line : (line : read.Line) → Accepts script old new line → FitRun script first old → FitRun script first new
  fit_line line did run = run_as _ _ did.log did.state (fit_accepted (log_of old) (state_of old) (seen_line line) run)

  -- by a message that was fit and routed
  fit_message : (sent : ℕ × Message) → IsFit (state_of old) sent × Routes script old new sent → FitRun script first old → FitRun script first new
  fit_message sent did run = run_as _ _ did.1.log did.1.state (fit_routed (log_of old) (state_of old) sent did.0 run)

  -- where nothing was done
  fit_still : IsStill old new → FitRun script first old → FitRun script first new
  fit_still still run = run_as _ _ still.log still.state run

  -- So far as it came it is a run.
  fit_whole : FitRun script first new → IsRunSoFar script first (log_of new)
  fit_whole run = whole (state_of new) (fit_is_run script first (log_of new) (state_of new) run)

-- What a call of the switch does beside, between the ends of a cell.
abbrev ActsBy : {W T : Type 0} → (W → Option (List ℕ)) → (W → ℕ) → (old new : Switch W) → (inboxes later_inboxes : List (Sending Event)) → Result T SwitchFault → Type 0
ActsBy taken faults old new inboxes later_inboxes result =
    Acts sent_on (λ (end : Sending Event). end.lane) (λ (end : Sending Event). []) taken faults old new inboxes later_inboxes result

-- What the switch's own contract says of a message that is routed only where it is fit.
pub record RoutesBy {W : Type 0} (taken : W → Option (List ℕ)) (faults : W → ℕ) (script : Script) (old new : Switch W) (outs later_outs : List (Taking Message))
    (inboxes later_inboxes : List (Sending Event)) (result : Result Routed SwitchFault) : Type 0 where
  pub acts : ActsBy taken faults old new inboxes later_inboxes result
  pub routed : result ≡ Ok Did → IsTakenOf got_of outs later_outs (λ (sent : ℕ × Message). IsFit (state_of old) sent × Routes script old new sent)
  pub unfit : (slot : ℕ) (message : Message) → result ≡ Ok (Unfit slot message) → HandsBack got_of outs later_outs slot message × IsStill old new
  pub nothing : result ≡ Ok Nothing → IsStill old new × (map got_of later_outs ≡ map got_of outs)
  pub begun : OnErr result (IsTakenOf got_of outs later_outs (BeginsMessage script old new)
      ⊎ IsStill old new × (map got_of later_outs ≡ map got_of outs) × (result ≡ Err NoMemory))
  pub lanes : map (λ (end : Taking Message). end.lane) later_outs ≡ map (λ (end : Taking Message). end.lane) outs
  pub fault : fault_of new ≡ fault_in result

module _ {W : Type 0} (taken : W → Option (List ℕ)) (faults : W → ℕ) (script : Script) (first : switch.Switch) (old new : Switch W)
    (kept later_kept : Option (ℕ × Message)) (outs later_outs : List (Taking Message)) (inboxes later_inboxes : List (Sending Event)) (got : List read.Line)
    (one : IsSwitchOver script first old kept outs inboxes got) where
  abbrev After : List read.Line → Type 0
  After later = IsSwitchOver script first new later_kept later_outs later_inboxes later

  abbrev Run : Switch W → Type 0
  Run s = FitRun script first s

  -- What was taken from the lanes out, routed or kept.
  abbrev Taken : List (ℕ × Message)
  Taken = (log_of old).routed ++ kept_in kept

  -- What a call of the switch does beside what it logs as accepted and routed.
  built : {T : Type 0} (result : Result T SwitchFault) → ActsBy taken faults old new inboxes later_inboxes result → length later_outs ≡ length outs → (more : List (ℕ × Message)) → ((slot : ℕ) → at_slot got_of later_outs slot ≡ at_slot got_of outs slot ++ of_slot slot more)
      → (log_of new).routed ++ kept_in later_kept ≡ Taken ++ more → (later : List read.Line) (lost : List Line) → length lost ≤ 1 → (fault_of new ≡ None → lost ≡ [])
      → map seen_line later ≡ (log_of new).accepted ++ lost → (fault_of new ≡ None → Run new)
      → IsRunSoFar script first (log_of new) → After later
  built result acts as_many more each routed later lost few none accepted run so_far = record {
    each_out = as_many ∙ one.each_out ∙ sym acts.slots;
    each_inbox = same_count (λ (end : Sending Event). end.lane) inboxes later_inboxes acts.ends.lanes ∙ one.each_inbox ∙ sym acts.slots;
    posted = λ slot.
        let p = acts.posted in
        p.each slot ∙ ap (λ (l : List Event). l ++ of_slot slot p.since) (one.posted slot)
        ∙ sym (of_slot-append slot (posts_of old) p.since) ∙ ap (of_slot slot) (sym p.logged);
    routed = λ slot.
        each slot ∙ ap (λ (l : List Message). l ++ of_slot slot more) (one.routed slot)
        ∙ sym (of_slot-append slot Taken more) ∙ ap (of_slot slot) (sym routed);
    lost = lost;
    few = few;
    none_lost = none;
    accepted = accepted;
    run = run;
    so_far = so_far;
  }

  -- The log is as it was.
  still_far : log_of new ≡ log_of old → IsRunSoFar script first (log_of new)
  still_far same = subst (λ (l : switch.SwitchLog). IsRunSoFar script first l) (sym same) one.so_far

  -- None was taken.
  none_taken : (log_of new).routed ≡ (log_of old).routed → later_kept ≡ kept → (log_of new).routed ++ kept_in later_kept ≡ Taken ++ []
  none_taken routed same =
      ap (λ (l : List (ℕ × Message)). l ++ kept_in later_kept) routed
      ∙ ap (λ (k : Option (ℕ × Message)). (log_of old).routed ++ kept_in k) same
      ∙ sym (append-nil Taken)

  -- The run before what was begun.
  run_before : fault_of old ≡ None → switch.IsSwitchRun script first (log_of old) (state_of old)
  run_before goes = fit_is_run script first (log_of old) (state_of old) (one.run goes)

  -- ---- a line
  module _ (line : read.Line) (goes : fault_of old ≡ None) (same_outs : later_outs ≡ outs) (same_kept : later_kept ≡ kept) where
    none_more : (slot : ℕ) → at_slot got_of later_outs slot ≡ at_slot got_of outs slot ++ of_slot {X = Message} slot []
    none_more slot = ap (λ (l : List (Taking Message)). at_slot got_of l slot) same_outs ∙ sym (append-nil (at_slot got_of outs slot))

    was : map seen_line got ≡ (log_of old).accepted
    was = one.accepted ∙ ap (λ (l : List Line). (log_of old).accepted ++ l) (one.none_lost goes) ∙ append-nil (log_of old).accepted

    line_more : map seen_line (got ++ line ∷ []) ≡ (log_of old).accepted ++ seen_line line ∷ []
    line_more = map-append seen_line got (line ∷ []) ∙ ap (λ (l : List Line). l ++ seen_line line ∷ []) was

    abbrev Acting : Result (Unit {0}) SwitchFault → Type 0
    Acting result = ActsBy taken faults old new inboxes later_inboxes result

    line_logged : (result : Result (Unit {0}) SwitchFault) → Acting result → (log_of new).accepted ≡ (log_of old).accepted ++ seen_line line ∷ []
        → (log_of new).routed ≡ (log_of old).routed → (fault_of new ≡ None → Run new) → IsRunSoFar script first (log_of new) → After (got ++ line ∷ [])
    line_logged result acts accepted routed run so_far =
        built result acts (ap length same_outs) [] none_more (none_taken routed same_kept) (got ++ line ∷ []) [] none_is_few (λ _. refl)
        (line_more ∙ sym accepted ∙ sym (append-nil (log_of new).accepted)) run so_far

    line_lost : (fault : SwitchFault) → Acting (Err fault) → log_of new ≡ log_of old → fault_of new ≡ Some fault → After (got ++ line ∷ [])
    line_lost fault acts same stopped =
        built (Err fault) acts (ap length same_outs) [] none_more (none_taken (ap (λ (l : switch.SwitchLog). l.routed) same) same_kept)
        (got ++ line ∷ []) (seen_line line ∷ []) one_is_few (λ none. some_none fault (sym stopped ∙ none))
        (line_more ∙ ap (λ (l : switch.SwitchLog). l.accepted ++ seen_line line ∷ []) (sym same)) (λ none. some_none fault (sym stopped ∙ none)) (still_far same)

    pub accept_keeps : (result : Result (Unit {0}) SwitchFault) → Acting result → OnOk result (Accepts script old new line)
        → OnErr result (BeginsLine script old new line ⊎ (log_of new ≡ log_of old) × (result ≡ Err NoMemory)) → fault_of new ≡ fault_in result → After (got ++ line ∷ [])
    accept_keeps (Ok done) acts accepted begun fault =
        let run : Run new = fit_line script first old new line accepted (one.run goes) in
        line_logged (Ok done) acts (ap (λ (l : switch.SwitchLog). l.accepted) accepted.log) (ap (λ (l : switch.SwitchLog). l.routed) accepted.log) (λ none. run)
        (fit_whole script first old new run)
    accept_keeps (Err f) acts accepted (inl begun) fault = line_logged (Err f) acts begun.accepted begun.routed (λ none. some_none f (sym fault ∙ none))
        (in_line (log_of old) (state_of old) (seen_line line) (run_before goes) begun)
    accept_keeps (Err f) acts accepted (inr same) fault = line_lost f acts same.0 fault

  -- ---- a message
  module _ (goes : fault_of old ≡ None) (none : kept ≡ None) (inlets : length later_outs ≡ length outs) where
    abbrev Moving : Result Routed SwitchFault → Type 0
    Moving result = ActsBy taken faults old new inboxes later_inboxes result

    -- One message was taken.
    message_taken : (result : Result Routed SwitchFault) → Moving result → (sent : ℕ × Message) → sent.0 < length outs
        → map got_of later_outs ≡ got_more sent.0 sent.1 (map got_of outs) → (log_of new).accepted ≡ (log_of old).accepted
        → (log_of new).routed ++ kept_in later_kept ≡ Taken ++ sent ∷ [] → (fault_of new ≡ None → Run new) → IsRunSoFar script first (log_of new) → After got
    message_taken result acts sent there now accepted routed run so_far =
        built result acts inlets (sent ∷ []) (got_each outs later_outs sent.0 sent.1 there now) routed got one.lost one.few (λ none. one.none_lost goes)
        (one.accepted ∙ ap (λ (l : List Line). l ++ one.lost) (sym accepted)) run so_far

    -- None was.
    still_as : (result : Result Routed SwitchFault) → Moving result → log_of new ≡ log_of old → map got_of later_outs ≡ map got_of outs → later_kept ≡ kept
        → (fault_of new ≡ None → Run new) → After got
    still_as result acts same now same_kept run =
        built result acts inlets [] (λ slot. ap (λ (l : List (List Message)). get_or l slot []) now ∙ sym (append-nil (at_slot got_of outs slot)))
        (none_taken (ap (λ (l : switch.SwitchLog). l.routed) same) same_kept) got one.lost one.few (λ none. one.none_lost goes)
        (one.accepted ∙ ap (λ (l : switch.SwitchLog). l.accepted ++ one.lost) (sym same)) run (still_far same)

    -- Where none was kept: one that is logged, and one that is kept.
    taken_routed : (sent : ℕ × Message) → later_kept ≡ None → (log_of new).routed ≡ (log_of old).routed ++ sent ∷ []
        → (log_of new).routed ++ kept_in later_kept ≡ Taken ++ sent ∷ []
    taken_routed sent later more =
        ap (λ (k : Option (ℕ × Message)). (log_of new).routed ++ kept_in k) later
        ∙ append-nil (log_of new).routed
        ∙ more
        ∙ ap (λ (l : List (ℕ × Message)). l ++ sent ∷ []) (sym (append-nil (log_of old).routed))
        ∙ ap (λ (k : Option (ℕ × Message)). ((log_of old).routed ++ kept_in k) ++ sent ∷ []) (sym none)

    taken_kept : (sent : ℕ × Message) → later_kept ≡ Some sent → (log_of new).routed ≡ (log_of old).routed
        → (log_of new).routed ++ kept_in later_kept ≡ Taken ++ sent ∷ []
    taken_kept sent later same =
        ap (λ (k : Option (ℕ × Message)). (log_of new).routed ++ kept_in k) later
        ∙ ap (λ (l : List (ℕ × Message)). l ++ sent ∷ []) (same ∙ sym (append-nil (log_of old).routed))
        ∙ ap (λ (k : Option (ℕ × Message)). ((log_of old).routed ++ kept_in k) ++ sent ∷ []) (sym none)

    pub route_keeps : (result : Result Routed SwitchFault) → RoutesBy taken faults script old new outs later_outs inboxes later_inboxes result → later_kept ≡ kept_by result → After got
    route_keeps (Ok Did) by later =
        let r = by.routed refl in
        let run : Run new = fit_message script first old new r.sent r.does (one.run goes) in
        message_taken (Ok Did) by.acts r.sent r.there r.taken (ap (λ (l : switch.SwitchLog). l.accepted) r.does.1.log)
        (taken_routed r.sent later (ap (λ (l : switch.SwitchLog). l.routed) r.does.1.log)) (λ _. run) (fit_whole script first old new run)
    route_keeps (Ok Nothing) by later =
        let n = by.nothing refl in
        still_as (Ok Nothing) by.acts n.0.log n.1 (later ∙ sym none) (λ _. fit_still script first old new n.0 (one.run goes))
    route_keeps (Ok (Unfit slot message)) by later =
        let u = by.unfit slot message refl in
        message_taken (Ok (Unfit slot message)) by.acts (slot, message) u.0.there u.0.taken (ap (λ (l : switch.SwitchLog). l.accepted) u.1.log)
        (taken_kept (slot, message) later (ap (λ (l : switch.SwitchLog). l.routed) u.1.log)) (λ _. fit_still script first old new u.1 (one.run goes)) (still_far u.1.log)
    route_keeps (Err f) by later =
        ⊎_elim
        (λ (r : IsTakenOf got_of outs later_outs (BeginsMessage script old new)).
        message_taken (Err f) by.acts r.sent r.there r.taken r.does.accepted (taken_routed r.sent later r.does.routed) (λ stays. some_none f (sym by.fault ∙ stays))
        (in_message (log_of old) (state_of old) r.sent (run_before goes) r.does))
        (λ s. still_as (Err f) by.acts s.0.log s.1 (later ∙ sym none) (λ stays. some_none f (sym by.fault ∙ stays)))
        by.begun

-- So is a cell whose ends were lent and given back.
pub route_lent : {W : Type 0} (taken : W → Option (List ℕ)) (faults : W → ℕ) (script : Script) (first : switch.Switch) (old new : Switch W) (kept later_kept : Option (ℕ × Message))
    (outs lent_outs new_outs later_outs : List (Taking Message)) (inboxes lent_inboxes new_inboxes later_inboxes : List (Sending Event)) (got : List read.Line)
    → lent_outs ≡ outs → later_outs ≡ new_outs → lent_inboxes ≡ inboxes → later_inboxes ≡ new_inboxes → IsSwitchOver script first old kept outs inboxes got
    → fault_of old ≡ None → kept ≡ None → (result : Result Routed SwitchFault)
    → RoutesBy taken faults script old new lent_outs new_outs lent_inboxes new_inboxes result → later_kept ≡ kept_by result
    → IsSwitchOver script first new later_kept later_outs later_inboxes got
route_lent taken faults script first old new kept later_kept outs lent_outs new_outs later_outs inboxes lent_inboxes new_inboxes later_inboxes got lent is lent_in is_in one goes none
    result by later =
    let before : IsSwitchOver script first old kept lent_outs lent_inboxes got =
    transport (λ i. IsSwitchOver script first old kept (sym lent i) (sym lent_in i) got) one in
    transport (λ i. IsSwitchOver script first new later_kept (sym is i) (sym is_in i) got)
    (route_keeps taken faults script first old new kept later_kept lent_outs new_outs lent_inboxes new_inboxes got before goes none
    (same_count (λ (end : Taking Message). end.lane) lent_outs new_outs by.lanes) result by later)

-- A switch that has done nothing.
pub begins_switch : {W : Type 0} (script : Script) (s : Switch W) (outs : List (Taking Message)) (inboxes : List (Sending Event)) (got : List read.Line)
    → log_of s ≡ switch.no_log → length outs ≡ slots_of s → length inboxes ≡ slots_of s → got ≡ [] → AreUnused outs inboxes
    → IsSwitchOver script (state_of s) s None outs inboxes got
begins_switch script s outs inboxes got log each_out each_inbox none unused = record {
  each_out = each_out;
  each_inbox = each_inbox;
  posted = λ slot. (unused slot).1 ∙ ap (λ (l : switch.SwitchLog). of_slot slot l.posts) (sym log);
  routed = λ slot. (unused slot).0 ∙ ap (λ (l : switch.SwitchLog). of_slot slot (l.routed ++ [])) (sym log);
  lost = [];
  few = none_is_few;
  none_lost = λ _. refl;
  accepted = ap (map seen_line) none ∙ ap (λ (l : switch.SwitchLog). l.accepted ++ []) (sym log);
  so_far = subst (λ (l : switch.SwitchLog). IsRunSoFar script (state_of s) l) (sym log) (whole (state_of s) switch.begins);
  run = λ goes. subst (λ (l : switch.SwitchLog). IsFitRun script (state_of s) l (state_of s)) (sym log) fit_begins;
}
