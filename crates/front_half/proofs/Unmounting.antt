-- What a notice makes of a front whose object isn't mounted.
use Rattle.std.proofs.Common.{◌≡◌, ◌∙◌, sym, refl, ap, subst, ℕ, ◌+◌, ℤ, List, [], ◌∷◌, ◌++◌, length, Option, Some, None, true, false, Vec, Global, append-nil}
use Rattle.std.proofs.lemmas.Bool.{true≢false}
use Rattle.std.specs.Prelude.{option_to_list}
use Rattle.do_tree.specs.Lookup.{constructor_of}
use Rattle.do_tree.specs.Tree.{Script}
use Rattle.timeline.specs.Headline.{IsPrefix}
use Rattle.timeline.specs.Intake as intake
use Rattle.timeline.specs.Intake.{Mode, serves, down, noticed, on_fresh, on_down, down_replies, says_more, numbered, entries_of, closed_by, downed_by, ends_by, FitsMode}
use Rattle.timeline.specs.Logs.{fronted}
use Rattle.timeline.specs.Object.{Life, begun, idle}
use Rattle.timeline.specs.declared.caller.Cause.{Cause}
use Rattle.timeline.specs.declared.entry.Body.{Body}
use Rattle.timeline.specs.declared.entry.Entry.{Entry}
use Rattle.timeline.specs.declared.event.Event.{Event}
use Rattle.timeline.specs.declared.notice.Notice.{Notice}
use Rattle.timeline.specs.declared.notice.Notice.TheVariants as notice
use Rattle.front_turns.specs.Paused.{Paused}
use Rattle.front_turns.specs.Held.{Holds, object_of}
use Rattle.front_turns.specs.declared.object.Object.{Object}
use Rattle.front_turns.specs.declared.object.State.TheVariants.{Idle}
use Rattle.front_half.specs.Noticing.{GoesOn, IsStoppedBy, in_mode, is_end}
use Rattle.front_half.specs.Standing.{Stood, IsHalf, IsMode, is_stopped}
use Rattle.front_half.specs.Taking.{due_at}
use Rattle.front_half.specs.declared.half.Half.{Half}
use Rattle.front_half.specs.declared.half.Mode.TheVariants as held
use Rattle.front_half.proofs.Blocks.{begun_gated}
use Rattle.front_half.proofs.Intakes.{numbered-append}
use Rattle.front_half.proofs.Leading.{LeadsTo, moves_to, stops_to, stops_before}
use Rattle.front_half.proofs.Noticed.{mode_at, down_so, sticks, said_more, longer, counts_on, at_number}

none_fits_not : (n : Notice) (said : List Body) → FitsMode said (down None) n → ⊥
none_fits_not n said fit = fit

waiting_fits_not : (n : Notice) (call : Event) (said : List Body) → is_end n ≡ false → FitsMode said (down (Some call)) n → ⊥
waiting_fits_not (notice.Fresh i al c) call said stored fit = true≢false stored
waiting_fits_not (notice.Down c before after) call said stored fit = true≢false stored
waiting_fits_not n call said stored fit = fit

-- the half whose object is mounted, with this event before its deferred ones
abbrev pub mounted : {T : Type 0} → Half T → Object T → Option Event → List Event → Half T
mounted h o due deferred = record h { mode = held.Serves (Idle o); due = due; deferred = deferred }

-- the half whose call got its failure
abbrev pub downed : {T : Type 0} → Half T → Vec Entry Global → Vec (ℕ × Event) Global → ℕ → Half T
downed h sent calls n = record h { mode = held.Down None; count = n; log = record h.log { sent = sent; downed = calls } }

abbrev pub downed_cut : {T : Type 0} → Half T → Vec Entry Global → Vec (ℕ × Event) Global → Half T
downed_cut h sent calls = record h { log = record h.log { sent = sent; downed = calls } }

module _ {T : Type 0} (see : T → Paused) (script : Script) where
  is_down : (h : Half T) (call : Option Event) (st : Stood) → IsHalf see script (in_mode h (held.Down call)) st → st.front.mode ≡ down call
  is_down h call st is = let at : (l : Life) × IsMode see l (held.Down call) st.front.mode = mode_at see script h (held.Down call) st is in
      down_so see at.0 st.front.mode call at.1

  pub unmounted_sticks : (h : Half T) (n : Notice) → GoesOn see script (in_mode h (held.Down None)) (record h { mode = held.Down None; stuck = true }) n
  unmounted_sticks h n st is = sticks see script h (held.Down None) n st is
      (λ fit. none_fits_not n st.front.said (subst (λ (x : Mode). FitsMode st.front.said x n) (is_down h None st is) fit))

  pub mounting_sticks : (h : Half T) (call : Event) (n : Notice) → is_end n ≡ false
      → GoesOn see script (in_mode h (held.Down (Some call))) (record h { mode = held.Down (Some call); stuck = true }) n
  mounting_sticks h call n stored st is = sticks see script h (held.Down (Some call)) n st is
      (λ fit. waiting_fits_not n call st.front.said stored (subst (λ (x : Mode). FitsMode st.front.said x n) (is_down h (Some call) st is) fit))

  -- The object is mounted: the call that waited stands before the deferred events.
  module _ (h : Half T) (call : Event) (alarm : Option (ℤ × ℕ)) where
    mount_fits : (i : ℕ) (c : Cause) (st : Stood) → IsHalf see script (in_mode h (held.Down (Some call))) st → FitsMode st.front.said st.front.mode (notice.Fresh i alarm c)
    mount_fits i c st is = subst (λ (x : Mode). FitsMode st.front.said x (notice.Fresh i alarm c)) (sym (is_down h (Some call) st is)) tt

    pub mount_stops : (new : Half T) → is_stopped new ≡ true → fronted new.log ≡ fronted h.log
        → (i : ℕ) (c : Cause) → IsStoppedBy see script (in_mode h (held.Down (Some call))) new (notice.Fresh i alarm c)
    mount_stops new stopped same i c st is = stops_before see script h (held.Down (Some call)) new st (notice.Fresh i alarm c) (mount_fits i c st is) stopped same

    pub mounts : (o : Object T) (due : Option Event) (deferred : List Event) → object_of o [] ≡ begun alarm → ((l : Life) → Holds see l o [])
        → option_to_list due ++ deferred ≡ call ∷ (option_to_list h.due ++ h.deferred)
        → (i : ℕ) (c : Cause) → GoesOn see script (in_mode h (held.Down (Some call))) (mounted h o due deferred) (notice.Fresh i alarm c)
    mounts o due deferred begins holds put i c st is =
        let n : Notice = notice.Fresh i alarm c in
        let m : st.front.mode ≡ down (Some call) = is_down h (Some call) st is in
        let next : intake.Front = record st.front { mode = serves (idle (begun alarm)) } in
        moves_to see script h (held.Down (Some call)) (mounted h o due deferred) st n next (call ∷ st.deferred) []
        (record {
          fit = mount_fits i c st is;
          to = λ k. ap (λ (x : Mode). on_fresh st.front x alarm c) m;
          due = ap (λ (x : Mode). due_at x n ++ st.deferred) m;
          adds = append-nil (entries_of st.front) ∙ sym (ap (λ (x : Mode). closed_by st.front x (noticed n) ++ entries_of next) m);
        })
        (record {
          sent = sym (append-nil h.log.sent.items);
          delivered = sym (append-nil h.log.delivered.items);
          downed = sym (ap (λ (x : Mode). h.log.downed.items ++ downed_by st.front.incarnation x (noticed n)) m ∙ append-nil h.log.downed.items);
          ends = sym (ap (λ (x : Mode). h.log.ends.items ++ ends_by x (noticed n)) m ∙ append-nil h.log.ends.items);
        })
        refl
        (record {
          class = is.class;
          known = is.known;
          incarnation = is.incarnation;
          count = is.count;
          mode = λ d of. ([], sym begins, holds _);
          gate = λ d of. begun_gated (constructor_of script d) alarm;
          deferred = put ∙ ap (λ (xs : List Event). call ∷ xs) is.deferred;
          stuck = is.stuck;
          delivered_from = is.delivered_from;
          sent_from = is.sent_from;
          events = is.events;
          said = is.said;
        })

  -- The call couldn't have its object: it gets its failure.
  module _ (h : Half T) (call : Event) (before after : ℕ) where
    abbrev pub bodies : List Body
    bodies = down_replies (Some call) before after

    abbrev next_of : Stood → intake.Front
    next_of st = record (says_more st.front bodies) { mode = down None }

    fails_to : (c : Cause) (st : Stood) → IsHalf see script (in_mode h (held.Down (Some call))) st
        → LeadsTo script st (notice.Down c before after) (next_of st) st.deferred (numbered st.front.incarnation (1 + length st.front.said) bodies)
    fails_to c st is =
        let n : Notice = notice.Down c before after in
        let m : st.front.mode ≡ down (Some call) = is_down h (Some call) st is in
        record {
          fit = subst (λ (x : Mode). FitsMode st.front.said x n) (sym m) tt;
          to = λ k. ap (λ (x : Mode). on_down st.front x c before after) m;
          due = ap (λ (x : Mode). due_at x n ++ st.deferred) m;
          adds = sym (numbered-append st.front.incarnation 1 st.front.said bodies) ∙ sym (ap (λ (x : Mode). closed_by st.front x (noticed n) ++ entries_of (next_of st)) m);
        }

    pub failure_moves : (sent : Vec Entry Global) (calls : Vec (ℕ × Event) Global) (n : ℕ)
        → sent.items ≡ h.log.sent.items ++ numbered h.incarnation (1 + h.count) bodies → calls.items ≡ h.log.downed.items ++ (h.incarnation, call) ∷ []
        → n ≡ h.count + length bodies
        → (c : Cause) → GoesOn see script (in_mode h (held.Down (Some call))) (downed h sent calls n) (notice.Down c before after)
    failure_moves sent calls n all logged counts c st is =
        let m : st.front.mode ≡ down (Some call) = is_down h (Some call) st is in
        moves_to see script h (held.Down (Some call)) (downed h sent calls n) st (notice.Down c before after) (next_of st) st.deferred
        (numbered st.front.incarnation (1 + length st.front.said) bodies) (fails_to c st is)
        (record {
          sent = all ∙ at_number see script h st h.log.sent.items bodies is.incarnation is.count;
          delivered = sym (append-nil h.log.delivered.items);
          downed = logged ∙ ap (λ (i : ℕ). h.log.downed.items ++ (i, call) ∷ []) is.incarnation
              ∙ sym (ap (λ (x : Mode). h.log.downed.items ++ downed_by st.front.incarnation x (noticed (notice.Down c before after))) m);
          ends = sym (ap (λ (x : Mode). h.log.ends.items ++ ends_by x (noticed (notice.Down c before after))) m ∙ append-nil h.log.ends.items);
        })
        refl
        (record {
          class = is.class;
          known = is.known;
          incarnation = is.incarnation;
          count = counts_on n h.count st.front.said bodies counts is.count;
          mode = λ d of. refl;
          gate = λ d of. tt;
          deferred = is.deferred;
          stuck = is.stuck;
          delivered_from = is.delivered_from;
          sent_from = longer h.first_sent h.log.sent.items sent.items (numbered h.incarnation (1 + h.count) bodies) is.sent_from all;
          events = is.events;
          said = said_more h.first_sent h.log.sent.items sent.items h.incarnation (1 + h.count) bodies st.front.said is.sent_from all is.said;
        })

    pub failure_stops : (sent : Vec Entry Global) (calls : Vec (ℕ × Event) Global) → is_stopped h ≡ true
        → IsPrefix sent.items (h.log.sent.items ++ numbered h.incarnation (1 + h.count) bodies) → calls.items ≡ h.log.downed.items ++ (h.incarnation, call) ∷ []
        → (c : Cause) → IsStoppedBy see script (in_mode h (held.Down (Some call))) (downed_cut h sent calls) (notice.Down c before after)
    failure_stops sent calls stopped begins logged c st is =
        let m : st.front.mode ≡ down (Some call) = is_down h (Some call) st is in
        stops_to see script h (held.Down (Some call)) (downed_cut h sent calls) st (notice.Down c before after) (next_of st) st.deferred
        (numbered st.front.incarnation (1 + length st.front.said) bodies) (fails_to c st is)
        (record {
          sent = subst (λ (all : List Entry). IsPrefix sent.items all) (at_number see script h st h.log.sent.items bodies is.incarnation is.count) begins;
          delivered = sym (append-nil h.log.delivered.items);
          downed = logged ∙ ap (λ (i : ℕ). h.log.downed.items ++ (i, call) ∷ []) is.incarnation
              ∙ sym (ap (λ (x : Mode). h.log.downed.items ++ downed_by st.front.incarnation x (noticed (notice.Down c before after))) m);
          ends = sym (ap (λ (x : Mode). h.log.ends.items ++ ends_by x (noticed (notice.Down c before after))) m ∙ append-nil h.log.ends.items);
        })
        refl stopped

    pub failure_stops_before : (new : Half T) → is_stopped new ≡ true → fronted new.log ≡ fronted h.log
        → (c : Cause) → IsStoppedBy see script (in_mode h (held.Down (Some call))) new (notice.Down c before after)
    failure_stops_before new stopped same c st is =
        stops_before see script h (held.Down (Some call)) new st (notice.Down c before after) (fails_to c st is).fit stopped same
