-- A notice that fits leads to this front, whatever the class, and this is logged of it.
use Rattle.std.proofs.Common.{◌≡◌, ◌∙◌, sym, ap, subst, ℕ, List, [], ◌∷◌, ◌++◌, true, inl, inr, append-nil}
use Rattle.std.specs.Prelude.{unwrap_or}
use Rattle.do_tree.specs.Tree.{Script}
use Rattle.timeline.specs.Intake as intake
use Rattle.timeline.specs.Intake.{Kind, Taken, noticed, takes, entries_of, closed_by, FitsMode}
use Rattle.timeline.specs.Logs.{fronted}
use Rattle.timeline.specs.declared.entry.Entry.{Entry}
use Rattle.timeline.specs.declared.event.Event.{Event}
use Rattle.timeline.specs.declared.notice.Notice.{Notice}
use Rattle.front_turns.specs.Paused.{Paused}
use Rattle.front_half.specs.Moving.{Moves, Stops}
use Rattle.front_half.specs.Noticing.{in_mode}
use Rattle.front_half.specs.Standing.{Stood, IsHalf, IsTakenBy, kind_in, is_stopped}
use Rattle.front_half.specs.Taking.{Led, IsLedBy, fits, takes_notice, due_at}
use Rattle.front_half.specs.declared.half.Half.{Half}
use Rattle.front_half.specs.declared.half.Mode.{Mode as HeldMode}
use Rattle.front_half.proofs.Stepping.{Adds, Logs, LogsFirst, takes_one, cuts_one}

-- The front to which a notice leads, and the entries that are sent of it.
pub record LeadsTo (script : Script) (st : Stood) (n : Notice) (next : intake.Front) (deferred : List Event) (more : List Entry) : Type 0 where
  pub fit : FitsMode st.front.said st.front.mode n
  pub to : (c : ℕ) → takes (kind_in script c) st.front (noticed n) ≡ next
  pub due : due_at st.front.mode n ++ st.deferred ≡ deferred
  pub adds : entries_of st.front ++ more ≡ closed_by st.front st.front.mode (noticed n) ++ entries_of next

adds_to : (script : Script) (st : Stood) (n : Notice) (next : intake.Front) (ds : List Event) (more : List Entry) → LeadsTo script st n next ds more
    → (c : ℕ) → Adds (kind_in script c) st.front (noticed n) more
adds_to script st n next ds more by c = record {
  adds = by.adds ∙ ap (λ (f : intake.Front). closed_by st.front st.front.mode (noticed n) ++ entries_of f) (sym (by.to c));
}

module _ {T : Type 0} (see : T → Paused) (script : Script) where
  pub moves_to : (h : Half T) (mode : HeldMode T) (new : Half T) (st : Stood) (n : Notice) (next : intake.Front) (ds : List Event) (more : List Entry)
      → LeadsTo script st n next ds more → Logs st.front (noticed n) more (fronted h.log) (fronted new.log) → new.log.dropped.items ≡ h.log.dropped.items
      → IsHalf see script new (record st { front = next; deferred = ds })
      → (led : Led) × IsLedBy script st n led × Moves see script (in_mode h mode) new led st
  moves_to h mode new st n next ds more by logs same half =
      let d : ℕ = unwrap_or st.class 0 in
      let stands : record st { front = next; deferred = ds } ≡ (takes_notice script st n).stood =
      ap (λ (f : intake.Front). record st { front = f; deferred = ds }) (sym (by.to d))
      ∙ ap (λ (xs : List Event). record st { front = takes (kind_in script d) st.front (noticed n); deferred = xs }) (sym by.due) in (
        takes_notice script st n,
        fits by.fit,
        record {
          half = subst (λ (x : Stood). IsHalf see script new x) stands half;
          dropped = same ∙ sym (append-nil h.log.dropped.items);
          taken = λ c from taken of took. let k : Kind = kind_in script c in
              subst (λ (f : intake.Front). IsTakenBy k from (taken ++ noticed n ∷ []) f (fronted new.log)) (by.to c ∙ sym (by.to d))
              (takes_one k from taken (noticed n) st.front more (fronted h.log) (fronted new.log) by.fit (adds_to script st n next ds more by c) logs took);
        },
      )

  pub stops_to : (h : Half T) (mode : HeldMode T) (new : Half T) (st : Stood) (n : Notice) (next : intake.Front) (ds : List Event) (more : List Entry)
      → LeadsTo script st n next ds more → LogsFirst st.front (noticed n) more (fronted h.log) (fronted new.log) → new.log.dropped.items ≡ h.log.dropped.items
      → is_stopped new ≡ true
      → (led : Led) × IsLedBy script st n led × Stops script (in_mode h mode) new led st
  stops_to h mode new st n next ds more by logs same stopped = (
    takes_notice script st n,
    fits by.fit,
    record {
      stopped = stopped;
      cut = inr (
        same ∙ sym (append-nil h.log.dropped.items),
        λ c from taken of took.
            cuts_one (kind_in script c) from taken (noticed n) st.front more (fronted h.log) (fronted new.log) by.fit (adds_to script st n next ds more by c) logs took,
      );
    },
  )

  -- Memory was wanting before anything was logged.
  pub stops_before : (h : Half T) (mode : HeldMode T) (new : Half T) (st : Stood) (n : Notice) → FitsMode st.front.said st.front.mode n
      → is_stopped new ≡ true → fronted new.log ≡ fronted h.log
      → (led : Led) × IsLedBy script st n led × Stops script (in_mode h mode) new led st
  stops_before h mode new st n fit stopped same = (takes_notice script st n, fits fit, record { stopped = stopped; cut = inl same })
