-- While a back's newest incarnation isn't mounted, nothing was delivered to it, and it has said what is said then alone.
use Rattle.std.proofs.Common.{◌≡◌, ◌∙◌, ap, sym, subst, refl, inl, inr, true≢false, ℕ, zero, suc, ◌≤◌, ◌<◌, List, [], ◌∷◌, length, arith, Option, Some}
use Rattle.std.proofs.lemmas.List.Elements.{All-nil}
use Rattle.std.specs.Prelude.{true, false, slice_get}
use Rattle.std.specs.List.{All}
use Rattle.storage_map.specs.Contents.{Contents}
use Rattle.timeline.specs.Headline.{RestsUnmounted}
use Rattle.timeline.specs.History.{History, entries_of, history, incarnations, kept_of, of_number, said_in}
use Rattle.timeline.specs.Intake.{Kind, Front, Mode, serves, down}
use Rattle.timeline.specs.Logs.{Fronted, Backed}
use Rattle.timeline.specs.Passed.{is_followed, is_mounted, is_said_down}
use Rattle.timeline.specs.declared.back_log.End.{End}
use Rattle.timeline.specs.declared.entry.Body.{Body}
use Rattle.timeline.specs.declared.entry.Entry.{Entry}
use Rattle.timeline.specs.declared.event.Event.{Event}
use Rattle.timeline.specs.declared.notice.Notice.{Notice}
use Rattle.output_gate.proofs.Histories.{entries_none}
use Rattle.object_history.proofs.Entries.{of_number_none, said_numbered}
use Rattle.object_history.proofs.Phases.{says_down}
use Rattle.object_history.proofs.SaidSoFar.{delivered_until, entries_now, events_now, sent_until}
use Rattle.object_history.proofs.Readings.{phase_now}
use Rattle.object_history.specs.Pair.{Held, Stand, mounted, wanted, fallen, Rear, IsSilentAt, IsNewest, serving, falling, Together, unreached, answered, syncs, halts, read_fails, falls, wants, mends, misses, silent, IsPhase, IsPair}
use Rattle.object_history.specs.Stepping.{IsFollowed, IsRear}

-- There are as many ends as stops, or one less.
pub stops_are_few : (stand : Stand) (back : Backed) → IsFollowed stand back → length back.stops ≤ suc (length back.ends)
stops_are_few mounted back followed = omega (arith, followed)
stops_are_few (wanted c) back followed = omega (arith, followed)
stops_are_few (fallen c) back followed = omega (arith, followed)

-- An incarnation behind an end is mounted.
has_end : (ends : List End) (n : ℕ) → n < length ends → is_followed (kept_of (slice_get ends n)) ≡ true
has_end [] n less = absurd (omega (arith, less))
has_end (end ∷ ends) zero less = refl
has_end (end ∷ ends) (suc n) less = has_end ends n (omega (arith, less))

mounted_behind : (front : Fronted) (back : Backed) (n : ℕ) → length back.ends ≡ n → is_mounted (incarnations front back n) ≡ true
mounted_behind front back zero ends = refl
mounted_behind front back (suc n) ends = has_end back.ends n (omega (arith, ends))

never_mounted : (front : Fronted) (back : Backed) (stand : Stand) → IsFollowed stand back → is_mounted (incarnations front back (length back.stops)) ≡ false
    → stand ≡ mounted → ⊥
never_mounted front back stand followed none is =
    let all : length back.ends ≡ length back.stops = subst (λ (s : Stand). IsFollowed s back) is followed in
    true≢false (sym (mounted_behind front back (length back.stops) all) ∙ none)

-- Its front is down then.
silent_down : (m : Mode) (stand : Stand) → IsSilentAt m stand → (stand ≡ mounted → ⊥) → (call : Option Event) × (m ≡ down call)
silent_down (down call) stand is never = (call, refl)
silent_down (serves state) mounted is never = absurd (never refl)
silent_down (serves state) (wanted c) is never = absurd is
silent_down (serves state) (fallen c) is never = absurd is

module _ (start : Contents) (f : Front) (front : Fronted) (back : Backed) (unread : List Body) (before : ℕ) where
  is_down : (stand : Stand) (held : List Held) (notices : List Notice) → Together start f front back unread before stand held notices
      → (stand ≡ mounted → ⊥) → (call : Option Event) × (f.mode ≡ down call)
  is_down _ _ _ (unreached state mode u) never = absurd (never refl)
  is_down _ _ _ (answered n answer none) never = absurd (never refl)
  is_down _ _ _ (syncs o t mode none) never = absurd (never refl)
  is_down _ _ _ (halts c mode none ends) never = absurd (never refl)
  is_down _ _ _ (read_fails o t a free counts_before counts_after mode none) never = absurd (never refl)
  is_down _ _ _ (mends call c i mode none) never = absurd (never refl)
  is_down _ _ _ (falls call c mode u count) never = (call, mode)
  is_down _ _ _ (wants call c mode none count) never = (Some call, mode)
  is_down _ _ _ (misses call c again counts_before counts_after older mode none missed count) never = (Some call, mode)
  is_down _ _ _ (silent stand none is) never = silent_down f.mode stand is never

-- Nothing was delivered to it.
down_delivers : (k : Kind) (older : History) (start : Contents) (f : Front) (front : Fronted) (back : Backed) → IsNewest k older start f front back
    → (call : Option Event) → f.mode ≡ down call → f.events ≡ []
down_delivers k older start f front back (serving before tells said_down) call mode = absurd (let other = tells.mode in cc)
down_delivers k older start f front back (falling asked is is_call none said_down) call mode = none

module _ (k : Kind) (opened : Contents) (f : Front) (front : Fronted) (rear : Rear) (line : List Entry) (notices : List Notice)
    (pair : IsPair k opened f front rear line notices) where
  -- What is known of the newest one, which has this index.
  abbrev Rests : ℕ → Type 0
  Rests n = (of_number (suc n) front.delivered ≡ []) × All (λ (b : Body). is_said_down b ≡ true) (said_in (entries_of (suc n) front.sent))

  down_rests : (call : Option Event) → f.mode ≡ down call → Rests pair.below
  down_rests call mode =
      let older : History = incarnations front rear.log pair.below in
      let said : said_in (entries_of (suc pair.below) front.sent) ≡ f.said =
      ap (λ (n : ℕ). said_in (entries_of n front.sent)) (sym pair.number)
      ∙ ap said_in (entries_now f front pair.logged) ∙ said_numbered f.incarnation 1 f.said in (
        ap (λ (n : ℕ). of_number n front.delivered) (sym pair.number) ∙ events_now f front pair.logged
            ∙ down_delivers k older pair.start f front rear.log pair.newest_said call mode,
        subst (λ (bodies : List Body). All (λ (b : Body). is_said_down b ≡ true) bodies) (sym said)
            (says_down k older pair.start f front rear.log pair.newest_said call mode).down,
      )

  -- Of one that its front isn't told of nothing is logged.
  untold_rests : Rests (suc pair.below)
  untold_rests =
      let next : suc f.incarnation ≡ suc (suc pair.below) = ap suc pair.number in (
        ap (λ (n : ℕ). of_number n front.delivered) (sym next) ∙ of_number_none (suc f.incarnation) front.delivered (delivered_until f front pair.logged),
        subst (λ (entries : List Entry). All (λ (b : Body). is_said_down b ≡ true) (said_in entries))
            (sym (ap (λ (n : ℕ). entries_of n front.sent) (sym next) ∙ entries_none (suc f.incarnation) front.sent (sent_until f front pair.logged)))
            (All-nil (λ (b : Body). is_said_down b ≡ true)),
      )

  rests_by : IsPhase opened pair.below pair.start f front rear pair.lined.unread pair.lined.late notices → (rear.stand ≡ mounted → ⊥)
      → Rests (length rear.log.stops)
  rests_by (inl together) never =
      let at = is_down pair.start f front rear.log pair.lined.unread rear.before rear.stand rear.held notices together.1 never in
      subst Rests (sym together.0) (down_rests at.0 at.1)
  rests_by (inr behind) never = subst Rests (sym behind.0) untold_rests

  pub rests_unmounted : IsRear opened rear → RestsUnmounted (history front rear.log)
  rests_unmounted known none = rests_by (phase_now pair) (never_mounted front rear.log rear.stand known.followed none)
