-- An answer that comes too early names what wasn't given, and so nothing that was sent.
use Rattle.std.proofs.Common.{◌≡◌, sym, ◌⊎◌, inl, inr, true≢false, ℕ, ◌<◌, ◌≤◌, List, [], arith}
use Rattle.std.proofs.lemmas.Bool.Decides.{nat_tests}
use Rattle.std.proofs.lemmas.List.Elements.{All-nil, All-cons, All-contains}
use Rattle.std.specs.List.{All, Contains}
use Rattle.std.specs.Prelude.{true, nat_lt, ◌&&◌, ◌||◌, ◌==◌}
use Rattle.timeline.specs.Intake.{Front, Mode, down, front_after, opened, sent_by, serves}
use Rattle.timeline.specs.Object.{idle, waiting, ended}
use Rattle.timeline.specs.declared.event.Event.{Event}
use Rattle.timeline.specs.declared.event.Event.TheVariants as event
use Rattle.object_messages.proofs.FrontsNumbering.{asked_among, numbers_given}
use Rattle.object_messages.specs.Laws.{EarlyIsUnasked, IsGiven, IsGivenIn, early_in}
use Rattle.object_messages.specs.Naming.{answered_by}

-- A number that is early is past the ones that were given.
early_past : (now made i number : ℕ) → (nat_lt now i || (i == now && (number == 0 || nat_lt made number))) ≡ true
    → (i < now) ⊎ ((i ≡ now) × ((1 ≤ number) × (number ≤ made))) → ⊥
early_past now made i number early given = grind (arith, nat_tests)

-- So it is none of those that are given.
unasked : (f : Front) (xs : List (ℕ × ℕ)) (e : Event) → All (IsGiven f) xs → early_in f.incarnation f.mode e ≡ true
    → All (λ (asked : ℕ × ℕ). Contains xs asked → ⊥) (answered_by e)
unasked f xs (event.Answer i number result at) given early =
    All-cons (λ (asked : ℕ × ℕ). Contains xs asked → ⊥) (i, number) []
    (λ there. not_given f.mode early (All-contains (IsGiven f) xs (i, number) given there)) (All-nil (λ (asked : ℕ × ℕ). Contains xs asked → ⊥))
  where
    not_given : (mode : Mode) → early_in f.incarnation mode (event.Answer i number result at) ≡ true
        → (i < f.incarnation) ⊎ ((i ≡ f.incarnation) × IsGivenIn mode number) → ⊥
    not_given (serves (idle o)) early given = early_past f.incarnation o.made i number early given
    not_given (serves (waiting o t b)) early given = true≢false (sym early)
    not_given (serves (ended c)) early given = true≢false (sym early)
    not_given (down call) early (inl less) = early_past f.incarnation 0 i number early (inl less)
    not_given (down call) early (inr is) = is.1
unasked f xs (event.Bind identity) given early = All-nil (λ (asked : ℕ × ℕ). Contains xs asked → ⊥)
unasked f xs (event.Call from method args depth at) given early = All-nil (λ (asked : ℕ × ℕ). Contains xs asked → ⊥)
unasked f xs (event.Tick at) given early = All-nil (λ (asked : ℕ × ℕ). Contains xs asked → ⊥)
unasked f xs (event.Evict at) given early = All-nil (λ (asked : ℕ × ℕ). Contains xs asked → ⊥)

-- So nothing that was sent.
pub early_unasked : EarlyIsUnasked
early_unasked k alarm taken e intake early =
    unasked (front_after k (opened alarm) taken) (asked_among (sent_by k (opened alarm) taken)) e (numbers_given k alarm taken intake) early
