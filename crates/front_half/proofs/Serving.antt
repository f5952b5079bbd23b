-- The first task that serves a caller is the one that counts.
use Rattle.std.proofs.Common.{◌≡◌, ◌∙◌, refl, sym, ap, ℕ, List, ◌∷◌, cond, true, false, true≢false, arith}
use Rattle.std.specs.Prelude.{Bool, ◌&&◌, ◌||◌, ◌==◌, if◌then◌else◌, Option, Some, None, is_some}
use Rattle.std.specs.BTreeMap.{get, is_at}
use Rattle.std.specs.BTreeSet.{BTreeSet}
use Rattle.std.specs.Option.{option_or}
use Rattle.std.specs.Ordering.{nat_cmp}
use Rattle.std.proofs.lemmas.Bool.Decides.{nat_tests}
use Rattle.timeline.specs.Replies.{same_caller}
use Rattle.timeline.specs.declared.caller.Caller.{Caller}
use Rattle.timeline.specs.declared.caller.Caller.TheVariants.{Request, Object}
use Rattle.timeline.specs.Left.{is_for}
use Rattle.timeline.specs.declared.notice.Waits.{Waits}
use Rattle.front_turns.specs.Held.{purpose_of}
use Rattle.front_turns.specs.declared.object.Held.{Held}
use Rattle.front_half.specs.Leaving.{first_wait, held_wait, wait_in}
use Rattle.front_half.specs.ByCallers.{by_parts, kept_for}
use Rattle.front_half.specs.declared.by_caller.ByCaller.{ByCaller}

both_true : (a b : Bool) → (a && b) ≡ true → (a ≡ true) × (b ≡ true)
both_true true b h = (refl, h)
both_true false b h = absurd (true≢false (sym h))

one_number : (a b : ℕ) → (a == b) ≡ true → a ≡ b
one_number a b h = grind (arith, nat_tests, h)

-- For the same caller the same is kept.
pub kept_alike : {X : Type 0} (kept : ByCaller X) (from to : Caller) → same_caller from to ≡ true → kept_for from kept ≡ kept_for to kept
kept_alike kept (Request line n) (Request other m) same = ap (get nat_cmp kept.requests) (one_number line other same)
kept_alike kept (Request line n) (Object s i m) same = absurd (true≢false (sym same))
kept_alike kept (Object s i m) (Request line n) same = absurd (true≢false (sym same))
kept_alike kept (Object slot incarnation number) (Object s i m) same =
    let last = both_true (slot == s && incarnation == i) (number == m) same in
    let first = both_true (slot == s) (incarnation == i) last.0 in
    λ j. get by_parts kept.calls (one_number slot s first.0 j, one_number incarnation i first.1 j, one_number number m last.1 j)

pub or_nothing : {X : Type 0} (v : Option X) → v ≡ option_or v None
or_nothing None = refl
or_nothing (Some x) = refl

or_kept : {X : Type 0} (v w : Option X) → is_some v ≡ true → v ≡ option_or v w
or_kept None w some = absurd (true≢false (sym some))
or_kept (Some x) w some = refl

-- A caller whom an earlier task serves keeps what that one waits for.
pub serves_again : {X : Type 0} (kept : ByCaller X) (from to : Caller) (x : X) → is_some (kept_for to kept) ≡ true
    → kept_for from kept ≡ option_or (kept_for from kept) (if same_caller from to then Some x else None)
serves_again {X} kept from to x some = at (same_caller from to) refl
  where
    at : (b : Bool) → same_caller from to ≡ b → kept_for from kept ≡ option_or (kept_for from kept) (if b then Some x else None)
    at true same = or_kept (kept_for from kept) (Some x) (ap is_some (kept_alike kept from to same) ∙ some)
    at false other = or_nothing (kept_for from kept)

-- A caller whom none serves yet gets what this one waits for.
pub serves_first : {X : Type 0} (kept : ByCaller X) (from to : Caller) (x : X) (new : Option X) → kept_for to kept ≡ None
    → new ≡ (if same_caller from to then Some x else kept_for from kept)
    → new ≡ option_or (kept_for from kept) (if same_caller from to then Some x else None)
serves_first {X} kept from to x new none put = put ∙ at (same_caller from to) refl
  where
    at : (b : Bool) → same_caller from to ≡ b → (if b then Some x else kept_for from kept) ≡ option_or (kept_for from kept) (if b then Some x else None)
    at true same = ap (λ (v : Option X). option_or v (Some x)) (sym (kept_alike kept from to same ∙ none))
    at false other = or_nothing (kept_for from kept)

or_other : {X : Type 0} (u v w : Option X) → option_or (option_or u v) w ≡ option_or u (option_or v w)
or_other None v w = refl
or_other (Some x) v w = refl

first_or : {X : Type 0} (b : Bool) (x : X) (v : Option X) → option_or (if b then Some x else None) v ≡ (if b then Some x else v)
first_or true x v = refl
first_or false x v = refl

-- One task is noted, and then those that are left.
pub serves_next : {T : Type 0} (answers : BTreeSet ℕ) (incarnation : ℕ) (from : Caller) (hs rest : List (ℕ × Held T)) (h : ℕ × Held T) (old new : Option Waits)
    → hs ≡ h ∷ rest → new ≡ option_or old (wait_in answers incarnation from h)
    → option_or new (first_wait answers incarnation rest from) ≡ option_or old (first_wait answers incarnation hs from)
serves_next {T} answers incarnation from hs rest h old new is noted =
    ap (λ (w : Option Waits). option_or w (first_wait answers incarnation rest from)) noted
    ∙ or_other old (wait_in answers incarnation from h) (first_wait answers incarnation rest from)
    ∙ ap (λ (w : Option Waits). option_or old w) (first_or (is_for from (purpose_of h.1.running.purpose)) (held_wait answers incarnation h.0 h.1.awaited) (first_wait answers incarnation rest from))
    ∙ ap (λ (all : List (ℕ × Held T)). option_or old (first_wait answers incarnation all from)) (sym is)

-- One number more is in a set.
is_tied : (n k : ℕ) → is_at (nat_cmp n) k ≡ (n == k)
is_tied n k = grind (arith, nat_tests)

or_last : (b c : Bool) → cond b true c ≡ (c || b)
or_last true true = refl
or_last true false = refl
or_last false true = refl
or_last false false = refl

pub one_number_more : (old new : Bool) (n k : ℕ) → new ≡ cond (is_at (nat_cmp n) k) true old → new ≡ (old || n == k)
one_number_more old new n k is = is ∙ or_last (is_at (nat_cmp n) k) old ∙ ap (λ (b : Bool). old || b) (is_tied n k)
