-- What is held, at an end at an append.
use Rattle.std.proofs.Common.{◌≡◌, ◌∙◌, ap, sym, refl, subst, ℕ, suc, ◌+◌, ◌<◌, List, [], ◌∷◌, ◌++◌, append-nil, append_assoc, length, get_or, take, drop, arith}
use Rattle.std.proofs.Math.Seq.{drop-cons, take-length, drop-length}
use Rattle.std.proofs.lemmas.List.{take_more}
use Rattle.std.proofs.lemmas.Bool.{lt-ltb}
use Rattle.std.proofs.lemmas.Grind.{flat_map-append}
use Rattle.std.specs.Prelude.{Bool, true, false, ◌||◌, if◌then◌else◌, nat_lt}
use Rattle.std.specs.List.{flat_map}
use Rattle.timeline.specs.Passed.{replaced}
use Rattle.timeline.specs.declared.caller.Cause.{Cause}
use Rattle.timeline.specs.declared.message.Message.TheVariants as message
use Rattle.timeline.specs.declared.message.Message.{Message as Sent}
use Rattle.output_gate.specs.Held.{passed_by, passed_of, waiting_in, reset_of, stays, is_held_halt, has_halt, halts_well, HaltsLast}
use Rattle.output_gate.specs.Passing.{discarded}
use Rattle.output_gate.specs.declared.held.Held.{Held}
use Rattle.output_gate.specs.declared.held.HeldBody.{HeldBody}
use Rattle.output_gate.specs.declared.held.HeldBody.TheVariants.{Message, Sync, Halt}

abbrev is_yes : Bool → Type 0
is_yes true = Unit {0}
is_yes false = ⊥

pub true_false : true ≡ false → ⊥
true_false same = subst is_yes same tt

abbrev held_as : HeldBody → ℕ → ℕ → Held
held_as b needs since = record { body = b; needs = needs; since = since }

pub or_right : (a b : Bool) → (a || b) ≡ false → b ≡ false
or_right true b is = absurd (true_false is)
or_right false b is = is

or_left : (a b : Bool) → (a || b) ≡ false → a ≡ false
or_left true b is = is
or_left false b is = refl

or_false : (a b other : Bool) → (a || b) ≡ false → (a || other) ≡ other
or_false true b other is = absurd (true_false is)
or_false false b other is = refl

module _ (durable number : ℕ) (c : Cause) where
  -- a message stays in the form in which it passes
  message_stays : (sent : Sent) (needs since : ℕ) (b : Bool)
      → waiting_in (if b then reset_of durable number c (Message sent) else held_as (Message sent) needs since ∷ [])
      ≡ (if b then replaced durable number c sent else record { message = sent; needs = needs; since = since } ∷ []) ++ []
  message_stays (message.Reply to result) needs since true = refl
  message_stays (message.Call i n to method args depth) needs since true = refl
  message_stays (message.Fetch i n value) needs since true = refl
  message_stays sent needs since false = refl

  other_stays : (b : HeldBody) (needs since : ℕ) → ((n s : ℕ) → passed_by b n s ≡ []) → reset_of durable number c b ≡ [] → (less : Bool)
      → waiting_in (if less then reset_of durable number c b else held_as b needs since ∷ []) ≡ []
  other_stays b needs since silent none true = ap waiting_in none
  other_stays b needs since silent none false = append-nil (passed_by b needs since) ∙ silent needs since

  one_stays : (b : HeldBody) (needs since : ℕ) → waiting_in (stays durable number c (held_as b needs since)) ≡ flat_map (discarded durable number c) (passed_by b needs since)
  one_stays (Message sent) needs since = message_stays sent needs since (nat_lt durable needs)
  one_stays (Sync k) needs since = other_stays (Sync k) needs since (λ n s. refl) refl (nat_lt durable needs)
  one_stays (Halt k) needs since = other_stays (Halt k) needs since (λ n s. refl) refl (nat_lt durable needs)

  pub waiting_stays : (hs : List Held) → waiting_in (flat_map (stays durable number c) hs) ≡ flat_map (discarded durable number c) (waiting_in hs)
  waiting_stays [] = refl
  waiting_stays (h ∷ hs) =
      flat_map-append passed_of (stays durable number c h) (flat_map (stays durable number c) hs)
      ∙ ap (λ ps. ps ++ waiting_in (flat_map (stays durable number c) hs)) (one_stays h.body h.needs h.since)
      ∙ ap (λ ps. flat_map (discarded durable number c) (passed_of h) ++ ps) (waiting_stays hs)
      ∙ sym (flat_map-append (discarded durable number c) (passed_of h) (waiting_in hs))

  -- no halt stays
  has_halt-append : (xs ys : List Held) → has_halt xs ≡ false → has_halt (xs ++ ys) ≡ has_halt ys
  has_halt-append [] ys none = refl
  has_halt-append (x ∷ xs) ys none = or_false (is_held_halt x.body) (has_halt xs) (has_halt (xs ++ ys)) none ∙ has_halt-append xs ys (or_right (is_held_halt x.body) (has_halt xs) none)

  message_none : (sent : Sent) (needs since : ℕ) (b : Bool) → has_halt (if b then reset_of durable number c (Message sent) else held_as (Message sent) needs since ∷ []) ≡ false
  message_none (message.Reply to result) needs since true = refl
  message_none (message.Call i n to method args depth) needs since true = refl
  message_none (message.Fetch i n value) needs since true = refl
  message_none sent needs since false = refl

  sync_none : (k needs since : ℕ) (b : Bool) → has_halt (if b then reset_of durable number c (Sync k) else held_as (Sync k) needs since ∷ []) ≡ false
  sync_none k needs since true = refl
  sync_none k needs since false = refl

  one_none : (before : ℕ) (b : HeldBody) (needs since : ℕ) → (is_held_halt b ≡ true → needs ≡ before) → durable < before → has_halt (stays durable number c (held_as b needs since)) ≡ false
  one_none before (Message sent) needs since all less = message_none sent needs since (nat_lt durable needs)
  one_none before (Sync k) needs since all less = sync_none k needs since (nat_lt durable needs)
  one_none before (Halt k) needs since all less =
      ap (λ (b : Bool). has_halt (if b then reset_of durable number c (Halt k) else held_as (Halt k) needs since ∷ [])) (lt-ltb durable needs (omega (arith, all refl, less)))

  pub none_stays : (before : ℕ) (hs : List Held) → HaltsLast before hs → durable < before → has_halt (flat_map (stays durable number c) hs) ≡ false
  none_stays before [] last less = refl
  none_stays before (h ∷ hs) last less =
      has_halt-append (stays durable number c h) (flat_map (stays durable number c) hs) (one_none before h.body h.needs h.since (λ is. (last.0 is).1) less)
      ∙ none_stays before hs last.1 less

-- one more at the end, where no halt stands there
pub halts_push : (before : ℕ) (hs : List Held) (h : Held) → has_halt hs ≡ false → (is_held_halt h.body ≡ true → (h.needs ≡ before) × (halts_well h.body ≡ true)) → HaltsLast before (hs ++ h ∷ [])
halts_push before [] h none is = ((λ yes. (refl, (is yes).0, (is yes).1)), tt)
halts_push before (x ∷ hs) h none is =
    ((λ yes. absurd (true_false (sym yes ∙ or_left (is_held_halt x.body) (has_halt hs) none))), halts_push before hs h (or_right (is_held_halt x.body) (has_halt hs) none) is)

-- a list without a halt, whatever halts need
pub halts_none : (before : ℕ) (hs : List Held) → has_halt hs ≡ false → HaltsLast before hs
halts_none before [] none = tt
halts_none before (x ∷ hs) none =
    ((λ yes. absurd (true_false (sym yes ∙ or_left (is_held_halt x.body) (has_halt hs) none))), halts_none before hs (or_right (is_held_halt x.body) (has_halt hs) none))

pub push_none : (hs : List Held) (h : Held) → has_halt hs ≡ false → is_held_halt h.body ≡ false → has_halt (hs ++ h ∷ []) ≡ false
push_none [] h none is = ap (λ (b : Bool). b || false) is
push_none (x ∷ hs) h none is = or_false (is_held_halt x.body) (has_halt hs) (has_halt (hs ++ h ∷ [])) none ∙ push_none hs h (or_right (is_held_halt x.body) (has_halt hs) none) is

-- The first so many have been gone through, and what stays of them stands behind the others.
pub gone_first : (f : Held → List Held) (xs hs later : List Held) (k : ℕ) → k < length xs → hs ≡ drop k xs ++ flat_map f (take k xs)
    → ((first : Held) (rest : List Held) → hs ≡ first ∷ rest → later ≡ rest ++ f first) → later ≡ drop (k + 1) xs ++ flat_map f (take (k + 1) xs)
gone_first f [] hs later k less is step = absurd (omega (arith, less))
gone_first f (y ∷ ys) hs later k less is step =
    let xs : List Held = y ∷ ys in
    let x : Held = get_or xs k y in
    let rest : List Held = drop (k + 1) xs in
    let next : suc k ≡ k + 1 = omega arith in
    let cut : drop k xs ≡ x ∷ rest = drop-cons xs k y less ∙ ap (λ (n : ℕ). x ∷ drop n xs) next in
    step x (rest ++ flat_map f (take k xs)) (is ∙ ap (λ zs. zs ++ flat_map f (take k xs)) cut)
    ∙ append_assoc rest (flat_map f (take k xs)) (f x)
    ∙ ap (λ zs. rest ++ (flat_map f (take k xs) ++ zs)) (sym (append-nil (f x)))
    ∙ ap (λ zs. rest ++ zs) (sym (flat_map-append f (take k xs) (x ∷ [])))
    ∙ ap (λ zs. rest ++ flat_map f zs) (sym (take_more xs k y less))

-- All have been.
pub gone_all : (f : Held → List Held) (xs hs : List Held) (k : ℕ) → k ≡ length xs → hs ≡ drop k xs ++ flat_map f (take k xs) → hs ≡ flat_map f xs
gone_all f xs hs k all is =
    is ∙ ap (λ (n : ℕ). drop n xs ++ flat_map f (take n xs)) all ∙ ap (λ zs. zs ++ flat_map f (take (length xs) xs)) (drop-length xs) ∙ ap (flat_map f) (take-length xs)
