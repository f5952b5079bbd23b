-- What reads that failed have left, from one step of a back to the next.
use Rattle.std.proofs.Common.{◌≡◌, ◌∙◌, ap, sym, refl, subst, inl, inr, ℕ, suc, ◌-◌, ◌≤◌, List, [], ◌∷◌, ◌++◌, append-nil, length, arith, Option, Some, None}
use Rattle.std.proofs.lemmas.Grind.{flat_map-append}
use Rattle.std.specs.Prelude.{Bool, true, false, ◌||◌, slice_get}
use Rattle.storage_map.specs.declared.op.Op.{Op}
use Rattle.timeline.specs.History.{is_halting}
use Rattle.timeline.specs.Passed.{discards}
use Rattle.timeline.specs.declared.back_log.Missed.{Missed}
use Rattle.timeline.specs.declared.back_log.Stop.{Stop}
use Rattle.timeline.specs.declared.caller.Cause.{Cause}
use Rattle.timeline.specs.declared.caller.Cause.TheVariants as cause
use Rattle.output_gate.specs.Counted.{counts_from, stop_counts, AreRising, HasRisenIn}
use Rattle.output_gate.specs.Held.{ends_well, has_failed_read, has_halt, is_failed_read, is_held_halt, is_read, unread_by, unread_in, HaltsLast}
use Rattle.output_gate.specs.Serving.{IsBackAs, IsReading}
use Rattle.output_gate.specs.declared.back.Back.{Back}
use Rattle.output_gate.specs.declared.held.Held.{Held}
use Rattle.output_gate.specs.declared.held.HeldBody.{HeldBody}
use Rattle.output_gate.specs.declared.held.HeldBody.TheVariants.{Message, Sync, Halt}
use Rattle.output_gate.proofs.Counts.{rising_later}
use Rattle.output_gate.proofs.Helds.{halts_none, true_false}

-- ---- causes

-- a front's cause is one of those by which a halt may be
pub halting_well : (c : Cause) → is_halting c ≡ true → ends_well c ≡ true
halting_well (cause.Disk before after) is = refl
halting_well (cause.Full needed limit) is = absurd (true_false (sym is))
halting_well cause.Exceeded is = refl
halting_well cause.StartThrew is = refl
halting_well cause.BlockThrew is = refl

-- one by which messages that come late may not pass is a read that failed
pub discards_read : (c : Cause) → ends_well c ≡ true → discards c (is_read c) ≡ true → is_read c ≡ true
discards_read (cause.Disk before after) well is = refl
discards_read (cause.Full needed limit) well is = absurd (true_false (sym well))
discards_read cause.Exceeded well is = absurd (true_false (sym is))
discards_read cause.StartThrew well is = absurd (true_false (sym is))
discards_read cause.BlockThrew well is = absurd (true_false (sym is))

pub read_discards : (c : Cause) → is_read c ≡ true → discards c (is_read c) ≡ true
read_discards (cause.Disk before after) is = refl
read_discards (cause.Full needed limit) is = absurd (true_false (sym is))
read_discards cause.Exceeded is = absurd (true_false (sym is))
read_discards cause.StartThrew is = absurd (true_false (sym is))
read_discards cause.BlockThrew is = absurd (true_false (sym is))

pub halting_unread : (c : Cause) → is_halting c ≡ true → unread_by (Halt c) ≡ []
halting_unread (cause.Disk before after) is = absurd (true_false (sym is))
halting_unread (cause.Full needed limit) is = refl
halting_unread cause.Exceeded is = refl
halting_unread cause.StartThrew is = refl
halting_unread cause.BlockThrew is = refl

-- a read that failed has its counts, and nothing else has
pub counts_read : (c : Cause) → is_read c ≡ true → (counts : ℕ × ℕ) × (unread_by (Halt c) ≡ counts ∷ [])
counts_read (cause.Disk before after) is = ((before, after), refl)
counts_read (cause.Full needed limit) is = absurd (true_false (sym is))
counts_read cause.Exceeded is = absurd (true_false (sym is))
counts_read cause.StartThrew is = absurd (true_false (sym is))
counts_read cause.BlockThrew is = absurd (true_false (sym is))

pub unread_counts : (c : Cause) → unread_by (Halt c) ≡ stop_counts c
unread_counts (cause.Disk before after) = refl
unread_counts (cause.Full needed limit) = refl
unread_counts cause.Exceeded = refl
unread_counts cause.StartThrew = refl
unread_counts cause.BlockThrew = refl

abbrev some_counts : List (ℕ × ℕ) → Type 0
some_counts [] = ⊥
some_counts (x ∷ xs) = Unit {0}

pub read_of : (c : Cause) (counts : ℕ × ℕ) → unread_by (Halt c) ≡ counts ∷ [] → is_read c ≡ true
read_of (cause.Disk before after) counts is = refl
read_of (cause.Full needed limit) counts is = absurd (subst some_counts (sym is) tt)
read_of cause.Exceeded counts is = absurd (subst some_counts (sym is) tt)
read_of cause.StartThrew counts is = absurd (subst some_counts (sym is) tt)
read_of cause.BlockThrew counts is = absurd (subst some_counts (sym is) tt)

-- ---- what is held

pub unread_push : (held : List Held) (h : Held) → unread_in (held ++ h ∷ []) ≡ unread_in held ++ unread_by h.body
unread_push held h = flat_map-append (λ (x : Held). unread_by x.body) held (h ∷ []) ∙ ap (λ cs. unread_in held ++ cs) (append-nil (unread_by h.body))

-- where no end by one is held there are no counts of one
or_none : (a b : Bool) → (a || b) ≡ false → (a ≡ false) × (b ≡ false)
or_none true b is = absurd (true_false is)
or_none false b is = (refl, is)

unread_none_of : (c : Cause) → is_read c ≡ false → unread_by (Halt c) ≡ []
unread_none_of (cause.Disk before after) none = absurd (true_false none)
unread_none_of (cause.Full needed limit) none = refl
unread_none_of cause.Exceeded none = refl
unread_none_of cause.StartThrew none = refl
unread_none_of cause.BlockThrew none = refl

unread_none_by : (b : HeldBody) → is_failed_read b ≡ false → unread_by b ≡ []
unread_none_by (Message sent) none = refl
unread_none_by (Sync number) none = refl
unread_none_by (Halt c) none = unread_none_of c none

pub unread_none : (held : List Held) → has_failed_read held ≡ false → unread_in held ≡ []
unread_none [] none = refl
unread_none (h ∷ held) none =
    let both = or_none (is_failed_read h.body) (has_failed_read held) none in
    ap (λ cs. cs ++ unread_in held) (unread_none_by h.body both.0) ∙ unread_none held both.1

-- and where there are none no such end is held
failed_of : (c : Cause) → unread_by (Halt c) ≡ [] → is_read c ≡ false
failed_of (cause.Disk before after) none = absurd (subst some_counts none tt)
failed_of (cause.Full needed limit) none = refl
failed_of cause.Exceeded none = refl
failed_of cause.StartThrew none = refl
failed_of cause.BlockThrew none = refl

failed_by : (b : HeldBody) → unread_by b ≡ [] → is_failed_read b ≡ false
failed_by (Message sent) none = refl
failed_by (Sync number) none = refl
failed_by (Halt c) none = failed_of c none

none_of_both : (xs ys : List (ℕ × ℕ)) → xs ++ ys ≡ [] → (xs ≡ []) × (ys ≡ [])
none_of_both [] ys none = (refl, none)
none_of_both (x ∷ xs) ys none = absurd (subst some_counts none tt)

pub unread_failed : (held : List Held) → unread_in held ≡ [] → has_failed_read held ≡ false
unread_failed [] none = refl
unread_failed (h ∷ held) none =
    let both = none_of_both (unread_by h.body) (unread_in held) none in
    ap (λ (b : Bool). b || has_failed_read held) (failed_by h.body both.0) ∙ unread_failed held both.1

-- it is a halt
failed_none_by : (b : HeldBody) → is_held_halt b ≡ false → is_failed_read b ≡ false
failed_none_by (Message sent) none = refl
failed_none_by (Sync number) none = refl
failed_none_by (Halt c) none = absurd (true_false none)

pub failed_none : (held : List Held) → has_halt held ≡ false → has_failed_read held ≡ false
failed_none [] none = refl
failed_none (h ∷ held) none =
    let both = or_none (is_held_halt h.body) (has_halt held) none in
    ap (λ (b : Bool). b || has_failed_read held) (failed_none_by h.body both.0) ∙ failed_none held both.1

-- one that stands alone
pub failed_one : (h : Held) (c : Cause) → h.body ≡ Halt c → has_failed_read (h ∷ []) ≡ true → is_read c ≡ true
failed_one h c body has = or_right_none (is_read c) (sym (ap (λ (b : HeldBody). is_failed_read b || false) body) ∙ has)
  where
    or_right_none : (a : Bool) → (a || false) ≡ true → a ≡ true
    or_right_none true is = refl
    or_right_none false is = is

-- An end by a read that failed is the last of what is held.
abbrev pub fails_at : Option Held → Bool
fails_at None = false
fails_at (Some h) = is_failed_read h.body

pub failed_last : (before : ℕ) (held : List Held) → HaltsLast before held → has_failed_read held ≡ fails_at (slice_get held (length held - 1))
failed_last before [] last = refl
failed_last before (h ∷ []) last = or_false_right (is_failed_read h.body)
  where
    or_false_right : (b : Bool) → (b || false) ≡ b
    or_false_right true = refl
    or_false_right false = refl
failed_last before (h ∷ next ∷ held) last =
    first_none (is_held_halt h.body) refl ∙ failed_last before (next ∷ held) last.1
    ∙ ap (λ (n : ℕ). fails_at (slice_get (h ∷ next ∷ held) n)) one_more
  where
    one_more : suc (length (next ∷ held) - 1) ≡ length (h ∷ next ∷ held) - 1
    one_more = omega arith

    is_empty : List Held → Type 0
    is_empty [] = Unit {0}
    is_empty (x ∷ xs) = ⊥

    first_none : (b : Bool) → is_held_halt h.body ≡ b → has_failed_read (h ∷ next ∷ held) ≡ has_failed_read (next ∷ held)
    first_none true is = absurd (subst is_empty (sym (last.0 is).0) tt)
    first_none false is = ap (λ (b : Bool). b || has_failed_read (next ∷ held)) (failed_none_by h.body is)

-- of any back that serves
pub failed_back : {D : Type 0} (moment_of : D → ℕ) (left_since : D → ℕ → List ℕ → Type 0) (told : D → Option (List ℕ)) (image : D → List ℕ → Type 0) (faults_of : D → ℕ) (start : List (List Op))
    (opening : ℕ) (sound : Bool) (back : Back D) → IsBackAs moment_of left_since told image faults_of start opening sound back
    → has_failed_read back.held.items ≡ fails_at (slice_get back.held.items (length back.held.items - 1))
failed_back moment_of left_since told image faults_of start opening sound back (inl m) = failed_last back.before back.held.items m.safe.halts
failed_back moment_of left_since told image faults_of start opening sound back (inr u) =
    failed_last 0 back.held.items (halts_none 0 back.held.items u.safe.halts)

-- the first goes, which is no halt
pub unread_rest : (h : Held) (rest : List Held) → is_held_halt h.body ≡ false → unread_in rest ≡ unread_in (h ∷ rest)
unread_rest h rest none = sym (ap (λ cs. cs ++ unread_in rest) (unread_none_by h.body (failed_none_by h.body none)))

pub failed_behind : (h : Held) (rest : List Held) → is_held_halt h.body ≡ false → has_failed_read rest ≡ has_failed_read (h ∷ rest)
failed_behind h rest none = sym (ap (λ (b : Bool). b || has_failed_read rest) (failed_none_by h.body none))

-- ---- steps

module _ {D : Type 0} (tells later_tells : Type 0) (before_it : later_tells → tells) (now later : ℕ) (up : now ≤ later) (old new : Back D)
    (stops : new.log.stops.items ≡ old.log.stops.items) (downs : new.log.downs.items ≡ old.log.downs.items) where
  -- What is held of it is the same.
  pub reading_stays : unread_in new.held.items ≡ unread_in old.held.items → IsReading tells now old → IsReading later_tells later new
  reading_stays unread r = λ counts is.
      let u = r counts (sym unread ∙ is) in record {
        rising = subst (λ (x : List Stop × List Missed). AreRising 0 (counts_from 1 x.0 x.1 ++ counts ∷ []) later)
            (ap (λ (ss : List Stop). (ss, old.log.downs.items)) (sym stops) ∙ ap (λ (ds : List Missed). (new.log.stops.items, ds)) (sym downs))
            (rising_later 0 (counts_from 1 old.log.stops.items old.log.downs.items ++ counts ∷ []) now later up u.rising);
        rose = λ yes. u.rose (before_it yes);
      }

-- No end by a read that failed is held.
pub reading_none : {D : Type 0} (tells : Type 0) (now : ℕ) (back : Back D) → unread_in back.held.items ≡ [] → IsReading tells now back
reading_none tells now back none = λ counts is. absurd (subst some_counts (sym (sym none ∙ is)) tt)

-- ---- a read that fails

abbrev first_or : List (ℕ × ℕ) → ℕ × ℕ → ℕ × ℕ
first_or [] other = other
first_or (x ∷ xs) other = x

or_true : (a b : Bool) → b ≡ true → (a || b) ≡ true
or_true true b is = refl
or_true false b is = is

pub failed_pushed : (held : List Held) (h : Held) → is_failed_read h.body ≡ true → has_failed_read (held ++ h ∷ []) ≡ true
failed_pushed [] h is = ap (λ (b : Bool). b || false) is
failed_pushed (x ∷ held) h is = or_true (is_failed_read x.body) (has_failed_read (held ++ h ∷ [])) (failed_pushed held h is)

-- The end by it is held, of the newest incarnation.
pub reading_fails : {D : Type 0} (tells : Type 0) (now : ℕ) (old new : Back D) (counts : ℕ × ℕ) (h : Held) → h.body ≡ Halt (cause.Disk counts.0 counts.1)
    → has_failed_read old.held.items ≡ false → new.held.items ≡ old.held.items ++ h ∷ [] → new.log.stops.items ≡ old.log.stops.items → new.log.downs.items ≡ old.log.downs.items
    → AreRising 0 (counts_from 1 old.log.stops.items old.log.downs.items ++ counts ∷ []) now → (tells → HasRisenIn counts) → IsReading tells now new
reading_fails {D} tells now old new counts h body none items stops downs rises rose = λ others is.
    let same : counts ≡ others = ap (λ (cs : List (ℕ × ℕ)). first_or cs counts) (sym unread ∙ is) in record {
      rising = subst (λ (x : (List Stop × List Missed) × (ℕ × ℕ)). AreRising 0 (counts_from 1 x.0.0 x.0.1 ++ x.1 ∷ []) now)
          (ap (λ (ss : List Stop). ((ss, old.log.downs.items), counts)) (sym stops) ∙ ap (λ (ds : List Missed). ((new.log.stops.items, ds), counts)) (sym downs)
          ∙ ap (λ (cs : ℕ × ℕ). ((new.log.stops.items, new.log.downs.items), cs)) same) rises;
      rose = λ yes. subst HasRisenIn same (rose yes);
    }
  where
    unread : unread_in new.held.items ≡ counts ∷ []
    unread = ap unread_in items ∙ unread_push old.held.items h ∙ ap (λ cs. cs ++ unread_by h.body) (unread_none old.held.items none) ∙ ap unread_by body
