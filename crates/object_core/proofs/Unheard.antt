-- The last notice of a pair may be lost: a front that isn't told stays paired with its back.
use Rattle.std.proofs.Common.{◌≡◌, ◌∙◌, ap, sym, refl, subst, inl, inr, ⊎_elim, ◌⊎◌, ℕ, suc, ◌≤◌, List, [], ◌∷◌, ◌++◌, append-nil, append_assoc, length, arith, Some}
use Rattle.storage_map.specs.Contents.{Contents}
use Rattle.timeline.specs.Intake.{Kind, Front, Mode, serves, down}
use Rattle.timeline.specs.Logs.{Fronted, Backed, fronted}
use Rattle.timeline.specs.declared.caller.Cause.{Cause}
use Rattle.timeline.specs.declared.entry.Body.{Body}
use Rattle.timeline.specs.declared.entry.Entry.{Entry}
use Rattle.timeline.specs.declared.notice.Notice.{Notice}
use Rattle.front_half.specs.Standing.{Stood}
use Rattle.object_front.specs.declared.evaluated.Evaluated.{Evaluated}
use Rattle.front_half.specs.declared.half.Half.{Half}
use Rattle.std.proofs.lemmas.List.Elements.{All-nil}
use Rattle.object_history.proofs.Entries.{all_front}
use Rattle.object_history.proofs.Readings.{phase_now}
use Rattle.object_history.specs.Pair.{Held, Stand, mounted, wanted, fallen, Rear, IsSilentAt, IsNews, IsLeftOver, Behind, Together, unreached, answered, syncs, halts, read_fails, falls, wants, mends, misses, silent, IsPair, IsReading}
use Rattle.front_history.specs.Paired.{ArePaired, logged_with}
use Rattle.object_core.proofs.Hearing.{some_last}

-- Of one that is the last of some, none stands before it.
none_first : {X : Type 0} (xs : List X) (x y : X) → y ∷ [] ≡ xs ++ x ∷ [] → xs ≡ []
none_first [] x y is = refl
none_first (z ∷ xs) x y is = let none : [] ≡ xs ++ x ∷ [] = cc in absurd (some_last xs x [] (sym none))

-- The last of two lists that are one.
last_of : {X : Type 0} (xs ys : List X) (x y : X) → xs ++ x ∷ [] ≡ ys ++ y ∷ [] → xs ≡ ys
last_of [] [] x y is = refl
last_of [] (z ∷ ys) x y is = sym (none_first (z ∷ ys) y x is)
last_of (z ∷ xs) [] x y is = none_first (z ∷ xs) x y (sym is)
last_of (z ∷ xs) (w ∷ ys) x y is =
    let rest : xs ++ x ∷ [] ≡ ys ++ y ∷ [] = cc in
    let first : z ≡ w = cc in
    ap (λ (l : List _). z ∷ l) (last_of xs ys x y rest) ∙ ap (λ v. v ∷ ys) first

module _ (start : Contents) (f : Front) (front : Fronted) (back : Backed) (unread : List Body) (before : ℕ) (n : Notice) where
  -- What was told is told no more.
  silent_as : (stand : Stand) (m : Mode) (notices : List Notice) → unread ≡ [] → f.mode ≡ m → IsSilentAt m stand → notices ≡ []
      → Together start f front back unread before stand [] notices
  silent_as stand m notices empty mode may none =
      subst (λ (ns : List Notice). Together start f front back unread before stand [] ns) (sym none)
      (silent stand empty (subst (λ (x : Mode). IsSilentAt x stand) (sym mode) may))

  -- So it is in the front's own incarnation.
  together_less : (stand : Stand) (held : List Held) (all notices : List Notice) → Together start f front back unread before stand held all → all ≡ notices ++ n ∷ []
      → Together start f front back unread before stand held notices
  together_less _ _ _ notices (unreached state mode u) is = absurd (some_last notices n [] (sym is))
  together_less _ _ _ notices (answered m answer empty) is = silent_as mounted (serves answer.state) notices empty answer.mode tt (none_first notices n m is)
  together_less _ _ _ notices (syncs o t mode empty) is = absurd (some_last notices n [] (sym is))
  together_less _ _ _ notices (halts c mode empty some) is = absurd (some_last notices n [] (sym is))
  together_less _ _ _ notices (read_fails o t a free counts_before counts_after mode empty) is = absurd (some_last notices n [] (sym is))
  together_less _ _ _ notices (falls call c mode u missed) is = absurd (some_last notices n [] (sym is))
  together_less _ _ _ notices (wants call c mode empty missed) is = absurd (some_last notices n [] (sym is))
  together_less _ _ _ notices (mends call c i mode empty) is = silent_as mounted (down (Some call)) notices empty mode tt (none_first notices n _ is)
  together_less _ _ _ notices (misses call c again counts_before counts_after older mode empty missed count) is =
      silent_as (fallen c) (down (Some call)) notices empty mode tt (none_first notices n _ is)
  together_less _ _ _ notices (silent stand empty may) is = absurd (some_last notices n [] (sym is))

-- The news of an end is none, or one; and may be none.
news_less : (next : Contents) (number : ℕ) (cause : Cause) (stand : Stand) (told : List Notice) → IsNews next number cause stand told
    → (told ≡ []) ⊎ ((m : Notice) × (told ≡ m ∷ []) × IsNews next number cause stand [])
news_less next number cause mounted told (inl none) = inl none
news_less next number cause mounted told (inr one) = inr (_, one, inl refl)
news_less next number cause (wanted c) told is = inl is.1
news_less next number cause (fallen c) told is =
    ⊎_elim (λ none. inl none) (λ one. inr (_, one.2, (is.0, inl refl))) is.1

module _ (start next : Contents) (below : ℕ) (f : Front) (unread : List Body) (late : List Entry) (rear : Rear) (n : Notice) (notices : List Notice)
    (behind : Behind start next below f unread late rear (notices ++ n ∷ [])) where
  abbrev Less : Type 0
  Less = Behind start next below f unread late rear notices

  less_with : (left told : List Notice) → notices ≡ left ++ told → IsLeftOver start f unread left → IsNews next (suc f.incarnation) behind.stop.cause rear.stand told → Less
  less_with left told is over news = record {
    state = behind.state;
    mode = behind.mode;
    is_unread = behind.is_unread;
    none_late = behind.none_late;
    none_held = behind.none_held;
    stop = behind.stop;
    stopped = behind.stopped;
    halted = behind.halted;
    left = left;
    told = told;
    under_way = is;
    left_over = over;
    is_news = news;
    fails = behind.fails;
  }

  -- And where the back is one ahead.
  behind_less : Less
  behind_less = of (news_less next (suc f.incarnation) behind.stop.cause rear.stand behind.told behind.is_news)
    where
      alone : behind.told ≡ [] → notices ++ n ∷ [] ≡ behind.left
      alone none = behind.under_way ∙ ap (λ (ns : List Notice). behind.left ++ ns) none ∙ append-nil behind.left

      by_left : behind.told ≡ [] → IsLeftOver start f unread behind.left → Less
      by_left none (inl nothing) = absurd (some_last notices n [] (alone none ∙ nothing))
      by_left none (inr one) =
          less_with [] [] (none_first notices n one.0 (sym one.1 ∙ sym (alone none))) (inl refl)
          (subst (λ (ns : List Notice). IsNews next (suc f.incarnation) behind.stop.cause rear.stand ns) none behind.is_news)

      of : (behind.told ≡ []) ⊎ ((m : Notice) × (behind.told ≡ m ∷ []) × IsNews next (suc f.incarnation) behind.stop.cause rear.stand []) → Less
      of (inl none) = by_left none behind.left_over
      of (inr one) =
          less_with behind.left [] (last_of notices behind.left n one.0 (behind.under_way ∙ ap (λ (ns : List Notice). behind.left ++ ns) one.1) ∙ sym (append-nil behind.left))
          behind.left_over one.2

-- So it is of both.
pub pair_unheard : (k : Kind) (opened : Contents) (f : Front) (front : Fronted) (rear : Rear) (line : List Entry) (notices : List Notice) (n : Notice)
    → IsPair k opened f front rear line (notices ++ n ∷ []) → IsPair k opened f front rear line notices
pair_unheard k opened f front rear line notices n pair = record {
  below = pair.below;
  number = pair.number;
  logged = pair.logged;
  lined = pair.lined;
  ends = pair.ends;
  older_said = pair.older_said;
  older_halted = pair.older_halted;
  start = pair.start;
  starts = pair.starts;
  newest_said = pair.newest_said;
  gated = pair.gated;
  readings = [];
  rest = notices;
  under_way = refl;
  are_readings = All-nil (IsReading pair.start f);
  phase =
      ⊎_elim
      (λ together. inl (together.0, together_less pair.start f front rear.log pair.lined.unread rear.before n rear.stand rear.held (notices ++ n ∷ []) notices together.1 refl))
      (λ behind. inr (behind.0, behind_less pair.start _ pair.below f pair.lined.unread pair.lined.late rear n notices behind.1)) (phase_now pair);
}

-- So is a front, whether it goes on or was stopped.
pub paired_unheard : (k : Kind) (opened : Contents) (st : Stood) (half : Half Evaluated) (rear : Rear) (line : List Entry) (notices unheard : List Notice)
    → length unheard ≤ 1 → ArePaired k opened st half rear line (notices ++ unheard) → ArePaired k opened st half rear line notices
paired_unheard k opened st half rear line notices [] few paired =
    subst (λ (ns : List Notice). ArePaired k opened st half rear line ns) (append-nil notices) paired
paired_unheard k opened st half rear line notices (n ∷ m ∷ unheard) few paired = absurd (omega (arith, few))
paired_unheard k opened st half rear line notices (n ∷ []) few paired = record {
  front = paired.front;
  unsent = paired.unsent;
  number = paired.number;
  bodies = paired.bodies;
  own = paired.own;
  missed = paired.missed;
  stands = paired.stands;
  sent_all = paired.sent_all;
  missed_none = paired.missed_none;
  taken = paired.taken;
  by = paired.by;
  pair =
      pair_unheard k opened paired.front (logged_with (fronted half.log) paired.unsent) rear (line ++ paired.unsent) (paired.missed ++ notices) n
      (subst (λ (ns : List Notice). IsPair k opened paired.front (logged_with (fronted half.log) paired.unsent) rear (line ++ paired.unsent) ns)
      (sym (append_assoc paired.missed notices (n ∷ []))) paired.pair);
}
