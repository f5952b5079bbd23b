-- Where a front waits for a notice that its back tells only later, and the back for an entry that the front sends only behind it: then the
-- back holds the answer to a sync, and that is the notice.
use Rattle.std.proofs.Common.{◌≡◌, ◌∙◌, ap, sym, refl, subst, inl, inr, true≢false, ◌⊎◌, ℕ, suc, ◌≤◌, List, [], ◌∷◌, ◌++◌, length, arith, Option, Some, None}
use Rattle.std.specs.Prelude.{true}
use Rattle.std.specs.List.{list_any}
use Rattle.storage_map.specs.Contents.{Contents}
use Rattle.timeline.specs.Intake.{Kind, Front, FitsMode, FitsNotice, Mode, serves, down, noticed, takes, on_fresh, on_down, numbered}
use Rattle.timeline.specs.Logs.{Fronted}
use Rattle.timeline.specs.Object.{Object, OpenTask, State, idle, waiting, ended}
use Rattle.timeline.specs.declared.caller.Cause.{Cause}
use Rattle.timeline.specs.declared.caller.Cause.TheVariants as causes
use Rattle.timeline.specs.declared.entry.Body.{Body}
use Rattle.timeline.specs.declared.entry.Body.TheVariants as body
use Rattle.timeline.specs.declared.entry.Entry.{Entry}
use Rattle.timeline.specs.declared.event.Event.{Event}
use Rattle.timeline.specs.declared.notice.Notice.{Notice}
use Rattle.timeline.specs.declared.notice.Notice.TheVariants as notice
use Rattle.front_half.specs.Taking.{waits}
use Rattle.object_history.proofs.Readings.{phase_now}
use Rattle.object_history.specs.Pair.{Held, Stand, mounted, wanted, fallen, sync, halt, Rear, newest, awaited, IsSilentAt, Together, unreached, answered, syncs, halts, read_fails, falls, wants, mends, misses, silent, IsPair, IsPhase}
use Rattle.object_core.proofs.Hearing.{not_none}
use Rattle.object_core.proofs.Serving.{takes_on}
use Rattle.object_core.specs.Heard.{is_news, IsWanted, IsUnderWay, by_notice, by_hold, by_mounting, by_entry, IsHeard}

-- A back takes this entry next: of its newest incarnation, or of the one before.
pub data TakesEntry (r : Rear) (e : Entry) : Type 0 where
  own : r.stand ≡ mounted → e.incarnation ≡ newest r.log → TakesEntry r e
  fell : (c : Cause) → r.stand ≡ fallen c → e.incarnation ≡ newest r.log → TakesEntry r e
  late : suc e.incarnation ≡ newest r.log → TakesEntry r e

-- It holds the answer to a sync, and nothing else; and that is this notice.
pub record HoldsAnswer (r : Rear) (n : Notice) : Type 0 where
  pub number : ℕ
  pub needs : ℕ
  pub held : r.held ≡ record { hold = sync number; needs = needs } ∷ []
  pub less : needs ≤ r.before
  pub answers : n ≡ notice.Synced number

-- The last of nothing is nothing.
none_last : {X : Type 0} (xs ys : List X) → xs ++ ys ≡ [] → ys ≡ []
none_last [] ys is = is
none_last (x ∷ xs) ys is = absurd (not_none x (xs ++ ys) is)

-- An object that is idle, or at its end, is told of an end alone.
idle_news : (said : List Body) (o : Object) (n : Notice) → FitsNotice said (idle o) n → is_news n ≡ true
idle_news said o (notice.Read number r) fit = absurd fit
idle_news said o (notice.Taken number count) fit = absurd fit
idle_news said o (notice.Synced number) fit = absurd fit
idle_news said o (notice.Fresh incarnation alarm cause) fit = refl
idle_news said o (notice.Down cause before after) fit = refl

-- and one at its end
ended_news : (said : List Body) (c : Cause) (n : Notice) → FitsNotice said (ended c) n → is_news n ≡ true
ended_news said c (notice.Read number r) fit = absurd fit
ended_news said c (notice.Taken number count) fit = absurd fit
ended_news said c (notice.Synced number) fit = absurd fit
ended_news said c (notice.Fresh incarnation alarm cause) fit = refl
ended_news said c (notice.Down cause before after) fit = refl

-- That leads a front that serves to the next incarnation.
news_leads : (k : Kind) (f : Front) (state : State) → f.mode ≡ serves state → (n : Notice) → is_news n ≡ true
    → suc f.incarnation ≤ (takes k f (noticed n)).incarnation
news_leads k f state mode (notice.Read number r) is = absurd (true≢false (sym is))
news_leads k f state mode (notice.Taken number count) is = absurd (true≢false (sym is))
news_leads k f state mode (notice.Synced number) is = absurd (true≢false (sym is))
news_leads k f state mode (notice.Fresh incarnation alarm cause) is =
    subst (λ (m : Mode). suc f.incarnation ≤ (on_fresh f m alarm cause).incarnation) (sym mode) (omega arith)
news_leads k f state mode (notice.Down cause before after) is =
    subst (λ (m : Mode). suc f.incarnation ≤ (on_down f m cause before after).incarnation) (sym mode) (omega arith)

-- Where no more is told no mounting is wanted.
not_wanted : (m : Mode) (stand : Stand) → IsSilentAt m stand → IsWanted stand → ⊥
not_wanted m mounted is want = want
not_wanted (serves state) (wanted c) is want = is
not_wanted (down None) (wanted c) is want = is
not_wanted (down (Some call)) (wanted c) is want = is
not_wanted m (fallen c) is want = want

module _ (k : Kind) (opened : Contents) (f : Front) (front : Fronted) (r : Rear) (n : Notice) (e : Entry) (heard : IsHeard f r [] [])
    (fit : FitsMode f.said f.mode n) (next : TakesEntry r e) (from_then : (takes k f (noticed n)).incarnation ≤ e.incarnation)
    (news : IsWanted r.stand → r.held ≡ [] → is_news n ≡ true)
    (halted : (c : Cause) (needs : ℕ) → r.held ≡ record { hold = halt c; needs = needs } ∷ [] → is_news n ≡ true) where
  at_most : TakesEntry r e → e.incarnation ≤ newest r.log
  at_most (own stand is) = omega (arith, is)
  at_most (fell c stand is) = omega (arith, is)
  at_most (late is) = omega (arith, is)

  -- where a mounting is wanted, it takes one of the incarnation before alone
  takes_late : TakesEntry r e → IsWanted r.stand → suc e.incarnation ≡ newest r.log
  takes_late (own stand is) want = absurd (subst IsWanted stand want)
  takes_late (fell c stand is) want = absurd (subst IsWanted stand want)
  takes_late (late is) want = is

  -- No end is told of to a front that serves in the back's newest incarnation.
  no_news : {A : Type 0} (state : State) → f.mode ≡ serves state → newest r.log ≡ f.incarnation → is_news n ≡ true → A
  no_news state mode same is =
      absurd (past (newest r.log) f.incarnation e.incarnation _ same (news_leads k f state mode n is) from_then (at_most next))
    where
      past : (a b c d : ℕ) → a ≡ b → suc b ≤ d → d ≤ c → c ≤ a → ⊥
      past a b c d same leads later most = omega (arith, same, leads, later, most)

  -- An idle object waits for no entry of its own.
  at_idle : {A : Type 0} (state : State) → f.mode ≡ serves state → newest r.log ≡ f.incarnation → awaited (serves state) ≡ [] → A
  at_idle (idle o) mode same none = no_news (idle o) mode same (idle_news f.said o n (subst (λ (m : Mode). FitsMode f.said m n) mode fit))
  at_idle (waiting o t b) mode same none = absurd (not_none b [] none)
  at_idle (ended c) mode same none = absurd (not_none (body.Halt c) [] none)

  -- One that is down waits for its call.
  at_down : {A : Type 0} (call : Option Event) → f.mode ≡ down call → awaited (down call) ≡ [] → A
  at_down None mode none = absurd (subst (λ (m : Mode). FitsMode f.said m n) mode fit)
  at_down (Some call) mode none = absurd (not_none body.Mend [] none)

  -- What a task is told that waits for a sync.
  at_sync : (o : Object) (t : OpenTask) → f.mode ≡ serves (waiting o t body.Sync) → newest r.log ≡ f.incarnation
      → r.held ≡ record { hold = sync (length f.said); needs = r.before } ∷ [] → (m : Notice) → m ≡ n → FitsNotice f.said (waiting o t body.Sync) m
      → HoldsAnswer r n
  at_sync o t mode same held (notice.Read number x) is so = absurd so
  at_sync o t mode same held (notice.Taken number count) is so = absurd so
  at_sync o t mode same held (notice.Synced number) is so = record {
    number = number;
    needs = r.before;
    held = held ∙ ap (λ (x : ℕ). record { hold = sync x; needs = r.before } ∷ []) (sym so);
    less = omega arith;
    answers = sym is;
  }
  at_sync o t mode same held (notice.Fresh incarnation alarm cause) is so = no_news (waiting o t body.Sync) mode same (ap is_news (sym is))
  at_sync o t mode same held (notice.Down cause before after) is so = no_news (waiting o t body.Sync) mode same (ap is_news (sym is))

  -- A front that waits has something under way.
  no_way : {A : Type 0} → r.held ≡ [] → (IsWanted r.stand → ⊥) → IsUnderWay f r [] [] → A
  no_way none not (by_notice some) = absurd (some refl)
  no_way none not (by_hold some) = absurd (some none)
  no_way none not (by_mounting want) = absurd (not want)
  no_way none not (by_entry some) = absurd (some refl)

  -- So no notice was lost.
  at_silent : {A : Type 0} (m : Mode) → f.mode ≡ m → newest r.log ≡ f.incarnation → r.held ≡ [] → (IsWanted r.stand → ⊥) → A
  at_silent (serves (idle o)) mode same none not = at_idle (idle o) mode same refl
  at_silent (serves (waiting o t b)) mode same none not = no_way none not (heard.answer (ap waits mode))
  at_silent (serves (ended c)) mode same none not = no_way none not (heard.answer (ap waits mode))
  at_silent (down None) mode same none not = at_down None mode refl
  at_silent (down (Some call)) mode same none not = no_way none not (heard.answer (ap waits mode))

  -- By how the back stands in the front's own incarnation.
  by_together : (start : Contents) (unread : List Body) (stand : Stand) (held : List Held) (notices : List Notice)
      → Together start f front r.log unread r.before stand held notices → notices ≡ [] → unread ≡ [] → r.stand ≡ stand → r.held ≡ held
      → newest r.log ≡ f.incarnation → HoldsAnswer r n
  by_together start unread _ _ _ (unreached state mode u) none read stand held same =
      at_idle state mode same (none_last u.plain (awaited (serves state)) (subst (λ (m : Mode). u.plain ++ awaited m ≡ []) mode (sym u.is ∙ read)))
  by_together start unread _ _ _ (answered m is_answer empty) none read stand held same = absurd (not_none m [] none)
  by_together start unread _ _ _ (syncs o t mode empty) none read stand held same =
      at_sync o t mode same held n refl (subst (λ (m : Mode). FitsMode f.said m n) mode fit)
  by_together start unread _ _ _ (halts c mode empty some) none read stand held same =
      no_news (ended c) mode same (ended_news f.said c n (subst (λ (m : Mode). FitsMode f.said m n) mode fit))
  by_together start unread _ _ _ (read_fails o t a free counts_before counts_after mode empty) none read stand held same =
      no_news (waiting o t (body.Ask a free)) mode same (halted (causes.Disk counts_before counts_after) r.before held)
  by_together start unread _ _ _ (falls call c mode u missed) none read stand held same =
      at_down call mode (none_last u.plain (awaited (down call)) (subst (λ (m : Mode). u.plain ++ awaited m ≡ []) mode (sym u.is ∙ read)))
  by_together start unread _ _ _ (wants call c mode empty missed) none read stand held same =
      absurd (omega (arith, same, from_then, takes_on k f.incarnation f.events f.said f.mode (noticed n), takes_late next (subst IsWanted (sym stand) tt)))
  by_together start unread _ _ _ (mends call c i mode empty) none read stand held same = absurd (not_none _ [] none)
  by_together start unread _ _ _ (misses call c again counts_before counts_after older mode empty missed count) none read stand held same =
      absurd (not_none _ [] none)
  by_together start unread at _ _ (silent _ empty may) none read stand held same =
      at_silent f.mode refl same held (λ want. not_wanted f.mode at may (subst IsWanted stand want))

  -- Or the back is one ahead.
  by_phase : (pair : IsPair k opened f front r [] []) → pair.lined.unread ≡ [] → IsPhase opened pair.below pair.start f front r pair.lined.unread pair.lined.late []
      → HoldsAnswer r n
  by_phase pair read (inl together) =
      by_together pair.start pair.lined.unread r.stand r.held [] together.1 refl read refl refl (omega (arith, together.0, pair.number))
  by_phase pair read (inr behind) = of (heard.news (λ same. omega (arith, same, behind.0, pair.number)))
    where
      of : (list_any is_news [] ≡ true) ⊎ IsWanted r.stand → HoldsAnswer r n
      of (inl has) = absurd (true≢false (sym has))
      of (inr want) =
          absurd (omega (
            arith,
            behind.0,
            pair.number,
            takes_late next want,
            from_then,
            news_leads k f behind.1.state behind.1.mode n (news want behind.1.none_held),
          ))

  pub holds_answer : IsPair k opened f front r [] [] → HoldsAnswer r n
  holds_answer pair = by_phase pair (unread_none pair) (phase_now pair)
    where
      none_numbered : (i number : ℕ) (bodies : List Body) → numbered i number bodies ≡ [] → bodies ≡ []
      none_numbered i number [] is = refl
      none_numbered i number (b ∷ bodies) is = absurd (not_none _ _ is)

      unread_none : (pair : IsPair k opened f front r [] []) → pair.lined.unread ≡ []
      unread_none pair =
          none_numbered f.incarnation (suc (length pair.lined.read)) pair.lined.unread (none_last pair.lined.late _ (sym pair.lined.is_line))
