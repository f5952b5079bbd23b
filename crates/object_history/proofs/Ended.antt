-- What a front that serves is told of the end of its incarnation: that the next one is mounted, or that it isn't.
use Rattle.std.proofs.Common.{◌≡◌, ◌∙◌, ap, sym, subst, refl, inl, inr, ℕ, suc, List, [], ◌∷◌, ◌++◌, length}
use Rattle.std.specs.Prelude.{slice_get, Some, ◌⊎◌}
use Rattle.storage_map.specs.Contents.{Contents}
use Rattle.timeline.specs.Headline.{missed_of}
use Rattle.timeline.specs.History.{incarnations, start_after}
use Rattle.timeline.specs.Intake.{Front, serves}
use Rattle.timeline.specs.Logs.{Fronted, Backed}
use Rattle.timeline.specs.Object.{State}
use Rattle.timeline.specs.declared.back_log.Stop.{Stop}
use Rattle.timeline.specs.declared.caller.Cause.{Cause}
use Rattle.timeline.specs.declared.entry.Body.{Body}
use Rattle.timeline.specs.declared.entry.Entry.{Entry}
use Rattle.timeline.specs.declared.notice.Notice.{Notice}
use Rattle.timeline.specs.declared.notice.Notice.TheVariants as notice
use Rattle.object_history.proofs.Downs.{is_down}
use Rattle.object_history.proofs.Ready.{not_nil, same_head, same_rest, end_answers_none}
use Rattle.object_history.specs.Pair.{Held, Stand, mounted, wanted, fallen, Rear, IsUnread, Together, unreached, answered, syncs, halts, read_fails, falls, wants, mends, misses, silent, IsEnd, IsNews, IsLeftOver, HasHalted, fallen_once, IsPhase}

-- Where both halves are in one incarnation, no news of an end is under way to a front that serves.
module _ (start : Contents) (f : Front) (old : Fronted) (back : Backed) (unread : List Body) (before : ℕ) (state : State) (is_so : f.mode ≡ serves state)
    (n : Notice) (left : List Notice) (is_end : IsEnd n) where
  no_end : (stand : Stand) (held : List Held) (notices : List Notice) → Together start f old back unread before stand held notices → notices ≡ n ∷ left → ⊥
  no_end stand held notices (unreached other mode is) same = not_nil n left same
  no_end stand held notices (answered m is none) same =
      end_answers_none m _ (subst IsEnd (sym (same_head m n [] left same)) is_end) is.answer
  no_end stand held notices (syncs o t mode none) same = not_nil n left same
  no_end stand held notices (halts c mode none some) same = not_nil n left same
  no_end stand held notices (read_fails o t a free counts_before counts_after mode none) same = not_nil n left same
  no_end stand held notices (falls call c mode is length_is) same = not_nil n left same
  no_end stand held notices (wants call c mode none length_is) same = not_nil n left same
  no_end stand held notices (mends call c i mode none) same = is_down f.mode state (Some call) is_so mode
  no_end stand held notices (misses call c again counts_before counts_after older mode none missed length_is) same = is_down f.mode state (Some call) is_so mode
  no_end stand held notices (silent other none may) same = not_nil n left same

-- Nor is anything left over before it.
told_alone : (start : Contents) (f : Front) (unread : List Body) (over told : List Notice) (n : Notice) (left : List Notice) → IsEnd n
    → IsLeftOver start f unread over → over ++ told ≡ n ∷ left → told ≡ n ∷ left
told_alone start f unread over told n left is_end (inl none) same = sym (ap (λ (x : List Notice). x ++ told) none) ∙ same
told_alone start f unread over told n left is_end (inr some) same =
    let is : some.0 ∷ told ≡ n ∷ left = sym (ap (λ (x : List Notice). x ++ told) some.1) ∙ same in
    absurd (end_answers_none some.0 _ (subst IsEnd (sym (same_head some.0 n told left is)) is_end) some.2.answer)

-- The news says how the next incarnation stands.
abbrev pub IsNextBy : Contents → Cause → Stand → Notice → Type 0
IsNextBy next cause stand (notice.Fresh number alarm c) = (stand ≡ mounted) × (alarm ≡ next.alarm) × (c ≡ cause)
IsNextBy next cause stand (notice.Down c before after) = (stand ≡ fallen c) × (c ≡ cause)
IsNextBy next cause stand n = ⊥

-- A mounting says that it is mounted, with the alarm of its map.
fresh_next : (next : Contents) (number : ℕ) (cause : Cause) (n : Notice) → notice.Fresh number next.alarm cause ≡ n → IsNextBy next cause mounted n
fresh_next next number cause n same = subst (λ (x : Notice). IsNextBy next cause mounted x) same (refl, refl, refl)

-- A failure says that it has fallen.
down_next : (next : Contents) (c cause : Cause) (before after : ℕ) (n : Notice) → c ≡ cause → notice.Down cause before after ≡ n
    → IsNextBy next cause (fallen c) n
down_next next c cause before after n is same =
    subst (λ (x : Notice). IsNextBy next cause (fallen c) x) same (ap (λ (x : Cause). fallen x) is, refl)

-- So the news says it, and nothing is under way behind it.
news_next : (next : Contents) (number : ℕ) (cause : Cause) (stand : Stand) (told : List Notice) (n : Notice) (left : List Notice)
    → IsNews next number cause stand told → told ≡ n ∷ left → IsNextBy next cause stand n × (left ≡ [])
news_next next number cause mounted told n left (inl none) is = absurd (not_nil n left (sym none ∙ is))
news_next next number cause mounted told n left (inr fresh) is =
    let same : notice.Fresh number next.alarm cause ∷ [] ≡ n ∷ left = sym fresh ∙ is in
    (fresh_next next number cause n (same_head _ n [] left same), sym (same_rest _ n [] left same))
news_next next number cause (wanted c) told n left news is = absurd (not_nil n left (sym news.1 ∙ is))
news_next next number cause (fallen c) told n left (causes, inl none) is = absurd (not_nil n left (sym none ∙ is))
news_next next number cause (fallen c) told n left (causes, inr lost) is =
    let same : notice.Down cause lost.0 lost.1 ∷ [] ≡ n ∷ left = sym lost.2 ∙ is in
    (down_next next c cause lost.0 lost.1 n causes (same_head _ n [] left same), sym (same_rest _ n [] left same))

-- What is known then.
pub record IsFollowedBy (opened : Contents) (below : ℕ) (f : Front) (old : Fronted) (rear : Rear) (unread : List Body) (late : List Entry) (n : Notice)
    (left : List Notice) : Type 0 where
  pub one_ahead : length rear.log.stops ≡ suc below
  pub none_late : late ≡ []
  pub is_unread : IsUnread f.mode unread ⊎ (unread ≡ [])
  pub none_held : rear.held ≡ []
  pub stop : Stop
  pub stopped : slice_get rear.log.stops below ≡ Some stop
  pub halted : HasHalted f rear.log stop.cause
  pub is_next : IsNextBy (start_after opened (incarnations old rear.log (suc below))) stop.cause rear.stand n
  pub none_left : left ≡ []
  pub fails : length (missed_of (suc f.incarnation) rear.log.downs) ≡ fallen_once rear.stand

-- It is known whenever a front that serves is told of an end.
pub ended_phase : (opened : Contents) (below : ℕ) (start : Contents) (f : Front) (old : Fronted) (rear : Rear) (unread : List Body) (late : List Entry)
    (n : Notice) (left : List Notice) (state : State) → f.mode ≡ serves state → IsEnd n → IsPhase opened below start f old rear unread late (n ∷ left)
    → IsFollowedBy opened below f old rear unread late n left
ended_phase opened below start f old rear unread late n left state is_so is_end (inl together) =
    absurd (no_end start f old rear.log unread rear.before state is_so n left is_end rear.stand rear.held (n ∷ left) together.1 refl)
ended_phase opened below start f old rear unread late n left state is_so is_end (inr behind) =
    let is = behind.1 in
    let next : Contents = start_after opened (incarnations old rear.log (suc below)) in
    let told : is.told ≡ n ∷ left = told_alone start f unread is.left is.told n left is_end is.left_over (sym is.under_way) in
    let news = news_next next (suc f.incarnation) is.stop.cause rear.stand is.told n left is.is_news told in
    record {
      one_ahead = behind.0;
      none_late = is.none_late;
      is_unread = is.is_unread;
      none_held = is.none_held;
      stop = is.stop;
      stopped = is.stopped;
      halted = is.halted;
      is_next = news.0;
      none_left = news.1;
      fails = is.fails;
    }
