-- A notice under way to a front is one that it waits for.
use Rattle.std.proofs.Common.{◌≡◌, ◌∙◌, ap, sym, subst, refl, inl, inr, ℕ, suc, List, [], ◌∷◌, ◌++◌, Some}
use Rattle.storage_map.specs.Contents.{Contents}
use Rattle.timeline.specs.History.{incarnations, start_after}
use Rattle.timeline.specs.Intake.{Kind, Front, Mode, serves, down, FitsNotice, FitsMode}
use Rattle.timeline.specs.Logs.{Fronted, Backed}
use Rattle.timeline.specs.Object.{State, idle, waiting, ended}
use Rattle.timeline.specs.declared.caller.Cause.{Cause}
use Rattle.timeline.specs.declared.entry.Body.{Body}
use Rattle.timeline.specs.declared.entry.Body.TheVariants as body
use Rattle.timeline.specs.declared.entry.Entry.{Entry}
use Rattle.timeline.specs.declared.event.Event.{Event}
use Rattle.timeline.specs.declared.notice.Notice.{Notice}
use Rattle.timeline.specs.declared.notice.Notice.TheVariants as notice
use Rattle.object_history.proofs.Ready.{not_nil, same_head, news_is_end}
use Rattle.object_history.proofs.Readings.{phase_now}
use Rattle.object_history.specs.Pair.{Held, Stand, Rear, IsAnswer, Together, unreached, answered, syncs, halts, read_fails, falls, wants, mends, misses, silent, IsEnd, IsNews, IsLeftOver, IsPhase, IsPair}

-- The news of an end fits each state.
end_fits : (said : List Body) (state : State) (n : Notice) → IsEnd n → FitsNotice said state n
end_fits said (idle o) (notice.Fresh incarnation alarm cause) is_end = tt
end_fits said (ended c) (notice.Fresh incarnation alarm cause) is_end = tt
end_fits said (waiting o t (body.Ask ask free)) (notice.Fresh incarnation alarm cause) is_end = tt
end_fits said (waiting o t (body.Batch ops tail confirmed)) (notice.Fresh incarnation alarm cause) is_end = tt
end_fits said (waiting o t body.Sync) (notice.Fresh incarnation alarm cause) is_end = tt
end_fits said (waiting o t (body.Message sent)) (notice.Fresh incarnation alarm cause) is_end = tt
end_fits said (waiting o t (body.Bind identity)) (notice.Fresh incarnation alarm cause) is_end = tt
end_fits said (waiting o t (body.Halt cause_of)) (notice.Fresh incarnation alarm cause) is_end = tt
end_fits said (waiting o t body.Mend) (notice.Fresh incarnation alarm cause) is_end = tt
end_fits said (idle o) (notice.Down cause before after) is_end = tt
end_fits said (ended c) (notice.Down cause before after) is_end = tt
end_fits said (waiting o t (body.Ask ask free)) (notice.Down cause before after) is_end = tt
end_fits said (waiting o t (body.Batch ops tail confirmed)) (notice.Down cause before after) is_end = tt
end_fits said (waiting o t body.Sync) (notice.Down cause before after) is_end = tt
end_fits said (waiting o t (body.Message sent)) (notice.Down cause before after) is_end = tt
end_fits said (waiting o t (body.Bind identity)) (notice.Down cause before after) is_end = tt
end_fits said (waiting o t (body.Halt cause_of)) (notice.Down cause before after) is_end = tt
end_fits said (waiting o t body.Mend) (notice.Down cause before after) is_end = tt
end_fits said state (notice.Read number r) is_end = absurd is_end
end_fits said state (notice.Taken number count) is_end = absurd is_end
end_fits said state (notice.Synced number) is_end = absurd is_end

-- An answer fits, and what follows a call that waits for a mounting.
answer_fits : (start : Contents) (f : Front) (m n : Notice) → m ≡ n → IsAnswer start f m → FitsMode f.said f.mode n
answer_fits start f m n same is =
    subst (λ (x : Notice). FitsMode f.said f.mode x) same (subst (λ (x : Mode). FitsMode f.said x m) (sym is.mode) is.fits)

-- What follows a call that waits for a mounting fits.
call_fits : (f : Front) (call : Event) (m n : Notice) → f.mode ≡ down (Some call) → m ≡ n → FitsMode f.said (down (Some call)) m → FitsMode f.said f.mode n
call_fits f call m n mode same fits =
    subst (λ (x : Notice). FitsMode f.said f.mode x) same (subst (λ (x : Mode). FitsMode f.said x m) (sym mode) fits)

module _ (start : Contents) (f : Front) (front : Fronted) (back : Backed) (unread : List Body) (before : ℕ) (n : Notice) (left : List Notice) where
  together_fits : (stand : Stand) (held : List Held) (notices : List Notice) → Together start f front back unread before stand held notices
      → notices ≡ n ∷ left → FitsMode f.said f.mode n
  together_fits stand held notices (unreached state mode is) same = absurd (not_nil n left same)
  together_fits stand held notices (answered m is none) same = answer_fits start f m n (same_head m n [] left same) is
  together_fits stand held notices (syncs o t mode none) same = absurd (not_nil n left same)
  together_fits stand held notices (halts c mode none some) same = absurd (not_nil n left same)
  together_fits stand held notices (read_fails o t a free counts_before counts_after mode none) same = absurd (not_nil n left same)
  together_fits stand held notices (falls call c mode is length_is) same = absurd (not_nil n left same)
  together_fits stand held notices (wants call c mode none length_is) same = absurd (not_nil n left same)
  together_fits stand held notices (mends call c i mode none) same = call_fits f call (notice.Fresh i start.alarm c) n mode (same_head _ n [] left same) tt
  together_fits stand held notices (misses call c again counts_before counts_after older mode none missed length_is) same =
      call_fits f call (notice.Down again counts_before counts_after) n mode (same_head _ n [] left same) tt
  together_fits stand held notices (silent other none may) same = absurd (not_nil n left same)

-- where the back is one ahead: what is left over, or the news
behind_fits : (start next : Contents) (number : ℕ) (cause : Cause) (stand : Stand) (f : Front) (state : State) (unread : List Body) (over told : List Notice)
    (n : Notice) (left : List Notice) → f.mode ≡ serves state → IsLeftOver start f unread over → IsNews next number cause stand told
    → over ++ told ≡ n ∷ left → FitsMode f.said f.mode n
behind_fits start next number cause stand f state unread over told n left mode (inl none) news same =
    subst (λ (x : Mode). FitsMode f.said x n) (sym mode)
    (end_fits f.said state n (news_is_end next number cause stand told n left news (sym (ap (λ (x : List Notice). x ++ told) none) ∙ same)))
behind_fits start next number cause stand f state unread over told n left mode (inr some) news same =
    answer_fits start f some.0 n (same_head some.0 n told left (sym (ap (λ (x : List Notice). x ++ told) some.1) ∙ same)) some.2

-- However the halves stand.
phase_fits : (opened : Contents) (below : ℕ) (start : Contents) (f : Front) (front : Fronted) (rear : Rear) (unread : List Body) (late : List Entry)
    (n : Notice) (left : List Notice) → IsPhase opened below start f front rear unread late (n ∷ left) → FitsMode f.said f.mode n
phase_fits opened below start f front rear unread late n left (inl together) =
    together_fits start f front rear.log unread rear.before n left rear.stand rear.held (n ∷ left) together.1 refl
phase_fits opened below start f front rear unread late n left (inr behind) =
    let is = behind.1 in
    behind_fits start (start_after opened (incarnations front rear.log (suc below))) (suc f.incarnation) is.stop.cause rear.stand f is.state unread is.left
    is.told n left
    is.mode is.left_over is.is_news (sym is.under_way)

-- So of each pair.
pub notices_fit : (k : Kind) (opened : Contents) (f : Front) (front : Fronted) (rear : Rear) (line : List Entry) (n : Notice) (rest : List Notice)
    → IsPair k opened f front rear line (n ∷ rest) → FitsMode f.said f.mode n
notices_fit k opened f front rear line n rest pair =
    phase_fits opened pair.below pair.start f front rear pair.lined.unread pair.lined.late n rest (phase_now pair)
