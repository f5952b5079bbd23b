-- A sync that a back holds first of all may be answered at once: what the back does else is the same without it.
use Rattle.std.proofs.Common.{◌≡◌, ◌∙◌, ap, sym, refl, subst, true≢false, ℕ, suc, ◌≤◌, ◌<◌, List, [], ◌∷◌, ◌++◌, arith, Some, None}
use Rattle.std.proofs.lemmas.Bool.{leb-true, leb-false, lt-leb}
use Rattle.std.proofs.lemmas.List.Elements.{All-nil, All-cons, All-append, All-filter, All-head, All-tail}
use Rattle.std.specs.Prelude.{Bool, true, false, cond, nat_le, option_to_list}
use Rattle.std.specs.List.{All, filter}
use Rattle.storage_map.specs.Contents.{Contents}
use Rattle.timeline.specs.declared.caller.Cause.{Cause}
use Rattle.timeline.specs.declared.caller.Cause.TheVariants as causes
use Rattle.timeline.specs.declared.entry.Body.{Body}
use Rattle.timeline.specs.declared.entry.Body.TheVariants as body
use Rattle.timeline.specs.declared.entry.Entry.{Entry}
use Rattle.timeline.specs.declared.notice.Notice.{Notice}
use Rattle.timeline.specs.declared.notice.Notice.TheVariants as notice
use Rattle.front_half.specs.Standing.{nothing_logged}
use Rattle.output_gate.specs.Taking.{notice_of}
use Rattle.object_history.specs.Pair.{Held, sync, halt, Rear}
use Rattle.object_history.specs.Stepping.{BackSteps, IsRear, IsUnended, is_end, holds, before_next, with_entry, takes_own, read_fails, takes_down, takes_late, flies, stops, sends, syncs, halts, begins, misses}
use Rattle.object_core.proofs.Forward.{BackGoes, rests, steps}
use Rattle.object_core.proofs.Hearing.{not_none}
use Rattle.object_core.specs.Heard.{is_news, IsWanted}

-- the first of two lists that are one
pub same_first : {X : Type 0} (x y : X) (xs ys : List X) → x ∷ xs ≡ y ∷ ys → x ≡ y
same_first x y xs ys is = cc

-- and their rests
pub same_rest : {X : Type 0} (x y : X) (xs ys : List X) → x ∷ xs ≡ y ∷ ys → xs ≡ ys
same_rest x y xs ys is = cc

-- What a back tells first of which a mounting is wanted, and that holds nothing, is of the mounting.
wanted_step : (rear next : Rear) (got : List Entry) (told : List Notice) → BackSteps rear next got told → IsWanted rear.stand → rear.held ≡ []
    → (n : Notice) (after rest : List Notice) → told ++ after ≡ n ∷ rest
    → (IsWanted next.stand → next.held ≡ [] → after ≡ n ∷ rest → is_news n ≡ true) → is_news n ≡ true
wanted_step rear _ _ _ (takes_own e map stand is unended) want none n after rest told on = absurd (subst IsWanted stand want)
wanted_step rear _ _ _ (read_fails e a free counts_before counts_after map stand is unended asks) want none n after rest told on = absurd (subst IsWanted stand want)
wanted_step rear _ _ _ (takes_down e c map stand is fits) want none n after rest told on = absurd (subst IsWanted stand want)
wanted_step rear _ _ _ (takes_late e map is) want none n after rest told on = on want none told
wanted_step rear _ _ _ (flies count map) want none n after rest told on = on want none told
wanted_step rear _ _ _ (stops stop held map stand less flown by_append is_held) want none n after rest told on = absurd (subst IsWanted stand want)
wanted_step rear _ _ _ (sends release map) want none n after rest told on = on want none told
wanted_step rear _ _ _ (syncs number needs others map is_held) want none n after rest told on = absurd (not_none _ others (sym is_held ∙ none))
wanted_step rear _ _ _ (halts c needs others stop end map is_held stand flown by_halt) want none n after rest told on =
    absurd (not_none _ others (sym is_held ∙ none))
wanted_step rear _ _ _ (begins c end before map stand) want none n after rest told on = ap is_news (sym (same_first _ n after rest told))
wanted_step rear _ _ _ (misses c counts_before counts_after map stand) want none n after rest told on = ap is_news (sym (same_first _ n after rest told))

-- So each run of such a back begins.
pub wanted_news : (opened : Contents) (last : Rear) (count : ℕ) (rear : Rear) (taken : List Entry) (told : List Notice) → BackGoes opened last count rear taken told
    → IsWanted rear.stand → rear.held ≡ [] → (n : Notice) (rest : List Notice) → told ≡ n ∷ rest → is_news n ≡ true
wanted_news opened last _ _ _ _ rests want none n rest is = absurd (not_none n rest (sym is))
wanted_news opened last _ _ _ _ (steps count rear next got more told after known step goes) want none n rest is =
    wanted_step rear next got told step want none n after rest is
    (λ wants frees comes. wanted_news opened last count next more after goes wants frees n rest comes)

-- what is held that needs no more than is durable
abbrev kept_at : ℕ → Held → Bool
kept_at durable h = nat_le h.needs durable

-- the end by a halt, as it is held
abbrev pub halt_of : Cause → ℕ → Held
halt_of c needs = record { hold = halt c; needs = needs }

-- of what is held without such an end, the rest is without one
unended_rest : (held : List Held) (h : Held) (rest : List Held) → held ≡ h ∷ rest → IsUnended held → IsUnended rest
unended_rest held h rest is unended = All-tail (λ x. is_end x.hold ≡ false) h rest (subst IsUnended is unended)

ended_not : {A : Type 0} (held : List Held) (c : Cause) (needs : ℕ) (rest : List Held) → held ≡ halt_of c needs ∷ rest → IsUnended held → A
ended_not held c needs rest is unended = absurd (true≢false (All-head (λ x. is_end x.hold ≡ false) (halt_of c needs) rest (subst IsUnended is unended)))

-- What a back tells first that holds such an end alone is of it, or of the mounting behind another.
module _ (c : Cause) (needs : ℕ) (n : Notice) (after rest : List Notice) where
  abbrev IsOn : Rear → Type 0
  IsOn next = next.held ≡ halt_of c needs ∷ [] → after ≡ n ∷ rest → is_news n ≡ true

  abbrev Mounts : Rear → Type 0
  Mounts next = IsWanted next.stand → next.held ≡ [] → after ≡ n ∷ rest → is_news n ≡ true

  halted_step : (rear next : Rear) (got : List Entry) (told : List Notice) → BackSteps rear next got told → rear.held ≡ halt_of c needs ∷ [] → told ++ after ≡ n ∷ rest
      → IsOn next → Mounts next → is_news n ≡ true
  halted_step rear _ _ _ (takes_own e map stand is unended) held told on mounts = ended_not rear.held c needs [] held unended
  halted_step rear _ _ _ (read_fails e a free counts_before counts_after map stand is unended asks) held told on mounts = ended_not rear.held c needs [] held unended
  halted_step rear _ _ _ (takes_down e d map stand is fits) held told on mounts = on held told
  halted_step rear _ _ _ (takes_late e map is) held told on mounts = on held told
  halted_step rear _ _ _ (flies count map) held told on mounts = on held told
  halted_step rear _ _ _ (stops stop held_then map stand less flown by_append is_held) held told on mounts = kept_as (nat_le needs rear.durable) refl
    where
      is_then : held_then ≡ cond (nat_le needs rear.durable) (halt_of c needs ∷ []) []
      is_then = is_held ∙ ap (λ (h : List Held). filter (kept_at rear.durable) h) held

      kept_as : (kept : Bool) → nat_le needs rear.durable ≡ kept → is_news n ≡ true
      kept_as true is = on (is_then ∙ ap (λ (b : Bool). cond b (halt_of c needs ∷ []) []) is) told
      kept_as false is = mounts tt (is_then ∙ ap (λ (b : Bool). cond b (halt_of c needs ∷ []) []) is) told
  halted_step rear _ _ _ (sends release map) held told on mounts = on held told
  halted_step rear _ _ _ (syncs number needed others map is_held) held told on mounts =
      absurd (true≢false (sym (ap (λ (h : Held). is_end h.hold)
      (same_first (record { hold = sync number; needs = needed }) (halt_of c needs) others [] (sym is_held ∙ held)))))
  halted_step rear _ _ _ (halts d needed others stop end map is_held stand flown by_halt) held told on mounts = ap is_news (sym (same_first _ n after rest told))
  halted_step rear _ _ _ (begins d end before map stand) held told on mounts = ap is_news (sym (same_first _ n after rest told))
  halted_step rear _ _ _ (misses d counts_before counts_after map stand) held told on mounts = ap is_news (sym (same_first _ n after rest told))

pub halted_news : (opened : Contents) (last : Rear) (count : ℕ) (rear : Rear) (taken : List Entry) (told : List Notice) → BackGoes opened last count rear taken told
    → (c : Cause) (needs : ℕ) → rear.held ≡ halt_of c needs ∷ [] → (n : Notice) (rest : List Notice) → told ≡ n ∷ rest → is_news n ≡ true
halted_news opened last _ _ _ _ rests c needs held n rest is = absurd (not_none n rest (sym is))
halted_news opened last _ _ _ _ (steps count rear next got more told after known step goes) c needs held n rest is =
    halted_step c needs n after rest rear next got told step held is
    (λ held_then comes. halted_news opened last count next more after goes c needs held_then n rest comes)
    (λ wants none comes. wanted_news opened last count next more after goes wants none n rest comes)

-- Behind an entry nothing is told at once that answers a sync.
no_sync : (number : ℕ) (m : Contents) (b : Body) (k : ℕ) (after rest : List Notice) → option_to_list (notice_of number m b) ++ after ≡ notice.Synced k ∷ rest
    → option_to_list (notice_of number m b) ≡ []
no_sync number m (body.Ask ask free) k after rest is = absurd cc
no_sync number m (body.Batch ops (Some tail) confirmed) k after rest is = absurd cc
no_sync number m (body.Batch ops None confirmed) k after rest is = refl
no_sync number m body.Sync k after rest is = refl
no_sync number m (body.Message sent) k after rest is = refl
no_sync number m (body.Bind identity) k after rest is = refl
no_sync number m (body.Halt c) k after rest is = refl
no_sync number m body.Mend k after rest is = refl

-- The news of an end answers none.
no_answer : (number : ℕ) (n : Notice) (after rest : List Notice) → n ∷ after ≡ notice.Synced number ∷ rest → is_news n ≡ true → ⊥
no_answer number n after rest is news = true≢false (sym news ∙ ap is_news (same_first n (notice.Synced number) after rest is))

-- What is held later needs as many batches, or more.
abbrev NeedMore : ℕ → List Held → Type 0
NeedMore needs held = All (λ h. needs ≤ h.needs) held

-- So it is of what is held of an entry.
holds_more : (needs number before : ℕ) (b : Body) → needs ≤ before → NeedMore needs (holds number before b)
holds_more needs number before (body.Ask ask free) less = All-nil (λ h. needs ≤ h.needs)
holds_more needs number before (body.Batch ops tail confirmed) less = All-nil (λ h. needs ≤ h.needs)
holds_more needs number before body.Sync less =
    All-cons (λ h. needs ≤ h.needs) (record { hold = sync number; needs = before }) [] less (All-nil (λ h. needs ≤ h.needs))
holds_more needs number before (body.Message sent) less = All-nil (λ h. needs ≤ h.needs)
holds_more needs number before (body.Bind identity) less = All-nil (λ h. needs ≤ h.needs)
holds_more needs number before (body.Halt c) less =
    All-cons (λ h. needs ≤ h.needs) (record { hold = halt c; needs = before }) [] less (All-nil (λ h. needs ≤ h.needs))
holds_more needs number before body.Mend less = All-nil (λ h. needs ≤ h.needs)

-- As many batches are taken before the next entry, or more.
before_more : (needs before : ℕ) (b : Body) → needs ≤ before → needs ≤ before_next before b
before_more needs before (body.Ask ask free) less = less
before_more needs before (body.Batch ops tail confirmed) less = omega (arith, less)
before_more needs before body.Sync less = less
before_more needs before (body.Message sent) less = less
before_more needs before (body.Bind identity) less = less
before_more needs before (body.Halt c) less = less
before_more needs before body.Mend less = less

-- Where the first isn't kept, none is.
none_kept : (needs durable : ℕ) (held : List Held) → durable < needs → NeedMore needs held → filter (kept_at durable) held ≡ []
none_kept needs durable [] less all = refl
none_kept needs durable (h ∷ held) less all =
    let more : needs ≤ h.needs = All-head (λ x. needs ≤ x.needs) h held all in
    let not : nat_le h.needs durable ≡ false = lt-leb h.needs durable (omega (arith, less, more)) in
    ap (λ b. cond b (h ∷ filter (kept_at durable) held) (filter (kept_at durable) held)) not
    ∙ none_kept needs durable held less (All-tail (λ x. needs ≤ x.needs) h held all)

-- What is known of a back has nothing of what it holds.
pub rear_holding : (opened : Contents) (rear : Rear) (held : List Held) → IsRear opened rear → IsRear opened (record rear { held = held })
rear_holding opened rear held known = record {
  logs = known.logs;
  followed = known.followed;
  begun = known.begun;
  map = known.map;
  owns = known.owns;
  kept = known.kept;
}

abbrev sync_of : (number needs : ℕ) → Held
sync_of number needs = record { hold = sync number; needs = needs }

module _ (opened : Contents) (last : Rear) (number needs : ℕ) (rest_told : List Notice) where
  -- The rest of a run, one step shorter, of a back that holds these.
  abbrev Freed : ℕ → Rear → List Held → List Entry → Type 0
  Freed count rear rest taken = (fewer : ℕ) × (count ≡ suc fewer) × BackGoes opened last fewer (record rear { held = rest }) taken rest_told

  abbrev FreesAfter : ℕ → Rear → List Entry → List Notice → Type 0
  FreesAfter count next more after = (rest : List Held) → next.held ≡ sync_of number needs ∷ rest → NeedMore needs rest → needs ≤ next.before
      → after ≡ notice.Synced number ∷ rest_told → Freed count next rest more

  -- A step that tells nothing is one of a back without it.
  frees_on : (rear next : Rear) (got : List Entry) (count : ℕ) (more : List Entry) (rest rest_then : List Held) → IsRear opened next
      → BackSteps (record rear { held = rest }) (record next { held = rest_then }) got [] → Freed count next rest_then more → Freed (suc count) rear rest (got ++ more)
  frees_on rear next got count more rest rest_then known step freed = (
    suc freed.0,
    ap suc freed.1,
    steps freed.0 (record rear { held = rest }) (record next { held = rest_then }) got more [] rest_told (rear_holding opened next rest_then known) step freed.2,
  )

  -- A step of a back that holds the sync first is one of a back without it; or it is the answer.
  frees_step : (rear next : Rear) (got : List Entry) (told : List Notice) → BackSteps rear next got told → IsRear opened rear → (count : ℕ) (more : List Entry)
      (after : List Notice) → IsRear opened next → BackGoes opened last count next more after → (rest : List Held)
      → rear.held ≡ sync_of number needs ∷ rest → NeedMore needs rest → needs ≤ rear.before → told ++ after ≡ notice.Synced number ∷ rest_told
      → FreesAfter count next more after → Freed (suc count) rear rest (got ++ more)
  frees_step rear _ _ _ (takes_own e map stand is unended) was count more after known goes rest held all less told on =
      let none = no_sync e.number rear.map e.body number after rest_told told in
      let behind : List Held = holds e.number rear.before e.body in
      frees_on rear _ (e ∷ []) count more rest (rest ++ behind) known
      (subst (λ (t : List Notice). BackSteps (record rear { held = rest })
      (record rear { log = with_entry rear e; held = rest ++ behind; before = before_next rear.before e.body; map = map }) (e ∷ []) t) none
      (takes_own e map stand is (unended_rest rear.held (sync_of number needs) rest held unended)))
      (on (rest ++ behind) (ap (λ (h : List Held). h ++ behind) held)
      (All-append (λ h. needs ≤ h.needs) rest behind all (holds_more needs e.number rear.before e.body less)) (before_more needs rear.before e.body less)
      (ap (λ (t : List Notice). t ++ after) (sym none) ∙ told))
  frees_step rear _ _ _ (read_fails e a free counts_before counts_after map stand is unended asks) was count more after known goes rest held all less told on =
      let behind : List Held = halt_of (causes.Disk counts_before counts_after) rear.before ∷ [] in
      frees_on rear _ (e ∷ []) count more rest (rest ++ behind) known
      (read_fails e a free counts_before counts_after map stand is (unended_rest rear.held (sync_of number needs) rest held unended) asks)
      (on (rest ++ behind) (ap (λ (h : List Held). h ++ behind) held)
      (All-append (λ h. needs ≤ h.needs) rest behind all (All-cons (λ h. needs ≤ h.needs) (halt_of (causes.Disk counts_before counts_after) rear.before) [] less
      (All-nil (λ h. needs ≤ h.needs)))) less told)
  frees_step rear _ _ _ (takes_down e c map stand is fits) was count more after known goes rest held all less told on =
      frees_on rear _ (e ∷ []) count more rest rest known (takes_down e c map stand is fits) (on rest held all less told)
  frees_step rear _ _ _ (takes_late e map is) was count more after known goes rest held all less told on =
      frees_on rear _ (e ∷ []) count more rest rest known (takes_late e map is) (on rest held all less told)
  frees_step rear _ _ _ (flies flown map) was count more after known goes rest held all less told on =
      frees_on rear _ [] count more rest rest known (flies flown map) (on rest held all less told)
  frees_step rear _ _ _ (stops stop held_then map stand fewer flown by_append is_held) was count more after known goes rest held all less told on =
      kept_as (nat_le needs rear.durable) refl
    where
      others : List Held
      others = filter (kept_at rear.durable) rest

      is_then : held_then ≡ cond (nat_le needs rear.durable) (sync_of number needs ∷ others) others
      is_then = is_held ∙ ap (λ (h : List Held). filter (kept_at rear.durable) h) held

      kept_as : (kept : Bool) → nat_le needs rear.durable ≡ kept → Freed (suc count) rear rest more
      kept_as true is =
          frees_on rear _ [] count more rest others known (stops stop others map stand fewer flown by_append refl)
          (on others (is_then ∙ ap (λ (b : Bool). cond b (sync_of number needs ∷ others) others) is)
          (All-filter (kept_at rear.durable) (λ h. needs ≤ h.needs) rest all) (leb-true needs rear.durable is) told)
      kept_as false is =
          let none = is_then ∙ ap (λ (b : Bool). cond b (sync_of number needs ∷ others) others) is ∙ none_kept needs rear.durable rest (leb-false needs rear.durable is) all in
          absurd (true≢false (sym (wanted_news opened last count _ more after goes tt none (notice.Synced number) rest_told told)))
  frees_step rear _ _ _ (sends release map) was count more after known goes rest held all less told on =
      frees_on rear _ [] count more rest rest known (sends release map) (on rest held all less told)
  frees_step rear _ _ _ (syncs other needed others map is_held) was count more after known goes rest held all less told on =
      let same : others ≡ rest = same_rest (sync_of other needed) (sync_of number needs) others rest (sym is_held ∙ held) in (
        count,
        refl,
        subst (λ (x : List Held × Contents × List Notice). BackGoes opened last count (record rear { held = x.0; map = x.1 }) more x.2)
            (λ i. (same i, (known.map nothing_logged _ _ refl ∙ sym (was.map nothing_logged _ _ refl)) i, same_rest (notice.Synced other) (notice.Synced number) after rest_told told i)) goes,
      )
  frees_step rear _ _ _ (halts c needed others stop end map is_held stand flown by_halt) was count more after known goes rest held all less told on =
      absurd (no_answer number _ after rest_told told refl)
  frees_step rear _ _ _ (begins c end before map stand) was count more after known goes rest held all less told on =
      absurd (no_answer number _ after rest_told told refl)
  frees_step rear _ _ _ (misses c counts_before counts_after map stand) was count more after known goes rest held all less told on =
      absurd (no_answer number _ after rest_told told refl)

-- Of a back that holds a sync first, whose answer it tells first, the rest of the run without it.
pub frees : (opened : Contents) (last : Rear) (number needs : ℕ) (rest_told : List Notice) (count : ℕ) (rear : Rear) (taken : List Entry) (told : List Notice)
    → BackGoes opened last count rear taken told → IsRear opened rear → (rest : List Held) → rear.held ≡ sync_of number needs ∷ rest → NeedMore needs rest
    → needs ≤ rear.before → told ≡ notice.Synced number ∷ rest_told → Freed opened last number needs rest_told count rear rest taken
frees opened last number needs rest_told _ _ _ _ rests was rest held all less is = absurd (not_none (notice.Synced number) rest_told (sym is))
frees opened last number needs rest_told _ _ _ _ (steps count rear next got more told after known step goes) was rest held all less is =
    frees_step opened last number needs rest_told rear next got told step was count more after known goes rest held all less is
    (λ rest_then held_then all_then less_then is_then. frees opened last number needs rest_told count next more after goes known rest_then held_then all_then less_then is_then)
