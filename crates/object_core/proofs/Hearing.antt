-- Whatever step a back makes, its front hears of it.
use Rattle.std.proofs.Common.{◌≡◌, ◌≢◌, ◌∙◌, ap, sym, subst, refl, inl, inr, true≢false, ℕ, suc, List, [], ◌∷◌, ◌++◌, length, arith, Option, Some, None}
use Rattle.std.proofs.lemmas.Bool.{eq-eqb, ne_eqb}
use Rattle.std.proofs.lemmas.List.Elements.{filter-append}
use Rattle.std.proofs.lemmas.List.Folds.{list_any-append}
use Rattle.std.specs.Prelude.{Bool, true, false, cond, ◌==◌, ◌||◌, ◌⊎◌, option_to_list}
use Rattle.std.specs.List.{list_any}
use Rattle.storage_map.specs.Contents.{Contents}
use Rattle.timeline.specs.History.{entries_of, said_in}
use Rattle.timeline.specs.Intake.{Kind, Front, Mode, serves, down, numbered}
use Rattle.timeline.specs.Logs.{Fronted, Backed}
use Rattle.timeline.specs.Object.{Object, OpenTask, State, idle, waiting, ended}
use Rattle.timeline.specs.declared.caller.Cause.{Cause}
use Rattle.timeline.specs.declared.entry.Body.{Body}
use Rattle.timeline.specs.declared.entry.Body.TheVariants as body
use Rattle.timeline.specs.declared.entry.Entry.{Entry}
use Rattle.timeline.specs.declared.event.Event.{Event}
use Rattle.timeline.specs.declared.notice.Notice.{Notice}
use Rattle.front_half.specs.Taking.{waits}
use Rattle.output_gate.proofs.Histories.{entries_none}
use Rattle.output_gate.specs.Taking.{notice_of}
use Rattle.object_history.proofs.Asked.{is_asked_for}
use Rattle.object_history.proofs.Entries.{entries_own, said_numbered}
use Rattle.object_history.specs.Laws.{StepsSayWell}
use Rattle.object_history.proofs.Readings.{phase_now}
use Rattle.object_history.specs.Pair.{Held, Stand, mounted, fallen, Rear, newest, IsUnread, IsLine, Together, unreached, answered, syncs, halts, read_fails, falls, wants, mends, misses, silent, IsPair, IsPhase}
use Rattle.object_history.specs.Saying.{is_asked}
use Rattle.object_history.specs.Stepping.{BackSteps, holds, stands_after, takes_own, read_fails as fails_read, takes_down, takes_late, flies, stops, sends, syncs as gives_sync, halts as gives_halt, begins, misses as gives_miss}
use Rattle.object_core.specs.Heard.{is_news, IsWanted, IsUnderWay, by_notice, by_hold, by_mounting, by_entry, IsHeard}

-- Something stays something, whatever stands before or behind it.
pub some_first : {X : Type 0} (xs ys : List X) → xs ≢ [] → xs ++ ys ≢ []
some_first [] ys some none = some refl
some_first (x ∷ xs) ys some none = absurd cc

pub some_last : {X : Type 0} (xs : List X) (y : X) (ys : List X) → xs ++ y ∷ ys ≢ []
some_last [] y ys none = absurd cc
some_last (x ∷ xs) y ys none = absurd cc

pub not_none : {X : Type 0} (x : X) (xs : List X) → x ∷ xs ≢ []
not_none x xs none = absurd cc

-- the last one of one
last_one : {X : Type 0} (xs : List X) (x y : X) → xs ++ x ∷ [] ≡ y ∷ [] → x ≡ y
last_one [] x y is = cc
last_one (z ∷ xs) x y is = let none : xs ++ x ∷ [] ≡ [] = cc in absurd (some_last xs x [] none)

or_first : (a b : Bool) → a ≡ true → (a || b) ≡ true
or_first true b is = refl
or_first false b is = absurd cc

or_last : (a : Bool) → (a || true) ≡ true
or_last true = refl
or_last false = refl

pub news_first : (first last : List Notice) → list_any is_news first ≡ true → list_any is_news (first ++ last) ≡ true
news_first first last is = list_any-append is_news first last ∙ or_first (list_any is_news first) (list_any is_news last) is

pub news_last : (first : List Notice) (n : Notice) → is_news n ≡ true → list_any is_news (first ++ n ∷ []) ≡ true
news_last first n is =
    list_any-append is_news first (n ∷ [])
    ∙ ap (λ (b : Bool). list_any is_news first || (b || false)) is
    ∙ or_last (list_any is_news first)

pub some_news : (notices : List Notice) → list_any is_news notices ≡ true → notices ≢ []
some_news [] has none = absurd cc
some_news (n ∷ notices) has none = not_none n notices none

-- What was told of it is told of it still.
news_stays : (notices told : List Notice) (stand : Stand) → (list_any is_news notices ≡ true) ⊎ IsWanted stand
    → (list_any is_news (notices ++ told) ≡ true) ⊎ IsWanted stand
news_stays notices told stand (inl has) = inl (news_first notices told has)
news_stays notices told stand (inr want) = inr want

-- An entry of an incarnation is one among its entries, and one of another isn't.
own_first : (i : ℕ) (e : Entry) (line : List Entry) → e.incarnation ≡ i → entries_of i (e ∷ line) ≡ e ∷ entries_of i line
own_first i e line is = ap (λ (b : Bool). cond b (e ∷ entries_of i line) (entries_of i line)) (eq-eqb e.incarnation i is)

other_first : (i : ℕ) (e : Entry) (line : List Entry) → (e.incarnation ≡ i → ⊥) → entries_of i (e ∷ line) ≡ entries_of i line
other_first i e line differs = ap (λ (b : Bool). cond b (e ∷ entries_of i line) (entries_of i line)) (ne_eqb e.incarnation i differs)

-- What a back answers to an entry that it was asked by: at once, or it holds the answer.
gives : (number : ℕ) (m : Contents) (before : ℕ) (b : Body) → is_asked b ≡ true
    → (option_to_list (notice_of number m b) ≢ []) ⊎ (holds number before b ≢ [])
gives number m before (body.Ask ask free) is = inl (not_none _ [])
gives number m before (body.Batch ops (Some tail) confirmed) is = inl (not_none _ [])
gives number m before (body.Batch ops None confirmed) is = absurd cc
gives number m before body.Sync is = inr (not_none _ [])
gives number m before (body.Message sent) is = absurd cc
gives number m before (body.Bind identity) is = absurd cc
gives number m before (body.Halt c) is = absurd cc
gives number m before body.Mend is = absurd cc

module _ (f : Front) (front : Fronted) (taken : List Entry) (e : Entry) (line : List Entry) (lined : IsLine f front taken (e ∷ line)) where
  own_line : entries_of f.incarnation (e ∷ line) ≡ numbered f.incarnation (suc (length lined.read)) lined.unread
  own_line =
      let n : ℕ = suc (length lined.read) in
      ap (λ (entries : List Entry). entries_of f.incarnation entries) lined.is_line
      ∙ filter-append (λ (x : Entry). x.incarnation == f.incarnation) lined.late (numbered f.incarnation n lined.unread)
      ∙ ap (λ (entries : List Entry). entries ++ entries_of f.incarnation (numbered f.incarnation n lined.unread))
      (entries_none f.incarnation lined.late (λ i d less. omega (arith, lined.lates i d less)))
      ∙ entries_own f.incarnation n lined.unread

  -- Where it is the last of its incarnation, it is all that wasn't read.
  pub last_unread : e.incarnation ≡ f.incarnation → entries_of f.incarnation line ≡ [] → lined.unread ≡ e.body ∷ []
  last_unread own none =
      let n : ℕ = suc (length lined.read) in
      sym (said_numbered f.incarnation n lined.unread)
      ∙ ap said_in (sym own_line ∙ own_first f.incarnation e line own ∙ ap (λ (entries : List Entry). e ∷ entries) none)

-- The last entry of a front that waits is answered.
module _ (start : Contents) (f : Front) (front : Fronted) (back : Backed) (unread : List Body) (b : Body) (last : unread ≡ b ∷ []) (waits_so : waits f.mode ≡ true) where
  abbrev Asked : Type 0
  Asked = (o : Object) (t : OpenTask) (x : Body) → f.mode ≡ serves (waiting o t x) → is_asked x ≡ true

  last_gives : (number : ℕ) (m : Contents) (before : ℕ) (state : State) → f.mode ≡ serves state → Asked → unread ≡ [] ⊎ IsUnread (serves state) unread
      → (option_to_list (notice_of number m b) ≢ []) ⊎ (holds number before b ≢ [])
  last_gives number m before state mode asked (inl none) = absurd (not_none b [] (sym last ∙ none))
  last_gives number m before (idle o) mode asked (inr u) = absurd (true≢false (sym waits_so ∙ ap waits mode))
  last_gives number m before (waiting o t x) mode asked (inr u) =
      let same : x ≡ b = last_one u.plain x b (sym u.is ∙ last) in
      gives number m before b (ap is_asked (sym same) ∙ asked o t x mode)
  last_gives number m before (ended c) mode asked (inr u) =
      let same : body.Halt c ≡ b = last_one u.plain (body.Halt c) b (sym u.is ∙ last) in
      inr (subst (λ (x : Body). holds number before x ≢ []) same (not_none _ []))

  own_gives : (number : ℕ) (m : Contents) (now before : ℕ) → Asked → (stand : Stand) (held : List Held) (notices : List Notice)
      → Together start f front back unread now stand held notices → stand ≡ mounted
      → (notices ≢ []) ⊎ ((held ≢ []) ⊎ ((option_to_list (notice_of number m b) ≢ []) ⊎ (holds number before b ≢ [])))
  own_gives number m now before asked stand held notices (unreached state mode u) is =
      inr (inr (last_gives number m before state mode asked (inr (subst (λ (x : Mode). IsUnread x unread) mode u))))
  own_gives number m now before asked stand held notices (answered n answers none) is = inl (not_none n [])
  own_gives number m now before asked stand held notices (syncs o t mode none) is = inr (inl (not_none _ []))
  own_gives number m now before asked stand held notices (halts c mode none some) is = inr (inl (not_none _ []))
  own_gives number m now before asked stand held notices (read_fails o t a free counts_before counts_after mode none) is = inr (inl (not_none _ []))
  own_gives number m now before asked stand held notices (falls call c mode u length_is) is = absurd cc
  own_gives number m now before asked stand held notices (wants call c mode none length_is) is = absurd cc
  own_gives number m now before asked stand held notices (mends call c i mode none) is = inl (not_none _ [])
  own_gives number m now before asked stand held notices (misses call c again counts_before counts_after older mode none missed length_is) is = inl (not_none _ [])
  own_gives number m now before asked stand held notices (silent other none may) is = absurd (not_none b [] (sym last ∙ none))

  call_mends : (c : Cause) (call : Option Event) → f.mode ≡ down call → IsUnread (down call) unread → IsWanted (stands_after c b)
  call_mends c None mode u = absurd (true≢false (sym waits_so ∙ ap waits mode))
  call_mends c (Some call) mode u = subst (λ (x : Body). IsWanted (stands_after c x)) (last_one u.plain body.Mend b (sym u.is ∙ last)) tt

  -- one of an incarnation that isn't mounted asks for a mounting
  down_mends : (c : Cause) (now : ℕ) (stand : Stand) (held : List Held) (notices : List Notice) → Together start f front back unread now stand held notices
      → stand ≡ fallen c → (notices ≢ []) ⊎ IsWanted (stands_after c b)
  down_mends c now stand held notices (unreached state mode u) is = absurd cc
  down_mends c now stand held notices (answered n answers none) is = inl (not_none n [])
  down_mends c now stand held notices (syncs o t mode none) is = absurd cc
  down_mends c now stand held notices (halts d mode none some) is = absurd cc
  down_mends c now stand held notices (read_fails o t a free counts_before counts_after mode none) is = absurd cc
  down_mends c now stand held notices (falls call d mode u length_is) is = inr (call_mends c call mode (subst (λ (x : Mode). IsUnread x unread) mode u))
  down_mends c now stand held notices (wants call d mode none length_is) is = absurd cc
  down_mends c now stand held notices (mends call d i mode none) is = inl (not_none _ [])
  down_mends c now stand held notices (misses call d again counts_before counts_after older mode none missed length_is) is = inl (not_none _ [])
  down_mends c now stand held notices (silent other none may) is = absurd (not_none b [] (sym last ∙ none))

module _ (well : StepsSayWell) (k : Kind) (opened : Contents) (f : Front) (front : Fronted) (r : Rear) (line : List Entry) (notices : List Notice) where
  -- what the news is, where the back is ahead
  ahead : (entries : List Entry) (later : Rear) (told : List Notice) → IsHeard f r entries notices → newest r.log ≢ f.incarnation
      → (IsWanted r.stand → IsUnderWay f later line (notices ++ told)) → IsUnderWay f later line (notices ++ told)
  ahead entries later told heard differs by = of (heard.news differs)
    where
      of : (list_any is_news notices ≡ true) ⊎ IsWanted r.stand → IsUnderWay f later line (notices ++ told)
      of (inl has) = by_notice (some_first notices told (some_news notices has))
      of (inr want) = by want

  module _ (e : Entry) (pair : IsPair k opened f front r (e ∷ line) notices) (heard : IsHeard f r (e ∷ line) notices) (waits_so : waits f.mode ≡ true) where
    -- the last entry of the mounted incarnation
    module _ (map : Contents) (stand : r.stand ≡ mounted) (is : e.incarnation ≡ newest r.log) (later : Rear)
        (held : later.held ≡ r.held ++ holds e.number r.before e.body) where
      abbrev told : List Notice
      told = option_to_list (notice_of e.number map e.body)

      given_as : (notices ≢ []) ⊎ ((r.held ≢ []) ⊎ ((told ≢ []) ⊎ (holds e.number r.before e.body ≢ []))) → IsUnderWay f later line (notices ++ told)
      given_as (inl some) = by_notice (some_first notices told some)
      given_as (inr (inl some)) = by_hold (λ none. some_first r.held (holds e.number r.before e.body) some (sym held ∙ none))
      given_as (inr (inr (inl some))) = by_notice (λ none. ends notices none)
        where
          ends : (first : List Notice) → first ++ told ≡ [] → ⊥
          ends [] none = some none
          ends (n ∷ first) none = not_none n (first ++ told) none
      given_as (inr (inr (inr some))) = by_hold (λ none. ends r.held (sym held ∙ none))
        where
          ends : (first : List Held) → first ++ holds e.number r.before e.body ≡ [] → ⊥
          ends [] none = some none
          ends (n ∷ first) none = not_none n (first ++ holds e.number r.before e.body) none

      own_by : entries_of f.incarnation line ≡ [] → IsPhase opened pair.below pair.start f front r pair.lined.unread pair.lined.late notices
          → IsUnderWay f later line (notices ++ told)
      own_by none (inl together) =
          given_as (own_gives pair.start f front r.log pair.lined.unread e.body
          (last_unread f front r.log.taken e line pair.lined (omega (arith, is, together.0, pair.number)) none) waits_so e.number map r.before r.before
          (λ o t b mode. is_asked_for well k _ pair.start f front r.log pair.newest_said o t b mode) r.stand r.held notices together.1 stand)
      own_by none (inr behind) =
          ahead (e ∷ line) later told heard (λ same. omega (arith, same, behind.0, pair.number)) (λ want. absurd (subst IsWanted stand want))

      own_as : (own : List Entry) → entries_of f.incarnation line ≡ own → IsUnderWay f later line (notices ++ told)
      own_as [] none = own_by none (phase_now pair)
      own_as (x ∷ own) some = by_entry (λ none. not_none x own (sym some ∙ none))

      pub own_answer : IsUnderWay f r (e ∷ line) notices → IsUnderWay f later line (notices ++ told)
      own_answer (by_notice some) = by_notice (some_first notices told some)
      own_answer (by_hold some) = by_hold (λ none. some_first r.held (holds e.number r.before e.body) some (sym held ∙ none))
      own_answer (by_mounting want) = absurd (subst IsWanted stand want)
      own_answer (by_entry some) = own_as (entries_of f.incarnation line) refl

    -- the last one of an incarnation that isn't mounted
    module _ (c : Cause) (stand : r.stand ≡ fallen c) (is : e.incarnation ≡ newest r.log) (later : Rear) (held : later.held ≡ r.held)
        (stands : later.stand ≡ stands_after c e.body) where
      mends_as : (notices ≢ []) ⊎ IsWanted (stands_after c e.body) → IsUnderWay f later line (notices ++ [])
      mends_as (inl some) = by_notice (some_first notices [] some)
      mends_as (inr want) = by_mounting (subst IsWanted (sym stands) want)

      down_by : entries_of f.incarnation line ≡ [] → IsPhase opened pair.below pair.start f front r pair.lined.unread pair.lined.late notices
          → IsUnderWay f later line (notices ++ [])
      down_by none (inl together) =
          mends_as (down_mends pair.start f front r.log pair.lined.unread e.body
          (last_unread f front r.log.taken e line pair.lined (omega (arith, is, together.0, pair.number)) none) waits_so c r.before r.stand r.held notices
          together.1 stand)
      down_by none (inr behind) =
          ahead (e ∷ line) later [] heard (λ same. omega (arith, same, behind.0, pair.number)) (λ want. absurd (subst IsWanted stand want))

      down_as : (own : List Entry) → entries_of f.incarnation line ≡ own → IsUnderWay f later line (notices ++ [])
      down_as [] none = down_by none (phase_now pair)
      down_as (x ∷ own) some = by_entry (λ none. not_none x own (sym some ∙ none))

      pub down_answer : IsUnderWay f r (e ∷ line) notices → IsUnderWay f later line (notices ++ [])
      down_answer (by_notice some) = by_notice (some_first notices [] some)
      down_answer (by_hold some) = by_hold (λ none. some (sym held ∙ none))
      down_answer (by_mounting want) = absurd (subst IsWanted stand want)
      down_answer (by_entry some) = down_as (entries_of f.incarnation line) refl

    -- one of the incarnation before
    module _ (is : suc e.incarnation ≡ newest r.log) (later : Rear) (held : later.held ≡ r.held) (stands : later.stand ≡ r.stand) where
      late_by : entries_of f.incarnation (e ∷ line) ≢ [] → IsPhase opened pair.below pair.start f front r pair.lined.unread pair.lined.late notices
          → IsUnderWay f later line (notices ++ [])
      late_by some (inl together) =
          by_entry (λ none. some (other_first f.incarnation e line (λ same. omega (arith, same, is, together.0, pair.number)) ∙ none))
      late_by some (inr behind) =
          ahead (e ∷ line) later [] heard (λ same. omega (arith, same, behind.0, pair.number)) (λ want. by_mounting (subst IsWanted (sym stands) want))

      pub late_answer : IsUnderWay f r (e ∷ line) notices → IsUnderWay f later line (notices ++ [])
      late_answer (by_notice some) = by_notice (some_first notices [] some)
      late_answer (by_hold some) = by_hold (λ none. some (sym held ∙ none))
      late_answer (by_mounting want) = by_mounting (subst IsWanted (sym stands) want)
      late_answer (by_entry some) = late_by some (phase_now pair)

  -- nothing of the line is taken, and nothing that the front hears of is gone
  still_answer : (later : Rear) (more : List Notice) → later.held ≡ r.held → later.stand ≡ r.stand → IsUnderWay f r line notices
      → IsUnderWay f later line (notices ++ more)
  still_answer later more held stands (by_notice some) = by_notice (some_first notices more some)
  still_answer later more held stands (by_hold some) = by_hold (λ none. some (sym held ∙ none))
  still_answer later more held stands (by_mounting want) = by_mounting (subst IsWanted (sym stands) want)
  still_answer later more held stands (by_entry some) = by_entry some

-- A step keeps the front hearing, where it is told what the step tells.
pub back_heard : (well : StepsSayWell) (k : Kind) (opened : Contents) (f : Front) (front : Fronted) (r later : Rear) (got line : List Entry)
    (told notices : List Notice) → BackSteps r later got told → IsPair k opened f front r (got ++ line) notices
    → IsHeard f r (got ++ line) notices → IsHeard f later line (notices ++ told)
back_heard well k opened f front r _ _ line _ notices (takes_own e map stand is unended) pair heard = record {
  news = λ differs. news_stays notices _ r.stand (heard.news differs);
  answer = λ so. own_answer well k opened f front r line notices e pair heard so r.map stand is _ refl (heard.answer so);
}
back_heard well k opened f front r _ _ line _ notices (fails_read e a free counts_before counts_after map stand is unended asks) pair heard = record {
  news = λ differs. news_stays notices [] r.stand (heard.news differs);
  answer = λ so. by_hold (some_last r.held _ []);
}
back_heard well k opened f front r _ _ line _ notices (takes_down e c map stand is fits) pair heard = record {
  news = λ differs. down_news (heard.news differs);
  answer = λ so. down_answer well k opened f front r line notices e pair heard so c stand is _ refl refl (heard.answer so);
}
  where
    down_news : (list_any is_news notices ≡ true) ⊎ IsWanted r.stand → (list_any is_news (notices ++ []) ≡ true) ⊎ IsWanted (stands_after c e.body)
    down_news (inl has) = inl (news_first notices [] has)
    down_news (inr want) = absurd (subst IsWanted stand want)
back_heard well k opened f front r _ _ line _ notices (takes_late e map is) pair heard = record {
  news = λ differs. news_stays notices [] r.stand (heard.news differs);
  answer = λ so. late_answer well k opened f front r line notices e pair heard so is _ refl refl (heard.answer so);
}
back_heard well k opened f front r _ _ line _ notices (flies count map) pair heard = record {
  news = λ differs. news_stays notices [] r.stand (heard.news differs);
  answer = λ so. still_answer well k opened f front r line notices _ [] refl refl (heard.answer so);
}
back_heard well k opened f front r _ _ line _ notices (stops stop held map stand less flown by_append is_held) pair heard = record {
  news = λ differs. inr tt;
  answer = λ so. by_mounting tt;
}
back_heard well k opened f front r _ _ line _ notices (sends release map) pair heard = record {
  news = λ differs. news_stays notices [] r.stand (heard.news differs);
  answer = λ so. still_answer well k opened f front r line notices _ [] refl refl (heard.answer so);
}
back_heard well k opened f front r _ _ line _ notices (gives_sync number needs rest map is_held) pair heard = record {
  news = λ differs. news_stays notices _ r.stand (heard.news differs);
  answer = λ so. by_notice (some_last notices _ []);
}
back_heard well k opened f front r _ _ line _ notices (gives_halt c needs rest stop end map is_held stand flown by_halt) pair heard = record {
  news = λ differs. inl (news_last notices _ refl);
  answer = λ so. by_notice (some_last notices _ []);
}
back_heard well k opened f front r _ _ line _ notices (begins c end before map stand) pair heard = record {
  news = λ differs. inl (news_last notices _ refl);
  answer = λ so. by_notice (some_last notices _ []);
}
back_heard well k opened f front r _ _ line _ notices (gives_miss c counts_before counts_after map stand) pair heard = record {
  news = λ differs. inl (news_last notices _ refl);
  answer = λ so. by_notice (some_last notices _ []);
}
