-- Where a front may take a step of its object: nothing that it has said waits for an answer, or the answer has come.
use Rattle.std.proofs.Common.{◌≡◌, ◌∙◌, ap, sym, subst, refl, inl, inr, true≢false, ℕ, suc, List, [], ◌∷◌, ◌++◌, append-nil, append_assoc, length}
use Rattle.std.proofs.lemmas.List.Elements.{All-nil, All-append}
use Rattle.std.specs.Prelude.{◌⊎◌, Bool, true, false, slice_get, Some}
use Rattle.storage_map.specs.Contents.{Contents}
use Rattle.script_mean.specs.declared.answer.Answer.{Answer}
use Rattle.timeline.specs.Headline.{missed_of}
use Rattle.timeline.specs.History.{incarnations, is_halting, start_after}
use Rattle.timeline.specs.Intake.{Front, Mode, serves, down, FitsNotice, answer_in}
use Rattle.timeline.specs.Logs.{Fronted, Backed}
use Rattle.timeline.specs.Object.{Object, OpenTask, State, idle, waiting, ended}
use Rattle.timeline.specs.Told.{stored_answer, written}
use Rattle.timeline.specs.declared.back_log.Stop.{Stop}
use Rattle.timeline.specs.declared.caller.Cause.{Cause}
use Rattle.timeline.specs.declared.entry.Body.{Body}
use Rattle.timeline.specs.declared.entry.Entry.{Entry}
use Rattle.timeline.specs.declared.event.Event.{Event}
use Rattle.timeline.specs.declared.notice.Notice.{Notice}
use Rattle.timeline.specs.declared.notice.Notice.TheVariants as notice
use Rattle.object_history.proofs.Frames.{now}
use Rattle.object_history.proofs.OlderFronts.{start_same}
use Rattle.object_history.specs.Pair.{Held, Stand, mounted, wanted, fallen, Rear, awaited, IsUnread, IsAnswer, IsSilentAt, Together, unreached, answered, syncs, halts, read_fails, falls, wants, mends, misses, silent, IsEnd, IsNews, IsLeftOver, HasHalted, fallen_once, IsPhase}
use Rattle.object_history.specs.Saying.{is_plain, ArePlain}

-- ---- what is told apart
abbrev pub IsNil : {X : Type 0} → List X → Type 0
IsNil [] = Unit {0}
IsNil (x ∷ xs) = ⊥

-- the first of a list, and the others
abbrev pub head_or : {X : Type 0} → X → List X → X
head_or other [] = other
head_or other (x ∷ xs) = x

abbrev pub rest_of : {X : Type 0} → List X → List X
rest_of [] = []
rest_of (x ∷ xs) = xs

-- a mode in which the object is idle
abbrev pub IsIdle : Mode → Type 0
IsIdle (serves (idle o)) = Unit {0}
IsIdle (serves (waiting o t b)) = ⊥
IsIdle (serves (ended c)) = ⊥
IsIdle (down call) = ⊥

-- a mode in which it serves
abbrev pub IsServing : Mode → Type 0
IsServing (serves state) = Unit {0}
IsServing (down call) = ⊥

-- the state in which it serves
abbrev pub state_or : State → Mode → State
state_or other (serves state) = state
state_or other (down call) = other

-- a mode in which its object has ended
abbrev IsEnded : Mode → Type 0
IsEnded (serves (ended c)) = Unit {0}
IsEnded (serves (idle o)) = ⊥
IsEnded (serves (waiting o t b)) = ⊥
IsEnded (down call) = ⊥

module _ {X : Type 0} where
  pub not_nil : (x : X) (xs : List X) → [] ≡ x ∷ xs → ⊥
  not_nil x xs same = subst IsNil same tt

  -- equal lists begin with one thing
  pub same_head : (x y : X) (xs ys : List X) → x ∷ xs ≡ y ∷ ys → x ≡ y
  same_head x y xs ys same = ap (λ (list : List X). head_or x list) same

  -- and go on alike
  pub same_rest : (x y : X) (xs ys : List X) → x ∷ xs ≡ y ∷ ys → xs ≡ ys
  same_rest x y xs ys same = ap (λ (list : List X). rest_of list) same

-- a mode that is an idle one
pub is_idle : (m : Mode) (o : Object) (other : Mode) → m ≡ serves (idle o) → m ≡ other → IsIdle other
is_idle m o other serving is = subst IsIdle (sym serving ∙ is) tt

-- a mode that is a serving one
pub is_serving : (m : Mode) (state : State) (other : Mode) → m ≡ serves state → m ≡ other → IsServing other
is_serving m state other serving is = subst IsServing (sym serving ∙ is) tt

-- a mode has one state
pub same_state : (m : Mode) (state other : State) → m ≡ serves state → m ≡ serves other → state ≡ other
same_state m state other serving is = ap (state_or state) (sym serving ∙ is)

-- no turn has ended an incarnation whose object hasn't ended
never_so : (b : Bool) → (b ≡ true → ⊥) → b ≡ false
never_so true never = absurd (never refl)
never_so false never = refl

not_by_turn : (f : Front) (back : Backed) (c : Cause) (other : Mode) → f.mode ≡ other → (IsEnded other → ⊥) → HasHalted f back c → is_halting c ≡ false
not_by_turn f back c other is never halted = never_so (is_halting c) (λ by. never (subst IsEnded (sym (halted by).0 ∙ is) tt))

-- ---- notices
-- an idle object waits for no answer
pub idle_waits : (said : List Body) (o : Object) (n : Notice) (a : Answer) → FitsNotice said (idle o) n → answer_in n ≡ a ∷ [] → ⊥
idle_waits said o (notice.Read number r) a fits is = fits
idle_waits said o (notice.Taken number count) a fits is = fits
idle_waits said o (notice.Synced number) a fits is = fits
idle_waits said o (notice.Fresh incarnation alarm cause) a fits is = not_nil a [] is
idle_waits said o (notice.Down cause before after) a fits is = not_nil a [] is

-- the news of an end is no answer
pub end_answers_none : (n : Notice) (a : Answer) → IsEnd n → answer_in n ≡ a ∷ [] → ⊥
end_answers_none (notice.Read number r) a is_end is = is_end
end_answers_none (notice.Taken number count) a is_end is = is_end
end_answers_none (notice.Synced number) a is_end is = is_end
end_answers_none (notice.Fresh incarnation alarm cause) a is_end is = not_nil a [] is
end_answers_none (notice.Down cause before after) a is_end is = not_nil a [] is

-- the news that a front isn't told yet is that of an end
pub news_is_end : (next : Contents) (number : ℕ) (cause : Cause) (stand : Stand) (told : List Notice) (n : Notice) (rest : List Notice)
    → IsNews next number cause stand told → told ≡ n ∷ rest → IsEnd n
news_is_end next number cause mounted told n rest (inl none) is = absurd (not_nil n rest (sym none ∙ is))
news_is_end next number cause mounted told n rest (inr fresh) is = subst IsEnd (same_head _ n [] rest (sym fresh ∙ is)) tt
news_is_end next number cause (wanted c) told n rest news is = absurd (not_nil n rest (sym news.1 ∙ is))
news_is_end next number cause (fallen c) told n rest (same, inl none) is = absurd (not_nil n rest (sym none ∙ is))
news_is_end next number cause (fallen c) told n rest (same, inr falls_so) is = subst IsEnd (same_head _ n [] rest (sym falls_so.2 ∙ is)) tt

-- ---- what was said
abbrev pub IsPlain : Body → Type 0
IsPlain b = is_plain b ≡ true

-- nothing is plain
pub none_plain : (bodies : List Body) → bodies ≡ [] → ArePlain bodies
none_plain bodies none = subst (λ (x : List Body). ArePlain x) (sym none) (All-nil IsPlain)

-- where nothing is waited for, all that wasn't taken is plain
pub all_plain : (m other : Mode) (unread : List Body) → m ≡ other → awaited other ≡ [] → IsUnread m unread → ArePlain unread
all_plain m other unread same none is =
    subst (λ (x : List Body). ArePlain x)
    (sym (is.is ∙ ap (λ (x : List Body). is.plain ++ x) (ap awaited same ∙ none) ∙ append-nil is.plain)) is.are_plain

-- plain entries before others
pub unread_more : (m : Mode) (unread more : List Body) → ArePlain unread → IsUnread m more → IsUnread m (unread ++ more)
unread_more m unread more plain is = record {
  plain = unread ++ is.plain;
  are_plain = All-append IsPlain unread is.plain plain is.are_plain;
  is = ap (λ (x : List Body). unread ++ x) is.is ∙ sym (append_assoc unread is.plain (awaited m));
}

-- ---- where a step may come
-- The halves are together, or the back is one ahead; these notices are left.
pub record IsReadyNow (unread : List Body) (stand : Stand) (held : List Held) (left : List Notice) : Type 0 where
  pub plain : ArePlain unread
  pub stands : stand ≡ mounted
  pub none_held : held ≡ []
  pub none_left : left ≡ []

-- the back is one ahead: the news of the end is under way, is lost, or is still to come
pub record IsReadyBehind (next : Contents) (below number : ℕ) (unread : List Body) (late : List Entry) (rear : Rear) (left : List Notice) : Type 0 where
  pub plain : ArePlain unread
  pub none_late : late ≡ []
  pub none_held : rear.held ≡ []
  pub stop : Stop
  pub stopped : slice_get rear.log.stops below ≡ Some stop
  pub no_halt : is_halting stop.cause ≡ false
  pub is_news : IsNews next (suc number) stop.cause rear.stand left
  pub fails : length (missed_of (suc number) rear.log.downs) ≡ fallen_once rear.stand

-- where a step may come, by the number of incarnations that the back has ended
abbrev pub IsReady : Contents → ℕ → Front → Fronted → Rear → List Body → List Entry → List Notice → Type 0
IsReady opened below f front rear unread late left =
    ((length rear.log.stops ≡ below) × IsReadyNow unread rear.stand rear.held left)
    ⊎ ((length rear.log.stops ≡ suc below)
    × IsReadyBehind (start_after opened (incarnations front rear.log (suc below))) below f.incarnation unread late rear left)

-- what stands so by equal parts
pub at_stand : (T : Stand → List Held → List Notice → Type 0) (stand other : Stand) (held none : List Held) (left notices : List Notice)
    → stand ≡ other → held ≡ none → left ≡ notices → T other none notices → T stand held left
at_stand T stand other held none left notices stands holds is t =
    subst (λ (x : Stand). T x held left) (sym stands)
    (subst (λ (x : List Held). T other x left) (sym holds) (subst (λ (x : List Notice). T other none x) (sym is) t))

-- then the object's step is said, and nothing of it was taken
pub ready_steps : (opened : Contents) (below : ℕ) (start : Contents) (f : Front) (front new : Fronted) (rear : Rear) (unread more : List Body)
    (late : List Entry) (left : List Notice) (es : List Event) (said : List Body) (state : State) → IsUnread (serves state) more
    → IsReady opened below f front rear unread late left
    → IsPhase opened below start (now f es said (serves state)) new rear (unread ++ more) late left
ready_steps opened below start f front new rear unread more late left es said state is (inl ready) =
    inl (
      ready.0,
      at_stand (Together start (now f es said (serves state)) new rear.log (unread ++ more) rear.before) rear.stand mounted rear.held [] left []
          ready.1.stands ready.1.none_held ready.1.none_left (unreached state refl (unread_more (serves state) unread more ready.1.plain is)),
    )
ready_steps opened below start f front new rear unread more late left es said state is (inr ready) =
    inr (
      ready.0,
      record {
        state = state;
        mode = refl;
        is_unread = inl (unread_more (serves state) unread more ready.1.plain is);
        none_late = ready.1.none_late;
        none_held = ready.1.none_held;
        stop = ready.1.stop;
        stopped = ready.1.stopped;
        halted = λ by. absurd (true≢false (sym by ∙ ready.1.no_halt));
        left = [];
        told = left;
        under_way = refl;
        left_over = inl refl;
        is_news = subst (λ (next : Contents). IsNews next (suc f.incarnation) ready.1.stop.cause rear.stand left)
            (sym (start_same opened front new rear.log (suc below))) ready.1.is_news;
        fails = ready.1.fails;
      },
    )

-- ---- an event comes to an idle object
silent_mounted : (m : Mode) (o : Object) (stand : Stand) → m ≡ serves (idle o) → IsSilentAt m stand → stand ≡ mounted
silent_mounted m o mounted serving may = refl
silent_mounted m o (wanted c) serving may = absurd (subst (λ (x : Mode). IsSilentAt x (wanted c)) serving may)
silent_mounted m o (fallen c) serving may = absurd (subst (λ (x : Mode). IsSilentAt x (fallen c)) serving may)

-- no answer is under way to an idle object
no_answer : (start : Contents) (f : Front) (o : Object) (n : Notice) → f.mode ≡ serves (idle o) → IsAnswer start f n → ⊥
no_answer start f o n serving is =
    idle_waits f.said o n _
    (subst (λ (state : State). FitsNotice f.said state n) (same_state f.mode is.state (idle o) is.mode serving) is.fits) is.answer

module _ (start : Contents) (f : Front) (front : Fronted) (back : Backed) (unread : List Body) (before : ℕ)
    (o : Object) (serving : f.mode ≡ serves (idle o)) where
  idle_now : (stand : Stand) (held : List Held) (notices : List Notice) → Together start f front back unread before stand held notices
      → IsReadyNow unread stand held notices
  idle_now stand held notices (unreached state mode is) =
      record { plain = all_plain f.mode (serves (idle o)) unread serving refl is; stands = refl; none_held = refl; none_left = refl }
  idle_now stand held notices (answered n is none) = absurd (no_answer start f o n serving is)
  idle_now stand held notices (syncs other t mode none) = absurd (is_idle f.mode o _ serving mode)
  idle_now stand held notices (halts c mode none some) = absurd (is_idle f.mode o _ serving mode)
  idle_now stand held notices (read_fails other t a free counts_before counts_after mode none) = absurd (is_idle f.mode o _ serving mode)
  idle_now stand held notices (falls call c mode is length_is) = absurd (is_idle f.mode o _ serving mode)
  idle_now stand held notices (wants call c mode none length_is) = absurd (is_idle f.mode o _ serving mode)
  idle_now stand held notices (mends call c i mode none) = absurd (is_idle f.mode o _ serving mode)
  idle_now stand held notices (misses call c again counts_before counts_after older mode none missed length_is) = absurd (is_idle f.mode o _ serving mode)
  idle_now stand held notices (silent other none may) =
      record { plain = none_plain unread none; stands = silent_mounted f.mode o other serving may; none_held = refl; none_left = refl }

-- what the back leaves on the line is plain too
plain_behind : (m : Mode) (other : Mode) (unread : List Body) → m ≡ other → awaited other ≡ [] → IsUnread m unread ⊎ (unread ≡ []) → ArePlain unread
plain_behind m other unread same none (inl is) = all_plain m other unread same none is
plain_behind m other unread same none (inr is) = none_plain unread is

-- and nothing is left over
idle_left : (start : Contents) (f : Front) (o : Object) (unread : List Body) (left : List Notice) → f.mode ≡ serves (idle o) → IsLeftOver start f unread left
    → left ≡ []
idle_left start f o unread left serving (inl none) = none
idle_left start f o unread left serving (inr some) = absurd (no_answer start f o some.0 serving some.2)

-- so an event may come to an idle object
pub idle_ready : (opened : Contents) (below : ℕ) (start : Contents) (f : Front) (front : Fronted) (rear : Rear) (unread : List Body) (late : List Entry)
    (notices : List Notice) (o : Object) → f.mode ≡ serves (idle o) → IsPhase opened below start f front rear unread late notices
    → IsReady opened below f front rear unread late notices
idle_ready opened below start f front rear unread late notices o serving (inl together) =
    inl (together.0, idle_now start f front rear.log unread rear.before o serving rear.stand rear.held notices together.1)
idle_ready opened below start f front rear unread late notices o serving (inr behind) =
    let is = behind.1 in
    let next : Contents = start_after opened (incarnations front rear.log (suc below)) in
    let none_left = idle_left start f o unread is.left serving is.left_over in
    let all_told : notices ≡ is.told = is.under_way ∙ ap (λ (x : List Notice). x ++ is.told) none_left in
    inr (
      behind.0,
      record {
        plain = plain_behind f.mode (serves (idle o)) unread serving refl is.is_unread;
        none_late = is.none_late;
        none_held = is.none_held;
        stop = is.stop;
        stopped = is.stopped;
        no_halt = not_by_turn f rear.log is.stop.cause (serves (idle o)) serving (λ never. never) is.halted;
        is_news = subst (λ (x : List Notice). IsNews next (suc f.incarnation) is.stop.cause rear.stand x) (sym all_told) is.is_news;
        fails = is.fails;
      },
    )

-- ---- the answer comes to the task that waits
-- it is that of the map, to the entry that is waited for
pub record IsTheMaps (start : Contents) (f : Front) (n : Notice) : Type 0 where
  pub first : List Body
  pub asked : Body
  pub said : f.said ≡ first ++ asked ∷ []
  pub answer : answer_in n ≡ stored_answer (written start first) asked ∷ []

-- the notice under way is that answer
pub of_answer : (start : Contents) (f : Front) (m n : Notice) → m ≡ n → IsAnswer start f m → IsTheMaps start f n
of_answer start f m n same is =
    record {
      first = is.first;
      asked = is.asked;
      said = is.said;
      answer = subst (λ (x : Notice). answer_in x ≡ stored_answer (written start is.first) is.asked ∷ []) same is.answer;
    }

module _ (start : Contents) (f : Front) (front : Fronted) (back : Backed) (unread : List Body) (before : ℕ) (o : Object) (t : OpenTask) (b : Body)
    (serving : f.mode ≡ serves (waiting o t b)) (n : Notice) (left : List Notice) (a : Answer) (gives : answer_in n ≡ a ∷ []) where
  waiting_now : (stand : Stand) (held : List Held) (notices : List Notice) → Together start f front back unread before stand held notices
      → notices ≡ n ∷ left → IsReadyNow unread stand held left × IsTheMaps start f n
  waiting_now stand held notices (unreached state mode is) same = absurd (not_nil n left same)
  waiting_now stand held notices (answered m is none) same = (
    record { plain = none_plain unread none; stands = refl; none_held = refl; none_left = sym (same_rest m n [] left same) },
    of_answer start f m n (same_head m n [] left same) is,
  )
  waiting_now stand held notices (syncs other u mode none) same = absurd (not_nil n left same)
  waiting_now stand held notices (halts c mode none some) same = absurd (not_nil n left same)
  waiting_now stand held notices (read_fails other u ask free counts_before counts_after mode none) same = absurd (not_nil n left same)
  waiting_now stand held notices (falls call c mode is length_is) same = absurd (not_nil n left same)
  waiting_now stand held notices (wants call c mode none length_is) same = absurd (not_nil n left same)
  waiting_now stand held notices (mends call c i mode none) same = absurd (is_serving f.mode _ _ serving mode)
  waiting_now stand held notices (misses call c again counts_before counts_after older mode none missed length_is) same =
      absurd (is_serving f.mode _ _ serving mode)
  waiting_now stand held notices (silent other none may) same = absurd (not_nil n left same)

-- What is left over is the notice, and what is left is told.
waiting_left : (start next : Contents) (number : ℕ) (cause : Cause) (stand : Stand) (f : Front) (unread : List Body) (over told : List Notice) (n : Notice)
    (left : List Notice) (a : Answer)
    → answer_in n ≡ a ∷ [] → IsLeftOver start f unread over → IsNews next number cause stand told → over ++ told ≡ n ∷ left
    → (told ≡ left) × (unread ≡ []) × IsTheMaps start f n
waiting_left start next number cause stand f unread over told n left a gives (inl none) news same =
    absurd (end_answers_none n a (news_is_end next number cause stand told n left news (sym (ap (λ (x : List Notice). x ++ told) none) ∙ same)) gives)
waiting_left start next number cause stand f unread over told n left a gives (inr some) news same =
    let is : some.0 ∷ told ≡ n ∷ left = sym (ap (λ (x : List Notice). x ++ told) some.1) ∙ same in
    (same_rest some.0 n told left is, some.3, of_answer start f some.0 n (same_head some.0 n told left is) some.2)

-- so the answer may come to the task that waits
pub waiting_ready : (opened : Contents) (below : ℕ) (start : Contents) (f : Front) (front : Fronted) (rear : Rear) (unread : List Body) (late : List Entry)
    (n : Notice) (left : List Notice)
    (o : Object) (t : OpenTask) (b : Body) (a : Answer) → f.mode ≡ serves (waiting o t b) → answer_in n ≡ a ∷ []
    → IsPhase opened below start f front rear unread late (n ∷ left) → IsReady opened below f front rear unread late left × IsTheMaps start f n
waiting_ready opened below start f front rear unread late n left o t b a serving gives (inl together) =
    let is = waiting_now start f front rear.log unread rear.before o t b serving n left a gives rear.stand rear.held (n ∷ left) together.1 refl in
    (inl (together.0, is.0), is.1)
waiting_ready opened below start f front rear unread late n left o t b a serving gives (inr behind) =
    let is = behind.1 in
    let next : Contents = start_after opened (incarnations front rear.log (suc below)) in
    let all = waiting_left start next (suc f.incarnation) is.stop.cause rear.stand f unread is.left is.told n left a gives is.left_over is.is_news
    (sym is.under_way) in (
      inr (
        behind.0,
        record {
          plain = none_plain unread all.1;
          none_late = is.none_late;
          none_held = is.none_held;
          stop = is.stop;
          stopped = is.stopped;
          no_halt = not_by_turn f rear.log is.stop.cause (serves (waiting o t b)) serving (λ never. never) is.halted;
          is_news = subst (λ (x : List Notice). IsNews next (suc f.incarnation) is.stop.cause rear.stand x) all.0 is.is_news;
          fails = is.fails;
        },
      ),
      all.2,
    )
