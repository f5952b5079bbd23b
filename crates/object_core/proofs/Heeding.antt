-- A front that takes what it may goes on hearing of its back.
use Rattle.std.proofs.Common.{◌≡◌, ◌≢◌, ◌∙◌, ap, sym, subst, refl, inl, inr, true≢false, ℕ, suc, List, [], ◌∷◌, ◌++◌, append_assoc, arith, Option, Some, None}
use Rattle.std.proofs.lemmas.List.{append_cancel_left}
use Rattle.std.proofs.lemmas.List.Elements.{filter-append}
use Rattle.std.specs.Prelude.{ℤ, true, ◌==◌, ◌⊎◌}
use Rattle.std.specs.List.{list_any}
use Rattle.storage_map.specs.Contents.{Contents}
use Rattle.do_value.specs.declared.value.Value.TheVariants as value
use Rattle.storage_map.specs.declared.answer.Reading.TheVariants as reading
use Rattle.script_mean.specs.declared.answer.Answer.{Answer}
use Rattle.script_mean.specs.declared.answer.Answer.TheVariants as answer
use Rattle.timeline.specs.History.{entries_of}
use Rattle.timeline.specs.Intake.{Kind, Front, Mode, serves, down, life, Taken, delivered, noticed, wanted, takes, steps_to, on_delivered, on_stored, on_fresh, on_down, numbered, MayTake}
use Rattle.timeline.specs.Logs.{Fronted, Backed}
use Rattle.timeline.specs.Object.{State, idle, waiting, ended, Step}
use Rattle.timeline.specs.Steps.{delivers, answers}
use Rattle.timeline.specs.Told.{asking}
use Rattle.timeline.specs.declared.caller.Cause.{Cause}
use Rattle.timeline.specs.declared.entry.Body.{Body}
use Rattle.timeline.specs.declared.entry.Body.TheVariants as body
use Rattle.timeline.specs.declared.entry.Entry.{Entry}
use Rattle.timeline.specs.declared.event.Event.{Event}
use Rattle.timeline.specs.declared.notice.Notice.{Notice}
use Rattle.timeline.specs.declared.notice.Notice.TheVariants as notice
use Rattle.timeline.specs.Intake.{answer_in}
use Rattle.front_half.specs.Taking.{waits, waits_in}
use Rattle.object_history.proofs.Entries.{entries_own}
use Rattle.object_history.specs.Laws.{StepsSayWell}
use Rattle.object_history.proofs.Readings.{phase_now}
use Rattle.object_history.specs.Pair.{Held, Stand, Rear, newest, Together, unreached, answered, syncs, halts, read_fails, falls, wants, mends, misses, silent, IsPair, IsPhase}
use Rattle.object_history.specs.Saying.{LeadTo}
use Rattle.object_history.specs.Stepping.{notices_with, said_before}
use Rattle.object_core.proofs.Hearing.{some_first, some_last, not_none}
use Rattle.object_core.specs.Heard.{is_news, IsWanted, by_entry, IsHeard}

-- A step that leaves a front waiting says something.
says_some : (says : List Body) (state : State) → LeadTo says state → waits_in state ≡ true → says ++ asking state ≢ []
says_some says (idle o) lead so none = absurd (true≢false (sym so))
says_some says (waiting o t b) lead so none = some_last says b [] none
says_some says (ended c) lead so none =
    some_first says [] (λ empty. some_last lead.0 (body.Halt c) [] (sym lead.1 ∙ empty)) none

steps_more : (f : Front) (s : Step) (more : List Body) → LeadTo s.says s.state → waits_in s.state ≡ true → (steps_to f s).said ≡ f.said ++ more → more ≢ []
steps_more f s more lead so is none =
    says_some s.says s.state lead so
    (append_cancel_left f.said (s.says ++ asking s.state) more (sym (append_assoc f.said s.says (asking s.state)) ∙ is) ∙ none)

module _ (well : StepsSayWell) (k : Kind) (i : ℕ) (es : List Event) (said : List Body) where
  abbrev at : Mode → Front
  at mode = record { incarnation = i; events = es; said = said; mode = mode }

  -- So does whatever a front takes that then waits.
  pub more_said : (mode : Mode) (t : Taken) (more : List Body) → MayTake (at mode) t → waits (takes k (at mode) t).mode ≡ true
      → (takes k (at mode) t).said ≡ said_before (at mode) mode t ++ more → more ≢ []
  more_said (serves (idle o)) (delivered e) more may so is =
      steps_more (record (at (serves (idle o))) { events = es ++ e ∷ [] }) (delivers (life k i) o e) more (well.on_event (life k i) o e) so is
  more_said (serves (waiting o u b)) (delivered e) more may so is = absurd may
  more_said (serves (ended c)) (delivered e) more may so is = absurd may
  more_said (down call) (delivered e) more may so is = absurd may
  more_said (serves state) (wanted e) more may so is = absurd cc
  more_said (down None) (wanted e) more may so is = λ none.
      not_none body.Mend [] (append_cancel_left said (body.Mend ∷ []) more is ∙ none)
  more_said (down (Some call)) (wanted e) more may so is = absurd cc
  more_said (serves (waiting o u b)) (noticed (notice.Read number r)) more may so is =
      steps_more (at (serves (waiting o u b))) (answers (life k i) o u (answer.Read r)) more (well.on_answer (life k i) o u (answer.Read r)) so is
  more_said (serves (waiting o u b)) (noticed (notice.Taken number count)) more may so is =
      let a : Answer = answer.Read (reading.Count count) in
      steps_more (at (serves (waiting o u b))) (answers (life k i) o u a) more (well.on_answer (life k i) o u a) so is
  more_said (serves (waiting o u b)) (noticed (notice.Synced number)) more may so is =
      let a : Answer = answer.Value value.Undefined in
      steps_more (at (serves (waiting o u b))) (answers (life k i) o u a) more (well.on_answer (life k i) o u a) so is
  more_said (serves (idle o)) (noticed (notice.Read number r)) more may so is = absurd may
  more_said (serves (idle o)) (noticed (notice.Taken number count)) more may so is = absurd may
  more_said (serves (idle o)) (noticed (notice.Synced number)) more may so is = absurd may
  more_said (serves (ended c)) (noticed (notice.Read number r)) more may so is = absurd may
  more_said (serves (ended c)) (noticed (notice.Taken number count)) more may so is = absurd may
  more_said (serves (ended c)) (noticed (notice.Synced number)) more may so is = absurd may
  more_said (serves state) (noticed (notice.Fresh incarnation alarm cause)) more may so is = absurd (true≢false (sym so))
  more_said (serves state) (noticed (notice.Down cause before after)) more may so is = absurd (true≢false (sym so))
  more_said (down None) (noticed n) more may so is = absurd may
  more_said (down (Some call)) (noticed (notice.Read number r)) more may so is = absurd may
  more_said (down (Some call)) (noticed (notice.Taken number count)) more may so is = absurd may
  more_said (down (Some call)) (noticed (notice.Synced number)) more may so is = absurd may
  more_said (down (Some call)) (noticed (notice.Fresh incarnation alarm cause)) more may so is = absurd (true≢false (sym so))
  more_said (down (Some call)) (noticed (notice.Down cause before after)) more may so is = absurd (true≢false (sym so))

-- Entries of an incarnation behind others are among its own.
some_own : (i n : ℕ) (line : List Entry) (more : List Body) → more ≢ [] → entries_of i (line ++ numbered i n more) ≢ []
some_own i n line [] some none = absurd (some refl)
some_own i n line (b ∷ more) some none =
    some_last (entries_of i line) (record { incarnation = i; number = n; body = b }) (numbered i (suc n) more)
    (ap (λ (own : List Entry). entries_of i line ++ own) (sym (entries_own i n (b ∷ more)))
    ∙ sym (filter-append (λ (e : Entry). e.incarnation == i) line (numbered i n (b ∷ more))) ∙ none)

-- The news of an end is no answer.
no_answer : (n : Notice) (a : Answer) → is_news n ≡ true → answer_in n ≡ a ∷ [] → ⊥
no_answer (notice.Read number r) a is given = true≢false (sym is)
no_answer (notice.Taken number count) a is given = true≢false (sym is)
no_answer (notice.Synced number) a is given = true≢false (sym is)
no_answer (notice.Fresh incarnation alarm cause) a is given = not_none a [] (sym given)
no_answer (notice.Down cause before after) a is given = not_none a [] (sym given)

-- News under way to a front whose incarnation is the back's newest are of a mounting for a call.
call_waits : (start : Contents) (f : Front) (front : Fronted) (back : Backed) (unread : List Body) (before : ℕ) (stand : Stand) (held : List Held)
    (notices : List Notice) (n : Notice) (rest : List Notice) → Together start f front back unread before stand held notices → notices ≡ n ∷ rest → is_news n ≡ true
    → (call : Option Event) × (f.mode ≡ down call)
call_waits start f front back unread before stand held notices n rest (unreached state mode u) is news = absurd (not_none n rest (sym is))
call_waits start f front back unread before stand held notices n rest (answered m answer none) is news =
    let same : m ≡ n = cc in
    absurd (no_answer m _ (ap is_news same ∙ news) answer.answer)
call_waits start f front back unread before stand held notices n rest (syncs o t mode none) is news = absurd (not_none n rest (sym is))
call_waits start f front back unread before stand held notices n rest (halts c mode none some) is news = absurd (not_none n rest (sym is))
call_waits start f front back unread before stand held notices n rest (read_fails o t a free counts_before counts_after mode none) is news = absurd (not_none n rest (sym is))
call_waits start f front back unread before stand held notices n rest (falls call c mode u length_is) is news = (call, mode)
call_waits start f front back unread before stand held notices n rest (wants call c mode none length_is) is news = (Some call, mode)
call_waits start f front back unread before stand held notices n rest (mends call c i mode none) is news = (Some call, mode)
call_waits start f front back unread before stand held notices n rest (misses call c again counts_before counts_after older mode none missed length_is) is news =
    (Some call, mode)
call_waits start f front back unread before stand held notices n rest (silent other none may) is news = absurd (not_none n rest (sym is))

module _ (k : Kind) (f : Front) where
  delivered_number : (mode : Mode) (e : Event) → (on_delivered k f mode e).incarnation ≡ f.incarnation
  delivered_number (serves (idle o)) e = refl
  delivered_number (serves (waiting o t b)) e = refl
  delivered_number (serves (ended c)) e = refl
  delivered_number (down call) e = refl

  stored_number : (mode : Mode) (a : Answer) → (on_stored k f mode a).incarnation ≡ f.incarnation
  stored_number (serves (idle o)) a = refl
  stored_number (serves (waiting o t b)) a = refl
  stored_number (serves (ended c)) a = refl
  stored_number (down call) a = refl

  module _ (opened : Contents) (front : Fronted) (rear : Rear) (line : List Entry) (rest : List Notice) where
    -- what a notice leads to, be its incarnation the back's newest or the one before
    abbrev Newest : Front → Type 0
    Newest g = newest rear.log ≡ g.incarnation

    fresh_by : (alarm : Option (ℤ × ℕ)) (cause : Cause) (i : ℕ) (pair : IsPair k opened f front rear line (notice.Fresh i alarm cause ∷ rest))
        → IsPhase opened pair.below pair.start f front rear pair.lined.unread pair.lined.late (notice.Fresh i alarm cause ∷ rest)
        → Newest (on_fresh f f.mode alarm cause)
    fresh_by alarm cause i pair (inl together) =
        let w = call_waits pair.start f front rear.log pair.lined.unread rear.before rear.stand rear.held _ (notice.Fresh i alarm cause) rest together.1 refl refl in
        subst (λ (mode : Mode). Newest (on_fresh f mode alarm cause)) (sym w.1) (omega (arith, together.0, pair.number))
    fresh_by alarm cause i pair (inr behind) =
        subst (λ (mode : Mode). Newest (on_fresh f mode alarm cause)) (sym behind.1.mode) (omega (arith, behind.0, pair.number))

    down_by : (cause : Cause) (before after : ℕ) (pair : IsPair k opened f front rear line (notice.Down cause before after ∷ rest))
        → IsPhase opened pair.below pair.start f front rear pair.lined.unread pair.lined.late (notice.Down cause before after ∷ rest)
        → Newest (on_down f f.mode cause before after)
    down_by cause before after pair (inl together) =
        let w = call_waits pair.start f front rear.log pair.lined.unread rear.before rear.stand rear.held _ (notice.Down cause before after) rest together.1 refl refl in
        subst (λ (mode : Mode). Newest (on_down f mode cause before after)) (sym w.1) (omega (arith, together.0, pair.number))
    down_by cause before after pair (inr behind) =
        subst (λ (mode : Mode). Newest (on_down f mode cause before after)) (sym behind.1.mode) (omega (arith, behind.0, pair.number))

    news_left : (t : Taken) → IsPair k opened f front rear line (notices_with t rest) → IsHeard f rear line (notices_with t rest)
        → newest rear.log ≢ (takes k f t).incarnation → (list_any is_news rest ≡ true) ⊎ IsWanted rear.stand
    news_left (delivered e) pair heard differs = heard.news (λ same. differs (same ∙ sym (delivered_number f.mode e)))
    news_left (wanted e) pair heard differs = heard.news differs
    news_left (noticed (notice.Read number r)) pair heard differs = heard.news (λ same. differs (same ∙ sym (stored_number f.mode (answer.Read r))))
    news_left (noticed (notice.Taken number count)) pair heard differs =
        heard.news (λ same. differs (same ∙ sym (stored_number f.mode (answer.Read (reading.Count count)))))
    news_left (noticed (notice.Synced number)) pair heard differs =
        heard.news (λ same. differs (same ∙ sym (stored_number f.mode (answer.Value value.Undefined))))
    news_left (noticed (notice.Fresh i alarm cause)) pair heard differs = absurd (differs (fresh_by alarm cause i pair (phase_now pair)))
    news_left (noticed (notice.Down cause before after)) pair heard differs = absurd (differs (down_by cause before after pair (phase_now pair)))

    -- What it takes it takes off the notices, and what it says stands behind the line.
    pub front_heard : (well : StepsSayWell) (t : Taken) (more : List Body) (number : ℕ) → IsPair k opened f front rear line (notices_with t rest) → MayTake f t
        → (takes k f t).said ≡ said_before f f.mode t ++ more → IsHeard f rear line (notices_with t rest)
        → IsHeard (takes k f t) rear (line ++ numbered (takes k f t).incarnation number more) rest
    front_heard well t more number pair may is heard = record {
      news = λ differs. news_left t pair heard differs;
      answer = λ so. by_entry (some_own (takes k f t).incarnation number line more (more_said well k f.incarnation f.events f.said f.mode t more may so is));
    }
