-- How the two halves stand together, by what is known of the back.
use Rattle.std.proofs.Common.{◌≡◌, ◌∙◌, ap, sym, subst, refl, inl, inr, true≢false, ℕ, suc, ◌<◌, List, [], ◌∷◌, ◌++◌, length, Option, Some, None}
use Rattle.std.proofs.lemmas.Bool.{lt-leb}
use Rattle.std.specs.Prelude.{◌⊎◌, Bool, true, false, cond, nat_le}
use Rattle.std.specs.List.{filter}
use Rattle.storage_map.specs.Contents.{Contents}
use Rattle.timeline.specs.Headline.{missed_of}
use Rattle.timeline.specs.History.{History, is_halting}
use Rattle.timeline.specs.Intake.{Kind, Front, Mode, serves, down}
use Rattle.timeline.specs.Logs.{Fronted, Backed}
use Rattle.timeline.specs.Object.{Object, OpenTask, State, waiting, ended}
use Rattle.timeline.specs.Told.{asking}
use Rattle.timeline.specs.declared.caller.Cause.{Cause}
use Rattle.timeline.specs.declared.caller.Cause.TheVariants as causes
use Rattle.timeline.specs.declared.entry.Body.{Body}
use Rattle.timeline.specs.declared.entry.Body.TheVariants as body
use Rattle.timeline.specs.declared.event.Event.{Event}
use Rattle.timeline.specs.declared.notice.Notice.{Notice}
use Rattle.timeline.specs.declared.notice.Notice.TheVariants as notice
use Rattle.object_history.proofs.Keeping.{told_one}
use Rattle.object_history.specs.Pair.{Held, sync, halt, Stand, mounted, wanted, IsUnread, IsSilentAt, IsLeftOver, calls_down, SaysDown, IsNewest, serving, falling, Together, unreached, answered, syncs, halts, read_fails, falls, wants, mends, misses, silent}
use Rattle.object_history.specs.Stepping.{AreGiven}

-- a front that serves, and one that doesn't
pub serves_or_down : (m : Mode) → ((call : Option Event) → m ≡ down call → ⊥) → (state : State) × (m ≡ serves state)
serves_or_down (serves state) never = (state, refl)
serves_or_down (down call) never = absurd (never call refl)

never_silent : (m : Mode) (c : Cause) → IsSilentAt m (wanted c) → ⊥
never_silent (serves state) c is = is
never_silent (down None) c is = is
never_silent (down (Some call)) c is = is

-- while it isn't mounted it has said what is said then alone
pub says_down : (k : Kind) (older : History) (start : Contents) (f : Front) (front : Fronted) (back : Backed) → IsNewest k older start f front back
    → (call : Option Event) → f.mode ≡ down call → SaysDown older f front back f.said
says_down k older start f front back (serving before tells down_said) call mode = absurd (let other = tells.mode in cc)
says_down k older start f front back (falling asked is is_call none down_said) call mode = down_said

-- the entry that it waits for is the last
pub asked_last : (k : Kind) (older : History) (start : Contents) (f : Front) (front : Fronted) (back : Backed) → IsNewest k older start f front back
    → (o : Object) (t : OpenTask) (b : Body) → f.mode ≡ serves (waiting o t b) → (first : List Body) × (f.said ≡ first ++ b ∷ [])
asked_last k older start f front back (serving before tells down_said) o t b mode =
    let same : tells.state ≡ waiting o t b = same_state tells.state (waiting o t b) (sym tells.mode ∙ mode) in
    (before ++ tells.told, tells.said ∙ ap (λ (s : State). (before ++ tells.told) ++ asking s) same)
  where
    same_state : (s t : State) → serves s ≡ serves t → s ≡ t
    same_state s t is = cc
asked_last k older start f front back (falling asked is is_call none down_said) o t b mode = absurd cc

module _ (start : Contents) (f : Front) (front : Fronted) (back : Backed) (unread : List Body) (before : ℕ) where
  -- A halt is held: what ended the incarnation by a turn is the last that the front has said, and so is a read that failed.
  pub record Halted (c : Cause) (rest : List Held) (notices : List Notice) : Type 0 where
    pub state : State
    pub mode : f.mode ≡ serves state
    pub none : unread ≡ []
    pub some : f.said ≡ [] → ⊥
    pub ends : is_halting c ≡ true → (state ≡ ended c) × ((first : List Body) × (f.said ≡ first ++ body.Halt c ∷ []))
    pub only : rest ≡ []
    pub quiet : notices ≡ []

  -- what ends with one isn't empty
  some_last : (first : List Body) (b : Body) → f.said ≡ first ++ b ∷ [] → f.said ≡ [] → ⊥
  some_last [] b is none = let both : b ∷ [] ≡ [] = sym is ∙ none in cc
  some_last (x ∷ first) b is none = let both : x ∷ first ++ b ∷ [] ≡ [] = sym is ∙ none in cc

  first_hold : (x y : Held) (xs ys : List Held) → x ∷ xs ≡ y ∷ ys → x.hold ≡ y.hold
  first_hold x y xs ys is = ap (λ (h : Held). h.hold) (first_is x y xs ys is)
    where
      first_is : (x y : Held) (xs ys : List Held) → x ∷ xs ≡ y ∷ ys → x ≡ y
      first_is x y xs ys is = cc

  only_rest : (x y : Held) (ys : List Held) → x ∷ [] ≡ y ∷ ys → ys ≡ []
  only_rest x y ys is = cc

  same_cause : (a b : Cause) → halt a ≡ halt b → a ≡ b
  same_cause a b is = cc

  same_number : (a b : ℕ) → sync a ≡ sync b → a ≡ b
  same_number a b is = cc

  sync_no_halt : (n : ℕ) (c : Cause) → sync n ≡ halt c → ⊥
  sync_no_halt n c is = cc

  no_turn : (c other : Cause) → is_halting c ≡ false → c ≡ other → is_halting other ≡ true → ⊥
  no_turn c other never same by = true≢false (sym by ∙ sym (ap is_halting same) ∙ never)

  pub halts_as : (c : Cause) (needs : ℕ) (rest : List Held) (stand : Stand) (held : List Held) (notices : List Notice)
      → ((o : Object) (t : OpenTask) (b : Body) → f.mode ≡ serves (waiting o t b) → (first : List Body) × (f.said ≡ first ++ b ∷ []))
      → Together start f front back unread before stand held notices → held ≡ record { hold = halt c; needs = needs } ∷ rest → Halted c rest notices
  halts_as c needs rest _ _ _ last (halts cause mode none ends) is =
      let same : cause ≡ c = same_cause cause c (first_hold (record { hold = halt cause; needs = before }) (record { hold = halt c; needs = needs }) [] rest is) in
      record {
        state = ended c;
        mode = mode ∙ ap (λ (x : Cause). serves (ended x)) same;
        none = none;
        some = some_last ends.0 (body.Halt cause) ends.1;
        ends = λ by. (refl, (ends.0, ends.1 ∙ ap (λ (x : Cause). ends.0 ++ body.Halt x ∷ []) same));
        only = only_rest (record { hold = halt cause; needs = before }) (record { hold = halt c; needs = needs }) rest is;
        quiet = refl;
      }
  halts_as c needs rest _ _ _ last (read_fails o t a free counts_before counts_after mode none) is =
      let cause : Cause = causes.Disk counts_before counts_after in
      let same : cause ≡ c = same_cause cause c (first_hold (record { hold = halt cause; needs = before }) (record { hold = halt c; needs = needs }) [] rest is) in
      let asked = last o t (body.Ask a free) mode in
      record {
        state = waiting o t (body.Ask a free);
        mode = mode;
        none = none;
        some = some_last asked.0 (body.Ask a free) asked.1;
        ends = λ by. absurd (no_turn cause c refl same by);
        only = only_rest (record { hold = halt cause; needs = before }) (record { hold = halt c; needs = needs }) rest is;
        quiet = refl;
      }
  halts_as c needs rest _ _ _ last (syncs o t mode none) is =
      absurd (sync_no_halt (length f.said) c (first_hold (record { hold = sync (length f.said); needs = before }) (record { hold = halt c; needs = needs }) [] rest is))
  halts_as c needs rest _ _ _ last (unreached state mode u) is = absurd cc
  halts_as c needs rest _ _ _ last (answered n answer none) is = absurd cc
  halts_as c needs rest _ _ _ last (falls call cause mode u count) is = absurd cc
  halts_as c needs rest _ _ _ last (wants call cause mode none count) is = absurd cc
  halts_as c needs rest _ _ _ last (mends call cause i mode none) is = absurd cc
  halts_as c needs rest _ _ _ last (misses call cause again counts_before counts_after older mode none missed count) is = absurd cc
  halts_as c needs rest _ _ _ last (silent s none quiet) is = absurd cc

  -- A sync is held, and is then answered or not.
  pub syncs_as : (number needs : ℕ) (rest : List Held) (given : List Notice) (stand : Stand) (held : List Held) (notices : List Notice)
      → ((o : Object) (t : OpenTask) (b : Body) → f.mode ≡ serves (waiting o t b) → (first : List Body) × (f.said ≡ first ++ b ∷ []))
      → Together start f front back unread before stand held notices → held ≡ record { hold = sync number; needs = needs } ∷ rest
      → AreGiven (notice.Synced number ∷ []) given → Together start f front back unread before stand rest (notices ++ given)
  syncs_as number needs rest given _ _ _ last (syncs o t mode none) is are =
      let same : length f.said ≡ number =
      same_number (length f.said) number (first_hold (record { hold = sync (length f.said); needs = before }) (record { hold = sync number; needs = needs }) [] rest is) in
      let only : rest ≡ [] = only_rest (record { hold = sync (length f.said); needs = before }) (record { hold = sync number; needs = needs }) rest is in
      let asked = last o t body.Sync mode in
      subst (λ (h : List Held). Together start f front back unread before mounted h given) (sym only)
      (told_one (λ (g : List Notice). Together start f front back unread before mounted [] g) [] given (notice.Synced number) are
      (answered (notice.Synced number) (record {
        state = waiting o t body.Sync;
        mode = mode;
        fits = sym same;
        first = asked.0;
        asked = body.Sync;
        said = asked.1;
        answer = refl;
      }) none)
      (silent mounted none (subst (λ (m : Mode). IsSilentAt m mounted) (sym mode) tt)))
  syncs_as number needs rest given _ _ _ last (halts cause mode none some) is are =
      absurd (sync_no_halt number cause (sym (first_hold (record { hold = halt cause; needs = before }) (record { hold = sync number; needs = needs }) [] rest is)))
  syncs_as number needs rest given _ _ _ last (read_fails o t a free counts_before counts_after mode none) is are =
      let cause : Cause = causes.Disk counts_before counts_after in
      absurd (sync_no_halt number cause (sym (first_hold (record { hold = halt cause; needs = before }) (record { hold = sync number; needs = needs }) [] rest is)))
  syncs_as number needs rest given _ _ _ last (unreached state mode u) is are = absurd cc
  syncs_as number needs rest given _ _ _ last (answered n answer none) is are = absurd cc
  syncs_as number needs rest given _ _ _ last (falls call cause mode u count) is are = absurd cc
  syncs_as number needs rest given _ _ _ last (wants call cause mode none count) is are = absurd cc
  syncs_as number needs rest given _ _ _ last (mends call cause i mode none) is are = absurd cc
  syncs_as number needs rest given _ _ _ last (misses call cause again counts_before counts_after older mode none missed count) is are = absurd cc
  syncs_as number needs rest given _ _ _ last (silent s none quiet) is are = absurd cc

  -- A mounting is wanted for a call.
  pub record Wished (held : List Held) (notices : List Notice) : Type 0 where
    pub call : Event
    pub mode : f.mode ≡ down (Some call)
    pub none : unread ≡ []
    pub count : length (missed_of f.incarnation back.downs) ≡ suc (length (calls_down f front))
    pub nothing : held ≡ []
    pub quiet : notices ≡ []

  pub wants_as : (c : Cause) (stand : Stand) (held : List Held) (notices : List Notice) → Together start f front back unread before stand held notices
      → stand ≡ wanted c → Wished held notices
  wants_as c _ _ _ (wants call cause mode none count) is = record { call = call; mode = mode; none = none; count = count; nothing = refl; quiet = refl }
  wants_as c _ _ _ (unreached state mode u) is = absurd cc
  wants_as c _ _ _ (answered n answer none) is = absurd cc
  wants_as c _ _ _ (syncs o t mode none) is = absurd cc
  wants_as c _ _ _ (halts cause mode none some) is = absurd cc
  wants_as c _ _ _ (read_fails o t a free counts_before counts_after mode none) is = absurd cc
  wants_as c _ _ _ (falls call cause mode u count) is = absurd cc
  wants_as c _ _ _ (mends call cause i mode none) is = absurd cc
  wants_as c _ _ _ (misses call cause again counts_before counts_after older mode none missed count) is = absurd cc
  wants_as c _ _ _ (silent s none quiet) is = absurd (never_silent f.mode c (subst (λ (x : Stand). IsSilentAt f.mode x) is quiet))

  -- It stops: what is held isn't durable, and an answer may still be under way.
  pub record Stopped (durable : ℕ) (held : List Held) (notices : List Notice) : Type 0 where
    pub state : State
    pub mode : f.mode ≡ serves state
    pub is_unread : IsUnread f.mode unread ⊎ (unread ≡ [])
    pub none_held : filter (λ h. nat_le h.needs durable) held ≡ []
    pub left_over : IsLeftOver start f unread notices

  dropped : (durable : ℕ) (h : Held) → durable < h.needs → filter (λ (x : Held). nat_le x.needs durable) (h ∷ []) ≡ []
  dropped durable h less = ap (λ (b : Bool). cond b (h ∷ []) []) (lt-leb h.needs durable less)

  pub stops_as : (durable : ℕ) (stand : Stand) (held : List Held) (notices : List Notice) → Together start f front back unread before stand held notices
      → stand ≡ mounted → durable < before → ((call : Option Event) → f.mode ≡ down call → ⊥) → Stopped durable held notices
  stops_as durable _ _ _ (unreached state mode u) is less never =
      record { state = state; mode = mode; is_unread = inl u; none_held = refl; left_over = inl refl }
  stops_as durable _ _ _ (answered n answer none) is less never =
      record { state = answer.state; mode = answer.mode; is_unread = inr none; none_held = refl; left_over = inr (n, refl, answer, none) }
  stops_as durable _ _ _ (syncs o t mode none) is less never = record {
    state = waiting o t body.Sync;
    mode = mode;
    is_unread = inr none;
    none_held = dropped durable (record { hold = sync (length f.said); needs = before }) less;
    left_over = inl refl;
  }
  stops_as durable _ _ _ (halts cause mode none some) is less never = record {
    state = ended cause;
    mode = mode;
    is_unread = inr none;
    none_held = dropped durable (record { hold = halt cause; needs = before }) less;
    left_over = inl refl;
  }
  stops_as durable _ _ _ (read_fails o t a free counts_before counts_after mode none) is less never = record {
    state = waiting o t (body.Ask a free);
    mode = mode;
    is_unread = inr none;
    none_held = dropped durable (record { hold = halt (causes.Disk counts_before counts_after); needs = before }) less;
    left_over = inl refl;
  }
  stops_as durable _ _ _ (silent s none quiet) is less never =
      let now = serves_or_down f.mode never in
      record { state = now.0; mode = now.1; is_unread = inr none; none_held = refl; left_over = inl refl }
  stops_as durable _ _ _ (mends call cause i mode none) is less never = absurd (never (Some call) mode)
  stops_as durable _ _ _ (falls call cause mode u count) is less never = absurd cc
  stops_as durable _ _ _ (wants call cause mode none count) is less never = absurd cc
  stops_as durable _ _ _ (misses call cause again counts_before counts_after older mode none missed count) is less never = absurd cc
