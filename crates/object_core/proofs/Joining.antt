-- Halves that ran apart may be taken to have run together: their steps are put into one order, in which each notice that the front gets was told,
-- and each entry that the back takes was sent.
use Rattle.std.proofs.Common.{◌≡◌, ◌∙◌, ap, sym, refl, subst, inl, inr, ◌⊎◌, ℕ, suc, zero, ◌+◌, ◌≤◌, List, [], ◌∷◌, ◌++◌, append-nil, append_assoc, arith}
use Rattle.std.proofs.lemmas.List.{append_cancel_left}
use Rattle.std.proofs.lemmas.List.Elements.{All-nil}
use Rattle.std.specs.Prelude.{false}
use Rattle.do_tree.specs.Tree.{Script}
use Rattle.storage_map.specs.Contents.{Contents}
use Rattle.timeline.specs.Intake.{FitsMode, Front, Kind, noticed, opened as opens, takes}
use Rattle.timeline.specs.Logs.{fronted}
use Rattle.timeline.specs.declared.entry.Entry.{Entry}
use Rattle.timeline.specs.declared.event.Event.{Event}
use Rattle.timeline.specs.declared.notice.Notice.{Notice}
use Rattle.timeline.specs.declared.notice.Notice.TheVariants as notice
use Rattle.front_half.specs.Standing.{Stood, IsClass, IsTakenBy, is_stopped, kind_in}
use Rattle.front_half.specs.Taking.{Led}
use Rattle.front_half.specs.Turning.{IsTaken}
use Rattle.object_front.specs.declared.evaluated.Evaluated.{Evaluated}
use Rattle.front_half.specs.declared.half.Half.{Half}
use Rattle.object_history.specs.Pair.{Rear}
use Rattle.object_history.specs.Stepping.{BackSteps, IsRear, takes_own, read_fails, takes_down, takes_late, flies, stops, sends, syncs, halts, begins, misses}
use Rattle.front_history.specs.Paired.{ArePaired}
use Rattle.object_core.proofs.Forward.{BackGoes, rests, steps, FrontGoes, stays, moves, FrontSteps, turned, halted}
use Rattle.object_core.proofs.Freeing.{frees, rear_holding, same_first, same_rest, wanted_news, halted_news}
use Rattle.object_core.proofs.Hearing.{not_none}
use Rattle.object_core.proofs.Numbers.{AreFrom, first_from, goes_class}
use Rattle.object_core.proofs.Pairing.{pair_now, taken_now}
use Rattle.object_core.proofs.Waiting.{TakesEntry, own, fell, late, HoldsAnswer, holds_answer}
use Rattle.object_core.specs.Apart.{Meet}

-- A turn gets one notice, or none.
heard_by : (script : Script) (st : Stood) (events later : List Event) (before got told heard : List Notice) (led : Led) → got ≡ before ++ heard
    → IsTaken script st events later before got told led → (heard ≡ []) ⊎ ((n : Notice) × (heard ≡ n ∷ []))
heard_by script st events later before got told heard led came (inl t) = inr (t.notice, append_cancel_left before heard (t.notice ∷ []) (sym came ∙ t.took))
heard_by script st events later before got told heard led came (inr t) = inl (append_cancel_left before heard [] (sym came ∙ t.no_notice ∙ sym (append-nil before)))

-- So each turn of a front does.
turn_heard : (script : Script) (old new : Half Evaluated) (st next : Stood) (events later : List Event) (heard : List Notice)
    → FrontSteps script old new st events later heard next → (heard ≡ []) ⊎ ((n : Notice) × (heard ≡ n ∷ []))
turn_heard script old new st _ events later heard (turned before got told came turned_so) =
    heard_by script st events later before got told heard turned_so.led came turned_so.taken
turn_heard script old new st _ events later heard (halted before got told came halted_so) =
    heard_by script st events later before got told heard halted_so.led came halted_so.taken

-- A step of a back takes one entry, or none.
step_takes : (rear next : Rear) (got : List Entry) (told : List Notice) → BackSteps rear next got told
    → (got ≡ []) ⊎ ((e : Entry) × (got ≡ e ∷ []) × TakesEntry rear e)
step_takes rear _ _ _ (takes_own e map stand is unended) = inr (e, refl, own stand is)
step_takes rear _ _ _ (read_fails e a free counts_before counts_after map stand is unended asks) = inr (e, refl, own stand is)
step_takes rear _ _ _ (takes_down e c map stand is fits) = inr (e, refl, fell c stand is)
step_takes rear _ _ _ (takes_late e map is) = inr (e, refl, late is)
step_takes rear _ _ _ (flies count map) = inl refl
step_takes rear _ _ _ (stops stop held map stand less flown by_append is_held) = inl refl
step_takes rear _ _ _ (sends release map) = inl refl
step_takes rear _ _ _ (syncs number needs rest map is_held) = inl refl
step_takes rear _ _ _ (halts c needs rest stop end map is_held stand flown by_halt) = inl refl
step_takes rear _ _ _ (begins c end before map stand) = inl refl
step_takes rear _ _ _ (misses c counts_before counts_after map stand) = inl refl

-- What may be known of two halves with these under way.
abbrev pub JointOf : Type 1
JointOf = Half Evaluated → Stood → List Event → Rear → List Entry → List Notice → Type 0

-- It is kept by each turn of the front that finds the notice that it gets, and by each step of the back that finds the entry that it takes; and
-- has it that they are paired.
pub record Keeps (script : Script) (class : ℕ) (opened : Contents) (Joint : JointOf) : Type 0 where
  pub meet : (half : Half Evaluated) (st : Stood) (events : List Event) (rear : Rear) (line : List Entry) (notices : List Notice)
      → Joint half st events rear line notices → Meet script class opened st half rear line notices
  pub turn : (old new : Half Evaluated) (st next : Stood) (events later : List Event) (heard left : List Notice) (rear : Rear) (line sent : List Entry)
      → IsRear opened rear → is_stopped old ≡ false → new.log.sent.items ≡ old.log.sent.items ++ sent → FrontSteps script old new st events later heard next
      → IsClass next.class class → Joint old st events rear line (heard ++ left) → Joint new next later rear (line ++ sent) left
  pub step : (half : Half Evaluated) (st : Stood) (events : List Event) (rear next : Rear) (got line : List Entry) (told notices : List Notice)
      → IsRear opened rear → IsRear opened next → BackSteps rear next got told
      → Joint half st events rear (got ++ line) notices → Joint half st events next line (notices ++ told)

module _ (script : Script) (class : ℕ) (opened : Contents) (Joint : JointOf) (keeps : Keeps script class opened Joint) (last : Half Evaluated) (end : Stood)
    (all : List Event) (last_rear : Rear) (is_class : IsClass end.class class) where
  abbrev Goes : ℕ → Half Evaluated → Stood → List Event → List Notice → List Entry → Type 0
  Goes = FrontGoes script last end all

  abbrev Back : ℕ → Rear → List Entry → List Notice → Type 0
  Back = BackGoes opened last_rear

  -- the front has done all, and its back goes on
  back_on : (b : ℕ) (rear : Rear) (taken : List Entry) (told : List Notice) → Back b rear taken told → IsRear opened rear
      → (half : Half Evaluated) (st : Stood) (events : List Event) (line rest_line : List Entry) (notices rest : List Notice) → line ≡ taken ++ rest_line
      → notices ++ told ≡ rest → Joint half st events rear line notices → Joint half st events last_rear rest_line rest
  back_on _ _ _ _ rests known half st events line rest_line notices rest is_line is joint =
      subst (λ (x : List Entry × List Notice). Joint half st events last_rear x.0 x.1) (λ i. (is_line i, (sym (append-nil notices) ∙ is) i)) joint
  back_on _ _ _ _ (steps b rear next got more told after known_then step goes) known half st events line rest_line notices rest is_line is joint =
      back_on b next more after goes known_then half st events (more ++ rest_line) rest_line (notices ++ told) rest refl (append_assoc notices told after ∙ is)
      (keeps.step half st events rear next got (more ++ rest_line) told notices known known_then step
      (subst (λ (l : List Entry). Joint half st events rear l notices) (is_line ∙ append_assoc got more rest_line) joint))

  -- In at most so many steps both come to where they came apart.
  abbrev Meets : ℕ → Type 0
  Meets most = (a b : ℕ) (half : Half Evaluated) (st : Stood) (events : List Event) (heard : List Notice) (sent : List Entry) (rear : Rear) (taken : List Entry)
      (told : List Notice) (line rest_line : List Entry) (notices rest : List Notice) → a + b ≤ most → Goes a half st events heard sent → Back b rear taken told
      → IsRear opened rear → line ++ sent ≡ taken ++ rest_line → notices ++ told ≡ heard ++ rest
      → Joint half st events rear line notices → Joint last end all last_rear rest_line rest

  module _ (most : ℕ) (meets : Meets most) (n : ℕ) (old new : Half Evaluated) (st next : Stood) (events later : List Event) (heard more : List Notice)
      (sent after : List Entry) (on : is_stopped old ≡ false) (logged : new.log.sent.items ≡ old.log.sent.items ++ sent)
      (step : FrontSteps script old new st events later heard next) (goes : Goes n new next later more after) (rest_line : List Entry) (rest : List Notice) where
    abbrev Met : Type 0
    Met = Joint last end all last_rear rest_line rest

    front : Goes (suc n) old st events (heard ++ more) (sent ++ after)
    front = moves n old new st next events later heard more sent after on logged step goes

    -- the front's turn is next
    turn_on : (b : ℕ) (rear : Rear) (taken : List Entry) (told : List Notice) → suc n + b ≤ suc most → Back b rear taken told → IsRear opened rear → (line : List Entry) (notices left : List Notice) → line ++ (sent ++ after) ≡ taken ++ rest_line → notices ≡ heard ++ left
        → left ++ told ≡ more ++ rest → Joint old st events rear line notices → Met
    turn_on b rear taken told less back known line notices left is_line is_left is joint =
        meets n b new next later more after rear taken told (line ++ sent) rest_line left rest (omega (arith, less)) goes back known
        (append_assoc line sent after ∙ is_line) is
        (keeps.turn old new st next events later heard left rear line sent known on logged step (goes_class script class (opens opened.alarm) last end all is_class n new next later more after goes)
        (subst (λ (ns : List Notice). Joint old st events rear line ns) is_left joint))

    -- the back's step is
    back_next : (b : ℕ) (rear then : Rear) (got left : List Entry) (told told_after : List Notice) → suc n + suc b ≤ suc most → IsRear opened then → BackSteps rear then got told → Back b then left told_after → IsRear opened rear
        → (line line_left : List Entry) (notices : List Notice) → line ≡ got ++ line_left → line_left ++ (sent ++ after) ≡ left ++ rest_line
        → notices ++ (told ++ told_after) ≡ (heard ++ more) ++ rest → Joint old st events rear line notices → Met
    back_next b rear then got left told told_after less known_then does back known line line_left notices is_line is_left is joint =
        meets (suc n) b old st events (heard ++ more) (sent ++ after) then left told_after line_left rest_line (notices ++ told) rest (omega (arith, less)) front back
        known_then is_left (append_assoc notices told told_after ∙ is)
        (keeps.step old st events rear then got line_left told notices known known_then does
        (subst (λ (l : List Entry). Joint old st events rear l notices) is_line joint))

    -- Both wait: the answer to a sync is told first.
    sync_first : (b : ℕ) (rear : Rear) (taken : List Entry) (told : List Notice) → suc n + b ≤ suc most → Back b rear taken told → IsRear opened rear → (m : Notice) → heard ≡ m ∷ [] → (e : Entry) (others : List Entry) → TakesEntry rear e → sent ++ after ≡ e ∷ others
        → sent ++ after ≡ taken ++ rest_line → told ≡ m ∷ (more ++ rest) → Joint old st events rear [] [] → Met
    sync_first b rear taken told less back known m is_heard e others takes_it is_sent is_line is joint =
        of (first_from script class from last end all is_class n old new st next events later heard more sent after logged step goes paired.taken by m is_heard)
      where
        from : Front
        from = opens opened.alarm

        k : Kind
        k = kind_in script class

        met : Meet script class opened st old rear [] []
        met = keeps.meet old st events rear [] [] joint

        paired : ArePaired k opened st old rear [] []
        paired = met.paired

        by : IsTakenBy k from paired.taken st.front (fronted old.log)
        by = taken_now k opened st old rear [] [] on met.paired

        freed_on : (h : HoldsAnswer rear m) → Met
        freed_on h =
            let tells : told ≡ notice.Synced h.number ∷ (more ++ rest) = is ∙ ap (λ (x : Notice). x ∷ (more ++ rest)) h.answers in
            let freed = frees opened last_rear h.number h.needs (more ++ rest) b rear taken told back known [] h.held (All-nil (λ x. h.needs ≤ x.needs)) h.less tells in
            let then : Rear = record rear { held = [] } in
            let known_then : IsRear opened then = rear_holding opened rear [] known in
            meets (suc n) freed.0 old st events (heard ++ more) (sent ++ after) then taken (more ++ rest) [] rest_line (notice.Synced h.number ∷ []) rest
            (omega (arith, less, freed.1)) front freed.2 known_then is_line
            (ap (λ (x : Notice). x ∷ (more ++ rest)) (sym h.answers) ∙ ap (λ (ns : List Notice). (ns ++ more) ++ rest) (sym is_heard))
            (keeps.step old st events rear then [] [] (notice.Synced h.number ∷ []) [] known known_then (syncs h.number h.needs [] rear.map h.held) joint)

        of : (FitsMode st.front.said st.front.mode m × AreFrom (takes k st.front (noticed m)).incarnation (sent ++ after)) ⊎ (sent ++ after ≡ []) → Met
        of (inr none) = absurd (not_none e others (sym is_sent ∙ none))
        of (inl fits_from) =
            freed_on
            (holds_answer k opened st.front (fronted old.log) rear m e (met.heard on) fits_from.0 takes_it
            (subst (λ (l : List Entry). AreFrom (takes k st.front (noticed m)).incarnation l) is_sent fits_from.1).0
            (λ want none. wanted_news opened last_rear b rear taken told back want none m (more ++ rest) is)
            (λ c needs held. halted_news opened last_rear b rear taken told back c needs held m (more ++ rest) is) (pair_now k opened st old rear [] [] on met.paired))

    -- The front waits for a notice that isn't told yet.
    waits_on : (m : Notice) → heard ≡ m ∷ [] → (b : ℕ) (rear : Rear) (taken : List Entry) (told : List Notice) → Back b rear taken told → suc n + b ≤ suc most
        → IsRear opened rear → (line : List Entry) → line ++ (sent ++ after) ≡ taken ++ rest_line → told ≡ m ∷ (more ++ rest)
        → Joint old st events rear line [] → Met
    waits_on m is_heard _ _ _ _ rests less known line is_line is joint = absurd (not_none m (more ++ rest) (sym is))
    waits_on m is_heard _ _ _ _ (steps b rear then got left told told_after known_then does back) less known line is_line is joint =
        of (step_takes rear then got told does)
      where
        is_told : told ++ told_after ≡ (heard ++ more) ++ rest
        is_told = is ∙ ap (λ (ns : List Notice). (ns ++ more) ++ rest) (sym is_heard)

        by_line : (e : Entry) → got ≡ e ∷ [] → TakesEntry rear e → (l : List Entry) → l ++ (sent ++ after) ≡ (got ++ left) ++ rest_line → Joint old st events rear l [] → Met
        by_line e is_got takes_it [] is_l joint_l =
            sync_first (suc b) rear (got ++ left) (told ++ told_after) less (steps b rear then got left told told_after known_then does back) known m is_heard e
            (left ++ rest_line) takes_it (is_l ∙ ap (λ (x : List Entry). (x ++ left) ++ rest_line) is_got) is_l is joint_l
        by_line e is_got takes_it (x ∷ l) is_l joint_l =
            let same : x ∷ (l ++ (sent ++ after)) ≡ e ∷ (left ++ rest_line) = is_l ∙ ap (λ (y : List Entry). (y ++ left) ++ rest_line) is_got in
            back_next b rear then got left told told_after less known_then does back known (x ∷ l) l []
            (ap (λ (y : Entry). y ∷ l) (same_first x e (l ++ (sent ++ after)) (left ++ rest_line) same) ∙ ap (λ (y : List Entry). y ++ l) (sym is_got))
            (same_rest x e (l ++ (sent ++ after)) (left ++ rest_line) same) is_told joint_l

        of : (got ≡ []) ⊎ ((e : Entry) × (got ≡ e ∷ []) × TakesEntry rear e) → Met
        of (inl none) =
            back_next b rear then got left told told_after less known_then does back known line line []
            (ap (λ (y : List Entry). y ++ line) (sym none)) (is_line ∙ ap (λ (y : List Entry). (y ++ left) ++ rest_line) none) is_told joint
        of (inr one) = by_line one.0 one.1 one.2 line is_line joint

    -- One of both goes on.
    goes_next : (b : ℕ) (rear : Rear) (taken : List Entry) (told : List Notice) → suc n + b ≤ suc most → Back b rear taken told → IsRear opened rear → (line : List Entry) (notices : List Notice) → line ++ (sent ++ after) ≡ taken ++ rest_line
        → notices ++ told ≡ (heard ++ more) ++ rest → Joint old st events rear line notices → Met
    goes_next b rear taken told less back known line notices is_line is joint = of (turn_heard script old new st next events later heard step)
      where
        by_notices : (m : Notice) → heard ≡ m ∷ [] → (ns : List Notice) → ns ++ told ≡ m ∷ (more ++ rest) → Joint old st events rear line ns → Met
        by_notices m is_heard [] same joint_ns = waits_on m is_heard b rear taken told back less known line is_line same joint_ns
        by_notices m is_heard (x ∷ ns) same joint_ns =
            turn_on b rear taken told less back known line (x ∷ ns) ns is_line
            (ap (λ (y : Notice). y ∷ ns) (same_first x m (ns ++ told) (more ++ rest) same) ∙ ap (λ (y : List Notice). y ++ ns) (sym is_heard))
            (same_rest x m (ns ++ told) (more ++ rest) same) joint_ns

        of : (heard ≡ []) ⊎ ((m : Notice) × (heard ≡ m ∷ [])) → Met
        of (inl none) =
            turn_on b rear taken told less back known line notices notices is_line (ap (λ (y : List Notice). y ++ notices) (sym none))
            (is ∙ ap (λ (y : List Notice). (y ++ more) ++ rest) none) joint
        of (inr one) = by_notices one.0 one.1 notices (is ∙ ap (λ (y : List Notice). (y ++ more) ++ rest) one.1) joint

  -- Nothing is left to do.
  none_left : Meets 0
  none_left _ b _ _ _ _ _ rear taken told line rest_line notices rest less stays back known is_line is joint =
      back_on b rear taken told back known last end all line rest_line notices rest (sym (append-nil line) ∙ is_line) is joint
  none_left _ b _ _ _ _ _ rear taken told line rest_line notices rest less (moves n old new st next events later heard more sent after on logged step goes) back known is_line is joint =
      absurd (omega (arith, less))

  -- One step is made, and the others are fewer.
  some_left : (most : ℕ) → Meets most → Meets (suc most)
  some_left most meets _ b _ _ _ _ _ rear taken told line rest_line notices rest less stays back known is_line is joint =
      back_on b rear taken told back known last end all line rest_line notices rest (sym (append-nil line) ∙ is_line) is joint
  some_left most meets _ b _ _ _ _ _ rear taken told line rest_line notices rest less (moves n old new st next events later heard more sent after on logged step goes) back known
      is_line is joint =
      goes_next most meets n old new st next events later heard more sent after on logged step goes rest_line rest b rear taken told less back known line notices is_line is joint

  -- So both come there.
  pub all_meet : (most : ℕ) → Meets most
  all_meet zero = none_left
  all_meet (suc most) = some_left most (all_meet most)
