-- The runs of halves that ran apart, told from their first steps on.
use Rattle.std.proofs.Common.{◌≡◌, ◌∙◌, ap, sym, subst, inl, inr, ℕ, suc, List, [], ◌∷◌, ◌++◌, append-nil, append_assoc, Option}
use Rattle.std.specs.Prelude.{ℤ, false}
use Rattle.do_tree.specs.Tree.{Script}
use Rattle.storage_map.specs.Contents.{Contents}
use Rattle.timeline.specs.Logs.{fronted}
use Rattle.timeline.specs.declared.entry.Entry.{Entry}
use Rattle.timeline.specs.declared.event.Event.{Event}
use Rattle.timeline.specs.declared.notice.Notice.{Notice}
use Rattle.object_front.specs.Evaluated.{seen}
use Rattle.front_half.specs.Standing.{Stood, IsHalf, fresh, is_stopped, nothing_logged}
use Rattle.front_half.specs.Taking.{Led}
use Rattle.front_half.specs.Turning.{IsTaken, Turns, Halts}
use Rattle.object_front.specs.declared.evaluated.Evaluated.{Evaluated}
use Rattle.front_half.specs.declared.half.Half.{Half}
use Rattle.object_history.specs.Pair.{Rear}
use Rattle.object_history.specs.Stepping.{BackSteps, IsRear}
use Rattle.object_core.specs.Apart.{BackRuns, begins, goes_on, FrontRuns, is_made, turns, halts, IsOpened}

-- What a back does from here on, in so many steps: to where it comes, the entries that it takes and the notices that it tells.
pub data BackGoes (opened : Contents) (last : Rear) : ℕ → Rear → List Entry → List Notice → Type 0 where
  rests : BackGoes opened last 0 last [] []
  steps : (n : ℕ) (rear next : Rear) (got more : List Entry) (told after : List Notice) → IsRear opened next
      → BackSteps rear next got told → BackGoes opened last n next more after → BackGoes opened last (suc n) rear (got ++ more) (told ++ after)

-- One turn of a front, and where it then stands: it goes on, or memory was wanting.
pub data FrontSteps (script : Script) (old new : Half Evaluated) (st : Stood) (events later : List Event) (heard : List Notice) : Stood → Type 0 where
  turned : (before got told : List Notice) → got ≡ before ++ heard → (turns : Turns seen script old new st events later before got told)
      → FrontSteps script old new st events later heard turns.led.stood
  halted : (before got told : List Notice) → got ≡ before ++ heard → (halts : Halts script old new st events later before got told)
      → FrontSteps script old new st events later heard halts.led.stood

-- What a front does from here on, in so many turns: to where it comes, with all the events that it then got, the notices that it gets and
-- the entries that it sends.
pub data FrontGoes (script : Script) (last : Half Evaluated) (end : Stood) (all : List Event)
    : ℕ → Half Evaluated → Stood → List Event → List Notice → List Entry → Type 0 where
  stays : FrontGoes script last end all 0 last end all [] []
  moves : (n : ℕ) (old new : Half Evaluated) (st next : Stood) (events later : List Event) (heard more : List Notice) (sent after : List Entry)
      → is_stopped old ≡ false → new.log.sent.items ≡ old.log.sent.items ++ sent → FrontSteps script old new st events later heard next
      → FrontGoes script last end all n new next later more after → FrontGoes script last end all (suc n) old st events (heard ++ more) (sent ++ after)

-- ---- the back
-- What is known of a back is so after each run.
runs_rear : (opened : Contents) (rear : Rear) (taken : List Entry) (told : List Notice) → BackRuns opened rear taken told → IsRear opened rear
runs_rear opened rear _ _ (begins _ is) = is.is_rear
runs_rear opened rear _ _ (goes_on old _ taken got told more runs known step) = known

-- All that a back did, from its opening on.
pub record BackWent (opened : Contents) (last : Rear) (taken : List Entry) (told : List Notice) : Type 0 where
  pub first : Rear
  pub is_opened : IsOpened opened first
  pub count : ℕ
  pub goes : BackGoes opened last count first taken told

module _ (opened : Contents) (last : Rear) where
  -- A run of a back, and what it does from there on.
  back_from : (rear : Rear) (taken : List Entry) (told : List Notice) → BackRuns opened rear taken told → (n : ℕ) (more : List Entry) (after : List Notice)
      → BackGoes opened last n rear more after → BackWent opened last (taken ++ more) (told ++ after)
  back_from _ _ _ (begins rear is) n more after goes = record { first = rear; is_opened = is; count = n; goes = goes }
  back_from _ _ _ (goes_on rear later taken got told heard runs known step) n more after goes =
      subst (λ (x : List Entry × List Notice). BackWent opened last x.0 x.1)
      (λ i. (sym (append_assoc taken got more) i, sym (append_assoc told heard after) i))
      (back_from rear taken told runs (suc n) (got ++ more) (heard ++ after)
      (steps n rear later got more heard after known step goes))

-- So all of its run.
pub back_went : (opened : Contents) (rear : Rear) (taken : List Entry) (told : List Notice) → BackRuns opened rear taken told
    → BackWent opened rear taken told
back_went opened rear taken told runs =
    subst (λ (x : List Entry × List Notice). BackWent opened rear x.0 x.1) (λ i. (append-nil taken i, append-nil told i))
    (back_from opened rear rear taken told runs 0 [] [] rests)

-- ---- the front
-- What a turn got of the notices.
taken_heard : (script : Script) (st : Stood) (events later : List Event) (before got told : List Notice) (led : Led)
    → IsTaken script st events later before got told led → (heard : List Notice) × (got ≡ before ++ heard)
taken_heard script st events later before got told led (inl t) = (t.notice ∷ [], t.took)
taken_heard script st events later before got told led (inr t) = ([], t.no_notice ∙ sym (append-nil before))

module _ (script : Script) (first : Option ℕ) (alarm : Option (ℤ × ℕ)) (last : Half Evaluated) (end : Stood) (all : List Event) where
  -- All that a front did, from when it was made.
  pub record FrontWent (got : List Notice) (sent : List Entry) : Type 0 where
    pub half : Half Evaluated
    pub stands : IsHalf seen script half (fresh first alarm)
    pub unlogged : fronted half.log ≡ nothing_logged
    pub count : ℕ
    pub goes : FrontGoes script last end all count half (fresh first alarm) [] got sent

  -- A run of a front, and what it does from there on.
  front_from : (half : Half Evaluated) (st : Stood) (events : List Event) (got : List Notice) (sent : List Entry)
      → FrontRuns script first alarm half st events got sent → (n : ℕ) (more : List Notice) (after : List Entry)
      → FrontGoes script last end all n half st events more after → FrontWent (got ++ more) (sent ++ after)
  front_from _ _ _ _ _ (is_made half stands unlogged) n more after goes = record { half = half; stands = stands; unlogged = unlogged; count = n; goes = goes }
  front_from _ _ _ _ _ (turns old new st events later_events notices later told line sent runs on turned_so logged) n more after goes =
      let h = taken_heard script st events later_events notices later told turned_so.led turned_so.taken in
      subst (λ (x : List Notice × List Entry). FrontWent x.0 x.1)
      (λ i. ((sym (append_assoc notices h.0 more) ∙ ap (λ (l : List Notice). l ++ more) (sym h.1)) i, sym (append_assoc line sent after) i))
      (front_from old st events notices line runs (suc n) (h.0 ++ more) (sent ++ after)
      (moves n old new st turned_so.led.stood events later_events h.0 more sent after on logged (turned notices later told h.1 turned_so) goes))
  front_from _ _ _ _ _ (halts old new st events later_events notices later told line sent runs on halted_so logged) n more after goes =
      let h = taken_heard script st events later_events notices later told halted_so.led halted_so.taken in
      subst (λ (x : List Notice × List Entry). FrontWent x.0 x.1)
      (λ i. ((sym (append_assoc notices h.0 more) ∙ ap (λ (l : List Notice). l ++ more) (sym h.1)) i, sym (append_assoc line sent after) i))
      (front_from old st events notices line runs (suc n) (h.0 ++ more) (sent ++ after)
      (moves n old new st halted_so.led.stood events later_events h.0 more sent after on logged (halted notices later told h.1 halted_so) goes))

-- So all of its run.
pub front_went : (script : Script) (first : Option ℕ) (alarm : Option (ℤ × ℕ)) (half : Half Evaluated) (st : Stood) (events : List Event) (got : List Notice)
    (sent : List Entry) → FrontRuns script first alarm half st events got sent → FrontWent script first alarm half st events got sent
front_went script first alarm half st events got sent runs =
    subst (λ (x : List Notice × List Entry). FrontWent script first alarm half st events x.0 x.1) (λ i. (append-nil got i, append-nil sent i))
    (front_from script first alarm half st events half st events got sent runs 0 [] [] stays)
