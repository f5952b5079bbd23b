-- What a crash leaves, as the lines grow and the disk is called.
use Rattle.std.proofs.Common.{◌≡◌, ◌∙◌, ap, sym, subst, inl, inr, ⊎_elim, ℕ, ◌≤◌, List, [], ◌∷◌, ◌++◌, length, length-append, take, arith, Option}
use Rattle.std.proofs.Math.Seq.{take-length}
use Rattle.std.proofs.lemmas.List.{take-append-le}
use Rattle.std.proofs.lemmas.List.Elements.{All-head, All-tail}
use Rattle.std.specs.List.{All}
use Rattle.batch_journal.specs.Frames.{Frame, batches_in}
use Rattle.batch_journal.specs.Moments.{LeavesOnly}
use Rattle.batch_journal.specs.Recovery.{Recovers}
use Rattle.storage_map.specs.Limits.{Object}
use Rattle.storage_map.specs.declared.op.Op.{Op}
use Rattle.timeline.specs.History.{Incarnation, History, line}
use Rattle.timeline.specs.Passed.{Passed}
use Rattle.timeline.specs.declared.back_log.Release.{Release}
use Rattle.output_gate.specs.Kept.{NameOnly, RecoversTo, RecoversToPrefix, RecoversToLine, HasLeft, HaveLeft}

module _ (object : Option Object) (start : List (List Op)) where
  -- a prefix of the line is one of a longer line
  pub longer_line : (of more : List (List Op)) (least : ℕ) (c : List ℕ) → RecoversToPrefix object start of least c → RecoversToPrefix object start (of ++ more) least c
  longer_line of more least c held =
      let within : held.0 ≤ length of = held.2 in
      let same : take held.0 (of ++ more) ≡ take held.0 of = take-append-le held.0 of more within in
      (held.0, held.1, omega (arith, length-append of more), subst (λ taken. RecoversTo object (start ++ taken) c) (sym same) held.3)

  -- one that has many batches has fewer
  pub fewer : (of : List (List Op)) (least most : ℕ) (c : List ℕ) → least ≤ most → RecoversToPrefix object start of most c → RecoversToPrefix object start of least c
  fewer of least most c le held = (held.0, omega (arith, le, held.1), held.2, held.3)

  -- frames that have the first so many batches of a line
  pub first_of : (flown more : List (List Op)) (frames : List Frame) (c : List ℕ) → Recovers c frames → NameOnly object frames → batches_in frames ≡ start ++ flown
      → RecoversToPrefix object start (flown ++ more) (length flown) c
  first_of flown more frames c recovers named is =
      longer_line flown more (length flown) c (length flown, omega arith, omega arith, (frames, recovers, named, is ∙ ap (λ taken. start ++ taken) (sym (take-length flown))))

  -- what was a prefix of a line is one of a line of the later history
  abbrev pub Grows : History → History → Type 0
  Grows old new = (since least : ℕ) (c : List ℕ) → RecoversToLine object start since old least c → RecoversToLine object start since new least c

  pub grows_same : (h : History) → Grows h h
  grows_same h since least c held = held

  pub grows_newer : (i : Incarnation) (h : History) → Grows h (i ∷ h)
  grows_newer i h since least c held = inr held

  pub grows_at : (i later : Incarnation) (older older_later : History) (more : List (List Op)) → later.number ≡ i.number → line (later ∷ older_later) ≡ line (i ∷ older) ++ more
      → Grows older older_later → Grows (i ∷ older) (later ∷ older_later)
  grows_at i later older older_later more same longer below since least c (inl held) =
      inl (omega (arith, same, held.0), subst (λ of. RecoversToPrefix object start of least c) (sym longer) (longer_line (line (i ∷ older)) more least c held.1))
  grows_at i later older older_later more same longer below since least c (inr held) = inr (below since least c held)

  module _ {D : Type 0} (moment_of : D → ℕ) (left_since : D → ℕ → List ℕ → Type 0) where
    -- A step: the history grows, and what the calls of the disk leave is a prefix of a line, wherever so many batches of an
    -- incarnation up to this number are asked for.
    abbrev pub Covers : History → ℕ → ℕ → (List ℕ → Type 0) → Type 0
    Covers h newest durable P = (c : List ℕ) → P c → (since least : ℕ) → since ≤ newest → least ≤ durable → RecoversToLine object start since h least c

    pub have_left : (old new : D) (h later : History) (newest durable : ℕ) (P : List ℕ → Type 0) (released : List Release) (left : List Passed)
        → Grows h later → LeavesOnly moment_of left_since old new P → Covers later newest durable P
        → All (λ p. p.since ≤ newest) left → All (λ p. p.needs ≤ durable) left
        → HaveLeft moment_of left_since object start old h released left → HaveLeft moment_of left_since object start new later released left
    have_left old new h later newest durable P [] [] grows leaves covers since needs held = tt
    have_left old new h later newest durable P [] (p ∷ left) grows leaves covers since needs held = elim held [ ]
    have_left old new h later newest durable P (release ∷ released) [] grows leaves covers since needs held = elim held [ ]
    have_left old new h later newest durable P (release ∷ released) (p ∷ left) grows leaves covers since needs held =
        let here : HasLeft moment_of left_since object start old h release p = held.0 in (
          record {
            message = here.message;
            needs = here.needs;
            earlier = omega (arith, here.earlier, leaves.later);
            images = λ c now. ⊎_elim (λ past. grows p.since p.needs c (here.images c past))
                (λ one. covers c one p.since p.needs (All-head (λ (x : Passed). x.since ≤ newest) p left since) (All-head (λ (x : Passed). x.needs ≤ durable) p left needs))
                (leaves.before release.moment c here.earlier now);
          },
          have_left old new h later newest durable P released left grows leaves covers
              (All-tail (λ (x : Passed). x.since ≤ newest) p left since) (All-tail (λ (x : Passed). x.needs ≤ durable) p left needs) held.1,
        )

    -- one more leaves
    pub leaves_now : (disk : D) (h : History) (released : List Release) (left : List Passed) (release : Release) (p : Passed)
        → HaveLeft moment_of left_since object start disk h released left → HasLeft moment_of left_since object start disk h release p
        → HaveLeft moment_of left_since object start disk h (released ++ release ∷ []) (left ++ p ∷ [])
    leaves_now disk h [] [] release p held now = (now, tt)
    leaves_now disk h [] (q ∷ left) release p held now = elim held [ ]
    leaves_now disk h (r ∷ released) [] release p held now = elim held [ ]
    leaves_now disk h (r ∷ released) (q ∷ left) release p held now = (held.0, leaves_now disk h released left release p held.1 now)
