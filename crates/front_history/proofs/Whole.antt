-- What a front that goes on has said is whole where it waits for no notice.
use Rattle.std.proofs.Common.{◌≡◌, ◌∙◌, ap, subst, ℕ, suc, false, List, [], ◌++◌, append-nil, arith}
use Rattle.std.specs.List.{flat_map}
use Rattle.storage_map.specs.Contents.{Contents}
use Rattle.timeline.specs.Headline.{IsPrefix, parts_of}
use Rattle.timeline.specs.History.{entries_of, incarnation_at, incarnations, resets}
use Rattle.timeline.specs.Intake.{Kind, Front}
use Rattle.timeline.specs.Laws.{IsAtRest}
use Rattle.timeline.specs.Logs.{Fronted, fronted}
use Rattle.timeline.specs.Told.{spoken, spoken_in}
use Rattle.timeline.specs.declared.entry.Entry.{Entry}
use Rattle.timeline.specs.declared.notice.Notice.{Notice}
use Rattle.front_half.specs.Standing.{Stood, is_stopped}
use Rattle.front_half.specs.declared.half.Half.{Half}
use Rattle.object_history.proofs.Whole.{pair_begins_so, pair_is_whole}
use Rattle.object_history.specs.Laws.{TellingTells}
use Rattle.object_history.specs.Pair.{Rear, IsPair}
use Rattle.front_history.specs.Paired.{ArePaired, logged_with}

-- A log with nothing unsent.
all_logged : (log : Fronted) (unsent : List Entry) → unsent ≡ [] → logged_with log unsent ≡ log
all_logged log unsent none = ap (logged_with log) none ∙ ap (λ (sent : List Entry). record log { sent = sent }) (append-nil log.sent)

module _ {T : Type 0} (k : Kind) (opened : Contents) (st : Stood) (half : Half T) (rear : Rear) (line : List Entry) (notices : List Notice) (below : ℕ)
    (runs : is_stopped half ≡ false) (paired : ArePaired k opened st half rear line notices) (number : st.front.incarnation ≡ suc below) where
  abbrev log : Fronted
  log = fronted half.log

  -- The front is a pair with its back as it stands.
  as_it_stands : IsPair k opened st.front log rear (line ++ paired.unsent) (paired.missed ++ notices)
  as_it_stands =
      subst (λ (front : Fronted). IsPair k opened st.front front rear (line ++ paired.unsent) (paired.missed ++ notices))
      (all_logged log paired.unsent (paired.sent_all runs))
      (subst (λ (f : Front). IsPair k opened f (logged_with log paired.unsent) rear (line ++ paired.unsent) (paired.missed ++ notices))
      (paired.stands runs) paired.pair)

  same_below : as_it_stands.below ≡ below
  same_below = omega (arith, as_it_stands.number, number)

  pub begins_so : IsPrefix (spoken_in (resets (incarnations log rear.log below))) (spoken (entries_of (suc below) log.sent))
  begins_so =
      subst (λ (n : ℕ). IsPrefix (spoken_in (resets (incarnations log rear.log n))) (spoken (entries_of (suc n) log.sent))) same_below
      (pair_begins_so k opened st.front log rear (line ++ paired.unsent) (paired.missed ++ notices) as_it_stands)

  pub is_whole : TellingTells → IsAtRest st.front.mode
      → spoken (entries_of (suc below) log.sent)
      ≡ flat_map (λ part. part) (parts_of k.script k.class opened log rear.log (incarnation_at log rear.log below) (incarnations log rear.log below))
  is_whole tells rests =
      subst (λ (n : ℕ). spoken (entries_of (suc n) log.sent)
      ≡ flat_map (λ part. part) (parts_of k.script k.class opened log rear.log (incarnation_at log rear.log n) (incarnations log rear.log n))) same_below
      (pair_is_whole k opened st.front log rear (line ++ paired.unsent) (paired.missed ++ notices) as_it_stands tells rests)
