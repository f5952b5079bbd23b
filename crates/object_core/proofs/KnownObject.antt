-- The object that is bound is bound by an entry of the incarnation that is mounted.
use Rattle.std.proofs.Common.{◌≡◌, ◌∙◌, ap, sym, subst, refl, inl, inr, ⊎_elim, true≢false, ℕ, zero, suc, ◌-◌, ◌<◌, List, [], ◌∷◌, ◌++◌, length, arith, Option, Some, None}
use Rattle.std.proofs.lemmas.Bool.{eqb-true, ltb-true}
use Rattle.std.proofs.lemmas.List.Elements.{All-nil, All-cons, All-contains}
use Rattle.std.specs.Prelude.{Bool, true, false, not, cond, ◌==◌, nat_lt, if◌then◌else◌, slice_get}
use Rattle.std.specs.List.{All}
use Rattle.storage_map.specs.declared.op.Op.{Op}
use Rattle.timeline.specs.History.{entries_of, incarnation_at, incarnations, batches_in}
use Rattle.timeline.specs.Logs.{Fronted, Backed, backed}
use Rattle.timeline.specs.Passed.{discards}
use Rattle.timeline.specs.Told.{Said, said_by, spoken, batches_of}
use Rattle.timeline.specs.declared.back_log.Stop.{Stop}
use Rattle.timeline.specs.declared.entry.Body.{Body}
use Rattle.timeline.specs.declared.entry.Body.TheVariants as body
use Rattle.timeline.specs.declared.entry.Entry.{Entry}
use Rattle.output_gate.specs.Ended.{AreInOrder, Marks, HasEnded, HaveEnded, IsEnding, AreEnding, halts_as, last_stop, newest_as, newest_of}
use Rattle.output_gate.specs.Fits.{IsAsk, comes_behind, is_halt, last_of}
use Rattle.output_gate.specs.Serving.{IsBackAs, marks_of}
use Rattle.output_gate.specs.declared.back.Back.{Back}
use Rattle.object_core.specs.Fitting.{known_by, known_over, FitsKnown, AreFit}

-- What is known stays known.
known_still : (b : Body) → known_by b true ≡ true
known_still (body.Bind identity) = refl
known_still (body.Batch ops tail confirmed) = refl
known_still (body.Ask ask free) = refl
known_still body.Sync = refl
known_still (body.Message sent) = refl
known_still (body.Halt c) = refl
known_still body.Mend = refl

known_on : (entries : List Entry) → known_over true entries ≡ true
known_on [] = refl
known_on (e ∷ entries) = ap (λ (k : Bool). known_over k entries) (known_still e.body) ∙ known_on entries

-- Where the object isn't known nothing was written.
says_no_batch : (here : Bool) (e : Entry) (rest : List Entry) → batches_of (said_by e.body) ≡ [] → ((xs : List Said) → batches_of (said_by e.body ++ xs) ≡ batches_of xs)
    → batches_in rest ≡ [] → batches_in (cond here (e ∷ rest) rest) ≡ []
says_no_batch true e rest none adds empty = adds (spoken rest) ∙ empty
says_no_batch false e rest none adds empty = empty

abbrev Writes : Bool → ℕ → Option Entry → List Entry → Type 0
Writes known i last entries = AreFit known last entries → known_over known entries ≡ false → batches_in (entries_of i entries) ≡ []

one_unwritten : (i : ℕ) (b : Body) (e : Entry) (entries : List Entry) → e.body ≡ b → FitsKnown false b → known_over (known_by b false) entries ≡ false
    → (known_by b false ≡ false → batches_in (entries_of i entries) ≡ []) → batches_in (entries_of i (e ∷ entries)) ≡ []
one_unwritten i (body.Batch ops tail confirmed) e entries is fits unknown rest = absurd (true≢false (sym fits))
one_unwritten i (body.Bind identity) e entries is fits unknown rest = absurd (true≢false (sym (known_on entries) ∙ unknown))
one_unwritten i (body.Ask ask free) e entries is fits unknown rest =
    says_no_batch (e.incarnation == i) e (entries_of i entries) (ap (λ (x : Body). batches_of (said_by x)) is) (λ xs. ap (λ (x : Body). batches_of (said_by x ++ xs)) is) (rest refl)
one_unwritten i body.Sync e entries is fits unknown rest =
    says_no_batch (e.incarnation == i) e (entries_of i entries) (ap (λ (x : Body). batches_of (said_by x)) is) (λ xs. ap (λ (x : Body). batches_of (said_by x ++ xs)) is) (rest refl)
one_unwritten i (body.Message sent) e entries is fits unknown rest =
    says_no_batch (e.incarnation == i) e (entries_of i entries) (ap (λ (x : Body). batches_of (said_by x)) is) (λ xs. ap (λ (x : Body). batches_of (said_by x ++ xs)) is) (rest refl)
one_unwritten i (body.Halt c) e entries is fits unknown rest =
    says_no_batch (e.incarnation == i) e (entries_of i entries) (ap (λ (x : Body). batches_of (said_by x)) is) (λ xs. ap (λ (x : Body). batches_of (said_by x ++ xs)) is) (rest refl)
one_unwritten i body.Mend e entries is fits unknown rest =
    says_no_batch (e.incarnation == i) e (entries_of i entries) (ap (λ (x : Body). batches_of (said_by x)) is) (λ xs. ap (λ (x : Body). batches_of (said_by x ++ xs)) is) (rest refl)

pub unwritten : (known : Bool) (i : ℕ) (last : Option Entry) (entries : List Entry) → Writes known i last entries
unwritten known i last [] fit unknown = refl
unwritten true i last (e ∷ entries) fit unknown =
    absurd (true≢false (sym (known_on entries) ∙ ap (λ (k : Bool). known_over k entries) (sym (known_still e.body)) ∙ unknown))
unwritten false i last (e ∷ entries) fit unknown =
    one_unwritten i e.body e entries refl fit.1 unknown
    (λ same. unwritten false i (Some e) entries (subst (λ (k : Bool). AreFit k (Some e) entries) same fit.2)
    (ap (λ (k : Bool). known_over k entries) (sym same) ∙ unknown))

-- Nor was anything read.
no_ask : (b : Body) → FitsKnown false b → IsAsk b → ⊥
no_ask (body.Ask ask free) fits asks = true≢false (sym fits)
no_ask (body.Bind identity) fits asks = asks
no_ask (body.Batch ops tail confirmed) fits asks = asks
no_ask body.Sync fits asks = asks
no_ask (body.Message sent) fits asks = asks
no_ask (body.Halt c) fits asks = asks
no_ask body.Mend fits asks = asks

abbrev AsksNothing : Entry → Type 0
AsksNothing e = IsAsk e.body → ⊥

all_here : (here : Bool) (e : Entry) (rest : List Entry) → AsksNothing e → All AsksNothing rest → All AsksNothing (cond here (e ∷ rest) rest)
all_here true e rest none all = All-cons AsksNothing e rest none all
all_here false e rest none all = all

unasked : (known : Bool) (i : ℕ) (last : Option Entry) (entries : List Entry) → AreFit known last entries → known_over known entries ≡ false
    → All AsksNothing (entries_of i entries)
unasked known i last [] fit unknown = All-nil AsksNothing
unasked true i last (e ∷ entries) fit unknown =
    absurd (true≢false (sym (known_on entries) ∙ ap (λ (k : Bool). known_over k entries) (sym (known_still e.body)) ∙ unknown))
unasked false i last (e ∷ entries) fit unknown =
    by_known (known_by e.body false) refl (λ is. unasked false i (Some e) entries (subst (λ (k : Bool). AreFit k (Some e) entries) is fit.2)
    (sym (ap (λ (k : Bool). known_over k entries) is) ∙ unknown))
  where
    by_known : (known : Bool) → known_by e.body false ≡ known → (known_by e.body false ≡ false → All AsksNothing (entries_of i entries))
        → All AsksNothing (entries_of i (e ∷ entries))
    by_known true is rest = absurd (true≢false (sym (ap (λ (k : Bool). known_over k entries) is ∙ known_on entries) ∙ unknown))
    by_known false is rest = all_here (e.incarnation == i) e (entries_of i entries) (no_ask e.body fit.1) (rest is)

not_so : (b : Bool) → not b ≡ true → b ≡ true → ⊥
not_so true is so = true≢false (sym is)
not_so false is so = true≢false (sym so)

-- An entry may stand behind one of no lower incarnation only where that is of the same one and no halt.
behind_same : (same : Bool) (x e : Entry) → (x.incarnation == e.incarnation) ≡ same
    → (if same then not (is_halt x.body) else nat_lt x.incarnation e.incarnation) ≡ true → (x.incarnation < e.incarnation → ⊥)
    → (x.incarnation ≡ e.incarnation) × (not (is_halt x.body) ≡ true)
behind_same true x e is comes no_less = (eqb-true x.incarnation e.incarnation is, comes)
behind_same false x e is comes no_less = absurd (no_less (ltb-true x.incarnation e.incarnation comes))

-- The newest incarnation that has ended without discarding anything ended by a halt, where nothing of a newer one was taken.
abbrev pub EndsByHalt : Backed → Type 0
EndsByHalt log = (stop : Stop) → last_stop log.stops ≡ Some stop → discards stop.cause stop.read ≡ false → newest_of log.taken ≡ length log.stops
    → halts_as (last_of log.taken) ≡ true

module _ (log : Backed) (e : Entry) (first : Bool) (fit : AreFit first None log.taken) (comes : comes_behind (last_of log.taken) e ≡ true)
    (unknown : known_over first log.taken ≡ false) (ordered : AreInOrder log.taken log.stops) (halts : EndsByHalt log) (marks : Marks) (front : Fronted)
    (ended : (m : ℕ) → length log.stops ≡ suc m → HasEnded marks (incarnation_at front log m) (incarnations front log m)) where
  -- The incarnation before the newest isn't that of an entry behind which nothing is known: it ended by a halt, or wrote, or read.
  end_is : (m : ℕ) (x : Entry) → length log.stops ≡ suc m → last_of log.taken ≡ Some x → x.incarnation ≡ suc m → not (is_halt x.body) ≡ true → ⊥
  end_is m x stops last own goes = by_stop (discards (ended m stops).stop.cause (ended m stops).stop.read) refl
    where
      by_stop : (d : Bool) → discards (ended m stops).stop.cause (ended m stops).stop.read ≡ d → ⊥
      by_stop true is = by_read (ended m stops).stop.read refl
        where
          by_read : (read : Bool) → (ended m stops).stop.read ≡ read → ⊥
          by_read false append =
              absurd (omega (arith, (ended m stops).lost is append, ap (λ (bs : List (List Op)). length bs) (unwritten first (suc m) None log.taken fit unknown)))
          by_read true read =
              let a = (ended m stops).asked read in
              All-contains AsksNothing (entries_of (suc m) log.taken) a.0 (unasked first (suc m) None log.taken fit unknown) a.1 a.2
      by_stop false is =
          let at : length log.stops - 1 ≡ m = omega (arith, stops) in
          not_so (is_halt x.body) goes
          (sym (ap halts_as last)
          ∙ halts (ended m stops).stop (ap (λ (n : ℕ). slice_get log.stops n) at ∙ (ended m stops).stopped) is
          (ap newest_as last ∙ own ∙ sym stops))

  by_last : (last : Option Entry) → last_of log.taken ≡ last → comes_behind last e ≡ true → length log.stops ≡ e.incarnation → ⊥
  by_last None is comes_none stops =
      let some : 0 < e.incarnation = ltb-true 0 e.incarnation comes_none in
      absurd (omega (arith, some, stops, ordered.newest, ap newest_as is))
  by_last (Some x) is comes_some stops = by_number (length log.stops) refl
    where
      both : (x.incarnation ≡ e.incarnation) × (not (is_halt x.body) ≡ true)
      both = behind_same (x.incarnation == e.incarnation) x e refl comes_some (λ less. absurd (omega (arith, less, stops, ordered.newest, ap newest_as is)))

      by_number : (n : ℕ) → length log.stops ≡ n → ⊥
      by_number zero none = absurd (omega (arith, ordered.numbered x is, both.0, stops, none))
      by_number (suc m) some = end_is m x some is (both.0 ∙ sym stops ∙ some) both.1

  pub never_late : length log.stops ≡ e.incarnation → ⊥
  never_late stops = by_last (last_of log.taken) refl comes stops

module _ {D : Type 0} (moment_of : D → ℕ) (left_since : D → ℕ → List ℕ → Type 0) (told : D → Option (List ℕ)) (image : D → List ℕ → Type 0) (faults_of : D → ℕ)
    (start : List (List Op)) (opening : ℕ) (sound : Bool) (front : Fronted) (back : Back D) where
  abbrev log : Backed
  log = backed back.log

  pub in_order : IsBackAs moment_of left_since told image faults_of start opening sound back → AreInOrder log.taken log.stops
  in_order (inl m) = m.logged.ordered
  in_order (inr u) = u.logged.ordered

  pub has_ended : IsBackAs moment_of left_since told image faults_of start opening sound back → (m : ℕ) → length log.stops ≡ suc m
      → HasEnded (marks_of back) (incarnation_at front log m) (incarnations front log m)
  has_ended (inl mounted) m stops =
      subst (λ (n : ℕ). HaveEnded (marks_of back) (incarnations front log n)) stops (mounted.logged.placed front).ended
  has_ended (inr u) m stops =
      let ending : IsEnding u.ending (marks_of back) (incarnation_at front log m) (incarnations front log m) =
      subst (λ (n : ℕ). AreEnding u.ending (marks_of back) (incarnations front log n)) stops (u.logged.ended front) in
      ending.ended

  pub number_is : IsBackAs moment_of left_since told image faults_of start opening sound back → back.number ≡ suc (length log.stops)
  number_is (inl m) = m.safe.room.number
  number_is (inr u) = u.safe.number

  -- The incarnation that has ended last, where it discards nothing, ended by a halt.
  pub ends_by_halt : IsBackAs moment_of left_since told image faults_of start opening sound back → EndsByHalt log
  ends_by_halt known stop last none newest = (in_order known).halted stop last none newest
