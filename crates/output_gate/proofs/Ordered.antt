-- Entries come in order.
use Rattle.std.proofs.Common.{◌≡◌, ◌∙◌, ap, sym, refl, ⊎_elim, ℕ, suc, ◌<◌, ◌≤◌, List, [], ◌∷◌, ◌++◌, length, arith, Option, Some, None}
use Rattle.std.proofs.lemmas.Bool.{eq-eqb, eqb-true, ltb-true}
use Rattle.std.proofs.lemmas.Bool.Decides.{leb_tells}
use Rattle.std.proofs.lemmas.List.{length_push}
use Rattle.std.proofs.lemmas.List.Elements.{All-nil, All-push}
use Rattle.std.specs.Prelude.{Bool, true, false, not, nat_lt, ◌==◌, slice_get, if◌then◌else◌}
use Rattle.std.specs.List.{All}
use Rattle.timeline.specs.History.{batches_in, entries_of}
use Rattle.timeline.specs.Passed.{discards}
use Rattle.timeline.specs.declared.back_log.Stop.{Stop}
use Rattle.timeline.specs.declared.entry.Entry.{Entry}
use Rattle.output_gate.specs.Ended.{newest_as, newest_of, halts_as, last_stop, AreInOrder}
use Rattle.output_gate.specs.Fits.{is_halt, last_of, comes_behind}
use Rattle.output_gate.proofs.Helds.{true_false}
use Rattle.output_gate.proofs.Histories.{get_last, entries_none}

-- the last entry of a longer log, and the last stop
pub last_push : (entries : List Entry) (e : Entry) → last_of (entries ++ e ∷ []) ≡ Some e
last_push entries e = ap (slice_get (entries ++ e ∷ [])) (omega (arith, length_push entries e)) ∙ get_last entries e

pub newest_push : (entries : List Entry) (e : Entry) → newest_of (entries ++ e ∷ []) ≡ e.incarnation
newest_push entries e = ap newest_as (last_push entries e)

pub stop_push : (stops : List Stop) (stop : Stop) → last_stop (stops ++ stop ∷ []) ≡ Some stop
stop_push stops stop = ap (slice_get (stops ++ stop ∷ [])) (omega (arith, length_push stops stop)) ∙ get_last stops stop

abbrev stop_or : Option Stop → Stop → Stop
stop_or None other = other
stop_or (Some stop) other = stop

pub same_stop : (one other : Stop) → Some one ≡ Some other → one ≡ other
same_stop one other same = ap (λ (o : Option Stop). stop_or o one) same

abbrev entry_or : Option Entry → Entry → Entry
entry_or None other = other
entry_or (Some e) other = e

same_entry : (one other : Entry) → Some one ≡ Some other → one ≡ other
same_entry one other same = ap (λ (o : Option Entry). entry_or o one) same

-- an entry that may come is of no earlier incarnation than the last, and of a later one than a halt
comes_if : (last e : Entry) (b : Bool) → (last.incarnation == e.incarnation) ≡ b → (if b then not (is_halt last.body) else nat_lt last.incarnation e.incarnation) ≡ true
    → last.incarnation ≤ e.incarnation
comes_if last e true same comes = omega (arith, eqb-true last.incarnation e.incarnation same)
comes_if last e false other comes = omega (arith, ltb-true last.incarnation e.incarnation comes)

pub comes_after : (o : Option Entry) (e : Entry) → comes_behind o e ≡ true → newest_as o ≤ e.incarnation
comes_after None e comes = omega arith
comes_after (Some last) e comes = comes_if last e (last.incarnation == e.incarnation) refl comes

pub no_halt : (last : Entry) (e : Entry) → last.incarnation ≡ e.incarnation → is_halt last.body ≡ true → comes_behind (Some last) e ≡ true → ⊥
no_halt last e same halts comes =
    true_false (sym comes ∙ ap (λ (b : Bool). if b then not (is_halt last.body) else nat_lt last.incarnation e.incarnation) (eq-eqb last.incarnation e.incarnation same) ∙ ap not halts)

no_last_halt : (o : Option Entry) (e : Entry) → halts_as o ≡ true → newest_as o ≡ e.incarnation → comes_behind o e ≡ true → ⊥
no_last_halt None e halts same comes = true_false (sym halts)
no_last_halt (Some last) e halts same comes = no_halt last e same halts comes

-- an entry that may come is numbered
comes_numbered : (o : Option Entry) (e : Entry) → ((last : Entry) → o ≡ Some last → 0 < last.incarnation) → comes_behind o e ≡ true → 0 < e.incarnation
comes_numbered None e numbered comes = ltb-true 0 e.incarnation comes
comes_numbered (Some last) e numbered comes = omega (arith, numbered last refl, comes_after (Some last) e comes)

-- one of the newest incarnation
pub order_own : (taken : List Entry) (stops : List Stop) (e : Entry) → All (λ x. x.incarnation ≤ suc (length stops)) taken → e.incarnation ≡ suc (length stops)
    → AreInOrder (taken ++ e ∷ []) stops
order_own taken stops e begun own =
    let now = newest_push taken e in record {
      numbered = λ x is. omega (arith, own, ap (λ (y : Entry). y.incarnation) (same_entry e x (sym (last_push taken e) ∙ is)));
      sorted = All-push (λ (x : Entry). x.incarnation ≤ newest_of (taken ++ e ∷ [])) taken e (λ k d lt. omega (arith, begun k d lt, own, now)) (omega (arith, now));
      newest = omega (arith, now, own);
      halted = λ stop is keeps at. absurd (omega (arith, at, now, own));
    }

-- one of an incarnation that has ended is of the last one that has, and no halt stands before it
pub record IsLate (taken : List Entry) (stops : List Stop) (e : Entry) : Type 0 where
  pub numbered : 0 < e.incarnation
  pub own : e.incarnation ≡ length stops
  pub newest : newest_of taken ≤ e.incarnation
  pub discards_some : (stop : Stop) → last_stop stops ≡ Some stop → discards stop.cause stop.read ≡ true

discards_if : (stop : Stop) (b : Bool) → discards stop.cause stop.read ≡ b → (b ≡ false → ⊥) → discards stop.cause stop.read ≡ true
discards_if stop true is not_false = is
discards_if stop false is not_false = absurd (not_false refl)

pub is_late : (taken : List Entry) (stops : List Stop) (e : Entry) → AreInOrder taken stops → comes_behind (last_of taken) e ≡ true → e.incarnation ≤ length stops
    → IsLate taken stops e
is_late taken stops e o comes within =
    let behind = comes_after (last_of taken) e comes in record {
      numbered = comes_numbered (last_of taken) e o.numbered comes;
      own = omega (arith, o.newest, behind, within);
      newest = behind;
      discards_some = λ stop is. discards_if stop (discards stop.cause stop.read) refl
          (λ keeps. no_last_halt (last_of taken) e (o.halted stop is keeps (omega (arith, o.newest, behind, within))) (omega (arith, o.newest, behind, within)) comes);
    }

pub order_late : (taken : List Entry) (stops : List Stop) (e : Entry) → AreInOrder taken stops → IsLate taken stops e → AreInOrder (taken ++ e ∷ []) stops
order_late taken stops e o late =
    let now = newest_push taken e in record {
      numbered = λ x is. omega (arith, late.numbered, ap (λ (y : Entry). y.incarnation) (same_entry e x (sym (last_push taken e) ∙ is)));
      sorted = All-push (λ (x : Entry). x.incarnation ≤ newest_of (taken ++ e ∷ [])) taken e (λ k d lt. omega (arith, o.sorted k d lt, late.newest, now)) (omega (arith, now));
      newest = omega (arith, now, late.own);
      halted = λ stop is keeps at. absurd (true_false (sym (late.discards_some stop is) ∙ keeps));
    }

-- something was taken of an incarnation of which there are batches
some_taken : (taken : List Entry) (i n : ℕ) → All (λ e. e.incarnation ≤ n) taken → 0 < length (batches_in (entries_of i taken)) → i ≤ n
some_taken taken i n below some = ⊎_elim (λ t. t.1)
    (λ t. absurd (omega (arith, some, ap (λ es. length (batches_in es)) (entries_none i taken (λ k d lt. omega (arith, below k d lt, t.1)))))) (leb_tells i n)

-- an append ends the newest incarnation
pub order_stop : (taken : List Entry) (stops : List Stop) (stop : Stop) → AreInOrder taken stops → 0 < length (batches_in (entries_of (suc (length stops)) taken))
    → discards stop.cause stop.read ≡ true → AreInOrder taken (stops ++ stop ∷ [])
order_stop taken stops stop o some discards_some = record {
  numbered = o.numbered;
  sorted = o.sorted;
  newest = omega (arith, length_push stops stop, some_taken taken (suc (length stops)) (newest_of taken) o.sorted some);
  halted = λ s is keeps at. absurd (true_false (sym (ap (λ (x : Stop). discards x.cause x.read) (sym (same_stop stop s (sym (stop_push stops stop) ∙ is))) ∙ discards_some) ∙ keeps));
}

-- a front's halt ends it, or a read that failed
pub order_halt : (taken : List Entry) (stops : List Stop) (stop : Stop) (e : Entry) → AreInOrder taken stops → last_of taken ≡ Some e → e.incarnation ≡ suc (length stops)
    → (discards stop.cause stop.read ≡ false → is_halt e.body ≡ true) → AreInOrder taken (stops ++ stop ∷ [])
order_halt taken stops stop e o last own halts = record {
  numbered = o.numbered;
  sorted = o.sorted;
  newest = omega (arith, length_push stops stop, ap newest_as last, own);
  halted = λ s is keeps at. ap halts_as last ∙ halts (ap (λ (x : Stop). discards x.cause x.read) (sym (same_stop s stop (sym is ∙ stop_push stops stop))) ∙ keeps);
}

abbrev halts_none_or : Option Entry → Bool
halts_none_or None = true
halts_none_or (Some e) = false

abbrev stops_none_or : Option Stop → Bool
stops_none_or None = true
stops_none_or (Some stop) = false

-- nothing was taken yet
pub order_none : AreInOrder [] []
order_none = record {
  numbered = λ e is. absurd (true_false (ap (λ (o : Option Entry). halts_none_or o) is));
  sorted = All-nil (λ (e : Entry). e.incarnation ≤ 0);
  newest = omega arith;
  halted = λ stop is keeps at. absurd (true_false (ap (λ (o : Option Stop). stops_none_or o) is));
}
