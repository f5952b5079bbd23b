-- An index stands for a map after each change that the map sees too.
use Rattle.std.proofs.Common.{ℕ, true, false, List, [], ◌∷◌, cond, Option, Some, None, refl, sym, subst}
use Rattle.std.specs.Prelude.{ℤ, Bool}
use Rattle.std.specs.Str.{bytes_eq}
use Rattle.std.specs.FinMap.{get, insert, remove, get-empty}
use Rattle.do_value.specs.declared.value.Value.{Value}
use Rattle.storage_map.specs.Contents.{Contents, by_bytes, nothing, apply_op, apply}
use Rattle.storage_map.specs.Indexed.{Indexed, no_places, put_place, delete_place, clear_places, change_alarm, IsPlaced, StandsFor, values_put, AllStand, index_ops}
use Rattle.storage_map.specs.declared.place.Place.{Place}
use Rattle.storage_map.specs.declared.op.Op.{Op}
use Rattle.storage_map.specs.declared.op.Op.TheVariants.{Put, Delete, DeleteAll, SetAlarm, ClearAlarm}
use Rattle.storage_map.proofs.Folds.{get_set, get_out}

-- what holds of a place and a value holds where another relation follows from it
pub placed_more : {S R : Place → Value → Type 0} → ((p : Place) (v : Value) → S p v → R p v) → (place : Option Place) (value : Option Value) → IsPlaced S place value → IsPlaced R place value
placed_more more None None h = tt
placed_more more None (Some v) h = h
placed_more more (Some p) None h = h
placed_more more (Some p) (Some v) h = more p v h

pub stands_more : {S R : Place → Value → Type 0} → ((p : Place) (v : Value) → S p v → R p v) → (index : Indexed) (m : Contents) → StandsFor S index m → StandsFor R index m
stands_more more index m h = record { alarm = h.alarm; each = λ key. placed_more more (get index.places key) (get m.values key) (h.each key) }

module _ (S : Place → Value → Type 0) where
  set_both : (b : Bool) (p : Place) (v : Value) (place : Option Place) (value : Option Value) → S p v → IsPlaced S place value → IsPlaced S (cond b (Some p) place) (cond b (Some v) value)
  set_both true p v place value is h = is
  set_both false p v place value is h = h

  out_both : (b : Bool) (place : Option Place) (value : Option Value) → IsPlaced S place value → IsPlaced S (cond b None place) (cond b None value)
  out_both true place value h = tt
  out_both false place value h = h

  -- an empty index stands for an empty map
  pub stands_nothing : StandsFor S no_places nothing
  stands_nothing = record {
    alarm = refl;
    each = λ key. subst (λ (o : Option Place). IsPlaced S o (get nothing.values key)) (sym (get-empty by_bytes key)) (subst (λ (o : Option Value). IsPlaced S None o) (sym (get-empty by_bytes key)) tt);
  }

  pub stands_put : (index : Indexed) (m : Contents) (key : List ℕ) (p : Place) (v : Value) → StandsFor S index m → S p v → StandsFor S (put_place index key p) (apply_op m (Put key v))
  stands_put index m key p v h is = record {
    alarm = h.alarm;
    each = λ q.
        subst (λ (o : Option Place). IsPlaced S o (get (insert m.values key v) q)) (sym (get_set index.places key p q))
        (subst (λ (o : Option Value). IsPlaced S (cond (bytes_eq q key) (Some p) (get index.places q)) o) (sym (get_set m.values key v q))
        (set_both (bytes_eq q key) p v (get index.places q) (get m.values q) is (h.each q)));
  }

  pub stands_delete : (index : Indexed) (m : Contents) (key : List ℕ) → StandsFor S index m → StandsFor S (delete_place index key) (apply_op m (Delete key))
  stands_delete index m key h = record {
    alarm = h.alarm;
    each = λ q.
        subst (λ (o : Option Place). IsPlaced S o (get (remove m.values key) q)) (sym (get_out index.places key q))
        (subst (λ (o : Option Value). IsPlaced S (cond (bytes_eq q key) None (get index.places q)) o) (sym (get_out m.values key q))
        (out_both (bytes_eq q key) (get index.places q) (get m.values q) (h.each q)));
  }

  pub stands_clear : (index : Indexed) (m : Contents) → StandsFor S index m → StandsFor S (clear_places index) (apply_op m DeleteAll)
  stands_clear index m h = record { alarm = h.alarm; each = stands_nothing.each }

  pub stands_alarm : (index : Indexed) (m : Contents) (time : ℤ) (retry : ℕ) → StandsFor S index m → StandsFor S (change_alarm index (Some (time, retry))) (apply_op m (SetAlarm time retry))
  stands_alarm index m time retry h = record { alarm = refl; each = h.each }

  pub stands_silent : (index : Indexed) (m : Contents) → StandsFor S index m → StandsFor S (change_alarm index None) (apply_op m ClearAlarm)
  stands_silent index m h = record { alarm = refl; each = h.each }

  -- after operations, with the values that they put at these places
  pub stands_ops : (index : Indexed) (m : Contents) (ops : List Op) (places : List Place) → StandsFor S index m → AllStand S places (values_put ops) → StandsFor S (index_ops index ops places) (apply m ops)
  stands_ops index m [] places h all = h
  stands_ops index m (Put key v ∷ ops) [] h all = absurd all
  stands_ops index m (Put key v ∷ ops) (p ∷ places) h all = stands_ops (put_place index key p) (apply_op m (Put key v)) ops places (stands_put index m key p v h all.0) all.1
  stands_ops index m (Delete key ∷ ops) places h all = stands_ops (delete_place index key) (apply_op m (Delete key)) ops places (stands_delete index m key h) all
  stands_ops index m (DeleteAll ∷ ops) places h all = stands_ops (clear_places index) (apply_op m DeleteAll) ops places (stands_clear index m h) all
  stands_ops index m (SetAlarm time retry ∷ ops) places h all = stands_ops (change_alarm index (Some (time, retry))) (apply_op m (SetAlarm time retry)) ops places (stands_alarm index m time retry h) all
  stands_ops index m (ClearAlarm ∷ ops) places h all = stands_ops (change_alarm index None) (apply_op m ClearAlarm) ops places (stands_silent index m h) all
