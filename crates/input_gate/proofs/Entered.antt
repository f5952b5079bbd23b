-- What stands before the doors after one event more and one fewer.
use Rattle.std.proofs.Common.{◌≡◌, ℕ, cond, true, false, refl, sym, ap, ◌∙◌, arith}
use Rattle.std.specs.Prelude.{Bool, ◌==◌, ◌&&◌, ◌||◌, not}
use Rattle.std.specs.Ordering.{nat_cmp, ordering_then, is_eq}
use Rattle.std.specs.declared.cmp.Ordering.{Ordering}
use Rattle.std.specs.declared.cmp.Ordering.TheVariants.{Less, Equal, Greater}
use Rattle.std.specs.BTreeMap.{is_at}
use Rattle.std.specs.BTreeSet.{BTreeSet, contains, Updates, UpdatesBy}
use Rattle.std.proofs.lemmas.Bool.Decides.{nat_tests}
use Rattle.timeline.specs.declared.event.Event.{Event}
use Rattle.input_gate.specs.Doors.{staying, bind, answer, by_both, lets_through, stands, Leaves, StandsToo}
use Rattle.input_gate.specs.declared.doors.Doors.{Doors}

-- ---- one answer on tests
put : (t h : Bool) → cond t true h ≡ (h || (t && true))
put true true = refl
put true false = refl
put false true = refl
put false false = refl

drop : (t h : Bool) → cond t false h ≡ (h && not (t && true))
drop true true = refl
drop true false = refl
drop false true = refl
drop false false = refl

put_both : (s t h : Bool) → cond (s && t) true h ≡ (h || (t && s))
put_both true true true = refl
put_both true true false = refl
put_both true false true = refl
put_both true false false = refl
put_both false true true = refl
put_both false true false = refl
put_both false false true = refl
put_both false false false = refl

drop_both : (s t h : Bool) → cond (s && t) false h ≡ (h && not (t && s))
drop_both true true true = refl
drop_both true true false = refl
drop_both true false true = refl
drop_both true false false = refl
drop_both false true true = refl
drop_both false true false = refl
drop_both false false true = refl
drop_both false false false = refl

same : (t h : Bool) → h ≡ (h || (t && false))
same true true = refl
same true false = refl
same false true = refl
same false false = refl

stays : (t h : Bool) → h ≡ (h && not (t && false))
stays true true = refl
stays true false = refl
stays false true = refl
stays false false = refl

-- ---- two numbers are found exactly where both are
tied : (r s : Ordering) → is_eq (ordering_then r s) ≡ (is_eq r && is_eq s)
tied Less s = refl
tied Equal s = refl
tied Greater s = refl

at_number : (n k : ℕ) → is_at (nat_cmp n) k ≡ (k == n)
at_number n k = grind (arith, nat_tests)

at_first : (n k : ℕ) → is_at (nat_cmp n) k ≡ (n == k)
at_first n k = grind (arith, nat_tests)

at_both : (n k m j : ℕ) → is_at (by_both (n, k)) (m, j) ≡ ((n == m) && (j == k))
at_both n k m j = tied (nat_cmp n m) (nat_cmp k j) ∙ (λ i. at_first n m i && at_number k j i)

-- ---- the same of a set as a test
module _ (number : ℕ) where
  put_number : (old new : ℕ → Bool) → ((q : ℕ) → new q ≡ cond (is_at (nat_cmp number) q) true (old q)) → (k : ℕ) → new k ≡ (old k || ((k == number) && true))
  put_number old new is k = is k ∙ ap (λ (t : Bool). cond t true (old k)) (at_number number k) ∙ put (k == number) (old k)

  drop_number : (old new : ℕ → Bool) → ((q : ℕ) → new q ≡ cond (is_at (nat_cmp number) q) false (old q)) → (k : ℕ) → new k ≡ (old k && not ((k == number) && true))
  drop_number old new is k = is k ∙ ap (λ (t : Bool). cond t false (old k)) (at_number number k) ∙ drop (k == number) (old k)

  put_answer : (answered : ℕ) (old new : ℕ × ℕ → Bool) → ((q : ℕ × ℕ) → new q ≡ cond (is_at (by_both (answered, number)) q) true (old q))
      → (n k : ℕ) → new (n, k) ≡ (old (n, k) || ((k == number) && (answered == n)))
  put_answer answered old new is n k =
      is (n, k) ∙ ap (λ (t : Bool). cond t true (old (n, k))) (at_both answered number n k) ∙ put_both (answered == n) (k == number) (old (n, k))

  drop_answer : (answered : ℕ) (old new : ℕ × ℕ → Bool) → ((q : ℕ × ℕ) → new q ≡ cond (is_at (by_both (answered, number)) q) false (old q))
      → (n k : ℕ) → new (n, k) ≡ (old (n, k) && not ((k == number) && (answered == n)))
  drop_answer answered old new is n k =
      is (n, k) ∙ ap (λ (t : Bool). cond t false (old (n, k))) (at_both answered number n k) ∙ drop_both (answered == n) (k == number) (old (n, k))

  -- ---- an answer before its doors
  module _ (answered : ℕ) (event : Event) (old new : Doors)
      (stay : lets_through staying event ≡ true) (bound : lets_through bind event ≡ false) (under : (n : ℕ) → lets_through (answer n) event ≡ (answered == n)) where
    pub answer_stands : Updates nat_cmp old.staying new.staying number true → new.binds ≡ old.binds → Updates by_both old.answers new.answers (answered, number) true
        → StandsToo event number old new
    answer_stands s b a staying k =
        put_number (λ q. contains nat_cmp old.staying q) (λ q. contains nat_cmp new.staying q) s.0 k
        ∙ ap (λ (t : Bool). contains nat_cmp old.staying k || ((k == number) && t)) (sym stay)
    answer_stands s b a bind k =
        ap (λ (set : BTreeSet ℕ). contains nat_cmp set k) b ∙ same (k == number) (contains nat_cmp old.binds k)
        ∙ ap (λ (t : Bool). contains nat_cmp old.binds k || ((k == number) && t)) (sym bound)
    answer_stands s b a (answer n) k =
        put_answer answered (λ q. contains by_both old.answers q) (λ q. contains by_both new.answers q) a.0 n k
        ∙ ap (λ (t : Bool). contains by_both old.answers (n, k) || ((k == number) && t)) (sym (under n))

    pub answer_leaves : UpdatesBy nat_cmp (nat_cmp number) old.staying new.staying false → new.binds ≡ old.binds
        → UpdatesBy by_both (by_both (answered, number)) old.answers new.answers false → Leaves event number old new
    answer_leaves s b a staying k =
        drop_number (λ q. contains nat_cmp old.staying q) (λ q. contains nat_cmp new.staying q) s.0 k
        ∙ ap (λ (t : Bool). contains nat_cmp old.staying k && not ((k == number) && t)) (sym stay)
    answer_leaves s b a bind k =
        ap (λ (set : BTreeSet ℕ). contains nat_cmp set k) b ∙ stays (k == number) (contains nat_cmp old.binds k)
        ∙ ap (λ (t : Bool). contains nat_cmp old.binds k && not ((k == number) && t)) (sym bound)
    answer_leaves s b a (answer n) k =
        drop_answer answered (λ q. contains by_both old.answers q) (λ q. contains by_both new.answers q) a.0 n k
        ∙ ap (λ (t : Bool). contains by_both old.answers (n, k) && not ((k == number) && t)) (sym (under n))
