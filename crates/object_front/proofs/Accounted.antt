-- Where an event goes, of what is accounted for.
use Rattle.std.proofs.Common.{◌∙◌, sym, ap, subst, List, [], ◌∷◌, ◌++◌, append_assoc}
use Rattle.std.specs.Prelude.{IsPermutation}
use Rattle.std.proofs.lemmas.List.Sorted.{IsPermutation-sym, IsPermutation-to_front, IsPermutation-trans, IsPermutation-append_comm, IsPermutation-append_left, IsPermutation-append_right, IsPermutation-middle}
use Rattle.object_front.specs.Came.{IsPartOf, nothing, shares, skips}

module _ {X : Type 0} where
  -- The five lists of an account.
  abbrev pub all_of : (d w x k l : List X) → List X
  all_of d w x k l = d ++ (w ++ (x ++ (k ++ l)))

  -- One more goes behind the first of two lists, or before the second.
  into : (a b : List X) (e : X) → IsPermutation (e ∷ (a ++ b)) (a ++ e ∷ b)
  into a b e = IsPermutation-sym _ _ (IsPermutation-middle a e b)

  behind : (a b : List X) (e : X) → IsPermutation (e ∷ (a ++ b)) ((a ++ e ∷ []) ++ b)
  behind a b e = subst (λ (l : List X). IsPermutation (e ∷ (a ++ b)) l) (sym (append_assoc a (e ∷ []) b)) (into a b e)

  -- What may be done to the second of two lists may be done behind the first.
  past : (a b c : List X) (e : X) → IsPermutation (e ∷ b) c → IsPermutation (e ∷ (a ++ b)) (a ++ c)
  past a b c e h = IsPermutation-trans _ _ _ (into a b e) (IsPermutation-append_right a _ _ h)

  pub to_first : (d w x k l : List X) (e : X) → IsPermutation (e ∷ all_of d w x k l) (all_of (d ++ e ∷ []) w x k l)
  to_first d w x k l e = behind d (w ++ (x ++ (k ++ l))) e

  pub to_second : (d w x k l : List X) (e : X) → IsPermutation (e ∷ all_of d w x k l) (all_of d (w ++ e ∷ []) x k l)
  to_second d w x k l e = past d (w ++ (x ++ (k ++ l))) ((w ++ e ∷ []) ++ (x ++ (k ++ l))) e (behind w (x ++ (k ++ l)) e)

  pub to_third : (d w x k l : List X) (e : X) → IsPermutation (e ∷ all_of d w x k l) (all_of d w (x ++ e ∷ []) k l)
  to_third d w x k l e = past d (w ++ (x ++ (k ++ l))) (w ++ ((x ++ e ∷ []) ++ (k ++ l))) e
      (past w (x ++ (k ++ l)) ((x ++ e ∷ []) ++ (k ++ l)) e (behind x (k ++ l) e))

  -- Before those that are kept, behind them, or behind those that are lost.
  pub to_kept : (d w x k l : List X) (e : X) → IsPermutation (e ∷ all_of d w x k l) (all_of d w x (e ∷ k) l)
  to_kept d w x k l e = past d (w ++ (x ++ (k ++ l))) (w ++ (x ++ e ∷ (k ++ l))) e
      (past w (x ++ (k ++ l)) (x ++ e ∷ (k ++ l)) e (into x (k ++ l) e))

  pub to_last_kept : (d w x k l : List X) (e : X) → IsPermutation (e ∷ all_of d w x k l) (all_of d w x (k ++ e ∷ []) l)
  to_last_kept d w x k l e = past d (w ++ (x ++ (k ++ l))) (w ++ (x ++ ((k ++ e ∷ []) ++ l))) e
      (past w (x ++ (k ++ l)) (x ++ ((k ++ e ∷ []) ++ l)) e (past x (k ++ l) ((k ++ e ∷ []) ++ l) e (behind k l e)))

  pub to_lost : (d w x k l : List X) (e : X) → IsPermutation (e ∷ all_of d w x k l) (all_of d w x k (l ++ e ∷ []))
  to_lost d w x k l e = past d (w ++ (x ++ (k ++ l))) (w ++ (x ++ (k ++ (l ++ e ∷ [])))) e
      (past w (x ++ (k ++ l)) (x ++ (k ++ (l ++ e ∷ []))) e (past x (k ++ l) (k ++ (l ++ e ∷ [])) e (past k l (l ++ e ∷ []) e (IsPermutation-sym _ _ (IsPermutation-to_front l e)))))

  -- What is kept in another order, or one of it taken out.
  pub keeps_as : (d w x k other l : List X) → IsPermutation k other → IsPermutation (all_of d w x k l) (all_of d w x other l)
  keeps_as d w x k other l h = IsPermutation-append_right d _ _ (IsPermutation-append_right w _ _ (IsPermutation-append_right x _ _ (IsPermutation-append_left l k other h)))

  pub out_of_kept : (d w x k l : List X) (e : X) → IsPermutation (all_of d w x (e ∷ k) l) (e ∷ all_of d w x k l)
  out_of_kept d w x k l e = IsPermutation-sym _ _ (to_kept d w x k l e)

  -- What would have been logged, and wasn't, is lost.
  aside : (a b c : List X) → IsPermutation ((a ++ b) ++ c) (a ++ (c ++ b))
  aside a b c = subst (λ (l : List X). IsPermutation l (a ++ (c ++ b))) (sym (append_assoc a b c)) (IsPermutation-append_right a _ _ (IsPermutation-append_comm b c))

  first_aside : (d d' w x k l : List X) → IsPermutation (all_of (d ++ d') w x k l) (all_of d w x k (l ++ d'))
  first_aside d d' w x k l =
      subst (IsPermutation (all_of (d ++ d') w x k l))
      (λ i. d ++ (append_assoc w (x ++ (k ++ l)) d' ∙ ap (λ (m : List X). w ++ m) (append_assoc x (k ++ l) d' ∙ ap (λ (m : List X). x ++ m) (append_assoc k l d'))) i)
      (aside d d' (w ++ (x ++ (k ++ l))))

  second_aside : (w w' x k l : List X) → IsPermutation ((w ++ w') ++ (x ++ (k ++ l))) (w ++ (x ++ (k ++ (l ++ w'))))
  second_aside w w' x k l =
      subst (IsPermutation ((w ++ w') ++ (x ++ (k ++ l))))
      (λ i. w ++ (append_assoc x (k ++ l) w' ∙ ap (λ (m : List X). x ++ m) (append_assoc k l w')) i)
      (aside w w' (x ++ (k ++ l)))

  third_aside : (x x' k l : List X) → IsPermutation ((x ++ x') ++ (k ++ l)) (x ++ (k ++ (l ++ x')))
  third_aside x x' k l = subst (IsPermutation ((x ++ x') ++ (k ++ l))) (λ i. x ++ append_assoc k l x' i) (aside x x' (k ++ l))

  pub all_aside : (d d' w w' x x' k l : List X)
      → IsPermutation (all_of (d ++ d') (w ++ w') (x ++ x') k l) (all_of d w x k (((l ++ d') ++ w') ++ x'))
  all_aside d d' w w' x x' k l =
      IsPermutation-trans _ _ _ (first_aside d d' (w ++ w') (x ++ x') k l)
      (IsPermutation-append_right d _ _ (IsPermutation-trans _ _ _ (second_aside w w' (x ++ x') k (l ++ d'))
      (IsPermutation-append_right w _ _ (third_aside x x' k ((l ++ d') ++ w')))))

  -- A list is part of itself, of one that has it, and of what that is part of.
  pub part_itself : (xs : List X) → IsPartOf xs xs
  part_itself [] = nothing
  part_itself (x ∷ xs) = shares x xs xs (part_itself xs)

  pub part_none : (ys : List X) → IsPartOf [] ys
  part_none [] = nothing
  part_none (y ∷ ys) = skips y [] ys (part_none ys)

  pub part_trans : (xs ys zs : List X) → IsPartOf xs ys → IsPartOf ys zs → IsPartOf xs zs
  part_trans xs ys _ p nothing = p
  part_trans xs _ _ p (skips z ys zs q) = skips z xs zs (part_trans xs ys zs p q)
  part_trans _ _ _ (shares _ xs ys p) (shares y _ zs q) = shares y xs zs (part_trans xs ys zs p q)
  part_trans _ _ _ (skips _ xs ys p) (shares y _ zs q) = skips y xs zs (part_trans xs ys zs p q)

  pub part_behind : (first xs ys : List X) → IsPartOf xs ys → IsPartOf (first ++ xs) (first ++ ys)
  part_behind [] xs ys p = p
  part_behind (a ∷ first) xs ys p = shares a (first ++ xs) (first ++ ys) (part_behind first xs ys p)

  pub part_more : (xs ys more : List X) → IsPartOf xs ys → IsPartOf (xs ++ more) (ys ++ more)
  part_more _ _ more nothing = part_itself more
  part_more _ _ more (shares x xs ys p) = shares x (xs ++ more) (ys ++ more) (part_more xs ys more p)
  part_more xs _ more (skips y xs' ys p) = skips y (xs ++ more) (ys ++ more) (part_more xs ys more p)

  pub part_before : (xs ys : List X) → IsPartOf xs (xs ++ ys)
  part_before [] ys = part_none ys
  part_before (x ∷ xs) ys = shares x xs (xs ++ ys) (part_before xs ys)

  pub part_longer : (xs ys more : List X) → IsPartOf xs ys → IsPartOf xs (ys ++ more)
  part_longer xs ys more p = part_trans xs ys (ys ++ more) p (part_before ys more)

  -- What stands between may be left out.
  pub part_around : (a b c : List X) → IsPartOf (a ++ c) ((a ++ b) ++ c)
  part_around a b c = subst (IsPartOf (a ++ c)) (sym (append_assoc a b c)) (part_behind a c (b ++ c) (part_more [] b c (part_none b)))
