-- Each move keeps the rule of a lane.
use Rattle.std.proofs.Common.{◌≡◌, ◌≢◌, ℕ, zero, suc, true, false, true≢false, List, [], ◌∷◌, ◌++◌, length, set, sym, refl, ap, ◌∙◌, subst, ⊎_elim, append_assoc, append-nil}
use mathlib.Core.Option.{some, some-ne-none}
use lib.ListN.{get_elem?}
use Rattle.crossbeam_queue.specs.Fifo.{Pushes, Pops, Forks, Merges, Learns}
use Rattle.crossbeam_queue.proofs.Lists.{at_set, at_snoc}
use Rattle.lane.specs.declared.rule.Log.{Log}
use Rattle.lane.specs.Lanes.{StartsWith}
use Rattle.lane.specs.Order.{log, void_log, Fits, Ordered}

module _ {T : Type 0} where
  at_end : (l : List (Log T)) (a b : Log T) (j : ℕ) → get_elem? l j ≢ some b → get_elem? (l ++ a ∷ []) j ≡ some b → j ≡ length l
  at_end [] a b zero n e = refl
  at_end [] a b (suc j) n e = absurd (some-ne-none b (sym e))
  at_end (x ∷ xs) a b zero n e = absurd (n e)
  at_end (x ∷ xs) a b (suc j) n e = ap suc (at_end xs a b j n e)

  abbrev All : (ℕ → Log T → Type 0) → List (Log T) → Type 0
  All F views = (port : ℕ) (v : Log T) → get_elem? views port ≡ some v → F port v

  all_set : (F : ℕ → Log T → Type 0) (views : List (Log T)) (port : ℕ) (w : Log T) → F port w → ((j : ℕ) (u : Log T) → j ≢ port → get_elem? views j ≡ some u → F j u) → All F (set views port w)
  all_set F views port w mine others j u e = ⊎_elim (λ (x : (j ≡ port) × (w ≡ u)). subst (λ (y : ℕ × Log T). F y.0 y.1) (λ i. (sym x.0 i, x.1 i)) mine)
      (λ (x : (j ≢ port) × (get_elem? views j ≡ some u)). others j u x.0 x.1) (at_set views port j w u e)

  -- a pass that does nothing and was told of nothing
  idle_fits : (writer reader : ℕ) (sent got : List T) (port : ℕ) → Fits writer reader sent got port (log false false [] [] [])
  idle_fits writer reader sent got port = (refl, (λ p. absurd (true≢false (sym p))), (λ p. absurd (true≢false (sym p))), (sent, refl))

  longer : (sent told : List T) (x : T) → StartsWith sent told → StartsWith (sent ++ x ∷ []) told
  longer sent told x s = (s.0 ++ x ∷ [], ap (λ l. l ++ x ∷ []) s.1 ∙ append_assoc told s.0 (x ∷ []))

  pub begins : Ordered {T = T} [] (log {T = T} true true [] [] [] ∷ [])
  begins = (
    0,
    0,
    [],
    [],
    refl,
    all_set (Fits 0 0 [] []) (log true true [] [] [] ∷ []) 0 (log true true [] [] []) (refl, (λ _. (refl, refl)), (λ _. (refl, refl)), ([], refl))
        (λ j u other e. absurd (other (at_end [] _ u j (λ x. some-ne-none u (sym x)) e))),
  )

  pub sends : (n port : ℕ) (v : Log T) (x : T) → v.sends ≡ true → Pushes Ordered n port v x (λ w. w ≡ log v.sends v.takes v.told (v.sent ++ x ∷ []) v.got)
  sends n port v x may items views _ h at = let w : Log T = log v.sends v.takes v.told (v.sent ++ x ∷ []) v.got in let mine = h.5 port v at in let sent = h.2 ++ x ∷ [] in (
    w,
    (
      h.0,
      h.1,
      sent,
      h.3,
      ap (λ l. l ++ x ∷ []) h.4 ∙ append_assoc h.3 items (x ∷ []),
      all_set (Fits h.0 h.1 sent h.3) views port w (refl, (λ _. ((mine.1 may).0, ap (λ l. l ++ x ∷ []) (mine.1 may).1)), mine.2, longer h.2 v.told x mine.3)
          (λ j u other e. let its = h.5 j u e in (its.0, (λ p. absurd (other ((its.1 p).0 ∙ sym (mine.1 may).0))), its.2, longer h.2 u.told x its.3)),
    ),
    refl,
  )

  pub gets : (port : ℕ) (v : Log T) → v.takes ≡ true → Pops Ordered port v (λ x w. w ≡ log v.sends v.takes v.told v.sent (v.got ++ x ∷ []))
  gets port v may x items views h at = let w : Log T = log v.sends v.takes v.told v.sent (v.got ++ x ∷ []) in let mine = h.5 port v at in let got = h.3 ++ x ∷ [] in (
    w,
    (
      h.0,
      h.1,
      h.2,
      got,
      h.4 ∙ sym (append_assoc h.3 (x ∷ []) items),
      all_set (Fits h.0 h.1 h.2 got) views port w (refl, mine.1, (λ _. ((mine.2 may).0, ap (λ l. l ++ x ∷ []) (mine.2 may).1)), mine.3)
          (λ j u other e. let its = h.5 j u e in (its.0, its.1, (λ p. absurd (other ((its.2 p).0 ∙ sym (mine.2 may).0))), its.3)),
    ),
    refl,
  )

  pub forks : (port : ℕ) (v : Log T) → v.sends ≡ true → v.takes ≡ true → Forks Ordered port v (log true false [] v.sent []) (log false true [] [] v.got)
  forks port v a b items views h at = let l : Log T = log true false [] v.sent [] in let r : Log T = log false true [] [] v.got in let mine = h.5 port v at in let vs : List (Log T) = set views port l in
      let Old : ℕ → Log T → Type 0 = λ j u. (u.void ≡ false) × (u.sends ≡ true → (j ≡ h.0) × (u.sent ≡ h.2)) × (u.takes ≢ true) × StartsWith h.2 u.told in
      let old : All Old vs = all_set Old views port l (refl, (λ _. mine.1 a), (λ p. true≢false (sym p)), (h.2, refl))
      (λ j u other e. let its = h.5 j u e in (its.0, its.1, (λ p. other ((its.2 p).0 ∙ sym (mine.2 b).0)), its.3)) in (
        h.0,
        length vs,
        h.2,
        h.3,
        h.4,
        λ j u e. ⊎_elim (λ x. let its = old j u x in (its.0, its.1, (λ p. absurd (its.2 p)), its.3))
            (λ (is : r ≡ u). subst (λ (y : Log T). (get_elem? (vs ++ r ∷ []) j ≡ some y) → Fits h.0 (length vs) h.2 h.3 j y) is
            (λ there. (refl, (λ p. absurd (true≢false (sym p))), (λ p. (at_end vs r r j (λ x. (old j r x).2 refl) there, (mine.2 b).1)), (h.2, refl))) e)
            (at_snoc vs r u j e),
      )

  -- the rule stays where one pass changes, and another that is no longer needed is spent
  two_set : (writer reader : ℕ) (sent got : List T) (views : List (Log T)) (port other : ℕ) (w : Log T) → Fits writer reader sent got port w
      → ((j : ℕ) (u : Log T) → j ≢ port → j ≢ other → get_elem? views j ≡ some u → Fits writer reader sent got j u)
      → ¬ (other ≡ port) → All (Fits writer reader sent got) (set (set views port w) other (log false false [] [] []))
  two_set writer reader sent got views port other w mine rest two =
      let Now : ℕ → Log T → Type 0 = λ j y. j ≢ other → Fits writer reader sent got j y in
      let now : All Now (set views port w) = all_set Now views port w (λ _. mine) (λ j y apart e far. rest j y apart far e) in
      all_set (Fits writer reader sent got) (set views port w) other (log false false [] [] []) (idle_fits writer reader sent got other) (λ j y apart e. now j y e apart)

  was : (views : List (Log T)) (port other : ℕ) (w u : Log T) → ¬ (other ≡ port) → get_elem? (set views port w) other ≡ some u → get_elem? views other ≡ some u
  was views port other w u two at = ⊎_elim (λ x. absurd (two x.0)) (λ x. x.1) (at_set views port other w u at)

  pub merges : (port : ℕ) (v : Log T) (other : ℕ) (u : Log T) → v.sends ≡ true → u.takes ≡ true → Merges Ordered port v other u (log true true [] v.sent u.got) (log false false [] [] [])
  merges port v other u a b items views h at two at' = let both : Log T = log true true [] v.sent u.got in let mine = h.5 port v at in
      let theirs = (h.5 other u (was views port other both u two at')).2 b in (
        h.0,
        port,
        h.2,
        h.3,
        h.4,
        two_set h.0 port h.2 h.3 views port other both (refl, (λ _. mine.1 a), (λ _. (refl, theirs.1)), (h.2, refl))
            (λ j y apart far e. let its = h.5 j y e in (its.0, its.1, (λ p. absurd (far ((its.2 p).0 ∙ sym theirs.0))), its.3)) two,
      )

  pub tells : (port : ℕ) (v : Log T) → v.sends ≡ true → Forks Ordered port v v (log false false v.sent [] [])
  tells port v a items views h at = let r : Log T = log false false v.sent [] [] in let mine = h.5 port v at in let vs : List (Log T) = set views port v in
      let old : All (Fits h.0 h.1 h.2 h.3) vs = all_set (Fits h.0 h.1 h.2 h.3) views port v mine (λ j u other e. h.5 j u e) in (
        h.0,
        h.1,
        h.2,
        h.3,
        h.4,
        λ j u e. ⊎_elim (λ x. old j u x)
            (λ (is : r ≡ u). subst (λ (y : Log T). Fits h.0 h.1 h.2 h.3 j y) is (refl, (λ p. absurd (true≢false (sym p))), (λ p. absurd (true≢false (sym p))), ([], sym (mine.1 a).1 ∙ sym (append-nil v.sent))))
            (at_snoc vs r u j e),
      )

  pub hears : (port : ℕ) (v : Log T) (other : ℕ) (u : Log T) → Merges Ordered port v other u (log v.sends v.takes u.told v.sent v.got) (log false false [] [] [])
  hears port v other u items views h at two at' = let both : Log T = log v.sends v.takes u.told v.sent v.got in let mine = h.5 port v at in
      let theirs = h.5 other u (was views port other both u two at') in (
        h.0,
        h.1,
        h.2,
        h.3,
        h.4,
        two_set h.0 h.1 h.2 h.3 views port other both (refl, mine.1, mine.2, theirs.3) (λ j y apart far e. h.5 j y e) two,
      )

  -- there are no two passes that take
  pub clashes : (port : ℕ) (v : Log T) (other : ℕ) (u : Log T) → v.takes ≡ true → u.takes ≡ true → Merges Ordered port v other u (void_log []) (log false false [] [] [])
  clashes port v other u a b items views h at two at' =
      absurd (two (((h.5 other u (was views port other (void_log []) u two at')).2 b).0 ∙ sym ((h.5 port v at).2 a).0))

  pub no_void : (port : ℕ) (v : Log T) → Learns Ordered port v (λ items. v.void ≡ true → ⊥)
  no_void port v items views h at p = true≢false (sym p ∙ (h.5 port v at).0)

  pub learns : (port : ℕ) (v : Log T) → Learns Ordered port v (λ items. v.takes ≡ true → (v.sends ≡ true → v.sent ≡ v.got ++ items) × StartsWith (v.got ++ items) v.told)
  learns port v items views h at b = let mine = h.5 port v at in let all = h.4 ∙ ap (λ l. l ++ items) (sym (mine.2 b).1) in (
    (λ a. (mine.1 a).1 ∙ all),
    (mine.3.0, sym all ∙ mine.3.1),
  )

  -- whoever may send and take knows that what was taken begins what was sent
  pub begins_sent : (port : ℕ) (v : Log T) → Learns Ordered port v (λ items. v.sends ≡ true → v.takes ≡ true → StartsWith v.sent v.got)
  begins_sent port v items views h at a b = let mine = h.5 port v at in (items, (mine.1 a).1 ∙ h.4 ∙ ap (λ l. l ++ items) (sym (mine.2 b).1))
