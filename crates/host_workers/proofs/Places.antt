-- A cell leaves its place, and comes back.
use Rattle.std.proofs.Common.{◌≡◌, ◌≤◌, ◌<◌, ℕ, zero, suc, ◌+◌, ◌⊎◌, subst, Vec, inl, inr, ⊎_elim, List, [], ◌∷◌, length, map, set, slice_get, Option, Some, None, is_some, Bool, true, false, refl, sym, ap, ◌∙◌, arith}
use Rattle.std.proofs.lemmas.Option.{slice_get-map}
use Rattle.std.specs.Option.{option_map}
use Rattle.std.proofs.Math.ListN.{length-set}
use Rattle.std.specs.declared.alloc.Global.{Global}
use Rattle.host_workers.specs.Board.{IsBackOf, IsBoard, IsFrontOf, IsLinesOf, IsSwitchOf, counts, empties, lines_count}
use Rattle.host_workers.specs.Names.{Run}
use Rattle.host_workers.specs.declared.back_cell.BackCell.{BackCell}
use Rattle.host_workers.specs.declared.cells.Cells.{Cells}
use Rattle.host_workers.specs.declared.front_cell.FrontCell.{FrontCell}
use Rattle.host_workers.specs.declared.lines_cell.LinesCell.{LinesCell}
use Rattle.host_workers.specs.declared.switch_cell.SwitchCell.{SwitchCell}

module _ {A : Type 0} where
  -- what stands in a list of which one place was set: what was set, or what stood there
  pub at_set : (l : List A) (i j : ℕ) (a b : A) → slice_get (set l i a) j ≡ Some b → ((j ≡ i) × (a ≡ b)) ⊎ (slice_get l j ≡ Some b)
  at_set [] i j a b e = cc
  at_set (x ∷ xs) zero zero a b e = inl (refl, cc)
  at_set (x ∷ xs) zero (suc j) a b e = inr e
  at_set (x ∷ xs) (suc i) zero a b e = inr e
  at_set (x ∷ xs) (suc i) (suc j) a b e = ⊎_elim (λ t. inl (ap suc t.0, t.1)) inr (at_set xs i j a b e)

  -- of a place set twice the second counts
  pub set_again : (l : List A) (i : ℕ) (a b : A) → set (set l i a) i b ≡ set l i b
  set_again [] i a b = refl
  set_again (x ∷ xs) zero a b = refl
  set_again (x ∷ xs) (suc i) a b = ap (λ l. x ∷ l) (set_again xs i a b)

module _ {A : Type 0} where
  -- a place that is seen to be there has a cell
  pub cell_at : (l : List (Option A)) (i : ℕ) → slice_get (map is_some l) i ≡ Some true → (cell : A) × (slice_get l i ≡ Some (Some cell))
  cell_at [] i e = cc
  cell_at (None ∷ l) zero e = cc
  cell_at (Some x ∷ l) zero e = (x, refl)
  cell_at (p ∷ l) (suc i) e = cell_at l i e

  -- a place with a cell is seen to be there
  pub seen_at : (l : List (Option A)) (i : ℕ) (p : Option A) → slice_get l i ≡ Some p → is_some p ≡ true → slice_get (map is_some l) i ≡ Some true
  seen_at l i p at is = slice_get-map is_some l i ∙ ap (option_map is_some) at ∙ ap Some is

  -- where a cell leaves there is an empty place more
  pub empties_leaves : (l : List (Option A)) (i : ℕ) (x : A) → slice_get l i ≡ Some (Some x) → empties (map is_some (set l i None)) ≡ empties (map is_some l) + 1
  empties_leaves [] i x e = cc
  empties_leaves (None ∷ l) zero x e = cc
  empties_leaves (Some y ∷ l) zero x e = omega arith
  empties_leaves (None ∷ l) (suc i) x e = let r = empties_leaves l i x e in omega arith
  empties_leaves (Some y ∷ l) (suc i) x e = empties_leaves l i x e

  -- and where it comes back one less
  pub empties_comes : (l : List (Option A)) (i : ℕ) (x : A) → slice_get l i ≡ Some None → empties (map is_some (set l i (Some x))) + 1 ≡ empties (map is_some l)
  empties_comes [] i x e = cc
  empties_comes (None ∷ l) zero x e = omega arith
  empties_comes (Some y ∷ l) zero x e = cc
  empties_comes (None ∷ l) (suc i) x e = let r = empties_comes l i x e in omega arith
  empties_comes (Some y ∷ l) (suc i) x e = empties_comes l i x e

  -- a place that is seen to be there is one of the list
  pub within : (l : List (Option A)) (i : ℕ) → slice_get (map is_some l) i ≡ Some true → i < length l
  within [] i e = cc
  within (p ∷ l) zero e = omega arith
  within (p ∷ l) (suc i) e = let r = within l i e in omega arith

  -- no place is there where the lines' place counts, for what all others count
  pub few_empty : (l : List (Option A)) → empties (map is_some l) ≤ length l
  few_empty [] = omega arith
  few_empty (None ∷ l) = let r = few_empty l in omega arith
  few_empty (Some x ∷ l) = let r = few_empty l in omega arith

-- at most this an empty place counts
pub counts_most : (each : ℕ) (there : Bool) → counts each there ≤ each
counts_most each false = omega arith
counts_most each true = omega arith

-- where more than that of all others counts, a place is empty
pub counts_empty : {A : Type 0} (each : ℕ) (place : Option A) → 0 < counts each (is_some place) → place ≡ None
counts_empty each None more = refl
counts_empty each (Some x) more = absurd (omega arith)

module _ {D R W T : Type 0} (run : Run) (moment_of : D → ℕ) (left_since : D → ℕ → List ℕ → Type 0) (told : D → Option (List ℕ))
    (image : D → List ℕ → Type 0) (faults_of : D → ℕ) (left : R → Option (List ℕ)) (read_faults : R → ℕ) (taken : W → Option (List ℕ))
    (write_faults : W → ℕ) where
  abbrev Board : (total slots workers : ℕ) → Cells D R W T → Type 0
  Board total slots workers cells = IsBoard run moment_of left_since told image faults_of left read_faults taken write_faults total slots workers cells

  -- a front leaves its place
  pub front_leaves : (total more slots workers slot : ℕ) (cells : Cells D R W T) (fronts : Vec (Option (FrontCell T)) Global) (c : FrontCell T)
      → Board total slots workers cells → slice_get cells.fronts.items slot ≡ Some (Some c) → fronts.items ≡ set cells.fronts.items slot None → more ≡ total + 1
      → Board more slots workers (record cells { fronts = fronts })
  front_leaves total more slots workers slot cells fronts c h at is one = record {
    counted =
        let e = empties_leaves cells.fronts.items slot c at in
        let s : empties (map is_some fronts.items) ≡ empties (map is_some (set cells.fronts.items slot None)) = ap (λ l. empties (map is_some l)) is in
        let r = h.counted in
        omega arith;
    many = h.many;
    some = h.some;
    named = record {
      few = h.named.few;
      each_front = ap length is ∙ length-set cells.fronts.items slot None ∙ h.named.each_front;
      each_back = h.named.each_back;
      fronts = λ j d e. ⊎_elim (λ t. cc (t.1)) (λ t. h.named.fronts j d t) (at_set cells.fronts.items slot j None (Some d) (ap (λ l. slice_get l j) (sym is) ∙ e));
      backs = h.named.backs;
      switch = h.named.switch;
      lines = h.named.lines;
    };
  }

  -- and comes back
  pub front_comes : (total less slots workers slot : ℕ) (cells : Cells D R W T) (fronts : Vec (Option (FrontCell T)) Global) (c : FrontCell T)
      → Board total slots workers cells → slice_get cells.fronts.items slot ≡ Some None → IsFrontOf run slot c → fronts.items ≡ set cells.fronts.items slot (Some c)
      → less + 1 ≡ total → Board less slots workers (record cells { fronts = fronts })
  front_comes total less slots workers slot cells fronts c h at named is one = record {
    counted =
        let e = empties_comes cells.fronts.items slot c at in
        let s : empties (map is_some fronts.items) ≡ empties (map is_some (set cells.fronts.items slot (Some c))) = ap (λ l. empties (map is_some l)) is in
        let r = h.counted in
        omega arith;
    many = h.many;
    some = h.some;
    named = record {
      few = h.named.few;
      each_front = ap length is ∙ length-set cells.fronts.items slot (Some c) ∙ h.named.each_front;
      each_back = h.named.each_back;
      fronts = λ j d e. ⊎_elim
          (λ (t : (j ≡ slot) × (Some c ≡ Some d)). let same : c ≡ d = cc in subst (λ (y : ℕ × FrontCell T). IsFrontOf run y.0 y.1) (λ k. (sym t.0 k, same k)) named)
          (λ t. h.named.fronts j d t) (at_set cells.fronts.items slot j (Some c) (Some d) (ap (λ l. slice_get l j) (sym is) ∙ e));
      backs = h.named.backs;
      switch = h.named.switch;
      lines = h.named.lines;
    };
  }

  -- a back leaves its place
  pub back_leaves : (total more slots workers slot : ℕ) (cells : Cells D R W T) (backs : Vec (Option (BackCell D T)) Global) (c : BackCell D T)
      → Board total slots workers cells → slice_get cells.backs.items slot ≡ Some (Some c) → backs.items ≡ set cells.backs.items slot None → more ≡ total + 1
      → Board more slots workers (record cells { backs = backs })
  back_leaves total more slots workers slot cells backs c h at is one = record {
    counted =
        let e = empties_leaves cells.backs.items slot c at in
        let s : empties (map is_some backs.items) ≡ empties (map is_some (set cells.backs.items slot None)) = ap (λ l. empties (map is_some l)) is in
        let r = h.counted in
        omega arith;
    many = h.many;
    some = h.some;
    named = record {
      few = h.named.few;
      each_front = h.named.each_front;
      each_back = ap length is ∙ length-set cells.backs.items slot None ∙ h.named.each_back;
      fronts = h.named.fronts;
      backs = λ j d e. ⊎_elim (λ t. cc (t.1)) (λ t. h.named.backs j d t) (at_set cells.backs.items slot j None (Some d) (ap (λ l. slice_get l j) (sym is) ∙ e));
      switch = h.named.switch;
      lines = h.named.lines;
    };
  }

  -- and comes back
  pub back_comes : (total less slots workers slot : ℕ) (cells : Cells D R W T) (backs : Vec (Option (BackCell D T)) Global) (c : BackCell D T)
      → Board total slots workers cells → slice_get cells.backs.items slot ≡ Some None → IsBackOf moment_of left_since told image faults_of run slot c
      → backs.items ≡ set cells.backs.items slot (Some c) → less + 1 ≡ total → Board less slots workers (record cells { backs = backs })
  back_comes total less slots workers slot cells backs c h at named is one = record {
    counted =
        let e = empties_comes cells.backs.items slot c at in
        let s : empties (map is_some backs.items) ≡ empties (map is_some (set cells.backs.items slot (Some c))) = ap (λ l. empties (map is_some l)) is in
        let r = h.counted in
        omega arith;
    many = h.many;
    some = h.some;
    named = record {
      few = h.named.few;
      each_front = h.named.each_front;
      each_back = ap length is ∙ length-set cells.backs.items slot (Some c) ∙ h.named.each_back;
      fronts = h.named.fronts;
      backs = λ j d e. ⊎_elim
          (λ (t : (j ≡ slot) × (Some c ≡ Some d)). let same : c ≡ d = cc in
          subst (λ (y : ℕ × BackCell D T). IsBackOf moment_of left_since told image faults_of run y.0 y.1) (λ k. (sym t.0 k, same k)) named)
          (λ t. h.named.backs j d t) (at_set cells.backs.items slot j (Some c) (Some d) (ap (λ l. slice_get l j) (sym is) ∙ e));
      switch = h.named.switch;
      lines = h.named.lines;
    };
  }

  -- the switch comes back
  pub switch_leaves : (total more slots workers : ℕ) (cells : Cells D R W T) (switch : Option (SwitchCell W T)) (c : SwitchCell W T) → Board total slots workers cells
      → cells.switch ≡ Some c → switch ≡ None → more ≡ total + 1 → Board more slots workers (record cells { switch = switch })
  switch_leaves total more slots workers cells switch c h at is one = record {
    counted =
        let full : counts 1 (is_some cells.switch) ≡ 0 = ap (λ (p : Option (SwitchCell W T)). counts 1 (is_some p)) at in
        let none : counts 1 (is_some switch) ≡ 1 = ap (λ (p : Option (SwitchCell W T)). counts 1 (is_some p)) is in
        let r = h.counted in
        omega arith;
    many = h.many;
    some = h.some;
    named = record {
      few = h.named.few;
      each_front = h.named.each_front;
      each_back = h.named.each_back;
      fronts = h.named.fronts;
      backs = h.named.backs;
      switch = λ d e. let never : None ≡ Some d = sym is ∙ e in absurd cc;
      lines = h.named.lines;
    };
  }

  pub switch_comes : (total less slots workers : ℕ) (cells : Cells D R W T) (switch : Option (SwitchCell W T)) (c : SwitchCell W T) → Board total slots workers cells
      → cells.switch ≡ None → IsSwitchOf taken write_faults run c → switch ≡ Some c → less + 1 ≡ total → Board less slots workers (record cells { switch = switch })
  switch_comes total less slots workers cells switch c h at named is one = record {
    counted =
        let none : counts 1 (is_some cells.switch) ≡ 1 = ap (λ (p : Option (SwitchCell W T)). counts 1 (is_some p)) at in
        let full : counts 1 (is_some switch) ≡ 0 = ap (λ (p : Option (SwitchCell W T)). counts 1 (is_some p)) is in
        let r = h.counted in
        omega arith;
    many = h.many;
    some = h.some;
    named = record {
      few = h.named.few;
      each_front = h.named.each_front;
      each_back = h.named.each_back;
      fronts = h.named.fronts;
      backs = h.named.backs;
      switch = λ d e. let found : Some c ≡ Some d = sym is ∙ e in let same : c ≡ d = cc in subst (λ (y : SwitchCell W T). IsSwitchOf taken write_faults run y) same named;
      lines = h.named.lines;
    };
  }

  -- the lines come back: their place was empty, since it alone counts so much
  pub lines_come : (total less slots workers : ℕ) (cells : Cells D R W T) (lines : Option (LinesCell R T)) (c : LinesCell R T) → Board total slots workers cells
      → IsLinesOf left read_faults run c → lines ≡ Some c → less + lines_count ≡ total → Board less slots workers (record cells { lines = lines })
  lines_come total less slots workers cells lines c h named is one = record {
    counted =
        let r = h.counted in
        let f = few_empty cells.fronts.items in
        let b = few_empty cells.backs.items in
        let s = counts_most 1 (is_some cells.switch) in
        let few = h.named.few in
        let long = h.named.each_front in
        let wide = h.named.each_back in
        let more : 0 < counts lines_count (is_some cells.lines) = omega arith in
        let none : counts lines_count (is_some cells.lines) ≡ lines_count = ap (λ (p : Option (LinesCell R T)). counts lines_count (is_some p)) (counts_empty lines_count cells.lines more) in
        let full : counts lines_count (is_some lines) ≡ 0 = ap (λ (p : Option (LinesCell R T)). counts lines_count (is_some p)) is in
        omega arith;
    many = h.many;
    some = h.some;
    named = record {
      few = h.named.few;
      each_front = h.named.each_front;
      each_back = h.named.each_back;
      fronts = h.named.fronts;
      backs = h.named.backs;
      switch = h.named.switch;
      lines = λ d e. let at : Some c ≡ Some d = sym is ∙ e in let same : c ≡ d = cc in subst (λ (y : LinesCell R T). IsLinesOf left read_faults run y) same named;
    };
  }
