-- Which object a back knows, by what it has taken.
use Rattle.std.proofs.Common.{◌≡◌, ◌∙◌, ap, sym, subst, refl, true≢false, ⊎_elim, ℕ, suc, ◌≤◌, ◌<◌, ◌-◌, List, [], ◌∷◌, ◌++◌, length, arith, Option, Some, None}
use Rattle.std.proofs.lemmas.Bool.{eq-eqb, eqb-true, ltb-true, ltb-false}
use Rattle.std.proofs.Math.Nat.{eq-or-lt_of_le}
use Rattle.std.specs.Prelude.{Bool, true, false, not, ◌&&◌, ◌==◌, nat_lt, is_some, slice_get, if◌then◌else◌}
use Rattle.storage_map.specs.Limits.{Object}
use Rattle.storage_map.specs.declared.op.Op.{Op}
use Rattle.timeline.specs.Logs.{Backed, backed}
use Rattle.timeline.specs.declared.entry.Body.{Body}
use Rattle.timeline.specs.declared.entry.Body.TheVariants as body
use Rattle.timeline.specs.declared.entry.Entry.{Entry}
use Rattle.front_half.specs.Standing.{nothing_logged}
use Rattle.output_gate.proofs.Unfit.{fit_taken}
use Rattle.output_gate.specs.Ended.{newest_as, newest_of}
use Rattle.output_gate.specs.Entering.{Enters, Failed, is_unfit, identity_by, identity_after}
use Rattle.output_gate.specs.Fits.{comes_behind, is_halt, last_of}
use Rattle.output_gate.specs.Serving.{IsBackAs, marks_of}
use Rattle.output_gate.specs.Taking.{fit_as, fits_so, fit_of, is_mounted_mode}
use Rattle.output_gate.specs.declared.back.Back.{Back}
use Rattle.object_core.proofs.KnownObject.{ends_by_halt, in_order, has_ended, number_is, never_late}
use Rattle.object_core.proofs.Sending.{known_append}
use Rattle.object_core.specs.Alone.{KnowsObject}
use Rattle.object_core.specs.Fitting.{known_by, known_over, last_over, FitsKnown, AreFit}

-- Of entries that fit, those before one fit, and that one behind them.
pub record FitsAt (known : Bool) (last : Option Entry) (before : List Entry) (e : Entry) : Type 0 where
  pub first : AreFit known last before
  pub comes : comes_behind (last_over last before) e ≡ true
  pub knows : FitsKnown (known_over known before) e.body

pub fit_at : (known : Bool) (last : Option Entry) (before : List Entry) (e : Entry) (rest : List Entry) → AreFit known last (before ++ e ∷ rest) → FitsAt known last before e
fit_at known last [] e rest fit = record { first = tt; comes = fit.0; knows = fit.1 }
fit_at known last (x ∷ before) e rest fit =
    let later = fit_at (known_by x.body known) (Some x) before e rest fit.2 in
    record { first = (fit.0, fit.1, later.first); comes = later.comes; knows = later.knows }

-- The last of some entries.
over_last : (x : Entry) (xs : List Entry) → last_over (Some x) xs ≡ last_of (x ∷ xs)
over_last x [] = refl
over_last x (y ∷ xs) =
    let one : length (y ∷ xs) - 1 ≡ length xs = omega arith in
    let two : suc (length xs) ≡ length (x ∷ y ∷ xs) - 1 = omega arith in
    over_last y xs ∙ ap (λ (n : ℕ). slice_get (y ∷ xs) n) one ∙ ap (λ (n : ℕ). slice_get (x ∷ y ∷ xs) n) two

-- It is the last of them.
pub last_is : (xs : List Entry) → last_over None xs ≡ last_of xs
last_is [] = refl
last_is (x ∷ xs) = over_last x xs

module _ (identity : Option Object) where
  -- Behind an entry the object is known where it was, or is bound by it.
  own_knows : (b : Body) → is_some (identity_by b identity) ≡ known_by b (is_some identity)
  own_knows (body.Bind bound) = refl
  own_knows (body.Batch ops tail confirmed) = refl
  own_knows (body.Ask ask free) = refl
  own_knows body.Sync = refl
  own_knows (body.Message sent) = refl
  own_knows (body.Halt c) = refl
  own_knows body.Mend = refl

  other_knows : (b : Body) → ((bound : Object) → b ≡ body.Bind bound → ⊥) → is_some identity ≡ known_by b (is_some identity)
  other_knows (body.Bind bound) binds_not = absurd (binds_not bound refl)
  other_knows (body.Batch ops tail confirmed) binds_not = refl
  other_knows (body.Ask ask free) binds_not = refl
  other_knows body.Sync binds_not = refl
  other_knows (body.Message sent) binds_not = refl
  other_knows (body.Halt c) binds_not = refl
  other_knows body.Mend binds_not = refl

  pub knows_as : (x own_is on : Bool) (b : Body) → is_unfit (fit_as x own_is on) ≡ false → ((bound : Object) → b ≡ body.Bind bound → (own_is ≡ true) × (on ≡ true))
      → is_some (identity_after (fit_as x own_is on) identity b) ≡ known_by b (is_some identity)
  knows_as true true true b fits binds = own_knows b
  knows_as true true false b fits binds = other_knows b (λ bound is. true≢false (sym (binds bound is).1))
  knows_as true false on b fits binds = other_knows b (λ bound is. true≢false (sym (binds bound is).0))
  knows_as false own_is on b fits binds = absurd (true≢false fits)

-- What a fit is not: it isn't unfit where all of these hold.
pub record Fits (behind within so : Bool) : Type 0 where
  pub is_behind : behind ≡ true
  pub is_within : within ≡ true
  pub is_so : so ≡ true

fits_parts : (behind within so own on : Bool) → is_unfit (fit_as (behind && within && so) own on) ≡ false → Fits behind within so
fits_parts true true true own on fits = record { is_behind = refl; is_within = refl; is_so = refl }
fits_parts true true false own on fits = absurd (true≢false fits)
fits_parts true false so own on fits = absurd (true≢false fits)
fits_parts false within so own on fits = absurd (true≢false fits)

-- One that stands behind others is of no lower incarnation.
behind_least : (same : Bool) (x e : Entry) → (x.incarnation == e.incarnation) ≡ same
    → (if same then not (is_halt x.body) else nat_lt x.incarnation e.incarnation) ≡ true → x.incarnation ≤ e.incarnation
behind_least true x e is comes = omega (arith, eqb-true x.incarnation e.incarnation is)
behind_least false x e is comes = omega (arith, ltb-true x.incarnation e.incarnation comes)

-- So it is behind all that were taken.
comes_least : (last : Option Entry) (e : Entry) → comes_behind last e ≡ true → newest_as last ≤ e.incarnation
comes_least None e comes = omega arith
comes_least (Some x) e comes = behind_least (x.incarnation == e.incarnation) x e refl comes

not_less : (b : Bool) → not b ≡ true → b ≡ false
not_less true is = absurd (true≢false (sym is))
not_less false is = refl

not_equal : (a b : ℕ) → (a == b) ≡ false → a ≡ b → ⊥
not_equal a b is same = true≢false (sym (eq-eqb a b same) ∙ is)

module _ {D : Type 0} (moment_of : D → ℕ) (left_since : D → ℕ → List ℕ → Type 0) (told : D → Option (List ℕ)) (image : D → List ℕ → Type 0) (faults_of : D → ℕ)
    (start : List (List Op)) (opening : ℕ) (sound : Bool) (back : Back D) (known : IsBackAs moment_of left_since told image faults_of start opening sound back)
    (e : Entry) (first : Bool) (here : FitsAt first None back.log.taken.items e) (fits : is_unfit (fit_of back e) ≡ false) where
  abbrev taken : List Entry
  taken = back.log.taken.items

  number : back.number ≡ suc (length back.log.stops.items)
  number = number_is moment_of left_since told image faults_of start opening sound nothing_logged back known

  comes : comes_behind (last_of taken) e ≡ true
  comes = ap (λ (last : Option Entry). comes_behind last e) (sym (last_is taken)) ∙ here.comes

  parts : Fits (comes_behind (last_of taken) e) (not (nat_lt back.number e.incarnation))
      (fits_so (e.incarnation == back.number) (is_mounted_mode back.mode) (is_some back.identity) e.body)
  parts = fits_parts _ _ _ (e.incarnation == back.number) (is_mounted_mode back.mode) fits

  -- It is bound by an entry of the incarnation that is mounted.
  never_before : (bound : Object) → e.body ≡ body.Bind bound → (e.incarnation ≡ back.number → ⊥) → ⊥
  never_before bound is differs =
      let stops : length back.log.stops.items ≡ e.incarnation =
      between (length back.log.stops.items) e.incarnation back.number (newest_of taken) number (ltb-false back.number e.incarnation (not_less _ parts.is_within)) differs
      (in_order moment_of left_since told image faults_of start opening sound nothing_logged back known).newest (comes_least (last_of taken) e comes) in
      never_late (backed back.log) e first here.first comes (subst (λ (b : Body). FitsKnown (known_over first taken) b) is here.knows)
      (in_order moment_of left_since told image faults_of start opening sound nothing_logged back known)
      (ends_by_halt moment_of left_since told image faults_of start opening sound nothing_logged back known) (marks_of back) nothing_logged
      (has_ended moment_of left_since told image faults_of start opening sound nothing_logged back known) stops
    where
      between : (stops i n newest : ℕ) → n ≡ suc stops → i ≤ n → (i ≡ n → ⊥) → stops ≤ newest → newest ≤ i → stops ≡ i
      between stops i n newest is_next most differs least behind =
          ⊎_elim (λ (same : i ≡ n). absurd (differs same)) (λ (less : i < n). omega (arith, less, is_next, least, behind)) (eq-or-lt_of_le most)

  bound_so : (own on : Bool) → (e.incarnation == back.number) ≡ own → (bound : Object) → e.body ≡ body.Bind bound
      → fits_so own on (is_some back.identity) e.body ≡ true → (own ≡ true) × (on ≡ true)
  bound_so true true is bound binds so = (refl, refl)
  bound_so true false is bound binds so = absurd (true≢false (sym so ∙ ap (λ (b : Body). fits_so true false (is_some back.identity) b) binds))
  bound_so false on is bound binds so = absurd (never_before bound binds (not_equal e.incarnation back.number is))

  pub knows_behind : is_some back.identity ≡ known_over first taken
      → is_some (identity_after (fit_of back e) back.identity e.body) ≡ known_by e.body (known_over first taken)
  knows_behind object =
      knows_as back.identity _ (e.incarnation == back.number) (is_mounted_mode back.mode) e.body fits
      (λ bound binds. bound_so (e.incarnation == back.number) (is_mounted_mode back.mode) refl bound binds parts.is_so)
      ∙ ap (λ (x : Bool). known_by e.body x) object

-- A back that takes an entry goes on knowing the slot's object.
pub knows_enters : {D : Type 0} (moment_of : D → ℕ) (left_since : D → ℕ → List ℕ → Type 0) (told : D → Option (List ℕ)) (image : D → List ℕ → Type 0) (faults_of : D → ℕ)
    (start : List (List Op)) (opening : ℕ) (sound : Bool) (object : Option Object) (old new : Back D) (e : Entry) (failed : Failed)
    → IsBackAs moment_of left_since told image faults_of start opening sound old → Enters failed old new e → is_unfit (fit_of old e) ≡ false
    → KnowsObject object old → KnowsObject object new
knows_enters moment_of left_since told image faults_of start opening sound object old new e failed known enters fits knows fit =
    let taken : new.log.taken.items ≡ old.log.taken.items ++ e ∷ [] = ap (λ (x : Backed). x.taken) enters.log ∙ fit_taken (fit_of old e) (backed old.log) e fits in
    let first : Bool = is_some object in
    let here : FitsAt first None old.log.taken.items e =
    fit_at first None old.log.taken.items e [] (subst (λ (entries : List Entry). AreFit first None entries) taken fit) in
    ap is_some enters.identity
    ∙ knows_behind moment_of left_since told image faults_of start opening sound old known e first here fits (knows here.first)
    ∙ sym (known_append first old.log.taken.items (e ∷ [])) ∙ ap (λ (entries : List Entry). known_over first entries) (sym taken)

-- So does one that takes none.
pub knows_still : {D : Type 0} (object : Option Object) (old new : Back D) → new.identity ≡ old.identity → new.log.taken.items ≡ old.log.taken.items
    → KnowsObject object old → KnowsObject object new
knows_still object old new same taken knows fit =
    ap is_some same ∙ knows (subst (λ (entries : List Entry). AreFit (is_some object) None entries) taken fit)
    ∙ ap (λ (entries : List Entry). known_over (is_some object) entries) (sym taken)
