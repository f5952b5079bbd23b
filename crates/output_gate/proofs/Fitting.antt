-- What it says of an entry that it fits.
use Rattle.std.proofs.Common.{◌≡◌, ◌∙◌, ap, sym, refl, subst, inl, inr, ⊎_elim, ℕ, ◌<◌, List, arith, Option}
use Rattle.std.proofs.lemmas.Bool.{eq-eqb, eqb-true, ltb-false}
use Rattle.std.proofs.lemmas.Bool.Decides.{leb_tells}
use Rattle.std.specs.Prelude.{Bool, true, false, not, ◌&&◌, ◌==◌, nat_lt, is_some}
use Rattle.storage_map.specs.declared.op.Op.{Op}
use Rattle.timeline.specs.Passed.{is_mend}
use Rattle.timeline.specs.declared.entry.Body.{Body}
use Rattle.timeline.specs.declared.entry.Body.TheVariants as body
use Rattle.timeline.specs.declared.entry.Entry.{Entry}
use Rattle.output_gate.specs.Fits.{comes_behind, fits_mounted, fits_down, last_of}
use Rattle.output_gate.specs.Serving.{IsMounted, IsUnmounted, IsBackAs, IsAtEnd}
use Rattle.output_gate.specs.Taking.{is_wanted, is_mounted_mode, fit_as, fits_so, fit_of}
use Rattle.output_gate.specs.declared.back.Back.{Back}
use Rattle.output_gate.specs.declared.back.Ending.{Ending}
use Rattle.output_gate.specs.declared.back.Mode.{Mode}
use Rattle.output_gate.specs.declared.back.Mode.TheVariants.{Mounted, Wanted, Down}
use Rattle.output_gate.specs.declared.fit.Fit.{Fit}
use Rattle.output_gate.specs.declared.fit.Fit.TheVariants as fit
use Rattle.output_gate.proofs.Helds.{true_false}

abbrev is_own_fit : Fit → Type 0
is_own_fit fit.Own = Unit {0}
is_own_fit _ = ⊥

abbrev is_down_fit : Fit → Type 0
is_down_fit fit.Down = Unit {0}
is_down_fit _ = ⊥

pub and_both : (a b : Bool) → (a && b) ≡ true → (a ≡ true) × (b ≡ true)
and_both true b is = (refl, is)
and_both false b is = absurd (true_false (sym is))

as_own : (f own mounted : Bool) → fit_as f own mounted ≡ fit.Own → (f ≡ true) × (own ≡ true) × (mounted ≡ true)
as_own false own mounted is = absurd (subst is_own_fit (sym is) tt)
as_own true true true is = (refl, refl, refl)
as_own true true false is = absurd (subst is_own_fit (sym is) tt)
as_own true false mounted is = absurd (subst is_own_fit (sym is) tt)

as_down : (f own mounted : Bool) → fit_as f own mounted ≡ fit.Down → (f ≡ true) × (own ≡ true) × (mounted ≡ false)
as_down false own mounted is = absurd (subst is_down_fit (sym is) tt)
as_down true true true is = absurd (subst is_down_fit (sym is) tt)
as_down true true false is = (refl, refl, refl)
as_down true false mounted is = absurd (subst is_down_fit (sym is) tt)

so_mounted : (own mounted known : Bool) (b : Body) → own ≡ true → mounted ≡ true → fits_so own mounted known b ≡ true → fits_mounted b known ≡ true
so_mounted true true known b o m is = is
so_mounted true false known b o m is = absurd (true_false (sym m))
so_mounted false mounted known b o m is = absurd (true_false (sym o))

so_down : (own mounted known : Bool) (b : Body) → own ≡ true → mounted ≡ false → fits_so own mounted known b ≡ true → fits_down b ≡ true
so_down true false known b o m is = is
so_down true true known b o m is = absurd (true_false m)
so_down false mounted known b o m is = absurd (true_false (sym o))

-- an entry of the newest incarnation, which is mounted
pub record OwnFit {D : Type 0} (back : Back D) (e : Entry) : Type 0 where
  pub comes : comes_behind (last_of back.log.taken.items) e ≡ true
  pub own : e.incarnation ≡ back.number
  pub mounted : is_mounted_mode back.mode ≡ true
  pub fits : fits_mounted e.body (is_some back.identity) ≡ true

pub own_of : {D : Type 0} (back : Back D) (e : Entry) → fit_of back e ≡ fit.Own → OwnFit back e
own_of back e is =
    let behind : Bool = comes_behind (last_of back.log.taken.items) e in
    let within : Bool = not (nat_lt back.number e.incarnation) in
    let own : Bool = e.incarnation == back.number in
    let mounted : Bool = is_mounted_mode back.mode in
    let fits : Bool = fits_so own mounted (is_some back.identity) e.body in
    let all = as_own (behind && within && fits) own mounted is in
    let two = and_both (behind && within) fits all.0 in
    record {
      comes = (and_both behind within two.0).0;
      own = eqb-true e.incarnation back.number all.1;
      mounted = all.2;
      fits = so_mounted own mounted (is_some back.identity) e.body all.1 all.2 two.1;
    }

-- and of one that isn't
pub record DownFit {D : Type 0} (back : Back D) (e : Entry) : Type 0 where
  pub own : e.incarnation ≡ back.number
  pub unmounted : is_mounted_mode back.mode ≡ false
  pub fits : fits_down e.body ≡ true

pub down_of : {D : Type 0} (back : Back D) (e : Entry) → fit_of back e ≡ fit.Down → DownFit back e
down_of back e is =
    let behind : Bool = comes_behind (last_of back.log.taken.items) e in
    let within : Bool = not (nat_lt back.number e.incarnation) in
    let own : Bool = e.incarnation == back.number in
    let mounted : Bool = is_mounted_mode back.mode in
    let fits : Bool = fits_so own mounted (is_some back.identity) e.body in
    let all = as_down (behind && within && fits) own mounted is in
    let two = and_both (behind && within) fits all.0 in
    record { own = eqb-true e.incarnation back.number all.1; unmounted = all.2; fits = so_down own mounted (is_some back.identity) e.body all.1 all.2 two.1 }

-- how a back that is down stands
pub down_mode : (mode : Mode) → is_mounted_mode mode ≡ false → is_wanted mode ≡ false → (ending : Ending) × (mode ≡ Down ending)
down_mode Mounted is wanted = absurd (true_false is)
down_mode (Wanted ending) is wanted = absurd (true_false wanted)
down_mode (Down ending) is wanted = (ending, refl)

pub never_mounted : (ending : Ending) (mode : Mode) → IsAtEnd ending mode → is_mounted_mode mode ≡ true → ⊥
never_mounted ending mode (inl wanted) is = true_false (sym is ∙ ap is_mounted_mode wanted)
never_mounted ending mode (inr down) is = true_false (sym is ∙ ap is_mounted_mode down)

module _ {D : Type 0} (moment_of : D → ℕ) (left_since : D → ℕ → List ℕ → Type 0) (told : D → Option (List ℕ)) (image : D → List ℕ → Type 0) (faults_of : D → ℕ) (start : List (List Op)) (opening : ℕ) (sound : Bool) where
  pub mounted_of : (back : Back D) → IsBackAs moment_of left_since told image faults_of start opening sound back → is_mounted_mode back.mode ≡ true → IsMounted moment_of left_since told image faults_of start opening sound back
  mounted_of back (inl m) is = m
  mounted_of back (inr u) is = absurd (never_mounted u.ending back.mode u.safe.mode is)

  pub unmounted_of : (back : Back D) → IsBackAs moment_of left_since told image faults_of start opening sound back → is_mounted_mode back.mode ≡ false → IsUnmounted moment_of left_since told image faults_of start opening back
  unmounted_of back (inl m) is = absurd (true_false (sym (ap is_mounted_mode m.safe.mode) ∙ is))
  unmounted_of back (inr u) is = u

abbrev is_late_fit : Fit → Type 0
is_late_fit fit.Late = Unit {0}
is_late_fit _ = ⊥

as_late : (f own mounted : Bool) → fit_as f own mounted ≡ fit.Late → (f ≡ true) × (own ≡ false)
as_late false own mounted is = absurd (subst is_late_fit (sym is) tt)
as_late true true true is = absurd (subst is_late_fit (sym is) tt)
as_late true true false is = absurd (subst is_late_fit (sym is) tt)
as_late true false mounted is = (refl, refl)

so_late : (own mounted known : Bool) (b : Body) → own ≡ false → fits_so own mounted known b ≡ true → fits_mounted b known ≡ true
so_late false true known b o is = is
so_late false false known b o is = is
so_late true mounted known b o is = absurd (true_false o)

below : (n m : ℕ) → (n == m) ≡ false → nat_lt m n ≡ false → n < m
below n m other within = ⊎_elim (λ t. absurd (true_false (sym (eq-eqb n m (omega (arith, t.1, ltb-false m n within))) ∙ other))) (λ t. t.1) (leb_tells m n)

no : (b : Bool) → not b ≡ true → b ≡ false
no true is = absurd (true_false (sym is))
no false is = refl

-- an entry of an incarnation that has ended
pub record LateFit {D : Type 0} (back : Back D) (e : Entry) : Type 0 where
  pub comes : comes_behind (last_of back.log.taken.items) e ≡ true
  pub before : e.incarnation < back.number
  pub fits : fits_mounted e.body (is_some back.identity) ≡ true

pub late_of : {D : Type 0} (back : Back D) (e : Entry) → fit_of back e ≡ fit.Late → LateFit back e
late_of back e is =
    let behind : Bool = comes_behind (last_of back.log.taken.items) e in
    let within : Bool = not (nat_lt back.number e.incarnation) in
    let own : Bool = e.incarnation == back.number in
    let mounted : Bool = is_mounted_mode back.mode in
    let fits : Bool = fits_so own mounted (is_some back.identity) e.body in
    let all = as_late (behind && within && fits) own mounted is in
    let two = and_both (behind && within) fits all.0 in
    let one = and_both behind within two.0 in
    record {
      comes = one.0;
      before = below e.incarnation back.number all.1 (no (nat_lt back.number e.incarnation) one.1);
      fits = so_late own mounted (is_some back.identity) e.body all.1 two.1;
    }

-- it is no `Mend`
pub not_mend : (b : Body) (known : Bool) → fits_mounted b known ≡ true → is_mend b ≡ false
not_mend (body.Bind identity) known is = refl
not_mend (body.Batch ops tail confirmed) known is = refl
not_mend (body.Ask ask free) known is = refl
not_mend body.Sync known is = refl
not_mend (body.Message sent) known is = refl
not_mend (body.Halt cause) known is = refl
not_mend body.Mend known is = absurd (true_false (sym is))
