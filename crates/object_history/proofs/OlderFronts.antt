-- What a front logs of its own incarnation leaves those before it as they are.
use Rattle.std.proofs.Common.{◌≡◌, ◌∙◌, ap, sym, subst, refl, ℕ, zero, suc, ◌<◌, ◌≤◌, List, [], ◌∷◌, map, arith}
use Rattle.std.proofs.lemmas.Bool.{ne_eqb}
use Rattle.std.specs.Prelude.{Bool, cond, if◌then◌else◌}
use Rattle.do_tree.specs.Tree.{Script}
use Rattle.storage_map.specs.Contents.{Contents}
use Rattle.timeline.specs.Headline.{AreHalted, AreSaid}
use Rattle.timeline.specs.History.{History, of_number, entries_of, incarnation_at, incarnations, start_after}
use Rattle.timeline.specs.Intake.{numbered}
use Rattle.timeline.specs.Logs.{Fronted, Backed}
use Rattle.timeline.specs.declared.entry.Body.{Body}
use Rattle.timeline.specs.declared.entry.Entry.{Entry}
use Rattle.timeline.specs.declared.event.Event.{Event}
use Rattle.object_history.proofs.Alike.{IsAlike, same_start, same_said}

-- What is logged of another number.
pub of_number_other : {X : Type 0} (i other : ℕ) (items : List X) → (other ≡ i → ⊥) → of_number i (map (λ (x : X). (other, x)) items) ≡ []
of_number_other i other [] differs = refl
of_number_other {X} i other (x ∷ items) differs =
    let rest : List X = of_number i (map (λ (y : X). (other, y)) items) in
    ap (λ (same : Bool). if same then x ∷ rest else rest) (ne_eqb other i differs) ∙ of_number_other i other items differs

-- Nor are entries of another number among those of this one.
pub entries_other : (i other n : ℕ) (bodies : List Body) → (other ≡ i → ⊥) → entries_of i (numbered other n bodies) ≡ []
entries_other i other n [] differs = refl
entries_other i other n (b ∷ bodies) differs =
    let rest : List Entry = entries_of i (numbered other (suc n) bodies) in
    ap (λ (same : Bool). cond same (record { incarnation = other; number = n; body = b } ∷ rest) rest) (ne_eqb other i differs)
    ∙ entries_other i other (suc n) bodies differs

-- What two logs of a front have of the numbers up to one is the same.
pub record AreSameTo (last : ℕ) (front new : Fronted) : Type 0 where
  pub delivered : (i : ℕ) → i ≤ last → of_number i new.delivered ≡ of_number i front.delivered
  pub sent : (i : ℕ) → i ≤ last → entries_of i new.sent ≡ entries_of i front.sent
  pub downed : (i : ℕ) → i ≤ last → of_number i new.downed ≡ of_number i front.downed

-- So are the incarnations up to it, and what they said.
module _ (last : ℕ) (front new : Fronted) (same : AreSameTo last front new) (back : Backed) where
  alike : (index : ℕ) → index < last → IsAlike front new back back index
  alike index less = record {
    delivered = same.delivered (suc index) (omega (arith, less));
    sent = same.sent (suc index) (omega (arith, less));
    stop = refl;
    downed = same.downed (suc index) (omega (arith, less));
    missed = refl;
  }

  -- the incarnations are the same
  pub older_same : (n : ℕ) → n ≤ last → incarnations new back n ≡ incarnations front back n
  older_same zero within = refl
  older_same (suc index) within =
      let is = alike index (omega (arith, within)) in
      ap (λ (events : List Event). record (incarnation_at new back index) { delivered = events } ∷ incarnations new back index) is.delivered
      ∙ ap (λ (entries : List Entry). record (incarnation_at front back index) { sent = entries } ∷ incarnations new back index) is.sent
      ∙ ap (λ (older : History). incarnation_at front back index ∷ older) (older_same index (omega (arith, within)))

  -- each has said what it says
  pub said_same : (script : Script) (class : ℕ) (opened : Contents) (n : ℕ) → n ≤ last
      → AreSaid script class opened front back (incarnations front back n) → AreSaid script class opened new back (incarnations new back n)
  said_same script class opened n within =
      same_said front new back back script class opened n (λ index less. alike index (omega (arith, within, less))) (λ index less. refl)

  -- each that a turn ended has ended so
  pub halted_same : (script : Script) (class : ℕ) (opened : Contents) (n : ℕ) → n ≤ last → AreHalted script class opened (incarnations front back n)
      → AreHalted script class opened (incarnations new back n)
  halted_same script class opened n within halted =
      subst (λ (all : History). AreHalted script class opened all) (sym (older_same n within)) halted

-- The map with which an incarnation starts is the back's alone.
pub start_same : (opened : Contents) (front new : Fronted) (back : Backed) (n : ℕ)
    → start_after opened (incarnations new back n) ≡ start_after opened (incarnations front back n)
start_same opened front new back n = same_start front new back back opened n (λ index less. refl)
