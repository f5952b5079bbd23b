-- What is found of an event that is delivered, and of one that asks for a mounting.
use Rattle.std.proofs.Common.{◌≡◌, refl, ℕ, Bool, true, false, true≢false, Some}
use Rattle.std.specs.Prelude.{if◌then◌else◌, None}
use Rattle.do_tree.specs.Tree.{Script}
use Rattle.timeline.specs.Eligible.{is_eligible, is_stale, is_early, is_fit}
use Rattle.timeline.specs.Intake.{Mode, serves, down}
use Rattle.timeline.specs.Object as seen
use Rattle.timeline.specs.Object.{idle, waiting, ended}
use Rattle.timeline.specs.declared.event.Event.{Event}
use Rattle.front_half.specs.Standing.{Stood}
use Rattle.front_half.specs.Taking.{at_mode, doing, stale, waits}
use Rattle.front_half.specs.declared.testing.Doing.TheVariants.{Delivers, Wants, Defers, Drops, Sticks}
use Rattle.front_half.proofs.Doings.{no_delivers, no_wants, of_stale, of_down}

-- What was found of an event that is delivered.
pub record IsDelivery (script : Script) (st : Stood) (e : Event) : Type 0 where
  pub object : seen.Object
  pub mode : st.front.mode ≡ serves (idle object)
  pub eligible : is_eligible object e ≡ true
  pub fresh : is_stale st.front.incarnation object e ≡ false
  pub fit : is_fit script st.class e ≡ true

pub delivery_of : (script : Script) (st : Stood) (e : Event) → doing script st e ≡ Delivers → IsDelivery script st e
delivery_of script st e is = by_fit (is_fit script st.class e) refl is
  where
    now : ℕ
    now = st.front.incarnation

    by_stale : (o : seen.Object) → is_fit script st.class e ≡ true → st.front.mode ≡ serves (idle o) → (b c : Bool) → is_stale now o e ≡ b → is_eligible o e ≡ c
        → (if b then stale (is_early now o.made e) else (if c then Delivers else Defers)) ≡ Delivers → IsDelivery script st e
    by_stale o fit mode true c old may d = of_stale _ (is_early now o.made e) Delivers (no_delivers _ Drops refl) (no_delivers _ Sticks refl) d
    by_stale o fit mode false true old may d = record { object = o; mode = mode; eligible = may; fresh = old; fit = fit }
    by_stale o fit mode false false old may d = no_delivers _ Defers refl d

    by_mode : (m : Mode) → is_fit script st.class e ≡ true → st.front.mode ≡ m → at_mode now m e ≡ Delivers → IsDelivery script st e
    by_mode (serves (idle o)) fit mode d = by_stale o fit mode (is_stale now o e) (is_eligible o e) refl refl d
    by_mode (serves (waiting o t b)) fit mode d = no_delivers _ Defers refl d
    by_mode (serves (ended cause)) fit mode d = no_delivers _ Defers refl d
    by_mode (down call) fit mode d = of_down _ now e Delivers (no_delivers _ Wants refl) (no_delivers _ Drops refl) (no_delivers _ Sticks refl) d

    by_fit : (b : Bool) → is_fit script st.class e ≡ b → (if b then at_mode now st.front.mode e else Drops) ≡ Delivers → IsDelivery script st e
    by_fit true fit d = by_mode st.front.mode fit refl d
    by_fit false fit d = no_delivers _ Drops refl d

-- A call that asks for a mounting finds the object down, and no other call that waits.
pub mode_of_wanted : (script : Script) (st : Stood) (e : Event) → waits st.front.mode ≡ false → doing script st e ≡ Wants → st.front.mode ≡ down None
mode_of_wanted script st e free is = by_fit (is_fit script st.class e) is
  where
    now : ℕ
    now = st.front.incarnation

    by_stale : (o : seen.Object) → (b c : Bool) → (if b then stale (is_early now o.made e) else (if c then Delivers else Defers)) ≡ Wants → ⊥
    by_stale o true c d = of_stale ⊥ (is_early now o.made e) Wants (no_wants _ Drops refl) (no_wants _ Sticks refl) d
    by_stale o false true d = no_wants _ Delivers refl d
    by_stale o false false d = no_wants _ Defers refl d

    by_mode : (m : Mode) → waits m ≡ false → at_mode now m e ≡ Wants → m ≡ down None
    by_mode (serves (idle o)) free_at d = absurd (by_stale o (is_stale now o e) (is_eligible o e) d)
    by_mode (serves (waiting o t b)) free_at d = absurd (true≢false free_at)
    by_mode (serves (ended cause)) free_at d = absurd (true≢false free_at)
    by_mode (down None) free_at d = refl
    by_mode (down (Some call)) free_at d = absurd (true≢false free_at)

    by_fit : (b : Bool) → (if b then at_mode now st.front.mode e else Drops) ≡ Wants → st.front.mode ≡ down None
    by_fit true d = by_mode st.front.mode free d
    by_fit false d = no_wants _ Drops refl d
