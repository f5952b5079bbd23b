-- What becomes of an event that is taken: it is one item of the intake, or none, and the class stays what it was.
use Rattle.std.proofs.Common.{◌≡◌, sym, refl, true≢false, ℕ, Bool, true, false, List, [], ◌∷◌, Option, Some, None}
use Rattle.std.specs.Prelude.{if◌then◌else◌}
use Rattle.do_tree.specs.Tree.{Script}
use Rattle.timeline.specs.Eligible.{is_eligible, is_stale, is_early, is_fit}
use Rattle.timeline.specs.Intake.{Mode, serves, down, Taken, delivered, wanted}
use Rattle.timeline.specs.Object.{idle, waiting, ended}
use Rattle.timeline.specs.declared.event.Event.{Event}
use Rattle.timeline.specs.declared.event.Event.TheVariants as event
use Rattle.front_half.specs.Kinds.{is_call}
use Rattle.front_half.specs.Standing.{Stood, IsClass}
use Rattle.front_half.specs.Taking.{stale, at_down, at_mode, doing, does, on_event, class_after}
use Rattle.front_half.specs.declared.testing.Doing.{Doing}
use Rattle.front_half.specs.declared.testing.Doing.TheVariants.{Delivers, Wants, Defers, Drops, Sticks}
use Rattle.front_half.proofs.Doings.{no_delivers, no_wants, of_two, of_stale}

-- A call alone asks for a mounting.
stale_wants : (P : Type 0) (early : Bool) → stale early ≡ Wants → P
stale_wants P early is = of_stale P early Wants (no_wants P Drops refl) (no_wants P Sticks refl) is

down_wants : (now : ℕ) (e : Event) → at_down now e ≡ Wants → is_call e ≡ true
down_wants now (event.Call from method args depth at) is = refl
down_wants now (event.Bind identity) is = stale_wants (false ≡ true) (is_early now 0 (event.Bind identity)) is
down_wants now (event.Answer incarnation number result at) is = stale_wants (false ≡ true) (is_early now 0 (event.Answer incarnation number result at)) is
down_wants now (event.Tick at) is = stale_wants (false ≡ true) (is_early now 0 (event.Tick at)) is
down_wants now (event.Evict at) is = stale_wants (false ≡ true) (is_early now 0 (event.Evict at)) is

mode_wants : (now : ℕ) (m : Mode) (e : Event) → at_mode now m e ≡ Wants → is_call e ≡ true
mode_wants now (serves (idle o)) e is =
    of_two (is_call e ≡ true) (is_stale now o e) (stale (is_early now o.made e)) (if is_eligible o e then Delivers else Defers) Wants
    (λ _ so. stale_wants (is_call e ≡ true) (is_early now o.made e) so)
    (λ _ so. of_two (is_call e ≡ true) (is_eligible o e) Delivers Defers Wants (λ _ x. no_wants (is_call e ≡ true) Delivers refl x)
    (λ _ x. no_wants (is_call e ≡ true) Defers refl x) so)
    is
mode_wants now (serves (waiting o t b)) e is = no_wants (is_call e ≡ true) Defers refl is
mode_wants now (serves (ended c)) e is = no_wants (is_call e ≡ true) Defers refl is
mode_wants now (down call) e is = down_wants now e is

wants_call : (script : Script) (st : Stood) (e : Event) → doing script st e ≡ Wants → is_call e ≡ true
wants_call script st e is =
    of_two (is_call e ≡ true) (is_fit script st.class e) (at_mode st.front.incarnation st.front.mode e) Drops Wants
    (λ _ so. mode_wants st.front.incarnation st.front.mode e so)
    (λ _ so. no_wants (is_call e ≡ true) Drops refl so)
    is

-- No item, its delivery, or that a call asks for a mounting.
pub data IsItemOf (e : Event) : List Taken → Type 0 where
  takes_none : IsItemOf e []
  delivers_it : IsItemOf e (delivered e ∷ [])
  wants_it : is_call e ≡ true → IsItemOf e (wanted e ∷ [])

doing_item : (script : Script) (st : Stood) (e : Event) (d : Doing) → (d ≡ Wants → is_call e ≡ true) → IsItemOf e (does script st e d).item
doing_item script st e Delivers calls = delivers_it
doing_item script st e Wants calls = wants_it (calls refl)
doing_item script st e Defers calls = takes_none
doing_item script st e Drops calls = takes_none
doing_item script st e Sticks calls = takes_none

pub event_item : (script : Script) (st : Stood) (e : Event) → IsItemOf e (on_event script st e).item
event_item script st e = doing_item script st e (doing script st e) (wants_call script st e)

-- Only a front without a class has one after a `Bind`.
fit_class : (script : Script) (class : Option ℕ) (e : Event) (c : ℕ) → is_fit script class e ≡ true → IsClass (class_after script class e) c → IsClass class c
fit_class script None e c fit is = tt
fit_class script (Some class) (event.Bind identity) c fit is = absurd (true≢false (sym fit))
fit_class script (Some class) (event.Call from method args depth at) c fit is = is
fit_class script (Some class) (event.Answer incarnation number result at) c fit is = is
fit_class script (Some class) (event.Tick at) c fit is = is
fit_class script (Some class) (event.Evict at) c fit is = is

-- What isn't fit isn't delivered.
delivers_fit : (b : Bool) (x : Doing) → (if b then x else Drops) ≡ Delivers → b ≡ true
delivers_fit b x is = of_two (b ≡ true) b x Drops Delivers (λ fit _. fit) (λ _ so. no_delivers (b ≡ true) Drops refl so) is

doing_class : (script : Script) (st : Stood) (e : Event) (d : Doing) (c : ℕ) → (d ≡ Delivers → is_fit script st.class e ≡ true)
    → IsClass (does script st e d).stood.class c → IsClass st.class c
doing_class script st e Delivers c fit is = fit_class script st.class e c (fit refl) is
doing_class script st e Wants c fit is = is
doing_class script st e Defers c fit is = is
doing_class script st e Drops c fit is = is
doing_class script st e Sticks c fit is = is

pub event_class : (script : Script) (st : Stood) (e : Event) (c : ℕ) → IsClass (on_event script st e).stood.class c → IsClass st.class c
event_class script st e c is =
    doing_class script st e (doing script st e) c (delivers_fit (is_fit script st.class e) (at_mode st.front.incarnation st.front.mode e)) is
