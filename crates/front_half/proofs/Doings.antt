-- What is done with an event that is taken is one of five things.
use Rattle.std.proofs.Common.{◌≡◌, ◌∙◌, ap, sym, refl, true≢false, ℕ, Bool, true, false}
use Rattle.std.specs.Prelude.{if◌then◌else◌}
use Rattle.timeline.specs.Eligible.{is_early}
use Rattle.timeline.specs.declared.event.Event.{Event}
use Rattle.timeline.specs.declared.event.Event.TheVariants as event
use Rattle.front_half.specs.Taking.{stale, at_down}
use Rattle.front_half.specs.declared.testing.Doing.{Doing}
use Rattle.front_half.specs.declared.testing.Doing.TheVariants.{Delivers, Wants, Defers, Drops, Sticks}

abbrev pub is_delivers : Doing → Bool
is_delivers Delivers = true
is_delivers _ = false

abbrev pub is_wants : Doing → Bool
is_wants Wants = true
is_wants _ = false

abbrev pub is_defers : Doing → Bool
is_defers Defers = true
is_defers _ = false

pub no_delivers : (P : Type 0) (d : Doing) → is_delivers d ≡ false → d ≡ Delivers → P
no_delivers P d other same = absurd (true≢false (ap is_delivers (sym same) ∙ other))

pub no_wants : (P : Type 0) (d : Doing) → is_wants d ≡ false → d ≡ Wants → P
no_wants P d other same = absurd (true≢false (ap is_wants (sym same) ∙ other))

pub no_defers : (P : Type 0) (d : Doing) → is_defers d ≡ false → d ≡ Defers → P
no_defers P d other same = absurd (true≢false (ap is_defers (sym same) ∙ other))

-- Of two that may be done, one is, and the test tells which.
pub of_two : (P : Type 0) (b : Bool) (x y d : Doing) → (b ≡ true → x ≡ d → P) → (b ≡ false → y ≡ d → P) → (if b then x else y) ≡ d → P
of_two P true x y d first second is = first refl is
of_two P false x y d first second is = second refl is

-- With what is out of date one of two is done.
pub of_stale : (P : Type 0) (early : Bool) (d : Doing) → (Drops ≡ d → P) → (Sticks ≡ d → P) → stale early ≡ d → P
of_stale P true d first second is = second is
of_stale P false d first second is = first is

-- While the object is down one of three is.
pub of_down : (P : Type 0) (now : ℕ) (e : Event) (d : Doing) → (Wants ≡ d → P) → (Drops ≡ d → P) → (Sticks ≡ d → P) → at_down now e ≡ d → P
of_down P now (event.Call from method args depth at) d first second third is = first is
of_down P now (event.Bind identity) d first second third is = of_stale P (is_early now 0 (event.Bind identity)) d second third is
of_down P now (event.Answer incarnation number result at) d first second third is =
    of_stale P (is_early now 0 (event.Answer incarnation number result at)) d second third is
of_down P now (event.Tick at) d first second third is = of_stale P (is_early now 0 (event.Tick at)) d second third is
of_down P now (event.Evict at) d first second third is = of_stale P (is_early now 0 (event.Evict at)) d second third is
