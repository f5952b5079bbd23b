-- The posts of a tick.
use Rattle.std.proofs.Common.{◌≡◌, ◌≤◌, ◌+◌, ℕ, ℤ, suc, List, [], ◌∷◌, ◌++◌, length, drop, cond, Option, None, Some, true, false, arith}
use Rattle.std.specs.Prelude.{Bool}
use Rattle.do_tree.specs.Tree.{Script}
use Rattle.timeline.specs.Lines.{Identity}
use Rattle.timeline.specs.Switch.{tick_posts, is_known}
use Rattle.timeline.specs.declared.event.Event.{Event}
use Rattle.timeline.specs.declared.event.Event.TheVariants as event
use Rattle.mailbox.specs.Givens.{AreWithin}

module _ (script : Script) (moment : ℤ) where
  -- they are of slots that are there
  pub ticks_within : (n slot : ℕ) (objects : List (Option Identity)) → slot + length objects ≤ n → AreWithin n (tick_posts script moment slot objects)
  ticks_within n slot [] h = tt
  ticks_within n slot (None ∷ objects) h = ticks_within n (suc slot) objects (omega arith)
  ticks_within n slot (Some object ∷ objects) h =
      elim (is_known script object) as (λ (b : Bool). AreWithin n (cond b ((slot, event.Tick moment) ∷ tick_posts script moment (suc slot) objects) (tick_posts script moment (suc slot) objects))) [
        | true ↦ (omega arith, ticks_within n (suc slot) objects (omega arith))
        | false ↦ ticks_within n (suc slot) objects (omega arith)
      ]

  -- The posts so far, with those of the slots from this one on, are all.
  abbrev pub AreSoFar : List (Option Identity) → ℕ → List (ℕ × Event) → Type 0
  AreSoFar objects slot done = done ++ tick_posts script moment slot (drop slot objects) ≡ tick_posts script moment 0 objects
