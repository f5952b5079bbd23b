-- The objects that a run of the workers leaves.
use Rattle.std.proofs.Common.{◌≡◌, ◌+◌, subst, ℕ, arith, List, [], ◌∷◌, length, slice_get, get_or, Option, Some}
use Rattle.std.specs.List.{All}
use Rattle.std.proofs.lemmas.List.Elements.{All-from_get_or, All-get_or, All-nil}
use Rattle.std.proofs.lemmas.Option.{get_or_from_slice_get, slice_get-get_or, slice_get_within}
use Rattle.do_tree.specs.Tree.{Script}
use Rattle.line_server.specs.declared.lines.Lines.{Lines}
use Rattle.mailbox.specs.declared.switch.Switch.{Switch}
use Rattle.object_core.specs.One.{CanRun, mounted_at}
use Rattle.host_workers.specs.declared.joining.Halves.{Halves}
use Rattle.worker_pool.specs.Ended.{HasRun}
use Rattle.worker_pool.specs.Fresh.{AreFreshSlots, IsFreshSlot}
use Rattle.worker_pool.specs.declared.ran.Ran.{Ran}

-- what holds of each at its number holds of all
all_at : {X : Type 0} (P : X → Type 0) (xs : List X) → ((i : ℕ) (x : X) → slice_get xs i ≡ Some x → P x) → All P xs
all_at P [] each = All-nil P
all_at P (first ∷ rest) each = All-from_get_or P (first ∷ rest) first (λ i less. each i (get_or (first ∷ rest) i first) (slice_get-get_or (first ∷ rest) i first less))

-- what holds of all holds of the one at a number
at_all : {X : Type 0} (P : X → Type 0) (xs : List X) (i : ℕ) (x : X) → slice_get xs i ≡ Some x → All P xs → P x
at_all P xs i x is all = subst P (get_or_from_slice_get xs i x x is) (All-get_or P xs i x (slice_get_within xs i x is) all)

-- of a list that isn't shorter each number of a shorter one has one
there_too : {X Y : Type 0} (xs : List X) (ys : List Y) (more i : ℕ) (y : Y) → length ys + more ≡ length xs → slice_get ys i ≡ Some y → (x : X) × (slice_get xs i ≡ Some x)
there_too [] ys more i y many is = absurd (omega (arith, many, slice_get_within ys i y is))
there_too (first ∷ rest) ys more i y many is =
    (get_or (first ∷ rest) i first, slice_get-get_or (first ∷ rest) i first (omega (arith, many, slice_get_within ys i y is)))

module _ {D : Type 0} (moment_of : D → ℕ) (left_since : D → ℕ → List ℕ → Type 0) (told : D → Option (List ℕ)) (image : D → List ℕ → Type 0)
    (faults_of : D → ℕ) (script : Script) where
  -- halves all of which are fresh are so each at its slot's number
  pub are_fresh : (slots : List (Halves D)) → All (IsFreshSlot moment_of left_since told image faults_of script) slots
      → AreFreshSlots moment_of left_since told image faults_of script slots
  are_fresh slots all = λ slot halves is. at_all (IsFreshSlot moment_of left_since told image faults_of script) slots slot halves is all

  -- the objects of halves that were fresh can run on
  pub can_run_on : {R W : Type 0} (left : R → Option (List ℕ)) (read_faults : R → ℕ) (taken : W → Option (List ℕ)) (write_faults : W → ℕ)
      (slots : List (Halves D)) (switch : Switch W) (lines : Lines R) (ran : Ran D R W) → AreFreshSlots moment_of left_since told image faults_of script slots
      → HasRun moment_of left_since told image faults_of left read_faults taken write_faults script slots switch lines ran
      → All (CanRun moment_of left_since told image faults_of script) ran.cores.items
  can_run_on left read_faults taken write_faults slots switch lines ran fresh run =
      all_at (CanRun moment_of left_since told image faults_of script) ran.cores.items (λ slot core is.
      let there = there_too slots ran.cores.items (length ran.apart.items) slot core run.objects.many is in
      let mounted = (fresh slot there.0 there.1).some in
      (mounted_at mounted.0 mounted.1 there.0.back, (run.objects.cores slot there.0 core there.1 is).one mounted.0 mounted.1 mounted.2))
