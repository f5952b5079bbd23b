-- Where the items of a list stand to which one was added.
use Rattle.std.proofs.Common.{◌≡◌, ◌+◌, ◌<◌, ℕ, List, [], ◌∷◌, ◌++◌, length, Some, sym, ap, ◌∙◌, arith}
use Rattle.std.specs.Prelude.{slice_get}
use Rattle.std.proofs.Math.Seq.{get_or-append_seam}
use Rattle.std.proofs.lemmas.List.{get_or_append_left, get_or_push, length-append}
use Rattle.std.proofs.lemmas.Option.{get_or_from_slice_get, slice_get-get_or, slice_get_within}

pub push_before : {X : Type 0} (xs : List X) (y x : X) (at : ℕ) → at < length xs → slice_get (xs ++ y ∷ []) at ≡ Some x → slice_get xs at ≡ Some x
push_before {X} xs y x at less is =
    slice_get-get_or xs at x less
    ∙ ap (λ (z : X). Some z) (sym (get_or_append_left xs (y ∷ []) x at less) ∙ get_or_from_slice_get (xs ++ y ∷ []) at x x is)

pub push_last : {X : Type 0} (xs : List X) (y x : X) (at : ℕ) → length xs ≡ at → slice_get (xs ++ y ∷ []) at ≡ Some x → y ≡ x
push_last xs y x at last is = sym (get_or_push xs y x at last) ∙ get_or_from_slice_get (xs ++ y ∷ []) at x x is

pub push_within : {X : Type 0} (xs : List X) (y x : X) (at : ℕ) → slice_get (xs ++ y ∷ []) at ≡ Some x → at < length xs + 1
push_within xs y x at is = omega (arith, slice_get_within (xs ++ y ∷ []) at x is, length-append xs (y ∷ []))

-- an item stays where it is, and the next one stands behind
pub before_push : {X : Type 0} (xs : List X) (y x : X) (at : ℕ) → slice_get xs at ≡ Some x → slice_get (xs ++ y ∷ []) at ≡ Some x
before_push {X} xs y x at is =
    let less = slice_get_within xs at x is in
    slice_get-get_or (xs ++ y ∷ []) at x (omega (arith, less, length-append xs (y ∷ [])))
    ∙ ap (λ (z : X). Some z) (get_or_append_left xs (y ∷ []) x at less ∙ get_or_from_slice_get xs at x x is)

pub next_at : {X : Type 0} (xs : List X) (y : X) (ys : List X) → slice_get (xs ++ y ∷ ys) (length xs) ≡ Some y
next_at {X} xs y ys =
    slice_get-get_or (xs ++ y ∷ ys) (length xs) y (omega (arith, length-append xs (y ∷ ys)))
    ∙ ap (λ (z : X). Some z) (get_or-append_seam xs y ys y)
