-- How often a caller, a call or a fetch stands in lists that are joined.
use Rattle.std.proofs.Common.{◌≡◌, ◌∙◌, refl, ap, ℕ, suc, ◌+◌, List, [], ◌∷◌, ◌++◌, length, arith, length-append}
use Rattle.std.proofs.lemmas.List.Concat.{flat_map-append}
use Rattle.std.proofs.lemmas.List.Elements.{filter-append}
use Rattle.std.proofs.lemmas.List.Sums.{sum_by-cons}
use Rattle.std.specs.List.{filter, flat_map, sum_by}
use Rattle.timeline.specs.Intake.{numbered}
use Rattle.timeline.specs.Replies.{answered_by, caller_of, same_caller}
use Rattle.timeline.specs.declared.caller.Caller.{Caller}
use Rattle.timeline.specs.declared.entry.Body.{Body}
use Rattle.timeline.specs.declared.entry.Body.TheVariants as body
use Rattle.timeline.specs.declared.entry.Entry.{Entry}
use Rattle.timeline.specs.declared.event.Event.{Event}
use Rattle.timeline.specs.declared.message.Message.TheVariants as message
use Rattle.object_messages.specs.Naming.{message_of, messages_of, replied_by, replied_in, same_numbers, times, times_of}

-- How often a body replies to a caller, and how often an event is a call of his.
abbrev pub told : Caller → Body → ℕ
told from b = times from (answered_by b)

abbrev pub calls : Caller → Event → ℕ
calls from e = times from (caller_of e)

-- He stands in joined lists as often as in both.
pub times-append : (from : Caller) (xs ys : List Caller) → times from (xs ++ ys) ≡ times from xs + times from ys
times-append from xs ys =
    ap (λ (zs : List Caller). length zs) (filter-append (same_caller from) xs ys)
    ∙ length-append (filter (same_caller from) xs) (filter (same_caller from) ys)

-- So does a call or a fetch.
pub times_of-append : (asked : ℕ × ℕ) (xs ys : List (ℕ × ℕ)) → times_of asked (xs ++ ys) ≡ times_of asked xs + times_of asked ys
times_of-append asked xs ys =
    ap (λ (zs : List (ℕ × ℕ)). length zs) (filter-append (same_numbers asked) xs ys)
    ∙ length-append (filter (same_numbers asked) xs) (filter (same_numbers asked) ys)

-- Of what items name he has what each of them does.
pub times-flat_map : {X : Type 0} (from : Caller) (names : X → List Caller) (xs : List X)
    → times from (flat_map names xs) ≡ sum_by (λ x. times from (names x)) xs
times-flat_map from names [] = refl
times-flat_map from names (x ∷ xs) =
    omega (arith, times-append from (names x) (flat_map names xs), times-flat_map from names xs, sum_by-cons (λ y. times from (names y)) x xs)

-- The replies among messages of entries are those of their bodies.
pub one_replies : (b : Body) → replied_in (message_of b) ≡ answered_by b
one_replies (body.Message (message.Reply to result)) = refl
one_replies (body.Message (message.Call incarnation number to method args depth)) = refl
one_replies (body.Message (message.Fetch incarnation number value)) = refl
one_replies (body.Batch ops tail confirmed) = refl
one_replies (body.Bind identity) = refl
one_replies (body.Ask ask free) = refl
one_replies body.Sync = refl
one_replies (body.Halt cause) = refl
one_replies body.Mend = refl

-- So those of many entries.
pub replies_are_told : (from : Caller) (entries : List Entry)
    → times from (replied_in (messages_of entries)) ≡ sum_by (λ (entry : Entry). told from entry.body) entries
replies_are_told from [] = refl
replies_are_told from (entry ∷ entries) =
    ap (times from) (flat_map-append replied_by (message_of entry.body) (messages_of entries))
    ∙ times-append from (replied_in (message_of entry.body)) (replied_in (messages_of entries))
    ∙ omega (arith, ap (times from) (one_replies entry.body), replies_are_told from entries, sum_by-cons (λ (e : Entry). told from e.body) entry entries)

-- Numbered entries say what their bodies do.
pub numbered_told : (from : Caller) (incarnation number : ℕ) (bodies : List Body)
    → sum_by (λ (entry : Entry). told from entry.body) (numbered incarnation number bodies) ≡ sum_by (told from) bodies
numbered_told from incarnation number [] = refl
numbered_told from incarnation number (b ∷ bodies) =
    omega (
      arith,
      numbered_told from incarnation (suc number) bodies,
      sum_by-cons (told from) b bodies,
      sum_by-cons (λ (e : Entry). told from e.body) (record { incarnation = incarnation; number = number; body = b })
          (numbered incarnation (suc number) bodies),
    )
