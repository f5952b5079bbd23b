-- What passes replies to whom what was taken does.
use Rattle.std.proofs.Common.{◌≡◌, ◌∙◌, sym, refl, ap, subst, inl, inr, ℕ, zero, suc, List, [], ◌∷◌, ◌++◌, length, arith}
use Rattle.std.proofs.lemmas.List.Concat.{flat_map-append}
use Rattle.std.proofs.lemmas.List.Elements.{Contains-append_cases, Contains-append_left, Contains-append_right}
use Rattle.std.specs.List.{Contains, filter, flat_map}
use Rattle.std.specs.Prelude.{Bool, true, false, cond, ◌==◌}
use Rattle.timeline.specs.History.{incarnation_at, incarnations, said_in}
use Rattle.timeline.specs.Logs.{Backed, Fronted}
use Rattle.timeline.specs.Passed.{passed, passed_in}
use Rattle.timeline.specs.Replies.{answered_by}
use Rattle.timeline.specs.declared.caller.Caller.{Caller}
use Rattle.timeline.specs.declared.entry.Entry.{Entry}
use Rattle.object_messages.proofs.Counts.{one_replies}
use Rattle.object_messages.proofs.Passing.{gone_both, passed_fare}
use Rattle.object_messages.specs.Exact.{PassedNamesTaken}
use Rattle.object_messages.specs.Laws.{gone}
use Rattle.object_messages.specs.Naming.{message_of, messages_of, replied_by, replied_in}

-- The replies of the first entry, and of the others.
first_replies : (entry : Entry) (entries : List Entry) → replied_in (messages_of (entry ∷ entries)) ≡ answered_by entry.body ++ replied_in (messages_of entries)
first_replies entry entries =
    flat_map-append replied_by (message_of entry.body) (messages_of entries)
    ∙ ap (λ (cs : List Caller). cs ++ replied_in (messages_of entries)) (one_replies entry.body)

-- What was said replies as its entries do.
said_replies : (entries : List Entry) → flat_map answered_by (said_in entries) ≡ replied_in (messages_of entries)
said_replies [] = refl
said_replies (entry ∷ entries) =
    ap (λ (rest : List Caller). answered_by entry.body ++ rest) (said_replies entries) ∙ sym (first_replies entry entries)

-- Entries that pass a test reply to whom all do.
some_replies : (p : Entry → Bool) (entries : List Entry) (from : Caller) → Contains (replied_in (messages_of (filter p entries))) from
    → Contains (replied_in (messages_of entries)) from
some_replies p [] from is = is
some_replies p (entry ∷ entries) from is =
    subst (λ (cs : List Caller). Contains cs from) (sym (first_replies entry entries)) (by_kept (p entry) is (some_replies p entries from))
  where
    by_kept : (b : Bool) → Contains (replied_in (messages_of (cond b (entry ∷ filter p entries) (filter p entries)))) from
        → (Contains (replied_in (messages_of (filter p entries))) from → Contains (replied_in (messages_of entries)) from)
        → Contains (answered_by entry.body ++ replied_in (messages_of entries)) from
    by_kept false there rest = Contains-append_right (answered_by entry.body) (replied_in (messages_of entries)) from (rest there)
    by_kept true there rest =
        elim (Contains-append_cases (answered_by entry.body) (replied_in (messages_of (filter p entries))) from
        (subst (λ (cs : List Caller). Contains cs from) (first_replies entry (filter p entries)) there)) [
          | inl here ↦ Contains-append_left (answered_by entry.body) (replied_in (messages_of entries)) from here
          | inr later ↦ Contains-append_right (answered_by entry.body) (replied_in (messages_of entries)) from (rest later)
        ]

-- So does what passes of the incarnations.
among_named : (front : Fronted) (back : Backed) (n : ℕ) (from : Caller) → Contains (replied_in (gone (passed (incarnations front back n)))) from
    → Contains (replied_in (messages_of back.taken)) from
among_named front back zero from is = absurd (omega (arith, is.1))
among_named front back (suc n) from is =
    let older = incarnations front back n in
    let i = incarnation_at front back n in
    elim (Contains-append_cases (replied_in (gone (passed older))) (replied_in (gone (passed_in older i))) from
    (subst (λ (cs : List Caller). Contains cs from) (gone_both replied_by (passed older) (passed_in older i)) is)) [
      | inl there ↦ among_named front back n from there
      | inr there ↦ some_replies (λ (entry : Entry). entry.incarnation == suc n) back.taken from
          (subst (λ (cs : List Caller). Contains cs from) ((passed_fare older i).1 ∙ said_replies i.taken) there)
    ]

pub passed_named : PassedNamesTaken
passed_named front back from is = among_named front back (suc (length back.stops)) from is
