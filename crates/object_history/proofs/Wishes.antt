-- A front that serves has no wish to be mounted under way.
use Rattle.std.proofs.Common.{◌≡◌, sym, subst, refl, inl, inr, true≢false, List, []}
use Rattle.std.proofs.lemmas.List.Elements.{All-nil, All-cons, All-append, All-weaker}
use Rattle.std.specs.Prelude.{true, false, ◌⊎◌}
use Rattle.std.specs.List.{All}
use Rattle.timeline.specs.Intake.{serves}
use Rattle.timeline.specs.Object.{Object, OpenTask, State, idle, waiting, ended}
use Rattle.timeline.specs.Passed.{is_mend}
use Rattle.timeline.specs.declared.entry.Body.{Body}
use Rattle.timeline.specs.declared.entry.Body.TheVariants as body
use Rattle.object_history.specs.Pair.{awaited, IsUnread}
use Rattle.object_history.specs.Saying.{is_asked, is_plain}

abbrev pub IsNoWish : Body → Type 0
IsNoWish b = is_mend b ≡ false

plain_no_wish : (b : Body) → is_plain b ≡ true → IsNoWish b
plain_no_wish (body.Batch ops tail confirmed) is = refl
plain_no_wish (body.Ask ask free) is = refl
plain_no_wish (body.Bind identity) is = refl
plain_no_wish body.Sync is = refl
plain_no_wish (body.Message sent) is = refl
plain_no_wish (body.Halt c) is = refl
plain_no_wish body.Mend is = absurd (true≢false (sym is))

asked_no_wish : (b : Body) → is_asked b ≡ true → IsNoWish b
asked_no_wish (body.Batch ops tail confirmed) is = refl
asked_no_wish (body.Ask ask free) is = refl
asked_no_wish (body.Bind identity) is = refl
asked_no_wish body.Sync is = refl
asked_no_wish (body.Message sent) is = refl
asked_no_wish (body.Halt c) is = refl
asked_no_wish body.Mend is = absurd (true≢false (sym is))

abbrev Asks : State → Type 0
Asks state = (o : Object) (t : OpenTask) (b : Body) → serves state ≡ serves (waiting o t b) → is_asked b ≡ true

awaited_no_wish : (state : State) → Asks state → All IsNoWish (awaited (serves state))
awaited_no_wish (idle o) asks = All-nil IsNoWish
awaited_no_wish (waiting o t b) asks = All-cons IsNoWish b [] (asked_no_wish b (asks o t b refl)) (All-nil IsNoWish)
awaited_no_wish (ended c) asks = All-cons IsNoWish (body.Halt c) [] refl (All-nil IsNoWish)

pub none_wished : (unread : List Body) (state : State) → Asks state → IsUnread (serves state) unread ⊎ (unread ≡ []) → All IsNoWish unread
none_wished unread state asks (inl u) =
    subst (λ (bodies : List Body). All IsNoWish bodies) (sym u.is)
    (All-append IsNoWish u.plain (awaited (serves state)) (All-weaker (λ (b : Body). is_plain b ≡ true) IsNoWish plain_no_wish u.plain u.are_plain)
    (awaited_no_wish state asks))
none_wished unread state asks (inr none) = subst (λ (bodies : List Body). All IsNoWish bodies) (sym none) (All-nil IsNoWish)
