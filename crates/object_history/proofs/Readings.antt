-- Of a front that sends no open ask no reading is under way.
use Rattle.std.proofs.Common.{◌≡◌, ◌∙◌, ap, sym, subst, refl, true≢false, List, [], ◌∷◌, ◌++◌}
use Rattle.std.proofs.lemmas.List.Elements.{All-nil, All-cons, All-head, All-tail, All-append}
use Rattle.std.specs.Prelude.{Bool, true, false, not, None, Some}
use Rattle.std.specs.List.{All}
use Rattle.storage_map.specs.Contents.{Contents}
use Rattle.storage_map.specs.declared.ask.StoreAsk.{StoreAsk}
use Rattle.timeline.specs.Intake.{Kind, Front}
use Rattle.timeline.specs.Logs.{Fronted}
use Rattle.timeline.specs.Object.{State, idle, waiting, ended}
use Rattle.timeline.specs.Passed.{is_said_down}
use Rattle.timeline.specs.Told.{asking}
use Rattle.timeline.specs.declared.entry.Body.{Body}
use Rattle.timeline.specs.declared.entry.Body.TheVariants as body
use Rattle.timeline.specs.declared.entry.Entry.{Entry}
use Rattle.timeline.specs.declared.notice.Notice.{Notice}
use Rattle.object_history.specs.Pair.{Rear, IsReading, IsPhase, IsPair}
use Rattle.object_history.specs.Saying.{is_asked, is_plain, IsGated, LeadTo}

none_open : (first : List Body) (ask : StoreAsk) (after : List Body) → All IsGated (first ++ body.Ask ask true ∷ after) → ⊥
none_open [] ask after gated = true≢false (All-head IsGated (body.Ask ask true) after gated)
none_open (b ∷ first) ask after gated = none_open first ask after (All-tail IsGated b (first ++ body.Ask ask true ∷ after) gated)

none_read : (start : Contents) (f : Front) → All IsGated f.said → (readings : List Notice) → All (IsReading start f) readings → readings ≡ []
none_read start f gated [] are = refl
none_read start f gated (n ∷ readings) are =
    let r : IsReading start f n = All-head (IsReading start f) n readings are in
    absurd (none_open r.first r.ask r.after (subst (λ (bodies : List Body). All IsGated bodies) r.said gated))

-- So all that is under way tells how the halves stand.
pub phase_now : {k : Kind} {opened : Contents} {f : Front} {front : Fronted} {rear : Rear} {line : List Entry} {notices : List Notice}
    (pair : IsPair k opened f front rear line notices) → IsPhase opened pair.below pair.start f front rear pair.lined.unread pair.lined.late notices
phase_now {k} {opened} {f} {front} {rear} {line} {notices} pair =
    subst (λ (all : List Notice). IsPhase opened pair.below pair.start f front rear pair.lined.unread pair.lined.late all)
    (sym (pair.under_way ∙ ap (λ (readings : List Notice). readings ++ pair.rest) (none_read pair.start f pair.gated pair.readings pair.are_readings)))
    pair.phase

-- What an object says is gated.
pub plain_gated : (b : Body) → is_plain b ≡ true → IsGated b
plain_gated (body.Batch ops None confirmed) is = tt
plain_gated (body.Batch ops (Some tail) confirmed) is = tt
plain_gated (body.Message sent) is = tt
plain_gated (body.Bind identity) is = tt
plain_gated (body.Ask ask free) is = absurd (true≢false (sym is))
plain_gated body.Sync is = tt
plain_gated (body.Halt c) is = tt
plain_gated body.Mend is = tt

none_free : (free : Bool) → not free ≡ true → free ≡ false
none_free true is = absurd (true≢false (sym is))
none_free false is = refl

asked_gated : (b : Body) → is_asked b ≡ true → IsGated b
asked_gated (body.Ask ask free) is = none_free free is
asked_gated (body.Batch ops tail confirmed) is = tt
asked_gated body.Sync is = tt
asked_gated (body.Message sent) is = tt
asked_gated (body.Bind identity) is = tt
asked_gated (body.Halt c) is = tt
asked_gated body.Mend is = tt

pub down_gated : (b : Body) → is_said_down b ≡ true → IsGated b
down_gated (body.Ask ask free) is = absurd (true≢false (sym is))
down_gated (body.Batch ops tail confirmed) is = tt
down_gated body.Sync is = tt
down_gated (body.Message sent) is = tt
down_gated (body.Bind identity) is = tt
down_gated (body.Halt c) is = tt
down_gated body.Mend is = tt

pub are_gated : (P : Body → Bool) → ((b : Body) → P b ≡ true → IsGated b) → (bodies : List Body) → All (λ b. P b ≡ true) bodies → All IsGated bodies
are_gated P gated [] all = All-nil IsGated
are_gated P gated (b ∷ bodies) all =
    All-cons IsGated b bodies (gated b (All-head (λ x. P x ≡ true) b bodies all)) (are_gated P gated bodies (All-tail (λ x. P x ≡ true) b bodies all))

pub step_gated : (says : List Body) (state : State) → LeadTo says state → All IsGated (says ++ asking state)
step_gated says (idle o) lead = All-append IsGated says [] (are_gated is_plain plain_gated says lead) (All-nil IsGated)
step_gated says (waiting o t b) lead =
    All-append IsGated says (b ∷ []) (are_gated is_plain plain_gated says lead.0) (All-cons IsGated b [] (asked_gated b lead.1) (All-nil IsGated))
step_gated says (ended c) lead =
    All-append IsGated says [] (subst (λ (bodies : List Body). All IsGated bodies) (sym lead.1)
    (All-append IsGated lead.0 (body.Halt c ∷ []) (are_gated is_plain plain_gated lead.0 lead.2) (All-cons IsGated (body.Halt c) [] tt (All-nil IsGated)))) (All-nil IsGated)
