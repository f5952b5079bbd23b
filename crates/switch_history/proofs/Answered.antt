-- A request is posted to the object that it names, or answered at once.
use Rattle.std.proofs.Common.{ℕ, ℤ, inl, inr, List, [], ◌∷◌, ◌++◌, Option, Some, Ok, Err, sym, ap, subst, ◌∙◌}
use Rattle.std.specs.Prelude.{Result}
use Rattle.std.specs.List.{Contains}
use Rattle.std.proofs.lemmas.List.Elements.{Contains-append_left, Contains-push, Contains-push_cases}
use Rattle.do_value.specs.declared.value.Value.{Value}
use Rattle.do_tree.specs.Tree.{Script}
use Rattle.timeline.specs.Lines.{Identity, Request, OutLine, Line}
use Rattle.timeline.specs.Lines as line
use Rattle.timeline.specs.Replies.{caller_of}
use Rattle.timeline.specs.Switch.{Switch, SwitchLog, Given, IsSwitchRun, opened, gave, begins, accepted as after_line, routed as after_message, accepts, routes}
use Rattle.timeline.specs.declared.caller.Caller.TheVariants as from
use Rattle.timeline.specs.declared.event.Event.{Event}
use Rattle.timeline.specs.declared.event.Event.TheVariants as event
use Rattle.timeline.specs.declared.message.Message.{Message}
use Rattle.switch_history.specs.Laws.{IsAnswered, posted, refused}
use Rattle.switch_history.proofs.Cases.{OfCall, IsNoCall, by_line}
use Rattle.switch_history.proofs.Slots.{still_named, last_named, own_named, two_named, nothing_in}
use Rattle.switch_history.proofs.Standing.{Stays, slot_has, same_object, takes_slot, line_stays, message_stays}

-- What is due for a line: its request's answer or post.
abbrev Due : SwitchLog → Switch → ℕ → Result Request ℕ → Type 0
Due log s number (Ok (line.calls of to method args)) = IsAnswered log s number of to
Due log s number body = Unit {0}

-- for a line that calls no object nothing is due
due_none : (log : SwitchLog) (s : Switch) (number : ℕ) (body : Result Request ℕ) → IsNoCall body → Due log s number body
due_none log s number (Ok (line.calls of to method args)) none = absurd none
due_none log s number (Ok (line.ticks moment)) none = tt
due_none log s number (Ok (line.fetched k value)) none = tt
due_none log s number (Ok (line.fetch_failed k)) none = tt
due_none log s number (Ok (line.evicts object)) none = tt
due_none log s number (Err why) none = tt

-- ---- what was done stays done
module _ (log : SwitchLog) (s : Switch) (lines : List Line) (messages : List (ℕ × Message)) (given : Given) (stays : Stays s.objects given) where
  -- The log and the switch after a step.
  abbrev later : SwitchLog
  later = gave (record log { accepted = lines; routed = messages }) given

  -- a request that was posted or refused is so after a step
  still_answered : (number : ℕ) (of : ℤ) (to : Identity) → IsAnswered log s number of to → IsAnswered later given.after number of to
  still_answered number of to (posted slot here called) =
      posted slot (stays slot to here) (still_named caller_of slot log.posts given.posts (from.Request number of) called)
  still_answered number of to (refused f is printed) = refused f is (Contains-append_left log.lines given.lines (line.error of f) printed)

  -- so is what is due for a line
  still_due : (number : ℕ) (body : Result Request ℕ) → Due log s number body → Due later given.after number body
  still_due number (Ok (line.calls of to method args)) due = still_answered number of to due
  still_due number (Ok (line.ticks moment)) due = tt
  still_due number (Ok (line.fetched k value)) due = tt
  still_due number (Ok (line.fetch_failed k)) due = tt
  still_due number (Ok (line.evicts object)) due = tt
  still_due number (Err why) due = tt

-- ---- a line's own
module _ (script : Script) (log : SwitchLog) (s : Switch) where
  -- A line does what is due for it.
  abbrev Does : Line → Given → Type 0
  Does l given = Due (gave (record log { accepted = log.accepted ++ l ∷ [] }) given) given.after l.number l.body

  -- a request is refused by a line, or posted to the slot of its object
  of_call : (number : ℕ) (of : ℤ) (to : Identity) (method : List ℕ) (args : List Value)
      → OfCall script s (Does (record { number = number; body = Ok (line.calls of to method args) })) (from.Request number of) to
  of_call number of to method args = record {
    refused = λ f is. refused f is (Contains-push log.lines (line.error of f));
    posted = λ place slot values depth _ own.
        let found = slot_has s to slot own in
        let call : Event = event.Call (from.Request number of) place values depth s.tick in
        posted slot (found.1 ∙ ap (λ (o : Identity). Some o) (sym (same_object to found.0 found.2)))
        (last_named caller_of slot log.posts ((slot, call) ∷ []) (from.Request number of) (own_named caller_of slot call (from.Request number of) (Contains-push [] (from.Request number of))));
    bound = λ place slot values depth _ free.
        let call : Event = event.Call (from.Request number of) place values depth s.tick in
        posted slot (takes_slot s slot free to)
        (last_named caller_of slot log.posts ((slot, event.Bind to) ∷ (slot, call) ∷ []) (from.Request number of)
        (two_named caller_of slot (event.Bind to) call (from.Request number of) (Contains-push [] (from.Request number of))));
  }

  -- so each line does what is due for it
  line_does : (l : Line) → Does l (accepts script s l)
  line_does l = by_line script s Does (record {
    calls = λ number of to method args. of_call number of to method args;
    ticked = λ number moment. tt;
    refused = λ l number why none. due_none _ _ l.number l.body none;
    closed = λ l k result fetch none _. due_none _ _ l.number l.body none;
    evicted = λ number slot object _ _. tt;
    unknown = λ number object. tt;
  }) l

-- after a run all is done that is due for its lines
all_due : (script : Script) (named : List (Option Identity)) (log : SwitchLog) (s : Switch) → IsSwitchRun script (opened named) log s
    → (l : Line) → Contains log.accepted l → Due log s l.number l.body
all_due script named _ _ begins l there = nothing_in l there
all_due script named _ _ (after_line log s last run) l there =
    elim (Contains-push_cases log.accepted last l there) [
      | inl before ↦ still_due log s (log.accepted ++ last ∷ []) log.routed (accepts script s last) (line_stays script s last) l.number l.body (all_due script named log s run l before)
      | inr same ↦ subst (λ (m : Line). Due (gave (record log { accepted = log.accepted ++ last ∷ [] }) (accepts script s last)) (accepts script s last).after m.number m.body) same (line_does script log s last)
    ]
all_due script named _ _ (after_message log s sent run) l there =
    still_due log s log.accepted (log.routed ++ sent ∷ []) (routes script s sent) (message_stays script s sent) l.number l.body (all_due script named log s run l there)

-- a request of the run was posted or refused
pub requests_answered : (script : Script) (named : List (Option Identity)) (log : SwitchLog) (s : Switch) → IsSwitchRun script (opened named) log s
    → (number : ℕ) (of : ℤ) (to : Identity) (method : List ℕ) (args : List Value)
    → Contains log.accepted (record { number = number; body = Ok (line.calls of to method args) }) → IsAnswered log s number of to
requests_answered script named log s run number of to method args there =
    all_due script named log s run (record { number = number; body = Ok (line.calls of to method args) }) there
