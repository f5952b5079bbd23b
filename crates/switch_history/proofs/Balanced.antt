-- What a run prints and posts for requests is what it has accepted of calls, with what it has routed of replies to them.
use Rattle.std.proofs.Common.{◌≡◌, ℕ, suc, ◌+◌, ℤ, List, [], ◌∷◌, cond, Option, Some, None, Ok, Err, true, false, refl, sym, arith, true≢false}
use Rattle.std.specs.Prelude.{Bool, Result, is_some}
use Rattle.std.specs.List.{sum_by}
use Rattle.std.proofs.lemmas.List.Sums.{sum_by-append, sum_by-cons, sum_by_push}
use Rattle.do_value.specs.declared.value.Value.{Value}
use Rattle.do_tree.specs.Tree.{Script}
use Rattle.timeline.specs.Lines.{Identity, Line, OutLine, Request}
use Rattle.timeline.specs.Lines as line
use Rattle.timeline.specs.Replies.{caller_of}
use Rattle.timeline.specs.Switch.{Switch, SwitchLog, Given, opened, answers_to, accepts, routes, routes_from, is_fit, is_known, object_at, gives_nothing, tick_posts}
use Rattle.timeline.specs.declared.caller.Caller.{Caller}
use Rattle.timeline.specs.declared.caller.Caller.TheVariants as from
use Rattle.timeline.specs.declared.caller.Failure.{Failure}
use Rattle.timeline.specs.declared.event.Event.{Event}
use Rattle.timeline.specs.declared.event.Event.TheVariants as event
use Rattle.timeline.specs.declared.message.Message.{Message}
use Rattle.timeline.specs.declared.message.Message.TheVariants as message
use Rattle.object_messages.specs.Naming.{replied_by}
use Rattle.switch_history.specs.Answering.{answer_in, call_in}
use Rattle.mailbox.specs.Fit.{IsFit, replies_fit}
use Rattle.switch_history.specs.Fit.{IsFitRun, begins, accepted, routed}
use Rattle.switch_history.proofs.Cases.{OfCall, IsNoCall, by_call, by_line}

-- What each caller of a list weighs, together: what a post is a call of, and what a message replies to.
abbrev pub post_weighs : (Caller → ℕ) → ℕ × Event → ℕ
post_weighs weigh post = sum_by weigh (caller_of post.1)

abbrev pub message_weighs : (Caller → ℕ) → ℕ × Message → ℕ
message_weighs weigh sent = sum_by weigh (replied_by sent.1)

-- ticks are of no caller
pub ticks_weigh_none : (weigh : Caller → ℕ) (script : Script) (moment : ℤ) (slot : ℕ) (objects : List (Option Identity))
    → sum_by (post_weighs weigh) (tick_posts script moment slot objects) ≡ 0
ticks_weigh_none weigh script moment slot [] = refl
ticks_weigh_none weigh script moment slot (None ∷ objects) = ticks_weigh_none weigh script moment (suc slot) objects
ticks_weigh_none weigh script moment slot (Some object ∷ objects) = by_known (is_known script object) (ticks_weigh_none weigh script moment (suc slot) objects)
  where
    by_known : (b : Bool) → sum_by (post_weighs weigh) (tick_posts script moment (suc slot) objects) ≡ 0
        → sum_by (post_weighs weigh) (cond b ((slot, event.Tick moment) ∷ tick_posts script moment (suc slot) objects) (tick_posts script moment (suc slot) objects)) ≡ 0
    by_known true rest = omega (arith, rest, sum_by-cons (post_weighs weigh) (slot, event.Tick moment) (tick_posts script moment (suc slot) objects))
    by_known false rest = rest

-- A request weighs what its line and its number do.
abbrev pub caller_weighs : (ℕ → ℤ → ℕ) → Caller → ℕ
caller_weighs weighs (from.Request line number) = weighs line number
caller_weighs weighs (from.Object slot incarnation number) = 0

module _ (weighs : ℤ → ℕ) where
  -- Here what its number does.
  abbrev pub request_weighs : Caller → ℕ
  request_weighs = caller_weighs (λ line number. weighs number)

  abbrev pub line_weighs : OutLine → ℕ
  line_weighs out = sum_by weighs (answer_in out)

  abbrev pub body_weighs : Line → ℕ
  body_weighs l = sum_by weighs (call_in l.body)

  -- What is given answers requests or posts them, of this weight.
  abbrev Balances : ℕ → Given → Type 0
  Balances n given = sum_by line_weighs given.lines + sum_by (post_weighs request_weighs) given.posts ≡ n

  -- a result goes to a request as a line
  to_caller : (s : Switch) (to : Caller) (result : Result Value Failure) → Balances (request_weighs to) (answers_to s to result)
  to_caller s (from.Request line number) (Ok value) = omega arith
  to_caller s (from.Request line number) (Err f) = omega arith
  to_caller s (from.Object slot incarnation number) result = omega arith

  -- a call is answered or posted
  of_call : (script : Script) (s : Switch) (caller : Caller) (to : Identity) → OfCall script s (Balances (request_weighs caller)) caller to
  of_call script s caller to = record {
    refused = λ f _. to_caller s caller (Err f);
    posted = λ number slot args depth _ _. omega arith;
    bound = λ number slot args depth _ _. omega arith;
  }

  -- a line that calls nobody weighs nothing
  no_call_weighs : (number : ℕ) (body : Result Request ℕ) → IsNoCall body → body_weighs (record { number = number; body = body }) ≡ 0
  no_call_weighs number (Ok (line.calls of to method args)) none = absurd none
  no_call_weighs number (Ok (line.ticks moment)) none = refl
  no_call_weighs number (Ok (line.fetched k value)) none = refl
  no_call_weighs number (Ok (line.fetch_failed k)) none = refl
  no_call_weighs number (Ok (line.evicts object)) none = refl
  no_call_weighs number (Err why) none = refl

  -- each line
  line_balances : (script : Script) (s : Switch) (l : Line) → Balances (body_weighs l) (accepts script s l)
  line_balances script s l = by_line script s (λ m given. Balances (body_weighs m) given) (record {
    calls = λ at number to method args. record {
      refused = λ f _. omega arith;
      posted = λ place slot values depth _ _. omega arith;
      bound = λ place slot values depth _ _. omega arith;
    };
    ticked = λ at moment. omega (arith, ticks_weigh_none request_weighs script moment 0 s.objects);
    refused = λ m number why none. omega (arith, no_call_weighs m.number m.body none);
    closed = λ m k result fetch none _. omega (arith, no_call_weighs m.number m.body none);
    evicted = λ at slot object _ _. omega arith;
    unknown = λ at object. omega arith;
  }) l

  -- each message that is fit
  message_balances : (script : Script) (s : Switch) (sent : ℕ × Message) → IsFit s sent
      → Balances (message_weighs request_weighs sent) (routes script s sent)
  message_balances script s sent fit = at_object sent.0 sent.1 (object_at s sent.0) fit.comes fit.replies
    where
      at_fit : (slot : ℕ) (to : Caller) (result : Result Value Failure) (b : Bool) → b ≡ true
          → Balances (message_weighs request_weighs (slot, message.Reply to result)) (cond b (answers_to s to result) (gives_nothing s))
      at_fit slot to result true is = omega (arith, to_caller s to result)
      at_fit slot to result false is = absurd (true≢false (sym is))

      at_object : (slot : ℕ) (m : Message) (object : Option Identity) → is_some object ≡ true → replies_fit s m ≡ true
          → Balances (message_weighs request_weighs (slot, m)) (routes_from script s slot m object)
      at_object slot m None comes replies = absurd (true≢false (sym comes))
      at_object slot (message.Reply to result) (Some object) comes replies = at_fit slot to result (is_fit s to) replies
      at_object slot (message.Call incarnation number to method args depth) (Some object) comes replies =
          by_call script s (Balances 0) (from.Object slot incarnation number) to method args depth (of_call script s (from.Object slot incarnation number) to)
      at_object slot (message.Fetch incarnation number value) (Some object) comes replies = omega arith

  -- What is accepted and routed weighs what is printed and posted.
  abbrev pub IsBalanced : SwitchLog → Type 0
  IsBalanced log = sum_by line_weighs log.lines + sum_by (post_weighs request_weighs) log.posts
      ≡ sum_by body_weighs log.accepted + sum_by (message_weighs request_weighs) log.routed

  -- so each run of fit messages
  pub is_balanced : (script : Script) (named : List (Option Identity)) (log : SwitchLog) (s : Switch) → IsFitRun script (opened named) log s → IsBalanced log
  is_balanced script named _ _ begins = refl
  is_balanced script named _ _ (accepted log s l run) =
      omega (
        arith,
        is_balanced script named log s run,
        line_balances script s l,
        sum_by-append line_weighs log.lines (accepts script s l).lines,
        sum_by-append (post_weighs request_weighs) log.posts (accepts script s l).posts,
        sum_by_push body_weighs log.accepted l,
      )
  is_balanced script named _ _ (routed log s sent fit run) =
      omega (
        arith,
        is_balanced script named log s run,
        message_balances script s sent fit,
        sum_by-append line_weighs log.lines (routes script s sent).lines,
        sum_by-append (post_weighs request_weighs) log.posts (routes script s sent).posts,
        sum_by_push (message_weighs request_weighs) log.routed sent,
      )
