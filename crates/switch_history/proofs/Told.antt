-- Each request that is left has exactly one line in the end.
use Rattle.std.proofs.Common.{◌≡◌, ◌∙◌, ℕ, ◌+◌, ℤ, List, [], ◌∷◌, ◌++◌, length, map, cond, Option, Some, None, Ok, Err, true, false, refl, sym, ap, arith, true≢false, length-append}
use Rattle.std.specs.Prelude.{Bool, Result, is_some, nat_le}
use Rattle.std.specs.List.{AllByRecursion, filter, find, flat_map, sum_by}
use Rattle.std.proofs.lemmas.List.Concat.{flat_map-append, length-flat_map}
use Rattle.std.proofs.lemmas.List.Elements.{filter-append, recursion_from_All}
use Rattle.std.proofs.lemmas.List.Sums.{sum_by-append, sum_by-cons}
use Rattle.do_value.specs.declared.value.Value.{Value}
use Rattle.do_tree.specs.Tree.{Script}
use Rattle.timeline.specs.Finish.{fetch_line, finishes, in_order, is_fetch_of, left_line, ordered, wait_line}
use Rattle.timeline.specs.Lines.{Identity, Line, OutLine, WaitLine}
use Rattle.timeline.specs.Lines as line
use Rattle.timeline.specs.Switch.{Given, IsSwitchRun, OpenFetch, Switch, SwitchLog, accepted as after_line, accepts, answers_to, begins, opened, routed as after_message, routes}
use Rattle.timeline.specs.declared.caller.Caller.{Caller}
use Rattle.timeline.specs.declared.caller.Caller.TheVariants as from
use Rattle.timeline.specs.declared.caller.Failure.{Failure}
use Rattle.timeline.specs.declared.message.Message.{Message}
use Rattle.timeline.specs.declared.notice.Waits.{Waits}
use Rattle.timeline.specs.declared.notice.Waits.TheVariants as waits
use Rattle.switch_history.specs.Answering.{AreAnsweredOrLeft, answer_in, answers_in, many, request_of, requests_left, wait_in, waits_in}
use Rattle.switch_history.specs.Lines.{AreToldOnce, HasItsFetch, HaveTheirFetches, LeftHasItsLine}
use Rattle.switch_history.proofs.Cases.{OfCall, by_line, by_message}
use Rattle.switch_history.proofs.Once.{counted, many_sum, sum_flat}

-- ---- what lines weigh in whatever order
module _ (weighs : OutLine → ℕ) where
  -- A line behind the number by which it is put in order.
  abbrev numbered_weighs : ℕ × OutLine → ℕ
  numbered_weighs l = weighs l.1

  -- a line that is put in order is among the others
  in_order_weighs : (l : ℕ × OutLine) (lines : List (ℕ × OutLine)) → sum_by numbered_weighs (in_order l lines) ≡ weighs l.1 + sum_by numbered_weighs lines
  in_order_weighs l [] = sum_by-cons numbered_weighs l []
  in_order_weighs l (other ∷ lines) = by_first (nat_le l.0 other.0) (in_order_weighs l lines)
    where
      by_first : (b : Bool) → sum_by numbered_weighs (in_order l lines) ≡ weighs l.1 + sum_by numbered_weighs lines
          → sum_by numbered_weighs (cond b (l ∷ other ∷ lines) (other ∷ in_order l lines)) ≡ weighs l.1 + sum_by numbered_weighs (other ∷ lines)
      by_first true rest = sum_by-cons numbered_weighs l (other ∷ lines)
      by_first false rest =
          omega (arith, rest, sum_by-cons numbered_weighs other (in_order l lines), sum_by-cons numbered_weighs other lines)

  -- lines in order weigh what they did
  ordered_weigh : (lines : List (ℕ × OutLine)) → sum_by numbered_weighs (ordered lines) ≡ sum_by numbered_weighs lines
  ordered_weigh [] = refl
  ordered_weigh (l ∷ lines) = omega (arith, ordered_weigh lines, in_order_weighs l (ordered lines), sum_by-cons numbered_weighs l lines)

  -- so they do without those numbers
  outs_weigh : (lines : List (ℕ × OutLine)) → sum_by weighs (map (λ (l : ℕ × OutLine). l.1) lines) ≡ sum_by numbered_weighs lines
  outs_weigh [] = refl
  outs_weigh (l ∷ lines) =
      omega (arith, outs_weigh lines, sum_by-cons weighs l.1 (map (λ (k : ℕ × OutLine). k.1) lines), sum_by-cons numbered_weighs l lines)

  -- so what the lines of the end weigh is what those of all that is left do
  finishes_weigh : (s : Switch) (left : List (ℕ × Caller × Waits)) → sum_by weighs (finishes s left) ≡ sum_by numbered_weighs (flat_map (left_line s) left)
  finishes_weigh s left = outs_weigh (ordered (flat_map (left_line s) left)) ∙ ordered_weigh (flat_map (left_line s) left)

-- ---- they say of each request once that it waits
module _ (weighs : ℤ → ℕ) (s : Switch) where
  -- A line weighs what the request does that it says to wait.
  abbrev wait_weighs : OutLine → ℕ
  wait_weighs out = sum_by weighs (wait_in out)

  -- a request that waits for one thing has one line
  one_waits : (at : ℕ) (number : ℤ) (on : List WaitLine) → length on ≡ 1
      → sum_by (numbered_weighs wait_weighs) (map (λ (w : WaitLine). (at, line.waiting number w)) on) ≡ sum_by weighs (number ∷ [])
  one_waits at number [] is = absurd (omega (arith, is))
  one_waits at number (w ∷ []) is = omega (arith, sum_by-cons (numbered_weighs wait_weighs) (at, line.waiting number w) [])
  one_waits at number (w ∷ v ∷ on) is = absurd (omega (arith, is))

  -- so has each request that is left, and a call of an object none
  item_waits : (item : ℕ × Caller × Waits) → HasItsFetch s item → sum_by (numbered_weighs wait_weighs) (left_line s item) ≡ sum_by weighs (request_of item.1)
  item_waits (slot, from.Request at number, waits.Fetch incarnation own) is =
      one_waits at number (fetch_line (find (is_fetch_of slot incarnation own) s.unanswered)) (by_found (find (is_fetch_of slot incarnation own) s.unanswered) is)
    where
      by_found : (f : Option OpenFetch) → is_some f ≡ true → length (fetch_line f) ≡ 1
      by_found None is = absurd (true≢false (sym is))
      by_found (Some f) is = refl
  item_waits (slot, from.Request at number, waits.Call class name) is = one_waits at number (line.on_call (class, name) ∷ []) refl
  item_waits (slot, from.Request at number, waits.Block) is = one_waits at number (line.on_block ∷ []) refl
  item_waits (slot, from.Object other incarnation number, wait) is = refl

  -- so have all
  all_wait : (left : List (ℕ × Caller × Waits)) → AllByRecursion (HasItsFetch s) left
      → sum_by (numbered_weighs wait_weighs) (flat_map (left_line s) left) ≡ sum_by weighs (requests_left left)
  all_wait [] all = refl
  all_wait (item ∷ left) all =
      omega (
        arith,
        all_wait left all.1,
        item_waits item all.0,
        sum_by-append (numbered_weighs wait_weighs) (left_line s item) (flat_map (left_line s) left),
        sum_by-append weighs (request_of item.1) (requests_left left),
      )

-- as many of them as count are left
left_waits : (s : Switch) (left : List (ℕ × Caller × Waits)) → HaveTheirFetches s left → (counts : ℤ → Bool)
    → many counts (waits_in (finishes s left)) ≡ many counts (requests_left left)
left_waits s left have counts =
    many_sum counts (waits_in (finishes s left)) ∙ sum_flat (counted counts) wait_in (finishes s left)
    ∙ finishes_weigh (wait_weighs (counted counts) s) s left ∙ all_wait (counted counts) s left (recursion_from_All (HasItsFetch s) left have)
    ∙ sym (many_sum counts (requests_left left))

-- ---- they answer nothing
-- A line answers a number, or none.
abbrev answers_number : OutLine → ℕ
answers_number out = length (answer_in out)

-- lines that say that a request waits answer none
waiting_answers : (at : ℕ) (number : ℤ) (on : List WaitLine)
    → sum_by (numbered_weighs answers_number) (map (λ (w : WaitLine). (at, line.waiting number w)) on) ≡ 0
waiting_answers at number [] = refl
waiting_answers at number (w ∷ on) =
    omega (
      arith,
      waiting_answers at number on,
      sum_by-cons (numbered_weighs answers_number) (at, line.waiting number w) (map (λ (v : WaitLine). (at, line.waiting number v)) on),
    )

-- so do those of what is left
item_answers : (s : Switch) (item : ℕ × Caller × Waits) → sum_by (numbered_weighs answers_number) (left_line s item) ≡ 0
item_answers s (slot, from.Request at number, wait) = waiting_answers at number (wait_line s slot wait)
item_answers s (slot, from.Object other incarnation number, wait) = refl

-- and of all that is left
none_answers : (s : Switch) (left : List (ℕ × Caller × Waits)) → sum_by (numbered_weighs answers_number) (flat_map (left_line s) left) ≡ 0
none_answers s [] = refl
none_answers s (item ∷ left) =
    omega (
      arith,
      none_answers s left,
      item_answers s item,
      sum_by-append (numbered_weighs answers_number) (left_line s item) (flat_map (left_line s) left),
    )

-- so the lines of the end answer none
left_answers : (s : Switch) (left : List (ℕ × Caller × Waits)) → answers_in (finishes s left) ≡ []
left_answers s left =
    no_length (answers_in (finishes s left))
    (length-flat_map answer_in (finishes s left) ∙ finishes_weigh answers_number s left ∙ none_answers s left)
  where
    no_length : (numbers : List ℤ) → length numbers ≡ 0 → numbers ≡ []
    no_length [] none = refl
    no_length (n ∷ numbers) none = absurd (omega (arith, none))

-- ---- a run says of none that it waits
-- What is given says of no request that it waits.
abbrev SaysNoWait : Given → Type 0
SaysNoWait given = waits_in given.lines ≡ []

-- a result says none
answer_no_wait : (s : Switch) (to : Caller) (result : Result Value Failure) → SaysNoWait (answers_to s to result)
answer_no_wait s (from.Request at number) (Ok value) = refl
answer_no_wait s (from.Request at number) (Err f) = refl
answer_no_wait s (from.Object slot incarnation number) result = refl

-- nor does a call
call_no_wait : (script : Script) (s : Switch) (caller : Caller) (to : Identity) → OfCall script s SaysNoWait caller to
call_no_wait script s caller to = record {
  refused = λ f _. answer_no_wait s caller (Err f);
  posted = λ number slot args depth _ _. refl;
  bound = λ number slot args depth _ _. refl;
}

-- nor a line
line_no_wait : (script : Script) (s : Switch) (l : Line) → SaysNoWait (accepts script s l)
line_no_wait script s l = by_line script s (λ m given. SaysNoWait given) (record {
  calls = λ at number to method args. call_no_wait script s (from.Request at number) to;
  ticked = λ at moment. refl;
  refused = λ m number why _. refl;
  closed = λ m k result fetch _ _. refl;
  evicted = λ at slot object _ _. refl;
  unknown = λ at object. refl;
}) l

-- nor a message
message_no_wait : (script : Script) (s : Switch) (sent : ℕ × Message) → SaysNoWait (routes script s sent)
message_no_wait script s sent = by_message script s (λ m given. SaysNoWait given) (record {
  nothing = λ m. refl;
  replied = λ slot to result _. answer_no_wait s to result;
  called = λ slot incarnation number to object method args depth _. call_no_wait script s (from.Object slot incarnation number) to;
  fetched = λ slot incarnation number value object _. refl;
}) sent

-- nor what follows others
no_wait_more : (lines more : List OutLine) → waits_in lines ≡ [] → waits_in more ≡ [] → waits_in (lines ++ more) ≡ []
no_wait_more lines more none no_more = flat_map-append wait_in lines more ∙ ap (λ (numbers : List ℤ). numbers ++ waits_in more) none ∙ no_more

-- so a run says none
run_no_wait : (script : Script) (named : List (Option Identity)) (log : SwitchLog) (s : Switch) → IsSwitchRun script (opened named) log s → waits_in log.lines ≡ []
run_no_wait script named _ _ begins = refl
run_no_wait script named _ _ (after_line log s l run) =
    no_wait_more log.lines (accepts script s l).lines (run_no_wait script named log s run) (line_no_wait script s l)
run_no_wait script named _ _ (after_message log s sent run) =
    no_wait_more log.lines (routes script s sent).lines (run_no_wait script named log s run) (message_no_wait script s sent)

-- ---- so each accepted call has one line
-- of joined lists as many count as of both
many-append : (counts : ℤ → Bool) (xs ys : List ℤ) → many counts (xs ++ ys) ≡ many counts xs + many counts ys
many-append counts xs ys =
    ap (λ (zs : List ℤ). length zs) (filter-append counts xs ys) ∙ length-append (filter counts xs) (filter counts ys)

-- a call has its answer, or is left and has the line of the end
told_once : (accepted : List Line) (lines : List OutLine) (s : Switch) (left : List (ℕ × Caller × Waits)) → waits_in lines ≡ []
    → HaveTheirFetches s left → AreAnsweredOrLeft accepted lines left → AreToldOnce accepted (lines ++ finishes s left)
told_once accepted lines s left none have answered counts =
    omega (
      arith,
      answered counts,
      left_waits s left have counts,
      ap (many counts) (left_answers s left),
      ap (many counts) none,
      ap (many counts) (flat_map-append answer_in lines (finishes s left)),
      ap (many counts) (flat_map-append wait_in lines (finishes s left)),
      many-append counts (answers_in lines) (answers_in (finishes s left)),
      many-append counts (waits_in lines) (waits_in (finishes s left)),
    )

-- the law
pub left_told : LeftHasItsLine
left_told = record { waits = left_waits; answers = left_answers; run = run_no_wait; whole = told_once }
