-- Fetches are numbered 1, 2, 3 and on.
use Rattle.std.proofs.Common.{◌≡◌, ℕ, suc, ◌+◌, ℤ, List, [], ◌∷◌, ◌++◌, Option, Ok, Err, refl, sym, ap, subst, arith}
use Rattle.std.specs.Prelude.{Result}
use Rattle.std.proofs.lemmas.List.Concat.{flat_map-append}
use Rattle.do_value.specs.declared.value.Value.{Value}
use Rattle.do_tree.specs.Tree.{Script}
use Rattle.timeline.specs.Lines.{Identity, OutLine}
use Rattle.timeline.specs.Lines as line
use Rattle.timeline.specs.Switch.{Switch, SwitchLog, Given, IsSwitchRun, opened, begins, accepted as after_line, routed as after_message, answers_to, result_line}
use Rattle.timeline.specs.declared.caller.Caller.{Caller}
use Rattle.timeline.specs.declared.caller.Caller.TheVariants as from
use Rattle.timeline.specs.declared.caller.Failure.{Failure}
use Rattle.switch_history.specs.Posted.{AreNumberedFrom, fetch_in, fetches_in}
use Rattle.switch_history.proofs.Cases.{OfCall, OfLine, OfMessage, by_line, by_message}

-- From one number to another, one after another.
abbrev Ascend : ℕ → List ℕ → ℕ → Type 0
Ascend before [] after = before ≡ after
Ascend before (k ∷ ks) after = (k ≡ suc before) × Ascend k ks after

-- what ascends to a number is numbered
ascend_numbered : (before after : ℕ) (ks : List ℕ) → Ascend before ks after → AreNumberedFrom before ks
ascend_numbered before after [] is = tt
ascend_numbered before after (k ∷ ks) is = (is.0, ascend_numbered k after ks is.1)

-- first up to one number, then up to another
ascend_append : (a b c : ℕ) (xs ys : List ℕ) → Ascend a xs b → Ascend b ys c → Ascend a (xs ++ ys) c
ascend_append a b c [] ys first more = subst (λ (n : ℕ). Ascend n ys c) (sym first) more
ascend_append a b c (x ∷ xs) ys first more = (first.0, ascend_append x b c xs ys first.1 more)

-- What was given so far goes on.
abbrev Goes : List OutLine → Given → Type 0
Goes before given = Ascend 0 (fetches_in (before ++ given.lines)) given.after.fetches

module _ (script : Script) (s : Switch) (before : List OutLine) (so_far : Ascend 0 (fetches_in before) s.fetches) where
  -- lines that go on with the numbers are printed
  goes : (lines : List OutLine) (fetches : ℕ) → Ascend s.fetches (fetches_in lines) fetches → Ascend 0 (fetches_in (before ++ lines)) fetches
  goes lines fetches more =
      subst (λ (ks : List ℕ). Ascend 0 ks fetches) (sym (flat_map-append fetch_in before lines))
      (ascend_append 0 s.fetches fetches (fetches_in before) (fetches_in lines) so_far more)

  -- lines without a fetch are printed
  none : (lines : List OutLine) → fetches_in lines ≡ [] → Ascend 0 (fetches_in (before ++ lines)) s.fetches
  none lines no_fetch = goes lines s.fetches (subst (λ (ks : List ℕ). Ascend s.fetches ks s.fetches) (sym no_fetch) refl)

  -- a result is no fetch
  no_result : (number : ℤ) (result : Result Value Failure) → fetch_in (result_line number result) ≡ []
  no_result number (Ok value) = refl
  no_result number (Err f) = refl

  -- a result is printed or posted
  to_caller : (to : Caller) (result : Result Value Failure) → Goes before (answers_to s to result)
  to_caller (from.Request line number) result = none (result_line number result ∷ []) (ap (λ (ks : List ℕ). ks ++ []) (no_result number result))
  to_caller (from.Object slot incarnation number) result = none [] refl

  -- a call prints no fetch
  of_call : (caller : Caller) (to : Identity) → OfCall script s (Goes before) caller to
  of_call caller to = record {
    refused = λ f _. to_caller caller (Err f);
    posted = λ number slot args depth _ _. none [] refl;
    bound = λ number slot args depth _ _. none [] refl;
  }

  -- nor does a line
  of_line : OfLine script s (λ l given. Goes before given)
  of_line = record {
    calls = λ at number to method args. of_call (from.Request at number) to;
    ticked = λ at moment. none [] refl;
    refused = λ l number why _. none (line.refused number why ∷ []) refl;
    closed = λ l k result fetch _ _. none [] refl;
    evicted = λ at slot object _ _. none [] refl;
    unknown = λ at object. none [] refl;
  }

  -- a message prints the next fetch, or none
  of_message : OfMessage script s (λ sent given. Goes before given)
  of_message = record {
    nothing = λ sent. none [] refl;
    replied = λ slot to result _. to_caller to result;
    called = λ slot incarnation number to object method args depth _. of_call (from.Object slot incarnation number) to;
    fetched = λ slot incarnation number value object _. goes (line.fetch (s.fetches + 1) object value ∷ []) (s.fetches + 1) (omega arith, refl);
  }

-- the fetches of a run ascend to their count
ascending : (script : Script) (named : List (Option Identity)) (log : SwitchLog) (s : Switch) → IsSwitchRun script (opened named) log s
    → Ascend 0 (fetches_in log.lines) s.fetches
ascending script named _ _ begins = refl
ascending script named _ _ (after_line log s l run) =
    by_line script s (λ l given. Goes log.lines given) (of_line script s log.lines (ascending script named log s run)) l
ascending script named _ _ (after_message log s sent run) =
    by_message script s (λ sent given. Goes log.lines given) (of_message script s log.lines (ascending script named log s run)) sent

-- the fetches of a run are numbered
pub are_numbered : (script : Script) (named : List (Option Identity)) (log : SwitchLog) (s : Switch) → IsSwitchRun script (opened named) log s
    → AreNumberedFrom 0 (fetches_in log.lines)
are_numbered script named log s run = ascend_numbered 0 s.fetches (fetches_in log.lines) (ascending script named log s run)
