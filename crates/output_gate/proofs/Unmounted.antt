-- What is taken while the newest incarnation isn't mounted, and the restart behind a halt.
use Rattle.std.proofs.Common.{◌≡◌, ◌∙◌, ap, sym, refl, subst, ℕ, suc, ◌+◌, ◌≤◌, List, [], ◌∷◌, ◌++◌, append-nil, append_assoc, length, length-append, take, sum, arith, Option, Some}
use Rattle.std.proofs.Math.Seq.{take-length}
use Rattle.std.proofs.lemmas.List.Elements.{All-nil, All-append, All-cons, All-push}
use Rattle.std.specs.Prelude.{Bool, true, false, ◌||◌}
use Rattle.std.specs.List.{All, list_any}
use Rattle.storage_map.specs.Limits.{Object}
use Rattle.storage_map.specs.declared.op.Op.{Op}
use Rattle.timeline.specs.History.{Incarnation, History, batches_in, durable, durable_by, kept_before, line, said_in}
use Rattle.timeline.specs.Logs.{Fronted}
use Rattle.timeline.specs.Passed.{Passed, Held, held_in, follows as batch_follows, passed, discards, is_mend, is_followed}
use Rattle.timeline.specs.Told.{said_by, batches_of}
use Rattle.timeline.specs.declared.back_log.Stop.{Stop}
use Rattle.timeline.specs.declared.entry.Body.{Body}
use Rattle.timeline.specs.declared.entry.Body.TheVariants as body
use Rattle.timeline.specs.declared.entry.Entry.{Entry}
use Rattle.timeline.specs.declared.message.Message.{Message}
use Rattle.output_gate.specs.Down.{place_down, IsDown}
use Rattle.output_gate.specs.Gate.{Place, history_at, Lists, IsGate}
use Rattle.output_gate.specs.Passing.{AreMended}
use Rattle.output_gate.specs.Standing.{going_on}
use Rattle.output_gate.proofs.Gates.{batches_more, same_left}
use Rattle.output_gate.proofs.Kept.{Grows, grows_same, grows_newer, grows_at}
use Rattle.output_gate.proofs.Passing.{allows_if, holds_down, mends, halts, follows}

pub or_true : (b : Bool) → (b || true) ≡ true
or_true true = refl
or_true false = refl

-- a `Mend` at the end marks all messages before it
any_mend : (entries : List Entry) (e : Entry) → e.body ≡ body.Mend → list_any is_mend (said_in (entries ++ e ∷ [])) ≡ true
any_mend [] e is = ap (λ (b : Body). is_mend b || false) is
any_mend (x ∷ entries) e is = ap (λ (b : Bool). is_mend x.body || b) (any_mend entries e is) ∙ or_true (is_mend x.body)

abbrev IsMarked : Held → Type 0
IsMarked h = h.mended ≡ true

mended_behind : (b : Body) (bodies : List Body) → list_any is_mend bodies ≡ true → ((n k : ℕ) → All IsMarked (held_in n k bodies)) → (n k : ℕ) → All IsMarked (held_in n k (b ∷ bodies))
mended_behind (body.Batch ops tail confirmed) bodies any rest n k = rest (n + 1) (batch_follows n k confirmed)
mended_behind (body.Message sent) bodies any rest n k = All-cons IsMarked _ (held_in n k bodies) any (rest n k)
mended_behind (body.Bind identity) bodies any rest n k = rest n k
mended_behind (body.Ask ask free) bodies any rest n k = rest n k
mended_behind body.Sync bodies any rest n k = rest n k
mended_behind (body.Halt cause) bodies any rest n k = rest n k
mended_behind body.Mend bodies any rest n k = rest n k

marks : (entries : List Entry) (e : Entry) → e.body ≡ body.Mend → (n k : ℕ) → All IsMarked (held_in n k (said_in (entries ++ e ∷ [])))
marks [] e is n k = subst (λ (b : Body). All IsMarked (held_in n k (b ∷ []))) (sym is) (All-nil IsMarked)
marks (x ∷ entries) e is n k = mended_behind x.body (said_in (entries ++ e ∷ [])) (any_mend entries e is) (marks entries e is) n k

pub are_mended : (entries : List Entry) (e : Entry) → e.body ≡ body.Mend → AreMended (entries ++ e ∷ [])
are_mended entries e is = marks entries e is 0 0

module _ {D : Type 0} (moment_of : D → ℕ) (left_since : D → ℕ → List ℕ → Type 0) (object : Option Object) (start : List (List Op)) (opening : ℕ) (front : Fronted) where
  -- something is taken that writes nothing
  down_takes : (ended : ℕ) (taken : List Entry) (last : Incarnation) (rest : History) (disk : D) (l : Lists) (now : ℕ) (e : Entry) (more : List Passed)
      → IsDown moment_of left_since object start opening front ended taken last rest disk l now
      → passed (history_at front (place_down ended (taken ++ e ∷ []) last rest)) ≡ passed (history_at front (place_down ended taken last rest)) ++ more
      → batches_of (said_by e.body) ≡ [] → All (λ q. q.since ≤ ended) more
      → IsDown moment_of left_since object start opening front ended (taken ++ e ∷ []) last rest disk (record l { waiting = l.waiting ++ more }) now
  down_takes ended taken last rest disk l now e more g passes silent since =
      let none : batches_in (taken ++ e ∷ []) ≡ [] = batches_more taken e ∙ ap (λ bs. bs ++ batches_of (said_by e.body)) g.silent ∙ silent in
      let old : History = history_at front (place_down ended taken last rest) in
      let later : History = history_at front (place_down ended (taken ++ e ∷ []) last rest) in
      let same : line later ≡ line old ++ [] = ap (λ bs. kept_before (last ∷ rest) ++ bs) (none ∙ sym g.silent) ∙ sym (append-nil (line old)) in
      let grows : Grows object start old later = grows_at object start (going_on front ended taken []) (going_on front ended (taken ++ e ∷ []) []) (last ∷ rest) (last ∷ rest) [] refl same (grows_same object start (last ∷ rest)) in
      record {
        number = g.number;
        unfollowed = g.unfollowed;
        deep = g.deep;
        passes = passes ∙ ap (λ ps. ps ++ more) g.passes ∙ append_assoc l.left l.waiting more;
        since_left = g.since_left;
        since_waiting = All-append (λ (q : Passed). q.since ≤ ended) l.waiting more g.since_waiting since;
        needs_left = g.needs_left;
        settled = g.settled;
        at_end = g.at_end;
        silent = none;
        fails = g.fails;
        lands = g.lands;
        line = g.line;
        long = g.long;
        opened = g.opened;
        images = λ c left. grows 0 0 c (g.images c left);
        released = same_left moment_of left_since object start opening front (place_down ended taken last rest) l now now disk old later l.released l.left grows g.released;
      }

  -- a failure, which needs what was durable at the end; and a `Mend`, behind which a mounting is wanted
  pub down_message : (ended : ℕ) (taken : List Entry) (last : Incarnation) (rest : History) (disk : D) (l : Lists) (now : ℕ) (e : Entry) (sent : Message) → e.body ≡ body.Message sent
      → IsDown moment_of left_since object start opening front ended taken last rest disk l now
      → IsDown moment_of left_since object start opening front ended (taken ++ e ∷ []) last rest disk (record l { waiting = l.waiting ++ record { message = sent; needs = now; since = ended } ∷ [] }) now
  down_message ended taken last rest disk l now e sent is g =
      let one : ℕ → ℕ → Passed = λ needs since. record { message = sent; needs = needs; since = since } in
      down_takes ended taken last rest disk l now e (one now ended ∷ []) g
      (holds_down front (last ∷ rest) ended taken [] e sent is (ap is_followed g.unfollowed)
      ∙ ap (λ n. passed (history_at front (place_down ended taken last rest)) ++ one n (length (last ∷ rest)) ∷ []) (sym g.at_end)
      ∙ ap (λ n. passed (history_at front (place_down ended taken last rest)) ++ one now n ∷ []) g.deep)
      (ap (λ (b : Body). batches_of (said_by b)) is) (All-push (λ (q : Passed). q.since ≤ ended) [] (one now ended) (All-nil (λ (q : Passed). q.since ≤ ended)) (omega arith))

  pub down_mend : (ended : ℕ) (taken : List Entry) (last : Incarnation) (rest : History) (disk : D) (l : Lists) (now : ℕ) (e : Entry) → e.body ≡ body.Mend
      → IsDown moment_of left_since object start opening front ended taken last rest disk l now
      → IsDown moment_of left_since object start opening front ended (taken ++ e ∷ []) last rest disk l now
  down_mend ended taken last rest disk l now e is g =
      subst (λ (ws : List Passed). IsDown moment_of left_since object start opening front ended (taken ++ e ∷ []) last rest disk (record l { waiting = ws }) now) (append-nil l.waiting)
      (down_takes ended taken last rest disk l now e [] g
      (mends front (last ∷ rest) ended taken [] e is (ap is_followed g.unfollowed) ∙ sym (append-nil (passed (history_at front (place_down ended taken last rest)))))
      (ap (λ (b : Body). batches_of (said_by b)) is) (All-nil (λ (q : Passed). q.since ≤ ended)))

  -- Behind a halt all is flown, nothing waits, and the next incarnation starts at once with all batches.
  pub restarts : (p : Place) (disk : D) (l : Lists) (before : ℕ) (stop : Stop) → IsGate moment_of left_since object start opening front p disk l before before → l.waiting ≡ []
      → stop.batches ≡ length (batches_in p.taken)
      → durable (record (going_on front p.ended p.taken p.flights) { stop = Some stop }) ≡ sum p.flights
      → IsGate moment_of left_since object start opening front
      (record { ended = suc p.ended; taken = []; flights = []; older = record (going_on front p.ended p.taken p.flights) { stop = Some stop; kept = Some (length (batches_in p.taken)) } ∷ p.older }) disk l before before
  restarts p disk l before stop g none all is_durable =
      let own : List (List Op) = batches_in p.taken in
      let last : Incarnation = record (going_on front p.ended p.taken p.flights) { stop = Some stop } in
      let kept : Incarnation = record last { kept = Some (length own) } in
      let later : Place = record { ended = suc p.ended; taken = []; flights = []; older = kept ∷ p.older } in
      let even : sum p.flights ≡ length own = omega (arith, g.counted, g.flown) in
      let whole_flown : length own ≤ durable_by (Some stop) p.flights = omega (arith, is_durable, even) in
      let passes : passed (history_at front later) ≡ passed (history_at front p) =
      follows front last p.older (suc p.ended) [] [] (length own) (All-nil IsMarked) refl
      ∙ halts front p.older p.ended p.taken p.flights stop (allows_if (discards stop.cause stop.read) stop.cause (durable_by (Some stop) p.flights) (length own) whole_flown) in
      let whole : kept_before p.older ++ take (length own) own ≡ kept_before p.older ++ own = ap (λ bs. kept_before p.older ++ bs) (take-length own) in
      let old_line : line (kept ∷ p.older) ≡ line (history_at front p) ++ [] = ap (λ n. kept_before p.older ++ take n own) all ∙ whole ∙ sym (append-nil (line (history_at front p))) in
      let grows : Grows object start (history_at front p) (history_at front later) = λ s least c held.
      grows_newer object start (going_on front (suc p.ended) [] []) (kept ∷ p.older) s least c
      (grows_at object start (going_on front p.ended p.taken p.flights) kept p.older p.older [] refl old_line (grows_same object start p.older) s least c held) in
      record {
        mounted = refl;
        deep = omega (arith, g.deep);
        passes = passes ∙ g.passes;
        since_left = λ k d lt. omega (arith, g.since_left k d lt);
        since_waiting = λ k d lt. omega (arith, g.since_waiting k d lt);
        needs_left = g.needs_left;
        settled = λ k d lt. omega (
          arith,
          is_durable,
          even,
          g.counted,
          subst (All (λ q. q.needs ≤ before)) (sym (append-nil l.left) ∙ ap (λ ws. l.left ++ ws) (sym none) ∙ sym (passes ∙ g.passes) ∙ append-nil (passed (kept ∷ p.older))) g.needs_left k d lt,
        );
        known = omega (arith, is_durable, even, ap length whole, length-append (kept_before p.older) own);
        counted = omega (arith, g.counted, ap length whole, length-append (kept_before p.older) own);
        flown = omega (arith, g.counted, ap length whole, length-append (kept_before p.older) own);
        line = append-nil (kept_before p.older ++ take (length own) own) ∙ whole ∙ g.line;
        long = g.long;
        opened = g.opened;
        images = λ c left. grows 0 0 c (g.images c left);
        released = same_left moment_of left_since object start opening front p l before before disk (history_at front p) (history_at front later) l.released l.left grows g.released;
      }
