-- The steps of a gate from the end of an incarnation until the next one is mounted.
use Rattle.std.proofs.Common.{◌≡◌, ◌∙◌, ap, sym, refl, subst, inl, inr, ⊎_elim, ℕ, suc, ◌+◌, ◌≤◌, List, [], ◌∷◌, ◌++◌, append-nil, append_assoc, length, length-append, take, sum, arith, Option, Some}
use Rattle.std.proofs.Math.Seq.{take-length, take-append_seam, take-append-add}
use Rattle.std.proofs.lemmas.Grind.{flat_map-append}
use Rattle.std.proofs.lemmas.List.Elements.{All-nil, All-append, All-push, All-head, All-tail}
use Rattle.std.proofs.lemmas.Bool.{ltb-false}
use Rattle.std.specs.Prelude.{Bool, true, false, if◌then◌else◌, nat_lt, get_or, Err}
use Rattle.timeline.specs.declared.caller.Cause.{Cause}
use Rattle.timeline.specs.declared.caller.Failure.TheVariants as failure
use Rattle.timeline.specs.declared.message.Message.{Message}
use Rattle.timeline.specs.declared.message.Message.TheVariants as message
use Rattle.std.specs.List.{All, flat_map}
use Rattle.batch_journal.specs.Moments.{LeavesOnly}
use Rattle.storage_map.specs.Limits.{Object}
use Rattle.storage_map.specs.declared.op.Op.{Op}
use Rattle.timeline.specs.History.{Incarnation, History, batches_in, durable, kept_by, kept_before, line}
use Rattle.timeline.specs.Logs.{Fronted}
use Rattle.timeline.specs.Passed.{Passed, passed, replaced, bound_by}
use Rattle.timeline.specs.declared.back_log.Release.{Release}
use Rattle.timeline.specs.declared.back_log.Stop.{Stop}
use Rattle.timeline.specs.declared.entry.Entry.{Entry}
use Rattle.output_gate.specs.Down.{place_down, IsDown}
use Rattle.output_gate.specs.Gate.{Place, history_at, Lists, IsGate}
use Rattle.output_gate.specs.Kept.{RecoversToPrefix}
use Rattle.output_gate.specs.Passing.{AreMended, discarded}
use Rattle.output_gate.specs.Standing.{going_on}
use Rattle.output_gate.proofs.Kept.{Grows, grows_same, grows_newer, grows_at, Covers, have_left, leaves_now, fewer}
use Rattle.output_gate.proofs.Passing.{stops, stay, follows}
use Rattle.output_gate.proofs.Gates.{same_left}

-- the first batches of a list that is split at another place
split_at : {X : Type 0} (ws bs xs ys : List X) (k : ℕ) → ws ++ bs ≡ xs ++ ys → length xs ≡ length ws + k → ws ++ take k bs ≡ xs
split_at ws bs xs ys k same long =
    sym (take-append-add ws bs k) ∙ ap (take (length ws + k)) same ∙ ap (λ n. take n (xs ++ ys)) (sym long) ∙ take-append_seam xs ys

-- what a failed append leaves waiting needs what is durable, and speaks of no later incarnation
pub replaced_all : (P : Passed → Type 0) (now number : ℕ) (c : Cause) (m : Message) → ((sent : Message) → P (record { message = sent; needs = now; since = number })) → All P (replaced now number c m)
replaced_all P now number c (message.Reply to result) new = All-push P [] _ (All-nil P) (new (message.Reply to (Err (failure.Reset c))))
replaced_all P now number c (message.Call i n to method args depth) new = All-nil P
replaced_all P now number c (message.Fetch i n value) new = All-nil P

kept_if : (P : Passed → Type 0) (now number : ℕ) (c : Cause) (q : Passed) → ((sent : Message) → P (record { message = sent; needs = now; since = number }))
    → (b : Bool) → (b ≡ false → P q) → All P (if b then replaced now number c q.message else q ∷ [])
kept_if P now number c q new false old = All-push P [] q (All-nil P) (old refl)
kept_if P now number c q new true old = replaced_all P now number c q.message new

discarded_all : (P : Passed → Type 0) (now number : ℕ) (c : Cause) (qs : List Passed) → ((sent : Message) → P (record { message = sent; needs = now; since = number }))
    → All (λ q. nat_lt now q.needs ≡ false → P q) qs → All P (flat_map (discarded now number c) qs)
discarded_all P now number c [] new old = All-nil P
discarded_all P now number c (q ∷ qs) new old =
    let Stays : Passed → Type 0 = λ q. nat_lt now q.needs ≡ false → P q in
    All-append P (discarded now number c q) (flat_map (discarded now number c) qs)
    (kept_if P now number c q new (nat_lt now q.needs) (All-head Stays q qs old)) (discarded_all P now number c qs new (All-tail Stays q qs old))

discarded_since : (now number : ℕ) (c : Cause) (qs : List Passed) → All (λ q. q.since ≤ number) qs → All (λ q. q.since ≤ number) (flat_map (discarded now number c) qs)
discarded_since now number c qs old = discarded_all (λ (q : Passed). q.since ≤ number) now number c qs (λ sent. omega arith) (λ k d lt stays. old k d lt)

discarded_needs : (now number : ℕ) (c : Cause) (qs : List Passed) → All (λ q. q.needs ≤ now) (flat_map (discarded now number c) qs)
discarded_needs now number c qs = discarded_all (λ (q : Passed). q.needs ≤ now) now number c qs (λ sent. omega arith) (λ k d lt stays. ltb-false now (get_or qs k d).needs stays)

module _ {D : Type 0} (moment_of : D → ℕ) (left_since : D → ℕ → List ℕ → Type 0) (object : Option Object) (start : List (List Op)) (opening : ℕ) (front : Fronted) where
  -- A failed append ends the incarnation: what isn't durable is discarded or replaced.
  pub fails : (p : Place) (disk : D) (l : Lists) (before now : ℕ) (stop : Stop) → IsGate moment_of left_since object start opening front p disk l before now
      → bound_by (Some stop) p.flights ≡ Some (stop.cause, sum p.flights) → stop.batches ≡ length (batches_in p.taken)
      → durable (record (going_on front p.ended p.taken p.flights) { stop = Some stop }) ≡ sum p.flights
      → IsDown moment_of left_since object start opening front (suc p.ended) [] (record (going_on front p.ended p.taken p.flights) { stop = Some stop }) p.older disk
      (record l { waiting = flat_map (discarded now (suc p.ended) stop.cause) l.waiting }) now
  fails p disk l before now stop g bound all is_durable =
      let since = discarded_since now (suc p.ended) stop.cause l.waiting g.since_waiting in
      let needs = discarded_needs now (suc p.ended) stop.cause l.waiting in
      let last : Incarnation = record (going_on front p.ended p.taken p.flights) { stop = Some stop } in
      let own : List (List Op) = batches_in p.taken in
      let waiting : List Passed = flat_map (discarded now (suc p.ended) stop.cause) l.waiting in
      let down : History = history_at front (place_down (suc p.ended) [] last p.older) in
      let drops : (ps : List Passed) → flat_map (discarded (length (kept_before p.older) + sum p.flights) (suc p.ended) stop.cause) ps ≡ flat_map (discarded now (suc p.ended) stop.cause) ps =
      λ ps. ap (λ n. flat_map (discarded n (suc p.ended) stop.cause) ps) (sym g.flown) in
      let passes : passed down ≡ l.left ++ waiting =
      stops front p.older p.ended p.taken p.flights stop bound g.known g.settled
      ∙ drops (passed (history_at front p))
      ∙ ap (flat_map (discarded now (suc p.ended) stop.cause)) g.passes
      ∙ flat_map-append (discarded now (suc p.ended) stop.cause) l.left l.waiting
      ∙ ap (λ ps. ps ++ waiting) (stay now (suc p.ended) stop.cause l.left g.needs_left) in
      let whole : take stop.batches own ≡ own = ap (λ n. take n own) all ∙ take-length own in
      let same_line : line (last ∷ p.older) ≡ line (history_at front p) = ap (λ bs. kept_before p.older ++ bs) whole in
      let grows : Grows object start (history_at front p) down =
      λ s least c held. grows_newer object start (going_on front (suc p.ended) [] []) (last ∷ p.older) s least c
      (grows_at object start (going_on front p.ended p.taken p.flights) last p.older p.older [] refl (same_line ∙ sym (append-nil (line (history_at front p)))) (grows_same object start p.older) s least c held) in
      let count : length own ≡ sum p.flights + length l.staged = omega (arith, ap length g.line, length-append (kept_before p.older) own, length-append l.flown l.staged, g.long, g.flown) in
      record {
        number = refl;
        unfollowed = refl;
        deep = omega (arith, g.deep);
        passes = passes;
        since_left = g.since_left;
        since_waiting = since;
        needs_left = g.needs_left;
        settled = subst (All (λ q. q.needs ≤ now)) (sym passes ∙ append-nil (passed (last ∷ p.older))) (All-append (λ (q : Passed). q.needs ≤ now) l.left waiting g.needs_left needs);
        at_end = g.flown ∙ ap (λ n. length (kept_before p.older) + n) (sym is_durable);
        silent = refl;
        fails = ap (λ n. kept_before p.older ++ take n own) is_durable ∙ split_at (kept_before p.older) own l.flown l.staged (sum p.flights) g.line (omega (arith, g.long, g.flown));
        lands = (length own, omega (arith, count, is_durable), ap (λ bs. kept_before p.older ++ bs) (take-length own) ∙ g.line);
        line = same_line ∙ g.line;
        long = g.long;
        opened = g.opened;
        images = λ c left. grows 0 0 c (g.images c left);
        released = same_left moment_of left_since object start opening front p l before now disk (history_at front p) down l.released l.left grows g.released;
      }

  -- The disk is called while the object is down: what the calls leave is a prefix of the line that ended.
  pub calls_down : (ended : ℕ) (taken : List Entry) (last : Incarnation) (rest : History) (old new : D) (l : Lists) (now : ℕ) (P : List ℕ → Type 0)
      → IsDown moment_of left_since object start opening front ended taken last rest old l now
      → LeavesOnly moment_of left_since old new P → ((c : List ℕ) → P c → RecoversToPrefix object start (line (last ∷ rest)) now c)
      → IsDown moment_of left_since object start opening front ended taken last rest new l now
  calls_down ended taken last rest old new l now P g leaves holds_all =
      let h : History = history_at front (place_down ended taken last rest) in
      let covers : Covers object start moment_of left_since h ended now P =
      λ c one since least since_le least_le. inr (inl (omega (arith, since_le, g.number), fewer object start (line (last ∷ rest)) least now c least_le (holds_all c one))) in
      record {
        number = g.number;
        unfollowed = g.unfollowed;
        deep = g.deep;
        passes = g.passes;
        since_left = g.since_left;
        since_waiting = g.since_waiting;
        needs_left = g.needs_left;
        settled = g.settled;
        at_end = g.at_end;
        silent = g.silent;
        fails = g.fails;
        lands = g.lands;
        line = g.line;
        long = g.long;
        opened = omega (arith, g.opened, leaves.later);
        images = λ c left. ⊎_elim (λ past. g.images c past) (λ one. covers c one 0 0 (omega arith) (omega arith)) (leaves.before opening c g.opened left);
        released = have_left object start moment_of left_since old new h h ended now P l.released l.left (grows_same object start h) leaves covers g.since_left g.needs_left g.released;
      }

  -- The next incarnation begins: so many batches of the last one were found, which are the durable ones or these with the failed flight.
  pub begins : (ended : ℕ) (taken : List Entry) (last : Incarnation) (rest : History) (disk : D) (l : Lists) (now kept : ℕ) (found : List (List Op))
      → IsDown moment_of left_since object start opening front ended taken last rest disk l now
      → AreMended taken → kept_before rest ++ take kept (batches_in last.taken) ≡ found → now ≤ length found
      → IsGate moment_of left_since object start opening front (record (place_down ended taken last rest) { older = record last { kept = Some kept } ∷ rest }) disk
      (record l { flown = found; staged = [] }) (length found) (length found)
  begins ended taken last rest disk l now kept found g mended is enough =
      let down : Place = place_down ended taken last rest in
      let later : Place = record down { older = record last { kept = Some kept } ∷ rest } in
      let own : List (List Op) = take kept (batches_in last.taken) in
      let none : kept_before (last ∷ rest) ≡ kept_before rest ++ [] = ap (λ k. kept_before rest ++ kept_by k (batches_in last.taken)) g.unfollowed in
      let old_line : line (history_at front down) ≡ kept_before rest =
      ap (λ bs. kept_before (last ∷ rest) ++ bs) g.silent ∙ append-nil (kept_before (last ∷ rest)) ∙ none ∙ append-nil (kept_before rest) in
      let new_line : line (history_at front later) ≡ found = ap (λ bs. (kept_before rest ++ own) ++ bs) g.silent ∙ append-nil (kept_before rest ++ own) ∙ is in
      let grows : Grows object start (history_at front down) (history_at front later) =
      grows_at object start (going_on front ended taken []) (going_on front ended taken []) (last ∷ rest) (record last { kept = Some kept } ∷ rest) own refl
      (new_line ∙ sym is ∙ ap (λ bs. bs ++ own) (sym old_line))
      (grows_at object start last (record last { kept = Some kept }) rest rest [] refl (sym (append-nil (line (last ∷ rest)))) (grows_same object start rest)) in
      record {
        mounted = refl;
        deep = g.deep;
        passes = follows front last rest ended taken [] kept mended g.unfollowed ∙ g.passes;
        since_left = λ k d lt. omega (arith, g.since_left k d lt);
        since_waiting = λ k d lt. omega (arith, g.since_waiting k d lt);
        needs_left = λ k d lt. omega (arith, g.needs_left k d lt, enough);
        settled = λ k d lt. omega (arith, g.settled k d lt, g.at_end);
        known = omega (arith, g.at_end, enough, ap length is);
        counted = omega (arith, ap length is, ap length g.silent);
        flown = omega (arith, ap length is);
        line = new_line ∙ sym (append-nil found);
        long = refl;
        opened = g.opened;
        images = λ c left. grows 0 0 c (g.images c left);
        released = same_left moment_of left_since object start opening front down l now now disk (history_at front down) (history_at front later) l.released l.left grows g.released;
      }

module _ {D : Type 0} (moment_of : D → ℕ) (left_since : D → ℕ → List ℕ → Type 0) (object : Option Object) (start : List (List Op)) (opening : ℕ) (front : Fronted) where
  -- While the object is down the first message that waits leaves, and a crash now leaves all that was durable at the end.
  pub releases_down : (ended : ℕ) (taken : List Entry) (last : Incarnation) (rest : History) (disk : D) (l : Lists) (now : ℕ) (q : Passed) (others : List Passed) (release : Release)
      → IsDown moment_of left_since object start opening front ended taken last rest disk l now
      → l.waiting ≡ q ∷ others → q.needs ≤ now → release ≡ record { message = q.message; needs = q.needs; moment = moment_of disk }
      → ((c : List ℕ) → left_since disk (moment_of disk) c → RecoversToPrefix object start (line (last ∷ rest)) now c)
      → IsDown moment_of left_since object start opening front ended taken last rest disk (record l { released = l.released ++ release ∷ []; left = l.left ++ q ∷ []; waiting = others }) now
  releases_down ended taken last rest disk l now q others release g first ready is now_leaves =
      let h : History = history_at front (place_down ended taken last rest) in
      let waits : All (λ (x : Passed). x.since ≤ ended) (q ∷ others) = subst (All (λ (x : Passed). x.since ≤ ended)) first g.since_waiting in
      let since : q.since ≤ ended = All-head (λ (x : Passed). x.since ≤ ended) q others waits in
      record {
        number = g.number;
        unfollowed = g.unfollowed;
        deep = g.deep;
        passes = g.passes ∙ ap (λ ws. l.left ++ ws) first ∙ sym (append_assoc l.left (q ∷ []) others);
        since_left = All-push (λ (x : Passed). x.since ≤ ended) l.left q g.since_left since;
        since_waiting = All-tail (λ (x : Passed). x.since ≤ ended) q others waits;
        needs_left = All-push (λ (x : Passed). x.needs ≤ now) l.left q g.needs_left ready;
        settled = g.settled;
        at_end = g.at_end;
        silent = g.silent;
        fails = g.fails;
        lands = g.lands;
        line = g.line;
        long = g.long;
        opened = g.opened;
        images = g.images;
        released = leaves_now object start moment_of left_since disk h l.released l.left release q g.released record {
          message = ap (λ (r : Release). r.message) is;
          needs = ap (λ (r : Release). r.needs) is;
          earlier = omega (arith, ap (λ (r : Release). r.moment) is);
          images = λ c left. inr (inl (
            omega (arith, since, g.number),
            fewer object start (line (last ∷ rest)) q.needs now c ready
                (now_leaves c (subst (λ t. left_since disk t c) (ap (λ (r : Release). r.moment) is) left)),
          ));
        };
      }
