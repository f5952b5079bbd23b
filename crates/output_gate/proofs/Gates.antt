-- The steps of a gate whose newest incarnation is mounted.
use Rattle.std.proofs.Common.{◌≡◌, ◌∙◌, ap, sym, refl, subst, inl, ⊎_elim, ℕ, suc, ◌+◌, ◌≤◌, List, [], ◌∷◌, ◌++◌, append-nil, append_assoc, length, length-append, sum, arith, Option}
use Rattle.std.proofs.lemmas.Grind.{flat_map-append}
use Rattle.std.proofs.lemmas.List.Sums.{fold-append}
use Rattle.std.proofs.lemmas.List.Elements.{All-nil, All-append, All-push, All-head, All-tail}
use Rattle.std.specs.Prelude.{Bool, false}
use Rattle.std.specs.List.{All}
use Rattle.batch_journal.specs.Moments.{LeavesOnly}
use Rattle.storage_map.specs.Limits.{Object}
use Rattle.storage_map.specs.declared.op.Op.{Op}
use Rattle.timeline.specs.History.{History, batches_in, kept_before, line, said_in}
use Rattle.timeline.specs.Logs.{Fronted}
use Rattle.timeline.specs.Passed.{Passed, held_in, passed, reaches, is_mend}
use Rattle.timeline.specs.Told.{Said, said_by, spoken, batches_of}
use Rattle.timeline.specs.declared.back_log.Release.{Release}
use Rattle.timeline.specs.declared.entry.Body.{Body}
use Rattle.timeline.specs.declared.entry.Body.TheVariants as body
use Rattle.timeline.specs.declared.entry.Entry.{Entry}
use Rattle.timeline.specs.declared.message.Message.{Message}
use Rattle.output_gate.specs.Gate.{Place, history_at, Lists, IsGate}
use Rattle.output_gate.specs.Kept.{RecoversToPrefix, HasLeft, HaveLeft}
use Rattle.output_gate.specs.Passing.{IsSilent}
use Rattle.output_gate.specs.Standing.{going_on}
use Rattle.output_gate.proofs.Kept.{Grows, grows_same, grows_at, Covers, have_left, leaves_now, fewer}
use Rattle.output_gate.proofs.Passing.{holds, is_silent}

pub batches_of-append : (xs ys : List Said) → batches_of (xs ++ ys) ≡ batches_of xs ++ batches_of ys
batches_of-append [] ys = refl
batches_of-append (Said.batch ops confirmed ∷ xs) ys = ap (λ more. ops ∷ more) (batches_of-append xs ys)
batches_of-append (Said.message sent ∷ xs) ys = batches_of-append xs ys

-- the batches of one more entry
pub batches_more : (entries : List Entry) (e : Entry) → batches_in (entries ++ e ∷ []) ≡ batches_in entries ++ batches_of (said_by e.body)
batches_more entries e =
    ap batches_of (flat_map-append (λ (x : Entry). said_by x.body) entries (e ∷ []))
    ∙ batches_of-append (spoken entries) (spoken (e ∷ []))
    ∙ ap (λ said. batches_in entries ++ batches_of said) (append-nil (said_by e.body))

pub sum_push : (xs : List ℕ) (x : ℕ) → sum (xs ++ x ∷ []) ≡ sum xs + x
sum_push xs x = fold-append (λ (a b : ℕ). a + b) 0 xs (x ∷ [])

module _ {D : Type 0} (moment_of : D → ℕ) (left_since : D → ℕ → List ℕ → Type 0) (object : Option Object) (start : List (List Op)) (opening : ℕ) (front : Fronted) (p : Place) (l : Lists) (before durable : ℕ) where
  -- no call of the disk is made, and the newest line goes on by these
  stays : (disk : D) (later : Place) (more : List (List Op)) → IsGate moment_of left_since object start opening front p disk l before durable
      → later.ended ≡ p.ended → line (history_at front later) ≡ line (history_at front p) ++ more → later.older ≡ p.older
      → Grows object start (history_at front p) (history_at front later)
  stays disk later more g ended longer older =
      grows_at object start (going_on front p.ended p.taken p.flights) (going_on front later.ended later.taken later.flights) p.older later.older more (ap suc ended) longer
      (subst (λ (h : History). Grows object start p.older h) (sym older) (grows_same object start p.older))

  -- what has left, where no call of the disk is made
  pub same_left : (disk : D) (h later : History) (released : List Release) (left : List Passed) → Grows object start h later
      → HaveLeft moment_of left_since object start disk h released left → HaveLeft moment_of left_since object start disk later released left
  same_left disk h later [] [] grows held = tt
  same_left disk h later [] (q ∷ left) grows held = elim held [ ]
  same_left disk h later (release ∷ released) [] grows held = elim held [ ]
  same_left disk h later (release ∷ released) (q ∷ left) grows held =
      let here : HasLeft moment_of left_since object start disk h release q = held.0 in (
        record { message = here.message; needs = here.needs; earlier = here.earlier; images = λ c now. grows q.since q.needs c (here.images c now) },
        same_left disk h later released left grows held.1,
      )

  -- an entry is taken: these batches are staged, and these messages wait
  takes : (disk : D) (e : Entry) (more : List Passed) (count : ℕ) → IsGate moment_of left_since object start opening front p disk l before durable
      → passed (history_at front (record p { taken = p.taken ++ e ∷ [] })) ≡ passed (history_at front p) ++ more
      → All (λ q. q.since ≤ suc p.ended) more
      → count ≡ length (batches_of (said_by e.body))
      → IsGate moment_of left_since object start opening front (record p { taken = p.taken ++ e ∷ [] }) disk
      (record l { waiting = l.waiting ++ more; staged = l.staged ++ batches_of (said_by e.body) }) (before + count) durable
  takes disk e more count g passes since is =
      let later : Place = record p { taken = p.taken ++ e ∷ [] } in
      let batches : List (List Op) = batches_of (said_by e.body) in
      let longer : line (history_at front later) ≡ line (history_at front p) ++ batches =
      ap (λ own. kept_before p.older ++ own) (batches_more p.taken e) ∙ sym (append_assoc (kept_before p.older) (batches_in p.taken) batches) in
      let grows : Grows object start (history_at front p) (history_at front later) = stays disk later batches g refl longer refl in
      record {
        mounted = g.mounted;
        deep = g.deep;
        passes = passes ∙ ap (λ ps. ps ++ more) g.passes ∙ append_assoc l.left l.waiting more;
        since_left = g.since_left;
        since_waiting = All-append (λ (q : Passed). q.since ≤ suc p.ended) l.waiting more g.since_waiting since;
        needs_left = g.needs_left;
        settled = g.settled;
        known = g.known;
        counted = omega (arith, g.counted, is, ap length (batches_more p.taken e), length-append (batches_in p.taken) batches);
        flown = g.flown;
        line = longer ∙ ap (λ of. of ++ batches) g.line ∙ append_assoc l.flown l.staged batches;
        long = g.long;
        opened = g.opened;
        images = λ c now. grows 0 0 c (g.images c now);
        released = same_left disk (history_at front p) (history_at front later) l.released l.left grows g.released;
      }

  -- a batch
  pub takes_batch : (disk : D) (e : Entry) (ops : List Op) (tail : Option ℕ) (confirmed : Bool) → e.body ≡ body.Batch ops tail confirmed → IsGate moment_of left_since object start opening front p disk l before durable
      → IsGate moment_of left_since object start opening front (record p { taken = p.taken ++ e ∷ [] }) disk (record l { staged = l.staged ++ ops ∷ [] }) (before + 1) durable
  takes_batch disk e ops tail confirmed is g =
      let silent : IsSilent e.body = λ n k. ap (λ (b : Body). held_in n k (b ∷ [])) is in
      let one : batches_of (said_by e.body) ≡ ops ∷ [] = ap (λ (b : Body). batches_of (said_by b)) is in
      let none : List Passed = [] in
      subst (λ (both : List Passed × List (List Op)). IsGate moment_of left_since object start opening front (record p { taken = p.taken ++ e ∷ [] }) disk (record l { waiting = both.0; staged = l.staged ++ both.1 }) (before + 1) durable)
      (ap (λ (ws : List Passed). (ws, batches_of (said_by e.body))) (append-nil l.waiting) ∙ ap (λ bs. (l.waiting, bs)) one)
      (takes disk e none 1 g (is_silent front p.older p.ended p.taken p.flights e (ap is_mend is) silent ∙ sym (append-nil (passed (history_at front p)))) (All-nil (λ (q : Passed). q.since ≤ suc p.ended)) (ap length (sym one)))

  -- a message, which needs the batches up to the last confirmed one before it
  pub takes_message : (disk : D) (e : Entry) (sent : Message) (needs : ℕ) → e.body ≡ body.Message sent → needs ≡ length (kept_before p.older) + reaches 0 0 (said_in p.taken) → IsGate moment_of left_since object start opening front p disk l before durable
      → IsGate moment_of left_since object start opening front (record p { taken = p.taken ++ e ∷ [] }) disk
      (record l { waiting = l.waiting ++ record { message = sent; needs = needs; since = suc p.ended } ∷ [] }) before durable
  takes_message disk e sent needs is reach g =
      let one : Passed = record { message = sent; needs = needs; since = suc p.ended } in
      let none : batches_of (said_by e.body) ≡ [] = ap (λ (b : Body). batches_of (said_by b)) is in
      subst (λ (both : List (List Op) × ℕ). IsGate moment_of left_since object start opening front (record p { taken = p.taken ++ e ∷ [] }) disk (record l { waiting = l.waiting ++ one ∷ []; staged = both.0 }) both.1 durable)
      (ap (λ bs. (l.staged ++ bs, before + 0)) none ∙ ap (λ bs. (bs, before + 0)) (append-nil l.staged) ∙ ap (λ (n : ℕ). (l.staged, n)) (omega arith))
      (takes disk e (one ∷ []) 0 g (holds front p.older p.ended p.taken p.flights e sent is g.mounted
      ∙ ap (λ (n : ℕ). passed (history_at front p) ++ record { message = sent; needs = n; since = suc p.ended } ∷ []) (sym reach))
      (All-push (λ (q : Passed). q.since ≤ suc p.ended) [] one (All-nil (λ (q : Passed). q.since ≤ suc p.ended)) (omega arith)) (ap length (sym none)))

  -- something else
  pub takes_silent : (disk : D) (e : Entry) → is_mend e.body ≡ false → IsSilent e.body → batches_of (said_by e.body) ≡ [] → IsGate moment_of left_since object start opening front p disk l before durable
      → IsGate moment_of left_since object start opening front (record p { taken = p.taken ++ e ∷ [] }) disk l before durable
  takes_silent disk e other silent none g =
      subst (λ (all : List Passed × List (List Op) × ℕ). IsGate moment_of left_since object start opening front (record p { taken = p.taken ++ e ∷ [] }) disk (record l { waiting = all.0; staged = all.1 }) all.2 durable)
      (ap (λ bs. (l.waiting ++ [], l.staged ++ bs, before + 0)) none ∙ ap (λ bs. (l.waiting ++ [], bs, before + 0)) (append-nil l.staged)
      ∙ ap (λ ws. (ws, l.staged, before + 0)) (append-nil l.waiting) ∙ ap (λ (n : ℕ). (l.waiting, l.staged, n)) (omega arith))
      (takes disk e [] 0 g (is_silent front p.older p.ended p.taken p.flights e other silent ∙ sym (append-nil (passed (history_at front p)))) (All-nil (λ (q : Passed). q.since ≤ suc p.ended)) (ap length (sym none)))

  -- The disk is called: what its calls leave is a prefix of the line that has all that is durable.
  pub calls : (old new : D) (P : List ℕ → Type 0) → IsGate moment_of left_since object start opening front p old l before durable
      → LeavesOnly moment_of left_since old new P → ((c : List ℕ) → P c → RecoversToPrefix object start (line (history_at front p)) durable c)
      → IsGate moment_of left_since object start opening front p new l before durable
  calls old new P g leaves holds_all =
      let h : History = history_at front p in
      let covers : Covers object start moment_of left_since h (suc p.ended) durable P =
      λ c one since least since_le least_le. inl (since_le, fewer object start (line h) least durable c least_le (holds_all c one)) in
      record {
        mounted = g.mounted;
        deep = g.deep;
        passes = g.passes;
        since_left = g.since_left;
        since_waiting = g.since_waiting;
        needs_left = g.needs_left;
        settled = g.settled;
        known = g.known;
        counted = g.counted;
        flown = g.flown;
        line = g.line;
        long = g.long;
        opened = omega (arith, g.opened, leaves.later);
        images = λ c now. ⊎_elim (λ past. g.images c past) (λ one. covers c one 0 0 (omega arith) (omega arith)) (leaves.before opening c g.opened now);
        released = have_left object start moment_of left_since old new h h (suc p.ended) durable P l.released l.left (grows_same object start h) leaves covers g.since_left g.needs_left g.released;
      }

  -- an append wrote all that was staged
  pub flies : (disk : D) (count : ℕ) → IsGate moment_of left_since object start opening front p disk l before durable → count ≡ length l.staged
      → IsGate moment_of left_since object start opening front (record p { flights = p.flights ++ count ∷ [] }) disk (record l { flown = l.flown ++ l.staged; staged = [] }) before (durable + count)
  flies disk count g all =
      let later : Place = record p { flights = p.flights ++ count ∷ [] } in
      let grows : Grows object start (history_at front p) (history_at front later) = stays disk later [] g refl (sym (append-nil (line (history_at front p)))) refl in
      record {
        mounted = g.mounted;
        deep = g.deep;
        passes = g.passes;
        since_left = g.since_left;
        since_waiting = g.since_waiting;
        needs_left = λ k d lt. omega (arith, g.needs_left k d lt);
        settled = g.settled;
        known = g.known;
        counted = g.counted;
        flown = omega (arith, g.flown, sum_push p.flights count);
        line = g.line ∙ sym (append-nil (l.flown ++ l.staged));
        long = omega (arith, g.long, all, length-append l.flown l.staged);
        opened = g.opened;
        images = λ c now. grows 0 0 c (g.images c now);
        released = same_left disk (history_at front p) (history_at front later) l.released l.left grows g.released;
      }

  -- the first message that waits leaves, and a crash now leaves all that is durable
  pub releases : (disk : D) (q : Passed) (rest : List Passed) (release : Release) → IsGate moment_of left_since object start opening front p disk l before durable
      → l.waiting ≡ q ∷ rest → q.needs ≤ durable → release ≡ record { message = q.message; needs = q.needs; moment = moment_of disk }
      → ((c : List ℕ) → left_since disk (moment_of disk) c → RecoversToPrefix object start (line (history_at front p)) durable c)
      → IsGate moment_of left_since object start opening front p disk (record l { released = l.released ++ release ∷ []; left = l.left ++ q ∷ []; waiting = rest }) before durable
  releases disk q rest release g first ready is now_leaves =
      let h : History = history_at front p in
      let waits : All (λ (x : Passed). x.since ≤ suc p.ended) (q ∷ rest) = subst (All (λ (x : Passed). x.since ≤ suc p.ended)) first g.since_waiting in
      let since : q.since ≤ suc p.ended = All-head (λ (x : Passed). x.since ≤ suc p.ended) q rest waits in
      record {
        mounted = g.mounted;
        deep = g.deep;
        passes = g.passes ∙ ap (λ ws. l.left ++ ws) first ∙ sym (append_assoc l.left (q ∷ []) rest);
        since_left = All-push (λ (x : Passed). x.since ≤ suc p.ended) l.left q g.since_left since;
        since_waiting = All-tail (λ (x : Passed). x.since ≤ suc p.ended) q rest waits;
        needs_left = All-push (λ (x : Passed). x.needs ≤ durable) l.left q g.needs_left ready;
        settled = g.settled;
        known = g.known;
        counted = g.counted;
        flown = g.flown;
        line = g.line;
        long = g.long;
        opened = g.opened;
        images = g.images;
        released = leaves_now object start moment_of left_since disk h l.released l.left release q g.released record {
          message = ap (λ (r : Release). r.message) is;
          needs = ap (λ (r : Release). r.needs) is;
          earlier = omega (arith, ap (λ (r : Release). r.moment) is);
          images = λ c now. inl (since, fewer object start (line h) q.needs durable c ready (now_leaves c (subst (λ t. left_since disk t c) (ap (λ (r : Release). r.moment) is) now)));
        };
      }
