-- A back that has nothing to append and nothing to let go: it holds nothing, all that passes was released, and all that was taken is
-- durable.
use Rattle.std.proofs.Common.{◌≡◌, ◌∙◌, ap, sym, refl, subst, inl, inr, true≢false, ℕ, suc, ◌+◌, ◌≤◌, List, [], ◌∷◌, ◌++◌, length, map, append-nil, arith, Option, None}
use Rattle.std.proofs.lemmas.Bool.{le-leb}
use Rattle.std.proofs.lemmas.List.Elements.{All-nil, All-cons, All-head, All-tail, All-append, All-weaker}
use Rattle.std.specs.Prelude.{Bool, true, false, not, ◌||◌, sum}
use Rattle.std.specs.List.{All, flat_map, list_any}
use Rattle.batch_journal.specs.Moments.{IsTold}
use Rattle.batch_journal.specs.Rest.{disk_in}
use Rattle.storage_map.specs.Limits.{Object}
use Rattle.storage_map.specs.Ops.{batch_bytes}
use Rattle.storage_map.specs.declared.op.Op.{Op}
use Rattle.timeline.proofs.Needs.{reach_within}
use Rattle.timeline.specs.Headline.{AreDurable, release_of, pass_of}
use Rattle.timeline.specs.History.{History, batches_in, durable, history, kept_before, said_in}
use Rattle.timeline.specs.Logs.{Fronted, Backed, backed}
use Rattle.timeline.specs.Passed.{Passed, Held as Message, follows, held_in, passed, passed_in, passes, passes_if, is_mend, is_mounted, is_followed, durable_at}
use Rattle.timeline.specs.Told.{said_by, spoken, batches_of}
use Rattle.timeline.specs.declared.back_log.Release.{Release}
use Rattle.timeline.specs.declared.entry.Body.{Body}
use Rattle.timeline.specs.declared.entry.Body.TheVariants as body
use Rattle.timeline.specs.declared.entry.Entry.{Entry}
use Rattle.output_gate.proofs.Histories.{stands}
use Rattle.output_gate.proofs.Stored.{same_disk, in_it}
use Rattle.output_gate.specs.Gate.{place_of, history_at}
use Rattle.output_gate.specs.Held.{passed_by, waiting_in}
use Rattle.output_gate.specs.Kept.{HasLeft, HaveLeft}
use Rattle.output_gate.specs.Releasing.{is_ready}
use Rattle.output_gate.specs.Serving.{IsBackAs}
use Rattle.output_gate.specs.Standing.{going_on, own_entries, own_flights, older_of}
use Rattle.output_gate.specs.Storing.{IsDiskOf}
use Rattle.output_gate.specs.declared.back.Back.{Back}
use Rattle.output_gate.specs.declared.held.Held.{Held}
use Rattle.output_gate.specs.declared.held.HeldBody.{HeldBody}
use Rattle.output_gate.specs.declared.held.HeldBody.TheVariants as held
use Rattle.object_history.specs.Pair as pair
use Rattle.object_history.specs.Seen.{held_for, held_of}

-- What holds of each of several lists holds of all.
all_flat : {X Y : Type 0} (P : Y → Type 0) (f : X → List Y) (xs : List X) → All (λ (x : X). All P (f x)) xs → All P (flat_map f xs)
all_flat {X} P f [] each = All-nil P
all_flat {X} P f (x ∷ xs) each =
    All-append P (f x) (flat_map f xs) (All-head (λ (y : X). All P (f y)) x xs each) (all_flat P f xs (All-tail (λ (y : X). All P (f y)) x xs each))

pub all_behind : {X : Type 0} (P : X → Type 0) (xs ys : List X) → All P (xs ++ ys) → All P ys
all_behind P [] ys all = all
all_behind P (x ∷ xs) ys all = all_behind P xs ys (All-tail P x (xs ++ ys) all)

-- A message follows as many batches as were said, at most.
abbrev IsWithin : ℕ → Message → Type 0
IsWithin most m = m.behind ≤ most

abbrev AreWithin : List Entry → Type 0
AreWithin entries = (count behind : ℕ) → behind ≤ count → All (IsWithin (count + length (batches_in entries))) (held_in count behind (said_in entries))

within_by : (b : Body) (entries : List Entry) → AreWithin entries → (count behind : ℕ) → behind ≤ count
    → All (IsWithin (count + length (batches_of (said_by b ++ spoken entries)))) (held_in count behind (b ∷ said_in entries))
within_by (body.Batch ops tail confirmed) entries within count behind le =
    let follows_within : follows count behind confirmed ≤ count + 1 = reach_within (body.Batch ops tail confirmed ∷ []) count behind le in
    λ i d less. omega (arith, within (count + 1) (follows count behind confirmed) follows_within i d less)
within_by (body.Message sent) entries within count behind le =
    All-cons (IsWithin (count + length (batches_in entries))) (record { message = sent; behind = behind; mended = list_any is_mend (said_in entries) })
    (held_in count behind (said_in entries)) (omega (arith, le)) (within count behind le)
within_by (body.Bind identity) entries within count behind le = within count behind le
within_by (body.Ask ask free) entries within count behind le = within count behind le
within_by body.Sync entries within count behind le = within count behind le
within_by (body.Halt cause) entries within count behind le = within count behind le
within_by body.Mend entries within count behind le = within count behind le

are_within : (entries : List Entry) → AreWithin entries
are_within [] count behind le = All-nil (IsWithin (count + 0))
are_within (e ∷ entries) count behind le = within_by e.body entries (are_within entries) count behind le

abbrev Needs : ℕ → Passed → Type 0
Needs most p = p.needs ≤ most

-- What passes of a mounted incarnation needs what was taken, at most; and of one that isn't what was durable at the end before it.
module _ (front : Fronted) (ended : ℕ) (taken : List Entry) (flights : List ℕ) (older : History) where
  one_needs : (h : Message) (b : Bool) (most : ℕ) → durable_at older ≤ length (kept_before older) → h.behind ≤ most
      → All (Needs (length (kept_before older) + most)) (passes_if older (suc ended) None h b)
  one_needs h true most known within =
      All-cons (Needs (length (kept_before older) + most)) (record { message = h.message; needs = durable_at older; since = length older }) []
      (omega (arith, known)) (All-nil (Needs (length (kept_before older) + most)))
  one_needs h false most known within =
      All-cons (Needs (length (kept_before older) + most)) (record { message = h.message; needs = length (kept_before older) + h.behind; since = suc ended }) []
      (omega (arith, within)) (All-nil (Needs (length (kept_before older) + most)))

  mounted_needs : All (Needs (durable_at older)) (passed older) → durable_at older ≤ length (kept_before older)
      → All (Needs (length (kept_before older) + length (batches_in taken))) (passed (going_on front ended taken flights ∷ older))
  mounted_needs settled known =
      let most : ℕ = length (batches_in taken) in
      All-append (Needs (length (kept_before older) + most)) (passed older) (passed_in older (going_on front ended taken flights))
      (λ i d less. omega (arith, settled i d less, known))
      (all_flat (Needs (length (kept_before older) + most)) (passes older (suc ended) None) (held_in 0 0 (said_in taken))
      (All-weaker (IsWithin most) (λ (h : Message). All (Needs (length (kept_before older) + most)) (passes older (suc ended) None h))
      (λ h within. one_needs h (not (is_mounted older) || h.mended) most known within)
      (held_in 0 0 (said_in taken)) (λ i d less. omega (arith, are_within taken 0 0 (omega arith) i d less))))

  down_one : (mounted : Bool) → is_mounted older ≡ mounted → mounted ≡ false → (h : Message)
      → All (Needs (durable_at older)) (passes_if older (suc ended) None h (not mounted || h.mended))
  down_one true is not_so h = absurd (true≢false not_so)
  down_one false is not_so h =
      All-cons (Needs (durable_at older)) (record { message = h.message; needs = durable_at older; since = length older }) [] (omega arith) (All-nil (Needs (durable_at older)))

  down_needs : is_mounted older ≡ false → All (Needs (durable_at older)) (passed older)
      → All (Needs (durable_at older)) (passed (going_on front ended taken flights ∷ older))
  down_needs down settled =
      All-append (Needs (durable_at older)) (passed older) (passed_in older (going_on front ended taken flights)) settled
      (all_flat (Needs (durable_at older)) (passes older (suc ended) None) (held_in 0 0 (said_in taken))
      (λ i d less. down_one (is_mounted older) refl down _))

-- The first of what is held has all that it needs, where what is held for the front needs all that was taken.
abbrev pub NeedsAll : ℕ → List pair.Held → Type 0
NeedsAll before seen = (x : pair.Held) (xs : List pair.Held) → seen ≡ x ∷ xs → x.needs ≡ before

first_needs : (before : ℕ) (b : HeldBody) (needs since : ℕ) (waiting : List Passed) (seen : List pair.Held) → All (Needs before) (passed_by b needs since ++ waiting)
    → NeedsAll before (held_for needs b ++ seen) → needs ≤ before
first_needs before (held.Message sent) needs since waiting seen all of_front =
    All-head (Needs before) (record { message = sent; needs = needs; since = since }) waiting all
first_needs before (held.Sync number) needs since waiting seen all of_front = omega (arith, of_front _ seen refl)
first_needs before (held.Halt cause) needs since waiting seen all of_front = omega (arith, of_front _ seen refl)

pub nothing_held : (before durable : ℕ) (items : List Held) → before ≡ durable → All (Needs before) (waiting_in items)
    → NeedsAll before (flat_map held_of items) → is_ready items durable ≡ false → items ≡ []
nothing_held before durable [] even all of_front ready = refl
nothing_held before durable (h ∷ items) even all of_front ready =
    let needs : h.needs ≤ before = first_needs before h.body h.needs h.since (waiting_in items) (flat_map held_of items) all of_front in
    absurd (true≢false (sym (le-leb h.needs durable (omega (arith, needs, even))) ∙ ready))

-- The releases are those of what has left.
released_by : {D : Type 0} (moment_of : D → ℕ) (left_since : D → ℕ → List ℕ → Type 0) (object : Option Object) (start : List (List Op)) (disk : D) (h : History)
    (released : List Release) (left : List Passed) → HaveLeft moment_of left_since object start disk h released left → map release_of released ≡ map pass_of left
released_by moment_of left_since object start disk h [] [] have = refl
released_by moment_of left_since object start disk h [] (p ∷ left) have = absurd have
released_by moment_of left_since object start disk h (r ∷ released) [] have = absurd have
released_by moment_of left_since object start disk h (r ∷ released) (p ∷ left) have =
    let here : HasLeft moment_of left_since object start disk h r p = have.0 in
    ap (λ m. (m, r.needs) ∷ map release_of released) here.message ∙ ap (λ n. (p.message, n) ∷ map release_of released) here.needs
    ∙ ap (λ rest. (p.message, p.needs) ∷ rest) (released_by moment_of left_since object start disk h released left have.1)

none_follows : (kept : Option ℕ) → kept ≡ None → is_followed kept ≡ false
none_follows kept none = ap is_followed none

module _ {D : Type 0} (moment_of : D → ℕ) (left_since : D → ℕ → List ℕ → Type 0) (told : D → Option (List ℕ)) (image : D → List ℕ → Type 0) (faults_of : D → ℕ)
    (start : List (List Op)) (opening : ℕ) (sound : Bool) (front : Fronted) (back : Back D) where
  abbrev log : Backed
  log = backed back.log

  -- What waits to leave needs what was taken, at most.
  waiting_needs : (disk : D) → IsDiskOf back.store disk → IsTold (told disk) → IsBackAs moment_of left_since told image faults_of start opening sound back
      → All (Needs back.before) (waiting_in back.held.items)
  waiting_needs disk at tells (inl m) =
      let same : disk_in m.journal ≡ disk = same_disk back.store (disk_in m.journal) disk (in_it back.store m.journal m.safe.store) at in
      let s = m.serves (subst (λ (d : D). IsTold (told d)) (sym same) tells) in
      let g = s.gate front in
      subst (λ (n : ℕ). All (Needs n) (waiting_in back.held.items)) (sym g.counted)
      (all_behind (Needs (length (kept_before (older_of front log)) + length (batches_in (own_entries log)))) s.left (waiting_in back.held.items)
      (subst (λ (ps : List Passed). All (Needs (length (kept_before (older_of front log)) + length (batches_in (own_entries log)))) ps) g.passes
      (mounted_needs front (length log.stops) (own_entries log) (own_flights log) (older_of front log) g.settled g.known)))
  waiting_needs disk at tells (inr u) =
      let same : u.disk ≡ disk = same_disk back.store u.disk disk u.safe.store at in
      let s = u.ended (subst (λ (d : D). IsTold (told d)) (sym same) tells) in
      let g = s.down front in
      let older : History = s.last front ∷ s.rest front in
      subst (λ (n : ℕ). All (Needs n) (waiting_in back.held.items)) (sym (u.safe.even ∙ g.at_end))
      (all_behind (Needs (durable_at older)) s.left (waiting_in back.held.items)
      (subst (λ (ps : List Passed). All (Needs (durable_at older)) ps) g.passes
      (down_needs front s.ended s.taken [] older (none_follows (s.last front).kept g.unfollowed)
      (subst (λ (n : ℕ). All (Needs n) (passed older)) g.at_end g.settled))))

  -- So it holds nothing.
  pub holds_nothing : (disk : D) → IsDiskOf back.store disk → IsTold (told disk) → IsBackAs moment_of left_since told image faults_of start opening sound back
      → back.before ≡ back.durable → NeedsAll back.before (flat_map held_of back.held.items) → is_ready back.held.items back.durable ≡ false → back.held.items ≡ []
  holds_nothing disk at tells known even of_front ready =
      nothing_held back.before back.durable back.held.items even (waiting_needs disk at tells known) of_front ready

  -- And all that passes was released.
  pub all_released : (disk : D) → IsDiskOf back.store disk → IsTold (told disk) → IsBackAs moment_of left_since told image faults_of start opening sound back
      → back.held.items ≡ [] → map release_of log.released ≡ map pass_of (passed (history front log))
  all_released disk at tells (inl m) none =
      let same : disk_in m.journal ≡ disk = same_disk back.store (disk_in m.journal) disk (in_it back.store m.journal m.safe.store) at in
      let s = m.serves (subst (λ (d : D). IsTold (told d)) (sym same) tells) in
      let g = s.gate front in
      released_by moment_of left_since back.identity start (disk_in m.journal) _ log.released s.left g.released
      ∙ ap (map pass_of) (sym (append-nil s.left) ∙ ap (λ (items : List Held). s.left ++ waiting_in items) (sym none) ∙ sym g.passes
      ∙ ap passed (sym (stands front log s.room.logs)))
  all_released disk at tells (inr u) none =
      let same : u.disk ≡ disk = same_disk back.store u.disk disk u.safe.store at in
      let s = u.ended (subst (λ (d : D). IsTold (told d)) (sym same) tells) in
      let g = s.down front in
      released_by moment_of left_since back.identity start u.disk _ log.released s.left g.released
      ∙ ap (map pass_of) (sym (append-nil s.left) ∙ ap (λ (items : List Held). s.left ++ waiting_in items) (sym none) ∙ sym g.passes
      ∙ ap passed (sym (stands front log s.logs ∙ ap (history_at front) (s.place front))))

  -- All that was taken of the newest incarnation is durable.
  own_durable : IsBackAs moment_of left_since told image faults_of start opening sound back → back.before ≡ back.durable
      → sum (own_flights log) ≡ length (batches_in (own_entries log))
  own_durable (inl m) even = omega (arith, (m.logged.placed front).counted, m.safe.room.own, even)
  own_durable (inr u) even = ap sum u.logged.idle ∙ sym u.safe.none ∙ u.safe.own

  logs_fit : IsBackAs moment_of left_since told image faults_of start opening sound back → AreDurable (history_at front (place_of front log)) → AreDurable (history front log)
  logs_fit (inl m) durable_so = subst AreDurable (sym (stands front log m.safe.room.logs)) durable_so
  logs_fit (inr u) durable_so = subst AreDurable (sym (stands front log u.safe.logs)) durable_so

  pub all_durable : IsBackAs moment_of left_since told image faults_of start opening sound back → back.before ≡ back.durable → AreDurable (history front log)
  all_durable known even = logs_fit known (λ goes_on. own_durable known even)

  -- Nothing of it is unflushed, so that no flush keeps a take away.
  pub all_flushed : IsBackAs moment_of left_since told image faults_of start opening sound back → back.before ≡ back.durable → back.unflushed ≡ 0
  all_flushed (inl m) even = none_staged m.safe.staged (omega (arith, m.safe.unflown, even)) m.safe.unflushed
    where
      none_staged : (staged : List (List Op)) → length staged ≡ 0 → back.unflushed ≡ length (flat_map batch_bytes staged) → back.unflushed ≡ 0
      none_staged [] none is = is
      none_staged (ops ∷ staged) none is = absurd (omega (arith, none))
  all_flushed (inr u) even = u.safe.unflushed
