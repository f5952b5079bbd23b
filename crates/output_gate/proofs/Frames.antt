-- How the frames of a log go on by a step of its back.
use Rattle.std.proofs.Common.{◌≡◌, ◌∙◌, ap, sym, refl, subst, ⊎_elim, ℕ, ◌+◌, ◌-◌, ◌^◌, ◌<◌, ◌≤◌, List, [], ◌∷◌, ◌++◌, append-nil, append_assoc, length, length-append, take, drop, sum, arith, Option, Some, None}
use Rattle.std.proofs.lemmas.Bool.{lt-ltb, le-ltb}
use Rattle.std.proofs.lemmas.Bool.Decides.{leb_tells}
use Rattle.std.proofs.lemmas.List.{take-append-le, drop-append-le, length-drop, length-take, take_all, drop_all, drop_at, drop-drop}
use Rattle.std.proofs.lemmas.List.Elements.{All-nil, All-push}
use Rattle.std.proofs.lemmas.List.Sums.{sum_by-cons, sum_by_push}
use Rattle.std.proofs.Math.Seq.{drop-append-add}
use Rattle.std.specs.List.{All}
use Rattle.std.specs.Prelude.{◌≢◌, Bool, min, nat_lt, if◌then◌else◌}
use Rattle.batch_journal.specs.Frames.{Frame, payload, frame_room}
use Rattle.batch_journal.specs.Staged.{frame_of}
use Rattle.storage_map.specs.Limits.{Object}
use Rattle.storage_map.specs.declared.op.Op.{Op}
use Rattle.timeline.specs.History.{Incarnation, History, batches_in}
use Rattle.timeline.specs.Logs.{Fronted}
use Rattle.timeline.specs.Told.{said_by, batches_of}
use Rattle.timeline.specs.declared.back_log.Stop.{Stop}
use Rattle.timeline.specs.declared.caller.Cause.{Cause}
use Rattle.timeline.specs.declared.caller.Cause.TheVariants as cause
use Rattle.timeline.specs.declared.entry.Entry.{Entry}
use Rattle.output_gate.specs.Down.{place_down}
use Rattle.output_gate.specs.Ended.{HasEnded, Marks}
use Rattle.output_gate.specs.Gate.{Place, history_at}
use Rattle.output_gate.specs.Standing.{going_on}
use Rattle.output_gate.specs.Written.{flown_frames, unflown, found_frames, frames_in, frames_before, end_with, needed_by, IsFullBy, AreFilled}
use Rattle.output_gate.proofs.Gates.{batches_more, sum_push}
use Rattle.output_gate.proofs.Late.{later, same_own}

-- the bytes of a frame with its gate
abbrev size : Frame → ℕ
size frame = frame_room + length (payload frame)

pub end_push : (end : ℕ) (frames : List Frame) (frame : Frame) → end_with end (frames ++ frame ∷ []) ≡ end_with end frames + size frame
end_push end frames frame = omega (arith, sum_by_push size frames frame)

sum_cons : (n : ℕ) (ns : List ℕ) → sum (n ∷ ns) ≡ n + sum ns
sum_cons n ns = sum_by-cons (λ (k : ℕ). k) n ns

-- more batches behind those that were flown
flown_more : (object : Object) (counts : List ℕ) (batches more : List (List Op)) → sum counts ≤ length batches
    → flown_frames object counts (batches ++ more) ≡ flown_frames object counts batches
flown_more object [] batches more within = refl
flown_more object (n ∷ counts) batches more within =
    ap (λ bs. frame_of object bs ∷ flown_frames object counts (drop n (batches ++ more))) (take-append-le n batches more (omega (arith, within, sum_cons n counts)))
    ∙ ap (λ bs. frame_of object (take n batches) ∷ flown_frames object counts bs) (drop-append-le n batches more (omega (arith, within, sum_cons n counts)))
    ∙ ap (λ fs. frame_of object (take n batches) ∷ fs)
    (flown_more object counts (drop n batches) more (omega (arith, within, sum_cons n counts, length-drop n batches)))

-- one flight more, of all batches that were left
flown_push : (object : Object) (counts : List ℕ) (n : ℕ) (batches : List (List Op)) → sum counts + n ≡ length batches
    → flown_frames object (counts ++ n ∷ []) batches ≡ flown_frames object counts batches ++ frame_of object (drop (sum counts) batches) ∷ []
flown_push object [] n batches all = ap (λ bs. frame_of object bs ∷ []) (take_all n batches (omega (arith, all)))
flown_push object (k ∷ counts) n batches all =
    ap (λ fs. frame_of object (take k batches) ∷ fs)
    (flown_push object counts n (drop k batches) (omega (arith, all, sum_cons k counts, length-drop k batches))
    ∙ ap (λ bs. flown_frames object counts (drop k batches) ++ frame_of object bs ∷ [])
    (drop-drop (sum counts) k batches ∙ ap (λ m. drop m batches) (sym (sum_cons k counts))))

-- The batches behind those that are durable: a line is told in two ways.
pub behind : (kept own flown staged : List (List Op)) (n : ℕ) → kept ++ own ≡ flown ++ staged → length flown ≡ length kept + n → staged ≡ drop n own
behind kept own flown staged n same long =
    sym (drop_at flown staged (length kept + n) long) ∙ ap (drop (length kept + n)) (sym same) ∙ drop-append-add kept own n

-- some batches stand behind the first ones
pub some_less : (n k : ℕ) (batches : List (List Op)) → drop n (take k batches) ≢ [] → n < k
some_less n k batches some =
    ⊎_elim (λ t. absurd (some (drop_all n (take k batches) (omega (arith, t.1, length-take k batches))))) (λ t. t.1) (leb_tells k n)

-- the newest incarnation of a place, behind its end
abbrev pub last_of_place : Fronted → Place → Stop → Incarnation
last_of_place front p stop = record (going_on front p.ended p.taken p.flights) { stop = Some stop }

abbrev is_stop : Option Stop → Type 0
is_stop None = ⊥
is_stop (Some stop) = Unit {0}

pub no_stop : {stop : Stop} → None ≡ Some stop → ⊥
no_stop is = subst is_stop (sym is) tt

abbrev stop_or : Option Stop → Stop → Stop
stop_or None other = other
stop_or (Some stop) other = stop

module _ (limit end : ℕ) (object : Object) where
  -- what is told of an end stays, where the incarnation has the same batches and frames
  filled_as : (i j : Incarnation) (older newer : History) → unflown j ≡ unflown i → frames_before object j newer ≡ frames_before object i older
      → (c : Cause) → IsFullBy limit end object i older c → IsFullBy limit end object j newer c
  filled_as i j older newer rest before (cause.Disk from into) is = tt
  filled_as i j older newer rest before (cause.Full needed most) is =
      let same : needed_by end object j newer ≡ needed_by end object i older =
      ap (λ bs. end_with end (frames_before object j newer ++ frame_of object bs ∷ [])) rest ∙ ap (λ fs. end_with end (fs ++ frame_of object (unflown i) ∷ [])) before in
      record {
        some = λ none. is.some (sym rest ∙ none);
        passed = subst (λ (n : ℕ). limit < n) (sym same) is.passed;
        told = is.told ∙ ap (λ (n : ℕ). min n (2 ^ 64 - 1)) (sym same);
        limit_is = is.limit_is;
      }
  filled_as i j older newer rest before cause.Exceeded is = tt
  filled_as i j older newer rest before cause.StartThrew is = tt
  filled_as i j older newer rest before cause.BlockThrew is = tt

  filled_head : (i j : Incarnation) (older newer : History) → sum j.flights ≤ length (batches_in j.taken) → j.stop ≡ i.stop → unflown j ≡ unflown i
      → frames_before object j newer ≡ frames_before object i older → j.flights ≡ i.flights → AreFilled limit end object newer → AreFilled limit end object (i ∷ older)
      → AreFilled limit end object (j ∷ newer)
  filled_head i j older newer within same rest before flights others all = (
    within,
    λ stop is. filled_as i j older newer rest before stop.cause (all.1 stop (sym same ∙ is)),
    subst (All (λ count. 1 ≤ count)) (sym flights) all.2,
    others,
  )

  found_as : (i j : Incarnation) (kept : Option ℕ) → sum j.flights ≡ sum i.flights → unflown j ≡ unflown i → found_frames object j kept ≡ found_frames object i kept
  found_as i j None same rest = refl
  found_as i j (Some k) same rest =
      ap (λ (n : ℕ). if nat_lt n k then frame_of object (unflown j) ∷ [] else []) same ∙ ap (λ bs. if nat_lt (sum i.flights) k then frame_of object bs ∷ [] else []) rest

  -- ---- an entry of the newest incarnation is taken
  module _ (front : Fronted) (p : Place) (all : AreFilled limit end object (history_at front p)) where
    pub grown_frames : (e : Entry) → frames_in object (history_at front (record p { taken = p.taken ++ e ∷ [] })) ≡ frames_in object (history_at front p)
    grown_frames e =
        ap (λ fs. frames_in object p.older ++ fs ++ [])
        (ap (flown_frames object p.flights) (batches_more p.taken e) ∙ flown_more object p.flights (batches_in p.taken) (batches_of (said_by e.body)) all.0)

    pub grown_filled : (e : Entry) → AreFilled limit end object (history_at front (record p { taken = p.taken ++ e ∷ [] }))
    grown_filled e = (
      omega (arith, all.0, ap length (batches_more p.taken e), length-append (batches_in p.taken) (batches_of (said_by e.body))),
      λ stop is. absurd (no_stop is),
      all.2,
      all.3,
    )

    -- ---- a flight wrote all batches that were left
    module _ (k : ℕ) (whole : sum p.flights + k ≡ length (batches_in p.taken)) where
      pub flew_frames : frames_in object (history_at front (record p { flights = p.flights ++ k ∷ [] }))
          ≡ frames_in object (history_at front p) ++ frame_of object (drop (sum p.flights) (batches_in p.taken)) ∷ []
      flew_frames =
          let before : List Frame = frames_in object p.older in
          let old : List Frame = flown_frames object p.flights (batches_in p.taken) in
          let more : List Frame = frame_of object (drop (sum p.flights) (batches_in p.taken)) ∷ [] in
          append-nil (before ++ flown_frames object (p.flights ++ k ∷ []) (batches_in p.taken))
          ∙ ap (λ fs. before ++ fs) (flown_push object p.flights k (batches_in p.taken) whole)
          ∙ sym (append_assoc before old more)
          ∙ ap (λ fs. fs ++ more) (sym (append-nil (before ++ old)))

      pub flew_filled : 1 ≤ k → AreFilled limit end object (history_at front (record p { flights = p.flights ++ k ∷ [] }))
      flew_filled some = (
        omega (arith, whole, sum_push p.flights k),
        λ stop is. absurd (no_stop is),
        All-push (λ count. 1 ≤ count) p.flights k all.2 some,
        all.3,
      )

    -- ---- it ends
    module _ (stop : Stop) (ended : ℕ) where
      pub stopped_frames : frames_in object (history_at front (place_down ended [] (last_of_place front p stop) p.older)) ≡ frames_in object (history_at front p)
      stopped_frames = append-nil (frames_in object (history_at front p) ++ []) ∙ append-nil (frames_in object (history_at front p))

      pub stopped_filled : IsFullBy limit end object (last_of_place front p stop) p.older stop.cause
          → AreFilled limit end object (history_at front (place_down ended [] (last_of_place front p stop) p.older))
      stopped_filled full = (
        omega arith,
        λ other is. absurd (no_stop is),
        All-nil (λ count. 1 ≤ count),
        (
          all.0,
          λ other is.
              subst (λ (s : Stop). IsFullBy limit end object (last_of_place front p stop) p.older s.cause) (ap (λ (o : Option Stop). stop_or o stop) is) full,
          all.2,
          all.3,
        ),
      )

  -- ---- an entry of the one before it is taken
  module _ (front : Fronted) (ended : ℕ) (taken : List Entry) (flights : List ℕ) (marks : Marks) (last : Incarnation) (rest : History) (e : Entry) (h : HasEnded marks last rest)
      (all : AreFilled limit end object (history_at front (record { ended = ended; taken = taken; flights = flights; older = last ∷ rest }))) where
    abbrev late_place : Place
    late_place = record { ended = ended; taken = taken; flights = flights; older = later last e ∷ rest }

    same_rest : unflown (later last e) ≡ unflown last
    same_rest = ap (drop (sum last.flights)) (same_own marks last rest e h)

    same_flown : flown_frames object last.flights (batches_in (later last e).taken) ≡ flown_frames object last.flights (batches_in last.taken)
    same_flown = ap (flown_frames object last.flights) (batches_more last.taken e) ∙ flown_more object last.flights (batches_in last.taken) (batches_of (said_by e.body)) all.3.0

    same_frames : frames_in object (later last e ∷ rest) ≡ frames_in object (last ∷ rest)
    same_frames =
        ap (λ fs. frames_in object rest ++ fs ++ found_frames object (later last e) last.kept) same_flown
        ∙ ap (λ fs. frames_in object rest ++ flown_frames object last.flights (batches_in last.taken) ++ fs) (found_as last (later last e) last.kept refl same_rest)

    pub late_frames : frames_in object (history_at front late_place)
        ≡ frames_in object (history_at front (record { ended = ended; taken = taken; flights = flights; older = last ∷ rest }))
    late_frames = ap (λ fs. fs ++ flown_frames object flights (batches_in taken) ++ []) same_frames

    pub late_filled : AreFilled limit end object (history_at front late_place)
    late_filled = (
      all.0,
      λ stop is. absurd (no_stop is),
      all.2,
      filled_head last (later last e) rest rest
          (omega (arith, all.3.0, ap length (batches_more last.taken e), length-append (batches_in last.taken) (batches_of (said_by e.body)))) refl same_rest
          (ap (λ fs. frames_in object rest ++ fs) same_flown) refl all.3.3 all.3,
    )

  -- ---- the one before it is followed
  module _ (front : Fronted) (ended : ℕ) (taken : List Entry) (last : Incarnation) (rest : History) (k : ℕ)
      (all : AreFilled limit end object (history_at front (place_down ended taken last rest))) where
    abbrev followed_place : Place
    followed_place = record { ended = ended; taken = taken; flights = []; older = record last { kept = Some k } ∷ rest }

    pub followed_filled : AreFilled limit end object (history_at front followed_place)
    followed_filled = (
      all.0,
      λ stop is. absurd (no_stop is),
      all.2,
      filled_head last (record last { kept = Some k }) rest rest all.3.0 refl refl refl refl all.3.3 all.3,
    )

    -- with what had flown
    pub followed_old : k ≤ sum last.flights → last.kept ≡ None → frames_in object (history_at front followed_place) ≡ frames_in object (history_at front (place_down ended taken last rest))
    followed_old less alone =
        ap (λ fs. frames_in object rest ++ flown_frames object last.flights (batches_in last.taken) ++ fs ++ [] ++ [])
        (ap (λ (b : Bool). if b then frame_of object (unflown last) ∷ [] else []) (le-ltb (sum last.flights) k less)
        ∙ sym (ap (found_frames object last) alone))

    -- or with the flight that failed
    pub followed_more : sum last.flights < k → last.kept ≡ None → frames_in object (history_at front followed_place)
        ≡ frames_in object (history_at front (place_down ended taken last rest)) ++ frame_of object (unflown last) ∷ []
    followed_more less alone =
        let base : List Frame = frames_in object rest ++ flown_frames object last.flights (batches_in last.taken) in
        let more : List Frame = frame_of object (unflown last) ∷ [] in
        let kept : List Frame = base ++ found_frames object last last.kept in
        append-nil (base ++ found_frames object last (Some k) ++ [])
        ∙ append-nil (base ++ found_frames object last (Some k))
        ∙ ap (λ (b : Bool). base ++ (if b then more else [])) (lt-ltb (sum last.flights) k less)
        ∙ ap (λ fs. fs ++ more) (sym (append-nil base))
        ∙ ap (λ o. base ++ found_frames object last o ++ more) (sym alone)
        ∙ ap (λ fs. fs ++ more) (sym (append-nil kept))
        ∙ ap (λ fs. fs ++ more) (sym (append-nil (kept ++ [])))
