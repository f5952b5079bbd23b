-- While an object is down: a call asks for a mounting, its mounting is good, or it fails.
use Rattle.std.proofs.Common.{◌≡◌, ◌∙◌, ap, sym, subst, refl, inl, inr, true, ℕ, suc, List, [], ◌∷◌, ◌++◌, append-nil, append_assoc, length, arith, Option, Some, None, IfSome}
use Rattle.std.proofs.lemmas.Grind.{flat_map-append}
use Rattle.std.proofs.lemmas.List.{length_push, append_cancel_left}
use Rattle.std.proofs.lemmas.List.Elements.{All-append, All-push, All-nil, All-cons}
use Rattle.std.specs.Prelude.{ℤ}
use Rattle.std.specs.List.{All}
use Rattle.storage_map.specs.Contents.{Contents}
use Rattle.timeline.specs.Headline.{down_said, missed_of}
use Rattle.timeline.specs.History.{History, of_number, incarnations, resets}
use Rattle.timeline.specs.Intake.{Kind, Front, Mode, serves, down, noticed, wanted, down_replies, numbered}
use Rattle.timeline.specs.Logs.{Fronted, Backed}
use Rattle.timeline.specs.Object.{idle, begun}
use Rattle.timeline.specs.Passed.{is_said_down}
use Rattle.timeline.specs.Told.{Said, said_by, spoken_in, written}
use Rattle.timeline.specs.declared.back_log.Missed.{Missed}
use Rattle.timeline.specs.declared.caller.Cause.{Cause}
use Rattle.timeline.specs.declared.entry.Body.{Body}
use Rattle.timeline.specs.declared.entry.Body.TheVariants as body
use Rattle.timeline.specs.declared.entry.Entry.{Entry}
use Rattle.timeline.specs.declared.event.Event.{Event}
use Rattle.timeline.specs.declared.notice.Notice.{Notice}
use Rattle.timeline.specs.declared.notice.Notice.TheVariants as notice
use Rattle.object_history.proofs.Advancing.{front}
use Rattle.object_history.proofs.Downs.{is_down, same_call, none_waits, IsFresh, alarm_in, counts_in, written_both, down_more, failures_more, replies_down, replies_plain, replies_silent}
use Rattle.object_history.proofs.Frames.{now, GoesOn, own_calls, down_same, kept}
use Rattle.object_history.proofs.Ready.{not_nil, same_head, same_rest, none_plain, all_plain, unread_more, IsReadyNow, at_stand, ready_steps}
use Rattle.object_history.specs.Laws.{TellingGoesOn}
use Rattle.object_history.proofs.Readings.{are_gated, phase_now, plain_gated}
use Rattle.object_history.specs.Pair as pair_specs
use Rattle.object_history.specs.Pair.{Held, Stand, mounted, fallen, Rear, IsUnread, IsSilentAt, IsCall, calls_down, failures, SaysDown, IsNewest, serving, falling, Together, unreached, answered, syncs, halts, read_fails, falls, wants, mends, misses, silent, IsPhase, IsPair}
use Rattle.object_history.specs.Saying.{ArePlain, IsGated, is_plain}
use Rattle.object_history.specs.Stepping.{Grows}

-- ---- the mounting is good
-- Its news is that of a mounting that a call wanted.
module _ (start : Contents) (f : Front) (old : Fronted) (back : Backed) (unread : List Body) (before : ℕ) (call : Event) (is_so : f.mode ≡ down (Some call))
    (number : ℕ) (alarm : Option (ℤ × ℕ)) (cause : Cause) (left : List Notice) where
  mended_now : (stand : Stand) (held : List Held) (notices : List Notice) → Together start f old back unread before stand held notices
      → notices ≡ notice.Fresh number alarm cause ∷ left → IsReadyNow unread stand held left × (alarm ≡ start.alarm)
  mended_now stand held notices (unreached state mode is) same = absurd (not_nil _ left same)
  mended_now stand held notices (answered m is none) same = absurd (is_down f.mode is.state (Some call) is.mode is_so)
  mended_now stand held notices (syncs o t mode none) same = absurd (not_nil _ left same)
  mended_now stand held notices (halts c mode none some) same = absurd (not_nil _ left same)
  mended_now stand held notices (read_fails o t a free counts_before counts_after mode none) same = absurd (not_nil _ left same)
  mended_now stand held notices (falls other c mode is length_is) same = absurd (not_nil _ left same)
  mended_now stand held notices (wants other c mode none length_is) same = absurd (not_nil _ left same)
  mended_now stand held notices (mends other c i mode none) same = (
    record {
      plain = none_plain unread none;
      stands = refl;
      none_held = refl;
      none_left = sym (same_rest (notice.Fresh i start.alarm c) (notice.Fresh number alarm cause) [] left same);
    },
    sym (ap (λ (n : Notice). alarm_in start.alarm n) (same_head (notice.Fresh i start.alarm c) (notice.Fresh number alarm cause) [] left same)),
  )
  mended_now stand held notices (misses other c again counts_before counts_after older mode none missed length_is) same =
      absurd (subst IsFresh (sym (same_head (notice.Down again counts_before counts_after) (notice.Fresh number alarm cause) [] left same)) tt)
  mended_now stand held notices (silent other none may) same = absurd (not_nil _ left same)

-- So both halves are in that incarnation, and the alarm is that of its map.
mended_phase : (opened : Contents) (below : ℕ) (start : Contents) (f : Front) (old new : Fronted) (rear : Rear) (unread more : List Body) (late : List Entry)
    (call : Event) (number : ℕ) (alarm : Option (ℤ × ℕ)) (cause : Cause) (left : List Notice) → f.mode ≡ down (Some call)
    → IsUnread (serves (idle (begun alarm))) more
    → IsPhase opened below start f old rear unread late (notice.Fresh number alarm cause ∷ left)
    → IsPhase opened below start (now f f.events f.said (serves (idle (begun alarm)))) new rear (unread ++ more) late left × (alarm ≡ start.alarm)
mended_phase opened below start f old new rear unread more late call number alarm cause left is_so none_more (inl together) =
    let is = mended_now start f old rear.log unread rear.before call is_so number alarm cause left rear.stand rear.held
    (notice.Fresh number alarm cause ∷ left) together.1 refl in
    (ready_steps opened below start f old new rear unread more late left f.events f.said (idle (begun alarm)) none_more (inl (together.0, is.0)), is.1)
mended_phase opened below start f old new rear unread more late call number alarm cause left is_so none_more (inr behind) =
    absurd (is_down f.mode behind.1.state (Some call) behind.1.mode is_so)

-- Then it serves, having said what it said.
mended_newest : TellingGoesOn → (k : Kind) (older : History) (start : Contents) (f : Front) (old new : Fronted) (back : Backed) (call : Option Event)
    (alarm : Option (ℤ × ℕ)) → f.mode ≡ down call → alarm ≡ start.alarm → of_number f.incarnation new.downed ≡ of_number f.incarnation old.downed
    → IsNewest k older start f old back → IsNewest k older start (now f f.events f.said (serves (idle (begun alarm)))) new back
mended_newest goes_on k older start f old new back call alarm is_so is same (serving before tells down_so) =
    absurd (is_down f.mode tells.state call tells.mode is_so)
mended_newest goes_on k older start f old new back call alarm is_so is same (falling other mode is_call none down_so) =
    let g : Front = now f f.events f.said (serves (idle (begun alarm))) in
    serving f.said
    (goes_on.begins k start g down_so.silent none (ap (λ (x : Option (ℤ × ℕ)). serves (idle (begun x))) is))
    (down_same older f old new back f.said f.events f.said (serves (idle (begun alarm))) same down_so)

-- The pair then.
pub on_mended : TellingGoesOn → (k : Kind) (opened : Contents) (i : ℕ) (es : List Event) (said : List Body) (call : Event)
    (number : ℕ) (alarm : Option (ℤ × ℕ)) (cause : Cause) (old new : Fronted) (rear : Rear) (line : List Entry) (left : List Notice)
    → IsPair k opened (front i es said (down (Some call))) old rear line (notice.Fresh number alarm cause ∷ left)
    → (grows : Grows k (front i es said (down (Some call))) (noticed (notice.Fresh number alarm cause)) old new)
    → IsPair k opened (front i es said (serves (idle (begun alarm)))) new rear (line ++ numbered i (suc (length said)) grows.more) left
on_mended goes_on k opened i es said call number alarm cause old new rear line left pair grows =
    let f : Front = front i es said (down (Some call)) in
    let more : List Body = grows.more in
    let none_more : [] ≡ more = append_cancel_left said [] more (append-nil said ∙ grows.said) in
    let goes : GoesOn f old new more [] [] =
    record { sent = grows.sent; delivered = grows.delivered; downed = grows.downed; ends = grows.ends ∙ append-nil old.ends } in
    let same : of_number i new.downed ≡ of_number i old.downed = own_calls f old new more [] [] goes ∙ append-nil (of_number i old.downed) in
    let unread : IsUnread (serves (idle (begun alarm))) more = record { plain = []; are_plain = none_plain [] refl; is = sym none_more } in
    let phase = mended_phase opened pair.below pair.start f old new rear pair.lined.unread more pair.lined.late call number alarm cause left refl unread
    (phase_now pair) in
    kept k opened f old new rear line (notice.Fresh number alarm cause ∷ left) pair more [] [] goes es said (serves (idle (begun alarm))) left
    (subst (λ (bodies : List Body). All IsGated bodies) none_more (All-nil IsGated)) (sym (append-nil es)) grows.said
    (mended_newest goes_on k (incarnations old rear.log pair.below) pair.start f old new rear.log (Some call) alarm refl phase.1 same pair.newest_said) phase.0

-- ---- the mounting fails
-- Its news is that of one that failed for a call.
record IsMissed (f : Front) (old : Fronted) (back : Backed) (unread : List Body) (stand : Stand) (held : List Held) (left : List Notice)
    (before after : ℕ) : Type 0 where
  cause : Cause
  stands : stand ≡ fallen cause
  none_held : held ≡ []
  none_left : left ≡ []
  none_unread : unread ≡ []
  older : List Missed
  missed : missed_of f.incarnation back.downs ≡ older ++ record { incarnation = f.incarnation; before = before; after = after } ∷ []
  length_is : length older ≡ suc (length (calls_down f old))

module _ (start : Contents) (f : Front) (old : Fronted) (back : Backed) (unread : List Body) (batches : ℕ) (call : Event) (is_so : f.mode ≡ down (Some call))
    (cause : Cause) (before after : ℕ) (left : List Notice) where
  missed_now : (stand : Stand) (held : List Held) (notices : List Notice) → Together start f old back unread batches stand held notices
      → notices ≡ notice.Down cause before after ∷ left → IsMissed f old back unread stand held left before after
  missed_now stand held notices (unreached state mode is) same = absurd (not_nil _ left same)
  missed_now stand held notices (answered m is none) same = absurd (is_down f.mode is.state (Some call) is.mode is_so)
  missed_now stand held notices (syncs o t mode none) same = absurd (not_nil _ left same)
  missed_now stand held notices (halts c mode none some) same = absurd (not_nil _ left same)
  missed_now stand held notices (read_fails o t a free counts_before counts_after mode none) same = absurd (not_nil _ left same)
  missed_now stand held notices (falls other c mode is length_is) same = absurd (not_nil _ left same)
  missed_now stand held notices (wants other c mode none length_is) same = absurd (not_nil _ left same)
  missed_now stand held notices (mends other c i mode none) same =
      absurd (subst IsFresh (same_head (notice.Fresh i start.alarm c) (notice.Down cause before after) [] left same) tt)
  missed_now stand held notices (misses other c again counts_before counts_after older mode none missed length_is) same =
      let is = same_head (notice.Down again counts_before counts_after) (notice.Down cause before after) [] left same in
      record {
        cause = c;
        stands = refl;
        none_held = refl;
        none_left = sym (same_rest (notice.Down again counts_before counts_after) (notice.Down cause before after) [] left same);
        none_unread = none;
        older = older;
        missed = missed ∙ ap (λ (n : Notice). let counts = counts_in (0, 0) n in
            older ++ record { incarnation = f.incarnation; before = counts.0; after = counts.1 } ∷ []) is;
        length_is = length_is;
      }
  missed_now stand held notices (silent other none may) same = absurd (not_nil _ left same)

-- So it is however the halves stand.
missed_phase : (opened : Contents) (below : ℕ) (start : Contents) (f : Front) (old : Fronted) (rear : Rear) (unread : List Body) (late : List Entry)
    (call : Event) (cause : Cause) (before after : ℕ) (left : List Notice) → f.mode ≡ down (Some call)
    → IsPhase opened below start f old rear unread late (notice.Down cause before after ∷ left)
    → (length rear.log.stops ≡ below) × IsMissed f old rear.log unread rear.stand rear.held left before after
missed_phase opened below start f old rear unread late call cause before after left is_so (inl together) = (
  together.0,
  missed_now start f old rear.log unread rear.before call is_so cause before after left rear.stand rear.held
      (notice.Down cause before after ∷ left) together.1 refl,
)
missed_phase opened below start f old rear unread late call cause before after left is_so (inr behind) =
    absurd (is_down f.mode behind.1.state (Some call) behind.1.mode is_so)

-- The call is answered by the failure.
missed_says : (older : History) (f : Front) (old new : Fronted) (back : Backed) (unread : List Body) (stand : Stand) (held : List Held) (left : List Notice)
    (call : Event) (before after : ℕ) (said : List Body) → IsCall call → said ≡ f.said ++ down_replies (Some call) before after
    → of_number f.incarnation new.downed ≡ of_number f.incarnation old.downed ++ call ∷ []
    → IsMissed f old back unread stand held left before after
    → SaysDown older f old back f.said → SaysDown older (now f f.events said (down None)) new back said
missed_says older f old new back unread stand held left call before after said is_call all_said called missed down_so =
    let calls : List Event = calls_down f old in
    let replies : List Body = down_replies (Some call) before after in
    let m : Missed = record { incarnation = f.incarnation; before = before; after = after } in
    let all_missed : List Missed = missed_of f.incarnation back.downs in
    record {
      silent = λ map.
          ap (λ (bodies : List Body). written map bodies) all_said
          ∙ written_both map f.said replies
          ∙ ap (λ (x : Contents). written x replies) (down_so.silent map)
          ∙ replies_silent call before after map is_call;
      calls = subst (λ (all : List Event). All IsCall all) (sym called) (All-push IsCall calls call down_so.calls is_call);
      enough = omega (
        arith,
        ap (λ (all : List Event). length all) called,
        length_push calls call,
        failures_more (length calls) all_missed missed.older m missed.missed missed.length_is,
      );
      spoken =
          ap (λ (bodies : List Body). spoken_in bodies) all_said
          ∙ flat_map-append said_by f.said replies
          ∙ ap (λ (spoken : List Said). spoken ++ spoken_in replies) down_so.spoken
          ∙ append_assoc (spoken_in (resets older)) (down_said calls (failures f back)) (spoken_in replies)
          ∙ ap (λ (spoken : List Said). spoken_in (resets older) ++ spoken)
          (sym (down_more calls call all_missed missed.older m down_so.calls is_call missed.missed missed.length_is)
          ∙ ap (λ (all : List Event). down_said all (failures f back)) (sym called));
      down = subst (λ (bodies : List Body). All (λ (b : Body). is_said_down b ≡ true) bodies) (sym all_said)
          (All-append (λ (b : Body). is_said_down b ≡ true) f.said replies down_so.down (replies_down call before after is_call));
    }

-- It is down still, having said that too.
missed_newest : (k : Kind) (older : History) (start : Contents) (f : Front) (old new : Fronted) (back : Backed) (unread : List Body) (stand : Stand)
    (held : List Held) (left : List Notice) (call : Event) (before after : ℕ) (said : List Body) → f.mode ≡ down (Some call)
    → said ≡ f.said ++ down_replies (Some call) before after
    → of_number f.incarnation new.downed ≡ of_number f.incarnation old.downed ++ call ∷ []
    → IsMissed f old back unread stand held left before after
    → IsNewest k older start f old back → IsNewest k older start (now f f.events said (down None)) new back × IsCall call
missed_newest k older start f old new back unread stand held left call before after said is_so all_said called missed (serving said_first tells down_so) =
    absurd (is_down f.mode tells.state (Some call) tells.mode is_so)
missed_newest k older start f old new back unread stand held left call before after said is_so all_said called missed
    (falling other mode is_call none down_so) =
    let call_is : IsCall call = subst (λ (x : Option Event). IfSome x IsCall) (same_call f.mode other (Some call) mode is_so) is_call in
    (falling None refl tt none (missed_says older f old new back unread stand held left call before after said call_is all_said called missed down_so), call_is)

-- The pair then.
pub on_missed : (k : Kind) (opened : Contents) (i : ℕ) (es : List Event) (said : List Body) (call : Event)
    (cause : Cause) (before after : ℕ) (old new : Fronted) (rear : Rear) (line : List Entry) (left : List Notice)
    → IsPair k opened (front i es said (down (Some call))) old rear line (notice.Down cause before after ∷ left)
    → (grows : Grows k (front i es said (down (Some call))) (noticed (notice.Down cause before after)) old new)
    → IsPair k opened (front i es (said ++ down_replies (Some call) before after) (down None)) new rear (line ++ numbered i (suc (length said)) grows.more) left
on_missed k opened i es said call cause before after old new rear line left pair grows =
    let f : Front = front i es said (down (Some call)) in
    let replies : List Body = down_replies (Some call) before after in
    let g : Front = front i es (said ++ replies) (down None) in
    let more : List Body = grows.more in
    let more_is : more ≡ replies = append_cancel_left said more replies (sym grows.said) in
    let goes : GoesOn f old new more [] (call ∷ []) =
    record { sent = grows.sent; delivered = grows.delivered; downed = grows.downed; ends = grows.ends ∙ append-nil old.ends } in
    let called : of_number i new.downed ≡ of_number i old.downed ++ call ∷ [] = own_calls f old new more [] (call ∷ []) goes in
    let phase = missed_phase opened pair.below pair.start f old rear pair.lined.unread pair.lined.late call cause before after left refl (phase_now pair) in
    let missed : IsMissed f old rear.log pair.lined.unread rear.stand rear.held left before after = phase.1 in
    let older : History = incarnations old rear.log pair.below in
    let newest = missed_newest k older pair.start f old new rear.log pair.lined.unread rear.stand rear.held left call before after (said ++ replies)
    refl refl called missed pair.newest_said in
    let plain : ArePlain more = subst (λ (x : List Body). ArePlain x) (sym more_is) (replies_plain call before after newest.1) in
    let m : Missed = record { incarnation = i; before = before; after = after } in
    let counted : length (missed_of i rear.log.downs) ≡ suc (length (calls_down g new)) =
    omega (
      arith,
      ap (λ (all : List Missed). length all) missed.missed,
      length_push missed.older m,
      missed.length_is,
      ap (λ (all : List Event). length all) called,
      length_push (calls_down f old) call,
    ) in
    let unread : IsUnread (down None) (pair.lined.unread ++ more) =
    unread_more (down None) pair.lined.unread more (none_plain pair.lined.unread missed.none_unread)
    (record { plain = more; are_plain = plain; is = sym (append-nil more) }) in
    kept k opened f old new rear line (notice.Down cause before after ∷ left) pair more [] (call ∷ []) goes es (said ++ replies) (down None) left
    (are_gated is_plain plain_gated more plain) (sym (append-nil es)) grows.said newest.0
    (inl (
      phase.0,
      at_stand (Together pair.start g new rear.log (pair.lined.unread ++ more) rear.before) rear.stand (fallen missed.cause) rear.held [] left []
          missed.stands missed.none_held missed.none_left (falls None missed.cause refl unread counted),
    ))

-- ---- a call asks for a mounting
no_silence : (m : Mode) (stand : Stand) → m ≡ down None → IsSilentAt m stand → ⊥
no_silence m mounted is_so may = subst (λ (x : Mode). IsSilentAt x mounted) is_so may
no_silence m (pair_specs.wanted c) is_so may = subst (λ (x : Mode). IsSilentAt x (pair_specs.wanted c)) is_so may
no_silence m (fallen c) is_so may = subst (λ (x : Mode). IsSilentAt x (fallen c)) is_so may

module _ (start : Contents) (f : Front) (old new : Fronted) (back : Backed) (unread more : List Body) (before : ℕ) (e : Event) (is_so : f.mode ≡ down None)
    (said : List Body) (more_is : more ≡ body.Mend ∷ []) (same : of_number f.incarnation new.downed ≡ of_number f.incarnation old.downed) where
  wanted_now : (stand : Stand) (held : List Held) (notices : List Notice) → Together start f old back unread before stand held notices
      → Together start (now f f.events said (down (Some e))) new back (unread ++ more) before stand held notices
  wanted_now stand held notices (unreached state mode is) = absurd (is_down f.mode state None mode is_so)
  wanted_now stand held notices (answered m is none) = absurd (is_down f.mode is.state None is.mode is_so)
  wanted_now stand held notices (syncs o t mode none) = absurd (is_down f.mode _ None mode is_so)
  wanted_now stand held notices (halts c mode none some) = absurd (is_down f.mode _ None mode is_so)
  wanted_now stand held notices (read_fails o t a free counts_before counts_after mode none) = absurd (is_down f.mode _ None mode is_so)
  wanted_now stand held notices (falls other c mode is length_is) =
      falls (Some e) c refl
      (record { plain = unread; are_plain = all_plain f.mode (down None) unread is_so refl is; is = ap (λ (x : List Body). unread ++ x) more_is })
      (length_is ∙ ap (λ (calls : List Event). suc (length calls)) (sym same))
  wanted_now stand held notices (wants other c mode none length_is) = absurd (none_waits f.mode other is_so mode)
  wanted_now stand held notices (mends other c i mode none) = absurd (none_waits f.mode other is_so mode)
  wanted_now stand held notices (misses other c again counts_before counts_after older mode none missed length_is) = absurd (none_waits f.mode other is_so mode)
  wanted_now stand held notices (silent other none may) = absurd (no_silence f.mode other is_so may)

-- The back has fallen, and the wish is on the line.
wanted_phase : (opened : Contents) (below : ℕ) (start : Contents) (f : Front) (old new : Fronted) (rear : Rear) (unread more : List Body) (late : List Entry)
    (e : Event) (notices : List Notice) (said : List Body) → f.mode ≡ down None → more ≡ body.Mend ∷ []
    → of_number f.incarnation new.downed ≡ of_number f.incarnation old.downed
    → IsPhase opened below start f old rear unread late notices
    → IsPhase opened below start (now f f.events said (down (Some e))) new rear (unread ++ more) late notices
wanted_phase opened below start f old new rear unread more late e notices said is_so more_is same (inl together) =
    inl (together.0, wanted_now start f old new rear.log unread more rear.before e is_so said more_is same rear.stand rear.held notices together.1)
wanted_phase opened below start f old new rear unread more late e notices said is_so more_is same (inr behind) =
    absurd (is_down f.mode behind.1.state None behind.1.mode is_so)

-- It says so, which writes nothing and tells nobody.
wanted_says : (older : History) (f : Front) (old new : Fronted) (back : Backed) (e : Event)
    → of_number f.incarnation new.downed ≡ of_number f.incarnation old.downed → SaysDown older f old back f.said
    → SaysDown older (now f f.events (f.said ++ body.Mend ∷ []) (down (Some e))) new back (f.said ++ body.Mend ∷ [])
wanted_says older f old new back e same down_so =
    let is = down_same older f old new back f.said f.events (f.said ++ body.Mend ∷ []) (down (Some e)) same down_so in
    record {
      silent = λ map. written_both map f.said (body.Mend ∷ []) ∙ is.silent map;
      calls = is.calls;
      enough = is.enough;
      spoken = flat_map-append said_by f.said (body.Mend ∷ []) ∙ append-nil (spoken_in f.said) ∙ is.spoken;
      down = All-push (λ (b : Body). is_said_down b ≡ true) f.said body.Mend down_so.down refl;
    }

-- It is down, and the call waits.
wanted_newest : (k : Kind) (older : History) (start : Contents) (f : Front) (old new : Fronted) (back : Backed) (e : Event) → f.mode ≡ down None → IsCall e
    → of_number f.incarnation new.downed ≡ of_number f.incarnation old.downed → IsNewest k older start f old back
    → IsNewest k older start (now f f.events (f.said ++ body.Mend ∷ []) (down (Some e))) new back
wanted_newest k older start f old new back e is_so call same (serving before tells down_so) = absurd (is_down f.mode tells.state None tells.mode is_so)
wanted_newest k older start f old new back e is_so call same (falling other mode is_call none down_so) =
    falling (Some e) refl call none (wanted_says older f old new back e same down_so)

-- The pair then.
pub on_wanted : (k : Kind) (opened : Contents) (i : ℕ) (es : List Event) (said : List Body) (e : Event) (old new : Fronted) (rear : Rear) (line : List Entry)
    (left : List Notice) → IsPair k opened (front i es said (down None)) old rear line left → IsCall e
    → (grows : Grows k (front i es said (down None)) (wanted e) old new)
    → IsPair k opened (front i es (said ++ body.Mend ∷ []) (down (Some e))) new rear (line ++ numbered i (suc (length said)) grows.more) left
on_wanted k opened i es said e old new rear line left pair call grows =
    let f : Front = front i es said (down None) in
    let more : List Body = grows.more in
    let more_is : more ≡ body.Mend ∷ [] = append_cancel_left said more (body.Mend ∷ []) (sym grows.said) in
    let goes : GoesOn f old new more [] [] =
    record { sent = grows.sent; delivered = grows.delivered; downed = grows.downed; ends = grows.ends ∙ append-nil old.ends } in
    let same : of_number i new.downed ≡ of_number i old.downed = own_calls f old new more [] [] goes ∙ append-nil (of_number i old.downed) in
    kept k opened f old new rear line left pair more [] [] goes es (said ++ body.Mend ∷ []) (down (Some e)) left
    (subst (λ (bodies : List Body). All IsGated bodies) (sym more_is) (All-cons IsGated body.Mend [] tt (All-nil IsGated))) (sym (append-nil es)) grows.said
    (wanted_newest k (incarnations old rear.log pair.below) pair.start f old new rear.log e refl call same pair.newest_said)
    (wanted_phase opened pair.below pair.start f old new rear pair.lined.unread more pair.lined.late e left (said ++ body.Mend ∷ []) refl more_is same
    (phase_now pair))
