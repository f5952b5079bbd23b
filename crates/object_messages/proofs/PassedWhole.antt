-- What was taken of an incarnation that hasn't stopped passes as it is.
use Rattle.std.proofs.Common.{◌≡◌, ◌∙◌, refl, ap, ℕ, suc, ◌+◌, List, [], ◌∷◌, ◌++◌, length, arith, Option, None}
use Rattle.std.proofs.lemmas.List.{map-append}
use Rattle.std.proofs.lemmas.Option.{slice_get_past}
use Rattle.std.specs.List.{flat_map, list_any}
use Rattle.std.specs.Prelude.{Bool, true, false, not, ◌||◌}
use Rattle.timeline.specs.History.{History, Incarnation, incarnation_at, incarnations, said_in}
use Rattle.timeline.specs.Passed.{Held, Passed, bound_by, follows, held_in, is_mend, is_mounted, passed, passed_in, passes, passes_if}
use Rattle.timeline.specs.declared.back_log.Stop.{Stop}
use Rattle.timeline.specs.declared.caller.Cause.{Cause}
use Rattle.timeline.specs.declared.entry.Body.{Body}
use Rattle.timeline.specs.declared.entry.Body.TheVariants as body
use Rattle.timeline.specs.declared.entry.Entry.{Entry}
use Rattle.timeline.specs.declared.message.Message.{Message}
use Rattle.object_messages.specs.Fetches.{NewestPassesWhole}
use Rattle.object_messages.specs.Laws.{gone}
use Rattle.object_messages.specs.Naming.{message_of, messages_of}

module _ (older : History) (number : ℕ) where
  -- Each message,
  one_whole : (held : Held) (b : Bool) → gone (passes_if older number None held b) ≡ held.message ∷ []
  one_whole held true = refl
  one_whole held false = refl

  abbrev gone_from : (count behind : ℕ) → List Body → List Message
  gone_from count behind bodies = gone (flat_map (passes older number None) (held_in count behind bodies))

  -- one entry in front of others,
  entry_whole : (b : Body) (bodies : List Body) (count behind : ℕ) (messages : List Message)
      → ((later reach : ℕ) → gone_from later reach bodies ≡ messages) → gone_from count behind (b ∷ bodies) ≡ message_of b ++ messages
  entry_whole (body.Message sent) bodies count behind messages rest =
      let held : Held = record { message = sent; behind = behind; mended = list_any is_mend bodies } in
      let later : List Passed = flat_map (passes older number None) (held_in count behind bodies) in
      map-append (λ (p : Passed). p.message) (passes older number None held) later
      ∙ ap (λ (ms : List Message). ms ++ gone later) (one_whole held (not (is_mounted older) || held.mended))
      ∙ ap (λ (ms : List Message). sent ∷ ms) (rest count behind)
  entry_whole (body.Batch ops tail confirmed) bodies count behind messages rest = rest (count + 1) (follows count behind confirmed)
  entry_whole (body.Bind identity) bodies count behind messages rest = rest count behind
  entry_whole (body.Ask a free) bodies count behind messages rest = rest count behind
  entry_whole body.Sync bodies count behind messages rest = rest count behind
  entry_whole (body.Halt cause) bodies count behind messages rest = rest count behind
  entry_whole body.Mend bodies count behind messages rest = rest count behind

  -- and all of them.
  all_whole : (entries : List Entry) (count behind : ℕ) → gone_from count behind (said_in entries) ≡ messages_of entries
  all_whole [] count behind = refl
  all_whole (entry ∷ entries) count behind = entry_whole entry.body (said_in entries) count behind (messages_of entries) (all_whole entries)

pub newest_whole : NewestPassesWhole
newest_whole front back =
    let n : ℕ = length back.stops in
    let older : History = incarnations front back n in
    let i : Incarnation = incarnation_at front back n in
    let bound : bound_by i.stop i.flights ≡ None =
    ap (λ (stop : Option Stop). bound_by stop i.flights) (slice_get_past back.stops n (omega arith)) in (
      gone (passed older),
      map-append (λ (p : Passed). p.message) (passed older) (passed_in older i)
          ∙ ap (λ (b : Option (Cause × ℕ)). gone (passed older) ++ gone (flat_map (passes older (suc n) b) (held_in 0 0 (said_in i.taken)))) bound
          ∙ ap (λ (ms : List Message). gone (passed older) ++ ms) (all_whole older (suc n) i.taken 0 0),
    )
