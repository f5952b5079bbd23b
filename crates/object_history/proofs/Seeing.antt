-- What a step of a back changes of what its front's side sees.
use Rattle.std.proofs.Common.{◌≡◌, ◌∙◌, ap, sym, refl, subst, ℕ, List, [], ◌∷◌, ◌++◌}
use Rattle.std.proofs.lemmas.Bool.{ltb-true, ltb-false, lt-leb, le-leb}
use Rattle.std.proofs.lemmas.Grind.{flat_map-append}
use Rattle.std.proofs.lemmas.List.Elements.{filter-append}
use Rattle.std.specs.Prelude.{Bool, true, false, not, nat_le, nat_lt, if◌then◌else◌}
use Rattle.std.specs.List.{filter, flat_map}
use Rattle.storage_map.specs.Contents.{Contents}
use Rattle.timeline.specs.Logs.{Backed, backed}
use Rattle.timeline.specs.declared.caller.Cause.{Cause}
use Rattle.timeline.specs.declared.entry.Entry.{Entry}
use Rattle.timeline.specs.declared.message.Message.TheVariants as message
use Rattle.timeline.specs.declared.message.Message.{Message as Sent}
use Rattle.timeline.specs.declared.notice.Notice.{Notice}
use Rattle.output_gate.specs.Held.{reset_of, stays}
use Rattle.output_gate.specs.declared.back.Back.{Back}
use Rattle.output_gate.specs.declared.held.Held.{Held as BackHeld}
use Rattle.output_gate.specs.declared.held.HeldBody.{HeldBody}
use Rattle.output_gate.specs.declared.held.HeldBody.TheVariants.{Message, Sync, Halt}
use Rattle.object_history.specs.Pair.{Held, Stand, Rear}
use Rattle.object_history.specs.Seen.{held_for, held_of, stand_of, rear_of}
use Rattle.object_history.specs.Stepping.{BackSteps}

abbrev pub made : Backed → Stand → List Held → ℕ → ℕ → Contents → Rear
made log stand held before durable m = record { log = log; stand = stand; held = held; before = before; durable = durable; map = m }

-- a step to what is seen of a back with a map, by its parts
pub steps_to : {D : Type 0} (from : Rear) (later : Back D) (m : Contents) (got : List Entry) (told : List Notice) (log : Backed) (stand : Stand) (held : List Held)
    (before durable : ℕ)
    → BackSteps from (made log stand held before durable m) got told → backed later.log ≡ log → stand_of later.mode ≡ stand
    → flat_map held_of later.held.items ≡ held → later.before ≡ before → later.durable ≡ durable
    → BackSteps from (rear_of m later) got told
steps_to from later m got told log stand held before durable step logs stands helds befores durables =
    let there : List Held = flat_map held_of later.held.items in
    subst (λ (r : Rear). BackSteps from r got told)
    (ap (λ (l : Backed). made l stand held before durable m) (sym logs)
    ∙ ap (λ (s : Stand). made (backed later.log) s held before durable m) (sym stands)
    ∙ ap (λ (h : List Held). made (backed later.log) (stand_of later.mode) h before durable m) (sym helds)
    ∙ ap (λ (n : ℕ). made (backed later.log) (stand_of later.mode) there n durable m) (sym befores)
    ∙ ap (λ (n : ℕ). made (backed later.log) (stand_of later.mode) there later.before n m) (sym durables))
    step

at_most_as : (durable needs : ℕ) (less : Bool) → nat_lt durable needs ≡ less → nat_le needs durable ≡ not less
at_most_as durable needs true is = lt-leb needs durable (ltb-true durable needs is)
at_most_as durable needs false is = le-leb needs durable (ltb-false durable needs is)

at_most : (durable needs : ℕ) → nat_le needs durable ≡ not (nat_lt durable needs)
at_most durable needs = at_most_as durable needs (nat_lt durable needs) refl

module _ (durable number : ℕ) (c : Cause) where
  abbrev keeps : Held → Bool
  keeps h = nat_le h.needs durable

  -- of a message the front's side sees nothing, before the end and after it
  message_unseen : (sent : Sent) → flat_map held_of (reset_of durable number c (Message sent)) ≡ []
  message_unseen (message.Reply to result) = refl
  message_unseen (message.Call i n to method args depth) = refl
  message_unseen (message.Fetch i n value) = refl

  one_seen : (h : BackHeld) (b : HeldBody) (less : Bool) → h.body ≡ b → nat_le h.needs durable ≡ not less
      → flat_map held_of (if less then reset_of durable number c b else h ∷ []) ≡ filter keeps (held_for h.needs b)
  one_seen h (Message sent) true is kept = message_unseen sent
  one_seen h (Message sent) false is kept = ap (λ (b : HeldBody). held_for h.needs b ++ []) is
  one_seen h (Sync k) true is kept = sym (ap (λ (y : Bool). if y then held_for h.needs (Sync k) else []) kept)
  one_seen h (Sync k) false is kept = ap (λ (b : HeldBody). held_for h.needs b ++ []) is ∙ sym (ap (λ (y : Bool). if y then held_for h.needs (Sync k) else []) kept)
  one_seen h (Halt k) true is kept = sym (ap (λ (y : Bool). if y then held_for h.needs (Halt k) else []) kept)
  one_seen h (Halt k) false is kept = ap (λ (b : HeldBody). held_for h.needs b ++ []) is ∙ sym (ap (λ (y : Bool). if y then held_for h.needs (Halt k) else []) kept)

  -- what an end leaves of what is held
  pub left_seen : (held : List BackHeld) → flat_map held_of (flat_map (stays durable number c) held) ≡ filter keeps (flat_map held_of held)
  left_seen [] = refl
  left_seen (h ∷ held) =
      flat_map-append held_of (stays durable number c h) (flat_map (stays durable number c) held)
      ∙ ap (λ (first : List Held). first ++ flat_map held_of (flat_map (stays durable number c) held))
      (one_seen h h.body (nat_lt durable h.needs) refl (at_most durable h.needs))
      ∙ ap (λ (rest : List Held). filter keeps (held_of h) ++ rest) (left_seen held)
      ∙ sym (filter-append keeps (held_of h) (flat_map held_of held))
