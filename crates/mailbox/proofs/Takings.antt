-- What is taken from the lanes.
use Rattle.std.proofs.Common.{◌≡◌, ◌<◌, ◌+◌, ℕ, inl, inr, List, [], ◌∷◌, ◌++◌, map, length, get_or, set, refl, sym, ap, subst, ◌∙◌, arith}
use Rattle.std.proofs.lemmas.Bool.{cases_lt}
use Rattle.std.specs.Prelude.{Option, None, Some, IfNone}
use Rattle.std.proofs.Math.Path.{transport}
use Rattle.lane.specs.Lanes.{LaneId, StartsWith}
use Rattle.timeline.specs.declared.message.Message.{Message}
use Rattle.mailbox.specs.Posting.{at_slot}
use Rattle.mailbox.specs.Taken.{AreEmpty, SameInlets, got_more}
use Rattle.mailbox.proofs.Sendings.{at_own, set_more}

module _ {S : Type 0} (got told : S → List Message) (first now : List S) (slot : ℕ) (lane : S) (within : slot < length now) (got_same : map got now ≡ map got first) where
  own_of : (items : S → List Message) → map items now ≡ map items first → items (get_or now slot lane) ≡ at_slot items first slot
  own_of items same = sym (at_own items now slot lane lane within) ∙ ap (λ (l : List (List Message)). get_or l slot []) same

  -- one lane more is empty
  pub empty_on : (from : ℕ) → map told now ≡ map told first → StartsWith (got (get_or now slot lane)) (told (get_or now slot lane))
      → AreEmpty got told from slot first → AreEmpty got told from (slot + 1) first
  empty_on from told_same here before = λ k low below.
      elim (cases_lt k slot) [
        | inl less ↦ before k low less
        | inr past ↦
            let last : slot ≡ k = omega (arith, below, past) in
            subst (λ (n : ℕ). StartsWith (at_slot got first n) (at_slot told first n)) last
            (transport (λ i. StartsWith (own_of got got_same i) (own_of told told_same i)) here)
      ]

  -- one message more was taken
  pub got_one : (after : S) (message : Message) → got after ≡ got (get_or now slot lane) ++ message ∷ [] → map got (set now slot after) ≡ got_more slot message (map got first)
  got_one after message more = set_more got now slot lane after within message more ∙ ap (got_more slot message) got_same

-- ---- first some lanes, then those before them
module _ {S : Type 0} (got told : S → List Message) (first now : List S) (got_same : map got now ≡ map got first) where
  pub empty_both : (between to : ℕ) → map told now ≡ map told first → AreEmpty got told between to first → AreEmpty got told 0 between now → AreEmpty got told 0 to first
  empty_both between to told_same high low = λ k from below.
      elim (cases_lt k between) [
        | inl less ↦ transport (λ i. StartsWith (get_or (got_same i) k []) (get_or (told_same i) k [])) (low k from less)
        | inr past ↦ high k past below
      ]

  pub got_later : (new : List S) (slot : ℕ) (message : Message) → map got new ≡ got_more slot message (map got now) → map got new ≡ got_more slot message (map got first)
  got_later new slot message took = took ∙ ap (got_more slot message) got_same

pub inlets_then : {S : Type 0} (inlet : S → LaneId) (told : S → List Message) (a b c : List S) → SameInlets inlet told a b → SameInlets inlet told b c → SameInlets inlet told a c
inlets_then inlet told a b c one two = record { lanes = two.lanes ∙ one.lanes; known = two.known ∙ one.known }

pub inlets_none : {S : Type 0} (inlet : S → LaneId) (told : S → List Message) (ends : List S) → SameInlets inlet told ends ends
inlets_none inlet told ends = record { lanes = refl; known = refl }

pub none_then : {T P Q : Type 0} (r : Option T) → (P → Q) → IfNone r P → IfNone r Q
none_then None f p = f p
none_then (Some x) f p = tt
