-- What was known of a slot without an object is known of the object that it gets.
use Rattle.std.proofs.Common.{◌≡◌, ◌∙◌, sym, refl, subst, inl, inr, ℕ, List, [], ◌∷◌, Option, Some, None}
use Rattle.std.proofs.lemmas.List.Elements.{All-nil, All-cons, All-head, All-tail}
use Rattle.batch_journal.specs.Frames.{Frame, holds, marker, NamesAs}
use Rattle.storage_map.specs.Limits.{Object}
use Rattle.storage_map.specs.declared.op.Op.{Op}
use Rattle.timeline.specs.History.{History, line}
use Rattle.timeline.specs.Logs.{Fronted}
use Rattle.timeline.specs.Passed.{Passed}
use Rattle.timeline.specs.declared.back_log.Release.{Release}
use Rattle.output_gate.specs.Gate.{Place, history_at, Lists, IsGate}
use Rattle.output_gate.specs.Kept.{NameOnly, RecoversToPrefix, RecoversToLine, HasLeft, HaveLeft}

abbrev is_there : Option Object → Type 0
is_there None = ⊥
is_there (Some object) = Unit {0}

pub some_none : {object : Object} → Some object ≡ None → ⊥
some_none same = subst is_there same tt

pub no_frames : (object : Object) (identity : Option Object) (frames : List Frame) → identity ≡ None → NameOnly identity frames → NameOnly (Some object) frames
no_frames object identity [] nobody named = All-nil (NamesAs (Some object))
no_frames object identity (holds f ∷ frames) nobody named = absurd (some_none (sym (All-head (NamesAs identity) (holds f) frames named) ∙ nobody))
no_frames object identity (marker ∷ frames) nobody named =
    All-cons (NamesAs (Some object)) marker frames tt (no_frames object identity frames nobody (All-tail (NamesAs identity) marker frames named))

module _ (start : List (List Op)) (object : Object) where
  named_prefix : (of : List (List Op)) (least : ℕ) (c : List ℕ) → RecoversToPrefix None start of least c → RecoversToPrefix (Some object) start of least c
  named_prefix of least c held = (held.0, held.1, held.2, (held.3.0, held.3.1, no_frames object None held.3.0 refl held.3.2, held.3.3))

  named_line : (since : ℕ) (h : History) (least : ℕ) (c : List ℕ) → RecoversToLine None start since h least c → RecoversToLine (Some object) start since h least c
  named_line since [] least c held = elim held [ ]
  named_line since (i ∷ older) least c (inl held) = inl (held.0, named_prefix (line (i ∷ older)) least c held.1)
  named_line since (i ∷ older) least c (inr held) = inr (named_line since older least c held)

  module _ {D : Type 0} (moment_of : D → ℕ) (left_since : D → ℕ → List ℕ → Type 0) where
    named_left : (disk : D) (h : History) (released : List Release) (left : List Passed) → HaveLeft moment_of left_since None start disk h released left
        → HaveLeft moment_of left_since (Some object) start disk h released left
    named_left disk h [] [] held = tt
    named_left disk h [] (q ∷ left) held = elim held [ ]
    named_left disk h (release ∷ released) [] held = elim held [ ]
    named_left disk h (release ∷ released) (q ∷ left) held =
        let here : HasLeft moment_of left_since None start disk h release q = held.0 in (
          record { message = here.message; needs = here.needs; earlier = here.earlier; images = λ c now. named_line q.since h q.needs c (here.images c now) },
          named_left disk h released left held.1,
        )

    pub named_gate : (opening : ℕ) (front : Fronted) (p : Place) (disk : D) (l : Lists) (before durable : ℕ)
        → IsGate moment_of left_since None start opening front p disk l before durable → IsGate moment_of left_since (Some object) start opening front p disk l before durable
    named_gate opening front p disk l before durable g = record {
      mounted = g.mounted;
      deep = g.deep;
      passes = g.passes;
      since_left = g.since_left;
      since_waiting = g.since_waiting;
      needs_left = g.needs_left;
      settled = g.settled;
      known = g.known;
      counted = g.counted;
      flown = g.flown;
      line = g.line;
      long = g.long;
      opened = g.opened;
      images = λ c left. named_line 0 (history_at front p) 0 c (g.images c left);
      released = named_left disk (history_at front p) l.released l.left g.released;
    }
