-- An object of which a message is collected, and one that is given an event.
use Rattle.std.proofs.Common.{◌≡◌, ◌∙◌, ap, sym, subst, ℕ, List, [], ◌∷◌, ◌++◌, append_assoc, Option, Some, None}
use Rattle.std.specs.Prelude.{IfSome, IfNone}
use Rattle.do_tree.specs.Tree.{Script}
use Rattle.lane.specs.Lanes.{Both, sent_on}
use Rattle.timeline.specs.declared.entry.Entry.{Entry}
use Rattle.timeline.specs.declared.event.Event.{Event}
use Rattle.timeline.specs.declared.message.Message.{Message as Sent}
use Rattle.timeline.specs.declared.notice.Notice.{Notice}
use Rattle.object_front.specs.Came.{HasGot}
use Rattle.object_front.specs.declared.evaluated.Evaluated.{Evaluated}
use Rattle.front_half.specs.declared.half.Half.{Half}
use Rattle.output_gate.specs.declared.back.Back.{Back}
use Rattle.object_core.specs.Dropping.{IsDropping}
use Rattle.object_core.specs.One.{IsOneOf, Origin, SticksAtAnswers, class_in}

-- what was sent on a queue is the same whatever is taken
pub still_sent : {X : Type 0} (queue later : Both X) (result : Option X) → IfNone result ((queue.waiting ≡ []) × (later ≡ queue))
    → IfSome result (λ x. (queue.waiting ≡ x ∷ later.waiting) × (later.got ≡ queue.got ++ x ∷ [])) → sent_on later ≡ sent_on queue
still_sent queue later None none some = ap sent_on none.1
still_sent queue later (Some x) none some =
    ap (λ xs. xs ++ later.waiting) some.1 ∙ append_assoc queue.got (x ∷ []) later.waiting ∙ ap (λ xs. queue.got ++ xs) (sym some.0)

module _ {D : Type 0} (moment_of : D → ℕ) (left_since : D → ℕ → List ℕ → Type 0) (told : D → Option (List ℕ)) (image : D → List ℕ → Type 0) (faults_of : D → ℕ)
    (script : Script) (origin : Origin) (front : Half Evaluated) (inbox : Both Event) (back : Back D) (line : Both Entry) (notices : Both Notice) (out later : Both Sent) where
  pub collect_keeps : sent_on later ≡ sent_on out → IsOneOf moment_of left_since told image faults_of script origin front inbox back line notices out
      → IsOneOf moment_of left_since told image faults_of script origin front inbox back line notices later
  collect_keeps same one = record {
    back_stands = one.back_stands;
    alarm = one.alarm;
    st = one.st;
    front_stands = one.front_stands;
    has_taken = one.has_taken;
    classed = one.classed;
    named = one.named;
    has_got = one.has_got;
    lost = one.lost;
    none_lost = one.none_lost;
    is_line = one.is_line;
    left = one.left ∙ ap (λ (x : List Sent). origin.left ++ x) (sym same);
    pair = one.pair;
    fits = one.fits;
    heard = one.heard;
    sticks = one.sticks;
    limited = one.limited;
    drops = one.drops;
  }

module _ {D : Type 0} (moment_of : D → ℕ) (left_since : D → ℕ → List ℕ → Type 0) (told : D → Option (List ℕ)) (image : D → List ℕ → Type 0) (faults_of : D → ℕ)
    (script : Script) (origin : Origin) (front : Half Evaluated) (inbox later : Both Event) (back : Back D) (line : Both Entry) (notices : Both Notice)
    (out : Both Sent) where
  -- The front got the same, whatever is given.
  pub give_keeps : later.got ≡ inbox.got → IsOneOf moment_of left_since told image faults_of script origin front inbox back line notices out
      → IsOneOf moment_of left_since told image faults_of script origin front later back line notices out
  give_keeps same one = record {
    back_stands = one.back_stands;
    alarm = one.alarm;
    st = one.st;
    front_stands = one.front_stands;
    has_taken = one.has_taken;
    classed = one.classed;
    named = one.named;
    has_got = subst (λ (got : List Event). HasGot front one.st got) (sym same) one.has_got;
    lost = one.lost;
    none_lost = one.none_lost;
    is_line = one.is_line;
    left = one.left;
    pair = one.pair;
    fits = one.fits;
    heard = one.heard;
    sticks = subst (λ (got : List Event). SticksAtAnswers told front back got) (sym same) one.sticks;
    limited = one.limited;
    drops = λ tells. subst (λ (got : List Event). IsDropping script (class_in script origin.object) one.alarm front one.st back.log.downs.items got) (sym same) (one.drops tells);
  }
