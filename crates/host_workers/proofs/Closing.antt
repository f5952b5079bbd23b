-- Two cells that have ended, with what their lanes still had, are one object.
use Rattle.std.proofs.Common.{◌≡◌, ◌∙◌, ap, sym, subst, ℕ, List, ◌++◌, Option}
use Rattle.lane.specs.Lanes.{Both, sent_on}
use Rattle.timeline.specs.declared.event.Event.{Event}
use Rattle.timeline.specs.declared.message.Message.{Message as Sent}
use Rattle.object_front.specs.declared.front.Front.{Front}
use Rattle.output_gate.specs.declared.back.Back.{Back}
use Rattle.object_core.proofs.Alone.{are_one}
use Rattle.object_core.specs.Alone.{AreApart}
use Rattle.object_core.specs.Apart.{ApartMeet}
use Rattle.object_core.specs.declared.object.Core.{Core}
use Rattle.host_workers.specs.Apart.{CellsAreApart, IsJoined, IsRestOf}
use Rattle.host_workers.specs.Fronts.{script_of}
use Rattle.host_workers.specs.declared.back_cell.BackCell.{BackCell}
use Rattle.host_workers.specs.declared.front_cell.FrontCell.{FrontCell}

-- What a closed lane had: what was taken from it, and of what was sent all that wasn't.
pub record IsClosed {X : Type 0} (sent got : List X) (both : Both X) : Type 0 where
  pub got_is : both.got ≡ got
  pub rest : IsRestOf sent got both

-- So is a lane whose ends are these, and were closed.
pub closed_as : {X : Type 0} (sent sent_then got got_then : List X) (both : Both X) → sent_then ≡ sent → got_then ≡ got → both.got ≡ got_then
    → IsRestOf sent_then got_then both → IsClosed sent got both
closed_as {X} sent sent_then got got_then both same_sent same_got is rest = record {
  got_is = is ∙ same_got;
  rest = sym same_sent ∙ rest ∙ ap (λ (l : List X). l ++ both.waiting) same_got;
}

module _ {D T : Type 0} (moment_of : D → ℕ) (left_since : D → ℕ → List ℕ → Type 0) (told : D → Option (List ℕ)) (image : D → List ℕ → Type 0)
    (faults_of : D → ℕ) where
  -- The lanes of two cells were closed, and their halves are in one place.
  pub record AreClosed (front : FrontCell T) (back : BackCell D T) (posts : List Event) (taken : List Sent) (core : Core D) : Type 0 where
    pub front_is : core.front ≡ front.front
    pub back_is : core.back ≡ back.back
    pub inbox : IsClosed posts front.inbox.got core.inbox
    pub line : IsClosed front.line.sent back.line.got core.line
    pub notices : IsClosed back.notices.sent front.notices.got core.notices
    pub out : IsClosed back.out.sent taken core.out

  -- They are one object.
  pub are_joined : (front : FrontCell T) (back : BackCell D T) (posts : List Event) (taken : List Sent) (core : Core D) → ApartMeet
      → CellsAreApart moment_of left_since told image faults_of front back → AreClosed front back posts taken core
      → IsJoined moment_of left_since told image faults_of front back posts taken core
  are_joined front back posts taken core meet apart are = record {
    front_is = are.front_is;
    back_is = are.back_is;
    given = ap (λ (got : List Event). got ++ core.inbox.waiting) are.inbox.got_is ∙ sym are.inbox.rest;
    collected = are.out.got_is;
    one = λ origin alarm none is_front is_back.
        let script = script_of front in
        let ended : AreApart moment_of left_since told image faults_of script origin front.front.half core.inbox back.back core.line core.notices core.out =
        apart origin alarm core.inbox core.line core.notices core.out (record {
          is_front = is_front;
          is_back = is_back;
          inbox_got = are.inbox.got_is;
          line_rest = are.line.rest;
          notices_rest = are.notices.rest;
          out_rest = are.out.rest ∙ ap (λ (got : List Sent). got ++ core.out.waiting) (sym are.out.got_is)
              ∙ ap (λ (left : List Sent). left ++ sent_on core.out) (sym none);
        }) in
        are_one moment_of left_since told image faults_of meet script origin core.front.half core.inbox core.back core.line core.notices core.out
        (subst (λ (f : Front). AreApart moment_of left_since told image faults_of script origin f.half core.inbox core.back core.line core.notices core.out) (sym are.front_is)
        (subst (λ (b : Back D). AreApart moment_of left_since told image faults_of script origin front.front.half core.inbox b core.line core.notices core.out) (sym are.back_is)
        ended));
  }
