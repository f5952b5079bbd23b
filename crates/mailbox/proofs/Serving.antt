-- What is given is logged, whole or in part.
use Rattle.std.proofs.Common.{◌≡◌, ◌⊎◌, inl, inr, ℕ, List, [], ◌∷◌, ◌++◌, length, map, Option, None, Some, refl, sym, ap, subst, ◌∙◌}
use Rattle.std.specs.Prelude.{Result, Ok, Err, OnOk, OnErr}
use Rattle.std.proofs.Math.Path.{transport}
use Rattle.std.proofs.lemmas.List.{map-append}
use Rattle.do_tree.specs.Tree.{Script}
use Rattle.line_server.specs.declared.line.Line.{Line}
use Rattle.line_server.specs.declared.out_line.OutLine as out
use Rattle.timeline.specs.Lines as line_of
use Rattle.timeline.specs.Lines.{OutLine}
use Rattle.timeline.specs.Switch as switch
use Rattle.timeline.specs.Switch.{gave, accepts, routes}
use Rattle.timeline.specs.declared.event.Event.{Event}
use Rattle.timeline.specs.declared.message.Message.{Message}
use Rattle.mailbox.specs.declared.fault.SwitchFault.{SwitchFault}
use Rattle.mailbox.specs.declared.fault.SwitchFault.TheVariants.{NoMemory}
use Rattle.mailbox.specs.declared.given.Given.{Given}
use Rattle.mailbox.specs.declared.switch.Switch.{Switch}
use Rattle.mailbox.specs.declared.switch_log.SwitchLog.{SwitchLog}
use Rattle.mailbox.specs.Givens.{AreWithin, IsGiven, lines_in}
use Rattle.mailbox.specs.Left.{seen_left}
use Rattle.mailbox.specs.Posting.{GoesOn}
use Rattle.mailbox.specs.Runs.{Accepts, Begins, BeginsLine, BeginsMessage, Gives, Routes, log_of, state_of, given_by, with_line, with_message}
use Rattle.mailbox.specs.Seen.{seen_line, seen_out, seen_log}
use Rattle.mailbox.proofs.Sendings.{goes_none, goes_all}

-- ---- lists that go on
-- what goes on does so in what is seen of it
pub goes_seen : {X Y : Type 0} (f : X → Y) (old new wanted : List X) → GoesOn old new wanted → GoesOn (map f old) (map f new) (map f wanted)
goes_seen f old new wanted goes = record {
  since = map f goes.since;
  more = ap (map f) goes.more ∙ map-append f old goes.since;
  first = (map f goes.first.0, sym (map-append f goes.since goes.first.0) ∙ ap (map f) goes.first.1);
}

-- one item more, or none
pub goes_one : {X : Type 0} (old new : List X) (x : X) → (new ≡ old) ⊎ (new ≡ old ++ x ∷ []) → GoesOn old new (x ∷ [])
goes_one {X} old new x which = elim which [
  | inl same ↦ subst (λ (l : List X). GoesOn old l (x ∷ [])) (sym same) (goes_none old (x ∷ []))
  | inr more ↦ goes_all old new (x ∷ []) more
]

-- ---- the log of what is given
-- a log whose lists of lines and messages are the same
pub record KeepsRooms (old new : SwitchLog) : Type 0 where
  pub accepted : new.accepted.items ≡ old.accepted.items
  pub routed : new.routed.items ≡ old.routed.items

module _ (old new : SwitchLog) (given : switch.Given) (lines : List out.OutLine) (keeps : KeepsRooms old new) (seen : map seen_out lines ≡ given.lines) where
  -- all of it is logged
  pub log_gave : new.posts.items ≡ old.posts.items ++ given.posts → new.lines.items ≡ old.lines.items ++ lines → seen_log new ≡ gave (seen_log old) given
  log_gave posted printed = λ i. record {
    accepted = map seen_line (keeps.accepted i);
    routed = keeps.routed i;
    posts = posted i;
    lines = printed_seen i;
  }
    where
      printed_seen : map seen_out new.lines.items ≡ map seen_out old.lines.items ++ given.lines
      printed_seen = ap (map seen_out) printed ∙ map-append seen_out old.lines.items lines ∙ ap (λ (l : List OutLine). map seen_out old.lines.items ++ l) seen

  -- the first of it is logged
  pub log_begun : GoesOn old.posts.items new.posts.items given.posts → GoesOn old.lines.items new.lines.items lines → Begins (seen_log old) (seen_log new) given
  log_begun posted printed = record {
    accepted = ap (map seen_line) keeps.accepted;
    routed = keeps.routed;
    posts = posted;
    lines = subst (λ (l : List OutLine). GoesOn (map seen_out old.lines.items) (map seen_out new.lines.items) l) seen
        (goes_seen seen_out old.lines.items new.lines.items lines printed);
  }

-- the line that is given, as a list
abbrev pub line_list : Option out.OutLine → List out.OutLine
line_list None = []
line_list (Some line) = line ∷ []

pub list_seen : (line : Option out.OutLine) → map seen_out (line_list line) ≡ lines_in line
list_seen None = refl
list_seen (Some line) = refl

-- ---- what the code gives is what is wanted
pub begins_as : (old new : switch.SwitchLog) (given wanted : switch.Given) → given.posts ≡ wanted.posts → given.lines ≡ wanted.lines → Begins old new given → Begins old new wanted
begins_as old new given wanted posts lines begun = record {
  accepted = begun.accepted;
  routed = begun.routed;
  posts = subst (λ (l : List (ℕ × Event)). GoesOn old.posts new.posts l) posts begun.posts;
  lines = subst (λ (l : List OutLine). GoesOn old.lines new.lines l) lines begun.lines;
}

pub begins_none : (old : switch.SwitchLog) (given : switch.Given) → Begins old old given
begins_none old given = record { accepted = refl; routed = refl; posts = goes_none old.posts given.posts; lines = goes_none old.lines given.lines }

-- ---- a line or a message is logged behind what it gives
pub pushed_line : (before after : SwitchLog) (line : Line) → after.accepted.items ≡ before.accepted.items ++ line ∷ [] → after ≡ record before { accepted = after.accepted }
    → seen_log after ≡ with_line (seen_log before) line
pushed_line before after line more is =
    ap seen_log is
    ∙ ap (λ (l : List line_of.Line). record (seen_log before) { accepted = l }) (ap (map seen_line) more ∙ map-append seen_line before.accepted.items (line ∷ []))

pub pushed_message : (before after : SwitchLog) (sent : ℕ × Message) → after.routed.items ≡ before.routed.items ++ sent ∷ [] → after ≡ record before { routed = after.routed }
    → seen_log after ≡ with_message (seen_log before) sent
pushed_message before after sent more is = ap seen_log is ∙ ap (λ (l : List (ℕ × Message)). record (seen_log before) { routed = l }) more

module _ (old before new : switch.SwitchLog) (given : switch.Given) where
  pub line_gave : (line : Line) → before ≡ gave old given → new ≡ with_line before line → new ≡ gave (with_line old line) given
  line_gave line gives is = is ∙ ap (λ (l : switch.SwitchLog). with_line l line) gives

  pub message_gave : (sent : ℕ × Message) → before ≡ gave old given → new ≡ with_message before sent → new ≡ gave (with_message old sent) given
  message_gave sent gives is = is ∙ ap (λ (l : switch.SwitchLog). with_message l sent) gives

  pub line_begun : (line : Line) → Begins old before given → new ≡ with_line before line → Begins (with_line old line) new given
  line_begun line begun is = record {
    accepted = ap (λ (l : switch.SwitchLog). l.accepted) is ∙ ap (λ (l : List line_of.Line). l ++ seen_line line ∷ []) begun.accepted;
    routed = ap (λ (l : switch.SwitchLog). l.routed) is ∙ begun.routed;
    posts = subst (λ (l : switch.SwitchLog). GoesOn old.posts l.posts given.posts) (sym is) begun.posts;
    lines = subst (λ (l : switch.SwitchLog). GoesOn old.lines l.lines given.lines) (sym is) begun.lines;
  }

  pub message_begun : (sent : ℕ × Message) → Begins old before given → new ≡ with_message before sent → Begins (with_message old sent) new given
  message_begun sent begun is = record {
    accepted = ap (λ (l : switch.SwitchLog). l.accepted) is ∙ begun.accepted;
    routed = ap (λ (l : switch.SwitchLog). l.routed) is ∙ ap (λ (l : List (ℕ × Message)). l ++ sent ∷ []) begun.routed;
    posts = subst (λ (l : switch.SwitchLog). GoesOn old.posts l.posts given.posts) (sym is) begun.posts;
    lines = subst (λ (l : switch.SwitchLog). GoesOn old.lines l.lines given.lines) (sym is) begun.lines;
  }

-- ---- what is left at the end
pub left_seen : (left : List (ℕ × out.OutLine)) (wanted : List (ℕ × OutLine)) → map seen_left left ≡ wanted → map seen_out (map (λ l. l.1) left) ≡ map (λ l. l.1) wanted
left_seen left wanted is = both left ∙ ap (map (λ l. l.1)) is
  where
    both : (left : List (ℕ × out.OutLine)) → map seen_out (map (λ l. l.1) left) ≡ map (λ l. l.1) (map seen_left left)
    both [] = refl
    both (l ∷ left) = ap (λ (seen : List OutLine). seen_out l.1 ∷ seen) (both left)

-- ---- one call within another
pub then_ok : {T E P Q : Type 0} (r : Result T E) → (P → Q) → OnOk r P → OnOk r Q
then_ok (Ok x) f p = f p
then_ok (Err e) f p = tt

pub then_err : {T E P Q : Type 0} (r : Result T E) → (P → Q) → OnErr r P → OnErr r Q
then_err (Ok x) f p = tt
then_err (Err e) f p = f p

-- the posts are of slots that are there
pub given_within : (given : Given) (wanted : switch.Given) (after : switch.Switch) (count : ℕ) → IsGiven given wanted → after ≡ wanted.after → count ≡ length after.objects
    → AreWithin count given.posts.items
given_within given wanted after count is so many =
    subst (λ (posts : List (ℕ × Event)). AreWithin count posts) (sym is.posts)
    (subst (λ (n : ℕ). AreWithin n wanted.posts) (ap (λ (s : switch.Switch). length s.objects) (sym so) ∙ sym many) is.within)

-- What a line and a message give where the switch goes by this.
abbrev pub given_line : {W : Type 0} → Script → Switch W → Line → switch.Given
given_line script old line = accepts script (state_of old) (seen_line line)

abbrev pub given_message : {W : Type 0} → Script → Switch W → ℕ × Message → switch.Given
given_message script old sent = routes script (state_of old) sent

module _ {W T : Type 0} where
  -- what the code has as given is what is wanted
  pub gives_as : (old begun new : Switch W) (given : Given) (wanted : switch.Given) (r : Result T SwitchFault) → log_of begun ≡ log_of old → state_of begun ≡ wanted.after
      → state_of new ≡ state_of begun → IsGiven given wanted → Gives begun new (given_by (state_of begun) given) r → Gives old new wanted r
  gives_as old begun new given wanted r same so still is gives = record {
    log = then_ok r (λ logged. logged ∙ all) gives.log;
    state = then_ok r (λ _. still ∙ so) gives.state;
    begun = then_err r (λ first. begins_as (log_of old) (log_of new) (given_by (state_of begun) given) wanted is.posts is.lines
        (subst (λ (log : switch.SwitchLog). Begins log (log_of new) (given_by (state_of begun) given)) same first)) gives.begun;
  }
    where
      all : gave (log_of begun) (given_by (state_of begun) given) ≡ gave (log_of old) wanted
      all = λ i. record (same i) { posts = (same i).posts ++ is.posts i; lines = (same i).lines ++ is.lines i }

  module _ (script : Script) (old begun served new : Switch W) (same : log_of begun ≡ log_of old) (still : state_of new ≡ state_of served) where
    module _ (line : Line) (pushed : log_of new ≡ with_line (log_of served) line) where
      pub accepts_so : (r : Result T SwitchFault) → Gives begun served (given_line script old line) r → OnOk r (Accepts script old new line)
      accepts_so (Ok x) gives = record {
        log = line_gave (log_of old) (log_of served) (log_of new) (given_line script old line) line (gives.log ∙ ap (λ (log : switch.SwitchLog). gave log (given_line script old line)) same) pushed;
        state = still ∙ gives.state;
      }
      accepts_so (Err fault) gives = tt

      pub begins_line_so : (r : Result T SwitchFault) → Gives begun served (given_line script old line) r
          → OnErr r (BeginsLine script old new line ⊎ (log_of new ≡ log_of old) × (r ≡ Err NoMemory))
      begins_line_so (Ok x) gives = tt
      begins_line_so (Err fault) gives = inl (line_begun (log_of old) (log_of served) (log_of new) (given_line script old line) line
          (subst (λ (log : switch.SwitchLog). Begins log (log_of served) (given_line script old line)) same gives.begun) pushed)

    module _ (sent : ℕ × Message) (pushed : log_of new ≡ with_message (log_of served) sent) where
      pub routes_so : (r : Result T SwitchFault) → Gives begun served (given_message script old sent) r → OnOk r (Routes script old new sent)
      routes_so (Ok x) gives = record {
        log = message_gave (log_of old) (log_of served) (log_of new) (given_message script old sent) sent (gives.log ∙ ap (λ (log : switch.SwitchLog). gave log (given_message script old sent)) same) pushed;
        state = still ∙ gives.state;
      }
      routes_so (Err fault) gives = tt

      pub begins_message_so : (r : Result T SwitchFault) → Gives begun served (given_message script old sent) r → OnErr r (BeginsMessage script old new sent)
      begins_message_so (Ok x) gives = tt
      begins_message_so (Err fault) gives = message_begun (log_of old) (log_of served) (log_of new) (given_message script old sent) sent
          (subst (λ (log : switch.SwitchLog). Begins log (log_of served) (given_message script old sent)) same gives.begun) pushed

-- ---- a message before whose step nothing was done but to make room
module _ {W : Type 0} (script : Script) (old begun new : Switch W) (same : log_of begun ≡ log_of old) (still : state_of begun ≡ state_of old) (sent : ℕ × Message) where
  pub routes_from : Routes script begun new sent → Routes script old new sent
  routes_from did = record {
    log = did.log ∙ (λ i. gave (with_message (same i) sent) (routes script (still i) sent));
    state = did.state ∙ ap (λ (s : switch.Switch). (routes script s sent).after) still;
  }

  pub begins_message_from : BeginsMessage script begun new sent → BeginsMessage script old new sent
  begins_message_from begins = transport (λ i. Begins (with_message (same i) sent) (log_of new) (routes script (still i) sent)) begins
