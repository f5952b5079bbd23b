-- What one item more that a front takes adds to its logs.
use Rattle.std.proofs.Common.{◌≡◌, ◌∙◌, sym, refl, ap, ℕ, suc, ◌+◌, List, [], ◌∷◌, ◌++◌, length, append_assoc, append-nil, arith}
use Rattle.timeline.specs.Intake.{Kind, life, Front, Mode, serves, down, Taken, delivered, noticed, wanted, takes, front_after, resets, down_replies, numbered, entries_of, closed_by, sent_by, logged, delivered_by, downed_by, ends_by}
use Rattle.timeline.specs.Logs.{Fronted}
use Rattle.timeline.specs.Object.{idle, waiting, ended}
use Rattle.timeline.specs.Steps.{delivers}
use Rattle.timeline.specs.Told.{asking}
use Rattle.timeline.specs.declared.caller.Cause.{Cause}
use Rattle.timeline.specs.declared.entry.Body.{Body}
use Rattle.timeline.specs.declared.entry.Body.TheVariants as body
use Rattle.timeline.specs.declared.entry.Entry.{Entry}
use Rattle.timeline.specs.declared.event.Event.{Event}
use Rattle.timeline.specs.declared.notice.Notice.TheVariants as notice
use Rattle.object_history.specs.Stepping.{IsLogOf, Grows, said_before}

-- Entries behind others are numbered on.
pub numbered_on : (i number next : ℕ) (said more : List Body) → next ≡ number + length said
    → numbered i number (said ++ more) ≡ numbered i number said ++ numbered i next more
numbered_on i number next [] more is = ap (λ (n : ℕ). numbered i n more) (omega (arith, is))
numbered_on i number next (b ∷ said) more is =
    ap (λ (x : List Entry). record { incarnation = i; number = number; body = b } ∷ x) (numbered_on i (suc number) next said more (omega (arith, is)))

-- So are those behind all that an incarnation has said.
pub numbered_behind : (i : ℕ) (said more : List Body) → numbered i 1 (said ++ more) ≡ numbered i 1 said ++ numbered i (suc (length said)) more
numbered_behind i said more = numbered_on i 1 (suc (length said)) said more (omega arith)

-- What an item makes a front say behind what was said before, with the entries that it sent: those of an incarnation that it closes,
-- and those of the one in which it then is.
record Adds (i : ℕ) (closed entries : List Entry) (before new : List Body) : Type 0 where
  more : List Body
  said : new ≡ before ++ more
  sent : closed ++ numbered i 1 new ≡ entries ++ numbered i (suc (length before)) more

-- Nothing is said, something is, a step's part and the entry that is waited for, or an incarnation begins.
stays : (i : ℕ) (said : List Body) → Adds i [] (numbered i 1 said) said said
stays i said = record { more = []; said = sym (append-nil said); sent = sym (append-nil (numbered i 1 said)) }

-- Something is said.
says : (i : ℕ) (said more : List Body) → Adds i [] (numbered i 1 said) said (said ++ more)
says i said more = record { more = more; said = refl; sent = numbered_behind i said more }

-- A step says its part, and the entry that is waited for.
steps : (i : ℕ) (said told asked : List Body) → Adds i [] (numbered i 1 said) said ((said ++ told) ++ asked)
steps i said told asked = record {
  more = told ++ asked;
  said = append_assoc said told asked;
  sent = ap (λ (bodies : List Body). numbered i 1 bodies) (append_assoc said told asked) ∙ numbered_behind i said (told ++ asked);
}

-- An incarnation begins.
anew : (j : ℕ) (entries : List Entry) (new : List Body) → Adds j entries entries [] new
anew j entries new = record { more = new; said = refl; sent = refl }

-- Each item does one of these.
item_adds : (k : Kind) (i : ℕ) (es : List Event) (said : List Body) (mode : Mode) (t : Taken)
    → let f : Front = record { incarnation = i; events = es; said = said; mode = mode } in
    Adds (takes k f t).incarnation (closed_by f f.mode t) (entries_of f) (said_before f f.mode t) (takes k f t).said
item_adds k i es said (serves (idle o)) (delivered e) = let step = delivers (life k i) o e in steps i said step.says (asking step.state)
item_adds k i es said (serves (waiting o u b)) (delivered e) = stays i said
item_adds k i es said (serves (ended c)) (delivered e) = stays i said
item_adds k i es said (down call) (delivered e) = stays i said
item_adds k i es said (serves state) (wanted e) = says i said (body.Mend ∷ [])
item_adds k i es said (down call) (wanted e) = says i said (body.Mend ∷ [])
item_adds k i es said (serves state) (noticed (notice.Fresh incarnation alarm cause)) =
    anew (suc i) (numbered i 1 said) (resets (record { incarnation = i; events = es; said = said; mode = serves state }) cause)
item_adds k i es said (down call) (noticed (notice.Fresh incarnation alarm cause)) = stays i said
item_adds k i es said (serves state) (noticed (notice.Down cause before after)) =
    anew (suc i) (numbered i 1 said) (resets (record { incarnation = i; events = es; said = said; mode = serves state }) cause)
item_adds k i es said (down call) (noticed (notice.Down cause before after)) = says i said (down_replies call before after)
item_adds k i es said (serves (waiting o u b)) (noticed (notice.Read number r)) = steps i said _ _
item_adds k i es said (serves (waiting o u b)) (noticed (notice.Taken number count)) = steps i said _ _
item_adds k i es said (serves (waiting o u b)) (noticed (notice.Synced number)) = steps i said _ _
item_adds k i es said (serves (idle o)) (noticed (notice.Read number r)) = stays i said
item_adds k i es said (serves (idle o)) (noticed (notice.Taken number count)) = stays i said
item_adds k i es said (serves (idle o)) (noticed (notice.Synced number)) = stays i said
item_adds k i es said (serves (ended c)) (noticed (notice.Read number r)) = stays i said
item_adds k i es said (serves (ended c)) (noticed (notice.Taken number count)) = stays i said
item_adds k i es said (serves (ended c)) (noticed (notice.Synced number)) = stays i said
item_adds k i es said (down call) (noticed (notice.Read number r)) = stays i said
item_adds k i es said (down call) (noticed (notice.Taken number count)) = stays i said
item_adds k i es said (down call) (noticed (notice.Synced number)) = stays i said

-- A front that takes one more, and what is logged of it.
after_last : (k : Kind) (f : Front) (taken : List Taken) (t : Taken) → front_after k f (taken ++ t ∷ []) ≡ takes k (front_after k f taken) t
after_last k f [] t = refl
after_last k f (first ∷ taken) t = after_last k (takes k f first) taken t

-- What is logged of one item more stands behind what was logged.
logged_last : {X : Type 0} (by : Front → Taken → List X) (k : Kind) (f : Front) (taken : List Taken) (t : Taken)
    → logged by k f (taken ++ t ∷ []) ≡ logged by k f taken ++ by (front_after k f taken) t
logged_last {X} by k f [] t = append-nil (by f t)
logged_last {X} by k f (first ∷ taken) t =
    ap (λ (rest : List X). by f first ++ rest) (logged_last by k (takes k f first) taken t)
    ∙ sym (append_assoc (by f first) (logged by k (takes k f first) taken) (by (front_after k (takes k f first) taken) t))

-- The entries of the incarnations that an intake has closed, and then those of the one in which it leaves the front.
abbrev closes : Front → Taken → List Entry
closes f t = closed_by f f.mode t

-- All that is sent is these.
sent_is : (k : Kind) (f : Front) (taken : List Taken) → sent_by k f taken ≡ logged closes k f taken ++ entries_of (front_after k f taken)
sent_is k f [] = refl
sent_is k f (t ∷ taken) =
    ap (λ (rest : List Entry). closes f t ++ rest) (sent_is k (takes k f t) taken)
    ∙ sym (append_assoc (closes f t) (logged closes k (takes k f t) taken) (entries_of (front_after k (takes k f t) taken)))

-- The logs of an intake with one item more.
pub logs_grow : (k : Kind) (from : Front) (taken : List Taken) (t : Taken) (old new : Fronted) → IsLogOf k from taken old → IsLogOf k from (taken ++ t ∷ []) new
    → Grows k (front_after k from taken) t old new
logs_grow k from taken t old new before after =
    let f = front_after k from taken in
    let adds = item_adds k f.incarnation f.events f.said f.mode t in
    let more : List Entry = numbered (takes k f t).incarnation (suc (length (said_before f f.mode t))) adds.more in
    let closed : List Entry = logged closes k from taken in
    record {
      more = adds.more;
      said = adds.said;
      sent =
          after.sent
          ∙ sent_is k from (taken ++ t ∷ [])
          ∙ ap (λ (x : List Entry). x ++ entries_of (front_after k from (taken ++ t ∷ []))) (logged_last closes k from taken t)
          ∙ ap (λ (g : Front). (closed ++ closes f t) ++ entries_of g) (after_last k from taken t)
          ∙ append_assoc closed (closes f t) (entries_of (takes k f t))
          ∙ ap (λ (x : List Entry). closed ++ x) adds.sent
          ∙ sym (append_assoc closed (entries_of f) more)
          ∙ ap (λ (x : List Entry). x ++ more) (sym (before.sent ∙ sent_is k from taken));
      delivered =
          after.delivered
          ∙ logged_last (λ (g : Front) (item : Taken). delivered_by g.incarnation item) k from taken t
          ∙ ap (λ (x : List (ℕ × Event)). x ++ delivered_by f.incarnation t) (sym before.delivered);
      downed =
          after.downed
          ∙ logged_last (λ (g : Front) (item : Taken). downed_by g.incarnation g.mode item) k from taken t
          ∙ ap (λ (x : List (ℕ × Event)). x ++ downed_by f.incarnation f.mode t) (sym before.downed);
      ends =
          after.ends
          ∙ logged_last (λ (g : Front) (item : Taken). ends_by g.mode item) k from taken t
          ∙ ap (λ (x : List Cause). x ++ ends_by f.mode t) (sym before.ends);
    }
