-- One item more of an intake, and what was logged of it.
use Rattle.std.proofs.Common.{◌≡◌, ◌∙◌, sym, ap, subst, ℕ, ◌+◌, List, [], ◌∷◌, ◌++◌, length, append_assoc, append-nil}
use Rattle.timeline.specs.Headline.{IsPrefix}
use Rattle.timeline.specs.Intake.{Kind, Front, Taken, takes, front_after, numbered, entries_of, closed_by, sent_by, logged, delivered_by, delivered_in, downed_by, downed_in, ends_by, ends_in, MayTake}
use Rattle.timeline.specs.Logs.{Fronted}
use Rattle.timeline.specs.declared.caller.Cause.{Cause}
use Rattle.timeline.specs.declared.entry.Body.{Body}
use Rattle.timeline.specs.declared.entry.Entry.{Entry}
use Rattle.timeline.specs.declared.event.Event.{Event}
use Rattle.front_half.specs.Standing.{IsTakenBy, IsCutShort}
use Rattle.front_half.proofs.Intakes.{front_after-snoc, intake-snoc, numbered-append, sent_before, sent_by-split, before-snoc}

logged-snoc : {X : Type 0} (by : Front → Taken → List X) (k : Kind) (f : Front) (taken : List Taken) (t : Taken)
    → logged by k f (taken ++ t ∷ []) ≡ logged by k f taken ++ by (front_after k f taken) t
logged-snoc by k f [] t = append-nil (by f t)
logged-snoc {X} by k f (u ∷ taken) t = ap (λ (xs : List X). by f u ++ xs) (logged-snoc by k (takes k f u) taken t) ∙ sym (append_assoc (by f u) _ _)

-- What an item adds to what was sent: where it closes an incarnation the entries of the next one, and else what is said then, numbered on.
pub record Adds (k : Kind) (f : Front) (t : Taken) (more : List Entry) : Type 0 where
  pub adds : entries_of f ++ more ≡ closed_by f f.mode t ++ entries_of (takes k f t)

pub adds_on : (k : Kind) (f : Front) (t : Taken) (new : List Body) → (takes k f t).incarnation ≡ f.incarnation → (takes k f t).said ≡ f.said ++ new
    → closed_by f f.mode t ≡ [] → Adds k f t (numbered f.incarnation (1 + length f.said) new)
adds_on k f t new same said none = record {
  adds = sym (numbered-append f.incarnation 1 f.said new) ∙ ap (numbered f.incarnation 1) (sym said)
      ∙ ap (λ (i : ℕ). numbered i 1 (takes k f t).said) (sym same)
      ∙ ap (λ (es : List Entry). es ++ entries_of (takes k f t)) (sym none);
}

pub adds_closed : (k : Kind) (f : Front) (t : Taken) → closed_by f f.mode t ≡ entries_of f → Adds k f t (entries_of (takes k f t))
adds_closed k f t closes = record { adds = ap (λ (es : List Entry). es ++ entries_of (takes k f t)) (sym closes) }

sent_by-snoc : (k : Kind) (from : Front) (taken : List Taken) (t : Taken) (f : Front) (more : List Entry) → front_after k from taken ≡ f → Adds k f t more
    → sent_by k from (taken ++ t ∷ []) ≡ sent_by k from taken ++ more
sent_by-snoc k from taken t f more at adds = let before : List Entry = sent_before k from taken in
    sent_by-split k from (taken ++ t ∷ [])
    ∙ ap (λ (g : Front). sent_before k from (taken ++ t ∷ []) ++ entries_of g) (front_after-snoc k from taken t)
    ∙ ap (λ (es : List Entry). es ++ entries_of (takes k (front_after k from taken) t)) (before-snoc k from taken t)
    ∙ ap (λ (g : Front). (before ++ closed_by g g.mode t) ++ entries_of (takes k g t)) at
    ∙ append_assoc before (closed_by f f.mode t) (entries_of (takes k f t))
    ∙ ap (λ (es : List Entry). before ++ es) (sym adds.adds)
    ∙ sym (append_assoc before (entries_of f) more)
    ∙ ap (λ (g : Front). (before ++ entries_of g) ++ more) (sym at)
    ∙ ap (λ (es : List Entry). es ++ more) (sym (sent_by-split k from taken))

-- What was logged of an item.
pub record Logs (f : Front) (t : Taken) (more : List Entry) (old new : Fronted) : Type 0 where
  pub sent : new.sent ≡ old.sent ++ more
  pub delivered : new.delivered ≡ old.delivered ++ delivered_by f.incarnation t
  pub downed : new.downed ≡ old.downed ++ downed_by f.incarnation f.mode t
  pub ends : new.ends ≡ old.ends ++ ends_by f.mode t

pub takes_one : (k : Kind) (from : Front) (taken : List Taken) (t : Taken) (f : Front) (more : List Entry) (old new : Fronted)
    → MayTake f t → Adds k f t more → Logs f t more old new → IsTakenBy k from taken f old → IsTakenBy k from (taken ++ t ∷ []) (takes k f t) new
takes_one k from taken t f more old new may adds logs is = record {
  at = front_after-snoc k from taken t ∙ ap (λ (g : Front). takes k g t) is.at;
  gate = intake-snoc k from taken t is.gate (subst (λ (g : Front). MayTake g t) (sym is.at) may);
  sent = logs.sent ∙ ap (λ (es : List Entry). es ++ more) is.sent ∙ sym (sent_by-snoc k from taken t f more is.at adds);
  delivered = logs.delivered ∙ ap (λ (xs : List (ℕ × Event)). xs ++ delivered_by f.incarnation t) is.delivered
      ∙ ap (λ (g : Front). delivered_in k from taken ++ delivered_by g.incarnation t) (sym is.at)
      ∙ sym (logged-snoc (λ g u. delivered_by g.incarnation u) k from taken t);
  downed = logs.downed ∙ ap (λ (xs : List (ℕ × Event)). xs ++ downed_by f.incarnation f.mode t) is.downed
      ∙ ap (λ (g : Front). downed_in k from taken ++ downed_by g.incarnation g.mode t) (sym is.at)
      ∙ sym (logged-snoc (λ g u. downed_by g.incarnation g.mode u) k from taken t);
  ends = logs.ends ∙ ap (λ (xs : List Cause). xs ++ ends_by f.mode t) is.ends
      ∙ ap (λ (g : Front). ends_in k from taken ++ ends_by g.mode t) (sym is.at)
      ∙ sym (logged-snoc (λ g u. ends_by g.mode u) k from taken t);
}

-- The same where only the first entries were sent.
pub record LogsFirst (f : Front) (t : Taken) (more : List Entry) (old new : Fronted) : Type 0 where
  pub sent : IsPrefix new.sent (old.sent ++ more)
  pub delivered : new.delivered ≡ old.delivered ++ delivered_by f.incarnation t
  pub downed : new.downed ≡ old.downed ++ downed_by f.incarnation f.mode t
  pub ends : new.ends ≡ old.ends ++ ends_by f.mode t

pub cuts_one : (k : Kind) (from : Front) (taken : List Taken) (t : Taken) (f : Front) (more : List Entry) (old new : Fronted)
    → MayTake f t → Adds k f t more → LogsFirst f t more old new → IsTakenBy k from taken f old → IsCutShort k from (taken ++ t ∷ []) new
cuts_one k from taken t f more old new may adds logs is = record {
  gate = intake-snoc k from taken t is.gate (subst (λ (g : Front). MayTake g t) (sym is.at) may);
  sent = subst (λ (all : List Entry). IsPrefix new.sent all)
      (ap (λ (es : List Entry). es ++ more) is.sent ∙ sym (sent_by-snoc k from taken t f more is.at adds)) logs.sent;
  delivered = logs.delivered ∙ ap (λ (xs : List (ℕ × Event)). xs ++ delivered_by f.incarnation t) is.delivered
      ∙ ap (λ (g : Front). delivered_in k from taken ++ delivered_by g.incarnation t) (sym is.at)
      ∙ sym (logged-snoc (λ g u. delivered_by g.incarnation u) k from taken t);
  downed = logs.downed ∙ ap (λ (xs : List (ℕ × Event)). xs ++ downed_by f.incarnation f.mode t) is.downed
      ∙ ap (λ (g : Front). downed_in k from taken ++ downed_by g.incarnation g.mode t) (sym is.at)
      ∙ sym (logged-snoc (λ g u. downed_by g.incarnation g.mode u) k from taken t);
  ends = logs.ends ∙ ap (λ (xs : List Cause). xs ++ ends_by f.mode t) is.ends
      ∙ ap (λ (g : Front). ends_in k from taken ++ ends_by g.mode t) (sym is.at)
      ∙ sym (logged-snoc (λ g u. ends_by g.mode u) k from taken t);
}
