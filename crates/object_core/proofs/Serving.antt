-- Who called an object at rest got one reply or is left: by what its front took, what its back took and let go, and what the front got and keeps.
use Rattle.std.proofs.Common.{◌≡◌, ◌≤◌, ◌∙◌, ap, sym, subst, inl, inr, ℕ, suc, ◌+◌, ℤ, arith, List, [], ◌∷◌, ◌++◌, length, cond, Option}
use Rattle.std.proofs.lemmas.Grind.{flat_map-append}
use Rattle.std.proofs.lemmas.List.Elements.{All-from_recursion, Contains-append_cases, Contains-append_left, Contains-append_right, Contains-push, Contains-push_cases}
use Rattle.std.proofs.lemmas.List.Sorted.{Contains-permutation, IsPermutation-sym, sum_by-IsPermutation}
use Rattle.std.proofs.lemmas.List.Sums.{sum_by-append}
use Rattle.std.specs.List.{AllByRecursion, Contains, filter, flat_map, list_any}
use Rattle.std.specs.Prelude.{Bool, true, false, not, IsPermutation}
use Rattle.timeline.specs.History.{history}
use Rattle.timeline.specs.Intake.{Front, Kind, Mode, Taken, closed_by, delivered, noticed, wanted, delivered_in, down, downed_in, front_after, numbered, opened, sent_by, serves, takes}
use Rattle.timeline.specs.Logs.{Backed, Fronted}
use Rattle.timeline.specs.Object.{idle, waiting}
use Rattle.timeline.specs.Passed.{passed}
use Rattle.timeline.specs.Replies.{answered_by, caller_of, same_caller, unanswered}
use Rattle.timeline.specs.declared.caller.Caller.{Caller}
use Rattle.timeline.specs.declared.entry.Body.{Body}
use Rattle.timeline.specs.declared.entry.Entry.{Entry}
use Rattle.timeline.specs.declared.event.Event.{Event}
use Rattle.timeline.specs.declared.message.Message.{Message as Sent}
use Rattle.timeline.specs.declared.notice.Notice.TheVariants as notice
use Rattle.timeline.specs.declared.notice.Waits.{Waits}
use Rattle.object_front.specs.Came.{AreCome, events}
use Rattle.front_half.specs.Standing.{IsTakenBy}
use Rattle.object_messages.proofs.Counts.{times-append, times-flat_map}
use Rattle.object_messages.proofs.Exactly.{replies_exact}
use Rattle.object_messages.proofs.FrontsWhose.{replies_name}
use Rattle.object_messages.proofs.Passing.{passed_all}
use Rattle.object_messages.proofs.PassedNaming.{passed_named}
use Rattle.object_messages.specs.Exact.{IsServedOnce, callers}
use Rattle.object_messages.specs.Laws.{gone}
use Rattle.object_messages.specs.Naming.{called_in, messages_of, replied_in, times}

-- An incarnation's entries are of it, and those of a front are of the incarnations up to its own.
abbrev AreOf : (least most : ℕ) → List Entry → Type 0
AreOf least most entries = AllByRecursion (λ (e : Entry). (least ≤ e.incarnation) × (e.incarnation ≤ most)) entries

more_of : (least most : ℕ) (xs ys : List Entry) → AreOf least most xs → AreOf least most ys → AreOf least most (xs ++ ys)
more_of least most [] ys one other = other
more_of least most (x ∷ xs) ys one other = (one.0, more_of least most xs ys one.1 other)

numbered_of : (least most incarnation number : ℕ) (bodies : List Body) → least ≤ incarnation → incarnation ≤ most → AreOf least most (numbered incarnation number bodies)
numbered_of least most incarnation number [] above below = tt
numbered_of least most incarnation number (b ∷ bodies) above below = ((above, below), numbered_of least most incarnation (suc number) bodies above below)

-- an item leads on
pub takes_on : (k : Kind) (i : ℕ) (es : List Event) (said : List Body) (mode : Mode) (t : Taken)
    → i ≤ (takes k (record { incarnation = i; events = es; said = said; mode = mode }) t).incarnation
takes_on k i es said (serves (idle o)) (delivered e) = omega arith
takes_on k i es said (serves (waiting o t b)) (noticed (notice.Read number r)) = omega arith
takes_on k i es said (serves (waiting o t b)) (noticed (notice.Taken number count)) = omega arith
takes_on k i es said (serves (waiting o t b)) (noticed (notice.Synced number)) = omega arith
takes_on k i es said (serves state) (noticed (notice.Fresh incarnation alarm cause)) = omega arith
takes_on k i es said (serves state) (noticed (notice.Down cause before after)) = omega arith
takes_on k i es said (down call) (noticed (notice.Fresh incarnation alarm cause)) = omega arith
takes_on k i es said (down call) (noticed (notice.Down cause before after)) = omega arith
takes_on k i es said mode (wanted e) = omega arith
takes_on k i es said mode t = omega arith

pub after_on : (k : Kind) (taken : List Taken) (f : Front) → f.incarnation ≤ (front_after k f taken).incarnation
after_on k [] f = omega arith
after_on k (t ∷ taken) f = omega (arith, takes_on k f.incarnation f.events f.said f.mode t, after_on k taken (takes k f t))

closed_of : (least most : ℕ) (f : Front) (mode : Mode) (t : Taken) → least ≤ f.incarnation → f.incarnation ≤ most → AreOf least most (closed_by f mode t)
closed_of least most f (serves state) (noticed (notice.Fresh incarnation alarm cause)) above below = numbered_of least most f.incarnation 1 f.said above below
closed_of least most f (serves state) (noticed (notice.Down cause before after)) above below = numbered_of least most f.incarnation 1 f.said above below
closed_of least most f mode t above below = tt

sent_of : (k : Kind) (taken : List Taken) (f : Front) (least : ℕ) → least ≤ f.incarnation → AreOf least (front_after k f taken).incarnation (sent_by k f taken)
sent_of k [] f least above = numbered_of least f.incarnation f.incarnation 1 f.said above (omega arith)
sent_of k (t ∷ taken) f least above =
    let on = takes_on k f.incarnation f.events f.said f.mode t in
    let most = (front_after k (takes k f t) taken).incarnation in
    more_of least most (closed_by f f.mode t) (sent_by k (takes k f t) taken)
    (closed_of least most f f.mode t above (omega (arith, on, after_on k taken (takes k f t))))
    (sent_of k taken (takes k f t) least (omega (arith, above, on)))

-- What one of some items names, they name; and the other way.
pub named_by : {X Y : Type 0} (f : X → List Y) (xs : List X) (y : Y) → Contains (flat_map f xs) y → (x : X) × Contains xs x × Contains (f x) y
named_by f [] y is = absurd (omega (arith, is.1))
named_by f (x ∷ xs) y is =
    elim (Contains-append_cases (f x) (flat_map f xs) y is) [
      | inl here ↦ (x, Contains-append_left (x ∷ []) xs x (Contains-push [] x), here)
      | inr later ↦ let rest = named_by f xs y later in (rest.0, Contains-append_right (x ∷ []) xs rest.0 rest.1, rest.2)
    ]

pub names_by : {X Y : Type 0} (f : X → List Y) (xs : List X) (x : X) (y : Y) → Contains xs x → Contains (f x) y → Contains (flat_map f xs) y
names_by f [] x y there is = absurd (omega (arith, there.1))
names_by {X} {Y} f (z ∷ xs) x y there is =
    elim (Contains-append_cases (z ∷ []) xs x there) [
      | inl here ↦ Contains-append_left (f z) (flat_map f xs) y (subst (λ (v : X). Contains (f v) y) (sym (one_of z x here)) is)
      | inr later ↦ Contains-append_right (f z) (flat_map f xs) y (names_by f xs x y later is)
    ]
  where
    one_of : (a b : X) → Contains (a ∷ []) b → a ≡ b
    one_of a b only =
        elim (Contains-push_cases [] a b only) [
          | inl none ↦ absurd (omega (arith, none.1))
          | inr same ↦ same
        ]

-- Who called by some events called by the same in another order.
called_among : (xs ys : List Event) (c : Caller) → IsPermutation xs ys → Contains (called_in xs) c → Contains (called_in ys) c
called_among xs ys c same is =
    let found = named_by caller_of xs c is in names_by caller_of ys found.0 c (Contains-permutation xs ys found.0 same found.1) found.2

-- Who passes a test among callers is one of them.
some_are : (p : Caller → Bool) (xs : List Caller) (c : Caller) → Contains (filter p xs) c → Contains xs c
some_are p [] c is = is
some_are p (x ∷ xs) c is = by_kept (p x) is (some_are p xs c)
  where
    by_kept : (b : Bool) → Contains (cond b (x ∷ filter p xs) (filter p xs)) c → (Contains (filter p xs) c → Contains xs c) → Contains (x ∷ xs) c
    by_kept false there rest = Contains-append_right (x ∷ []) xs c (rest there)
    by_kept true there rest =
        elim (Contains-append_cases (x ∷ []) (filter p xs) c there) [
          | inl here ↦ Contains-append_left (x ∷ []) xs c here
          | inr later ↦ Contains-append_right (x ∷ []) xs c (rest later)
        ]

module _ (k : Kind) (alarm : Option (ℤ × ℕ)) (taken : List Taken) (front : Front) (log : Fronted) (by : IsTakenBy k (opened alarm) taken front log)
    (back : Backed) (taken_is : back.taken ≡ log.sent) (newest : front.incarnation ≡ suc (length back.stops))
    (left_messages : List Sent) (gone_is : left_messages ≡ gone (passed (history log back)))
    (got keeps : List Event) (come : AreCome got log keeps []) (none_dropped : called_in log.dropped ≡ [])
    (own : (c : Caller) → Contains (called_in front.events) c → Contains (called_in (events log.delivered)) c)
    (left : List (Caller × Waits)) (left_is : callers left ≡ unanswered front.events front.said ++ called_in keeps) where
  abbrev served : List Event
  served = events log.delivered ++ events log.downed

  abbrev all : List Event
  all = events log.delivered ++ (events log.downed ++ (log.dropped ++ (keeps ++ [])))

  -- What was taken is of the incarnations that there are.
  within : AreOf 1 (suc (length back.stops)) back.taken
  within =
      subst (AreOf 1 (suc (length back.stops))) (sym (taken_is ∙ by.sent))
      (subst (λ (most : ℕ). AreOf 1 most (sent_by k (opened alarm) taken)) (ap (λ (f : Front). f.incarnation) by.at ∙ newest)
      (sent_of k taken (opened alarm) 1 (omega arith)))

  -- Callers among all that was got.
  called_all : (c : Caller) → times c (called_in got) ≡ times c (called_in served) + times c (called_in keeps)
  called_all c =
      let calls : Event → ℕ = λ e. times c (caller_of e) in
      omega (
        arith,
        times-flat_map c caller_of got,
        sum_by-IsPermutation calls got all come.each,
        sum_by-append calls (events log.delivered) (events log.downed ++ (log.dropped ++ (keeps ++ []))),
        sum_by-append calls (events log.downed) (log.dropped ++ (keeps ++ [])),
        sum_by-append calls log.dropped (keeps ++ []),
        sum_by-append calls keeps [],
        times-flat_map c caller_of served,
        sum_by-append calls (events log.delivered) (events log.downed),
        times-flat_map c caller_of keeps,
        times-flat_map c caller_of log.dropped,
        ap (times c) none_dropped,
      )

  -- Those that were delivered or answered by `Down`, as the items have them.
  served_is : called_in served ≡ called_in (events (delivered_in k (opened alarm) taken) ++ events (downed_in k (opened alarm) taken))
  served_is =
      ap (λ (items : List (ℕ × Event)). called_in (events items ++ events log.downed)) by.delivered
      ∙ ap (λ (items : List (ℕ × Event)). called_in (events (delivered_in k (opened alarm) taken) ++ events items)) by.downed

  taken_sent : replied_in (messages_of back.taken) ≡ replied_in (messages_of (sent_by k (opened alarm) taken))
  taken_sent = ap (λ (entries : List Entry). replied_in (messages_of entries)) (taken_is ∙ by.sent)

  served_exact : (c : Caller) → times c (called_in served) ≤ 1
      → times c (replied_in left_messages) + times c (unanswered front.events front.said) ≡ times c (called_in served)
  served_exact c once =
      let counted : ℕ = times c (called_in served) in
      omega (
        arith,
        replies_exact k alarm taken by.gate c (subst (λ (cs : List Caller). times c cs ≤ 1) served_is once),
        ap (times c) served_is,
        ap (times c) taken_sent,
        passed_all log back (All-from_recursion (λ (e : Entry). (1 ≤ e.incarnation) × (e.incarnation ≤ suc (length back.stops))) back.taken within) c,
        ap (λ (ms : List Sent). times c (replied_in ms)) gone_is,
        ap (λ (f : Front). times c (unanswered f.events f.said)) by.at,
      )

  exact : (c : Caller) → times c (called_in got) ≤ 1 → times c (replied_in left_messages) + times c (callers left) ≡ times c (called_in got)
  exact c once =
      omega (
        arith,
        called_all c,
        served_exact c (omega (arith, once, called_all c)),
        ap (times c) left_is,
        times-append c (unanswered front.events front.said) (called_in keeps),
      )

  -- Who is served or kept called by what was got.
  served_got : (c : Caller) → Contains (called_in served) c → Contains (called_in got) c
  served_got c is =
      called_among all got c (IsPermutation-sym got all come.each)
      (elim (Contains-append_cases (called_in (events log.delivered)) (called_in (events log.downed)) c
      (subst (λ (cs : List Caller). Contains cs c) (flat_map-append caller_of (events log.delivered) (events log.downed)) is)) [
        | inl first ↦ subst (λ (cs : List Caller). Contains cs c) (sym (flat_map-append caller_of (events log.delivered) (events log.downed ++ (log.dropped ++ (keeps ++ [])))))
            (Contains-append_left (called_in (events log.delivered)) (called_in (events log.downed ++ (log.dropped ++ (keeps ++ [])))) c first)
        | inr later ↦ subst (λ (cs : List Caller). Contains cs c) (sym (flat_map-append caller_of (events log.delivered) (events log.downed ++ (log.dropped ++ (keeps ++ [])))))
            (Contains-append_right (called_in (events log.delivered)) (called_in (events log.downed ++ (log.dropped ++ (keeps ++ [])))) c
            (subst (λ (cs : List Caller). Contains cs c) (sym (flat_map-append caller_of (events log.downed) (log.dropped ++ (keeps ++ []))))
            (Contains-append_left (called_in (events log.downed)) (called_in (log.dropped ++ (keeps ++ []))) c later)))
      ])

  delivered_got : (c : Caller) → Contains (called_in (events log.delivered)) c → Contains (called_in got) c
  delivered_got c is =
      served_got c
      (subst (λ (cs : List Caller). Contains cs c) (sym (flat_map-append caller_of (events log.delivered) (events log.downed)))
      (Contains-append_left (called_in (events log.delivered)) (called_in (events log.downed)) c is))

  kept_got : (c : Caller) → Contains (called_in keeps) c → Contains (called_in got) c
  kept_got c is =
      let found = named_by caller_of keeps c is in
      called_among all got c (IsPermutation-sym got all come.each)
      (names_by caller_of all found.0 c
      (Contains-append_right (events log.delivered) (events log.downed ++ (log.dropped ++ (keeps ++ []))) found.0
      (Contains-append_right (events log.downed) (log.dropped ++ (keeps ++ [])) found.0
      (Contains-append_right log.dropped (keeps ++ []) found.0 (Contains-append_left keeps [] found.0 found.1)))) found.2)

  replied_got : (c : Caller) → Contains (replied_in left_messages) c → Contains (called_in got) c
  replied_got c is =
      let taken_so = passed_named log back c (subst (λ (ms : List Sent). Contains (replied_in ms) c) gone_is is) in
      served_got c
      (subst (λ (cs : List Caller). Contains cs c) (sym served_is)
      (replies_name k alarm taken c (subst (λ (cs : List Caller). Contains cs c) taken_sent taken_so)))

  left_got : (c : Caller) → Contains (callers left) c → Contains (called_in got) c
  left_got c is =
      elim (Contains-append_cases (unanswered front.events front.said) (called_in keeps) c (subst (λ (cs : List Caller). Contains cs c) left_is is)) [
        | inl asking ↦ delivered_got c (own c (some_are (λ from. not (list_any (same_caller from) (flat_map answered_by front.said))) (called_in front.events) c asking))
        | inr deferred ↦ kept_got c deferred
      ]

  pub serves_once : IsServedOnce (called_in got) (replied_in left_messages) (callers left)
  serves_once = record {
    exact = exact;
    named = λ c is.
        elim (Contains-append_cases (replied_in left_messages) (callers left) c is) [
          | inl replied ↦ replied_got c replied
          | inr remains ↦ left_got c remains
        ];
  }
