-- The calls and fetches that a front sends are numbered within its incarnations, one after another.
use Rattle.std.proofs.Common.{◌≡◌, ◌∙◌, sym, refl, ap, subst, ◌⊎◌, inl, inr, ℕ, suc, ◌+◌, ◌<◌, ◌≤◌, List, [], ◌∷◌, ◌++◌, append-nil, arith}
use Rattle.std.proofs.lemmas.List.Concat.{flat_map-append}
use Rattle.std.proofs.lemmas.List.Elements.{All-nil, All-cons, All-head, All-tail, All-append, All-weaker, All-same}
use Rattle.std.specs.List.{All}
use Rattle.std.specs.Prelude.{Option, Some, None}
use Rattle.do_value.specs.declared.value.Value.TheVariants as value
use Rattle.storage_map.specs.declared.answer.Reading.TheVariants as reading
use Rattle.script_mean.specs.declared.answer.Answer.TheVariants as answer
use Rattle.timeline.specs.Intake.{Front, IsIntake, Kind, MayTake, Mode, Taken, delivered, noticed, wanted, closed_by, down, down_replies, entries_of, front_after, life, numbered, opened, sent_by, serves, steps_to, takes}
use Rattle.timeline.specs.Object.{State, Step, idle, waiting, ended}
use Rattle.timeline.specs.Replies.{resets_of, unanswered}
use Rattle.timeline.specs.Steps.{delivers, answers}
use Rattle.timeline.specs.Told.{asking}
use Rattle.timeline.specs.declared.caller.Caller.{Caller}
use Rattle.timeline.specs.declared.caller.Cause.{Cause}
use Rattle.timeline.specs.declared.entry.Body.{Body}
use Rattle.timeline.specs.declared.entry.Body.TheVariants as body
use Rattle.timeline.specs.declared.entry.Entry.{Entry}
use Rattle.timeline.specs.declared.event.Event.{Event}
use Rattle.timeline.specs.declared.event.Event.TheVariants as event
use Rattle.timeline.specs.declared.notice.Notice.TheVariants as notice
use Rattle.object_messages.proofs.Numbering.{Follow, Numbers, NumbersTo, asked, asked_of, lead_numbers, delivers_numbers, answers_numbers}
use Rattle.object_messages.specs.Laws.{AreAscending, IsBelow, IsGiven, IsGivenIn, NumbersAreGiven, NumbersAscend}
use Rattle.object_messages.specs.Naming.{asked_by, asked_in, message_of, messages_of}

-- The calls and fetches among entries.
abbrev pub asked_among : List Entry → List (ℕ × ℕ)
asked_among entries = asked_in (messages_of entries)

-- Those of joined entries are those of both.
among_both : (xs ys : List Entry) → asked_among (xs ++ ys) ≡ asked_among xs ++ asked_among ys
among_both xs ys =
    ap asked_in (flat_map-append (λ (entry : Entry). message_of entry.body) xs ys) ∙ flat_map-append asked_by (messages_of xs) (messages_of ys)

-- Numbered entries ask what their bodies do.
numbered_asked : (i number : ℕ) (bodies : List Body) → asked_among (numbered i number bodies) ≡ asked bodies
numbered_asked i number [] = refl
numbered_asked i number (b ∷ bodies) =
    flat_map-append asked_by (message_of b) (messages_of (numbered i (suc number) bodies))
    ∙ ap (λ (rest : List (ℕ × ℕ)). asked_of b ++ rest) (numbered_asked i (suc number) bodies)

-- The numbers of a front's incarnation are those up to what it has given out; one that is down has none.
abbrev pub ModeNumbers : ℕ → List (ℕ × ℕ) → Mode → Type 0
ModeNumbers i numbers (serves (idle o)) = Follow i 0 numbers o.made
ModeNumbers i numbers (serves (waiting o t b)) = Follow i 0 numbers o.made
ModeNumbers i numbers (serves (ended c)) = (later : ℕ) × Follow i 0 numbers later
ModeNumbers i numbers (down call) = numbers ≡ []

abbrev pub IsNumbered : Front → Type 0
IsNumbered f = ModeNumbers f.incarnation (asked f.said) f.mode

-- A state that has given these numbers is a mode that has.
state_numbered : (i : ℕ) (numbers : List (ℕ × ℕ)) (s : State) → NumbersTo i 0 numbers s → ModeNumbers i numbers (serves s)
state_numbered i numbers (idle o) is = is
state_numbered i numbers (waiting o t b) is = is.0
state_numbered i numbers (ended c) is = is

-- What is waited for is no call.
asking_none : (i made : ℕ) (numbers : List (ℕ × ℕ)) (s : State) → NumbersTo i made numbers s → asked (asking s) ≡ []
asking_none i made numbers (idle o) is = refl
asking_none i made numbers (waiting o t b) is = ap (λ (xs : List (ℕ × ℕ)). xs ++ []) is.1
asking_none i made numbers (ended c) is = refl

-- A step of a front goes on with the numbers.
steps_number : (f : Front) (made : ℕ) (s : Step) → Follow f.incarnation 0 (asked f.said) made → Numbers f.incarnation made s → IsNumbered (steps_to f s)
steps_number f made s before then =
    let none = asking_none f.incarnation made (asked s.says) s.state then in
    let all : asked (f.said ++ s.says ++ asking s.state) ≡ asked f.said ++ asked s.says =
    flat_map-append asked_of (f.said ++ s.says) (asking s.state)
    ∙ ap (λ (xs : List (ℕ × ℕ)). asked (f.said ++ s.says) ++ xs) none
    ∙ append-nil (asked (f.said ++ s.says)) ∙ flat_map-append asked_of f.said s.says in
    state_numbered f.incarnation (asked (f.said ++ s.says ++ asking s.state)) s.state
    (subst (λ (numbers : List (ℕ × ℕ)). NumbersTo f.incarnation 0 numbers s.state) (sym all)
    (lead_numbers f.incarnation 0 made (asked f.said) (asked s.says) s.state before then))

-- Failures are no calls.
resets_ask_none : (cause : Cause) (callers : List Caller) → asked (resets_of cause callers) ≡ []
resets_ask_none cause [] = refl
resets_ask_none cause (x ∷ callers) = resets_ask_none cause callers

-- Nor is what a call that waited for a mounting is answered.
downs_ask_none : (call : Option Event) (before after : ℕ) → asked (down_replies call before after) ≡ []
downs_ask_none None before after = refl
downs_ask_none (Some (event.Call from method args depth at)) before after = refl
downs_ask_none (Some (event.Bind identity)) before after = refl
downs_ask_none (Some (event.Answer incarnation number result at)) before after = refl
downs_ask_none (Some (event.Tick at)) before after = refl
downs_ask_none (Some (event.Evict at)) before after = refl

-- More that isn't a call behind what isn't.
more_none : (said more : List Body) → asked said ≡ [] → asked more ≡ [] → asked (said ++ more) ≡ []
more_none said more first second = flat_map-append asked_of said more ∙ ap (λ (xs : List (ℕ × ℕ)). xs ++ asked more) first ∙ second

-- A front by its parts.
abbrev front : ℕ → List Event → List Body → Mode → Front
front i events said mode = record { incarnation = i; events = events; said = said; mode = mode }

-- So does a front at what it takes.
takes_number : (k : Kind) (i : ℕ) (events : List Event) (said : List Body) (mode : Mode) (t : Taken) → ModeNumbers i (asked said) mode
    → MayTake (front i events said mode) t → IsNumbered (takes k (front i events said mode) t)
takes_number k i events said (serves (idle o)) (delivered e) is may =
    steps_number (front i (events ++ e ∷ []) said (serves (idle o))) o.made (delivers (life k i) o e) is (delivers_numbers (life k i) o e)
takes_number k i events said (serves (waiting o t b)) (noticed (notice.Read number r)) is may =
    let a = answer.Read r in
    steps_number (front i events said (serves (waiting o t b))) o.made (answers (life k i) o t a) is (answers_numbers (life k i) o t a)
takes_number k i events said (serves (waiting o t b)) (noticed (notice.Taken number count)) is may =
    let a = answer.Read (reading.Count count) in
    steps_number (front i events said (serves (waiting o t b))) o.made (answers (life k i) o t a) is (answers_numbers (life k i) o t a)
takes_number k i events said (serves (waiting o t b)) (noticed (notice.Synced number)) is may =
    let a = answer.Value value.Undefined in
    steps_number (front i events said (serves (waiting o t b))) o.made (answers (life k i) o t a) is (answers_numbers (life k i) o t a)
takes_number k i events said (serves state) (noticed (notice.Fresh incarnation alarm cause)) is may =
    subst (λ (xs : List (ℕ × ℕ)). Follow (suc i) 0 xs 0) (sym (resets_ask_none cause (unanswered events said))) refl
takes_number k i events said (serves state) (noticed (notice.Down cause before after)) is may = resets_ask_none cause (unanswered events said)
takes_number k i events said (down call) (noticed (notice.Fresh incarnation alarm cause)) is may =
    subst (λ (xs : List (ℕ × ℕ)). Follow i 0 xs 0) (sym is) refl
takes_number k i events said (down call) (noticed (notice.Down cause before after)) is may =
    more_none said (down_replies call before after) is (downs_ask_none call before after)
takes_number k i events said (serves state) (wanted e) is may = let impossible : ⊥ = cc in absurd impossible
takes_number k i events said (down call) (wanted e) is may = more_none said (body.Mend ∷ []) is refl
takes_number k i events said mode t is may = is

-- An item ends an incarnation, whose entries are then sent; or none.
abbrev Closes : Front → Front → List Entry → Type 0
Closes f next closed =
    ((closed ≡ []) × (next.incarnation ≡ f.incarnation)) ⊎ ((closed ≡ entries_of f) × (next.incarnation ≡ suc f.incarnation))

-- What an item closes.
closes : (k : Kind) (i : ℕ) (events : List Event) (said : List Body) (mode : Mode) (t : Taken)
    → Closes (front i events said mode) (takes k (front i events said mode) t) (closed_by (front i events said mode) mode t)
closes k i events said (serves state) (noticed (notice.Fresh incarnation alarm cause)) = inr (refl, refl)
closes k i events said (serves state) (noticed (notice.Down cause before after)) = inr (refl, refl)
closes k i events said (serves (idle o)) (delivered e) = inl (refl, refl)
closes k i events said (serves (waiting o t b)) (noticed (notice.Read number r)) = inl (refl, refl)
closes k i events said (serves (waiting o t b)) (noticed (notice.Taken number count)) = inl (refl, refl)
closes k i events said (serves (waiting o t b)) (noticed (notice.Synced number)) = inl (refl, refl)
closes k i events said (down call) (delivered e) = inl (refl, refl)
closes k i events said (down call) (wanted e) = inl (refl, refl)
closes k i events said (down call) (noticed (notice.Fresh incarnation alarm cause)) = inl (refl, refl)
closes k i events said (down call) (noticed (notice.Down cause before after)) = inl (refl, refl)
closes k i events said mode t = inl (refl, refl)

-- Incarnations only rise.
rises_by : (f next : Front) (closed : List Entry) → Closes f next closed → f.incarnation ≤ next.incarnation
rises_by f next closed (inl same) = omega (arith, same.1)
rises_by f next closed (inr new) = omega (arith, new.1)

-- So over all that is taken.
rises : (k : Kind) (taken : List Taken) (f : Front) → f.incarnation ≤ (front_after k f taken).incarnation
rises k [] f = omega arith
rises k (t ∷ taken) f =
    omega (arith, rises_by f (takes k f t) (closed_by f f.mode t) (closes k f.incarnation f.events f.said f.mode t), rises k taken (takes k f t))

-- Numbers that follow stand between the first and the last.
follow_within : (i made later : ℕ) (xs : List (ℕ × ℕ)) → Follow i made xs later → made ≤ later
follow_within i made later [] is = omega (arith, is)
follow_within i made later (x ∷ xs) is = omega (arith, follow_within i (made + 1) later xs is.1)

-- A number of an incarnation between these.
abbrev IsWithin : ℕ → ℕ → ℕ → (ℕ × ℕ) → Type 0
IsWithin i made later x = (x.0 ≡ i) × (made < x.1) × (x.1 ≤ later)

-- All numbers that follow are such.
all_within : (i made later : ℕ) (xs : List (ℕ × ℕ)) → Follow i made xs later → All (IsWithin i made later) xs
all_within i made later [] is = All-nil (IsWithin i made later)
all_within i made later (x ∷ xs) is =
    let number : x.1 ≡ made + 1 = ap (λ (y : ℕ × ℕ). y.1) is.0 in
    All-cons (IsWithin i made later) x xs
    (ap (λ (y : ℕ × ℕ). y.0) is.0, omega (arith, number), omega (arith, number, follow_within i (made + 1) later xs is.1))
    (All-weaker (IsWithin i (made + 1) later) (IsWithin i made later) (λ y within. (within.0, omega (arith, within.1), within.2)) xs
    (all_within i (made + 1) later xs is.1))

-- So a front has given the numbers of its incarnation.
mode_given : (i : ℕ) (events : List Event) (said : List Body) (mode : Mode) → ModeNumbers i (asked said) mode
    → All (λ (x : ℕ × ℕ). (x.0 ≡ i) × IsGivenIn mode x.1) (asked said)
mode_given i events said (serves (idle o)) is =
    All-weaker (IsWithin i 0 o.made) (λ (x : ℕ × ℕ). (x.0 ≡ i) × IsGivenIn (serves (idle o)) x.1)
    (λ x within. (within.0, (omega (arith, within.1), within.2))) (asked said) (all_within i 0 o.made (asked said) is)
mode_given i events said (serves (waiting o t b)) is =
    All-weaker (IsWithin i 0 o.made) (λ (x : ℕ × ℕ). (x.0 ≡ i) × IsGivenIn (serves (waiting o t b)) x.1)
    (λ x within. (within.0, (omega (arith, within.1), within.2))) (asked said) (all_within i 0 o.made (asked said) is)
mode_given i events said (serves (ended c)) is =
    All-weaker (IsWithin i 0 is.0) (λ (x : ℕ × ℕ). (x.0 ≡ i) × IsGivenIn (serves (ended c)) x.1)
    (λ x within. (within.0, omega (arith, within.1))) (asked said) (all_within i 0 is.0 (asked said) is.1)
mode_given i events said (down call) is =
    subst (All (λ (x : ℕ × ℕ). (x.0 ≡ i) × ⊥)) (sym is) (All-nil (λ (x : ℕ × ℕ). (x.0 ≡ i) × ⊥))

-- The entries of a front's incarnation ask under its number.
of_incarnation : (f : Front) → IsNumbered f → All (λ (x : ℕ × ℕ). x.0 ≡ f.incarnation) (asked_among (entries_of f))
of_incarnation f is =
    All-same (λ (x : ℕ × ℕ). x.0 ≡ f.incarnation) (asked_among (entries_of f)) (asked f.said) (numbered_asked f.incarnation 1 f.said)
    (All-weaker (λ (x : ℕ × ℕ). (x.0 ≡ f.incarnation) × IsGivenIn f.mode x.1) (λ (x : ℕ × ℕ). x.0 ≡ f.incarnation)
    (λ x given. given.0) (asked f.said)
    (mode_given f.incarnation f.events f.said f.mode is))

-- What an item closes was asked by an incarnation before the next front's.
abbrev IsBetween : Front → Front → (ℕ × ℕ) → Type 0
IsBetween f next x = (x.0 ≡ f.incarnation) × (x.0 < next.incarnation)

-- So the entries that an item closes.
closed_before : (f next : Front) (closed : List Entry) → IsNumbered f → Closes f next closed → All (IsBetween f next) (asked_among closed)
closed_before f next closed is (inl same) =
    All-same (IsBetween f next) (asked_among closed) [] (ap asked_among same.0) (All-nil (IsBetween f next))
closed_before f next closed is (inr new) =
    All-same (IsBetween f next) (asked_among closed) (asked_among (entries_of f)) (ap asked_among new.0)
    (All-weaker (λ (x : ℕ × ℕ). x.0 ≡ f.incarnation) (IsBetween f next) (λ x e. (e, omega (arith, e, new.1)))
    (asked_among (entries_of f)) (of_incarnation f is))

-- All that a front has sent is given.
pub all_given : (k : Kind) (taken : List Taken) (f : Front) → IsNumbered f → IsIntake k f taken
    → All (IsGiven (front_after k f taken)) (asked_among (sent_by k f taken))
all_given k [] f is intake =
    All-same (IsGiven f) (asked_among (entries_of f)) (asked f.said) (numbered_asked f.incarnation 1 f.said)
    (All-weaker (λ (x : ℕ × ℕ). (x.0 ≡ f.incarnation) × IsGivenIn f.mode x.1) (IsGiven f) (λ x given. inr given) (asked f.said)
    (mode_given f.incarnation f.events f.said f.mode is))
all_given k (t ∷ taken) f is intake =
    let next = takes k f t in
    let last = front_after k next taken in
    let closed = closed_by f f.mode t in
    let rest = sent_by k next taken in
    All-same (IsGiven last) (asked_among (closed ++ rest)) (asked_among closed ++ asked_among rest) (among_both closed rest)
    (All-append (IsGiven last) (asked_among closed) (asked_among rest)
    (All-weaker (IsBetween f next) (IsGiven last) (λ x between. inl (omega (arith, between.1, rises k taken next))) (asked_among closed)
    (closed_before f next closed is (closes k f.incarnation f.events f.said f.mode t)))
    (all_given k taken next (takes_number k f.incarnation f.events f.said f.mode t is intake.0) intake.1))

-- So from the beginning on.
pub numbers_given : NumbersAreGiven
numbers_given k alarm taken intake = all_given k taken (opened alarm) refl intake

-- Numbers that follow ascend.
follow_ascend : (i made later : ℕ) (xs : List (ℕ × ℕ)) → Follow i made xs later → AreAscending xs
follow_ascend i made later [] is = tt
follow_ascend i made later (x ∷ xs) is =
    let number : x.1 ≡ made + 1 = ap (λ (y : ℕ × ℕ). y.1) is.0 in (
      All-weaker (IsWithin i (made + 1) later) (IsBelow x)
          (λ y within. inr (ap (λ (z : ℕ × ℕ). z.0) is.0 ∙ sym within.0, omega (arith, number, within.1))) xs (all_within i (made + 1) later xs is.1),
      follow_ascend i (made + 1) later xs is.1,
    )

-- So the numbers of a front's incarnation,
mode_ascends : (i : ℕ) (numbers : List (ℕ × ℕ)) (mode : Mode) → ModeNumbers i numbers mode → AreAscending numbers
mode_ascends i numbers (serves (idle o)) is = follow_ascend i 0 o.made numbers is
mode_ascends i numbers (serves (waiting o t b)) is = follow_ascend i 0 o.made numbers is
mode_ascends i numbers (serves (ended c)) is = follow_ascend i 0 is.0 numbers is.1
mode_ascends i numbers (down call) is = subst AreAscending (sym is) tt

-- those of its entries,
entries_ascend : (f : Front) → IsNumbered f → AreAscending (asked_among (entries_of f))
entries_ascend f is = subst AreAscending (sym (numbered_asked f.incarnation 1 f.said)) (mode_ascends f.incarnation (asked f.said) f.mode is)

-- and those of the entries that an item closes.
closed_ascend : (f next : Front) (closed : List Entry) → IsNumbered f → Closes f next closed → AreAscending (asked_among closed)
closed_ascend f next closed is (inl same) = subst (λ (entries : List Entry). AreAscending (asked_among entries)) (sym same.0) tt
closed_ascend f next closed is (inr new) = subst (λ (entries : List Entry). AreAscending (asked_among entries)) (sym new.0) (entries_ascend f is)

-- Numbers of earlier incarnations stand before those of later ones.
ascend_both : (i : ℕ) (xs ys : List (ℕ × ℕ)) → AreAscending xs → All (λ (x : ℕ × ℕ). x.0 < i) xs
    → AreAscending ys → All (λ (y : ℕ × ℕ). i ≤ y.0) ys → AreAscending (xs ++ ys)
ascend_both i [] ys first low second high = second
ascend_both i (x ∷ xs) ys first low second high =
    let less : x.0 < i = All-head (λ (z : ℕ × ℕ). z.0 < i) x xs low in (
      All-append (IsBelow x) xs ys first.0 (All-weaker (λ (y : ℕ × ℕ). i ≤ y.0) (IsBelow x) (λ y more. inl (omega (arith, less, more))) ys high),
      ascend_both i xs ys first.1 (All-tail (λ (z : ℕ × ℕ). z.0 < i) x xs low) second high,
    )

-- What a front sends ascends, from its own incarnation on.
abbrev AscendFrom : ℕ → List (ℕ × ℕ) → Type 0
AscendFrom i xs = AreAscending xs × All (λ (x : ℕ × ℕ). i ≤ x.0) xs

-- So it is from item to item,
sends_ascending : (k : Kind) (taken : List Taken) (f : Front) → IsNumbered f → IsIntake k f taken
    → AscendFrom f.incarnation (asked_among (sent_by k f taken))
sends_ascending k [] f is intake = (
  entries_ascend f is,
  All-weaker (λ (x : ℕ × ℕ). x.0 ≡ f.incarnation) (λ (x : ℕ × ℕ). f.incarnation ≤ x.0) (λ x e. omega (arith, e))
      (asked_among (entries_of f)) (of_incarnation f is),
)
sends_ascending k (t ∷ taken) f is intake =
    let next = takes k f t in
    let closed = closed_by f f.mode t in
    let rest = sent_by k next taken in
    let own : List (ℕ × ℕ) = asked_among closed in
    let later : List (ℕ × ℕ) = asked_among rest in
    let ends : Closes f next closed = closes k f.incarnation f.events f.said f.mode t in
    let before : All (IsBetween f next) own = closed_before f next closed is ends in
    let numbered_on : IsNumbered next = takes_number k f.incarnation f.events f.said f.mode t is intake.0 in
    let behind : AscendFrom next.incarnation later = sends_ascending k taken next numbered_on intake.1 in
    subst (AscendFrom f.incarnation) (sym (among_both closed rest)) (
      ascend_both next.incarnation own later (closed_ascend f next closed is ends)
          (All-weaker (IsBetween f next) (λ (x : ℕ × ℕ). x.0 < next.incarnation) (λ x between. between.1) own before) behind.0 behind.1,
      All-append (λ (x : ℕ × ℕ). f.incarnation ≤ x.0) own later
          (All-weaker (IsBetween f next) (λ (x : ℕ × ℕ). f.incarnation ≤ x.0) (λ x between. omega (arith, between.0)) own before)
          (All-weaker (λ (x : ℕ × ℕ). next.incarnation ≤ x.0) (λ (x : ℕ × ℕ). f.incarnation ≤ x.0)
          (λ x more. omega (arith, more, rises_by f next closed ends)) later behind.1),
    )

-- and from the beginning on.
pub numbers_rise : NumbersAscend
numbers_rise k alarm taken intake = (sends_ascending k taken (opened alarm) refl intake).0
