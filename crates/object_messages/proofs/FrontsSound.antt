-- While no incarnation has ended, what a front sends tells of no end; and it passes as it is.
use Rattle.std.proofs.Common.{◌≡◌, ◌∙◌, sym, refl, ap, subst, ℕ, suc, ◌+◌, List, [], ◌∷◌, ◌++◌, append-nil}
use Rattle.std.proofs.lemmas.List.Elements.{All-nil, All-cons, All-head, All-tail, All-append, All-same}
use Rattle.std.specs.List.{All, filter, flat_map, list_any}
use Rattle.std.specs.Prelude.{Bool, true, false, not, ◌||◌, ◌==◌, if◌then◌else◌, length, slice_get, Option, Some, None}
use Rattle.do_value.specs.declared.value.Value.TheVariants as value
use Rattle.storage_map.specs.declared.answer.Reading.TheVariants as reading
use Rattle.script_mean.specs.declared.answer.Answer.TheVariants as answer
use Rattle.timeline.specs.History.{History, Incarnation, history, incarnation_at, incarnations, said_in}
use Rattle.timeline.specs.Intake.{Front, IsIntake, Kind, MayTake, Mode, Taken, delivered, noticed, wanted, closed_by, down, ends_by, ends_in, entries_of, life, numbered, opened, sent_by, serves, steps_to, takes}
use Rattle.timeline.specs.Logs.{Backed, Fronted}
use Rattle.timeline.specs.Object.{State, Step, idle, waiting, ended}
use Rattle.timeline.specs.Passed.{Held, Passed, bound_by, follows, held_in, is_mend, is_mounted, passed, passes, passes_if}
use Rattle.timeline.specs.Steps.{delivers, answers}
use Rattle.timeline.specs.Told.{asking}
use Rattle.timeline.specs.declared.back_log.Stop.{Stop}
use Rattle.timeline.specs.declared.caller.Cause.{Cause}
use Rattle.timeline.specs.declared.entry.Body.{Body}
use Rattle.timeline.specs.declared.entry.Body.TheVariants as body
use Rattle.timeline.specs.declared.entry.Entry.{Entry}
use Rattle.timeline.specs.declared.event.Event.{Event}
use Rattle.timeline.specs.declared.message.Message.{Message}
use Rattle.timeline.specs.declared.notice.Notice.TheVariants as notice
use Rattle.object_messages.proofs.Sound.{AreSound, IsSound, IsSoundState, says_end, sound_both, delivers_sound, answers_sound}
use Rattle.object_messages.specs.Ends.{EndsAreNeeded, TellNoEnd, UnendedPassAsTaken, tells_end}
use Rattle.object_messages.specs.Laws.{gone}
use Rattle.object_messages.specs.Naming.{message_of, messages_of}

-- A front that serves and has told of no end.
abbrev IsSoundMode : Mode → Type 0
IsSoundMode (serves s) = Unit {0}
IsSoundMode (down call) = ⊥

abbrev IsSoundFront : Front → Type 0
IsSoundFront f = AreSound f.said × IsSoundMode f.mode

-- What a state waits for.
asking_sound : (s : State) → IsSoundState s → AreSound (asking s)
asking_sound (idle o) is = tt
asking_sound (waiting o t b) is = (is, tt)
asking_sound (ended c) is = tt

-- A step of a front.
steps_sound : (f : Front) (s : Step) → AreSound f.said → IsSound s → IsSoundFront (steps_to f s)
steps_sound f s said step =
    (sound_both (f.said ++ s.says) (asking s.state) (sound_both f.said s.says said step.0) (asking_sound s.state step.1), tt)

-- A front by its parts.
abbrev front : ℕ → List Event → List Body → Mode → Front
front i events said mode = record { incarnation = i; events = events; said = said; mode = mode }

cons_not_nil : {X : Type 0} (x : X) (xs : List X) → x ∷ xs ≡ [] → ⊥
cons_not_nil x xs is = let no : ⊥ = cc in no

-- What a front takes that ends nothing: it serves on, closes nothing, and tells of no end.
takes_sound : (k : Kind) (i : ℕ) (events : List Event) (said : List Body) (mode : Mode) (t : Taken) → IsSoundFront (front i events said mode)
    → MayTake (front i events said mode) t → ends_by mode t ≡ []
    → IsSoundFront (takes k (front i events said mode) t) × (closed_by (front i events said mode) mode t ≡ [])
takes_sound k i events said (serves (idle o)) (delivered e) is may none =
    (steps_sound (front i (events ++ e ∷ []) said (serves (idle o))) (delivers (life k i) o e) is.0 (delivers_sound (life k i) o e), refl)
takes_sound k i events said (serves (waiting o t b)) (noticed (notice.Read number r)) is may none =
    let a = answer.Read r in
    (steps_sound (front i events said (serves (waiting o t b))) (answers (life k i) o t a) is.0 (answers_sound (life k i) o t a), refl)
takes_sound k i events said (serves (waiting o t b)) (noticed (notice.Taken number count)) is may none =
    let a = answer.Read (reading.Count count) in
    (steps_sound (front i events said (serves (waiting o t b))) (answers (life k i) o t a) is.0 (answers_sound (life k i) o t a), refl)
takes_sound k i events said (serves (waiting o t b)) (noticed (notice.Synced number)) is may none =
    let a = answer.Value value.Undefined in
    (steps_sound (front i events said (serves (waiting o t b))) (answers (life k i) o t a) is.0 (answers_sound (life k i) o t a), refl)
takes_sound k i events said (serves state) (noticed (notice.Fresh incarnation alarm cause)) is may none = absurd (cons_not_nil cause [] none)
takes_sound k i events said (serves state) (noticed (notice.Down cause before after)) is may none = absurd (cons_not_nil cause [] none)
takes_sound k i events said (serves state) (wanted e) is may none = let impossible : ⊥ = cc in absurd impossible
takes_sound k i events said (down call) t is may none = absurd is.1
takes_sound k i events said mode t is may none = (is, refl)

-- Numbered entries say what their bodies do.
numbered_sound : (i number : ℕ) (bodies : List Body) → AreSound bodies → TellNoEnd (messages_of (numbered i number bodies))
numbered_sound i number [] is = All-nil (λ (m : Message). tells_end m ≡ false)
numbered_sound i number (body.Message sent ∷ bodies) is =
    All-cons (λ (m : Message). tells_end m ≡ false) sent (messages_of (numbered i (suc number) bodies)) is.0 (numbered_sound i (suc number) bodies is.1)
numbered_sound i number (body.Batch ops tail confirmed ∷ bodies) is = numbered_sound i (suc number) bodies is.1
numbered_sound i number (body.Bind identity ∷ bodies) is = numbered_sound i (suc number) bodies is.1
numbered_sound i number (body.Ask a free ∷ bodies) is = numbered_sound i (suc number) bodies is.1
numbered_sound i number (body.Sync ∷ bodies) is = numbered_sound i (suc number) bodies is.1
numbered_sound i number (body.Halt cause ∷ bodies) is = numbered_sound i (suc number) bodies is.1
numbered_sound i number (body.Mend ∷ bodies) is = numbered_sound i (suc number) bodies is.1

-- Both parts of a list that has nothing have nothing.
first_nil : {X : Type 0} (xs ys : List X) → xs ++ ys ≡ [] → xs ≡ []
first_nil [] ys is = refl
first_nil (x ∷ xs) ys is = absurd (cons_not_nil x (xs ++ ys) is)

second_nil : {X : Type 0} (xs ys : List X) → xs ++ ys ≡ [] → ys ≡ []
second_nil [] ys is = is
second_nil (x ∷ xs) ys is = absurd (cons_not_nil x (xs ++ ys) is)

-- All that is sent.
sends_sound : (k : Kind) (taken : List Taken) (f : Front) → IsSoundFront f → IsIntake k f taken → ends_in k f taken ≡ []
    → TellNoEnd (messages_of (sent_by k f taken))
sends_sound k [] f is intake none = numbered_sound f.incarnation 1 f.said is.0
sends_sound k (t ∷ taken) f is intake none =
    let next = takes_sound k f.incarnation f.events f.said f.mode t is intake.0 (first_nil (ends_by f.mode t) (ends_in k (takes k f t) taken) none) in
    subst (λ (closed : List Entry). TellNoEnd (messages_of (closed ++ sent_by k (takes k f t) taken))) (sym next.1)
    (sends_sound k taken (takes k f t) next.0 intake.1 (second_nil (ends_by f.mode t) (ends_in k (takes k f t) taken) none))

pub ends_needed : EndsAreNeeded
ends_needed k alarm taken intake none = sends_sound k taken (opened alarm) (tt, tt) intake none

-- What an incarnation that goes on has sent passes as it is,
passes_as_is : (older : History) (number : ℕ) (held : Held) (mended : Bool) → tells_end held.message ≡ false
    → TellNoEnd (gone (passes_if older number None held mended))
passes_as_is older number held true is =
    All-cons (λ (m : Message). tells_end m ≡ false) held.message [] is (All-nil (λ (m : Message). tells_end m ≡ false))
passes_as_is older number held false is =
    All-cons (λ (m : Message). tells_end m ≡ false) held.message [] is (All-nil (λ (m : Message). tells_end m ≡ false))

gone_both : (xs ys : List Passed) → gone (xs ++ ys) ≡ gone xs ++ gone ys
gone_both [] ys = refl
gone_both (x ∷ xs) ys = ap (λ (ms : List Message). x.message ∷ ms) (gone_both xs ys)

-- one entry in front of others,
entry_passes : (older : History) (number count behind : ℕ) (b : Body) (entries : List Entry) → TellNoEnd (message_of b ++ messages_of entries)
    → ((later reach : ℕ) → TellNoEnd (gone (flat_map (passes older number None) (held_in later reach (said_in entries)))))
    → TellNoEnd (gone (flat_map (passes older number None) (held_in count behind (b ∷ said_in entries))))
entry_passes older number count behind (body.Message sent) entries all rest =
    let held : Held = record { message = sent; behind = behind; mended = list_any is_mend (said_in entries) } in
    let first = passes older number None held in
    let later = flat_map (passes older number None) (held_in count behind (said_in entries)) in
    All-same (λ (m : Message). tells_end m ≡ false) (gone (first ++ later)) (gone first ++ gone later) (gone_both first later)
    (All-append (λ (m : Message). tells_end m ≡ false) (gone first) (gone later)
    (passes_as_is older number held (not (is_mounted older) || held.mended) (All-head (λ (m : Message). tells_end m ≡ false) sent (messages_of entries) all))
    (rest count behind))
entry_passes older number count behind (body.Batch ops tail confirmed) entries all rest = rest (count + 1) (follows count behind confirmed)
entry_passes older number count behind (body.Bind identity) entries all rest = rest count behind
entry_passes older number count behind (body.Ask a free) entries all rest = rest count behind
entry_passes older number count behind body.Sync entries all rest = rest count behind
entry_passes older number count behind (body.Halt cause) entries all rest = rest count behind
entry_passes older number count behind body.Mend entries all rest = rest count behind

-- Behind an entry no message tells of an end either.
behind_entry : (b : Body) (entries : List Entry) → TellNoEnd (message_of b ++ messages_of entries) → TellNoEnd (messages_of entries)
behind_entry (body.Message sent) entries all = All-tail (λ (m : Message). tells_end m ≡ false) sent (messages_of entries) all
behind_entry (body.Batch ops tail confirmed) entries all = all
behind_entry (body.Bind identity) entries all = all
behind_entry (body.Ask a free) entries all = all
behind_entry body.Sync entries all = all
behind_entry (body.Halt cause) entries all = all
behind_entry body.Mend entries all = all

-- one after another.
all_pass : (older : History) (number count behind : ℕ) (entries : List Entry) → TellNoEnd (messages_of entries)
    → TellNoEnd (gone (flat_map (passes older number None) (held_in count behind (said_in entries))))
all_pass older number count behind [] all = All-nil (λ (m : Message). tells_end m ≡ false)
all_pass older number count behind (entry ∷ entries) all =
    entry_passes older number count behind entry.body entries all (λ later reach. all_pass older number later reach entries (behind_entry entry.body entries all))

-- Those of one incarnation are some of all.
first_kept : (b : Body) (some entries : List Entry) → TellNoEnd (message_of b ++ messages_of entries) → TellNoEnd (messages_of some)
    → TellNoEnd (message_of b ++ messages_of some)
first_kept (body.Message sent) some entries all rest =
    All-cons (λ (m : Message). tells_end m ≡ false) sent (messages_of some)
    (All-head (λ (m : Message). tells_end m ≡ false) sent (messages_of entries) all) rest
first_kept (body.Batch ops tail confirmed) some entries all rest = rest
first_kept (body.Bind identity) some entries all rest = rest
first_kept (body.Ask a free) some entries all rest = rest
first_kept body.Sync some entries all rest = rest
first_kept (body.Halt cause) some entries all rest = rest
first_kept body.Mend some entries all rest = rest

entry_kept : (keep : Bool) (entry : Entry) (some entries : List Entry) → TellNoEnd (message_of entry.body ++ messages_of entries)
    → TellNoEnd (messages_of some) → TellNoEnd (messages_of (if keep then entry ∷ some else some))
entry_kept false entry some entries all rest = rest
entry_kept true entry some entries all rest = first_kept entry.body some entries all rest

some_tell_none : (keep : Entry → Bool) (entries : List Entry) → TellNoEnd (messages_of entries) → TellNoEnd (messages_of (filter keep entries))
some_tell_none keep [] all = all
some_tell_none keep (entry ∷ entries) all =
    entry_kept (keep entry) entry (filter keep entries) entries all (some_tell_none keep entries (behind_entry entry.body entries all))

-- So where none stopped, all that passes.
pub unended_pass : UnendedPassAsTaken
unended_pass front back none all =
    let i : Incarnation = incarnation_at front back 0 in
    let bound : bound_by i.stop i.flights ≡ None =
    ap (λ (stops : List Stop). bound_by (slice_get stops 0) i.flights) none in
    let one : history front back ≡ i ∷ [] = ap (λ (stops : List Stop). incarnations front back (suc (length stops))) none in
    subst (λ (h : History). TellNoEnd (gone (passed h))) (sym one)
    (subst (λ (b : Option (Cause × ℕ)). TellNoEnd (gone (flat_map (passes [] i.number b) (held_in 0 0 (said_in i.taken))))) (sym bound)
    (all_pass [] i.number 0 0 i.taken (some_tell_none (λ (entry : Entry). entry.incarnation == 1) back.taken all)))
