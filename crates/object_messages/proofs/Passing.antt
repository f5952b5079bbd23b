-- What passes asks what was taken, and replies to those to whom what was taken replies.
use Rattle.std.proofs.Common.{◌≡◌, ◌∙◌, sym, refl, ap, subst, ◌⊎◌, inl, inr, ℕ, zero, suc, ◌+◌, ◌≤◌, List, [], ◌∷◌, ◌++◌, length, append-nil, arith}
use Rattle.std.proofs.lemmas.Bool.Decides.{nat_tests}
use Rattle.std.proofs.lemmas.List.{map-append}
use Rattle.std.proofs.lemmas.List.Concat.{flat_map-append}
use Rattle.std.proofs.lemmas.List.Elements.{Contains-append_left, Contains-append_right, Contains-append_cases, recursion_from_All}
use Rattle.std.proofs.lemmas.List.Filters.{sum_by-filter_both}
use Rattle.std.proofs.lemmas.List.Sums.{sum_by-cons}
use Rattle.std.specs.List.{AllByRecursion, Contains, filter, flat_map, sum_by}
use Rattle.std.specs.Prelude.{Bool, true, false, not, ◌&&◌, nat_le, nat_lt, ◌==◌, ◌||◌, cond, if◌then◌else◌, Option, Some, None}
use Rattle.timeline.specs.History.{History, Incarnation, entries_of, incarnation_at, incarnations, kept_before, said_in}
use Rattle.timeline.specs.Logs.{Backed, Fronted}
use Rattle.timeline.specs.Passed.{Held, Passed, bound_by, durable_at, follows, held_in, is_mounted, passed, passed_in, passes, passes_by, passes_if, replaced}
use Rattle.timeline.specs.Replies.{answered_by}
use Rattle.timeline.specs.declared.caller.Caller.{Caller}
use Rattle.timeline.specs.declared.caller.Cause.{Cause}
use Rattle.timeline.specs.declared.entry.Body.{Body}
use Rattle.timeline.specs.declared.entry.Body.TheVariants as body
use Rattle.timeline.specs.declared.entry.Entry.{Entry}
use Rattle.timeline.specs.declared.message.Message.{Message}
use Rattle.timeline.specs.declared.message.Message.TheVariants as message
use Rattle.object_messages.proofs.Counts.{told, one_replies, replies_are_told, times-append, times-flat_map, times_of-append}
use Rattle.object_messages.proofs.FrontsNumbering.{asked_among}
use Rattle.object_messages.proofs.Numbering.{asked, asked_of}
use Rattle.object_messages.specs.Exact.{PassedIsAll}
use Rattle.object_messages.specs.Laws.{PassedIsTaken, gone}
use Rattle.object_messages.specs.Naming.{asked_by, asked_in, message_of, messages_of, replied_by, replied_in, times, times_of}

-- What stands in one list stands in the other.
abbrev pub Within : List (ℕ × ℕ) → List (ℕ × ℕ) → Type 0
Within xs ys = (x : ℕ × ℕ) → Contains xs x → Contains ys x

-- Nothing does,
none_within : (ys : List (ℕ × ℕ)) → Within [] ys
none_within ys x there = let impossible : ⊥ = omega (arith, there.1) in absurd impossible

-- two lists do where each does,
both_within : (xs ys all : List (ℕ × ℕ)) → Within xs all → Within ys all → Within (xs ++ ys) all
both_within xs ys all first second x there = by_side (Contains-append_cases xs ys x there)
  where
    by_side : Contains xs x ⊎ Contains ys x → Contains all x
    by_side (inl left) = first x left
    by_side (inr right) = second x right

-- and joined lists in joined lists.
join_within : (xs ys first second : List (ℕ × ℕ)) → Within xs first → Within ys second → Within (xs ++ ys) (first ++ second)
join_within xs ys first second one other =
    both_within xs ys (first ++ second) (λ x there. Contains-append_left first second x (one x there))
    (λ x there. Contains-append_right first second x (other x there))

-- What becomes of a message: it asks as it did or nothing, and replies as it did.
abbrev Fares : Message → List Passed → Type 0
Fares sent items = ((asked_in (gone items) ≡ asked_by sent) ⊎ (asked_in (gone items) ≡ [])) × (replied_in (gone items) ≡ replied_by sent)

-- It leaves as it is,
stays_fares : (sent : Message) (needs since : ℕ) → Fares sent (record { message = sent; needs = needs; since = since } ∷ [])
stays_fares sent needs since = (inl (append-nil (asked_by sent)), append-nil (replied_by sent))

-- it is replaced or dropped,
replaced_fares : (needs since : ℕ) (cause : Cause) (sent : Message) → Fares sent (replaced needs since cause sent)
replaced_fares needs since cause (message.Reply to result) = (inl refl, refl)
replaced_fares needs since cause (message.Call incarnation number to method args depth) = (inr refl, refl)
replaced_fares needs since cause (message.Fetch incarnation number value) = (inr refl, refl)

-- one or the other,
either_fares : (b : Bool) (sent : Message) (one other : List Passed) → Fares sent one → Fares sent other → Fares sent (if b then one else other)
either_fares true sent one other first second = first
either_fares false sent one other first second = second

-- by how many batches it follows,
by_bound_fares : (before number : ℕ) (bound : Option (Cause × ℕ)) (count : ℕ) (sent : Message) → Fares sent (passes_by before number bound count sent)
by_bound_fares before number None count sent = stays_fares sent (before + count) number
by_bound_fares before number (Some bound) count sent =
    either_fares (nat_lt bound.1 count) sent (replaced (before + bound.1) number bound.0 sent)
    (record { message = sent; needs = before + count; since = number } ∷ [])
    (replaced_fares (before + bound.1) number bound.0 sent) (stays_fares sent (before + count) number)

-- and by whether it was held.
if_fares : (older : History) (number : ℕ) (bound : Option (Cause × ℕ)) (held : Held) (unmounted : Bool)
    → Fares held.message (passes_if older number bound held unmounted)
if_fares older number bound held true = stays_fares held.message (durable_at older) (length older)
if_fares older number bound held false = by_bound_fares (length (kept_before older)) number bound held.behind held.message

-- Where something asks as another does or nothing, it asks no more.
same_or_none : (xs ys : List (ℕ × ℕ)) → (xs ≡ ys) ⊎ (xs ≡ []) → Within xs ys
same_or_none xs ys (inl same) = subst (Within xs) same (λ x there. there)
same_or_none xs ys (inr none) = subst (λ (zs : List (ℕ × ℕ)). Within zs ys) (sym none) (none_within ys)

no_oftener : (asked : ℕ × ℕ) (xs ys : List (ℕ × ℕ)) → (xs ≡ ys) ⊎ (xs ≡ []) → times_of asked xs ≤ times_of asked ys
no_oftener asked xs ys (inl same) = omega (arith, ap (times_of asked) same)
no_oftener asked xs ys (inr none) = omega (arith, ap (times_of asked) none)

-- So the messages among what was said: nothing is asked that wasn't, nor oftener, and who is replied to was.
abbrev AllFare : List Body → List Passed → Type 0
AllFare bodies items = Within (asked_in (gone items)) (asked bodies) × (replied_in (gone items) ≡ flat_map answered_by bodies)
    × ((x : ℕ × ℕ) → times_of x (asked_in (gone items)) ≤ times_of x (asked bodies))

-- What messages name that leave in two parts.
pub gone_both : {X : Type 0} (names : Message → List X) (one other : List Passed)
    → flat_map names (gone (one ++ other)) ≡ flat_map names (gone one) ++ flat_map names (gone other)
gone_both names one other =
    ap (flat_map names) (map-append (λ (p : Passed). p.message) one other) ∙ flat_map-append names (gone one) (gone other)

-- A message before others.
first_fares : (sent : Message) (bodies : List Body) (one other : List Passed) → Fares sent one → AllFare bodies other
    → AllFare (body.Message sent ∷ bodies) (one ++ other)
first_fares sent bodies one other first rest = (
  subst (λ (xs : List (ℕ × ℕ)). Within xs (asked (body.Message sent ∷ bodies))) (sym (gone_both asked_by one other))
      (join_within (asked_in (gone one)) (asked_in (gone other)) (asked_of (body.Message sent)) (asked bodies)
      (subst (Within (asked_in (gone one))) (sym (append-nil (asked_by sent))) (same_or_none (asked_in (gone one)) (asked_by sent) first.0)) rest.0),
  gone_both replied_by one other
      ∙ ap (λ (xs : List Caller). xs ++ replied_in (gone other)) (first.1 ∙ sym (append-nil (replied_by sent)) ∙ one_replies (body.Message sent))
      ∙ ap (λ (xs : List Caller). answered_by (body.Message sent) ++ xs) rest.1,
  λ x. omega (
    arith,
    ap (times_of x) (gone_both asked_by one other),
    times_of-append x (asked_in (gone one)) (asked_in (gone other)),
    no_oftener x (asked_in (gone one)) (asked_by sent) first.0,
    ap (times_of x) (append-nil (asked_by sent)),
    times_of-append x (asked_of (body.Message sent)) (asked bodies),
    rest.2 x,
  ),
)

-- All of them, by what becomes of each.
held_fare : (leaves : Held → List Passed) → ((held : Held) → Fares held.message (leaves held)) → (count behind : ℕ) (bodies : List Body)
    → AllFare bodies (flat_map leaves (held_in count behind bodies))
held_fare leaves fares count behind [] = (none_within [], refl, λ x. omega arith)
held_fare leaves fares count behind (body.Batch ops tail confirmed ∷ bodies) = held_fare leaves fares (count + 1) (follows count behind confirmed) bodies
held_fare leaves fares count behind (body.Message sent ∷ bodies) =
    first_fares sent bodies (leaves _) (flat_map leaves (held_in count behind bodies)) (fares _) (held_fare leaves fares count behind bodies)
held_fare leaves fares count behind (body.Bind identity ∷ bodies) = held_fare leaves fares count behind bodies
held_fare leaves fares count behind (body.Ask ask free ∷ bodies) = held_fare leaves fares count behind bodies
held_fare leaves fares count behind (body.Sync ∷ bodies) = held_fare leaves fares count behind bodies
held_fare leaves fares count behind (body.Halt cause ∷ bodies) = held_fare leaves fares count behind bodies
held_fare leaves fares count behind (body.Mend ∷ bodies) = held_fare leaves fares count behind bodies

-- So those of an incarnation.
pub passed_fare : (older : History) (i : Incarnation) → AllFare (said_in i.taken) (passed_in older i)
passed_fare older i =
    held_fare (passes older i.number (bound_by i.stop i.flights))
    (λ held. if_fares older i.number (bound_by i.stop i.flights) held (not (is_mounted older) || held.mended)) 0 0 (said_in i.taken)

-- What entries ask and reply is what was said in them.
first_asked : (entry : Entry) (entries : List Entry) → asked_among (entry ∷ entries) ≡ asked_of entry.body ++ asked_among entries
first_asked entry entries = flat_map-append asked_by (message_of entry.body) (messages_of entries)

-- So all entries.
said_asked : (entries : List Entry) → asked (said_in entries) ≡ asked_among entries
said_asked [] = refl
said_asked (entry ∷ entries) =
    ap (λ (rest : List (ℕ × ℕ)). asked_of entry.body ++ rest) (said_asked entries) ∙ sym (first_asked entry entries)

-- How often an entry replies to a caller, and how often it asks this.
abbrev replies : Caller → Entry → ℕ
replies from entry = told from entry.body

abbrev asks : ℕ × ℕ → Entry → ℕ
asks x entry = times_of x (asked_of entry.body)

-- Entries reply as what was said in them.
said_told : (from : Caller) (entries : List Entry) → sum_by (told from) (said_in entries) ≡ sum_by (replies from) entries
said_told from [] = refl
said_told from (entry ∷ entries) =
    omega (arith, said_told from entries, sum_by-cons (told from) entry.body (said_in entries), sum_by-cons (replies from) entry entries)

-- Entries ask as often as each of them does.
asked_times : (x : ℕ × ℕ) (entries : List Entry) → times_of x (asked_among entries) ≡ sum_by (asks x) entries
asked_times x [] = refl
asked_times x (entry ∷ entries) =
    omega (
      arith,
      ap (times_of x) (first_asked entry entries),
      times_of-append x (asked_of entry.body) (asked_among entries),
      asked_times x entries,
      sum_by-cons (asks x) entry entries,
    )

-- Some of the entries ask no more than all.
kept_within : (b : Bool) (entry : Entry) (some entries : List Entry) → Within (asked_among some) (asked_among entries)
    → Within (asked_among (cond b (entry ∷ some) some)) (asked_among (entry ∷ entries))
kept_within true entry some entries within x there =
    let own = asked_of entry.body in
    let among : Contains (own ++ asked_among some) x = subst (λ (xs : List (ℕ × ℕ)). Contains xs x) (first_asked entry some) there in
    subst (λ (xs : List (ℕ × ℕ)). Contains xs x) (sym (first_asked entry entries))
    (join_within own (asked_among some) own (asked_among entries) (λ y same. same) within x among)
kept_within false entry some entries within x there =
    subst (λ (xs : List (ℕ × ℕ)). Contains xs x) (sym (first_asked entry entries))
    (Contains-append_right (asked_of entry.body) (asked_among entries) x (within x there))

-- So those that pass a test.
filter_within : (p : Entry → Bool) (entries : List Entry) → Within (asked_among (filter p entries)) (asked_among entries)
filter_within p [] = none_within []
filter_within p (entry ∷ entries) = kept_within (p entry) entry (filter p entries) entries (filter_within p entries)

-- An entry of one of the first incarnations.
abbrev is_among : ℕ → ℕ → Bool
is_among n incarnation = nat_le 1 incarnation && nat_le incarnation n

-- Each entry is of one incarnation.
one_number : (i n v : ℕ) → cond (i == suc n) v 0 + cond (is_among n i) v 0 ≡ cond (is_among (suc n) i) v 0
one_number i n v = grind (arith, nat_tests)

-- What the first entry adds to a sum over those that pass.
filter_first : (p : Entry → Bool) (f : Entry → ℕ) (entry : Entry) (entries : List Entry)
    → sum_by f (filter p (entry ∷ entries)) ≡ cond (p entry) (f entry) 0 + sum_by f (filter p entries)
filter_first p f entry entries = by_kept (p entry)
  where
    by_kept : (b : Bool) → sum_by f (cond b (entry ∷ filter p entries) (filter p entries)) ≡ cond b (f entry) 0 + sum_by f (filter p entries)
    by_kept true = sum_by-cons f entry (filter p entries)
    by_kept false = omega arith

-- What the entries of the first incarnations weigh.
abbrev weigh_among : (Entry → ℕ) → ℕ → List Entry → ℕ
weigh_among weighs n entries = sum_by weighs (filter (λ (entry : Entry). is_among n entry.incarnation) entries)

-- Those of none weigh nothing.
none_among : (weighs : Entry → ℕ) (entries : List Entry) → weigh_among weighs 0 entries ≡ 0
none_among weighs [] = refl
none_among weighs (entry ∷ entries) =
    omega (
      arith,
      none_among weighs entries,
      filter_first (λ (e : Entry). is_among 0 e.incarnation) weighs entry entries,
      none_first entry.incarnation (weighs entry),
    )
  where
    none_first : (i v : ℕ) → cond (is_among 0 i) v 0 ≡ 0
    none_first i v = grind (arith, nat_tests)

-- The entries of an incarnation, and those of the ones before it.
one_more : (weighs : Entry → ℕ) (n : ℕ) (entries : List Entry)
    → sum_by weighs (entries_of (suc n) entries) + weigh_among weighs n entries ≡ weigh_among weighs (suc n) entries
one_more weighs n [] = refl
one_more weighs n (entry ∷ entries) =
    omega (
      arith,
      one_more weighs n entries,
      one_number entry.incarnation n (weighs entry),
      filter_first (λ (e : Entry). e.incarnation == suc n) weighs entry entries,
      filter_first (λ (e : Entry). is_among n e.incarnation) weighs entry entries,
      filter_first (λ (e : Entry). is_among (suc n) e.incarnation) weighs entry entries,
    )

-- All of them, where each entry is of one of these incarnations.
all_among : (from : Caller) (n : ℕ) (entries : List Entry) → AllByRecursion (λ (e : Entry). (1 ≤ e.incarnation) × (e.incarnation ≤ n)) entries
    → weigh_among (replies from) n entries ≡ sum_by (replies from) entries
all_among from n [] all = refl
all_among from n (entry ∷ entries) all =
    omega (
      arith,
      all_among from n entries all.1,
      filter_first (λ (e : Entry). is_among n e.incarnation) (replies from) entry entries,
      this entry.incarnation (replies from entry) all.0.0 all.0.1,
      sum_by-cons (replies from) entry entries,
    )
  where
    this : (i v : ℕ) → 1 ≤ i → i ≤ n → cond (is_among n i) v 0 ≡ v
    this i v least most = grind (arith, nat_tests)

-- What passes of the incarnations asks what was taken,
passed_within : (front : Fronted) (back : Backed) (n : ℕ) → Within (asked_in (gone (passed (incarnations front back n)))) (asked_among back.taken)
passed_within front back zero = none_within (asked_among back.taken)
passed_within front back (suc n) =
    let older = incarnations front back n in
    let i = incarnation_at front back n in
    let own : Within (asked_in (gone (passed_in older i))) (asked_among (entries_of (suc n) back.taken)) =
    subst (Within (asked_in (gone (passed_in older i)))) (said_asked i.taken) (passed_fare older i).0 in
    subst (λ (xs : List (ℕ × ℕ)). Within xs (asked_among back.taken)) (sym (gone_both asked_by (passed older) (passed_in older i)))
    (both_within (asked_in (gone (passed older))) (asked_in (gone (passed_in older i))) (asked_among back.taken) (passed_within front back n)
    (λ x there. filter_within (λ (e : Entry). e.incarnation == suc n) back.taken x (own x there)))

-- and replies as what was taken of these incarnations.
passed_replies : (from : Caller) (front : Fronted) (back : Backed) (n : ℕ)
    → times from (replied_in (gone (passed (incarnations front back n)))) ≡ weigh_among (replies from) n back.taken
passed_replies from front back zero = sym (none_among (replies from) back.taken)
passed_replies from front back (suc n) =
    let older = incarnations front back n in
    let i = incarnation_at front back n in
    omega (
      arith,
      passed_replies from front back n,
      one_more (replies from) n back.taken,
      ap (times from) (gone_both replied_by (passed older) (passed_in older i)),
      times-append from (replied_in (gone (passed older))) (replied_in (gone (passed_in older i))),
      ap (times from) (passed_fare older i).1,
      times-flat_map from answered_by (said_in i.taken),
      said_told from (entries_of (suc n) back.taken),
    )

-- And it asks no oftener.
passed_asks : (x : ℕ × ℕ) (front : Fronted) (back : Backed) (n : ℕ)
    → times_of x (asked_in (gone (passed (incarnations front back n)))) ≤ weigh_among (asks x) n back.taken
passed_asks x front back zero = omega (arith, none_among (asks x) back.taken)
passed_asks x front back (suc n) =
    let older = incarnations front back n in
    let i = incarnation_at front back n in
    omega (
      arith,
      passed_asks x front back n,
      one_more (asks x) n back.taken,
      ap (times_of x) (gone_both asked_by (passed older) (passed_in older i)),
      times_of-append x (asked_in (gone (passed older))) (asked_in (gone (passed_in older i))),
      (passed_fare older i).2 x,
      ap (times_of x) (said_asked i.taken),
      asked_times x (entries_of (suc n) back.taken),
    )

-- So with all incarnations.
pub passed_taken : PassedIsTaken
passed_taken front back =
    let n = suc (length back.stops) in
    let is_one : Entry → Bool = λ e. is_among n e.incarnation in (
      λ asked there. passed_within front back n asked there,
      λ from. omega (
        arith,
        passed_replies from front back n,
        replies_are_told from back.taken,
        sum_by-filter_both is_one (λ e. not (is_one e)) (λ e. refl) (replies from) back.taken,
      ),
      λ asked. omega (
        arith,
        passed_asks asked front back n,
        asked_times asked back.taken,
        sum_by-filter_both is_one (λ e. not (is_one e)) (λ e. refl) (asks asked) back.taken,
      ),
    )

-- And where each entry that was taken is of one of them, with all that was taken.
pub passed_all : PassedIsAll
passed_all front back each from =
    let n = suc (length back.stops) in
    let among = all_among from n back.taken (recursion_from_All _ back.taken each) in
    omega (arith, passed_replies from front back n, among, replies_are_told from back.taken)
