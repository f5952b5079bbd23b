-- What each entry does to a back that serves, in one step.
use Rattle.std.proofs.Common.{◌≡◌, ◌∙◌, ap, sym, refl, subst, inl, inr, ℕ, ◌+◌, ◌-◌, List, [], ◌∷◌, ◌++◌, Option, Some, None, length, append-nil, Global}
use Rattle.std.specs.declared.collections.VecDeque.{VecDeque}
use Rattle.std.specs.Prelude.{Bool, Result, Ok, Err, IfOk, OnOk, OnErr, unwrap_or, true, false, not, is_some}
use Rattle.batch_journal.specs.Moments.{IsTold}
use Rattle.storage_cache.specs.Cached.{Cached}
use Rattle.storage_cache.specs.Counted.{removed_last}
use Rattle.storage_map.specs.Contents.{Contents}
use Rattle.storage_map.specs.Limits.{Object}
use Rattle.storage_map.specs.declared.op.Op.{Op}
use Rattle.timeline.specs.Logs.{backed}
use Rattle.timeline.specs.Passed.{follows, is_mend}
use Rattle.timeline.specs.declared.back_log.BackLog.{BackLog}
use Rattle.timeline.specs.Told.{said_by, batches_of}
use Rattle.timeline.specs.declared.entry.Body.{Body}
use Rattle.timeline.specs.declared.entry.Body.TheVariants as body
use Rattle.timeline.specs.declared.entry.Entry.{Entry}
use Rattle.timeline.specs.declared.message.Message.{Message}
use Rattle.output_gate.specs.Entering.{StandsForMap, TakesOwn, FailsOwn, TakesDown, FailsDown, held_by, before_by, needs_behind, identity_by, asked}
use Rattle.output_gate.specs.Storing.{IsDiskOf, Stages, StagesOps}
use Rattle.output_gate.specs.declared.back.Ending.{Ending}
use Rattle.output_gate.specs.declared.back.Mode.{Mode}
use Rattle.output_gate.specs.declared.back.Mode.TheVariants.{Wanted, Down}
use Rattle.output_gate.specs.declared.store.Store.{Store}
use Rattle.output_gate.specs.declared.store.Store.TheVariants as store
use Rattle.batch_journal.specs.declared.journal.Journal.{Journal}
use Rattle.do_value.specs.declared.fault.NoMemory.{NoMemory}
use Rattle.storage_map.specs.Ops.{batch_bytes}
use Rattle.output_gate.proofs.Unmounting.{unmounted_held, unmounted_message, unmounted_mend}
use Rattle.output_gate.specs.Fits.{is_halt, comes_behind, last_of}
use Rattle.output_gate.specs.Held.{passed_by, has_failed_read, is_held_halt, halts_well, unread_by, unread_in}
use Rattle.output_gate.proofs.Endings.{needs_none}
use Rattle.output_gate.proofs.Helds.{true_false}
use Rattle.output_gate.specs.Passing.{IsSilent}
use Rattle.output_gate.specs.Serving.{IsMounted, IsUnmounted, IsAtEnd, IsAsBefore}
use Rattle.output_gate.specs.Taking.{LogTook, notice_of}
use Rattle.timeline.specs.declared.notice.Notice.{Notice}
use Rattle.timeline.specs.declared.notice.Notice.TheVariants as notices
use Rattle.output_gate.specs.declared.back.Back.{Back}
use Rattle.output_gate.specs.declared.held.Held.{Held}
use Rattle.output_gate.specs.declared.held.HeldBody.{HeldBody}
use Rattle.output_gate.specs.declared.held.HeldBody.TheVariants as held_body
use Rattle.output_gate.proofs.Stored.{reads_of, still_disk, staged_disk}
use Rattle.output_gate.proofs.Reading.{unread_push, unread_none}
use Rattle.output_gate.proofs.Takings.{HoldsMore, mounted_silent, mounted_message, mounted_bind, mounted_batch, mounted_same, kept_fails, same_log}

-- all that changed are the store, the cache and the room of the lists
pub as_before : {D : Type 0} (old new : Back D) (store : Store D) (cache : Cached) (held : VecDeque Held Global) (log : BackLog)
    → new ≡ record old { store = store; cache = cache; held = held; log = log } → backed log ≡ backed old.log → held.items ≡ old.held.items → IsAsBefore old new
as_before old new store cache held log is logs items = record {
  log = ap (λ (b : Back _). backed b.log) is ∙ logs;
  held = ap (λ (b : Back _). b.held.items) is ∙ items;
  stuck = ap (λ (b : Back _). b.stuck) is;
  identity = ap (λ (b : Back _). b.identity) is;
  mode = ap (λ (b : Back _). b.mode) is;
  before = ap (λ (b : Back _). b.before) is;
  durable = ap (λ (b : Back _). b.durable) is;
  limit = ap (λ (b : Back _). b.limit) is;
}

-- what the front is told of a batch
pub count_told : (number : ℕ) (m : Contents) (ops : List Op) (tail : Option ℕ) (confirmed : Bool) (t count : ℕ) → tail ≡ Some t → count ≡ removed_last (unwrap_or tail 0) m ops
    → Some (notices.Taken number count) ≡ notice_of number m (body.Batch ops tail confirmed)
count_told number m ops (Some tail) confirmed t count some is = ap (λ (n : ℕ). Some (notices.Taken number n)) is
count_told number m ops None confirmed t count none is = absurd cc

pub none_told : (number : ℕ) (m : Contents) (ops : List Op) (tail : Option ℕ) (confirmed : Bool) → tail ≡ None → None ≡ notice_of number m (body.Batch ops tail confirmed)
none_told number m ops None confirmed is = refl
none_told number m ops (Some tail) confirmed is = absurd cc

-- a fact of an answer, as one where there is an answer
pub if_on_ok : {X E : Type 0} {P : X → Type 0} {Q : Type 0} (r : Result X E) → ((x : X) → P x → Q) → IfOk r P → OnOk r Q
if_on_ok (Ok x) f p = f x p
if_on_ok (Err e) f p = tt

-- a fact, where an error is
pub on_err : {X E : Type 0} (r : Result X E) (P : Type 0) → P → OnErr r P
on_err (Ok x) P fact = tt
on_err (Err e) P fact = fact

module _ {D : Type 0} (moment_of : D → ℕ) (left_since : D → ℕ → List ℕ → Type 0) (told : D → Option (List ℕ)) (image : D → List ℕ → Type 0) (faults_of : D → ℕ) where
  pub failed_hold : (old new : Back D) → new.held.items ≡ old.held.items → new ≡ record old { held = new.held } → FailsOwn moment_of left_since told image faults_of old new
  failed_hold old new items same = record {
    same = as_before old new old.store old.cache new.held old.log same refl items;
    disk = reads_of told old.store new.store (still_disk old.store new.store (ap (λ (x : Back D). x.store) same));
    back = λ start opening m. kept_fails moment_of left_since told image faults_of start opening true old new old.cache new.held old.log same (same_log moment_of left_since told image faults_of start opening true old.log) items m;
  }

  pub failed_same : (old : Back D) → FailsOwn moment_of left_since told image faults_of old old
  failed_same old = record {
    same = as_before old old old.store old.cache old.held old.log refl refl refl;
    disk = reads_of told old.store old.store (still_disk old.store old.store refl);
    back = λ start opening m. kept_fails moment_of left_since told image faults_of start opening true old old old.cache old.held old.log refl (same_log moment_of left_since told image faults_of start opening true old.log) refl m;
  }

  abbrev entry_of : Back D → ℕ → Body → Entry
  entry_of old number b = record { incarnation = old.number; number = number; body = b }

  abbrev held_now : Back D → HeldBody → Held
  held_now old b = record { body = b; needs = old.before; since = old.number }

  abbrev message_now : Back D → Message → Held
  message_now old sent = record { body = held_body.Message sent; needs = old.needs; since = old.number }

  -- the log of what was held first
  log_behind : (old mid new : Back D) (number : ℕ) (b : Body) → mid ≡ record old { held = mid.held } → LogTook mid.log new.log (entry_of mid number b) → LogTook old.log new.log (entry_of old number b)
  log_behind old mid new number b same took = record {
    taken = took.taken ∙ ap (λ (x : Back D). record (backed x.log) { taken = x.log.taken.items ++ entry_of x number b ∷ [] }) same;
    flights = took.flights;
    stops = took.stops;
  }

  same_behind : (old mid new : Back D) → mid ≡ record old { held = mid.held } → new ≡ record mid { log = new.log } → new ≡ record old { held = new.held; log = new.log }
  same_behind old mid new first then =
      then ∙ ap (λ (x : Back D). record x { log = new.log }) first ∙ ap (λ h. record old { held = h; log = new.log }) (ap (λ (x : Back D). x.held) (sym then))

  -- the front is told this of it
  abbrev Answers : Back D → ℕ → Body → Option Notice → Type 0
  Answers old number b answer = (disk : D) → IsDiskOf old.store disk → IsTold (told disk) → (m : Contents) → StandsForMap told image m old → answer ≡ notice_of number m b

  -- nothing of a read that failed is held behind it
  unread_behind : (old : Back D) (held : List Held) (h : Held) → has_failed_read old.held.items ≡ false → held ≡ old.held.items ++ h ∷ [] → unread_by h.body ≡ [] → unread_in held ≡ []
  unread_behind old held h on items none =
      ap unread_in items ∙ unread_push old.held.items h ∙ ap (λ cs. cs ++ unread_by h.body) (unread_none old.held.items on) ∙ none

  pub took_silent : (old mid new : Back D) (number : ℕ) (b : Body) (h : HeldBody) → comes_behind (last_of old.log.taken.items) (entry_of old number b) ≡ true → has_failed_read old.held.items ≡ false
      → Answers old number b None → unread_by h ≡ []
      → is_mend b ≡ false → IsSilent b → batches_of (said_by b) ≡ [] → ((n s : ℕ) → passed_by h n s ≡ []) → (is_held_halt h ≡ true → halts_well h ≡ true) → is_held_halt h ≡ is_halt b
      → mid.held.items ≡ old.held.items ++ held_now old h ∷ [] → mid ≡ record old { held = mid.held } → LogTook mid.log new.log (entry_of mid number b) → new ≡ record mid { log = new.log }
      → held_now old h ∷ [] ≡ held_by old.before old.needs old.number number b → old.before ≡ before_by b old.before → old.identity ≡ identity_by b old.identity → TakesOwn moment_of left_since told image faults_of old new number b None
  took_silent old mid new number b h comes on answers unread other silent nothing says well halts items first log then so even known =
      let took = log_behind old mid new number b first log in
      let same = same_behind old mid new first then in
      let held : new.held.items ≡ old.held.items ++ held_now old h ∷ [] = ap (λ (x : Back D). x.held.items) then ∙ items in
      record {
        failed = None;
        may = tt;
        answers = answers;
        rose = λ disk at tells. tt;
        log = took.taken;
        stuck = ap (λ (x : Back D). x.stuck) same;
        identity = ap (λ (x : Back D). x.identity) same ∙ known;
        holds = held ∙ ap (λ more. old.held.items ++ more) so;
        mode = ap (λ (x : Back D). x.mode) same;
        before = ap (λ (x : Back D). x.before) same ∙ even;
        needs = ap (λ (x : Back D). x.needs) same ∙ sym (needs_none b old.before old.needs nothing);
        durable = ap (λ (x : Back D). x.durable) same;
        limit = ap (λ (x : Back D). x.limit) same;
        disk = reads_of told old.store new.store (still_disk old.store new.store (ap (λ (x : Back D). x.store) same));
        back = λ start opening m. subst (IsMounted moment_of left_since told image faults_of start opening true) (sym same)
            (mounted_silent moment_of left_since told image faults_of start opening true old new.log new.held (entry_of old number b) m took refl comes on other silent nothing
            (HoldsMore.one_more (held_now old h) held (sym (says old.before old.number)) (λ yes. (refl, well yes)) halts)
            (unread_behind old new.held.items (held_now old h) on held unread));
      }

  pub took_message : (old mid new : Back D) (number : ℕ) (sent copy : Message) → copy ≡ sent → comes_behind (last_of old.log.taken.items) (entry_of old number (body.Message sent)) ≡ true → has_failed_read old.held.items ≡ false
      → mid.held.items ≡ old.held.items ++ message_now old copy ∷ [] → mid ≡ record old { held = mid.held } → LogTook mid.log new.log (entry_of mid number (body.Message sent)) → new ≡ record mid { log = new.log }
      → TakesOwn moment_of left_since told image faults_of old new number (body.Message sent) None
  took_message old mid new number sent copy equal comes on items first log then =
      let took = log_behind old mid new number (body.Message sent) first log in
      let same = same_behind old mid new first then in
      let held : new.held.items ≡ old.held.items ++ message_now old sent ∷ [] =
      ap (λ (x : Back D). x.held.items) then ∙ items ∙ ap (λ (m : Message). old.held.items ++ message_now old m ∷ []) equal in
      record {
        failed = None;
        may = tt;
        answers = λ disk at tells m has. refl;
        rose = λ disk at tells. tt;
        log = took.taken;
        stuck = ap (λ (x : Back D). x.stuck) same;
        identity = ap (λ (x : Back D). x.identity) same;
        holds = held;
        mode = ap (λ (x : Back D). x.mode) same;
        before = ap (λ (x : Back D). x.before) same;
        needs = ap (λ (x : Back D). x.needs) same;
        durable = ap (λ (x : Back D). x.durable) same;
        limit = ap (λ (x : Back D). x.limit) same;
        disk = reads_of told old.store new.store (still_disk old.store new.store (ap (λ (x : Back D). x.store) same));
        back = λ start opening m. subst (IsMounted moment_of left_since told image faults_of start opening true) (sym same)
            (mounted_message moment_of left_since told image faults_of start opening true old new.log new.held (entry_of old number (body.Message sent)) sent m took refl comes on refl
            (unread_behind old new.held.items (message_now old sent) on held refl)
            (HoldsMore.one_more (message_now old sent) held refl (λ yes. absurd (true_false (sym yes))) refl));
      }

  is_nobody : (identity : Option Object) → not (is_some identity) ≡ true → identity ≡ None
  is_nobody None is = refl
  is_nobody (Some object) is = absurd (true_false (sym is))

  pub took_bind : (old new : Back D) (number : ℕ) (object copy : Object) → copy ≡ object → comes_behind (last_of old.log.taken.items) (entry_of old number (body.Bind object)) ≡ true → has_failed_read old.held.items ≡ false
      → not (is_some old.identity) ≡ true → LogTook old.log new.log (entry_of old number (body.Bind object)) → new ≡ record old { identity = Some copy; log = new.log }
      → TakesOwn moment_of left_since told image faults_of old new number (body.Bind object) None
  took_bind old new number object copy equal comes on known took same = record {
    failed = None;
    may = tt;
    answers = λ disk at tells m has. refl;
    rose = λ disk at tells. tt;
    log = took.taken;
    stuck = ap (λ (x : Back D). x.stuck) same;
    identity = ap (λ (x : Back D). x.identity) same ∙ ap Some equal;
    holds = ap (λ (x : Back D). x.held.items) same ∙ sym (append-nil old.held.items);
    mode = ap (λ (x : Back D). x.mode) same;
    before = ap (λ (x : Back D). x.before) same;
    needs = ap (λ (x : Back D). x.needs) same;
    durable = ap (λ (x : Back D). x.durable) same;
    limit = ap (λ (x : Back D). x.limit) same;
    disk = reads_of told old.store new.store (still_disk old.store new.store (ap (λ (x : Back D). x.store) same));
    back = λ start opening m. subst (IsMounted moment_of left_since told image faults_of start opening true) (ap (λ o. record old { identity = Some o; log = new.log }) (sym equal) ∙ sym same)
        (mounted_bind moment_of left_since told image faults_of start opening true old new.log number object m took (is_nobody old.identity known) comes on);
  }

  -- a batch
  pub somebody : (identity : Option Object) → is_some identity ≡ true → (object : Object) × (identity ≡ Some object)
  somebody None is = absurd (true_false (sym is))
  somebody (Some object) is = (object, refl)

  pub failed_stage : {A : Type 0} (old new : Back D) (object : Object) (ops : List Op) (e : NoMemory) (journal : Journal D) → old.store ≡ store.Journal journal
      → ((journal : Journal D) → old.store ≡ store.Journal journal → Stages {A = A} told image journal new.store object ops (Err e))
      → new ≡ record old { store = new.store; cache = new.cache } → FailsOwn moment_of left_since told image faults_of old new
  failed_stage old new object ops e journal at stages same = record {
    same = as_before old new new.store new.cache old.held old.log same refl refl;
    disk = let st = stages journal at in reads_of told old.store new.store (staged_disk old.store new.store journal st.new at st.is st.disk st.limit st.end);
    back = λ start opening m.
        let st = stages m.journal m.safe.store in
        subst (IsMounted moment_of left_since told image faults_of start opening false)
        (ap (λ (s : Store D). record old { store = s; cache = new.cache }) (sym st.is) ∙ sym same)
        (mounted_same moment_of left_since told image faults_of start opening true false old old.log old.held st.new new.cache old.stuck m
        (same_log moment_of left_since told image faults_of start opening true old.log) refl st.same_staged st.frames st.disk (λ yes. absurd (true_false (sym yes))));
  }

  pub took_batch : {A : Type 0} (old mid add : Back D) (number : ℕ) (ops : List Op) (tail : Option ℕ) (confirmed : Bool) (size needs : ℕ) (object : Object) (x : A) (answer : Option Notice) → old.identity ≡ Some object
      → (journal : Journal D) → old.store ≡ store.Journal journal → comes_behind (last_of old.log.taken.items) (entry_of old number (body.Batch ops tail confirmed)) ≡ true → has_failed_read old.held.items ≡ false
      → Answers old number (body.Batch ops tail confirmed) answer → size ≡ length (batch_bytes ops) → needs ≡ follows old.before old.needs confirmed
      → ((journal : Journal D) → old.store ≡ store.Journal journal → Stages told image journal mid.store object ops (Ok x))
      → ((journal : Journal D) → old.store ≡ store.Journal journal → StagesOps told image journal old.cache mid.cache object ops (Ok x))
      → mid ≡ record old { store = mid.store; cache = mid.cache } → LogTook mid.log add.log (entry_of mid number (body.Batch ops tail confirmed)) → add ≡ record mid { log = add.log }
      → (last : Back D) → last ≡ record (record add { before = add.before + 1; own = add.own + 1; unflushed = add.unflushed + size }) { needs = needs }
      → TakesOwn moment_of left_since told image faults_of old last number (body.Batch ops tail confirmed) answer
  took_batch old mid add number ops tail confirmed size needs object x answer named journal at comes on answers is_size is_needs stages stores first log then last ends =
      let e : Entry = entry_of old number (body.Batch ops tail confirmed) in
      let f : Back D → Back D = λ x. record x { before = x.before + 1; own = x.own + 1; needs = needs; unflushed = x.unflushed + size } in
      let same : add ≡ record old { cache = mid.cache; store = mid.store; log = add.log } = then ∙ ap (λ (x : Back D). record x { log = add.log }) first in
      let took : LogTook old.log add.log e = record {
        taken = log.taken ∙ ap (λ (x : Back D). record (backed x.log) { taken = x.log.taken.items ++ entry_of x number (body.Batch ops tail confirmed) ∷ [] }) first;
        flights = log.flights;
        stops = log.stops;
      } in
      subst (λ (x : Back D). TakesOwn moment_of left_since told image faults_of old x number (body.Batch ops tail confirmed) answer) (sym ends) record {
        failed = None;
        may = tt;
        answers = answers;
        rose = λ disk at tells. tt;
        log = took.taken;
        stuck = ap (λ (x : Back D). x.stuck) same;
        identity = ap (λ (x : Back D). x.identity) same;
        holds = ap (λ (x : Back D). x.held.items) same ∙ sym (append-nil old.held.items);
        mode = ap (λ (x : Back D). x.mode) same;
        before = ap (λ (x : Back D). x.before + 1) same;
        needs = is_needs;
        durable = ap (λ (x : Back D). x.durable) same;
        limit = ap (λ (x : Back D). x.limit) same;
        disk = let st = stages journal at in reads_of told old.store add.store (staged_disk old.store add.store journal st.new at (ap (λ (x : Back D). x.store) then ∙ st.is) st.disk st.limit st.end);
        back = λ start opening m.
            let st = stages m.journal m.safe.store in
            let so = stores m.journal m.safe.store in
            subst (IsMounted moment_of left_since told image faults_of start opening true)
            (ap (λ (s : Store D). f (record old { cache = mid.cache; store = s; log = add.log })) (sym st.is) ∙ ap f (sym same))
            (mounted_batch moment_of left_since told image faults_of start opening true old add.log number ops tail confirmed st.new mid.cache (old.unflushed + size) needs object m took named comes on st.staged st.frames st.disk
            (record { stored = so.stored; kept = so.kept })
            (ap (λ (n : ℕ). old.unflushed + n) is_size) is_needs);
      }

  -- what is needed behind it
  pub follows_so : (old add : Back D) (confirmed : Bool) → add.before ≡ old.before → add.needs ≡ old.needs → needs_behind confirmed (add.before + 1) add.needs ≡ follows old.before old.needs confirmed
  follows_so old add true before needs = ap (λ n. n + 1) before
  follows_so old add false before needs = needs

  -- of an incarnation that isn't mounted
  pub failed_down : (old new : Back D) → new.held.items ≡ old.held.items → new ≡ record old { held = new.held } → FailsDown moment_of left_since told image faults_of old new
  failed_down old new items same = record {
    same = as_before old new old.store old.cache new.held old.log same refl items;
    disk = still_disk old.store new.store (ap (λ (x : Back D). x.store) same);
    back = λ start opening u. subst (IsUnmounted moment_of left_since told image faults_of start opening) (sym same) (unmounted_held moment_of left_since told image faults_of start opening old new.held u items);
  }

  abbrev ending_or : Mode → Ending → Ending
  ending_or (Down e) other = e
  ending_or mode other = other

  abbrev is_down_now : Mode → Type 0
  is_down_now (Down e) = Unit {0}
  is_down_now mode = ⊥

  never_both : (one ending : Ending) → Down ending ≡ Wanted one → ⊥
  never_both one ending same = subst is_down_now same tt

  same_ending : (one ending : Ending) (mode : Mode) → IsAtEnd one mode → mode ≡ Down ending → one ≡ ending
  same_ending one ending mode (inl wanted) down = absurd (never_both one ending (sym down ∙ wanted))
  same_ending one ending mode (inr is) down = ap (λ m. ending_or m one) (sym is ∙ down)

  pub took_mend : (old mid new : Back D) (number : ℕ) (ending : Ending) → old.mode ≡ Down ending → mid ≡ record old { mode = Wanted ending }
      → LogTook mid.log new.log (entry_of mid number body.Mend) → new ≡ record mid { log = new.log } → TakesDown moment_of left_since told image faults_of old new number body.Mend
  took_mend old mid new number ending down first log then =
      let same : new ≡ record old { mode = Wanted ending; log = new.log } = then ∙ ap (λ (x : Back D). record x { log = new.log }) first in
      let took : LogTook old.log new.log (entry_of old number body.Mend) = record {
        taken = log.taken ∙ ap (λ (x : Back D). record (backed x.log) { taken = x.log.taken.items ++ entry_of x number body.Mend ∷ [] }) first;
        flights = log.flights;
        stops = log.stops;
      } in
      record {
        log = took.taken;
        stuck = ap (λ (x : Back D). x.stuck) same;
        identity = ap (λ (x : Back D). x.identity) same;
        holds = ap (λ (x : Back D). x.held.items) same ∙ sym (append-nil old.held.items);
        mode = ap (λ (x : Back D). x.mode) same ∙ sym (ap asked down);
        before = ap (λ (x : Back D). x.before) same;
        needs = ap (λ (x : Back D). x.needs) same;
        durable = ap (λ (x : Back D). x.durable) same;
        limit = ap (λ (x : Back D). x.limit) same;
        disk = still_disk old.store new.store (ap (λ (x : Back D). x.store) same);
        back = λ start opening u. subst (IsUnmounted moment_of left_since told image faults_of start opening)
            (ap (λ (e : Ending). record old { mode = Wanted e; log = new.log }) (same_ending u.ending ending old.mode u.safe.mode down) ∙ sym same)
            (unmounted_mend moment_of left_since told image faults_of start opening old new.log (entry_of old number body.Mend) u took refl refl);
      }

  pub took_down : (old mid new : Back D) (number : ℕ) (sent copy : Message) (ending : Ending) → old.mode ≡ Down ending → copy ≡ sent
      → mid.held.items ≡ old.held.items ++ record { body = held_body.Message copy; needs = old.before; since = old.number - 1 } ∷ [] → mid ≡ record old { held = mid.held }
      → LogTook mid.log new.log (entry_of mid number (body.Message sent)) → new ≡ record mid { log = new.log } → TakesDown moment_of left_since told image faults_of old new number (body.Message sent)
  took_down old mid new number sent copy ending down equal items first log then =
      let took = log_behind old mid new number (body.Message sent) first log in
      let same = same_behind old mid new first then in
      let held : new.held.items ≡ old.held.items ++ record { body = held_body.Message sent; needs = old.before; since = old.number - 1 } ∷ [] =
      ap (λ (x : Back D). x.held.items) then ∙ items ∙ ap (λ (m : Message). old.held.items ++ record { body = held_body.Message m; needs = old.before; since = old.number - 1 } ∷ []) equal in
      record {
        log = took.taken;
        stuck = ap (λ (x : Back D). x.stuck) same;
        identity = ap (λ (x : Back D). x.identity) same;
        holds = held;
        mode = ap (λ (x : Back D). x.mode) same;
        before = ap (λ (x : Back D). x.before) same;
        needs = ap (λ (x : Back D). x.needs) same;
        durable = ap (λ (x : Back D). x.durable) same;
        limit = ap (λ (x : Back D). x.limit) same;
        disk = still_disk old.store new.store (ap (λ (x : Back D). x.store) same);
        back = λ start opening u. subst (IsUnmounted moment_of left_since told image faults_of start opening) (sym same)
            (unmounted_message moment_of left_since told image faults_of start opening old new.log new.held (entry_of old number (body.Message sent)) sent u took refl refl
            (down ∙ ap Down (sym (same_ending u.ending ending old.mode u.safe.mode down))) held);
      }
