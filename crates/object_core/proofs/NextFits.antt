-- The next entry under way to a back is one that it takes.
use Rattle.std.proofs.Common.{◌≡◌, ◌∙◌, ap, sym, subst, refl, inl, inr, true≢false, ℕ, suc, ◌<◌, List, [], ◌∷◌, ◌++◌, length, arith, Option, None}
use Rattle.std.proofs.lemmas.Bool.{eq-eqb, ne_eqb, le-ltb, lt-ltb}
use Rattle.std.proofs.lemmas.List.Elements.{All-head}
use Rattle.std.specs.Prelude.{Bool, true, false, not, ◌&&◌, ◌==◌, ◌⊎◌, nat_lt, is_some}
use Rattle.std.specs.List.{All}
use Rattle.storage_map.specs.Contents.{Contents}
use Rattle.storage_map.specs.Limits.{Object}
use Rattle.storage_map.specs.declared.op.Op.{Op}
use Rattle.timeline.specs.Intake.{Kind, Front, Mode, serves, down}
use Rattle.timeline.specs.Logs.{Fronted, Backed, backed}
use Rattle.timeline.specs.Object.{Object as Seen, OpenTask, State, waiting}
use Rattle.timeline.specs.Passed.{is_mend}
use Rattle.timeline.specs.declared.entry.Body.{Body}
use Rattle.timeline.specs.declared.entry.Body.TheVariants as body
use Rattle.timeline.specs.declared.entry.Entry.{Entry}
use Rattle.timeline.specs.declared.event.Event.{Event}
use Rattle.timeline.specs.declared.notice.Notice.{Notice}
use Rattle.output_gate.specs.Entering.{is_unfit, identity_after}
use Rattle.output_gate.specs.Fits.{comes_behind, fits_mounted, fits_down, last_of}
use Rattle.output_gate.specs.Serving.{IsBackAs, marks_of}
use Rattle.output_gate.specs.Taking.{fit_as, fits_so, fit_of, is_mounted_mode, is_wanted}
use Rattle.output_gate.specs.declared.back.Back.{Back}
use Rattle.output_gate.specs.declared.back.Mode.{Mode as BackMode}
use Rattle.output_gate.specs.declared.back.Mode.TheVariants.{Mounted, Wanted, Down}
use Rattle.object_history.proofs.Asked.{is_asked_for}
use Rattle.object_history.proofs.Heads.{Head, is_own, is_late, head_of}
use Rattle.object_history.proofs.WellSaid.{delivers_well, answers_well}
use Rattle.object_history.proofs.Wishes.{IsNoWish, none_wished}
use Rattle.object_history.proofs.Readings.{phase_now}
use Rattle.object_history.specs.Pair.{Held, Stand, mounted, wanted, fallen, IsUnread, Together, unreached, answered, syncs, halts, read_fails, falls, wants, mends, misses, silent, IsPair, IsPhase}
use Rattle.object_history.specs.Saying.{is_asked}
use Rattle.object_history.specs.Seen.{stand_of}
use Rattle.object_core.proofs.DownSaid.{IsDown, DownFits}
use Rattle.object_core.proofs.Emptied.{all_behind}
use Rattle.object_core.proofs.Hearing.{not_none}
use Rattle.object_core.proofs.Knowing.{FitsAt, fit_at, knows_as, last_is}
use Rattle.object_core.proofs.KnownObject.{ends_by_halt, in_order, has_ended, number_is, never_late}
use Rattle.object_core.specs.Fitting.{known_by, known_over, FitsKnown, AreFit}
use Rattle.object_core.specs.Seen.{seen_of}

-- What fits the object, and asks for no mounting, is taken of an incarnation that is or was mounted.
known_fits : (known : Bool) (b : Body) → FitsKnown known b → is_mend b ≡ false → fits_mounted b known ≡ true
known_fits known (body.Bind identity) fits other = ap not fits
known_fits known (body.Batch ops tail confirmed) fits other = fits
known_fits known (body.Ask ask free) fits other = refl
known_fits known body.Sync fits other = refl
known_fits known (body.Message sent) fits other = refl
known_fits known (body.Halt c) fits other = fits
known_fits known body.Mend fits other = absurd (true≢false other)

late_fits : (on known : Bool) (b : Body) → fits_mounted b known ≡ true → fits_so false on known b ≡ true
late_fits true known b is = is
late_fits false known b is = is

fit_true : (x own on : Bool) → x ≡ true → is_unfit (fit_as x own on) ≡ false
fit_true true true true is = refl
fit_true true true false is = refl
fit_true true false on is = refl
fit_true false own on is = absurd (true≢false (sym is))

two : (a b : Bool) → a ≡ true → b ≡ true → (a && b) ≡ true
two true b one other = other
two false b one other = absurd (true≢false (sym one))

three : (a b c : Bool) → a ≡ true → b ≡ true → c ≡ true → (a && b && c) ≡ true
three true true true one two third = refl
three true true false one two third = absurd (true≢false (sym third))
three true false c one two third = absurd (true≢false (sym two))
three false b c one two third = absurd (true≢false (sym one))

-- What an entry of the newest incarnation is, by how that stands.
abbrev OwnFits : Stand → Body → Type 0
OwnFits mounted b = IsNoWish b
OwnFits (fallen c) b = IsDown b
OwnFits (wanted c) b = Unit {0}

module _ (start : Contents) (f : Front) (front : Fronted) (back : Backed) (read more : List Body) (b : Body) (said : f.said ≡ read ++ b ∷ more)
    (asks : (o : Seen) (t : OpenTask) (x : Body) → f.mode ≡ serves (waiting o t x) → is_asked x ≡ true) (is_down : DownFits f.mode f.said) where
  serves_fits : (state : State) → f.mode ≡ serves state → IsUnread f.mode (b ∷ more) ⊎ (b ∷ more ≡ []) → IsNoWish b
  serves_fits state mode u =
      All-head IsNoWish b more
      (none_wished (b ∷ more) state (λ o t x same. asks o t x (mode ∙ same)) (subst (λ (m : Mode). IsUnread m (b ∷ more) ⊎ (b ∷ more ≡ [])) mode u))

  falls_fits : (call : Option Event) → f.mode ≡ down call → IsDown b
  falls_fits call mode =
      All-head IsDown b more
      (all_behind IsDown read (b ∷ more) (subst (λ (bodies : List Body). All IsDown bodies) said (subst (λ (m : Mode). DownFits m f.said) mode is_down)))

  own_fits : (before : ℕ) (stand : Stand) (held : List Held) (notices : List Notice) → Together start f front back (b ∷ more) before stand held notices → OwnFits stand b
  own_fits before stand held notices (unreached state mode u) = serves_fits state mode (inl u)
  own_fits before stand held notices (answered n answer none) = absurd (not_none b more none)
  own_fits before stand held notices (syncs o t mode none) = absurd (not_none b more none)
  own_fits before stand held notices (halts c mode none some) = absurd (not_none b more none)
  own_fits before stand held notices (read_fails o t a free counts_before counts_after mode none) = absurd (not_none b more none)
  own_fits before stand held notices (falls call c mode u length_is) = falls_fits call mode
  own_fits before stand held notices (wants call c mode none length_is) = absurd (not_none b more none)
  own_fits before stand held notices (mends call c i mode none) = absurd (not_none b more none)
  own_fits before stand held notices (misses call c again counts_before counts_after older mode none missed length_is) = absurd (not_none b more none)
  own_fits before stand held notices (silent other none may) = absurd (not_none b more none)

-- The next entry is of the back's newest incarnation, or of the one before.
data NextIs (number : ℕ) (stand : Stand) (e : Entry) : Type 0 where
  own : e.incarnation ≡ number → OwnFits stand e.body → NextIs number stand e
  late : suc e.incarnation ≡ number → IsNoWish e.body → NextIs number stand e

module _ {D : Type 0} (moment_of : D → ℕ) (left_since : D → ℕ → List ℕ → Type 0) (told : D → Option (List ℕ)) (image : D → List ℕ → Type 0) (faults_of : D → ℕ)
    (start : List (List Op)) (opening : ℕ) (sound : Bool) (back : Back D) (known : IsBackAs moment_of left_since told image faults_of start opening sound back)
    (k : Kind) (opened : Contents) (f : Front) (front : Fronted) (e : Entry) (rest : List Entry) (notices : List Notice)
    (pair : IsPair k opened f front (seen_of opened back) (e ∷ rest) notices) (first : Bool) (fit : AreFit first None front.sent) (is_down : DownFits f.mode f.said)
    (no_mounting : is_wanted back.mode ≡ false) (object : is_some back.identity ≡ known_over first back.log.taken.items) where
  abbrev taken : List Entry
  taken = back.log.taken.items

  number : back.number ≡ suc (length back.log.stops.items)
  number = number_is moment_of left_since told image faults_of start opening sound front back known

  here : FitsAt first None taken e
  here = fit_at first None taken e rest (subst (λ (entries : List Entry). AreFit first None entries) pair.lined.sent fit)

  comes : comes_behind (last_of taken) e ≡ true
  comes = ap (λ (last : Option Entry). comes_behind last e) (sym (last_is taken)) ∙ here.comes

  fits_object : FitsKnown (is_some back.identity) e.body
  fits_object = subst (λ (x : Bool). FitsKnown x e.body) (sym object) here.knows

  asks : (o : Seen) (t : OpenTask) (x : Body) → f.mode ≡ serves (waiting o t x) → is_asked x ≡ true
  asks o t x mode = is_asked_for (record { on_event = delivers_well; on_answer = answers_well }) k _ pair.start f front (backed back.log) pair.newest_said o t x mode

  abbrev Next : Type 0
  Next = NextIs back.number (stand_of back.mode) e

  next_by : (lates : List Entry) (unreads : List Body) → Head f.incarnation (suc (length pair.lined.read)) e rest lates unreads → f.said ≡ pair.lined.read ++ unreads
      → All (λ (x : Entry). suc x.incarnation ≡ f.incarnation) lates → All (λ (x : Entry). IsNoWish x.body) lates
      → IsPhase opened pair.below pair.start f front (seen_of opened back) unreads lates notices → Next
  next_by _ _ (is_own b more same left) said of_before no_wish (inl together) =
      own (omega (arith, ap (λ (x : Entry). x.incarnation) same, number, together.0, pair.number))
      (subst (λ (x : Entry). OwnFits (stand_of back.mode) x.body) (sym same)
      (own_fits pair.start f front (backed back.log) pair.lined.read more b said asks is_down back.before (stand_of back.mode) _ notices together.1))
  next_by _ _ (is_own b more same left) said of_before no_wish (inr behind) =
      late (omega (arith, ap (λ (x : Entry). x.incarnation) same, number, behind.0, pair.number))
      (subst (λ (x : Entry). IsNoWish x.body) (sym same)
      (serves_fits pair.start f front (backed back.log) pair.lined.read more b said asks is_down behind.1.state behind.1.mode behind.1.is_unread))
  next_by _ _ (is_late x lates unreads same left) said of_before no_wish (inl together) =
      late (omega (arith, ap (λ (y : Entry). y.incarnation) same, All-head (λ (y : Entry). suc y.incarnation ≡ f.incarnation) x lates of_before, number, together.0, pair.number))
      (subst (λ (y : Entry). IsNoWish y.body) (sym same) (All-head (λ (y : Entry). IsNoWish y.body) x lates no_wish))
  next_by _ _ (is_late x lates unreads same left) said of_before no_wish (inr behind) = absurd (not_none x lates behind.1.none_late)

  next : Next
  next =
      next_by pair.lined.late pair.lined.unread (head_of f.incarnation (suc (length pair.lined.read)) e rest pair.lined.late pair.lined.unread pair.lined.is_line)
      pair.lined.said pair.lined.lates pair.lined.no_wish (phase_now pair)

  -- By how the back stands.
  own_so : (m : BackMode) → is_wanted m ≡ false → OwnFits (stand_of m) e.body → fits_so true (is_mounted_mode m) (is_some back.identity) e.body ≡ true
  own_so Mounted none fits = known_fits (is_some back.identity) e.body fits_object fits
  own_so (Down ending) none fits = fits
  own_so (Wanted ending) none fits = absurd (true≢false none)

  body_fits : Next → fits_so (e.incarnation == back.number) (is_mounted_mode back.mode) (is_some back.identity) e.body ≡ true
  body_fits (own is fits) =
      ap (λ (x : Bool). fits_so x (is_mounted_mode back.mode) (is_some back.identity) e.body) (eq-eqb e.incarnation back.number is) ∙ own_so back.mode no_mounting fits
  body_fits (late is fits) =
      ap (λ (x : Bool). fits_so x (is_mounted_mode back.mode) (is_some back.identity) e.body) (ne_eqb e.incarnation back.number (λ same. omega (arith, same, is)))
      ∙ late_fits (is_mounted_mode back.mode) (is_some back.identity) e.body (known_fits (is_some back.identity) e.body fits_object fits)

  within : Next → not (nat_lt back.number e.incarnation) ≡ true
  within (own is fits) = ap not (le-ltb back.number e.incarnation (omega (arith, is)))
  within (late is fits) = ap not (le-ltb back.number e.incarnation (omega (arith, is)))

  abbrev fits_all : Bool
  fits_all = comes_behind (last_of taken) e && not (nat_lt back.number e.incarnation)
      && fits_so (e.incarnation == back.number) (is_mounted_mode back.mode) (is_some back.identity) e.body

  pub next_fits : is_unfit (fit_of back e) ≡ false
  next_fits =
      fit_true fits_all (e.incarnation == back.number) (is_mounted_mode back.mode)
      (three (comes_behind (last_of taken) e) (not (nat_lt back.number e.incarnation))
      (fits_so (e.incarnation == back.number) (is_mounted_mode back.mode) (is_some back.identity) e.body) comes (within next) (body_fits next))

  -- Behind it the object is known where it was, or is bound by it.
  bound_on : (bound : Object) → e.body ≡ body.Bind bound → (m : BackMode) → OwnFits (stand_of m) e.body → is_wanted m ≡ false → is_mounted_mode m ≡ true
  bound_on bound is Mounted fits none = refl
  bound_on bound is (Down ending) fits none = absurd (true≢false (sym fits ∙ ap fits_down is))
  bound_on bound is (Wanted ending) fits none = absurd (true≢false none)

  bound_own : (bound : Object) → e.body ≡ body.Bind bound → Next → (e.incarnation ≡ back.number) × (is_mounted_mode back.mode ≡ true)
  bound_own bound is (own same fits) = (same, bound_on bound is back.mode fits no_mounting)
  bound_own bound is (late before fits) =
      absurd (never_late (backed back.log) e first here.first comes (subst (λ (b : Body). FitsKnown (known_over first taken) b) is here.knows)
      (in_order moment_of left_since told image faults_of start opening sound front back known)
      (ends_by_halt moment_of left_since told image faults_of start opening sound front back known) (marks_of back) front
      (has_ended moment_of left_since told image faults_of start opening sound front back known) (omega (arith, before, number)))

  pub known_behind : is_some (identity_after (fit_of back e) back.identity e.body) ≡ known_by e.body (known_over first taken)
  known_behind =
      knows_as back.identity fits_all (e.incarnation == back.number) (is_mounted_mode back.mode) e.body next_fits
      (λ bound is. let o = bound_own bound is next in (eq-eqb e.incarnation back.number o.0, o.1))
      ∙ ap (λ (x : Bool). known_by e.body x) object
