-- The marker that a mounting writes behind frames of format 1, and what the frames are with it.
use Rattle.std.proofs.Common.{◌≡◌, inr, ℕ, ◌+◌, ◌<◌, ◌≤◌, ◌^◌, List, [], ◌∷◌, ◌++◌, length, Option, refl, sym, ◌∙◌, ap, subst, arith, length-append}
use Rattle.std.specs.Prelude.{Bool, true, false, nat_lt}
use Rattle.std.proofs.lemmas.Bool.{false≢true, lt-ltb, ltb-true}
use Rattle.std.proofs.lemmas.List.Elements.{All-push}
use Rattle.storage_map.specs.Limits.{Object}
use Rattle.storage_map.specs.declared.op.Op.{Op}
use Rattle.batch_journal.specs.Frames.{Version, One, Two, Frame, holds, marker, journal_bytes, batches_of, batches_in, IsObjectOf, Names, format_after, MayStand, AreFrames, has_room, with_marker, mounted}
use Rattle.batch_journal.specs.Recovery.{IsJournal, Recovers}
use Rattle.batch_journal.specs.Laws.{MountingKeepsTheMap}
use Rattle.batch_journal.proofs.Journals.{frames_push, format_push}

-- behind the marker the format is 2
pub marked_format : (version : Version) (frames : List Frame) → format_after version (frames ++ marker ∷ []) ≡ Two
marked_format version frames = format_push version frames marker

-- with the marker the frames are not the same
pub marked_differs : (frames : List Frame) → frames ++ marker ∷ [] ≡ frames → ⊥
marked_differs frames same = omega (arith, ap length same, length-append frames (marker ∷ []))

-- frames that a mounting leaves as they are have format 2 behind them, or no room
settled_format : (format : Version) (room : Bool) (frames : List Frame) → with_marker format room frames ≡ frames → room ≡ true → format ≡ Two
settled_format One true frames same is = absurd (marked_differs frames same)
settled_format One false frames same is = absurd (false≢true is)
settled_format Two room frames same is = refl

pub settled_two : (version : Version) (frames : List Frame) → mounted version frames ≡ frames → length (journal_bytes frames) + 46 < 2 ^ 64 → format_after version frames ≡ Two
settled_two version frames settled room =
    settled_format (format_after version frames) (has_room frames) frames settled (lt-ltb (length (journal_bytes frames) + 46) (2 ^ 64) room)

-- behind format 2 a mounting leaves the frames as they are
two_settled : (format : Version) (room : Bool) (frames : List Frame) → format ≡ Two → with_marker format room frames ≡ frames
two_settled format room frames is = ap (λ (f : Version). with_marker f room frames) is

pub stays_two : (version : Version) (frames : List Frame) → format_after version frames ≡ Two → mounted version frames ≡ frames
stays_two version frames is = two_settled (format_after version frames) (has_room frames) frames is

-- and where there is no room
no_room : (format : Version) (room : Bool) (frames : List Frame) → room ≡ false → with_marker format room frames ≡ frames
no_room One true frames is = absurd (false≢true (sym is))
no_room One false frames is = refl
no_room Two room frames is = refl

pub stays_full : (version : Version) (frames : List Frame) → 2 ^ 64 ≤ length (journal_bytes frames) + 46 → mounted version frames ≡ frames
stays_full version frames full = no_room (format_after version frames) (has_room frames) frames (not_less (length (journal_bytes frames) + 46) (2 ^ 64) (nat_lt (length (journal_bytes frames) + 46) (2 ^ 64)) refl full)
  where
    not_less : (a b : ℕ) (less : Bool) → nat_lt a b ≡ less → b ≤ a → nat_lt a b ≡ false
    not_less a b true is le = absurd (omega (arith, ltb-true a b is, le))
    not_less a b false is le = is

-- where the format is 1 and there is room, the marker stands behind them
marks : (format : Version) (room : Bool) (frames : List Frame) → format ≡ One → room ≡ true → with_marker format room frames ≡ frames ++ marker ∷ []
marks format room frames is some = ap (λ (f : Version). with_marker f room frames) is ∙ ap (λ (r : Bool). with_marker One r frames) some

pub marks_one : (version : Version) (frames : List Frame) → format_after version frames ≡ One → length (journal_bytes frames) + 46 < 2 ^ 64 → mounted version frames ≡ frames ++ marker ∷ []
marks_one version frames is room =
    marks (format_after version frames) (has_room frames) frames is (lt-ltb (length (journal_bytes frames) + 46) (2 ^ 64) room)

-- the batches are the same with the marker behind them
same_batches : (frames : List Frame) → batches_in (frames ++ marker ∷ []) ≡ batches_in frames
same_batches [] = refl
same_batches (f ∷ frames) = ap (λ (b : List (List Op)). batches_of f ++ b) (same_batches frames)

same_object : (object : Option Object) (frames : List Frame) → IsObjectOf object frames → IsObjectOf object (frames ++ marker ∷ [])
same_object object [] is = is
same_object object (holds frame ∷ frames) is = (is.0, All-push (Names frame.object) frames marker is.1 tt)
same_object object (marker ∷ frames) is = same_object object frames is

-- frames with the marker behind them, where the format is 1
pub are_marked : (version : Version) (frames : List Frame) → format_after version frames ≡ One → AreFrames version frames → AreFrames version (frames ++ marker ∷ [])
are_marked version frames is are =
    frames_push version frames marker are.one_object.0 are (subst (λ (f : Version). MayStand f marker) (sym is) tt) are.one_object.1 tt

-- what holds of the frames and of these with the marker, where their format is 1, holds of what a mounting makes of them
by_marker : (P : List Frame → Type 0) (format : Version) (room : Bool) (frames : List Frame) → P frames → (format ≡ One → P (frames ++ marker ∷ [])) → P (with_marker format room frames)
by_marker P One true frames plain marked = marked refl
by_marker P One false frames plain marked = plain
by_marker P Two room frames plain marked = plain

pub by_mounting : (P : List Frame → Type 0) (version : Version) (frames : List Frame) → P frames → (format_after version frames ≡ One → P (frames ++ marker ∷ [])) → P (mounted version frames)
by_mounting P version frames plain marked = by_marker P (format_after version frames) (has_room frames) frames plain marked

-- a mounting leaves what a mounting made
once_by : (version : Version) (format : Version) (room : Bool) (frames : List Frame) → format_after version frames ≡ format → has_room frames ≡ room → mounted version (with_marker format room frames) ≡ with_marker format room frames
once_by version One true frames is some = stays_two version (frames ++ marker ∷ []) (marked_format version frames)
once_by version One false frames is none = no_room (format_after version frames) (has_room frames) frames none
once_by version Two room frames is any = stays_two version frames is

pub mounted_once : (version : Version) (frames : List Frame) → mounted version (mounted version frames) ≡ mounted version frames
mounted_once version frames = once_by version (format_after version frames) (has_room frames) frames refl refl

-- a journal as a mounting leaves it recovers to its frames
pub recovers_journal : (c : List ℕ) (frames : List Frame) → IsJournal c frames → Recovers c frames
recovers_journal c frames is = record { version = is.version; found = frames; is = inr is.file; made = is.settled }

pub keeps_the_map : MountingKeepsTheMap
keeps_the_map = record {
  frames = λ version frames are. by_mounting (AreFrames version) version frames are (λ is. are_marked version frames is are);
  same = λ version frames. by_mounting (λ fs. batches_in fs ≡ batches_in frames) version frames refl (λ is. same_batches frames);
  object = λ version frames object is. by_mounting (IsObjectOf object) version frames is (λ one. same_object object frames is);
  once = mounted_once;
  journal = recovers_journal;
}
