-- Frames that name no object: each names any, and they are the marker at most.
use Rattle.std.proofs.Common.{◌≡◌, ◌≤◌, List, [], ◌∷◌, length, Some, None, refl, ap, arith}
use Rattle.std.proofs.lemmas.List.Elements.{All-nil, All-cons}
use Rattle.storage_map.specs.Limits.{Object}
use Rattle.batch_journal.specs.Frames.{Version, One, Two, Frame, holds, marker, journal_bytes, AllMayStand, Names, Name}
use Rattle.batch_journal.specs.Reading.{IsObjectOf}
use Rattle.batch_journal.proofs.Journals.{length-journal_push}

pub unnamed : (object : Object) (frames : List Frame) → IsObjectOf None frames → Name object frames
unnamed object [] is = All-nil (Names object)
unnamed object (holds frame ∷ frames) is = let none : None ≡ Some frame.object = is.0 in absurd (cc)
unnamed object (marker ∷ frames) is = All-cons (Names object) marker frames tt (unnamed object frames is)

-- such frames are the marker at most
none_behind : (frames : List Frame) → AllMayStand Two frames → IsObjectOf None frames → frames ≡ []
none_behind [] all is = refl
none_behind (holds frame ∷ frames) all is = let none : None ≡ Some frame.object = is.0 in absurd (cc)
none_behind (marker ∷ frames) all is = absurd all.0

pub marker_at_most : (version : Version) (frames : List Frame) → AllMayStand version frames → IsObjectOf None frames → length (journal_bytes frames) ≤ 60
marker_at_most version [] all is = omega arith
marker_at_most version (holds frame ∷ frames) all is = let none : None ≡ Some frame.object = is.0 in absurd (cc)
marker_at_most One (marker ∷ frames) all is =
    omega (arith, ap (λ (fs : List Frame). length (journal_bytes (marker ∷ fs))) (none_behind frames all.1 is), length-journal_push [] marker)
marker_at_most Two (marker ∷ frames) all is = absurd all.0
