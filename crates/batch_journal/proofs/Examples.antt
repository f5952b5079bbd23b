-- The file of one put: what stands in it, and with the marker.
use Rattle.std.proofs.Common.{◌≡◌, inr, ◌+◌, List, [], ◌∷◌, ◌++◌, length, refl, sym, ◌∙◌, arith, append_assoc, length-append}
use Rattle.std.specs.Prelude.{codes}
use Rattle.std.specs.Str.{IsUtf8}
use Rattle.std.proofs.lemmas.List.{take_at, append-nil}
use Rattle.std.proofs.lemmas.List.Elements.{All-nil, All-cons}
use Rattle.sha2.specs.Sha256.{sha256}
use Rattle.storage_map.specs.Ops.{IsOpIn, IsBatchIn, batch_bytes}
use Rattle.batch_codec.specs.Frames as codec
use Rattle.batch_codec.proofs.Marking.{payload_long}
use Rattle.batch_journal.specs.Frames.{Version, One, Two, Frame, holds, marker, sizes_of, payload, frame_bytes, file_bytes, journal_bytes, open_gate, Names, AreFrames}
use Rattle.batch_journal.specs.Examples.{put_five, one_put, file_of, GetsMarker, GetsNone, IsDamagedWithoutGate}
use Rattle.batch_journal.specs.Recovery.{IsFile}
use Rattle.batch_journal.specs.Refused.{BeginWith}
use Rattle.batch_journal.proofs.Journals.{length-frame_bytes, length-file, length-journal_push, journal_push}
use Rattle.batch_journal.proofs.Frames.{room_for}
use Rattle.batch_journal.proofs.Held.{one_frame_more}
use Rattle.batch_journal.proofs.Marking.{are_marked, marks_one, stays_two}

abbrev one : codec.Frame
one = codec.frame_of (codes "C", codes "a") ((put_five ∷ []) ∷ [])

-- the texts of one letter are UTF-8
letters : IsUtf8 (codes "k") × IsUtf8 (codes "C") × IsUtf8 (codes "a")
unfolding lib.Utf8.encode
letters = ((107 ∷ [], (refl, refl)), (67 ∷ [], (refl, refl)), (97 ∷ [], (refl, refl)))

-- the batch and the frame are of both formats
one_batch : (format : Version) → IsBatchIn (sizes_of format) (put_five ∷ [])
one_batch One = record {
  some = λ none. absurd (cc);
  each = All-cons (IsOpIn (sizes_of One)) put_five []
      (record { short = omega arith; utf8 = letters.0 }, record { sound = record { sound = omega arith; small = omega arith; shallow = omega arith }; defined = λ none. absurd (cc); fits = omega arith })
      (All-nil (IsOpIn (sizes_of One)));
  fits = let long : length (batch_bytes (put_five ∷ [])) ≡ 19 = refl in omega (arith, long);
}
one_batch Two = record {
  some = λ none. absurd (cc);
  each = All-cons (IsOpIn (sizes_of Two)) put_five []
      (record { short = omega arith; utf8 = letters.0 }, record { sound = record { sound = omega arith; small = omega arith; shallow = omega arith }; defined = λ none. absurd (cc); fits = omega arith })
      (All-nil (IsOpIn (sizes_of Two)));
  fits = let long : length (batch_bytes (put_five ∷ [])) ≡ 19 = refl in omega (arith, long);
}

one_frame : (format : Version) → codec.IsFrameIn (sizes_of format) one
one_frame format = record {
  object = record { class_short = omega arith; class_utf8 = letters.1; name_short = omega arith; name_utf8 = letters.2 };
  some = λ none. absurd (cc);
  each = All-cons (IsBatchIn (sizes_of format)) (put_five ∷ []) [] (one_batch format) (All-nil (IsBatchIn (sizes_of format)));
  fits = let long : length (codec.payload one) ≡ 33 = refl in omega (arith, long);
}

are_one : (version : Version) → AreFrames version (one_put ∷ [])
are_one version = record { each = (one_frame version, tt); one_object = ((codes "C", codes "a"), All-cons (Names (codes "C", codes "a")) one_put [] refl (All-nil (Names (codes "C", codes "a")))) }

-- a file with nothing behind the closed gate
one_file : (version : Version) (frames : List Frame) → AreFrames version frames → IsFile (file_of version frames) version frames
one_file version frames are = record { gate = 0; rest = []; bytes = refl; closed = λ same. absurd (omega (arith, same)); of_grammar = are }

-- how long they are
long_one : length (journal_bytes (one_put ∷ [])) ≡ 85
long_one = let said : length (payload one_put) ≡ 33 = refl in let none : length (journal_bytes []) ≡ 15 = refl in omega (arith, length-journal_push [] one_put, said, none)

long_marked : length (journal_bytes (one_put ∷ marker ∷ [])) ≡ 130
long_marked = let said : length (payload marker) ≡ 8 = refl in omega (arith, length-journal_push (one_put ∷ []) marker, said, long_one)

length-file_of : (version : Version) (frames : List Frame) → length (file_of version frames) ≡ length (journal_bytes frames) + 1
length-file_of version frames = omega (arith, length-append (file_bytes version frames) (0 ∷ []), length-file version frames)

pub gets_marker : GetsMarker
gets_marker = record {
  before = omega (arith, length-file_of One (one_put ∷ []), long_one);
  recovers = record { version = One; found = one_put ∷ []; is = inr (one_file One (one_put ∷ []) (are_one One)); made = marks_one One (one_put ∷ []) refl (omega (arith, long_one)) };
  mounted = record {
    version = One;
    file = one_file One (one_put ∷ marker ∷ []) (are_marked One (one_put ∷ []) refl (are_one One));
    settled = stays_two One (one_put ∷ marker ∷ []) refl;
  };
  after = omega (arith, length-file_of One (one_put ∷ marker ∷ []), long_marked);
  gate = record {
    front = file_bytes One (one_put ∷ []);
    rest = sha256 codec.marker_payload ++ 0 ∷ [];
    whole = journal_push One (one_put ∷ []) marker (0 ∷ []) ∙ sym (append_assoc (file_bytes One (one_put ∷ [])) (open_gate ∷ 0 ∷ 0 ∷ 0 ∷ 8 ∷ codec.marker_payload) (sha256 codec.marker_payload ++ 0 ∷ []));
    place = length-file One (one_put ∷ []) ∙ long_one;
  };
  closed = record { front = file_bytes One (one_put ∷ marker ∷ []); rest = []; whole = sym (append-nil (file_of One (one_put ∷ marker ∷ []))); place = length-file One (one_put ∷ marker ∷ []) ∙ long_marked };
  same = refl;
}

pub gets_none : GetsNone
gets_none = record { version = Two; file = one_file Two (one_put ∷ []) (are_one Two); settled = stays_two Two (one_put ∷ []) refl }

-- no frame fits where the marker lacks its gate
no_frame_fits : (frame : Frame) → BeginWith One (frame_bytes marker) frame → ⊥
no_frame_fits (holds frame) begins = let said : length (payload marker) ≡ 8 = refl in omega (arith, room_for (frame_bytes marker) 0 One (holds frame) begins, length-frame_bytes marker, said, payload_long frame)
no_frame_fits marker begins = let said : length (payload marker) ≡ 8 = refl in omega (arith, room_for (frame_bytes marker) 0 One marker begins, length-frame_bytes marker, said)

pub damaged_without_gate : IsDamagedWithoutGate
damaged_without_gate = record {
  version = One;
  frames = one_put ∷ [];
  behind = frame_bytes marker;
  bytes = take_at (file_bytes One (one_put ∷ marker ∷ [])) (0 ∷ []) 130 (length-file One (one_put ∷ marker ∷ []) ∙ long_marked) ∙ one_frame_more One (one_put ∷ []) marker;
  of_grammar = are_one One;
  at = sym (length-file One (one_put ∷ []) ∙ long_one);
  no_frame = no_frame_fits;
}
