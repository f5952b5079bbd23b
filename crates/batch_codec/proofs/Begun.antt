-- A payload of which nothing was read but its object.
use Rattle.std.proofs.Common.{◌≡◌, ℕ, ◌<◌, ◌^◌, Bool, true, false, cond, eqb, List, [], length, Option, Some, None, refl, sym, ap, ◌∙◌, arith}
use Rattle.std.specs.Prelude.{option_map}
use Rattle.do_value.specs.Reading.{Reads, ◌>>=◌}
use Rattle.storage_map.specs.Limits.{Object, most_class_bytes, most_name_bytes, Format, format_two}
use Rattle.storage_map.specs.declared.op.Op.{Op}
use Rattle.storage_map.proofs.Larger.{AllowsNoMore}
use Rattle.batch_codec.specs.Frames.{Frame, payload, IsFrameIn}
use Rattle.batch_codec.specs.Parsing.{many_at, batch_at, whole_of, payload_at}
use Rattle.batch_codec.specs.Skipping.{all_of, ops_to_read, AreToRead}
use Rattle.batch_codec.specs.Lent.{ToRead}
use Rattle.batch_codec.specs.Read.{HasHead}
use Rattle.batch_codec.specs.Views.{operations_of, IsOfFrame, IsBegun}
use Rattle.batch_codec.proofs.ReadParts.{IsBytes, bind_some, only_if, some_is}
use Rattle.batch_codec.proofs.ReadStored.{short_takes}
use Rattle.batch_codec.proofs.ReadPayloads.{payload_takes, payload_again}
use Rattle.batch_codec.proofs.Whole.{behind_head, head_shorter, head_end}
use Rattle.batch_codec.proofs.ToRead.{batches_behind}

-- the operations of a frame that passes a test
tested_ops : (b : Bool) (frame : Frame) → cond b (Some (operations_of frame)) None ≡ option_map operations_of (cond b (Some frame) None)
tested_ops true frame = refl
tested_ops false frame = refl

-- the operations of all batches are those of the frame
ops_of_whole : (object : Object) (read : Reads (List (List Op))) → (read >>= all_of []) ≡ option_map operations_of (read >>= whole_of object)
unfolding all_of whole_of
ops_of_whole object None = refl
ops_of_whole object (Some batches) = tested_ops (eqb (length batches.1) 0) (record { object = object; batches = batches.0 })

-- a frame is one of the object that was read
whole_object : (object : Object) (read : Reads (List (List Op))) (frame : Frame) → (read >>= whole_of object) ≡ Some frame → frame.object ≡ object
unfolding whole_of
whole_object object read frame e =
    let b = bind_some read (whole_of object) frame e in
    let made : Frame = record { object = object; batches = b.0.0 } in
    let whole = only_if (eqb (length b.0.1) 0) (Some made) frame b.2 in
    ap (λ (f : Frame). f.object) (sym (some_is made frame whole.1))

-- what was made of something
made_of : {A B : Type 0} (make : A → B) (o : Option A) (y : B) → option_map make o ≡ Some y → (x : A) × (o ≡ Some x)
made_of make None y e = absurd cc
made_of make (Some x) y e = (x, refl)

module _ (format : Format) where
  -- The operations that are to be read behind the object are those of the payload's frame.
  ops_to_read_of : (bytes class name rest : List ℕ) (count : ℕ) → HasHead bytes class name count rest → ops_to_read format 0 count (length rest) rest ≡ option_map operations_of (payload_at format bytes)
  ops_to_read_of bytes class name rest count head =
      batches_behind format count (length rest) rest (omega arith)
      ∙ ops_of_whole (class, name) (many_at (batch_at format) count rest)
      ∙ ap (option_map operations_of) (sym (behind_head format bytes class name rest count head))

  -- what a reader has before it there
  abbrev begun_at : List ℕ → List ℕ → List ℕ → ℕ → List ℕ → ToRead
  begun_at bytes class name count rest = record { payload = bytes; object = (class, name); bytes = length rest; ops = ops_to_read format 0 count (length rest) rest }

  of_frame : (bytes class name rest : List ℕ) (count : ℕ) (frame : Frame) → HasHead bytes class name count rest → payload_at format bytes ≡ Some frame → IsFrameIn format frame → payload frame ≡ bytes
      → IsOfFrame format (begun_at bytes class name count rest) frame
  of_frame bytes class name rest count frame head read is said = record {
    of_format = is;
    said = said;
    object = whole_object (class, name) (many_at (batch_at format) count rest) frame (sym (behind_head format bytes class name rest count head) ∙ read);
    ops = ops_to_read_of bytes class name rest count head ∙ ap (option_map operations_of) read;
  }

  -- So a reader begins.
  pub begun : AllowsNoMore format format_two → (bytes class name rest : List ℕ) (count : ℕ) → IsBytes bytes → length bytes < 2 ^ 32 → HasHead bytes class name count rest → IsBegun format (begun_at bytes class name count rest)
  begun less bytes class name rest count fits short head =
      let c = short_takes most_class_bytes bytes (class, head.named) fits (sym head.is_class) in
      let n = short_takes most_name_bytes head.named (name, head.listed) c.0.fits (sym head.is_name) in
      record {
        object = record { class_short = c.2; class_utf8 = c.1; name_short = n.2; name_utf8 = n.1 };
        read = λ ops is.
            let made = made_of operations_of (payload_at format bytes) ops (sym (ops_to_read_of bytes class name rest count head) ∙ is) in
            let taken = payload_takes format less bytes made.0 fits short made.1 in
            (made.0, of_frame bytes class name rest count made.0 head made.1 taken.0 taken.1);
        again = λ frame is said. of_frame bytes class name rest count frame head (ap (payload_at format) (sym said) ∙ payload_again format less frame is) is said;
      }

-- All of its batches are to be read.
pub all_to_read : (bytes class name rest : List ℕ) (count : ℕ) → IsBytes bytes → length bytes < 2 ^ 32 → HasHead bytes class name count rest → AreToRead bytes (length rest) rest
all_to_read bytes class name rest count fits short head = record {
  short = short;
  begins = head_shorter bytes class name rest count fits head;
  within = omega arith;
  end = head_end bytes class name rest count fits head;
}
