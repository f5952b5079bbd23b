-- The operations that are still to be read of a payload, read one after the other.
use Rattle.std.proofs.Common.{◌≡◌, ◌≢◌, ℕ, zero, suc, ◌-◌, ◌+◌, ◌≤◌, ◌<◌, Bool, true, false, cond, ltb, eqb, List, [], ◌∷◌, ◌++◌, length, take, drop, Option, Some, None, refl, sym, ap, subst, ◌∙◌, arith, length-append}
use Rattle.std.specs.Prelude.{option_map}
use Rattle.std.specs.List.{flat_map}
use Rattle.std.specs.Int.{w32, from_be_bytes}
use Rattle.std.proofs.lemmas.Bool.{ne_eqb, lt-ltb, le-ltb}
use Rattle.std.proofs.lemmas.List.{take-append-drop}
use Rattle.do_value.specs.Reading.{Reads, ◌>>=◌, word_at}
use Rattle.storage_map.specs.Limits.{Object, Format, format_two}
use Rattle.storage_map.specs.Ops.{op_bytes}
use Rattle.storage_map.specs.declared.op.Op.{Op}
use Rattle.storage_map.proofs.Larger.{AllowsNoMore, larger_op}
use Rattle.storage_map.proofs.Sizes.{count-le_bytes}
use Rattle.batch_codec.specs.Parsing.{many_at, op_at, batch_of, batch_at}
use Rattle.batch_codec.specs.Skipping.{small_of, all_of, ops_to_read, AreToRead, IsAtHand}
use Rattle.batch_codec.specs.Lent.{ToRead}
use Rattle.batch_codec.specs.Views.{IsNext}
use Rattle.batch_codec.specs.Cuts.{IsOpCut}
use Rattle.batch_codec.specs.declared.op_view.OpView.{OpView}
use Rattle.batch_codec.proofs.ReadParts.{unless, some_is}
use Rattle.batch_codec.proofs.Cutting.{some_no_count, some_zero, some_is_many, batch_none}
use Rattle.batch_codec.proofs.Ends.{end_more, stands_in}

-- an operation in front of those that pass a test
front_tested : (b : Bool) (op : Op) (ops : List Op) → cond b (Some (op ∷ ops)) None ≡ option_map (λ (xs : List Op). op ∷ xs) (cond b (Some ops) None)
front_tested true op ops = refl
front_tested false op ops = refl

-- in front of all
front_all : (op : Op) (ops : List Op) (read : Reads (List (List Op))) → (read >>= all_of (op ∷ ops)) ≡ option_map (λ (xs : List Op). op ∷ xs) (read >>= all_of ops)
unfolding all_of
front_all op ops None = refl
front_all op ops (Some batches) = front_tested (eqb (length batches.1) 0) op (ops ++ flat_map (λ b. b) batches.0)

-- the first batch in front of the others
first_of_all : (ops : List Op) (read : Reads (List (List Op))) → ((read >>= λ batches. Some (ops ∷ batches.0, batches.1)) >>= all_of []) ≡ (read >>= all_of ops)
unfolding all_of
first_of_all ops None = refl
first_of_all ops (Some batches) = refl

-- a number stands in front of what is behind it
number_front : (bytes : List ℕ) (x : ℕ × List ℕ) → word_at w32 bytes ≡ Some x → bytes ≡ take 4 bytes ++ x.1
number_front bytes x e =
    let long = unless (ltb (length bytes) 4) (Some (from_be_bytes w32 (take 4 bytes), drop 4 bytes)) x e in
    sym (take-append-drop 4 bytes) ∙ ap (λ (y : ℕ × List ℕ). take 4 bytes ++ y.1) (some_is (from_be_bytes w32 (take 4 bytes), drop 4 bytes) x long.1)

module _ (format : Format) where
  -- what is read behind operations
  abbrev behind_ops : ℕ → List Op × List ℕ → Option (List Op)
  behind_ops more ops = many_at (batch_at format) more ops.1 >>= all_of ops.0

  -- operations of a batch that isn't too large, and what is read behind them
  abbrev with_rest : ℕ → ℕ → Reads (List Op) → Option (List Op)
  with_rest more begun read = read >>= small_of format begun >>= behind_ops more

  front_small : (more : ℕ) (b : Bool) (op : Op) (ops : List Op × List ℕ)
      → (cond b None (Some (op ∷ ops.0, ops.1)) >>= behind_ops more) ≡ option_map (λ (xs : List Op). op ∷ xs) (cond b None (Some ops) >>= behind_ops more)
  front_small more true op ops = refl
  front_small more false op ops = front_all op ops.0 (many_at (batch_at format) more ops.1)

  -- an operation in front
  front_op : (more begun : ℕ) (op : Op) (read : Reads (List Op)) → with_rest more begun (read >>= λ xs. Some (op ∷ xs.0, xs.1)) ≡ option_map (λ (xs : List Op). op ∷ xs) (with_rest more begun read)
  unfolding small_of
  front_op more begun op None = refl
  front_op more begun op (Some ops) = front_small more (ltb format.most_batch (begun - length ops.1)) op ops

  -- The first operation of the batch at hand is read, and the others stand behind it.
  pub next_read : (left more begun : ℕ) (bytes after : List ℕ) (op : Op) → 0 < left → op_at format bytes ≡ Some (op, after)
      → ops_to_read format left more begun bytes ≡ option_map (λ (xs : List Op). op ∷ xs) (ops_to_read format (left - 1) more begun after)
  unfolding ops_to_read many_at
  next_read zero more begun bytes after op lt read = absurd (omega arith)
  next_read (suc n) more begun bytes after op lt read =
      let k : suc n - 1 ≡ n = omega arith in
      ap (λ (r : Reads Op). with_rest more begun (r >>= λ x. many_at (op_at format) n x.1 >>= λ xs. Some (x.0 ∷ xs.0, xs.1))) read
      ∙ front_op more begun op (many_at (op_at format) n after)
      ∙ ap (λ (m : ℕ). option_map (λ (xs : List Op). op ∷ xs) (ops_to_read format m more begun after)) (sym k)

  -- It isn't read.
  pub next_unread : (left more begun : ℕ) (bytes : List ℕ) → 0 < left → op_at format bytes ≡ None → ops_to_read format left more begun bytes ≡ None
  unfolding ops_to_read many_at
  next_unread zero more begun bytes lt none = absurd (omega arith)
  next_unread (suc n) more begun bytes lt none = ap (λ (r : Reads Op). with_rest more begun (r >>= λ x. many_at (op_at format) n x.1 >>= λ xs. Some (x.0 ∷ xs.0, xs.1))) none

  -- ---- behind the last operation of a batch

  -- The batch is too large.
  pub too_large : (left more begun : ℕ) (bytes : List ℕ) → left ≡ 0 → format.most_batch < begun - length bytes → ops_to_read format left more begun bytes ≡ None
  unfolding ops_to_read many_at small_of
  too_large left more begun bytes no_op lt = rw no_op (ap (λ (b : Bool). cond b None (Some ([], bytes)) >>= behind_ops more) (lt-ltb _ _ lt))

  -- It isn't, so those of the batches behind it are to be read.
  pub batches_behind : (more begun : ℕ) (bytes : List ℕ) → begun - length bytes ≤ format.most_batch → ops_to_read format 0 more begun bytes ≡ (many_at (batch_at format) more bytes >>= all_of [])
  unfolding ops_to_read many_at small_of
  batches_behind more begun bytes le = ap (λ (b : Bool). cond b None (Some ([], bytes)) >>= behind_ops more) (le-ltb _ _ le)

  -- The payload ends there.
  pub at_end : (left more begun : ℕ) (bytes : List ℕ) → left ≡ 0 → begun - length bytes ≤ format.most_batch → more ≡ 0 → length bytes ≡ 0 → ops_to_read format left more begun bytes ≡ Some []
  unfolding many_at all_of
  at_end left more begun bytes no_op le no_batch none = rw (no_op, no_batch) (batches_behind 0 begun bytes le ∙ ap (λ (n : ℕ). cond (eqb n 0) (Some []) None) none)

  -- Bytes stand behind it.
  pub bytes_behind : (left more begun : ℕ) (bytes : List ℕ) → left ≡ 0 → begun - length bytes ≤ format.most_batch → more ≡ 0 → (length bytes ≢ 0) → ops_to_read format left more begun bytes ≡ None
  unfolding many_at all_of
  bytes_behind left more begun bytes no_op le no_batch some =
      rw (no_op, no_batch) (batches_behind 0 begun bytes le ∙ ap (λ (b : Bool). cond b (Some []) None) (ne_eqb (length bytes) 0 some))

  -- No batch stands there.
  no_batch_there : (more begun : ℕ) (bytes : List ℕ) → begun - length bytes ≤ format.most_batch → 0 < more → batch_at format bytes ≡ None → ops_to_read format 0 more begun bytes ≡ None
  unfolding many_at
  no_batch_there zero begun bytes le lt none = absurd (omega arith)
  no_batch_there (suc n) begun bytes le lt none =
      batches_behind (suc n) begun bytes le ∙ ap (λ (r : Reads (List Op)). (r >>= λ x. many_at (batch_at format) n x.1 >>= λ xs. Some (x.0 ∷ xs.0, xs.1)) >>= all_of []) none

  -- since no number of operations does
  pub no_count : (left more begun : ℕ) (bytes : List ℕ) → left ≡ 0 → begun - length bytes ≤ format.most_batch → (more ≢ 0) → None ≡ word_at w32 bytes → ops_to_read format left more begun bytes ≡ None
  no_count left more begun bytes no_op le some head =
      rw no_op (no_batch_there more begun bytes le (omega arith) (batch_none format bytes (some_no_count (op_at format) bytes head)))

  -- or it is 0
  pub zero_count : (left more begun : ℕ) (bytes front : List ℕ) (count : ℕ) → left ≡ 0 → begun - length bytes ≤ format.most_batch → (more ≢ 0) → Some (count, front) ≡ word_at w32 bytes → count ≡ 0 → ops_to_read format left more begun bytes ≡ None
  zero_count left more begun bytes front count no_op le some head none =
      rw no_op (no_batch_there more begun bytes le (omega arith) (batch_none format bytes (some_zero (op_at format) bytes front count head none)))

  first_small : (n : ℕ) (b : Bool) (ops : List Op × List ℕ)
      → ((cond b None (Some ops) >>= λ x. many_at (batch_at format) n x.1 >>= λ xs. Some (x.0 ∷ xs.0, xs.1)) >>= all_of []) ≡ (cond b None (Some ops) >>= behind_ops n)
  first_small n true ops = refl
  first_small n false ops = first_of_all ops.0 (many_at (batch_at format) n ops.1)

  -- the operations of the first batch, and those behind it
  first_batch : (n : ℕ) (bytes : List ℕ) (read : Reads (List Op))
      → (((read >>= batch_of format bytes) >>= λ x. many_at (batch_at format) n x.1 >>= λ xs. Some (x.0 ∷ xs.0, xs.1)) >>= all_of []) ≡ with_rest n (length bytes) read
  unfolding batch_of small_of
  first_batch n bytes None = refl
  first_batch n bytes (Some ops) = first_small n (ltb format.most_batch (length bytes - length ops.1)) ops

  -- The operations of the next batch stand behind their number.
  next_batch : (more begun : ℕ) (bytes front : List ℕ) (count : ℕ) → begun - length bytes ≤ format.most_batch → 0 < more → Some (count, front) ≡ word_at w32 bytes → (count ≢ 0)
      → ops_to_read format 0 more begun bytes ≡ ops_to_read format count (more - 1) (length bytes) front
  unfolding ops_to_read many_at batch_at
  next_batch zero begun bytes front count le lt head some = absurd (omega arith)
  next_batch (suc n) begun bytes front count le lt head some =
      let k : suc n - 1 ≡ n = omega arith in
      batches_behind (suc n) begun bytes le
      ∙ ap (λ (r : Reads (List Op)). ((r >>= batch_of format bytes) >>= λ x. many_at (batch_at format) n x.1 >>= λ xs. Some (x.0 ∷ xs.0, xs.1)) >>= all_of []) (some_is_many (op_at format) bytes front count head some)
      ∙ first_batch n bytes (many_at (op_at format) count front)
      ∙ ap (λ (m : ℕ). ops_to_read format count m (length bytes) front) (sym k)

  -- It is at hand.
  pub next_at_hand : (left more begun : ℕ) (bytes front : List ℕ) (count : ℕ) → left ≡ 0 → begun - length bytes ≤ format.most_batch → length bytes ≤ begun → (more ≢ 0) → Some (count, front) ≡ word_at w32 bytes → (count ≢ 0)
      → IsAtHand format left more begun bytes count (more - 1) (length bytes) front
  next_at_hand left more begun bytes front count no_op le within more_some head some =
      let parts = number_front bytes (count, front) (sym head) in
      let size : length bytes ≡ length (take 4 bytes) + length front = ap length parts ∙ length-append (take 4 bytes) front in
      record {
        some = omega arith;
        same = rw no_op (next_batch more begun bytes front count le (omega arith) head some);
        front = take 4 bytes;
        parts = parts;
        begins = within;
        within = omega arith;
      }

  -- ---- what the reader lends

  -- what is left stands behind the front of it
  pub at_front : (payload rest here : List ℕ) (left more begun count behind began : ℕ) → AreToRead payload begun rest → IsAtHand format left more begun rest count behind began here → AreToRead payload began here
  at_front payload rest here left more begun count behind began there hand =
      let before = there.within in
      let begins = there.begins in
      let sooner = hand.begins in
      record {
        short = there.short;
        begins = omega arith;
        within = hand.within;
        end = end_more payload rest hand.front here (omega arith) there.end hand.parts;
      }

  -- One operation is cut off.
  pub after_op : (payload rest after : List ℕ) (begun : ℕ) (view : OpView) → AreToRead payload begun rest → IsOpCut format (length payload) rest view after → AreToRead payload begun after
  after_op payload rest after begun view there cut =
      let size : length rest ≡ length (op_bytes cut.op) + length after = ap length cut.parts ∙ length-append (op_bytes cut.op) after in
      let before = there.within in
      let begins = there.begins in
      record {
        short = there.short;
        begins = begins;
        within = omega arith;
        end = end_more payload rest (op_bytes cut.op) after (omega arith) there.end cut.parts;
      }

  -- an operation has at least one byte
  some_bytes : (op : Op) → 0 < length (op_bytes op)
  some_bytes op = omega (arith, count-le_bytes (op ∷ []), length-append (op_bytes op) [])

  -- what a reader has before it
  abbrev reader_at : List ℕ → Object → ℕ → ℕ → ℕ → List ℕ → ToRead
  reader_at payload object left more begun rest = record { payload = payload; object = object; bytes = length rest; ops = ops_to_read format left more begun rest }

  -- The next operation.
  pub next_shown : AllowsNoMore format format_two → (payload rest here after : List ℕ) (object : Object) (left more begun count behind began : ℕ) (view : OpView) (old : ToRead) → AreToRead payload begun rest
      → IsAtHand format left more begun rest count behind began here → IsOpCut format (length payload) here view after → reader_at payload object left more begun rest ≡ old
      → IsNext old view (reader_at payload object (count - 1) behind began after)
  next_shown less payload rest here after object left more begun count behind began view old there hand cut is =
      let front = at_front payload rest here left more begun count behind began there hand in
      let within = front.within in
      let begins = front.begins in
      let before : length rest ≡ length hand.front + length here = ap length hand.parts ∙ length-append hand.front here in
      let size : length here ≡ length (op_bytes cut.op) + length after = ap length cut.parts ∙ length-append (op_bytes cut.op) after in
      let some = some_bytes cut.op in
      subst (λ (o : ToRead). IsNext o view (reader_at payload object (count - 1) behind began after)) is
      (record {
        op = cut.op;
        within = larger_op format format_two less cut.op cut.within;
        shown = cut.shown;
        stands = stands_in payload here after view cut.op (omega arith) front.end cut.parts cut.shown cut.ends;
        left = hand.same ∙ next_read count behind began here after cut.op hand.some cut.read;
        payload = refl;
        object = refl;
        fewer = omega arith;
      })
