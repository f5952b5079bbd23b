-- A line that is being read.
use Rattle.std.proofs.Common.{◌≡◌, ◌<◌, ◌+◌, ℕ, List, [], ◌∷◌, ◌++◌, length, Option, Some, Bool, refl, sym, ap, subst, ◌∙◌, inl, inr, arith, append_assoc, length-append, nat_lt, Ok, true, false}
use Rattle.std.proofs.lemmas.Grind.{common_steps}
use Rattle.std.proofs.lemmas.List.{append-nil}
use Rattle.std.proofs.lemmas.List.Folds.{list_all-append}
use Rattle.line_server.specs.Reader.{Moved}
use Rattle.line_server.specs.Given.{Gives, GoesTo, IsAtEnd}
use Rattle.line_server.specs.Raw.{IsRaw}
use Rattle.line_server.specs.Cut.{lines, ended, line_end}
use Rattle.line_server.specs.Ends.{has_no_end}
use Rattle.line_server.specs.Taken.{IsLine, ReadsLine, TakesLine, StopsAmid}
use Rattle.line_server.specs.declared.bytes.Bytes.{Bytes}
use Rattle.line_server.specs.declared.fault.LineFault.{LineFault}
use Rattle.line_server.specs.declared.fault.LineFault.TheVariants.{ReadFailed}
use Rattle.line_server.specs.declared.raw_line.RawLine.{RawLine}
use Rattle.line_server.specs.Limits.{most_cut_bytes}
use Rattle.line_server.proofs.Cutting.{line_before_end, line_of_room, last_line, ended_before_end, ended_of_room, none_ended}

-- two moves, one after the other
pub moved_on : (before : List ℕ) (mid after : Option (List ℕ)) (held given holds more has : List ℕ) → Moved before mid held given holds
    → ((now : List ℕ) → mid ≡ Some now → Moved now after holds more has) → Moved before after held (given ++ more) has
moved_on before mid after held given holds more has one two =
    let next : Moved one.source.rest after holds more has = two one.source.rest one.source.told in
    record {
      piece = one.piece ++ next.piece;
      source = record { rest = next.source.rest; told = next.source.told; whole = one.source.whole ∙ ap (λ r. one.piece ++ r) next.source.whole ∙ sym (append_assoc one.piece next.piece next.source.rest) };
      reader = sym (append_assoc held one.piece next.piece) ∙ ap (λ r. r ++ next.piece) one.reader ∙ append_assoc given holds next.piece ∙ ap (λ r. given ++ r) next.reader ∙ sym (append_assoc given more has);
    }

-- more bytes that are no LF
more_no_end : (line bytes : List ℕ) → has_no_end line ≡ true → has_no_end bytes ≡ true → has_no_end (line ++ bytes) ≡ true
more_no_end line bytes all others = rw list_all-append (rw (all, others) refl)

-- a reader that reads on isn't at the end
pub still_going : {P : Type 0} (b : Bool) → b ≡ false → b ≡ true → P
still_going b going gone = absurd cc

-- the line with its LF, whatever follows
with_end : (line : List ℕ) → has_no_end line ≡ true → length line < most_cut_bytes → IsLine (line ++ line_end ∷ []) line
with_end line all short = record {
  first = λ more. ap lines (append_assoc line (line_end ∷ []) more) ∙ line_before_end most_cut_bytes most_cut_bytes line more all short;
  one_ended = λ more. ap ended (append_assoc line (line_end ∷ []) more) ∙ ended_before_end most_cut_bytes most_cut_bytes line more all short;
}

is_nil : (line : List ℕ) → length line ≡ 0 → line ≡ []
is_nil [] e = refl
is_nil (b ∷ bs) e = absurd (omega arith)

-- the input's last line
last : (line : List ℕ) → has_no_end line ≡ true → 0 < length line → length line < most_cut_bytes → lines line ≡ line ∷ []
last [] all some short = absurd (omega arith)
last (b ∷ bs) all some short = last_line most_cut_bytes most_cut_bytes b bs all short

module _ {S : Type 0} (left : S → Option (List ℕ)) where
  -- nothing was given yet
  pub gives_none : (bytes : Bytes S) → Gives left bytes bytes []
  gives_none bytes = λ before told. record { piece = []; source = record { rest = before; told = told; whole = refl }; reader = append-nil bytes.buffer }

  pub gives_on : (old mid new : Bytes S) (given more : List ℕ) → Gives left old mid given → Gives left mid new more → Gives left old new (given ++ more)
  gives_on old mid new given more one two = λ before told. moved_on before (left mid.source) (left new.source) old.buffer given mid.buffer more new.buffer (one before told) two

  -- The line so far, of which the input had no LF yet.
  pub record IsTaking (old new : Bytes S) (raw : RawLine) : Type 0 where
    pub line : List ℕ
    pub raw_is : IsRaw line raw
    pub gives : Gives left old new line
    pub no_end : has_no_end line ≡ true

  pub taking_starts : (bytes : Bytes S) (raw : RawLine) → IsRaw [] raw → IsTaking bytes bytes raw
  taking_starts bytes raw is = record { line = []; raw_is = is; gives = gives_none bytes; no_end = refl }

  pub taking_on : (old mid new : Bytes S) (raw more : RawLine) (bytes : List ℕ) → IsTaking old mid raw → Gives left mid new bytes → GoesTo raw more bytes → IsTaking old new more
  taking_on old mid new raw more bytes taking gives goes = record {
    line = taking.line ++ bytes;
    raw_is = goes.more taking.line taking.raw_is;
    gives = gives_on old mid new taking.line bytes taking.gives gives;
    no_end = more_no_end taking.line bytes taking.no_end goes.no_end;
  }

  -- nothing more is given, since the source fails or memory is wanting
  pub stops : (old mid new : Bytes S) (raw : RawLine) (fault : LineFault) → IsTaking old mid raw → Gives left mid new [] → (fault ≡ ReadFailed → new.buffer ≡ []) → new.ended ≡ false → raw.length < most_cut_bytes
      → StopsAmid left old new fault
  stops old mid new raw fault taking gives held going short = record {
    bytes = taking.line;
    gives = let all : Gives left old new (taking.line ++ []) = gives_on old mid new taking.line [] taking.gives gives in rw append-nil at all;
    none_held = held;
    none_ended = λ failed. none_ended most_cut_bytes most_cut_bytes taking.line taking.no_end (rw (sym taking.raw_is.length_is) short);
    going = going;
  }

  -- an LF ends it
  pub takes_at_end : (old mid new : Bytes S) (raw more : RawLine) (bytes : List ℕ) → IsTaking old mid raw → GoesTo raw more bytes → Gives left mid new (bytes ++ line_end ∷ []) → raw.length + length bytes < most_cut_bytes → new.ended ≡ false
      → (line : List ℕ) × IsRaw line more × TakesLine left old new line
  takes_at_end old mid new raw more bytes taking goes gives short going = (
    taking.line ++ bytes,
    goes.more taking.line taking.raw_is,
    record {
      bytes = (taking.line ++ bytes) ++ line_end ∷ [];
      gives = subst (λ r. Gives left old new r) (sym (append_assoc taking.line bytes (line_end ∷ []))) (gives_on old mid new taking.line (bytes ++ line_end ∷ []) taking.gives gives);
      first = inl (with_end (taking.line ++ bytes) (more_no_end taking.line bytes taking.no_end goes.no_end) (omega (arith, short, taking.raw_is.length_is, length-append taking.line bytes)));
      at_end = still_going new.ended going;
    },
  )

  -- it has no room for another byte
  pub takes_room : (old new : Bytes S) (raw : RawLine) → IsTaking old new raw → raw.length ≡ most_cut_bytes → new.ended ≡ false
      → (line : List ℕ) × IsRaw line raw × TakesLine left old new line
  takes_room old new raw taking full going = (
    taking.line,
    taking.raw_is,
    record {
      bytes = taking.line;
      gives = taking.gives;
      first = inl (record {
        first = λ more. line_of_room most_cut_bytes most_cut_bytes taking.line more taking.no_end (sym taking.raw_is.length_is ∙ full) (omega arith);
        one_ended = λ more. ended_of_room most_cut_bytes most_cut_bytes taking.line more taking.no_end (sym taking.raw_is.length_is ∙ full) (omega arith);
      });
      at_end = still_going new.ended going;
    },
  )

  -- the input ends, and it isn't empty
  pub takes_last : (old mid new : Bytes S) (raw : RawLine) → IsTaking old mid raw → Gives left mid new [] → IsAtEnd left new → 0 < raw.length → raw.length < most_cut_bytes
      → (line : List ℕ) × IsRaw line raw × TakesLine left old new line
  takes_last old mid new raw taking gives at_end some short = (
    taking.line,
    taking.raw_is,
    record {
      bytes = taking.line;
      gives = let all : Gives left old new (taking.line ++ []) = gives_on old mid new taking.line [] taking.gives gives in rw append-nil at all;
      first = inr (last taking.line taking.no_end (rw (sym taking.raw_is.length_is) some) (rw (sym taking.raw_is.length_is) short), at_end);
      at_end = λ _. at_end;
    },
  )

  -- the input ends with no line
  pub takes_none : (old mid new : Bytes S) (raw : RawLine) → IsTaking old mid raw → Gives left mid new [] → IsAtEnd left new → raw.length ≡ 0 → Gives left old new [] × IsAtEnd left new
  takes_none old mid new raw taking gives at_end none =
      let nil : taking.line ≡ [] = is_nil taking.line (sym taking.raw_is.length_is ∙ none) in
      let all : Gives left old new (taking.line ++ []) = gives_on old mid new taking.line [] taking.gives gives in
      let same : taking.line ++ [] ≡ [] = append-nil taking.line ∙ nil in
      (rw same at all, at_end)

  -- where the input ends there is a line if it has a byte
  pub takes_end : (old mid new : Bytes S) (raw : RawLine) (some : Bool) → some ≡ nat_lt 0 raw.length → IsTaking old mid raw → Gives left mid new [] → IsAtEnd left new → new.ended ≡ true → raw.length < most_cut_bytes
      → ReadsLine left old new raw (Ok some)
  takes_end old mid new raw true is taking gives at_end ended short = takes_last old mid new raw taking gives at_end (above is) short
    where
      above : true ≡ nat_lt 0 raw.length → 0 < raw.length
      above e = grind (arith, common_steps)
  takes_end old mid new raw false is taking gives at_end ended short =
      let none = takes_none old mid new raw taking gives at_end (zero is) in
      (none.0, none.1, ended)
    where
      zero : false ≡ nat_lt 0 raw.length → raw.length ≡ 0
      zero e = grind (arith, common_steps)
