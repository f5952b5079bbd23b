-- Lines that were looked at.
use Rattle.std.proofs.Common.{◌≡◌, ◌≤◌, ◌+◌, ⊎_elim, inl, inr, ℕ, List, [], ◌++◌, length, Option, Some, true, refl, sym, ap, ◌∙◌, arith, append_assoc, length-append}
use Rattle.std.specs.List.{list_all}
use Rattle.std.proofs.lemmas.Grind.{common_steps}
use Rattle.std.proofs.lemmas.List.{append-nil}
use Rattle.std.proofs.lemmas.List.Elements.{filter-append}
use Rattle.line_server.specs.Cut.{lines, ended}
use Rattle.line_server.specs.Reader.{Moved}
use Rattle.line_server.specs.Going.{HasLookedAt, HasReadAll, GoesOn}
use Rattle.line_server.specs.Requests.{SeenLine, seen_at, requests, requests_after, through}
use Rattle.line_server.proofs.Given.{is_within, kept_through, none_through, both_nothing}

-- of lines that are within a count and those numbered behind it, the first ones stay
cut_through : (n : ℕ) (given : List SeenLine) (rest : List ℕ) → list_all (is_within n) given ≡ true → through n (given ++ requests_after n rest) ≡ given
cut_through n given rest within =
    filter-append _ given (requests_after n rest) ∙ rw (kept_through n given within, none_through n n (lines rest) (omega arith)) (append-nil given)

-- a count is no more than with others
no_more : (n count others : ℕ) → n ≡ count + others → count ≤ n
no_more n count others e = omega arith

-- the lines given are those that were looked at, also where a reader read on and failed
pub looked_on : (whole : List ℕ) (given : List SeenLine) (count : ℕ) (held taken holds : List ℕ) (old new : Option (List ℕ)) → GoesOn whole given count held old
    → ((before : List ℕ) → old ≡ Some before → Moved before new held taken holds) → HasLookedAt whole given 0 count new
looked_on whole given count held taken holds old new going moves =
    let moved : Moved going.source.rest new held taken holds = moves going.source.rest going.source.told in
    record {
      read = going.read ++ moved.piece;
      source = record { rest = moved.source.rest; told = moved.source.told; whole = going.source.whole ∙ ap (λ r. going.read ++ r) moved.source.whole ∙ sym (append_assoc going.read moved.piece moved.source.rest) };
      reached = no_more _ count _ (going.lines_read moved.piece moved.source.rest moved.source.whole);
      more = [];
      few = omega arith;
      all = ap (through count) (going.to_come moved.piece moved.source.rest moved.source.whole) ∙ cut_through count given (held ++ moved.piece) going.counted ∙ sym (append-nil given);
    }

-- none but the count
none_more : (n count others : ℕ) → n ≡ count + others → others ≡ 0 → count ≡ n
none_more n count others e none = omega arith

-- a reader that read on and failed in a line that isn't ended, and that holds nothing, gave all others
pub read_all : (whole : List ℕ) (given : List SeenLine) (count : ℕ) (held taken holds : List ℕ) (old new : Option (List ℕ)) → GoesOn whole given count held old
    → ((before : List ℕ) → old ≡ Some before → Moved before new held taken holds) → holds ≡ [] → ended taken ≡ 0 → HasReadAll whole given count new
read_all whole given count held taken holds old new going moves none unended =
    let moved : Moved going.source.rest new held taken holds = moves going.source.rest going.source.told in
    let reader : held ++ moved.piece ≡ taken = moved.reader ∙ ap (λ r. taken ++ r) none ∙ append-nil taken in
    record {
      read = going.read ++ moved.piece;
      source = record { rest = moved.source.rest; told = moved.source.told; whole = going.source.whole ∙ ap (λ r. going.read ++ r) moved.source.whole ∙ sym (append_assoc going.read moved.piece moved.source.rest) };
      counted =
          ⊎_elim
          (λ so_far. inl (none_more _ count _ (so_far moved.piece moved.source.rest moved.source.whole) (ap ended reader ∙ unended)))
          (λ at_end.
          let parts : (moved.piece ≡ []) × (moved.source.rest ≡ []) = both_nothing moved.piece moved.source.rest (sym moved.source.whole ∙ at_end.0) in
          let nothing : held ++ moved.piece ≡ [] = ap (λ r. r ++ moved.piece) at_end.1 ∙ parts.0 in
          inr (parts.1, none_more _ count _ (going.lines_read moved.piece moved.source.rest moved.source.whole) (ap (λ r. length (lines r)) nothing)))
          going.ended_read;
      all = sym (ap (through count) (going.to_come moved.piece moved.source.rest moved.source.whole) ∙ cut_through count given (held ++ moved.piece) going.counted);
    }

-- the same where nothing was read since
pub looked_now : (whole : List ℕ) (given : List SeenLine) (count : ℕ) (held : List ℕ) (left : Option (List ℕ)) → GoesOn whole given count held left → HasLookedAt whole given 0 count left
looked_now whole given count held left going = record {
  read = going.read;
  source = going.source;
  reached = no_more _ count _ (ap (λ r. length (lines r)) (sym (append-nil going.read)) ∙ going.lines_read [] going.source.rest refl);
  more = [];
  few = omega arith;
  all = ap (through count) (ap requests (sym (append-nil going.read)) ∙ going.to_come [] going.source.rest refl) ∙ cut_through count given (held ++ []) going.counted ∙ sym (append-nil given);
}

-- the last ones of the lines given count as looked at and not given
pub looked_fewer : (whole : List ℕ) (given back : List SeenLine) (most more count : ℕ) (left : Option (List ℕ)) → length back + most ≤ more → HasLookedAt whole (given ++ back) most count left → HasLookedAt whole given more count left
looked_fewer whole given back most more count left few looked = record {
  read = looked.read;
  source = looked.source;
  reached = looked.reached;
  more = back ++ looked.more;
  few = omega (arith, few, looked.few, length-append back looked.more);
  all = looked.all ∙ append_assoc given back looked.more;
}

-- a line is one at most
pub seen_one : (n : ℕ) (line : List ℕ) → length (seen_at n line) ≤ 1
seen_one n line = grind (arith, common_steps)

-- nothing was looked at of an input that wasn't read
pub looked_none : (whole : List ℕ) (given : List SeenLine) (most count : ℕ) (left : Option (List ℕ)) → given ≡ [] → count ≡ 0 → left ≡ Some whole → HasLookedAt whole given most count left
looked_none whole given most count left none zero told = record {
  read = [];
  source = record { rest = whole; told = told; whole = refl };
  reached = omega arith;
  more = [];
  few = omega arith;
  all = rw none refl;
}
