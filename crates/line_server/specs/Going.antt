-- What a reader of lines gave of the bytes that its source began with.
use Rattle.std.specs.Prelude.{◌≡◌, ◌≤◌, ◌⊎◌, ◌+◌, ℕ, List, [], ◌++◌, true, nat_le, Option, length}
use Rattle.std.specs.List.{list_all}
use Rattle.line_server.specs.Cut.{lines, ended}
use Rattle.line_server.specs.Reader.{StartsWith}
use Rattle.line_server.specs.Requests.{SeenLine, requests, requests_after, through}

-- Of the whole input these bytes were read and the others are told to be left; the lines given are the first ones of the
-- bytes read.
pub record HasGiven (whole : List ℕ) (given : List SeenLine) (left : Option (List ℕ)) : Type 0 where
  pub read : List ℕ
  pub source : StartsWith whole read left
  pub beyond : List SeenLine
  pub first : requests read ≡ given ++ beyond

-- Of the whole input these bytes were read and the others are told to be left. Of the lines of the bytes read the first ones
-- were looked at, so many, blank ones counted: what they ask is what the lines given ask, and behind these at most so many
-- lines more.
pub record HasLookedAt (whole : List ℕ) (given : List SeenLine) (most count : ℕ) (left : Option (List ℕ)) : Type 0 where
  pub read : List ℕ
  pub source : StartsWith whole read left
  pub reached : count ≤ length (lines read)
  pub more : List SeenLine
  pub few : length more ≤ most
  pub all : through count (requests read) ≡ given ++ more

-- Of the whole input these bytes were read and the others are told to be left. The lines that these bytes end were looked at,
-- or all of theirs where the input was at its end, so many, blank ones counted, and no others. What they ask is what the lines
-- given ask.
pub record HasReadAll (whole : List ℕ) (given : List SeenLine) (count : ℕ) (left : Option (List ℕ)) : Type 0 where
  pub read : List ℕ
  pub source : StartsWith whole read left
  pub counted : (count ≡ ended read) ⊎ ((source.rest ≡ []) × (count ≡ length (lines read)))
  pub all : given ≡ through count (requests read)

-- Reading goes on: whichever part of what is left is read next, the lines still to come are those of what the reader
-- holds and of that part, and they are numbered on. The count is that of the lines before them.
pub record GoesOn (whole : List ℕ) (given : List SeenLine) (count : ℕ) (held : List ℕ) (left : Option (List ℕ)) : Type 0 where
  pub read : List ℕ
  pub source : StartsWith whole read left
  pub to_come : (more beyond : List ℕ) → source.rest ≡ more ++ beyond → requests (read ++ more) ≡ given ++ requests_after count (held ++ more)
  pub lines_read : (more beyond : List ℕ) → source.rest ≡ more ++ beyond → length (lines (read ++ more)) ≡ count + length (lines (held ++ more))
  -- the count is that of the lines that were ended, but behind the last line of an input at its end
  pub ended_read : ((more beyond : List ℕ) → source.rest ≡ more ++ beyond → ended (read ++ more) ≡ count + ended (held ++ more)) ⊎
      ((source.rest ≡ []) × (held ≡ []))
  pub counted : list_all (λ line. nat_le line.number count) given ≡ true
