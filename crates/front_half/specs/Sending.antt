-- What is sent is logged.
use Rattle.std.specs.Prelude.{◌≡◌, List, ◌++◌}

-- Behind these, the same was sent and logged.
pub record AreAlike {X : Type 0} (first base sent logged : List X) : Type 0 where
  pub more : List X
  pub is_sent : sent ≡ first ++ more
  pub is_logged : logged ≡ base ++ more

-- So far as the lane was sent what was logged, it is now: both went on by the same.
abbrev pub AreSentToo : {X : Type 0} → (old new logged_old logged_new : List X) → Type 0
AreSentToo {X} old new logged_old logged_new = (first base : List X) → AreAlike first base old logged_old → AreAlike first base new logged_new
