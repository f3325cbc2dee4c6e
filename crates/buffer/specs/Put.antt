-- A buffer after a word was written into it.
--
--   s, s'    the buffer's bytes before and after
--   at, r    the place where the word starts, and the place after it
--   w        the word
--
-- Assumes nothing.
use Rattle.std.specs.Prelude.{ℕ, ◌+◌, ◌≤◌, ◌≡◌, List, ◌++◌, length, take, drop}

-- The word had room from its place on, it stands there now, and every other byte is as it was.
pub record Put (s : List ℕ) (at : ℕ) (w : List ℕ) (r : ℕ) (s' : List ℕ) : Type 0 where
  pub fits : at + length w ≤ length s
  pub next : r ≡ at + length w
  pub bytes : s' ≡ take at s ++ (w ++ drop (at + length w) s)
