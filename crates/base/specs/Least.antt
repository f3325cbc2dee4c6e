-- The least length of a range, the first place that passes a test, and the iteration of Theorem 1.
--
--   document 01, document 004                      here
--   the smallest l from a on that satisfies ..     least p c a, over the c lengths a, a + 1, ..
--   the first task (line) with .., from 1          first_of p n, over the places 0 .. n - 1; 0 for none
--   Theorem 1's iteration                          iterate g end f l
--
-- Assumes nothing.
use Rattle.std.specs.Prelude.{ℕ, zero, suc, ◌≤◌, ◌<◌, Bool, leb}
use Rattle.base.specs.Choice.{pick}

-- the first of the c lengths l, l + 1, .. that satisfies p; 0 if none does
unfoldable pub least : (ℕ → Bool) → ℕ → ℕ → ℕ
least p zero l = 0
least p (suc c) l = let r = least p c (suc l) in pick (p l) l r

-- the number i + 1 of the first of the n places i, i + 1, .. that passes the test; 0 if none does
unfoldable pub first_from : (ℕ → Bool) → ℕ → ℕ → ℕ
first_from p zero i = 0
first_from p (suc n) i = let r = first_from p n (suc i) in pick (p i) (suc i) r

abbrev pub first_of : (ℕ → Bool) → ℕ → ℕ
first_of p n = first_from p n 0

-- from l to g l, until g l is at most l, or reaches the end of the range (0 then); in at most f turns
unfoldable pub iterate : (ℕ → ℕ) → ℕ → ℕ → ℕ → ℕ
iterate g end zero l = 0
iterate g end (suc f) l = let r = iterate g end f (g l) in pick (leb (g l) l) l (pick (leb end (g l)) 0 r)

-- r, with 0 for "none", is no worse than r': where r' is an answer r is one, and is no larger
pub record NoWorse (r r' : ℕ) : Type 0 where
  pub some : 0 < r' → 0 < r
  pub less : 0 < r' → r ≤ r'
