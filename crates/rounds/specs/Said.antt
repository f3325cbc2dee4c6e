-- Document 02's rounds and forcing as relations: no list, no budget, no definition of this crate but for
-- `Ends`.
--
--   document 02                                          here
--   S_k at the start of round r + 1, in R rounds         S r k; RoundsAre s fl S R
--   such a test gives the bounds b                       TestedTo s fl b R
--   task k is preemptive and has no bound                Lacks a b k, by flags a and bounds b
--   a test fails                                         Fails s b
--   it forces the preemptive tasks without a bound       AllLacking s a b a', from the flags a to a'
--   if there are none, the lowest-numbered preemptive    OnlyLowest s a b a'
--   forcing ends: a pass, or refusal 15                  Over s a b
--   forcing ends in c after p passes, its last test      ForcedTo s a c b R p
--     giving b in R rounds
--   such an end is the definition's end r                Ends s c b R p r
--
-- Assumes nothing.
use Rattle.std.specs.Prelude.{ℕ, suc, ◌-◌, ◌<◌, ◌≡◌, ◌⊎◌}
use Rattle.base.specs.Rows.{at}
use Rattle.model.specs.Bound.{System, under, bound}
use Rattle.rounds.specs.Forcing.{Final2}

pub record RoundsAre (s : System) (fl : ℕ → ℕ) (S : ℕ → ℕ → ℕ) (R : ℕ) : Type 0 where
  pub some : 0 < R
  -- 0 at the start
  pub start : (k : ℕ) → k < s.count → S 0 k ≡ 0
  -- with a bound: D - bound, the bound being that under the slacks at the start of this round
  pub bounded : (r k : ℕ) → r < R → k < s.count → 0 < bound (under s (S r)) fl k
      → S (suc r) k ≡ s.D k - bound (under s (S r)) fl k
  -- without one: kept
  pub without : (r k : ℕ) → r < R → k < s.count → bound (under s (S r)) fl k ≡ 0 → S (suc r) k ≡ S r k
  -- every round before the last changes a slack,
  pub go_on : (r : ℕ) → suc r < R → ((k : ℕ) → k < s.count → S (suc r) k ≡ S r k) → ⊥
  -- the last one none
  pub rest : (k : ℕ) → k < s.count → S R k ≡ S (R - 1) k

pub record TestedTo (s : System) (fl b : ℕ → ℕ) (R : ℕ) : Type 0 where
  pub slack : ℕ → ℕ → ℕ
  pub rounds : RoundsAre s fl slack R
  pub last : (k : ℕ) → k < s.count → b k ≡ bound (under s (slack (R - 1))) fl k

abbrev pub Lacks : (ℕ → ℕ) → (ℕ → ℕ) → ℕ → Type 0
Lacks a b k = (0 < a k) × (b k ≡ 0)

pub record Fails (s : System) (b : ℕ → ℕ) : Type 0 where
  pub place : ℕ
  pub inside : place < s.count
  pub none : b place ≡ 0

pub record AllLacking (s : System) (a b a' : ℕ → ℕ) : Type 0 where
  pub place : ℕ
  pub inside : place < s.count
  pub some : Lacks a b place
  pub forced : (i : ℕ) → i < s.count → Lacks a b i → a' i ≡ 0
  pub others : (i : ℕ) → i < s.count → (Lacks a b i → ⊥) → a' i ≡ a i

pub record OnlyLowest (s : System) (a b a' : ℕ → ℕ) : Type 0 where
  pub none : (i : ℕ) → i < s.count → Lacks a b i → ⊥
  pub place : ℕ
  pub inside : place < s.count
  pub preemptive : 0 < a place
  pub before : (j : ℕ) → j < place → a j ≡ 0
  pub forced : a' place ≡ 0
  pub others : (i : ℕ) → i < s.count → (i ≡ place → ⊥) → a' i ≡ a i

abbrev pub Change : System → (ℕ → ℕ) → (ℕ → ℕ) → (ℕ → ℕ) → Type 0
Change s a b a' = (Fails s b) × ((AllLacking s a b a') ⊎ (OnlyLowest s a b a'))

abbrev pub Over : System → (ℕ → ℕ) → (ℕ → ℕ) → Type 0
Over s a b = ((k : ℕ) → k < s.count → 0 < b k) ⊎ ((Fails s b) × ((k : ℕ) → k < s.count → a k ≡ 0))

pub data ForcedTo (s : System) : (ℕ → ℕ) → (ℕ → ℕ) → (ℕ → ℕ) → ℕ → ℕ → Type 0 where
  over : {a b : ℕ → ℕ} {R : ℕ} → TestedTo s a b R → Over s a b → ForcedTo s a a b R 1
  again : {a b a' c b' : ℕ → ℕ} {R R' p : ℕ} → TestedTo s a b R → Change s a b a'
      → ForcedTo s a' c b' R' p
      → ForcedTo s a c b' R' (suc p)

-- the definition's end is that end, on the table's places
pub record Ends (s : System) (c b : ℕ → ℕ) (R p : ℕ) (r : Final2) : Type 0 where
  pub flags : (k : ℕ) → k < s.count → c k ≡ at r.flags k
  pub bounds : (k : ℕ) → k < s.count → b k ≡ at r.last.bounds k
  pub rounds : R ≡ r.last.rounds
  pub passes : p ≡ r.passes
