-- Places as levels is document 01's test; and EDF ignores levels.
-- Assumes nothing.
use Rattle.std.proofs.Common.{ℕ, ◌+◌, ◌≤◌, ◌<◌, arith, ◌≡◌, refl, sym, ap, ◌∙◌, true, List, ◌↔◌, inl, inr}
use Rattle.std.proofs.Common.{⊎_elim, leb, ltb, leb-true, le-leb, le-ltb, lt-ltb}
use borrow.Author.Tests.{lt-leb}
use Rattle.base.proofs.OrderLaws.{le_or_lt}
use Rattle.base.specs.Rows.{list_of}
use Rattle.base.proofs.RowLaws.{list_same}
use Rattle.table.specs.declared.Table.{Table}
use Rattle.table.specs.Table.{level_at, flag_at, policy_of, system_of, flags_of, LegalTable}
use Rattle.table.proofs.TableLaws.{legal_system}
use Rattle.lines.specs.Reads.{accepted, read_of}
use Rattle.lines.specs.Writes.{PlaceLevels}
use Rattle.lines.proofs.Theorems.{reading_exact}
use Rattle.levels.specs.Levels.{by_places, ButLevels, SameSystem, SameTests}
use Rattle.levels.proofs.AgreeLaws.{same_tests}

-- i counts as higher than k exactly if its level is smaller or equal
pub higher_exactly : (t : Table) (k i : ℕ) → ((system_of t).higher k i ≡ true) ↔ (level_at t i ≤ level_at t k)
higher_exactly t k i = (leb-true (level_at t i) (level_at t k), le-leb (level_at t i) (level_at t k))

-- of two places the earlier is that of the smaller number
place_test : (k i : ℕ) {a b : ℕ} → a ≡ i + 1 → b ≡ k + 1 → (i ≡ k → ⊥) → leb a b ≡ ltb i k
place_test k i {a} {b} ea eb ne =
    ⊎_elim (λ (l : k ≤ i). lt-leb a b (omega (arith, ne)) ∙ sym (le-ltb i k l))
    (λ (l : i < k). le-leb a b (omega arith) ∙ sym (lt-ltb i k l))
    (le_or_lt k i)

pub placed_same : (t : Table) → PlaceLevels t → SameSystem (by_places t) (system_of t)
placed_same t p = record {
  policy = refl;
  cores = refl;
  count = refl;
  T = λ i _. refl;
  C = λ i _. refl;
  D = λ i _. refl;
  S = refl;
  higher = inr (λ k i lk li ne. place_test k i (p i li) (p k lk) ne);
}

-- PLACES AS LEVELS IS DOCUMENT 01'S TEST.
pub places_as_levels : (t : Table) → LegalTable t → PlaceLevels t → SameTests (by_places t) (system_of t)
places_as_levels t legal p = same_tests (by_places t) (system_of t) (placed_same t p)
    (legal_system legal).time

-- and every table from the old lines has its places as levels
pub lines_as_levels : (s : List ℕ) (t : Table) → read_of s ≡ accepted t
    → SameTests (by_places t) (system_of t)
lines_as_levels s t e =
    let w = (reading_exact s t).0 e in
    places_as_levels t w.legal w.levels

-- UNDER EDF LEVELS ARE NOT READ.
but_levels_same : {t u : Table} → t.policy ≡ 0 → ButLevels t u → SameSystem (system_of t) (system_of u)
but_levels_same edf b = record {
  policy = ap policy_of b.policy;
  cores = b.cores;
  count = b.count;
  T = λ i lt. ap (λ a. a.period) (b.tasks i lt);
  C = λ i lt. ap (λ a. a.cost) (b.tasks i lt);
  D = λ i lt. ap (λ a. a.deadline) (b.tasks i lt);
  S = refl;
  higher = inl (ap policy_of edf);
}

pub edf_ignores_levels : (t u : Table) → LegalTable t → t.policy ≡ 0 → ButLevels t u
    → SameTests (system_of t) (system_of u)
edf_ignores_levels t u legal edf b =
    same_tests (system_of t) (system_of u) (but_levels_same edf b) (legal_system legal).time

-- the flags as sent are the same under either policy
pub but_levels_flags : {t u : Table} → ButLevels t u → flags_of u ≡ flags_of t
unfolding flags_of
but_levels_flags {t} {u} b =
    ap (λ n. list_of (flag_at u) n) b.count
    ∙ list_same (flag_at u) (flag_at t) t.n (λ i lt. ap (λ a. a.flag) (b.tasks i lt))
