-- What the loop of passes knows before each pass, and that it knows it at the start.
-- Assumes nothing.
use Rattle.std.proofs.Common.{ℕ, ◌≤◌, ◌<◌, arith, ◌≡◌, sym, ap, ◌∙◌, subst, true, List, length, replicate}
use Rattle.std.proofs.Common.{le-leb}
use Rattle.std.proofs.Math.ListN.{length-replicate, get_or-replicate}
use Rattle.base.specs.Rows.{at}
use Rattle.base.proofs.RowLaws.{list_at}
use Rattle.model.specs.Bound.{System, bound}
use Rattle.model.specs.Demands.{Timed}
use Rattle.model.specs.Demands.{Flags as FlagsOf}
use Rattle.model.proofs.BoundLaws.{bound_same}
use Rattle.model.proofs.PassLaws.{Forcing, forcing_start}
use Rattle.flags.specs.declared.Flags.{Flags}
use Rattle.flags.specs.Flags.{flag_in, held}
use Rattle.flags.proofs.FlagLaws.{flag_small, held_flag, held_same}
use Rattle.rows.specs.declared.Head.{Head}
use Rattle.rows.specs.Levels.{level_in}
use Rattle.rows.specs.Held.{system_in, LegalRows}
use Rattle.bound.specs.Ahead.{NoneSooner}
use Rattle.bound.proofs.SearchLaws.{none_at_first}
use Rattle.passes.specs.Passes.{q_of, Floors}
use Rattle.passes.proofs.OnwardLaws.{q_none}
use Rattle.forcing.specs.Forced.{given_list}

-- what the laws need of a system: times above 0, at most 32 tasks, and levels of at most 32 by which a task
-- counts as higher
pub record Sized (s : System) (level : ℕ → ℕ) : Type 0 where
  pub timed : Timed s
  pub few : s.count ≤ 32
  pub low : (k : ℕ) → k < s.count → level k ≤ 32
  pub order : (k i : ℕ) → level i ≤ level k → s.higher k i ≡ true

pub rows_sized : {h : Head} {inverse rest cost reach : List ℕ} → LegalRows h inverse rest cost reach
    → Sized (system_in h rest cost reach) (level_in h.levels)
rows_sized legal = record {
  timed = λ k lt. (legal.each k lt).time;
  few = legal.count;
  low = legal.levels;
  order = λ k i le. le-leb _ _ le;
}

module _ {s : System} {level : ℕ → ℕ} (sized : Sized s level) {flags : Flags} (fs : List ℕ)
    (is : flags ≡ held (at fs) s.count) (one : FlagsOf s (at fs))
  where
    -- under the flags that are held, a task has the bound that it has under the list
    pub flags_read : (i : ℕ) → i < s.count → flag_in flags i ≡ at fs i
    flags_read i lt = ap (λ f. flag_in f i) is ∙ held_flag (at fs) s.count sized.few i lt (one i lt)

    pub bound_read : (k : ℕ) → k < s.count → bound s (flag_in flags) k ≡ bound s (at fs) k
    bound_read k lt = sym (bound_same s (at fs) (flag_in flags) k (sized.timed k lt) lt flags_read)

-- What the loop knows before a pass over the tasks with levels smaller than `below`: the list that its flags
-- hold is on the way from the given ones; the floors; and the bounds of the other preemptive tasks.
pub record Passing (s : System) (level : ℕ → ℕ) (given flags : Flags) (below : ℕ) (bounds : List ℕ)
    (passes : ℕ)
    : Type 0 where
  pub list : List ℕ
  pub way : Forcing s (given_list s given) list passes
  pub holds : flags ≡ held (at list) s.count
  pub floors : Floors s (flag_in flags) bounds
  pub known : (k : ℕ) → below ≤ level k → k < s.count → 0 < flag_in flags k
      → at bounds k ≡ bound s (flag_in flags) k

pub passing_start : {s : System} {level : ℕ → ℕ} → Sized s level → {given : Flags} {bounds : List ℕ}
    → given ≡ held (flag_in given) s.count → bounds ≡ replicate 32 0
    → Passing s level given given 33 bounds 1
passing_start {s} sized {given} {bounds} is empty = record {
  list = given_list s given;
  way =
      forcing_start s sized.timed (given_list s given)
      (λ i lt. omega (arith, list_at 0 (flag_in given) s.count i lt, flag_small given i));
  holds =
      is ∙ held_same _ _ s.count sized.few (λ i lt. sym (list_at 0 (flag_in given) s.count i lt));
  floors = record {
    size = ap length empty ∙ length-replicate {A = ℕ} 32 0;
    floor = λ k lt pre.
        subst (NoneSooner s (flag_in given) k)
        (q_none (sized.timed k lt)
        ∙ sym (ap (λ x. q_of x (s.C k))
        (ap (λ xs. at xs k) empty ∙ get_or-replicate {A = ℕ} 32 k 0 0 (omega (arith, sized.few)))))
        (none_at_first s (flag_in given) k);
  };
  known = λ k le lt. absurd (let z : ⊥ = omega (arith, sized.low k lt) in z);
}

pub passing_small : {s : System} {level : ℕ → ℕ} → Sized s level → {given flags : Flags} {below : ℕ}
    {bounds : List ℕ} {passes : ℕ} → Passing s level given flags below bounds passes → passes ≤ 33
passing_small sized a = omega (arith, a.way.small, sized.few)
