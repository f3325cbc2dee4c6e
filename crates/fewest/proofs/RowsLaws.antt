-- Rows of one table on other cores, and the halving over them. Assumes nothing.
use Rattle.std.proofs.Common.{ℕ, ◌+◌, ◌≤◌, ◌<◌, arith, ◌≡◌, refl, sym, ap, ◌∙◌, Bool, true, false, List, min}
use Rattle.base.specs.Rows.{at}
use Rattle.table.specs.declared.Table.{Table}
use Rattle.table.specs.Table.{LegalTable, flags_of}
use Rattle.flags.specs.declared.Flags.{Flags}
use Rattle.flags.specs.Flags.{flag_in, held}
use Rattle.rows.specs.declared.Rows.{Rows}
use Rattle.rows.specs.Whole.{OnCores, HeldIn}
use Rattle.planner.specs.declared.Record.{Record}
use Rattle.planner.specs.declared.Done.{Done}
use Rattle.planner.specs.declared.Said.{Said}
use Rattle.planner.specs.Answers.{records_of, changes}
use Rattle.planner.specs.Done.{sent, force_done}
use Rattle.planner.specs.Rows.{said_done, OfTable}
use Rattle.planner.proofs.StageLaws.{said_listed}
use Rattle.cores.specs.Cores.{on_cores, says_yes}
use Rattle.fewest.specs.Fewest.{found, legal_fewest}
use Rattle.fewest.proofs.StageLaws.{legal_on}
use Rattle.fewest.proofs.HalvingLaws.{Between, halving_start, halving_up, halving_down, halving_end}
use Rattle.fewest.proofs.HalvingLaws.{halving_none}

-- rows of a table on m cores are those of the table with m cores
pub held_on : {t : Table} {r r' : Rows} {m : ℕ} → HeldIn t r → OnCores r m r' → HeldIn (on_cores t m) r'
held_on h o = record {
  policy = o.policy ∙ h.policy;
  cores = o.cores;
  n = o.n ∙ h.n;
  levels = record { of = ap (λ ls. ls.of) o.levels ∙ h.levels.of };
  rows = record {
    inverse = ap (λ x. x.inverse) o.times ∙ h.rows.inverse;
    rest = ap (λ x. x.rest) o.times ∙ h.rows.rest;
    cost = ap (λ x. x.cost) o.times ∙ h.rows.cost;
    reach = o.reach ∙ h.rows.reach;
  };
}

-- rows that were put on other cores twice
pub on_again : {r r' r'' : Rows} {x m : ℕ} → OnCores r x r' → OnCores r' m r''
    → OnCores r r''.head.cores r''
on_again a b = record {
  policy = b.policy ∙ a.policy;
  cores = refl;
  n = b.n ∙ a.n;
  levels = b.levels ∙ a.levels;
  times = b.times ∙ a.times;
  reach = b.reach ∙ a.reach;
}

pub on_first : {r r' : Rows} {m : ℕ} → OnCores r m r' → OnCores r r'.head.cores r'
on_first a = record {
  policy = a.policy;
  cores = refl;
  n = a.n;
  levels = a.levels;
  times = a.times;
  reach = a.reach;
}

-- back from other cores to those that the rows had
pub held_back : (t : Table) {r r' : Rows} {m x : ℕ} → OnCores r m r' → HeldIn (on_cores t x) r'
    → HeldIn (on_cores t r.head.cores) r
held_back t o h = record {
  policy = sym o.policy ∙ h.policy;
  cores = refl;
  n = sym o.n ∙ h.n;
  levels = record { of = ap (λ ls. ls.of) (sym o.levels) ∙ h.levels.of };
  rows = record {
    inverse = ap (λ x. x.inverse) (sym o.times) ∙ h.rows.inverse;
    rest = ap (λ x. x.rest) (sym o.times) ∙ h.rows.rest;
    cost = ap (λ x. x.cost) (sym o.times) ∙ h.rows.cost;
    reach = sym o.reach ∙ h.rows.reach;
  };
}

-- the flags that were sent do not depend on the cores
pub sent_on : (t : Table) (m : ℕ) {given : Flags} → given ≡ held (sent t) t.n
    → given ≡ held (sent (on_cores t m)) t.n
unfolding flags_of
sent_on t m e = e

-- nor does what is forced on m cores depend on those of the rows
pub force_any : (r : Rows) {given : Flags} (m : ℕ) {d : Done}
    → OfTable (λ t. force_done (on_cores t m)) r given d
    → (t : Table) → LegalTable t → HeldIn (on_cores t r.head.cores) r → given ≡ held (sent t) t.n
    → d ≡ force_done (on_cores t m)
force_any r m said t legal is e =
    said (on_cores t r.head.cores) (legal_on legal r.legal.some_core r.legal.cores) is
    (sent_on t r.head.cores e)

-- what the halving knows, of each table that has the rows r on some cores; r' are the same rows on others
pub record Halving (r : Rows) (given : Flags) (r' : Rows) (low high : ℕ) (d : Done) : Type 0 where
  pub on : OnCores r r'.head.cores r'
  pub less : low < high
  pub most : high ≤ 16
  pub between : (t : Table) → LegalTable t → HeldIn (on_cores t r.head.cores) r
      → given ≡ held (sent t) t.n → Between t low high d

module _ {r r₁ : Rows} {given : Flags} {d : Done} {b : Bool} (o : OnCores r 16 r₁)
    (said : OfTable (λ t. force_done (on_cores t 16)) r given d) (y : b ≡ says_yes d)
  where
    pub rows_start : b ≡ true → Halving r₁ given r₁ 0 16 d
    rows_start is = record {
      on = record { policy = refl; cores = refl; n = refl; levels = refl; times = refl; reach = refl };
      less = omega arith;
      most = omega arith;
      between = λ t legal h e. halving_start (force_any r 16 said t legal (held_back t o h) e) y is;
    }

    pub rows_none : b ≡ false → OfTable legal_fewest r given (found d 0)
    rows_none is t legal h e = halving_none legal (said t legal h e) y is

module _ {r₁ r' r'' : Rows} {given : Flags} {low high m : ℕ} {d d' : Done} {b : Bool}
    (a : Halving r₁ given r' low high d) (o : OnCores r' m r'')
    (said : OfTable (λ t. force_done (on_cores t m)) r' given d') (y : b ≡ says_yes d')
    (above : low < m) (below : m < high)
  where
    forced_here : (t : Table) → LegalTable t → HeldIn (on_cores t r₁.head.cores) r₁
        → given ≡ held (sent t) t.n → d' ≡ force_done (on_cores t m)
    forced_here t legal h e = force_any r' m said t legal (held_on h a.on) e

    pub rows_down : b ≡ true → Halving r₁ given r'' low m d'
    rows_down is = record {
      on = on_again a.on o;
      less = above;
      most = omega (arith, a.most);
      between = λ t legal h e.
          halving_down (a.between t legal h e) (forced_here t legal h e) y above below is;
    }

    pub rows_up : b ≡ false → Halving r₁ given r'' m high d
    rows_up is = record {
      on = on_again a.on o;
      less = below;
      most = a.most;
      between = λ t legal h e.
          halving_up (a.between t legal h e) (forced_here t legal h e) y above below is;
    }

pub rows_end : {r r₁ r' : Rows} {given : Flags} {low high : ℕ} {d : Done} → OnCores r 16 r₁
    → Halving r₁ given r' low high d → high ≤ low + 1 → OfTable legal_fewest r given (found d high)
rows_end o a end t legal h e = halving_end legal (a.between t legal (held_on h (on_first o)) e) end

-- an answer whose records are listed by a count that is held to 32
pub few_listed : (given : Flags) (s : Said) (bounds : List ℕ) {n : ℕ} {recs : List Record} {d : Done}
    → n ≡ min s.count 32 → s.count ≤ 32
    → recs ≡ records_of n (flag_in s.flags) (changes (flag_in given) (flag_in s.flags)) (at bounds)
    → said_done given s bounds ≡ d → record { answer = s.answer; count = n; recs = recs } ≡ d
few_listed given s bounds {n} {recs} {d} e small listed is =
    let all : n ≡ s.count = omega (arith, e, small) in
    rw all (said_listed given s bounds (rw all at listed) is)
