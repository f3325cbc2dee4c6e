-- The halving that looks for the fewest cores. What it knows: with `low` cores forcing refuses, or there are
-- none, and with `high` it accepts. That more cores never hurt makes the number between them the fewest.
-- Assumes nothing.
use Rattle.std.proofs.Common.{ℕ, suc, ◌+◌, ◌≤◌, ◌<◌, arith, ◌≡◌, sym, ap, subst, ◌∙◌, Bool, true, false}
use Rattle.table.specs.declared.Table.{Table}
use Rattle.table.specs.Table.{LegalTable}
use Rattle.planner.specs.declared.Done.{Done}
use Rattle.planner.specs.Done.{force_done}
use Rattle.cores.specs.Cores.{on_cores, says_yes, accepts_on, fewest_cores}
use Rattle.cores.proofs.TableCores.{fewest_is, fewest_none}
use Rattle.fewest.specs.Fewest.{found, legal_fewest}

pub record Between (t : Table) (low high : ℕ) (d : Done) : Type 0 where
  pub less : low < high
  pub most : high ≤ 16
  pub refuses : 0 < low → accepts_on t low ≡ false
  pub accepts : accepts_on t high ≡ true
  pub done : d ≡ force_done (on_cores t high)

-- what a yes or a no says of a number of cores, once its forcing is in hand
said : {x d : Done} {b b' : Bool} → d ≡ x → b ≡ says_yes d → b ≡ b' → says_yes x ≡ b'
said e y is = ap says_yes (sym e) ∙ sym y ∙ is

module _ {t : Table} where
  -- with 16 it accepts
  pub halving_start : {d : Done} {b : Bool} → d ≡ force_done (on_cores t 16) → b ≡ says_yes d → b ≡ true
      → Between t 0 16 d
  halving_start e y is = record {
    less = omega arith;
    most = omega arith;
    refuses = λ pos. absurd (let z : ⊥ = omega arith in z);
    accepts = said e y is;
    done = e;
  }

  module _ {low high m : ℕ} {d d' : Done} {b : Bool} (a : Between t low high d)
      (e : d' ≡ force_done (on_cores t m)) (y : b ≡ says_yes d') (in' : low < m) (in'' : m < high) where
    -- it accepts: look below
    pub halving_down : b ≡ true → Between t low m d'
    halving_down is = record {
      less = in';
      most = omega (arith, a.most);
      refuses = a.refuses;
      accepts = said e y is;
      done = e;
    }

    -- it refuses: look above
    pub halving_up : b ≡ false → Between t m high d
    halving_up is = record {
      less = in'';
      most = a.most;
      refuses = λ _. said e y is;
      accepts = a.accepts;
      done = a.done;
    }

  module _ (legal : LegalTable t) where
    -- nothing is between them any more
    pub halving_end : {low high : ℕ} {d : Done} → Between t low high d → high ≤ low + 1
        → found d high ≡ legal_fewest t
    unfolding legal_fewest
    halving_end {low} {high} {d} a end =
        let one : high ≡ suc low = omega (arith, a.less) in
        let few : fewest_cores t ≡ suc low =
        fewest_is legal (omega (arith, a.most)) (subst (λ x. accepts_on t x ≡ true) one a.accepts)
        a.refuses in
        rw few (ap (λ x. found x high) a.done ∙ ap (λ x. found (force_done (on_cores t x)) x) one)

    -- refused with 16
    pub halving_none : {d : Done} {b : Bool} → d ≡ force_done (on_cores t 16) → b ≡ says_yes d → b ≡ false
        → found d 0 ≡ legal_fewest t
    unfolding legal_fewest
    halving_none e y is = rw (fewest_none legal (said e y is)) (ap (λ x. found x 0) e)
