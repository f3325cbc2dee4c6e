-- An EDF answer does not depend on the order of the tasks. The idea: a table in another order lies in the
-- first one, and the first one in it, so each bound is no worse than the other (`left_out`, both ways).
-- Assumes nothing.
use Rattle.std.proofs.Common.{ℕ, ◌<◌, arith, ◌≡◌, sym, ap, ◌∙◌, inl}
use Rattle.model.specs.Bound.{EDF, System, bound}
use Rattle.base.proofs.LeastLaws.{no_worse_both}
use Rattle.model.proofs.PlaceLaws.{Within, left_out}

-- e and back are inverse to each other on the places below n
pub record Inverse (e back : ℕ → ℕ) (n : ℕ) : Type 0 where
  pub there : (i : ℕ) → i < n → e i < n
  pub here : (i : ℕ) → i < n → back i < n
  pub undo : (i : ℕ) → i < n → back (e i) ≡ i
  pub redo : (i : ℕ) → i < n → e (back i) ≡ i

-- s' is the table s, under EDF, in another order: task i of s' is task e i of s
pub record Reordered (s s' : System) (fl fl' e : ℕ → ℕ) : Type 0 where
  pub edf : s.policy ≡ EDF
  pub edf' : s'.policy ≡ EDF
  pub cores : s'.cores ≡ s.cores
  pub count : s'.count ≡ s.count
  pub T : (i : ℕ) → i < s.count → s'.T i ≡ s.T (e i)
  pub C : (i : ℕ) → i < s.count → s'.C i ≡ s.C (e i)
  pub D : (i : ℕ) → i < s.count → s'.D i ≡ s.D (e i)
  pub S : (i : ℕ) → i < s.count → s'.S i ≡ s.S (e i)
  pub flag : (i : ℕ) → i < s.count → fl' i ≡ fl (e i)

module _ (s s' : System) (fl fl' e back : ℕ → ℕ) (p : Inverse e back s.count) where
  within : Reordered s s' fl fl' e → Within s s' fl fl' e
  within a = record {
    policy = a.edf' ∙ sym a.edf;
    cores = a.cores;
    places = record {
      inside = λ i l. p.there i (omega (arith, a.count));
      apart =
          λ i j l l' x. sym (p.undo i (omega (arith, a.count))) ∙ ap back x ∙ p.undo j
          (omega (arith, a.count));
    };
    T = λ i l. a.T i (omega (arith, a.count));
    C = λ i l. a.C i (omega (arith, a.count));
    D = λ i l. a.D i (omega (arith, a.count));
    S = λ i l. a.S i (omega (arith, a.count));
    flag = λ i l. a.flag i (omega (arith, a.count));
    higher = inl a.edf;
  }

  returned : Reordered s s' fl fl' e → Reordered s' s fl' fl back
  returned a = record {
    edf = a.edf';
    edf' = a.edf;
    cores = sym a.cores;
    count = sym a.count;
    T = λ i l. origin s'.T s.T a.T i (omega (arith, a.count));
    C = λ i l. origin s'.C s.C a.C i (omega (arith, a.count));
    D = λ i l. origin s'.D s.D a.D i (omega (arith, a.count));
    S = λ i l. origin s'.S s.S a.S i (omega (arith, a.count));
    flag = λ i l. origin fl' fl a.flag i (omega (arith, a.count));
  }
    where
      origin : (f' f : ℕ → ℕ) → ((i : ℕ) → i < s.count → f' i ≡ f (e i)) → (i : ℕ) → i < s.count
          → f i ≡ f' (back i)
      origin f' f h i l = sym (h (back i) (p.here i l) ∙ ap f (p.redo i l))

  turned : s'.count ≡ s.count → Inverse back e s'.count
  turned c = record {
    there = λ i l. omega (arith, p.here i (omega arith));
    here = λ i l. omega (arith, p.there i (omega arith));
    undo = λ i l. p.redo i (omega arith);
    redo = λ i l. p.undo i (omega arith);
  }

-- An EDF answer does not depend on the order of the tasks: each has the same bound at both of its places.
pub edf_order_free : (s s' : System) (fl fl' e back : ℕ → ℕ) → Inverse e back s.count
    → Reordered s s' fl fl' e
    → (k : ℕ) → k < s.count → 0 < s.C (e k) → bound s' fl' k ≡ bound s fl (e k)
edf_order_free s s' fl fl' e back p a k lt pos =
    let b : Within s' s fl' fl back =
    within s' s fl' fl back e (turned s s' fl fl' e back p a.count) (returned s s' fl fl' e back p a)
    in
    no_worse_both _ _ (left_out s s' fl fl' e (within s s' fl fl' e back p a) k (omega (arith, a.count)) pos)
    (rw (p.undo k lt) at
    (left_out s' s fl' fl back b (e k) (p.there k lt) (omega (arith, ap s'.C (p.undo k lt), a.C k lt))))
