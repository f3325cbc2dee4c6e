-- All passes, as document 02 describes them: the definition's are such passes (`forced_is`), and any such
-- passes end with its flags, bounds, round count and number (`forced_only`).
-- Assumes nothing.
use Rattle.std.proofs.Common.{ℕ, zero, suc, ◌+◌, ◌≤◌, ◌<◌, arith, eq-zero-or-pos, ◌≡◌, refl, sym, subst}
use Rattle.std.proofs.Common.{inl, inr, ⊎_elim, List}
use Rattle.base.specs.Sums.{sum_to}
use Rattle.base.specs.Rows.{at}
use Rattle.base.proofs.SumLaws.{sum_part}
use Rattle.model.specs.Bound.{System, Legal}
use Rattle.model.specs.Demands.{Flags}
use Rattle.model.specs.Forcing.{lowest}
use Rattle.model.proofs.LowestLaws.{lowest_none_lem}
use Rattle.rounds.specs.Rounds.{test2}
use Rattle.rounds.specs.Forcing.{lowest_preemptive, made2, Final2, run2, force2}
use Rattle.rounds.specs.Said.{Over, ForcedTo, over, again, Ends}
use Rattle.rounds.proofs.RoundLaws.{either}
use Rattle.rounds.proofs.SaidLaws.{tested_is, tested_only}
use Rattle.rounds.proofs.PlaceLaws.{all_non}
use Rattle.rounds.proofs.ForcingLaws.{made2_flags, made2_fewer, run2_over, run2_again, few_preemptive}
use Rattle.rounds.proofs.ChangeLaws.{fails_lowest, change_preemptive, over_either, change_only}
use Rattle.rounds.proofs.ChangeLaws.{fails_is, change_is}

module _ (s : System) (ok : Legal s) where
  -- passes from fs to the end r, of which q have gone before
  Reached : List ℕ → ℕ → Final2 → Type 0
  Reached fs q r =
      (p : ℕ)
      × ((ForcedTo s (at fs) (at r.flags) (at r.last.bounds) r.last.rounds p)
      × (r.passes ≡ q + p))

  said_last : (fs : List ℕ) (q : ℕ) → Over s (at fs) (at (test2 s fs).bounds)
      → Reached fs q (record { flags = fs; last = test2 s fs; passes = suc q })
  unfolding Reached
  said_last fs q o = (1, (over (tested_is s ok fs) o, omega arith))

  run2_is : (f : ℕ) (fs : List ℕ) (q : ℕ) → Flags s (at fs) → sum_to (at fs) s.count ≤ f
      → Reached fs q (run2 s f fs q)
  unfolding run2 Reached
  run2_is zero fs q legal few =
      said_last fs q
      (⊎_elim (λ z. inl (lowest_none_lem s (test2 s fs).bounds z))
      (λ p.
      inr (fails_is s fs (test2 s fs).bounds legal p, λ k l. omega (arith, sum_part (at fs) s.count k l)))
      (eq-zero-or-pos (lowest s (test2 s fs).bounds)))
  run2_is (suc f) fs q legal few =
      either (Reached fs q) (lowest s (test2 s fs).bounds) _ _
      (λ z. said_last fs q (inl (lowest_none_lem s (test2 s fs).bounds z)))
      (λ fails.
      either (Reached fs q) (lowest_preemptive s fs) _ _
      (λ z. said_last fs q (inr (fails_is s fs (test2 s fs).bounds legal fails, all_non s fs z)))
      (λ pos.
      let w : Reached (made2 s fs (test2 s fs).bounds) (suc q)
      (run2 s f (made2 s fs (test2 s fs).bounds) (suc q)) =
      run2_is f (made2 s fs (test2 s fs).bounds) (suc q) (made2_flags s fs (test2 s fs).bounds legal)
      (omega (arith, made2_fewer s fs (test2 s fs).bounds pos)) in (
        suc w.0,
        (
          again (tested_is s ok fs) (change_is s fs (test2 s fs).bounds legal fails pos) w.1.0,
          omega (arith, w.1.1),
        ),
      )))

  -- Passes as document 02 has them, from flags that agree with fs, come to the definition's end.
  run2_only : {a c b : ℕ → ℕ} {R p : ℕ} → ForcedTo s a c b R p → (f : ℕ) (fs : List ℕ) (q : ℕ)
      → ((i : ℕ) → i < s.count → at fs i ≡ a i) → Flags s (at fs) → sum_to (at fs) s.count ≤ f
      → Ends s c b R (q + p) (run2 s f fs q)
  run2_only (over {a = a} {b = b} {R = R} t o) f fs q flags legal few =
      let w : ((k : ℕ) → k < s.count → b k ≡ at (test2 s fs).bounds k) × (R ≡ (test2 s fs).rounds) =
      tested_only s ok fs a flags b R t in
      subst (Ends s a b R (q + 1))
      (sym (run2_over s f fs q (over_either s fs (test2 s fs).bounds a b flags w.0 o)))
      (record { flags = λ k l. sym (flags k l); bounds = w.0; rounds = w.1; passes = omega arith })
  run2_only (again {a} {b} {a'} {c} {b'} {R} {R'} {p} t ch rest) f fs q flags legal few =
      let bs : List ℕ = (test2 s fs).bounds in
      let w : ((k : ℕ) → k < s.count → b k ≡ at bs k) × (R ≡ (test2 s fs).rounds) =
      tested_only s ok fs a flags b R t in
      more f few (fails_lowest s fs bs a b flags w.0 ch.0)
      (change_preemptive s fs bs a b flags w.0 a' ch)
      (λ f' few'.
      run2_only rest f' (made2 s fs bs) (suc q) (change_only s fs bs a b flags w.0 legal a' ch)
      (made2_flags s fs bs legal) few')
    where
      more : (f : ℕ) → sum_to (at fs) s.count ≤ f → 0 < lowest s (test2 s fs).bounds
          → 0 < lowest_preemptive s fs
          → ((f' : ℕ) → sum_to (at (made2 s fs (test2 s fs).bounds)) s.count ≤ f'
          → Ends s c b' R' (suc q + p) (run2 s f' (made2 s fs (test2 s fs).bounds) (suc q)))
          → Ends s c b' R' (q + suc p) (run2 s f fs q)
      more zero few fails pos ih =
          absurd (let y : ⊥ = omega (arith, made2_fewer s fs (test2 s fs).bounds pos) in y)
      more (suc f) few fails pos ih =
          let x : Ends s c b' R' (suc q + p) (run2 s f (made2 s fs (test2 s fs).bounds) (suc q)) =
          ih f (omega (arith, made2_fewer s fs (test2 s fs).bounds pos)) in
          subst (Ends s c b' R' (q + suc p)) (sym (run2_again s f fs q fails pos))
          (record {
            flags = x.flags;
            bounds = x.bounds;
            rounds = x.rounds;
            passes = omega (arith, x.passes);
          })

  module _ (fs : List ℕ) (legal : Flags s (at fs)) where
    -- The definition passes as document 02 says,
    pub forced_is : ForcedTo s (at fs) (at (force2 s fs).flags) (at (force2 s fs).last.bounds)
        (force2 s fs).last.rounds (force2 s fs).passes
    unfolding force2 Reached
    forced_is =
        let w : Reached fs 0 (force2 s fs) =
        run2_is s.count fs 0 legal (few_preemptive s fs legal) in
        subst
        (ForcedTo s (at fs) (at (force2 s fs).flags) (at (force2 s fs).last.bounds)
        (force2 s fs).last.rounds)
        (let e : w.0 ≡ (force2 s fs).passes = omega (arith, w.1.1) in e)
        w.1.0

    -- and document 02's passes have no other end.
    pub forced_only : (c b : ℕ → ℕ) (R p : ℕ) → ForcedTo s (at fs) c b R p → Ends s c b R p (force2 s fs)
    unfolding force2
    forced_only c b R p x =
        subst (λ P. Ends s c b R P (force2 s fs)) (let e : 0 + p ≡ p = omega arith in e)
        (run2_only x s.count fs 0 (λ i l. refl) legal (few_preemptive s fs legal))
