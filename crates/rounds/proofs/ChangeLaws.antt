-- One pass, as document 02 describes it: the flags that a failed test makes are the definition's
-- (`change_is`), and no others are (`change_only`).
-- Assumes nothing.
use Rattle.std.proofs.Common.{ℕ, zero, suc, ◌-◌, ◌≤◌, ◌<◌, arith, eq-zero-or-pos, eq-or-lt_of_le, ◌≡◌, refl}
use Rattle.std.proofs.Common.{sym, ap, ◌∙◌, ◌⊎◌, inl, inr, ⊎_elim, Bool, true, false, List, eqb, eqb-true}
use borrow.Author.Tests.{eqb-false}
use Rattle.base.specs.Sums.{sum_to}
use Rattle.base.specs.Rows.{at}
use Rattle.base.proofs.SumLaws.{sum_part, sum_cap}
use Rattle.base.proofs.OrderLaws.{le_or_lt}
use Rattle.model.specs.Bound.{System}
use Rattle.model.specs.Demands.{Flags}
use Rattle.model.specs.Forcing.{lowest, lacks, lacking}
use Rattle.model.proofs.ForcingLaws.{made_at}
use Rattle.model.proofs.LowestLaws.{none_lowest}
use Rattle.rounds.specs.Forcing.{lowest_preemptive, made_lowest, made2}
use Rattle.rounds.specs.Said.{Lacks, Fails, AllLacking, OnlyLowest, Change, Over}
use Rattle.rounds.proofs.PlaceLaws.{Preemptive, fails_at, fails_where, non_all, first_at}
use Rattle.rounds.proofs.PlaceLaws.{preemptive_where}
use Rattle.rounds.proofs.ForcingLaws.{lowest_forced, others_stay, made2_lacking, made2_lowest}
use Rattle.rounds.proofs.CarryLaws.{lacks_yes, lacks_no}

lacks_non : (x b : ℕ) → x ≡ 0 → lacks x b ≡ 0
unfolding lacks
lacks_non zero b h = refl
lacks_non (suc x) b h = absurd (let z : ⊥ = omega arith in z)

lacks_says : (x b : ℕ) → 0 < lacks x b → (0 < x) × (b ≡ 0)
unfolding lacks
lacks_says zero b h = absurd (let z : ⊥ = omega arith in z)
lacks_says (suc x) zero h = (omega arith, refl)
lacks_says (suc x) (suc b) h = absurd (let z : ⊥ = omega arith in z)

-- a sum that is not 0 has a term that is not
sum_some : (f : ℕ → ℕ) (n : ℕ) → 0 < sum_to f n → (k : ℕ) × ((k < n) × (0 < f k))
unfolding sum_to
sum_some f zero h = absurd (let z : ⊥ = omega arith in z)
sum_some f (suc n) h =
    ⊎_elim
    (λ z.
    let w : (k : ℕ) × ((k < n) × (0 < f k)) = sum_some f n (omega arith) in (
      w.0,
      (omega (arith, w.1.0), w.1.1),
    ))
    (λ p. (n, (omega arith, p))) (eq-zero-or-pos (f n))

-- flags a and bounds b that agree with the lists fs and bs on the table's places
module _ (s : System) (fs bs : List ℕ) (a b : ℕ → ℕ) (flags : (i : ℕ) → i < s.count → at fs i ≡ a i)
    (bounds : (i : ℕ) → i < s.count → b i ≡ at bs i)
  where
    pub fails_lowest : Fails s b → 0 < lowest s bs
    fails_lowest f =
        fails_where s bs f.place f.inside (sym (bounds f.place f.inside) ∙ f.none)

    lacks_at : (k : ℕ) → k < s.count → Lacks a b k → lacks (at fs k) (at bs k) ≡ 1
    lacks_at k l h =
        lacks_yes (at fs k) (at bs k) (omega (arith, h.0, flags k l)) (omega (arith, h.1, bounds k l))

    lacks_or : (k : ℕ) → k < s.count → (Lacks a b k) ⊎ (lacks (at fs k) (at bs k) ≡ 0)
    lacks_or k l =
        ⊎_elim (λ z. inr (lacks_non _ _ z))
        (λ p.
        ⊎_elim (λ z. inl (omega (arith, flags k l), omega (arith, bounds k l))) (λ q. inr (lacks_no _ _ q))
        (eq-zero-or-pos (at bs k)))
        (eq-zero-or-pos (at fs k))

    some_lacking : (k : ℕ) → k < s.count → Lacks a b k → 0 < lacking s fs bs
    unfolding lacking
    some_lacking k l h =
        omega (arith, lacks_at k l h, sum_part (λ k. lacks (at fs k) (at bs k)) s.count k l)

    none_lacking : ((k : ℕ) → k < s.count → Lacks a b k → ⊥) → lacking s fs bs ≡ 0
    unfolding lacking
    none_lacking h =
        omega (
          arith,
          sum_cap (λ k. lacks (at fs k) (at bs k)) 0 s.count
              (λ k l. ⊎_elim (λ x. absurd (h k l x)) (λ z. omega arith) (lacks_or k l)),
        )

    pub change_preemptive : (a' : ℕ → ℕ) → Change s a b a' → 0 < lowest_preemptive s fs
    change_preemptive a' (f, inl x) =
        preemptive_where s fs x.place x.inside (omega (arith, x.some.0, flags x.place x.inside))
    change_preemptive a' (f, inr x) =
        preemptive_where s fs x.place x.inside
        (omega (arith, x.preemptive, flags x.place x.inside))

    pub over_either : Over s a b → (lowest s bs ≡ 0) ⊎ (lowest_preemptive s fs ≡ 0)
    over_either (inl pass) = inl (none_lowest s bs (λ k l. omega (arith, pass k l, bounds k l)))
    over_either (inr x) = inr (non_all s fs (λ k l. omega (arith, x.1 k l, flags k l)))

    -- the place of the lowest-numbered preemptive task is one place
    lowest_place : (a' : ℕ → ℕ) (x : OnlyLowest s a b a') → 0 < lowest_preemptive s fs
        → suc x.place ≡ lowest_preemptive s fs
    lowest_place a' x pos =
        let p : ℕ = lowest_preemptive s fs - 1 in
        let f : Preemptive fs s.count p = first_at s fs pos in
        ⊎_elim
        (λ (h : x.place ≤ p).
        ⊎_elim (λ e. omega arith)
        (λ (q : x.place < p).
        absurd
        (let y : ⊥ = omega (arith, f.before x.place q, x.preemptive, flags x.place x.inside) in y))
        (eq-or-lt_of_le h))
        (λ (h : p < x.place).
        absurd (let y : ⊥ = omega (arith, x.before p h, f.flag, flags p f.inside) in y))
        (le_or_lt x.place p)

    -- There is no other change than the definition's.
    pub change_only : Flags s (at fs) → (a' : ℕ → ℕ) → Change s a b a' → (i : ℕ) → i < s.count
        → at (made2 s fs bs) i ≡ a' i
    change_only legal a' (f, inl x) i l =
        let e : at (made2 s fs bs) i ≡ at fs i - lacks (at fs i) (at bs i) =
        ap (λ y. at y i) (made2_lacking s fs bs (some_lacking x.place x.inside x.some))
        ∙ made_at s fs bs i l in
        ⊎_elim (λ h. omega (arith, x.forced i l h, e, lacks_at i l h, legal i l))
        (λ z. omega (arith, x.others i l (λ h. omega (arith, lacks_at i l h)), e, flags i l))
        (lacks_or i l)
    change_only legal a' (f, inr x) i l =
        ap (λ y. at y i) (made2_lowest s fs bs (none_lacking x.none)) ∙ go (eqb i x.place) refl
      where
        is : suc x.place ≡ lowest_preemptive s fs
        is = lowest_place a' x (change_preemptive a' (f, inr x))

        go : (t : Bool) → eqb i x.place ≡ t → at (made_lowest s fs) i ≡ a' i
        go true e =
            let q : i ≡ x.place = eqb-true i x.place e in
            lowest_forced s fs i l (ap suc q ∙ is) ∙ sym (ap a' q ∙ x.forced)
        go false e =
            let ne : i ≡ x.place → ⊥ = eqb-false i x.place e in
            others_stay s fs i l (λ y. ne (omega (arith, is))) ∙ flags i l ∙ sym (x.others i l ne)

-- And the definition's is one.
module _ (s : System) (fs bs : List ℕ) (legal : Flags s (at fs)) where
  lacks_there : (i : ℕ) → i < s.count → (Lacks (at fs) (at bs) i) ⊎ (lacks (at fs i) (at bs i) ≡ 0)
  lacks_there = lacks_or s fs bs (at fs) (at bs) (λ i l. refl) (λ i l. refl)

  found : 0 < lacking s fs bs → (k : ℕ) × ((k < s.count) × (0 < lacks (at fs k) (at bs k)))
  unfolding lacking
  found h = sum_some _ s.count h

  all_lacking : 0 < lacking s fs bs → AllLacking s (at fs) (at bs) (at (made2 s fs bs))
  all_lacking pos =
      let w : (k : ℕ) × ((k < s.count) × (0 < lacks (at fs k) (at bs k))) = found pos in
      record {
        place = w.0;
        inside = w.1.0;
        some = lacks_says _ _ w.1.1;
        forced = λ i l h. omega (arith, at_made i l, lacks_yes (at fs i) (at bs i) h.0 h.1, legal i l);
        others =
            λ i l h. ⊎_elim (λ y. absurd (h y)) (λ z. omega (arith, at_made i l)) (lacks_there i l);
      }
    where
      at_made : (i : ℕ) → i < s.count → at (made2 s fs bs) i ≡ at fs i - lacks (at fs i) (at bs i)
      at_made i l = ap (λ y. at y i) (made2_lacking s fs bs pos) ∙ made_at s fs bs i l

  only_lowest : lacking s fs bs ≡ 0 → 0 < lowest_preemptive s fs
      → OnlyLowest s (at fs) (at bs) (at (made2 s fs bs))
  only_lowest z pos =
      let p : ℕ = lowest_preemptive s fs - 1 in
      let f : Preemptive fs s.count p = first_at s fs pos in
      record {
        none =
            λ i l h.
            let y : ⊥ =
            omega (arith, some_lacking s fs bs (at fs) (at bs) (λ i l. refl) (λ i l. refl) i l h) in y;
        place = p;
        inside = f.inside;
        preemptive = f.flag;
        before = f.before;
        forced = is p ∙ lowest_forced s fs p f.inside (omega arith);
        others = λ i l ne. is i ∙ others_stay s fs i l (λ e. ne (omega arith));
      }
    where
      is : (i : ℕ) → at (made2 s fs bs) i ≡ at (made_lowest s fs) i
      is i = ap (λ y. at y i) (made2_lowest s fs bs z)

  pub fails_is : 0 < lowest s bs → Fails s (at bs)
  fails_is h = record {
    place = lowest s bs - 1;
    inside = (fails_at s bs h).inside;
    none = (fails_at s bs h).none;
  }

  pub change_is : 0 < lowest s bs → 0 < lowest_preemptive s fs
      → Change s (at fs) (at bs) (at (made2 s fs bs))
  change_is fails pos = (
    fails_is fails,
    ⊎_elim (λ z. inr (only_lowest z pos)) (λ more. inl (all_lacking more))
        (eq-zero-or-pos (lacking s fs bs)),
  )
