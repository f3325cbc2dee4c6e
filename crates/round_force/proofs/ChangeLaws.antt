-- What a test that fails makes of the flags, as they are held: the mathematics' change.
-- Assumes nothing.
use Rattle.std.proofs.Common.{ℕ, zero, suc, ◌+◌, ◌-◌, ◌≤◌, ◌<◌, arith, eq-zero-or-pos, ◌≡◌, refl, sym, ap}
use Rattle.std.proofs.Common.{◌∙◌, Bool, true, false, ⊎_elim, List, set, replicate, get_or-set_same}
use Rattle.std.proofs.Common.{get_or-set_other, eqb, ltb, eqb-true}
use Rattle.std.proofs.Common.{ap₂, Option, Some, None, MatchOption}
use Rattle.std.proofs.Math.ListN.{length-replicate, get_or-replicate}
use borrow.Author.Tests.{eqb-false}
use Rattle.base.specs.Choice.{pick, or_else}
use Rattle.base.specs.Sums.{sum_to}
use Rattle.base.specs.Rows.{at}
use Rattle.base.proofs.SumLaws.{sum_same}
use Rattle.base.proofs.FirstLaws.{first_none, first_same, first_small, find_here}
use Rattle.base.proofs.RowLaws.{list_at}
use Rattle.model.specs.Bound.{System}
use Rattle.model.specs.Forcing.{lacks, lacking}
use Rattle.model.proofs.ForcingLaws.{made_at}
use Rattle.rounds.specs.Forcing.{lowest_preemptive, made_lowest, made2}
use Rattle.rounds.proofs.ForcingLaws.{made2_lacking, made2_lowest, lowest_forced, others_stay}
use Rattle.flags.specs.declared.Flags.{Flags}
use Rattle.flags.specs.Flags.{flag_in, held, last_to}
use Rattle.flags.proofs.FlagLaws.{flag_small, held_same, lacking_held, made_held}
use Rattle.flags.proofs.LastLaws.{last_none, last_some}
use Rattle.round_test.specs.Round.{flag_list}
use Rattle.round_force.specs.Forced2.{first_in, alone, to_force}

-- one task alone
pub alone_held : {n place : ℕ} → n ≤ 32 → place < n
    → held (at (set (replicate 32 1) place 0)) n ≡ alone n (place + 1)
unfolding alone
alone_held {n} {place} small inside = held_same _ _ n small each
  where
    each : (i : ℕ) → i < n → at (set (replicate 32 1) place 0) i ≡ pick (eqb (suc i) (place + 1)) 0 1
    each i lt = go (eqb (suc i) (place + 1)) refl
      where
        go : (t : Bool) → eqb (suc i) (place + 1) ≡ t → at (set (replicate 32 1) place 0) i ≡ pick t 0 1
        go true e =
            ap (at (set (replicate 32 1) place 0))
            (let here : i ≡ place = omega (arith, eqb-true (suc i) (place + 1) e) in here)
            ∙ get_or-set_same (replicate 32 1) place 0 0 (omega (arith, length-replicate {A = ℕ} 32 1))
        go false e =
            get_or-set_other (replicate 32 1) place i 0 0
            (λ here. eqb-false (suc i) (place + 1) e (omega arith))
            ∙ get_or-replicate {A = ℕ} 32 i 1 0 (omega arith)

-- which are forced, each way
module _ (n : ℕ) (flags failing : Flags) (first : ℕ) {last : ℕ}
    (is : last ≡ last_to (λ i. lacks (flag_in flags i) (flag_in failing i)) 32)
  where
    pub force_first : last ≡ 0 → {r : Flags} → r ≡ alone n first → r ≡ to_force n flags failing first
    unfolding to_force
    force_first none e = e ∙ rw (sym is ∙ none) refl

    pub force_failing : (last ≡ 0 → ⊥) → failing ≡ to_force n flags failing first
    unfolding to_force
    force_failing some = go _ (λ z. some (is ∙ z))
      where
        go : (x : ℕ) → (x ≡ 0 → ⊥) → failing ≡ or_else x (alone n first) (λ _. failing)
        go zero ne = absurd (ne refl)
        go (suc x) ne = refl

-- the lowest-numbered preemptive task, as it is found or not
pub first_found : (n : ℕ) (flags : Flags) (r : Option ℕ)
    → MatchOption r ((k : ℕ) → 0 ≤ k → k < n → ltb 0 (flag_in flags k) ≡ false)
    (λ i. (0 ≤ i) × (i < n) × (ltb 0 (flag_in flags i) ≡ true)
    × ((k : ℕ) → 0 ≤ k → k < i → ltb 0 (flag_in flags k) ≡ false))
    → MatchOption r (first_in n flags ≡ 0) (λ k. first_in n flags ≡ k + 1)
unfolding first_in
first_found n flags None none = first_none _ (λ k lt. none k (omega arith) lt)
first_found n flags (Some i) some =
    sym (find_here _ (λ k lt. some.3 k (omega arith) lt) some.1 some.2)

pub first_within : (n : ℕ) (flags : Flags) {k : ℕ} → first_in n flags ≡ k + 1 → k < n
unfolding first_in
first_within n flags e = omega (arith, first_small (λ k. ltb 0 (flag_in flags k)) n)

-- a flag less what is forced of it
flag_forced : (x : ℕ) → x ≤ 1 → (t : Bool) → x - lacks x (pick t 0 1) ≡ pick t 0 x
unfolding lacks
flag_forced zero one true = refl
flag_forced zero one false = refl
flag_forced (suc zero) one true = refl
flag_forced (suc zero) one false = refl
flag_forced (suc (suc x)) one t = absurd (let z : ⊥ = omega arith in z)

module _ (s : System) (few : s.count ≤ 32) (flags : Flags) (holds : flags ≡ held (flag_in flags) s.count)
  where
    abbrev fs : List ℕ
    fs = flag_list flags s.count

    pub flag_is : (i : ℕ) → i < s.count → at fs i ≡ flag_in flags i
    flag_is i lt = list_at 0 (flag_in flags) s.count i lt

    pub first_is : first_in s.count flags ≡ lowest_preemptive s fs
    unfolding first_in lowest_preemptive
    first_is = first_same _ _ s.count (λ i lt. ap (ltb 0) (sym (flag_is i lt)))

    module _ (bounds : List ℕ) {failing : Flags} (fails : failing ≡ held (at bounds) s.count) where
      abbrev lack : ℕ → ℕ
      lack i = lacks (flag_in flags i) (flag_in failing i)

      lacking_is : sum_to lack 32 ≡ lacking s fs bounds
      unfolding lacking
      lacking_is =
          ap₂ (λ x y. sum_to (λ i. lacks (flag_in x i) (flag_in y i)) 32) holds fails
          ∙ lacking_held (flag_in flags) (at bounds) s.count few
          ∙ sum_same _ _ s.count (λ i lt. ap (λ x. lacks x (at bounds i)) (sym (flag_is i lt)))

      -- what is left of the flags where b holds the tasks to force
      left_of : (b : ℕ → ℕ) {forced : Flags} → forced ≡ held b s.count
          → held (λ i. flag_in flags i - lacks (flag_in flags i) (flag_in forced i)) 32
          ≡ held (λ i. flag_in flags i - lacks (flag_in flags i) (b i)) s.count
      left_of b e =
          ap₂ (λ x y. held (λ i. flag_in x i - lacks (flag_in x i) (flag_in y i)) 32) holds e
          ∙ made_held (flag_in flags) b s.count few (λ i lt. flag_small flags i)

      forced_lowest : lacking s fs bounds ≡ 0 → (i : ℕ) → i < s.count
          → flag_in flags i - lacks (flag_in flags i) (pick (eqb (suc i) (first_in s.count flags)) 0 1)
          ≡ at (made2 s fs bounds) i
      forced_lowest none i lt =
          flag_forced (flag_in flags i) (flag_small flags i) (eqb (suc i) (first_in s.count flags))
          ∙ go (eqb (suc i) (first_in s.count flags)) refl
          ∙ ap (λ l. at l i) (sym (made2_lowest s fs bounds none))
        where
          go : (t : Bool) → eqb (suc i) (first_in s.count flags) ≡ t
              → pick t 0 (flag_in flags i) ≡ at (made_lowest s fs) i
          go true e = sym (lowest_forced s fs i lt (eqb-true (suc i) _ e ∙ first_is))
          go false e =
              sym (others_stay s fs i lt (λ z. eqb-false (suc i) _ e (z ∙ sym first_is)) ∙ flag_is i lt)

      forced_lacking : 0 < lacking s fs bounds → (i : ℕ) → i < s.count
          → flag_in flags i - lacks (flag_in flags i) (at bounds i) ≡ at (made2 s fs bounds) i
      forced_lacking some i lt =
          ap (λ x. x - lacks x (at bounds i)) (sym (flag_is i lt))
          ∙ sym (made_at s fs bounds i lt)
          ∙ ap (λ l. at l i) (sym (made2_lacking s fs bounds some))

      -- the flags after the test are those of the mathematics' change
      pub changed_held : {forced next : Flags} {first : ℕ} → first ≡ first_in s.count flags
          → forced ≡ to_force s.count flags failing first
          → next ≡ held (λ i. flag_in flags i - lacks (flag_in flags i) (flag_in forced i)) 32
          → next ≡ held (at (made2 s fs bounds)) s.count
      changed_held {forced} {next} {first} ef eo en =
          ⊎_elim
          (λ none.
          en
          ∙ left_of (λ i. pick (eqb (suc i) (first_in s.count flags)) 0 1)
          (eo
          ∙ sym (force_first s.count flags failing first refl none refl)
          ∙ (unfold alone in ap (λ x. held (λ i. pick (eqb (suc i) x) 0 1) s.count) ef))
          ∙ held_same _ _ s.count few (forced_lowest (sym lacking_is ∙ last_none lack 32 none)))
          (λ some.
          en
          ∙ left_of (at bounds)
          (eo
          ∙ sym (force_failing s.count flags failing first refl (λ z. omega arith))
          ∙ fails)
          ∙ held_same _ _ s.count few
          (forced_lacking (omega (arith, lacking_is, last_some lack 32 (λ z. omega arith)))))
          (eq-zero-or-pos (last_to lack 32))
