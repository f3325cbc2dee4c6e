-- The loop of passes over the flags as they are held: what it knows is what the mathematics' loop knows of
-- the list that is held, so that it ends where forcing does.
-- Assumes nothing.
use Rattle.std.proofs.Common.{ℕ, ◌+◌, ◌-◌, ◌≤◌, ◌<◌, arith, ◌≡◌, sym, ap, ◌∙◌, ◌⊎◌, inl, inr, ⊎_elim, List}
use Rattle.std.proofs.Common.{eqb}
use Rattle.base.specs.Sums.{sum_to}
use Rattle.base.specs.Least.{first_of}
use Rattle.base.specs.Rows.{at}
use Rattle.base.proofs.SumLaws.{sum_same}
use Rattle.base.proofs.RowLaws.{row_at, row_same}
use Rattle.model.specs.Bound.{System, Legal}
use Rattle.model.specs.Demands.{Flags as FlagsOf}
use Rattle.model.specs.Forcing.{lacks, lowest}
use Rattle.rounds.specs.Forcing.{lowest_preemptive, made2, force2}
use Rattle.rounds.specs.Words.{AlikeFinal}
use Rattle.rounds.proofs.PlaceLaws.{lowest_same}
use Rattle.rounds.proofs.ForcingLaws.{few_preemptive, made2_flags}
use Rattle.rounds.proofs.PassLaws.{Passing2, passing_start, passing_done, passing_falls, passing_more}
use Rattle.flags.specs.declared.Flags.{Flags}
use Rattle.flags.specs.Flags.{flag_in, held}
use Rattle.flags.proofs.FlagLaws.{flag_small, held_flag, held_same, lowest_held}
use Rattle.round_slacks.specs.Moves.{Ends}
use Rattle.round_slacks.proofs.MoveLaws.{ends_row}
use Rattle.round_test.specs.Round.{flag_list, test_in, TestedIn}
use Rattle.round_force.specs.Forced2.{first_in, to_force, final_in, Ended2}
use Rattle.round_force.proofs.ChangeLaws.{flag_is, first_is, changed_held}

-- before a pass
pub record Forcing2 (s : System) (given flags : Flags) (bounds : List ℕ) (passes : ℕ) : Type 0 where
  pub way : Passing2 s (flag_list given s.count) (flag_list flags s.count) passes
  pub holds : flags ≡ held (flag_in flags) s.count
  pub bounded : Ends s.count bounds

-- flags that are held are flags
list_flags : (s : System) (few : s.count ≤ 32) (flags : Flags) → flags ≡ held (flag_in flags) s.count
    → FlagsOf s (at (flag_list flags s.count))
list_flags s few flags holds i lt = omega (arith, flag_is s few flags holds i lt, flag_small flags i)

module _ (s : System) (ok : Legal s) (few : s.count ≤ 32) (given : Flags) where
  abbrev start : List ℕ
  start = flag_list given s.count

  pub forcing_start : given ≡ held (flag_in given) s.count → {bounds : List ℕ} → Ends s.count bounds
      → Forcing2 s given given bounds 1
  forcing_start holds e = record {
    way = passing_start s ok start (list_flags s few given holds);
    holds = holds;
    bounded = e;
  }

  pub forcing_small : given ≡ held (flag_in given) s.count → {flags : Flags} {bounds : List ℕ} {passes : ℕ}
      → Forcing2 s given flags bounds passes → passes ≤ 33
  forcing_small holds a =
      omega (arith, a.way.small, few, few_preemptive s start (list_flags s few given holds))

  -- one test
  module _ {flags : Flags} {old bounds : List ℕ} {passes rounds place first : ℕ} {failing : Flags}
      (a : Forcing2 s given flags old passes)
      (tested : TestedIn s flags bounds rounds)
      (fails : failing ≡ held (at bounds) s.count)
      (placed : place ≡ first_of (λ i. eqb (flag_in failing i) 0) 32)
      (found : first ≡ first_in s.count flags)
    where
      abbrev fs : List ℕ
      fs = flag_list flags s.count

      bound_at : (k : ℕ) → k < s.count → at bounds k ≡ at (test_in s flags).bounds k
      bound_at k lt = ap (λ l. at l k) tested.bounded ∙ row_at 0 _ s.count k lt few

      place_is : place ≡ lowest s bounds
      unfolding lowest
      place_is =
          placed
          ∙ ap (λ f. first_of (λ i. eqb (flag_in f i) 0) 32) fails
          ∙ lowest_held (at bounds) s.count few

      first_left : first ≡ lowest_preemptive s fs
      first_left = found ∙ first_is s few flags a.holds

      -- the last test
      pub forcing_done : (place ≡ 0) ⊎ (first ≡ 0)
          → Ended2 s given bounds
          (record { flags = flags; passes = passes; rounds = rounds; failing = place })
      forcing_done o =
          let end : AlikeFinal s.count (force2 s start) (record {
            flags = fs;
            last = record { slacks = fs; bounds = bounds; rounds = rounds };
            passes = passes;
          }) =
          passing_done s ok start fs bounds passes rounds a.way bound_at tested.counted fs
          (⊎_elim (λ z. inl (sym place_is ∙ z)) (λ z. inr (sym first_left ∙ z)) o) in
          record {
            flags =
                a.holds
                ∙ held_same _ _ s.count few
                (λ i lt. sym (flag_is s few flags a.holds i lt) ∙ end.flags i lt);
            passes = end.passes;
            rounds = end.rounds;
            failing = place_is ∙ sym (lowest_same s (final_in s given).last.bounds bounds end.bounds);
            bounded = ends_row few _ tested.bounded ∙ row_same 0 _ _ s.count few end.bounds;
          }

      -- any other test
      module _ {forced next : Flags} (short : place ≡ 0 → ⊥) (left : first ≡ 0 → ⊥)
          (which : forced ≡ to_force s.count flags failing first)
          (is : next ≡ held (λ i. flag_in flags i - lacks (flag_in flags i) (flag_in forced i)) 32)
        where
          made_is : next ≡ held (at (made2 s fs bounds)) s.count
          made_is = changed_held s few flags a.holds bounds fails found which is

          next_at : (i : ℕ) → i < s.count → flag_in next i ≡ at (made2 s fs bounds) i
          next_at i lt =
              ap (λ f. flag_in f i) made_is
              ∙ held_flag _ s.count few i lt
              (made2_flags s fs bounds (list_flags s few flags a.holds) i lt)

          next_holds : next ≡ held (flag_in next) s.count
          next_holds = made_is ∙ held_same _ _ s.count few (λ i lt. sym (next_at i lt))

          list_next : (i : ℕ) → i < s.count → at (flag_list next s.count) i ≡ at (made2 s fs bounds) i
          list_next i lt = flag_is s few next next_holds i lt ∙ next_at i lt

          fails_some : 0 < lowest s bounds
          fails_some = let z : 0 < place = omega arith in omega (arith, place_is)

          some_left : 0 < lowest_preemptive s fs
          some_left = let z : 0 < first = omega arith in omega (arith, first_left)

          pub forcing_falls : sum_to (flag_in next) s.count < sum_to (flag_in flags) s.count
          forcing_falls =
              omega (
                arith,
                sum_same _ _ s.count (flag_is s few next next_holds),
                sum_same _ _ s.count (flag_is s few flags a.holds),
                passing_falls s ok start fs bounds passes rounds a.way bound_at tested.counted
                    (flag_list next s.count) fails_some some_left list_next,
              )

          pub forcing_more : Forcing2 s given next bounds (passes + 1)
          forcing_more = record {
            way =
                passing_more s ok start fs bounds passes rounds a.way bound_at tested.counted
                (flag_list next s.count) fails_some some_left list_next;
            holds = next_holds;
            bounded = ends_row few _ tested.bounded;
          }
