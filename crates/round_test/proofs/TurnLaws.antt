-- The loop of rounds over rows: what it knows before a round is what the mathematics' loop knows of the list
-- that its flags hold, so that it ends where the test does.
-- Assumes nothing.
use Rattle.std.proofs.Common.{ℕ, ◌+◌, ◌*◌, ◌-◌, ◌≤◌, ◌<◌, arith, ◌≡◌, refl, sym, ap, ◌∙◌, List, replicate}
use Rattle.std.proofs.Math.ListN.{get_or-replicate}
use Rattle.base.specs.Sums.{sum_to}
use Rattle.base.specs.Rows.{at, row}
use Rattle.base.proofs.SumLaws.{sum_cap}
use Rattle.base.proofs.RowLaws.{row_at, row_same, list_at}
use Rattle.model.specs.Bound.{System, Legal, under, bound}
use Rattle.model.proofs.BoundLaws.{bound_same, bound_range}
use Rattle.rounds.specs.Rounds.{slack_after, changes, room, test2}
use Rattle.rounds.specs.Words.{bound_in, AlikeTested}
use Rattle.rounds.proofs.RoundLaws.{earned_cap}
use Rattle.rounds.proofs.ReadLaws.{own_unread}
use Rattle.rounds.proofs.LoopLaws.{Rounding, rounding_start, rounding_done, rounding_falls, rounding_room}
use Rattle.rounds.proofs.LoopLaws.{rounding_more, rounding_small}
use Rattle.flags.specs.declared.Flags.{Flags}
use Rattle.flags.specs.Flags.{flag_in, changed}
use Rattle.rows.specs.declared.Head.{Head}
use Rattle.rows.specs.Held.{system_in, LegalRows}
use Rattle.rows.proofs.HeldLaws.{rows_legal}
use Rattle.slack_caps.specs.Slacks.{SlackRows}
use Rattle.round_slacks.specs.Moves.{Ends, FitRows, slack_in, Moved}
use Rattle.round_slacks.proofs.OnlyLaws.{unchanged_same, only_none, only_some, only_one}
use Rattle.round_slacks.proofs.MoveLaws.{ends_row, ends_empty}
use Rattle.round_test.specs.Round.{flag_list, TestedIn, Spared}

-- before a round: the slacks, what they leave of D - C, the bounds of the round before, and whose slack alone
-- changed in it
pub record Turning (s : System) (flags : Flags) (reach slacks near bounds : List ℕ) (moved r : ℕ) : Type 0
  where
    pub way : Rounding s (flag_list flags s.count) slacks r
    pub after : Ends s.count slacks
    pub left : near ≡ row 0 (λ k. at reach k - at slacks k) s.count
    pub bounded : Ends s.count bounds
    pub spared : Spared (under s (at slacks)) (flag_in flags) bounds moved

-- the room that the slacks leave: the measure
abbrev pub room_left : System → List ℕ → ℕ
room_left s slacks = room s - sum_to (at slacks) s.count

module _ {h : Head} {inverse rest cost reach : List ℕ} (legal : LegalRows h inverse rest cost reach)
  where
    abbrev s : System
    s = system_in h rest cost reach

    ok : Legal s
    ok = rows_legal legal

    module _ (flags : Flags) where
      abbrev fs : List ℕ
      fs = flag_list flags h.n

      pub turning_start : {slacks near bounds : List ℕ} → slacks ≡ replicate 32 0
          → near ≡ row 0 (at reach) h.n → Ends h.n bounds → Turning s flags reach slacks near bounds 0 1
      turning_start {slacks} none e held =
          let zero_at : (k : ℕ) → k < h.n → at slacks k ≡ 0 =
          λ k lt. ap (λ l. at l k) none ∙ get_or-replicate {A = ℕ} 32 k 0 0 (omega (arith, legal.count)) in
          record {
            way = rounding_start s ok fs slacks zero_at;
            after = ends_empty legal.count none;
            left =
                e
                ∙ row_same 0 _ _ h.n legal.count
                (λ k lt. let z : at reach k ≡ at reach k - at slacks k = omega (arith, zero_at k lt) in z);
            bounded = held;
            spared = λ k lt one. absurd (let z : ⊥ = omega arith in z);
          }

      module _ {slacks near bounds : List ℕ} {old rounds : ℕ}
          (a : Turning s flags reach slacks near bounds old rounds)
        where
          in_reach : (k : ℕ) → k < h.n → at slacks k ≤ at reach k
          in_reach k lt = omega (arith, earned_cap s ok fs slacks a.way.earned k lt)

          -- the rows that a search reads
          pub turning_rows : SlackRows h.n reach slacks near
          turning_rows = record {
            fits = in_reach;
            nears = λ k lt. ap (λ l. at l k) a.left ∙ row_at 0 _ h.n k lt legal.count;
          }

          pub turning_small : rounds ≤ 31999969
          unfolding room
          turning_small =
              let cap : sum_to (λ k. s.D k - s.C k) h.n ≤ h.n * 999999 =
              sum_cap (λ k. s.D k - s.C k) 999999 h.n
              (λ k lt.
              omega (arith, (legal.each k lt).time, (legal.each k lt).deadline, (legal.each k lt).period)) in
              omega (arith, cap, legal.count, rounding_small s ok fs slacks rounds a.way)

          -- with the bounds of this round
          module _ {found : List ℕ}
              (e : found ≡ row 0 (bound (under s (at slacks)) (flag_in flags)) h.n)
            where
              flags_read : (i : ℕ) → i < h.n → flag_in flags i ≡ at fs i
              flags_read i lt = sym (list_at 0 (flag_in flags) h.n i lt)

              found_at : (k : ℕ) → k < h.n → at found k ≡ bound (under s (at slacks)) (flag_in flags) k
              found_at k lt = ap (λ l. at l k) e ∙ row_at 0 _ h.n k lt legal.count

              bound_at : (k : ℕ) → k < h.n → at found k ≡ bound_in s fs slacks k
              bound_at k lt =
                  found_at k lt
                  ∙ sym
                  (bound_same (under s (at slacks)) (at fs) (flag_in flags) k (ok.time k lt) lt flags_read)

              turning_fits : FitRows h.n cost reach found slacks
              turning_fits k lt =
                  let range : (0 < bound_in s fs slacks k → s.C k ≤ bound_in s fs slacks k)
                  × (bound_in s fs slacks k ≤ s.D k) =
                  bound_range (under s (at slacks)) (at fs) k (ok.time k lt) (ok.short k lt) in
                  record {
                    deadline = omega (arith, (legal.each k lt).deadline, (legal.each k lt).period);
                    low = λ some. omega (arith, bound_at k lt, range.0 (omega (arith, bound_at k lt)));
                    high = omega (arith, bound_at k lt, range.1);
                    room = in_reach k lt;
                  }

              -- what moving the slacks asks
              pub turning_moves : (h.n ≤ 32) × (FitRows h.n cost reach found slacks)
                  × (Ends h.n slacks) × (Ends h.n near)
              turning_moves =
                  (legal.count, turning_fits, a.after, ends_row legal.count _ a.left)

              -- and the slacks after it
              module _ {slacks' near' : List ℕ} {moved : ℕ}
                  (m : Moved h.n cost reach found slacks slacks' near' moved)
                where
                  slacked : (k : ℕ) → k < h.n → at slacks' k ≡ slack_after (s.D k) (at slacks k) (at found k)
                  unfolding slack_in
                  slacked k lt = ap (λ l. at l k) m.after ∙ row_at 0 _ h.n k lt legal.count

                  abbrev move : ℕ → ℕ
                  move k = changed (at slacks k) (at slacks' k)

                  changes_are : sum_to move h.n ≡ changes s slacks slacks'
                  unfolding changes changed
                  changes_are = refl

                  -- the last round
                  pub turning_done : moved ≡ 0
                      → TestedIn s flags found rounds
                  turning_done none =
                      let end : AlikeTested h.n (test2 s fs)
                      (record { slacks = slacks; bounds = found; rounds = rounds }) =
                      rounding_done s ok fs slacks found slacks' rounds a.way bound_at slacked
                      (sym changes_are ∙ only_none move h.n (sym m.changes ∙ none)) in
                      record {
                        bounded =
                            ends_row legal.count _ e ∙ row_same 0 _ _ h.n legal.count end.bounds;
                        counted = end.rounds;
                      }

                  -- any other round
                  module _ (some : moved ≡ 0 → ⊥) where
                    more : 0 < changes s slacks slacks'
                    more = omega (arith, changes_are, only_some move h.n (λ z. some (m.changes ∙ z)))

                    -- a task whose slack alone changed: its own slack is not read
                    own_only : Spared (under s (at slacks')) (flag_in flags) found moved
                    own_only k lt one =
                        found_at k lt
                        ∙ own_unread s (at slacks) (at slacks') (flag_in flags) k
                        (λ i less ne. sym
                        (unchanged_same (at slacks i) (at slacks' i)
                        (only_one move h.n k (omega (arith, legal.count)) (sym m.changes ∙ one) i less
                        ne)))
                        (ok.time k lt)

                    pub turning_more : Turning s flags reach slacks' near' found moved (rounds + 1)
                    turning_more = record {
                      way =
                          rounding_more s ok fs slacks found slacks' rounds a.way bound_at slacked more;
                      after = ends_row legal.count _ m.after;
                      left = m.left;
                      bounded = ends_row legal.count _ e;
                      spared = own_only;
                    }

                    pub turning_falls : room_left s slacks' < room_left s slacks
                    turning_falls =
                        omega (
                          arith,
                          rounding_falls s ok fs slacks found slacks' rounds a.way bound_at slacked more,
                          rounding_room s ok fs slacks found slacks' rounds a.way bound_at slacked more,
                        )
