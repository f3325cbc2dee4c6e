-- The loops of one round: a row that is filled again, and the slacks that are moved in place.
-- Assumes nothing.
use Rattle.std.proofs.Common.{ℕ, zero, suc, ◌+◌, ◌-◌, ◌≤◌, ◌<◌, arith, ◌≡◌, refl, sym, ap, ap₂, ◌∙◌, List}
use Rattle.std.proofs.Common.{◌++◌, length, set, take, drop, replicate, length-append, length-drop}
use Rattle.std.proofs.Math.ListN.{get_or-append, get_or-replicate, length-replicate}
use Rattle.std.proofs.lemmas.List.{length-take-le, get_or-take, get_or-drop, get_or-append_right}
use Rattle.base.specs.Rows.{at, row}
use Rattle.base.proofs.OrderLaws.{below_next}
use Rattle.base.proofs.RowLaws.{row_length, row_at, row_past, row_is, row_same, fill_start}
use Rattle.rounds.specs.Rounds.{slack_after}
use Rattle.flags.specs.Flags.{changed}
use Rattle.rows.proofs.FillLaws.{Filled, filled_start, filled_step}
use Rattle.round_slacks.specs.Moves.{Ends, Fits, FitRows, slack_in, only_after, only_to, Moved}
use Rattle.round_slacks.proofs.OnlyLaws.{only_start, only_step, only_same}

-- rows with 0 past the n-th place
module _ {n : ℕ} (small : n ≤ 32) where
  pub ends_row : (f : ℕ → ℕ) {xs : List ℕ} → xs ≡ row 0 f n → Ends n xs
  ends_row f e =
      e ∙ row_same 0 f _ n small (λ j lt. sym (ap (λ l. at l j) e ∙ row_at 0 f n j lt small))

  pub ends_empty : {xs : List ℕ} → xs ≡ replicate 32 0 → Ends n xs
  ends_empty {xs} e =
      ends_row (λ k. 0)
      (e
      ∙ fill_start 0 (λ k. 0)
      ∙ row_is 0 (λ k. 0) n _ (row_length 0 (λ k. 0) 0) (λ j lt s. row_past 0 (λ k. 0) 0 j (omega arith) s)
      (λ j le s. row_past 0 (λ k. 0) 0 j (omega arith) s))

  -- filled again, from the front; a place may hold what it is to hold
  pub refill_start : {f : ℕ → ℕ} {xs : List ℕ} → Ends n xs → Filled f xs xs 0
  refill_start {f} {xs} e = filled_start f xs (ap length e ∙ row_length 0 (at xs) n)

  pub refill_end : {f : ℕ → ℕ} {old xs : List ℕ} {i : ℕ} → Ends n old → Filled f old xs i → i ≡ n
      → xs ≡ row 0 f n
  refill_end {f} {old} {xs} e a all =
      row_is 0 f n xs a.size (λ j lt s. a.done j (omega arith))
      (λ j le s. a.rest j (omega arith) ∙ ap (λ l. at l j) e ∙ row_past 0 (at old) n j le s)

pub filled_stays : {f : ℕ → ℕ} {old xs : List ℕ} {i : ℕ} → Filled f old xs i → at xs i ≡ f i
    → Filled f old xs (i + 1)
filled_stays {f} {old} {xs} {i} a e = record {
  size = a.size;
  done = below_next (λ j. at xs j ≡ f j) i a.done e;
  rest = λ j le. a.rest j (omega arith);
}

-- the front of a row, before zeros
pub front_row : (xs : List ℕ) {front : List ℕ} {n : ℕ} → n ≤ 32 → length xs ≡ 32 → front ≡ take n xs
    → front ++ drop n (replicate 32 0) ≡ row 0 (at xs) n
front_row xs {front} {n} small long e =
    let size : length front ≡ n = ap length e ∙ length-take-le n xs (omega arith) in
    row_is 0 (at xs) n (front ++ drop n (replicate 32 0))
    (simp (length-append, length-drop, length-replicate) (omega arith))
    (λ j lt s.
    get_or-append front _ 0 j (omega arith) ∙ ap (λ l. at l j) e ∙ get_or-take n xs j 0 lt)
    (λ j le s.
    get_or-append_right front _ n j 0 size le
    ∙ get_or-drop n (replicate 32 0) (j - n) 0
    ∙ get_or-replicate {A = ℕ} 32 (n + (j - n)) 0 0 (omega arith))

-- a slack after a round, each way
pub slack_kept : (d x b : ℕ) → b ≡ 0 → x ≡ slack_after d x b
unfolding slack_after
slack_kept d x b e = rw e

pub slack_new : (d x b : ℕ) → (b ≡ 0 → ⊥) → d - b ≡ slack_after d x b
unfolding slack_after
slack_new d x zero ne = absurd (ne refl)
slack_new d x (suc b) ne = refl

-- it leaves room for C
pub slack_room : {c r b x : ℕ} → Fits c r b x → slack_after (r + c) x b ≤ r
unfolding slack_after
slack_room {b = zero} a = a.room
slack_room {c} {b = suc b} a =
    let low : c ≤ suc b = a.low (omega arith) in
    omega (arith, a.high)

-- what the loop over the slacks knows before task k
pub record Moving (n : ℕ) (cost reach bounds slacks near slacks' near' : List ℕ) (moved k : ℕ) : Type 0 where
  pub after : Filled (slack_in cost reach slacks bounds) slacks slacks' k
  pub left : Filled (λ j. at reach j - slack_in cost reach slacks bounds j) near near' k
  pub changes : moved ≡ only_to (λ j. changed (at slacks j) (slack_in cost reach slacks bounds j)) k

module _ {n : ℕ} (small : n ≤ 32) {cost reach bounds slacks near : List ℕ} where
  pub moving_start : Ends n slacks → Ends n near
      → Moving n cost reach bounds slacks near slacks near 0 0
  moving_start e e' = record {
    after = refill_start small e;
    left = refill_start small e';
    changes = only_start _;
  }

  module _ {slacks' near' : List ℕ} {moved k : ℕ}
      (a : Moving n cost reach bounds slacks near slacks' near' moved k)
    where
      -- a task not reached yet has the slack it had
      pub moving_old : at slacks' k ≡ at slacks k
      moving_old = a.after.rest k (omega arith)

      pub moving_is : {v : ℕ} → v ≡ slack_after (at reach k + at cost k) (at slacks' k) (at bounds k)
          → v ≡ slack_in cost reach slacks bounds k
      unfolding slack_in
      moving_is e = e ∙ ap (λ x. slack_after (at reach k + at cost k) x (at bounds k)) moving_old

      pub moving_room : {v : ℕ} → FitRows n cost reach bounds slacks → k < n
          → v ≡ slack_after (at reach k + at cost k) (at slacks' k) (at bounds k) → v ≤ at reach k
      unfolding slack_in
      moving_room fits lt e = omega (arith, moving_is e, slack_room (fits k lt))

      pub moving_step : {v x more : ℕ} → k < n
          → v ≡ slack_after (at reach k + at cost k) (at slacks' k) (at bounds k)
          → x ≡ changed (at slacks' k) v → more ≡ only_after moved x k
          → Moving n cost reach bounds slacks near (set slacks' k v) (set near' k (at reach k - v))
          more (k + 1)
      moving_step {v} lt e is r = record {
        after = filled_step a.after (omega arith) (moving_is e);
        left = filled_step a.left (omega arith) (ap (λ y. at reach k - y) (moving_is e));
        changes = only_step _ a.changes (is ∙ ap₂ changed moving_old (moving_is e)) r;
      }

      pub moving_end : Ends n slacks → Ends n near → k ≡ n
          → Moved n cost reach bounds slacks slacks' near' moved
      moving_end e e' all =
          let done : slacks' ≡ row 0 (slack_in cost reach slacks bounds) n =
          refill_end small e a.after all in
          let read : (j : ℕ) → j < n → slack_in cost reach slacks bounds j ≡ at slacks' j =
          λ j lt. sym (ap (λ l. at l j) done ∙ row_at 0 _ n j lt small) in
          record {
            after = done;
            left =
                refill_end small e' a.left all
                ∙ row_same 0 _ _ n small (λ j lt. ap (λ y. at reach j - y) (read j lt));
            changes =
                a.changes
                ∙ ap (only_to (λ j. changed (at slacks j) (slack_in cost reach slacks bounds j))) all
                ∙ only_same _ _ n (λ j lt. ap (changed (at slacks j)) (read j lt));
          }
