-- A text whose last line gains the round count: its length, and how it is written over the 0A that ended it.
-- Assumes nothing.
use Rattle.std.proofs.Common.{ℕ, ◌+◌, ◌-◌, ◌≤◌, ◌<◌, arith, ◌≡◌, ap, ◌∙◌, List, ◌++◌, append_assoc}
use Rattle.std.proofs.Common.{append-nil, length, take, drop, length-append, length-take-le, drop-drop, Ok}
use Rattle.std.proofs.Math.Seq.{take-append-le, drop-append-add}
use Rattle.page.specs.Decimal.{decimal}
use Rattle.page.specs.Words.{word, field}
use Rattle.buffer.specs.Put.{Put}
use Rattle.buffer.proofs.PutLaws.{put_start, put_length}
use Rattle.table.specs.declared.Table.{Table}
use Rattle.planner.specs.Answers.{Answer}
use Rattle.planner.specs.declared.Verdict.{Verdict}
use Rattle.planner.specs.declared.Record.{Record}
use Rattle.listing.specs.Listing.{answer_text}
use Rattle.listing.proofs.ListedLaws.{accepted_length}
use Rattle.listing_lines.proofs.LineLaws.{last_length}
use Rattle.test_listing.specs.TestListing.{test_by, says_of}
use Rattle.test_listing.proofs.ListedLaws.{tested_length}
use Rattle.test_listing.proofs.LineLaws.{last_length as tested-last-length}
use Rattle.table.specs.Load.{total_load}
use Rattle.round_listing.specs.RoundListing.{rounds_end, gaining, gained_by}

pub rounds_parts : (r : ℕ) → rounds_end r ≡ field (word " rounds ") r ++ word "\n"
unfolding rounds_end
rounds_parts r = simp (append_assoc, append-nil)

pub rounds_length : (r : ℕ) → length (rounds_end r) ≡ length (decimal r) + 9
rounds_length r = ap length (rounds_parts r) ∙ simp length-append (omega arith)

pub gaining_length : (w : List ℕ) (r : ℕ) → length (gaining w r) ≡ length w - 1 + length (rounds_end r)
unfolding gaining
gaining_length w r =
    length-append (take (length w - 1) w) (rounds_end r)
    ∙ ap (λ n. n + length (rounds_end r)) (length-take-le (length w - 1) w (omega arith))

gaining_parts : (w : List ℕ) (r : ℕ) (d : List ℕ)
    → gaining w r ++ d ≡ take (length w - 1) w ++ (rounds_end r ++ d)
unfolding gaining
gaining_parts w r d = append_assoc (take (length w - 1) w) (rounds_end r) d

-- a text that ends in a line has a byte
pub some_listed : (t : Table) (rs : List Record) (a : Answer) {v : Verdict} → a ≡ Ok v
    → 0 < length (answer_text t rs a)
some_listed t rs a {v} e =
    rw e
    (omega (
      arith,
      accepted_length t rs v.forced v.passes,
      last_length (total_load t) v.forced v.passes,
    ))

pub some_tested : (t : Table) (rs : List Record) (a : Answer) {v : Verdict} → a ≡ Ok v
    → 0 < length (test_by t rs a)
some_tested t rs a {v} e =
    rw e
    (omega (
      arith,
      tested_length t rs (says_of v.yes),
      tested-last-length (total_load t) (says_of v.yes),
    ))

module _ {s w s' : List ℕ} {end : ℕ} (p : Put s 0 w end s') (some : 0 < length w) (rounds : ℕ) where
  over : {r : ℕ} {s'' : List ℕ} → Put s' (end - 1) (rounds_end rounds) r s''
      → Put s 0 (gaining w rounds) r s''
  over {r} {s''} q = record {
    fits = omega (arith, q.fits, put_length p, (put_start p).0, gaining_length w rounds);
    next = omega (arith, q.next, (put_start p).0, gaining_length w rounds);
    bytes = whole;
  }
    where
      end' : ℕ
      end' = end - 1 + length (rounds_end rounds)

      kept : take (end - 1) s' ≡ take (length w - 1) w
      kept =
          ap (take (end - 1)) (put_start p).1
          ∙ ap (λ n. take (n - 1) (w ++ drop (length w) s)) (put_start p).0
          ∙ take-append-le (length w - 1) w (drop (length w) s) (omega arith)

      beyond : length w + (length (rounds_end rounds) - 1) ≡ end'
      beyond = omega (arith, (put_start p).0, rounds_length rounds)

      rest : drop end' s' ≡ drop end' s
      rest =
          ap (drop end') (put_start p).1
          ∙ rw (← beyond)
          (drop-append-add w (drop (length w) s) (length (rounds_end rounds) - 1)
          ∙ drop-drop (length (rounds_end rounds) - 1) (length w) s)

      further : end' ≡ 0 + length (gaining w rounds)
      further = omega (arith, (put_start p).0, gaining_length w rounds)

      whole : s'' ≡ take 0 s ++ (gaining w rounds ++ drop (0 + length (gaining w rounds)) s)
      whole =
          q.bytes
          ∙ cc (kept, rest, further, gaining_parts w rounds (drop end' s))

  module _ {a : Answer} {v : Verdict} (says : a ≡ Ok v) where
    pub gain_ready : length (gained_by a w rounds) ≤ length s
        → (0 < end) × (end - 1 + length (rounds_end rounds) ≤ length s')
    gain_ready fits =
        let long : length (gaining w rounds) ≤ length s = rw says at fits in (
          omega (arith, (put_start p).0),
          omega (arith, long, (put_start p).0, put_length p, gaining_length w rounds),
        )

    pub gained_put : {r : ℕ} {s'' : List ℕ} → Put s' (end - 1) (rounds_end rounds) r s''
        → Put s 0 (gained_by a w rounds) r s''
    gained_put q = rw says (over q)
