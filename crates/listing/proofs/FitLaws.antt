-- Every listing fits in 2,048 bytes: 27 for line one, 58 for each of at most 32 tasks, 37 for the last line.
-- Each number is short by its range; the lines' lengths are those of their words. Assumes nothing.
use Rattle.std.proofs.Common.{ℕ, zero, suc, ◌+◌, ◌*◌, ◌≤◌, ◌<◌, arith, ◌≡◌, refl, Bool, true, false, List}
use Rattle.std.proofs.Common.{length, length-append}
use Rattle.table.specs.Table.{task_at, LegalTable}
use Rattle.table.specs.declared.Table.{Table}
use Rattle.planner.specs.declared.Record.{Record}
use Rattle.planner.specs.Answers.{record_at}
use Rattle.page.specs.Decimal.{decimal}
use Rattle.page.specs.Words.{word, either}
use Rattle.page.proofs.DecimalLaws.{tens, decimal_short}
use Rattle.listing_lines.specs.Lines.{line_one, last_line, of_forcing, refusal_line}
use Rattle.task_lines.specs.TaskLines.{task_start}
use Rattle.table.specs.Load.{load_at, total_load}
use Rattle.table.proofs.LoadLaws.{load_at_small, loads_small}
use Rattle.listing.specs.Listing.{row_at, line_at, lines_to, accepted_text, listing_room}
use Rattle.task_lines.proofs.TaskLaws.{start_length, task_length}
use Rattle.listing_lines.proofs.LineLaws.{
  line_one_length,
  last_length,
  refusal_length,
  forcing_length,
}

-- what makes the numbers of an accepted plan short
pub record Short (t : Table) (rs : List Record) (forced passes : ℕ) : Type 0 where
  pub legal : LegalTable t
  pub bounds : (i : ℕ) → i < t.n → (record_at rs i).bound ≤ 1000000
  pub few : forced ≤ 32
  pub soon : passes ≤ 33

-- numbers up to 99, 9,999, 99,999, 9,999,999 and 2 ^ 32 - 1
pub two : (n : ℕ) → n < 100 → length (decimal n) ≤ 2
unfolding tens
two n h = decimal_short n 1 h

pub four : (n : ℕ) → n < 10000 → length (decimal n) ≤ 4
unfolding tens
four n h = decimal_short n 3 h

pub five : (n : ℕ) → n < 100000 → length (decimal n) ≤ 5
unfolding tens
five n h = decimal_short n 4 h

pub seven : (n : ℕ) → n < 10000000 → length (decimal n) ≤ 7
unfolding tens
seven n h = decimal_short n 6 h

ten : (n : ℕ) → n < 4294967296 → length (decimal n) ≤ 10
unfolding tens
ten n h = decimal_short n 9 (omega arith)

pub either_short : (k n : ℕ) (a b : List ℕ) → length a ≤ k → length b ≤ k → length (either n a b) ≤ k
either_short k zero a b p q = p
either_short k (suc n) a b p q = q

pub lines_cap : (f : ℕ → List ℕ) (b n : ℕ) → ((i : ℕ) → i < n → length (f i) ≤ b)
    → length (lines_to f n) ≤ n * b
unfolding lines_to
lines_cap f b zero h = omega arith
lines_cap f b (suc n) h =
    omega (
      arith,
      length-append (lines_to f n) (f n),
      h n (omega arith),
      lines_cap f b n (λ i lt. h i (omega arith)),
    )

module _ (t : Table) (rs : List Record) (forced passes : ℕ) (short : Short t rs forced passes) where
  line_one_fits : length (line_one t.policy t.cores t.n) ≤ 27
  line_one_fits =
      omega (
        arith,
        line_one_length t.policy t.cores t.n,
        either_short 8 t.policy (word "plan EDF") (word "plan FP") (omega arith) (omega arith),
        two t.cores (omega (arith, short.legal.cores)),
        two t.n (omega (arith, short.legal.count)),
      )

  module _ (i : ℕ) (lt : i < t.n) where
    start_fits : length (task_start (i + 1) (record_at rs i).flag (record_at rs i).forced) ≤ 16
    start_fits =
        omega (
          arith,
          start_length (i + 1) (record_at rs i).flag (record_at rs i).forced,
          two (i + 1) (omega (arith, short.legal.count)),
          either_short 2 (record_at rs i).flag (word " N") (word " P") (omega arith) (omega arith),
          either_short 7 (record_at rs i).forced (word " given") (word " forced") (omega arith) (omega arith),
        )

    task_fits : length (line_at t rs i) ≤ 58
    task_fits =
        let h = short.legal.each i lt in
        omega (
          arith,
          task_length (row_at t rs i),
          start_fits,
          seven (record_at rs i).bound (omega (arith, short.bounds i lt)),
          seven (task_at t.tasks i).deadline (omega (arith, h.deadline, h.period)),
          four (load_at t i) (omega (arith, load_at_small t short.legal i lt)),
        )

  total_small : total_load t ≤ 32000
  unfolding total_load
  total_small = omega (arith, loads_small t short.legal t.n (omega arith), short.legal.count)

  last_fits : length (last_line (total_load t) forced passes) ≤ 37
  last_fits =
      omega (
        arith,
        last_length (total_load t) forced passes,
        five (total_load t) (omega (arith, total_small)),
        two forced (omega (arith, short.few)),
        two passes (omega (arith, short.soon)),
      )

  pub accepted_most : length (accepted_text t rs forced passes) ≤ 1920
  unfolding accepted_text
  accepted_most =
      simp length-append
      (omega (
        arith,
        line_one_fits,
        lines_cap (line_at t rs) 58 t.n task_fits,
        last_fits,
        short.legal.count,
      ))

-- a refusal of machine numbers fits
module _ (number place passes : ℕ) (a : number < 4294967296) (b : place < 4294967296)
    (c : passes < 4294967296) where
  pub refusal_most : length (refusal_line number place passes) ≤ 54
  refusal_most = go (of_forcing number) refl
    where
      go : (t : Bool) → of_forcing number ≡ t → length (refusal_line number place passes) ≤ 54
      go true e =
          omega (arith, forcing_length number place passes e, ten number a, ten place b, ten passes c)
      go false e = omega (arith, refusal_length number place passes e, ten number a, ten place b)

  pub refusal_fits : length (refusal_line number place passes) ≤ listing_room
  refusal_fits = omega (arith, refusal_most)
