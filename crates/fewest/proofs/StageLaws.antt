-- A legal table on other cores, and the answer by its room, or of a text in rows. Assumes nothing.
use Rattle.std.proofs.Common.{ℕ, ◌≤◌, ◌<◌, ◌≡◌, refl, sym, ◌∙◌, List, lt-ltb, le-ltb, Ok, Err}
use Rattle.base.specs.Rows.{at}
use Rattle.table.specs.declared.Table.{Table}
use Rattle.table.specs.declared.Refusal.{Refusal}
use Rattle.table.specs.Table.{LegalTable, flags_of}
use Rattle.table.specs.Checks.{refusal, check_of}
use Rattle.flags.specs.declared.Flags.{Flags}
use Rattle.flags.specs.Flags.{flag_in, held}
use Rattle.rows.specs.declared.Rows.{Rows}
use Rattle.lines.specs.Reads.{read_of}
use Rattle.lines.proofs.Theorems.{read_legal}
use Rattle.forcing.proofs.TableLaws.{given_held}
use Rattle.row_reader.specs.RowsRead.{PlanLoaded}
use Rattle.planner.specs.Rows.{OfTable}
use Rattle.cores.specs.Cores.{on_cores}
use Rattle.fewest.specs.declared.Fewest.{Fewest}
use Rattle.fewest.specs.Fewest.{refuse_fewest, legal_fewest, room_fewest, plan_fewest, list_fewest}

-- a legal table is legal on other cores
pub legal_on : {t : Table} {m : ℕ} → LegalTable t → 1 ≤ m → m ≤ 16 → LegalTable (on_cores t m)
legal_on l some most = record {
  some_core = some;
  cores = most;
  policy = l.policy;
  some_task = l.some_task;
  count = l.count;
  each = l.each;
}

-- by the room
module _ (t : Table) (room : ℕ) where
  pub room_short : room < t.n → refuse_fewest (refusal 13 0) ≡ room_fewest t room
  unfolding room_fewest
  room_short small = rw (lt-ltb room t.n small)

  pub room_enough : t.n ≤ room → legal_fewest t ≡ room_fewest t room
  unfolding room_fewest
  room_enough enough = rw (le-ltb room t.n enough)

-- a text in rows: where it is fine its rows are answered, else its fault is
module _ (text : List ℕ) (room : ℕ) where
  module _ {given : Flags} {x : Rows} (loaded : PlanLoaded text (Ok given) x) where
    fine : (read_of text).answer ≡ Ok tt
    fine = sym loaded.parts.answer

    sent_flags : given ≡ held (at (flags_of (read_of text).table)) (read_of text).table.n
    sent_flags = let e = loaded.parts.given fine in cc

    pub text_given : given ≡ held (flag_in given) x.head.n
    text_given = given_held (read_legal text fine) sent_flags (loaded.parts.rows fine).n

    pub text_found : {f : Fewest} → OfTable (λ t. room_fewest t room) x given f → f ≡ plan_fewest text room
    unfolding plan_fewest
    text_found found =
        found (read_of text).table (read_legal text fine) (loaded.parts.rows fine) sent_flags ∙ rw (fine) refl

  pub text_faulty : {why : Refusal} {x : Rows} → PlanLoaded text (Err why) x
      → refuse_fewest why ≡ plan_fewest text room
  unfolding plan_fewest
  text_faulty loaded = rw (← loaded.parts.answer)

-- a list that passes the checks is answered as its table is
pub list_found : (t : Table) (room : ℕ) → check_of t ≡ Ok tt
    → room_fewest t room ≡ list_fewest t.cores t.policy t.n t.tasks room
unfolding list_fewest
list_found t room fine = rw fine refl
