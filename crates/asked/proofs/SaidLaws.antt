-- An answer from rows and flags is that of the table that was loaded, and its records are written one by one
-- from flags and bounds.
-- Assumes nothing.
use Rattle.std.proofs.Common.{ℕ, ◌+◌, ◌*◌, ◌≤◌, ◌<◌, arith, ◌≡◌, refl, sym, ap, ap₂, subst, ◌∙◌, true}
use Rattle.std.proofs.Common.{List, Result, Ok, Err, Bor}
use Rattle.std.specs.Result.{result_unwrap_or}
use Rattle.base.specs.Rows.{at}
use Rattle.base.proofs.RowLaws.{row_at, row_length}
use Rattle.buffer.specs.Put.{Put}
use Rattle.table.specs.declared.Table.{Table}
use Rattle.table.specs.declared.Refusal.{Refusal}
use Rattle.table.specs.Checks.{Checked}
use Rattle.flags.specs.declared.Flags.{Flags}
use Rattle.flags.specs.Flags.{flag_in, changed}
use Rattle.rows.specs.declared.Rows.{Rows}
use Rattle.planner.specs.declared.Done.{Done}
use Rattle.planner.specs.declared.Job.{Job}
use Rattle.planner.specs.declared.Record.{Record}
use Rattle.planner.specs.declared.Said.{Said}
use Rattle.planner.specs.Answers.{given, entry, no_record, record_at, records_of, changes}
use Rattle.planner.specs.Done.{finish, refuse, room_done}
use Rattle.planner.specs.Rows.{OfTable, said_done}
use Rattle.loading.specs.Loaded.{said_of}
use Rattle.asked.specs.Asked.{given_in, Lent, seen, AnsweredOf, found_done, Answered}
use Rattle.flat.specs.Flat.{record_numbers}
use Rattle.flat.proofs.FlatLaws.{Putting, putting_step}

-- flags that were loaded: there was no fault, and they are the only ones
pub said_fine : {r : Result Flags Refusal} {sent : Flags} → r ≡ Ok sent → said_of r ≡ Ok tt
said_fine e = ap said_of e

pub sent_given : {r : Result Flags Refusal} {a b : Flags} → r ≡ Ok a → r ≡ Ok b → a ≡ b
sent_given e f = cc

-- what is lent is answered: each table that has the rows and the flags, or the fault
module _ {A : Type 0} (f : Checked → Table → A) (d : Flags → A) {l : Result (Bor Rows × Flags) Refusal} where
  pub of_rows : {rows : Bor Rows} {given : Flags} → l ≡ Ok (rows, given)
      → OfTable (f (Ok tt)) rows.now given (d given) → AnsweredOf f (seen l) (d (given_in (seen l)))
  of_rows is a =
      rw is (λ t legal loaded.
      a t (legal refl) (loaded.rows refl) (sent_given refl (loaded.given refl)))

  pub of_fault : {why : Refusal} → l ≡ Err why → ((t : Table) → d (record { word = 0 }) ≡ f (Err why) t)
      → AnsweredOf f (seen l) (d (given_in (seen l)))
  of_fault is a = rw is (λ h inverses rests costs reaches t legal loaded. a t)

-- what follows of an answer by any finding and table follows of an answer by what is lent
pub answered_as : {A B : Type 0} (f : Checked → Table → A) (g : Checked → Table → B) (l : Lent) (a : A)
    (b : B) → ((found : Checked) (t : Table) → a ≡ f found t → b ≡ g found t) → AnsweredOf f l a
    → AnsweredOf g l b
answered_as f g (Ok (x, given)) a b h answer = λ t legal loaded. h (Ok tt) t (answer t legal loaded)
answered_as f g (Err why) a b h answer =
    λ y inverses rests costs reaches t legal loaded.
    h (Err why) t (answer y inverses rests costs reaches t legal loaded)

module _ (job : Job) (room : ℕ) {l : Result (Bor Rows × Flags) Refusal} (s : Said) (bounds : List ℕ) where
  pub said_rows : {rows : Bor Rows} {given : Flags} → l ≡ Ok (rows, given)
      → OfTable (λ t. room_done t job room) rows.now given (said_done given s bounds)
      → Answered job room (seen l) (said_done (given_in (seen l)) s bounds)
  said_rows is a = of_rows (found_done job room) (λ given. said_done given s bounds) is a

  pub said_fault : {why : Refusal} → l ≡ Err why → said_done (record { word = 0 }) s bounds ≡ refuse why 0
      → Answered job room (seen l) (said_done (given_in (seen l)) s bounds)
  said_fault is a = of_fault (found_done job room) (λ given. said_done given s bounds) is (λ t. a)

-- the same of one table, by what the checks, or the reading, say
module _ {r : Result Flags Refusal} (t : Table) (job : Job) (room : ℕ) (s : Said) (bounds : List ℕ) where
  pub fine_room : {sent : Flags} → r ≡ Ok sent → said_done sent s bounds ≡ room_done t job room
      → said_done (result_unwrap_or r (record { word = 0 })) s bounds ≡ found_done job room (said_of r) t
  fine_room fine e = rw fine e

  pub faulty_room : {why : Refusal} → r ≡ Err why → said_done (record { word = 0 }) s bounds ≡ refuse why 0
      → said_done (result_unwrap_or r (record { word = 0 })) s bounds ≡ found_done job room (said_of r) t
  faulty_room fault e = rw fault e

-- n records of flags and bounds; what the answer says besides does not matter to them
abbrev pub listed : ℕ → Flags → Flags → List ℕ → Done
listed n sent last bounds =
    finish n (given true 0 0) (records_of n (flag_in last) (changes (flag_in sent) (flag_in last))
    (at bounds))

module _ (sent last : Flags) (bounds old : List ℕ) {n i : ℕ} {s s' : List ℕ} (small : n ≤ 32) (lt : i < n)
    (a : Putting (listed n sent last bounds) old i s) where
  pub said_step : {x y z : ℕ} → x ≡ flag_in last i → y ≡ flag_in sent i → z ≡ changed y x
      → Put s (3 * i) (record_numbers (entry x z (at bounds i))) (3 * i + 3) s'
      → Putting (listed n sent last bounds) old (i + 1) s'
  said_step {x} {y} {z} ex ey ez put =
      putting_step (listed n sent last bounds) old i s a s' lt (omega (arith, row_length no_record one n))
      (subst (λ (r : Record). Put s (3 * i) (record_numbers r) (3 * i + 3) s') is put)
    where
      one : ℕ → Record
      one j = entry (flag_in last j) (changed (flag_in sent j) (flag_in last j)) (at bounds j)

      is : entry x z (at bounds i)
          ≡ record_at (records_of n (flag_in last) (changes (flag_in sent) (flag_in last)) (at bounds)) i
      is =
          ap₂ (λ f m. entry f m (at bounds i)) ex (ez ∙ ap₂ changed ey ex)
          ∙ sym (row_at no_record _ n i lt small)
