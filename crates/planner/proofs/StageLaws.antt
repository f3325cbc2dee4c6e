-- The stages of the code: what its rows and flags hold is what the definitions say, and each return is a case
-- of its definition. Assumes nothing.
use Rattle.std.proofs.Common.{ℕ, zero, suc, ◌+◌, ◌≤◌, ◌<◌, arith, ◌≡◌, refl, sym, ap, ap₂, ◌∙◌, true, List}
use Rattle.std.proofs.Common.{set, eqb, lt-ltb, le-ltb, Ok, Err}
use Rattle.base.specs.Sums.{sum_to}
use Rattle.base.specs.Least.{first_of}
use Rattle.base.specs.Rows.{at, row}
use Rattle.base.proofs.FirstLaws.{first_same}
use Rattle.base.proofs.RowLaws.{row_at, row_same, fill_start, fill_step}
use Rattle.model.specs.Bound.{bound}
use Rattle.model.specs.Forcing.{Final, lowest}
use Rattle.model.specs.Demands.{Timed, Flags as Flagged}
use Rattle.model.proofs.BoundLaws.{bound_same}
use Rattle.model.proofs.DemandLaws.{forced_falls}
use Rattle.table.specs.Table.{system_of, flags_of, LegalTable}
use Rattle.table.specs.Checks.{refusal, check_of, Checked}
use Rattle.table.specs.declared.Refusal.{Refusal}
use Rattle.planner.specs.Answers.{stop, given, entry, no_record, records_of, changes}
use Rattle.table.specs.declared.Table.{Table}
use Rattle.table.proofs.TableLaws.{flags_at}
use Rattle.flags.specs.declared.Flags.{Flags}
use Rattle.flags.specs.Flags.{flag_in, held, changed}
use Rattle.flags.proofs.FlagLaws.{held_flag, changed_held, same_unchanged, lowest_held}
use Rattle.rows.specs.declared.Head.{Head}
use Rattle.rows.specs.Held.{system_in, RowsOf}
use Rattle.rows.proofs.HeldLaws.{rows_bound}
use Rattle.lines.specs.declared.Reading.{Reading}
use Rattle.lines.specs.Reads.{read_of}
use Rattle.forcing.specs.declared.Forced.{Forced}
use Rattle.forcing.specs.Forced.{final_of, Ended}
use Rattle.forcing.proofs.TableLaws.{given_at, rows_force}
use Rattle.planner.specs.declared.Record.{Record}
use Rattle.planner.specs.declared.Done.{Done}
use Rattle.planner.specs.declared.Said.{Said}
use Rattle.planner.specs.declared.Job.{Job}
use Rattle.planner.specs.declared.Job.TheVariants.{Test, Force}
use Rattle.planner.specs.Rows.{unsaid, said_done}
use Rattle.planner.specs.Done.{finish, refuse, sent, tested, final, ended, changed_by, failing}
use Rattle.planner.specs.Done.{tested_by, forced_by, roomed}
use Rattle.planner.specs.Done.{test_done, force_done, legal_done, room_done, plan_done, list_done}
use Rattle.planner.proofs.LegalLaws.{tested_at}

-- what the laws of the model need of a legal table
pub timed : {t : Table} → LegalTable t → Timed (system_of t)
timed legal k l = (legal.each k l).some

pub flagged : {t : Table} → LegalTable t → Flagged (system_of t) (sent t)
flagged {t} legal i l = omega (arith, flags_at t i l, (legal.each i l).flag)

-- records whose numbers agree at the first n places
records_same : (n : ℕ) (f f' m m' b b' : ℕ → ℕ) → n ≤ 32 → ((j : ℕ) → j < n → f j ≡ f' j)
    → ((j : ℕ) → j < n → m j ≡ m' j) → ((j : ℕ) → j < n → b j ≡ b' j)
    → records_of n f m b ≡ records_of n f' m' b'
records_same n f f' m m' b b' small ef em eb =
    row_same no_record (λ j. entry (f j) (m j) (b j)) (λ j. entry (f' j) (m' j) (b' j)) n small
    (λ j h. rw (ef j h, em j h, eb j h))

-- one record more
pub record_step : (sent_flags flags : Flags) (bounds : List ℕ) {recs : List Record} {i x y z : ℕ} → i < 32
    → recs ≡ records_of i (flag_in flags) (changes (flag_in sent_flags) (flag_in flags)) (at bounds)
    → x ≡ flag_in flags i → y ≡ flag_in sent_flags i → z ≡ changed y x
    → set recs i (entry x z (at bounds i))
    ≡ records_of (i + 1) (flag_in flags) (changes (flag_in sent_flags) (flag_in flags)) (at bounds)
record_step sent_flags flags bounds {i = i} small e ex ey ez =
    fill_step no_record _ small e (ap₂ (λ f m. entry f m (at bounds i)) ex (ez ∙ ap₂ changed ey ex))

-- an answer whose records are listed, and one that refuses and lists none
pub said_listed : (sent_flags : Flags) (s : Said) (bounds : List ℕ) {recs : List Record} {d : Done}
    → recs ≡ records_of s.count (flag_in s.flags) (changes (flag_in sent_flags) (flag_in s.flags))
    (at bounds)
    → said_done sent_flags s bounds ≡ d → record { answer = s.answer; count = s.count; recs = recs } ≡ d
unfolding said_done
said_listed sent_flags s bounds e is =
    ap (λ (rs : List Record). record { answer = s.answer; count = s.count; recs = rs }) e ∙ is

pub said_refused : {s : Said} {why : Refusal} {passes : ℕ} (sent_flags : Flags) (bounds : List ℕ)
    → s ≡ unsaid why passes sent_flags → said_done sent_flags s bounds ≡ refuse why passes
unfolding said_done
said_refused {why = why} {passes = passes} sent_flags bounds e =
    ap (λ (x : Said). said_done sent_flags x bounds) e
    ∙ ap (λ (rs : List Record). record { answer = Err (stop why passes); count = 0; recs = rs })
    (sym (fill_start no_record _))

-- What forcing leaves in hand is where it ends: the flags, the passes, the lowest failing task.
pub record InHand (t : Table) (f : Final) (fl : Flags) (p k : ℕ) : Type 0 where
  pub flags : fl ≡ held (at f.flags) t.n
  pub small : (j : ℕ) → j < t.n → at f.flags j ≤ 1
  pub passes : p ≡ f.passes
  pub low : failing t f.bounds ≡ k

module _ {t : Table} (legal : LegalTable t) {sent_flags : Flags}
    (is_sent : sent_flags ≡ held (sent t) t.n) {inverse rest cost reach : List ℕ} {h : Head}
    (is_rows : RowsOf t inverse rest cost reach h) where
  sent_in : (j : ℕ) → j < t.n → flag_in sent_flags j ≡ sent t j
  sent_in j lt = given_at legal is_sent j lt

  -- a test in hand, whose bounds are bs' at the table's places: its lowest failing task, its records
  module _ (bs bs' : List ℕ) (agree : (j : ℕ) → j < t.n → at bs j ≡ at bs' j) {failed : Flags} {k : ℕ}
      {recs : List Record}
      (fails : failed ≡ held (at bs) h.n) (low : k ≡ first_of (λ j. eqb (flag_in failed j) 0) 32)
      (listed : recs ≡ records_of h.n (flag_in sent_flags) (changes (flag_in sent_flags) (flag_in sent_flags))
      (at bs))
    where
      failing_in : k ≡ failing t bs'
      unfolding lowest
      failing_in =
          low
          ∙ ap (λ f. first_of (λ j. eqb (flag_in f j) 0) 32) (fails ∙ ap (held (at bs)) is_rows.n)
          ∙ lowest_held (at bs) t.n legal.count
          ∙ first_same _ _ t.n (λ j lt. ap (λ x. eqb x 0) (agree j lt))

      pub tested_staged : finish h.n (given (eqb k 0) 0 0) recs ≡ tested_by t bs'
      tested_staged =
          ap (λ n. finish n (given (eqb k 0) 0 0) recs) is_rows.n
          ∙ ap₂ (λ x rs. finish t.n (given (eqb x 0) 0 0) rs) failing_in
          (listed
          ∙ ap (λ n. records_of n (flag_in sent_flags) (changes (flag_in sent_flags) (flag_in sent_flags))
          (at bs))
          is_rows.n
          ∙ records_same t.n (flag_in sent_flags) (sent t) _ (λ _. 0) (at bs) (at bs') legal.count
          sent_in (λ j lt. sym (same_unchanged _ _ refl)) agree)

  -- forcing in hand, which ends as f says
  module _ {f : Final} {flags : Flags} {passes low : ℕ} (is : InHand t f flags passes low) where
    flags_in_lem : (j : ℕ) → j < t.n → flag_in flags j ≡ at f.flags j
    flags_in_lem j lt =
        ap (λ x. flag_in x j) is.flags
        ∙ held_flag (at f.flags) t.n legal.count j lt (is.small j lt)

    pub forced_refused : (number : ℕ) → (low ≡ 0 → ⊥)
        → refuse (refusal number low) passes ≡ forced_by number t f
    forced_refused number some = go low is.low some
      where
        go : (x : ℕ) → failing t f.bounds ≡ x → (x ≡ 0 → ⊥)
            → refuse (refusal number x) passes ≡ forced_by number t f
        go zero e s = absurd (s refl)
        go (suc x) e s = rw (e, is.passes)

    module _ (none : low ≡ 0) (bs : List ℕ) {count : ℕ} {recs : List Record}
        (agree : (j : ℕ) → j < t.n → at bs j ≡ at f.bounds j)
        (counted : count ≡ sum_to (λ j. changed (flag_in sent_flags j) (flag_in flags j)) 32)
        (listed : recs
        ≡ records_of h.n (flag_in flags) (changes (flag_in sent_flags) (flag_in flags)) (at bs))
      where
        all : count ≡ changed_by t f
        all =
            counted
            ∙ ap₂ (λ x y. sum_to (λ j. changed (flag_in x j) (flag_in y j)) 32) is_sent is.flags
            ∙ changed_held (sent t) (at f.flags) t.n legal.count (flagged legal) is.small

        pub forced_staged : (number : ℕ) → finish h.n (given true count passes) recs ≡ forced_by number t f
        forced_staged number =
            rw (is.low ∙ none)
            (ap (λ n. finish n (given true count passes) recs) is_rows.n
            ∙ ap₂ (λ a rs. finish t.n a rs) (ap₂ (given true) all is.passes)
            (listed
            ∙ ap (λ n. records_of n (flag_in flags) (changes (flag_in sent_flags) (flag_in flags)) (at bs))
            is_rows.n
            ∙ records_same t.n (flag_in flags) (at f.flags) _ (changes (sent t) (at f.flags)) (at bs)
            (at f.bounds) legal.count flags_in_lem
            (λ j lt. ap₂ changed (sent_in j lt) (flags_in_lem j lt)) agree))

  -- edition 1: the test of the rows
  module _ {bs : List ℕ} {failed : Flags} {k : ℕ} {recs : List Record}
      (is_tested : bs ≡ row 0 (bound (system_in h rest cost reach) (flag_in sent_flags)) h.n)
      (fails : failed ≡ held (at bs) h.n) (low : k ≡ first_of (λ j. eqb (flag_in failed j) 0) 32)
      (listed : recs ≡ records_of h.n (flag_in sent_flags) (changes (flag_in sent_flags) (flag_in sent_flags))
      (at bs))
    where
      bounds_in_lem : (j : ℕ) → j < t.n → at bs j ≡ at (tested t) j
      bounds_in_lem j lt =
          ap (λ l. at l j) is_tested
          ∙ row_at 0 _ h.n j (omega (arith, is_rows.n)) (omega (arith, is_rows.n, legal.count))
          ∙ rows_bound legal is_rows (flag_in sent_flags) j lt
          ∙ sym (bound_same (system_of t) (sent t) (flag_in sent_flags) j (timed legal j lt) lt sent_in)
          ∙ sym (tested_at t j lt)

      pub test_staged : finish h.n (given (eqb k 0) 0 0) recs ≡ test_done t
      unfolding test_done
      test_staged = tested_staged bs (tested t) bounds_in_lem fails low listed

  -- and forcing of them
  module _ {end : Forced} {bs : List ℕ} (is_end : Ended (system_in h rest cost reach) sent_flags bs end) where
    falls : (j : ℕ) → j < t.n → ended t j ≤ 1
    falls j lt =
        omega (
          arith,
          forced_falls (system_of t) (timed legal) (flags_of t) (flagged legal) j lt,
          flagged legal j lt,
        )

    is_final : final_of (system_in h rest cost reach) sent_flags ≡ final t
    is_final = rows_force legal is_sent is_rows

    in_hand : InHand t (final t) end.flags end.passes end.failing
    unfolding lowest
    in_hand = record {
      flags = is_end.flags ∙ ap₂ (λ (f : Final) n. held (at f.flags) n) is_final is_rows.n;
      small = falls;
      passes = is_end.passes ∙ ap (λ (f : Final). f.passes) is_final;
      low = sym
          (is_end.failing
          ∙ ap₂ (λ (f : Final) n. first_of (λ k. eqb (at f.bounds k) 0) n) is_final is_rows.n);
    }

    pub force_refused : (end.failing ≡ 0 → ⊥)
        → refuse (refusal 14 end.failing) end.passes ≡ force_done t
    unfolding force_done
    force_refused some = forced_refused in_hand 14 some

    pub force_staged : (none : end.failing ≡ 0) {count : ℕ} {recs : List Record}
        → count ≡ sum_to (λ j. changed (flag_in sent_flags j) (flag_in end.flags j)) 32
        → recs ≡ records_of h.n (flag_in end.flags) (changes (flag_in sent_flags) (flag_in end.flags))
        (at bs)
        → finish h.n (given true count end.passes) recs ≡ force_done t
    unfolding force_done
    force_staged none counted listed =
        forced_staged in_hand none bs
        (λ j lt.
        is_end.each none j (omega (arith, is_rows.n)) ∙ ap (λ (f : Final). at f.bounds j) is_final)
        counted listed 14

-- by the room
module _ (t : Table) (room : ℕ) (d : Done) where
  pub roomed_short : room < t.n → refuse (refusal 13 0) 0 ≡ roomed t room d
  roomed_short h = rw (lt-ltb room t.n h)

  pub roomed_enough : t.n ≤ room → d ≡ roomed t room d
  roomed_enough h = rw (le-ltb room t.n h)

-- by the job
module _ (t : Table) (job : Job) where
  pub tests_table : job ≡ Test → test_done t ≡ legal_done t job
  unfolding legal_done
  tests_table e = rw e

  pub forces_table : job ≡ Force → force_done t ≡ legal_done t job
  unfolding legal_done
  forces_table e = rw e

  module _ (room : ℕ) where
    pub room_short : room < t.n → refuse (refusal 13 0) 0 ≡ room_done t job room
    unfolding room_done
    room_short h = roomed_short t room (legal_done t job) h

    pub room_enough : t.n ≤ room → legal_done t job ≡ room_done t job room
    unfolding room_done
    room_enough h = roomed_enough t room (legal_done t job) h

-- by what the reading says, and what the checks say
module _ (text : List ℕ) {r : Reading} (e : r ≡ read_of text) (job : Job) (room : ℕ) where
  pub plan_fine : r.answer ≡ Ok tt → room_done r.table job room ≡ plan_done text job room
  unfolding plan_done
  plan_fine fine = rw (← e, fine)

  pub plan_faulty : {why : Refusal} → r.answer ≡ Err why → refuse why 0 ≡ plan_done text job room
  unfolding plan_done
  plan_faulty fault = rw (← e, fault)

module _ (t : Table) {found : Checked} (e : found ≡ check_of t) (job : Job) (room : ℕ) where
  pub list_fine : found ≡ Ok tt
      → room_done t job room ≡ list_done t.cores t.policy t.n t.tasks job room
  unfolding list_done
  list_fine fine = rw (← e, fine)
