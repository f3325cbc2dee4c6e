-- The work behind the front page of Wish 7: what is held is the word that ties to it, for the flags as sent
-- and as forcing leaves them; and the word of an answer ties to the flags in the caller's list.
-- Assumes nothing.
use Rattle.std.proofs.Common.{ℕ, ◌≤◌, ◌<◌, arith, ◌≡◌, sym, ap, ap₂, subst, ◌∙◌, Bool, ◌↔◌, ⊎_elim, List}
use Rattle.std.proofs.Common.{length}
use Rattle.base.specs.Rows.{at}
use Rattle.model.specs.Forcing.{Final}
use Rattle.model.specs.Demands.{Flags as FlagsOf}
use Rattle.model.proofs.DemandLaws.{forced_falls}
use Rattle.table.specs.declared.Table.{Table}
use Rattle.table.specs.Table.{LegalTable, system_of, flags_of}
use Rattle.flags.specs.declared.Flags.{Flags}
use Rattle.flags.specs.Words.{WordFor}
use Rattle.flags.specs.Flags.{held}
use Rattle.flags.proofs.WordForLaws.{word_for, word_for_only}
use Rattle.rows.specs.declared.Head.{Head}
use Rattle.rows.specs.Held.{system_in, RowsOf}
use Rattle.forcing.specs.declared.Forced.{Forced}
use Rattle.forcing.specs.Forced.{Ended}
use Rattle.forcing.proofs.TableLaws.{rows_force}
use Rattle.planner.specs.Answers.{Answer, given, refused, no_record, record_at, values_of}
use Rattle.planner.specs.declared.Done.{Done}
use Rattle.planner.specs.declared.Job.{Job}
use Rattle.planner.specs.declared.Record.{Record}
use Rattle.planner.specs.Done.{sent, ended}
use Rattle.planner.specs.Calls.{Call, Answered, Sends, done_of}
use Rattle.planner.proofs.JoinLaws.{join_front}
use Rattle.planner.proofs.CallLaws.{sends_legal, sends_done, fault_done, call_cases}
use Rattle.planner.proofs.CountLaws.{Counted, room_fits}
use Rattle.planner.proofs.StageLaws.{timed, flagged}
use Rattle.words.specs.Word.{flag_at, word_of_done}
use Rattle.words.proofs.WordLaws.{done_word_for, none_word}
use Rattle.claims.specs.Words.{Asks, flags_in}

-- what is held, and the word that ties to it
pub held_exactly : (f : ℕ → ℕ) (n : ℕ) (r : Flags) → (r ≡ held f n) ↔ WordFor f n r.word
unfolding held
held_exactly f n r = (
  λ e. subst (λ (x : Flags). WordFor f n x.word) (sym e) (word_for f n),
  λ w. ap (λ (x : ℕ). record { word = x }) (word_for_only f n r.word w),
)

-- a word ties to functions that agree
word_for_same : {f g : ℕ → ℕ} {n w : ℕ} → ((i : ℕ) → i < n → f i ≡ g i) → WordFor f n w → WordFor g n w
word_for_same same a = record {
  set = λ i l. (λ e. sym (same i l) ∙ (a.set i l).0 e, λ e. (a.set i l).1 (same i l ∙ e));
  past = a.past;
}

-- the final flags are 0 or 1
pub ended_flagged : {t : Table} → LegalTable t → FlagsOf (system_of t) (ended t)
ended_flagged {t} legal i l =
    omega (
      arith,
      forced_falls (system_of t) (timed legal) (flags_of t) (flagged legal) i l,
      flagged legal i l,
    )

-- where forcing of a legal table's rows ends
pub forcing_word : {t : Table} → LegalTable t → {head : Head} {inverse rest cost reach : List ℕ}
    → RowsOf t inverse rest cost reach head → {taken : Flags} → taken ≡ held (sent t) t.n
    → {bounds : List ℕ} {r : Forced} → Ended (system_in head rest cost reach) taken bounds r
    → WordFor (ended t) t.n r.flags.word
forcing_word {t} legal rows is e =
    (held_exactly (ended t) t.n _).0
    (e.flags ∙ ap₂ (λ (x : Final) n. held (at x.flags) n) (rows_force legal is rows) rows.n)

-- an answer that is no refusal: its word ties to the flags in the caller's list
module _ {c : Call} {t : Table} {old : List Record} (s : Asks c t old) (job : Job) {a : Answer}
    {new : List Record} (h : Answered c job old a new) where
  abbrev d : Done
  d = done_of c job (length old)

  counted : Counted t.n d
  counted =
      subst (Counted t.n) (sym (sends_done s.sends job (length old)))
      (room_fits t job (length old)).counted

  small : t.n ≤ 32
  small = (sends_legal s.sends).count

  pub given_word : {y : Bool} {f p : ℕ} → a ≡ given y f p → WordFor (flags_in new) t.n (word_of_done d)
  given_word {y} {f} {p} e =
      word_for_same same
      (subst (λ n. WordFor (flag_at d) n (word_of_done d)) all
      (done_word_for d (omega (arith, counted.most, small))))
    where
      all : d.count ≡ t.n
      all = counted.says ∙ ap (λ (x : Answer). (values_of t.n x).written) (sym h.0 ∙ e)

      same : (i : ℕ) → i < t.n → flag_at d i ≡ flags_in new i
      same i l =
          sym
          (ap (λ rs. (record_at rs i).flag) h.1
          ∙ ap (λ (r : Record). r.flag)
          (join_front d.count d.recs old (omega (arith, counted.long, counted.most, small)) no_record i
          (omega (arith, all))))

-- a refusal: 0
pub refused_word : (c : Call) (job : Job) (old : List Record) {number place passes : ℕ} {new : List Record}
    → Answered c job old (refused number place passes) new → word_of_done (done_of c job (length old)) ≡ 0
refused_word c job old h =
    none_word (done_of c job (length old))
    (⊎_elim
    (λ (s : (t : Table) × Sends c t).
    let e = sends_done s.1 job (length old) in
    ap (λ (x : Done). x.count) e
    ∙ (room_fits s.0 job (length old)).counted.says
    ∙ ap (λ (x : Answer). (values_of s.0.n x).written) (ap (λ (x : Done). x.answer) (sym e) ∙ sym h.0))
    (λ w. ap (λ (x : Done). x.count) (fault_done w.1.1 job (length old))) (call_cases c))
