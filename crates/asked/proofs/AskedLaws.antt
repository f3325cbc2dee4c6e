-- From what was loaded to the answers by value: the rows of a table that is fine can be answered, and what is
-- answered of them is the table's answer.
-- Assumes nothing.
use Rattle.std.proofs.Common.{ℕ, ◌≤◌, arith, ◌≡◌, refl, sym, ap, subst, ◌∙◌, Bool, List, Result, Ok, Err}
use Rattle.std.specs.Result.{result_unwrap_or}
use Rattle.base.specs.Rows.{at}
use Rattle.table.specs.declared.Table.{Table}
use Rattle.table.specs.declared.Refusal.{Refusal}
use Rattle.table.specs.Checks.{Checked, check_of}
use Rattle.table.specs.Table.{flags_of, LegalTable}
use Rattle.table.proofs.TableLaws.{fine_legal}
use Rattle.flags.specs.declared.Flags.{Flags}
use Rattle.flags.specs.Words.{word_of}
use Rattle.flags.specs.Flags.{flag_in, held}
use Rattle.rows.specs.declared.Head.{Head}
use Rattle.rows.specs.declared.Rows.{Rows}
use Rattle.forcing.proofs.TableLaws.{given_held}
use Rattle.lines.specs.Reads.{read_of}
use Rattle.lines.proofs.Theorems.{read_legal}
use Rattle.planner.specs.declared.Done.{Done}
use Rattle.planner.specs.declared.Said.{Said}
use Rattle.planner.specs.declared.Job.{Job}
use Rattle.planner.specs.Rows.{said_done}
use Rattle.planner.specs.Done.{plan_done, list_done}
use Rattle.planner.proofs.CountLaws.{Small}
use Rattle.words.specs.Word.{word_of_done}
use Rattle.words.proofs.WordLaws.{said_word}
use Rattle.flat.specs.Flat.{flat_after}
use Rattle.loading.specs.Loaded.{said_of, LoadedIn}
use Rattle.row_reader.specs.RowsRead.{PlanLoaded}
use Rattle.flat_tasks.specs.FlatTasks.{table_in}
use Rattle.row_list.specs.ListLoaded.{ListLoaded}
use Rattle.asked.proofs.SaidLaws.{said_fine}
use Rattle.asked.specs.Asked.{Lent, lent, given_in, Answerable, AnsweredBy, AnsweredOf, found_done, Answered}
use Rattle.asked.specs.Asked.{AskedAs}

module _ {found : Checked} {t : Table} {r : Result Flags Refusal} {h : Head} {is rs cs js : List ℕ}
    (loaded : LoadedIn found t r h is rs cs js) (legal : found ≡ Ok tt → LegalTable t) where
  found_fine : said_of r ≡ Ok tt → found ≡ Ok tt
  found_fine fine = sym loaded.answer ∙ fine

  loaded_given : (given : Flags) → r ≡ Ok given → given ≡ held (flag_in given) h.n
  loaded_given given e =
      let f = found_fine (said_fine e) in
      let sent : given ≡ held (at (flags_of t)) t.n = let i = loaded.given f in cc in
      given_held (legal f) sent (loaded.rows f).n

  loaded_by : {A : Type 0} (f : Checked → Table → A) {d : A} → AnsweredBy f r h is rs cs js d → d ≡ f found t
  loaded_by f a =
      a t (λ fine. legal (found_fine fine))
      (subst (λ (y : Checked). LoadedIn y t r h is rs cs js) (sym loaded.answer) loaded)
      ∙ ap (λ (y : Checked). f y t) loaded.answer

-- what is lent of a loading
pub given_lent : {l : Lent} (r : Result Flags Refusal) (x : Rows) → l ≡ lent r x
    → result_unwrap_or r (record { word = 0 }) ≡ given_in l
given_lent (Ok given) x e = rw e refl
given_lent (Err why) x e = rw e refl

lent_given : {l : Lent} (r : Result Flags Refusal) (x : Rows) → l ≡ lent r x
    → ((given : Flags) → r ≡ Ok given → given ≡ held (flag_in given) x.head.n) → Answerable l
lent_given (Ok given) x e a = λ y kept is.
    let same : ◌≡◌ {A = Rows × Flags} (y, kept) (x, given) = cc in
    let count = ap (λ (p : Rows × Flags). p.0.head.n) same in
    let flags = ap (λ (p : Rows × Flags). p.1) same in
    let k = a given refl in
    cc
lent_given (Err why) x e a = λ y kept is. absurd (let z : ◌≡◌ {A = ℕ} 0 1 = cc in omega arith)

lent_by : {A : Type 0} (f : Checked → Table → A) {l : Lent} (r : Result Flags Refusal) (x : Rows) {d : A}
    → l ≡ lent r x → AnsweredOf f l d
    → AnsweredBy f r x.head x.times.inverse x.times.rest x.times.cost x.reach d
lent_by f (Ok given) x e a = rw e at a
lent_by f (Err why) x e a = (rw e at a) x.head x.times.inverse x.times.rest x.times.cost x.reach

-- the loading of a text
module _ (text : List ℕ) {r : Result Flags Refusal} {h : Head} {is rs cs js : List ℕ}
    (loaded : LoadedIn (read_of text).answer (read_of text).table r h is rs cs js) where
  pub plan_by : {A : Type 0} (f : Checked → Table → A) {d : A} → AnsweredBy f r h is rs cs js d
      → d ≡ f (read_of text).answer (read_of text).table
  plan_by f a = loaded_by loaded (read_legal text) f a

module _ (text : List ℕ) {r : Result Flags Refusal} {x : Rows} (loaded : PlanLoaded text r x) {l : Lent}
    (e : l ≡ lent r x) where
  pub plan_rows : Answerable l
  plan_rows = lent_given r x e (loaded_given loaded.parts (read_legal text))

  pub plan_of : {A : Type 0} (f : Checked → Table → A) {d : A} → AnsweredOf f l d
      → d ≡ f (read_of text).answer (read_of text).table
  plan_of f a = plan_by text loaded.parts f (lent_by f r x e a)

  pub plan_is : (job : Job) (room : ℕ) {d : Done} → Answered job room l d → d ≡ plan_done text job room
  unfolding plan_done
  plan_is job room a = plan_of (found_done job room) a

-- the loading of a flat table
module _ (levels : Bool) (cores policy : ℕ) (xs : List ℕ) {r : Result Flags Refusal} {h : Head}
    {is rs cs js : List ℕ}
    (loaded :
    LoadedIn (check_of (table_in levels cores policy xs)) (table_in levels cores policy xs) r h is rs cs js)
  where
    pub list_by : {A : Type 0} (f : Checked → Table → A) {d : A} → AnsweredBy f r h is rs cs js d
        → d ≡ f (check_of (table_in levels cores policy xs)) (table_in levels cores policy xs)
    list_by f a = loaded_by loaded fine_legal f a

module _ (levels : Bool) (cores policy : ℕ) (xs : List ℕ) {r : Result Flags Refusal} {x : Rows}
    (loaded : ListLoaded levels cores policy xs r x) {l : Lent} (e : l ≡ lent r x) where
  pub list_rows : Answerable l
  list_rows = lent_given r x e (loaded_given loaded.parts fine_legal)

  pub list_of : {A : Type 0} (f : Checked → Table → A) {d : A} → AnsweredOf f l d
      → d ≡ f (check_of (table_in levels cores policy xs)) (table_in levels cores policy xs)
  list_of f a = list_by levels cores policy xs loaded.parts f (lent_by f r x e a)

  pub list_is : (job : Job) (room : ℕ) {d : Done} → Answered job room l d
      → d
      ≡ list_done cores policy (table_in levels cores policy xs).n (table_in levels cores policy xs).tasks job
      room
  unfolding list_done
  list_is job room a = list_of (found_done job room) a

-- an answer in parts, with its records written
module _ (sent : Flags) (s : Said) (bounds : List ℕ) {d : Done} {room : ℕ} (e : said_done sent s bounds ≡ d)
    (small : Small room d) where
  pub few_said : s.count ≤ 32
  unfolding said_done
  few_said = omega (arith, ap (λ (x : Done). x.count) e, small.few)

  pub asked_as : (old : List ℕ) {new : List ℕ} {w : ℕ} → new ≡ flat_after (said_done sent s bounds) old
      → w ≡ word_of (flag_in s.flags) s.count
      → AskedAs d old (record { answer = s.answer; count = s.count; word = w }) new
  unfolding said_done
  asked_as old written is = record {
    answer = ap (λ (x : Done). x.answer) e;
    count = ap (λ (x : Done). x.count) e;
    word = is ∙ said_word sent s bounds few_said ∙ ap (λ (x : Done). word_of_done x) e;
    records = written ∙ ap (λ (x : Done). flat_after x old) e;
  }
