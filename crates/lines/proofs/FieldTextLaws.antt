-- The fields of a line are the bytes of its text, in document 01's form: a right line, raised, is the text of
-- its fields, and the text of legal fields reads as them.
-- Assumes nothing.
use Rattle.std.proofs.Common.{ℕ, ◌+◌, ◌*◌, ◌≤◌, ◌<◌, arith, ◌≡◌, refl, sym, ap, ◌∙◌, List, ◌++◌, get_or}
use Rattle.std.proofs.Common.{take, replicate}
use Rattle.base.specs.Rows.{list_from, list_of}
use Rattle.table.specs.declared.Task.{Task}
use Rattle.table.specs.declared.Table.{Table}
use Rattle.table.specs.Table.{no_task, LegalTask}
use Rattle.table.specs.Faults.{LegalHead}
use Rattle.frames.specs.Digits.{raised, byte_at}
use Rattle.frames.specs.Text.{word_bytes, line_text, Bytes}
use Rattle.frames.proofs.DigitLaws.{WordBytes, word_bytes_lem, part_digits}
use Rattle.frames.proofs.ByteLaws.{byte_next, word_back, word_there}
use Rattle.frames.proofs.TextLaws.{line_byte, line_there, line_back}
use Rattle.lines.specs.Form.{form1}
use Rattle.lines.specs.Fields.{head_of, task_of, fields_part, text_head}
use Rattle.lines.specs.Writes.{head_bytes, task_bytes}
use Rattle.lines.specs.Wrong.{HeadFrame, TaskFrame}

-- A right line, raised, is the text of its fields.

head_bytes_lem : (s : List ℕ) → byte_at s 0 ≡ 1 → list_of (byte_at s) 4 ≡ head_bytes form1 (text_head s)
unfolding list_from head_bytes head_of
head_bytes_lem s k = rw (k, byte_next s 0, byte_next s 1, byte_next s 2)

pub head_line_back : (s : List ℕ) → HeadFrame form1 s
    → take 11 (raised s) ≡ line_text (head_bytes form1 (text_head s))
head_line_back s r = line_back s 4 1 r ∙ ap line_text (head_bytes_lem s r.due)

task_bytes_lem : (level : ℕ) (s : List ℕ) → TaskFrame form1 s
    → list_of (byte_at s) 14 ≡ task_bytes form1 (task_of level (fields_part s))
unfolding list_from task_bytes task_of
task_bytes_lem level s r =
    rw (
      word_back (fields_part s) 1 (word 1 (omega arith)),
      word_back (fields_part s) 5 (word 5 (omega arith)),
      word_back (fields_part s) 9 (word 9 (omega arith)),
    )
    (cc (
      r.due,
      byte_next s 0,
      byte_next s 1,
      byte_next s 2,
      byte_next s 3,
      byte_next s 4,
      byte_next s 5,
      byte_next s 6,
      byte_next s 7,
      byte_next s 8,
      byte_next s 9,
      byte_next s 10,
      byte_next s 11,
      byte_next s 12,
    ))
  where
    word : (i : ℕ) → 2 * i + 10 ≤ 30 → WordBytes (fields_part s) i
    word i l =
        word_bytes_lem (fields_part s) i (part_digits s 2 (2 * i + 8) (λ j m. r.text.each j (omega arith)))

pub task_line_back : (level : ℕ) (s : List ℕ) → TaskFrame form1 s
    → take 31 (raised s) ≡ line_text (task_bytes form1 (task_of level (fields_part s)))
task_line_back level s r = line_back s 14 2 r ∙ ap line_text (task_bytes_lem level s r)

-- The text of legal fields reads as them.

word_all : (w : ℕ) → w ≤ 1000000 → Bytes (word_bytes w)
unfolding word_bytes
word_all w l = (omega arith, (omega arith, (omega arith, (omega arith, tt))))

word_then : (w : ℕ) (bs : List ℕ) → w ≤ 1000000 → Bytes bs → Bytes (word_bytes w ++ bs)
unfolding word_bytes
word_then w bs l all = (omega arith, (omega arith, (omega arith, (omega arith, all))))

module _ (t : Table) (rest : List ℕ) (legal : LegalHead t) where
  head_all : Bytes (head_bytes form1 t)
  unfolding head_bytes
  head_all = (
    omega arith,
    (
      omega (arith, legal.cores.1),
      (omega (arith, legal.policy.1), (omega (arith, legal.count.1), tt)),
    ),
  )

  pub head_line_there : HeadFrame form1 (line_text (head_bytes form1 t) ++ rest)
  unfolding head_bytes
  head_line_there = line_there (head_bytes form1 t) rest head_all 5 1 refl (omega arith) refl

  head_field : (i : ℕ) → i < 3
      → byte_at (fields_part (line_text (head_bytes form1 t) ++ rest)) i
      ≡ get_or (head_bytes form1 t) (i + 1) 0
  unfolding head_bytes
  head_field i l = sym (byte_next _ i) ∙ line_byte (head_bytes form1 t) rest head_all (i + 1) (omega arith)

  pub head_there : head_of (fields_part (line_text (head_bytes form1 t) ++ rest))
      ≡ record { cores = t.cores; policy = t.policy; n = t.n; tasks = replicate 32 no_task }
  unfolding head_of head_bytes
  head_there = rw (head_field 0 (omega arith), head_field 1 (omega arith), head_field 2 (omega arith))

module _ (t : Task) (rest : List ℕ) (legal : LegalTask t) where
  task_all : Bytes (task_bytes form1 t)
  unfolding task_bytes
  task_all = (
    omega arith,
    (
      omega (arith, legal.flag),
      word_then t.period (word_bytes t.cost ++ word_bytes t.deadline) (omega (arith, legal.period))
          (word_then t.cost (word_bytes t.deadline)
          (omega (arith, legal.period, legal.deadline, legal.cost))
          (word_all t.deadline (omega (arith, legal.period, legal.deadline)))),
    ),
  )

  pub task_line_there : TaskFrame form1 (line_text (task_bytes form1 t) ++ rest)
  unfolding task_bytes word_bytes
  task_line_there = line_there (task_bytes form1 t) rest task_all 15 2 refl (omega arith) refl

  task_field : (i : ℕ) → i < 13
      → byte_at (fields_part (line_text (task_bytes form1 t) ++ rest)) i
      ≡ get_or (task_bytes form1 t) (i + 1) 0
  unfolding task_bytes word_bytes
  task_field i l = sym (byte_next _ i) ∙ line_byte (task_bytes form1 t) rest task_all (i + 1) (omega arith)

  pub task_there : task_of t.level (fields_part (line_text (task_bytes form1 t) ++ rest)) ≡ t
  unfolding task_of task_bytes word_bytes
  task_there =
      let p : List ℕ = fields_part (line_text (task_bytes form1 t) ++ rest) in
      rw (
        task_field 0 (omega arith),
        word_there p 1 t.period (task_field 1 (omega arith)) (task_field 2 (omega arith))
            (task_field 3 (omega arith))
            (task_field 4 (omega arith)),
        word_there p 5 t.cost (task_field 5 (omega arith)) (task_field 6 (omega arith))
            (task_field 7 (omega arith))
            (task_field 8 (omega arith)),
        word_there p 9 t.deadline (task_field 9 (omega arith)) (task_field 10 (omega arith))
            (task_field 11 (omega arith))
            (task_field 12 (omega arith)),
      )
