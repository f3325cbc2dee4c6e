-- Where the lines of a plan start, by its form.
-- Assumes nothing.
use Rattle.std.proofs.Common.{ℕ, ◌+◌, ◌*◌, arith, mul-add, ◌≡◌, refl}
use Rattle.lines.specs.declared.Form.{Form}
use Rattle.lines.specs.Form.{form1, line_length, line_start, FormSized}

pub form1_sized : FormSized form1
form1_sized = record { head = refl; low = omega arith; high = omega arith }

-- the first task line follows the head line, and each other the one before it
pub start_first : (f : Form) → line_start f 0 ≡ line_length f.head.size
unfolding line_start
start_first f = omega arith

pub start_next : (f : Form) (i : ℕ) → line_start f (i + 1) ≡ line_start f i + line_length f.task.size
unfolding line_start
start_next f i = omega (arith, mul-add (line_length f.task.size) i 1)

-- document 01's lines
pub start_in_bytes : (i : ℕ) → line_start form1 i ≡ 11 + 31 * i
unfolding line_start
start_in_bytes i = refl
