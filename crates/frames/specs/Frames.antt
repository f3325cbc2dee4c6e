-- Document 01, refusals 1 to 4: the frame of a due line, of `size` bytes and of a due kind.
--
--   document 01                              here
--   the bytes of a frame, check included     byte_at s 0 .. byte_at s (size - 1)
--   their sum                                frame_sum s size
--   1, 2, 3, 4 in that order, 0 for none     frame_fault s size kind
--
-- Size and kind are parameters, so that another form of lines is another pair of numbers. Assumes nothing.
use Rattle.std.specs.Prelude.{ℕ, ◌*◌, ◌%◌, not, List, leb, eqb, length, get_or}
use Rattle.base.specs.Choice.{pick}
use Rattle.base.specs.Sums.{sum_to}
use Rattle.frames.specs.Digits.{byte_at, all_digits}

abbrev pub frame_sum : List ℕ → ℕ → ℕ
frame_sum s size = sum_to (byte_at s) size

unfoldable pub frame_fault : List ℕ → ℕ → ℕ → ℕ
frame_fault s size kind =
    pick (leb (length s) (2 * size)) 1
    (pick (not (all_digits s (2 * size))) 2
    (pick (not (eqb (get_or s (2 * size) 0) 10)) 2
    (pick (not (eqb (frame_sum s size % 256) 0)) 3
    (pick (not (eqb (byte_at s 0) kind)) 4 0))))
