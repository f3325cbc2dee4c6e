-- Document 01, refusals 1 to 4, in its own words: what a right frame is, and when each of the four is given.
--
--   document 01                                                  here
--   enough bytes, all digits, 0A, sum 0, the due kind            FrameRight s size kind
--   1  fewer bytes are left than the due line and its 0A         short
--   2  one of the due digits is no digit ..                      no_digit
--      .. or the byte after them is not 0A                       no_end
--   3  the frame's sum is not 0 modulo 256                       no_sum
--   4  the kind byte is not the due one                          no_kind
--
-- Each of 2, 3, 4 is given only where none before it is. Assumes nothing.
use Rattle.std.specs.Prelude.{ℕ, ◌+◌, ◌*◌, ◌%◌, ◌<◌, ◌≡◌, List, length, get_or}
use Rattle.frames.specs.Digits.{digit_at, byte_at, Digits}
use Rattle.frames.specs.Frames.{frame_sum}

-- the due line and its 0A are there, and all due digits are digits
pub record WholeLine (s : List ℕ) (size : ℕ) : Type 0 where
  pub long : 2 * size < length s
  pub each : Digits s (2 * size)
  pub end : get_or s (2 * size) 0 ≡ 10

pub record FrameRight (s : List ℕ) (size kind : ℕ) : Type 0 where
  pub text : WholeLine s size
  pub sum : frame_sum s size % 256 ≡ 0
  pub due : byte_at s 0 ≡ kind

pub data FrameWrong (s : List ℕ) (size kind : ℕ) : ℕ → Type 0 where
  short : length s < 2 * size + 1 → FrameWrong s size kind 1
  no_digit : 2 * size < length s → (i : ℕ) → i < 2 * size → digit_at s i ≡ 255 → FrameWrong s size kind 2
  no_end : 2 * size < length s → (get_or s (2 * size) 0 ≡ 10 → ⊥) → FrameWrong s size kind 2
  no_sum : WholeLine s size → (frame_sum s size % 256 ≡ 0 → ⊥) → FrameWrong s size kind 3
  no_kind : WholeLine s size → frame_sum s size % 256 ≡ 0 → (byte_at s 0 ≡ kind → ⊥)
      → FrameWrong s size kind 4
