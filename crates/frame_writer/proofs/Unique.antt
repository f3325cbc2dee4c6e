-- Any two results that the promise of a public function of this crate allows are equal: the line's length, or
-- the next place, and the bytes of what was lent. Assumes nothing.
use Rattle.std.proofs.Common.{ℕ, ◌≡◌, List, [], ◌∷◌, take}
use Rattle.buffer.specs.Put.{Put}
use Rattle.buffer.proofs.PutLaws.{put_only}
use Rattle.frames.specs.Text.{bytes_text, line_text}

pub put_line_only : (s frame : List ℕ) (size r r' : ℕ) (a b : List ℕ)
    → Put s 0 (line_text (take size frame)) r a → Put s 0 (line_text (take size frame)) r' b
    → (r ≡ r') × (a ≡ b)
put_line_only s frame size r r' a b p q = put_only p q

pub put_byte_only : (s : List ℕ) (at byte r r' : ℕ) (a b : List ℕ) → Put s at (bytes_text (byte ∷ [])) r a
    → Put s at (bytes_text (byte ∷ [])) r' b → (r ≡ r') × (a ≡ b)
put_byte_only s at byte r r' a b p q = put_only p q
