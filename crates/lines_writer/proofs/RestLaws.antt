-- A word that was written at the start of the rest of a buffer, which was lent and is back, is written at
-- the place where the rest starts. Assumes nothing.
use Rattle.std.proofs.Common.{ℕ, ◌+◌, ◌-◌, ◌≤◌, arith, ◌≡◌, ap, ◌∙◌, List, ◌++◌, append-nil, length, take}
use Rattle.std.proofs.Common.{drop, length-drop, drop_of_length-le, drop-drop}
use borrow.Rule.Slice.PartMut.{mid_of, put_mid}
use Rattle.buffer.specs.Put.{Put}
use Rattle.buffer.proofs.PutLaws.{put_start}
use Rattle.lines.proofs.LineLaws.{tail_part}

rest_length : (s : List ℕ) (a : ℕ) → length (mid_of a (length s - a) s) ≡ length s - a
rest_length s a = ap length (tail_part a s) ∙ length-drop a s

-- the room in the rest
pub rest_room : (s : List ℕ) (a : ℕ) {k : ℕ} → a + k ≤ length s → k ≤ length (mid_of a (length s - a) s)
rest_room s a h = omega (arith, rest_length s a)

pub put_rest : (s : List ℕ) (a : ℕ) {w p : List ℕ} {r : ℕ} → a ≤ length s
    → Put (mid_of a (length s - a) s) 0 w r p
    → Put s a w (a + r) (put_mid a (length s - a) s p)
put_rest s a {w} {p} low put = record {
  fits = omega (arith, rest_length s a, put.fits);
  next = omega (arith, put.next);
  bytes =
      ap (λ x. take a s ++ x)
      (ap (λ x. p ++ x) (drop_of_length-le (drop a s) {i = length s - a} (omega (arith, length-drop a s)))
      ∙ append-nil p
      ∙ (put_start put).1
      ∙ ap (λ x. w ++ x) (ap (drop (length w)) (tail_part a s) ∙ drop-drop (length w) a s));
}
