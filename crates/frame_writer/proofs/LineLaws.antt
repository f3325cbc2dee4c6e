-- One byte as two digits, and the turns of the loop that writes a frame, over plain values.
-- Assumes nothing.
use Rattle.std.proofs.Common.{ℕ, ◌+◌, ◌*◌, ◌-◌, ◌%◌, ◌/◌, ◌≤◌, ◌<◌, arith, add-one, ◌≡◌, refl, sym, ap, ◌∙◌}
use Rattle.std.proofs.Common.{List, [], ◌∷◌, ◌++◌, length, get_or, take, set, length-take-le, take-suc}
use Rattle.std.proofs.Common.{take_all}
use Rattle.buffer.specs.Put.{Put}
use Rattle.buffer.proofs.PutLaws.{put_none, put_one, put_then, put_length}
use Rattle.frames.specs.Digits.{digit_text}
use Rattle.frames.specs.Text.{bytes_text, bytes_sum, check_byte, line_text}
use Rattle.frames.proofs.TextLaws.{sum_append, text_length}

-- the two stores of a byte
pub byte_put : (s : List ℕ) (at b x y : ℕ) → at + 2 ≤ length s → x ≡ digit_text (b / 16)
    → y ≡ digit_text (b % 16)
    → Put s at (bytes_text (b ∷ [])) (at + 2) (set (set s at x) (at + 1) y)
unfolding bytes_text
byte_put s at b x y room ex ey =
    rw (← ex, ← ey) (
    let p : Put s at (x ∷ []) (at + 1) (set s at x) = put_one s at x (omega arith) in
    let q : Put (set s at x) (at + 1) (y ∷ []) (at + 1 + 1) (set (set s at x) (at + 1) y) =
    put_one (set s at x) (at + 1) y (omega (arith, put_length p)) in
    let e : at + 2 ≡ at + 1 + 1 = omega arith in
    rw e (put_then p q))

text_append : (xs ys : List ℕ) → bytes_text (xs ++ ys) ≡ bytes_text xs ++ bytes_text ys
unfolding bytes_text
text_append [] ys = refl
text_append (x ∷ xs) ys = ap (λ r. digit_text (x / 16) ∷ digit_text (x % 16) ∷ r) (text_append xs ys)

-- What the loop knows after i of the bytes xs: they are written, and added up.
pub record Lining (s xs s' : List ℕ) (at sum i : ℕ) : Type 0 where
  pub short : length xs ≤ 16
  pub room : 2 * length xs + 3 ≤ length s
  pub low : i ≤ length xs
  pub small : sum ≤ 255 * i
  pub total : sum ≡ bytes_sum (take i xs)
  pub done : Put s 0 (bytes_text (take i xs)) at s'

pub lining_start : (s xs : List ℕ) → length xs ≤ 16 → 2 * length xs + 3 ≤ length s → Lining s xs s 0 0 0
unfolding bytes_text bytes_sum
lining_start s xs short room = record {
  short = short;
  room = room;
  low = omega arith;
  small = omega arith;
  total = refl;
  done = put_none s 0 (omega arith);
}

module _ {s xs s' : List ℕ} {at sum i : ℕ} (w : Lining s xs s' at sum i) where
  -- where the next byte goes, and the room that there is
  pub lining_at : at ≡ 2 * i
  lining_at = omega (arith, w.done.next, text_length (take i xs), length-take-le i xs w.low)

  pub lining_room : at + 3 ≤ length s'
  lining_room = omega (arith, lining_at, w.room, w.low, put_length w.done)

  grown : i < length xs → take (i + 1) xs ≡ take i xs ++ (get_or xs i 0 ∷ [])
  grown lt = ap (λ n. take n xs) (add-one i) ∙ take-suc xs i 0 lt

  pub lining_step : {b : ℕ} {s'' : List ℕ} {at' : ℕ} → i < length xs → b ≡ get_or xs i 0 → b < 256
      → Put s' at (bytes_text (b ∷ [])) at' s'' → Lining s xs s'' at' (sum + b) (i + 1)
  unfolding bytes_sum
  lining_step {b} lt e byte p = rw e (record {
    short = w.short;
    room = w.room;
    low = omega arith;
    small = omega (arith, w.small);
    total =
        sym (ap bytes_sum (grown lt) ∙ sum_append (take i xs) _ ∙ omega (arith, w.total));
    done = rw (grown lt, text_append) (put_then w.done (rw e at p));
  })

  -- after one byte more there is room for the 0A
  pub lining_last : (b : ℕ) {s'' : List ℕ} {end : ℕ} → Put s' at (bytes_text (b ∷ [])) end s''
      → end < length s''
  lining_last b p = omega (arith, p.next, put_length p, lining_room, text_length (b ∷ []))

  -- the check and the 0A after all bytes
  pub lining_end : {s'' : List ℕ} {end : ℕ} → length xs ≤ i
      → Put s' at (bytes_text ((256 - sum % 256) % 256 ∷ [])) end s''
      → Put s 0 (line_text xs) (end + 1) (set s'' end 10)
  unfolding line_text check_byte
  lining_end {s''} {end} over p =
      let e : take i xs ≡ xs = take_all i xs over in
      let q : Put s'' end (10 ∷ []) (end + 1) (set s'' end 10) =
      put_one s'' end 10 (lining_last _ p) in
      rw (text_append, ← rw e at w.total) (put_then (put_then (rw e at w.done) p) q)
