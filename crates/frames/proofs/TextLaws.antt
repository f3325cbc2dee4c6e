-- A line that is read is the line as it is written: digits and 0A, with the one check that makes the sum 0.
-- `line_there`: a written line reads as its bytes; `line_back`: a right frame, raised, is the text of its
-- bytes. Assumes nothing.
use Rattle.std.proofs.Common.{ℕ, zero, suc, ◌+◌, ◌*◌, ◌/◌, ◌%◌, ◌<◌, ◌≤◌, arith, add-one, ◌≡◌, refl, sym}
use Rattle.std.proofs.Common.{◌∙◌, ap, ap₂, List, [], ◌∷◌, ◌++◌, append_assoc, length, get_or, take, drop}
use Rattle.std.proofs.Common.{length-append, drop-cons, take-suc, ext_get_or, eq-eqb, eqb-true}
use Rattle.std.proofs.Math.ListN.{get_or-append}
use Rattle.std.proofs.Math.Seq.{get_or-append_seam}
use Rattle.base.specs.Sums.{sum_to}
use Rattle.base.specs.Rows.{list_from, list_of}
use Rattle.base.proofs.SumLaws.{sum_step}
use Rattle.base.proofs.RowLaws.{list_length, list_at}
use Rattle.frames.specs.Digits.{raised, byte_at, Digits}
use Rattle.frames.specs.Frames.{frame_sum}
use Rattle.frames.specs.Faults.{FrameRight}
use Rattle.frames.specs.Text.{bytes_text, bytes_sum, check_byte, line_text, Bytes}
use Rattle.frames.proofs.DigitLaws.{byte_below, raise_end, raised_length, raised_at}
use Rattle.frames.proofs.ByteLaws.{digit_there, byte_there, byte_next, high_back, low_back}

-- Lists of bytes.

list_last : (f : ℕ → ℕ) (i n : ℕ) → list_from f i (suc n) ≡ list_from f i n ++ (f (i + n) ∷ [])
unfolding list_from
list_last f i zero = ap (λ k. f k ∷ []) (omega arith)
list_last f i (suc n) =
    ap (λ r. f i ∷ r) (list_last f (suc i) n ∙ ap (λ k. list_from f (suc i) n ++ (f k ∷ [])) (omega arith))

pub sum_append : (xs bs : List ℕ) → bytes_sum (xs ++ bs) ≡ bytes_sum xs + bytes_sum bs
unfolding bytes_sum
sum_append [] bs = omega arith
sum_append (x ∷ xs) bs = omega (arith, sum_append xs bs)

sum_list : (f : ℕ → ℕ) (n : ℕ) → bytes_sum (list_of f n) ≡ sum_to f n
unfolding list_from bytes_sum sum_to
sum_list f zero = refl
sum_list f (suc n) = ap bytes_sum (list_last f 0 n) ∙ sum_append (list_of f n) _ ∙ last (sum_list f n)
  where
    last : bytes_sum (list_of f n) ≡ sum_to f n → bytes_sum (list_of f n) + (f (0 + n) + 0) ≡ sum_to f n + f n
    last e = omega (arith, ap f (let z : 0 + n ≡ n = omega arith in z))

bytes_append : (xs : List ℕ) (b : ℕ) → Bytes xs → b < 256 → Bytes (xs ++ (b ∷ []))
bytes_append [] b h l = (l, tt)
bytes_append (x ∷ xs) b h l = (h.0, bytes_append xs b h.1 l)

-- Written bytes.

pub text_length : (bs : List ℕ) → length (bytes_text bs) ≡ 2 * length bs
unfolding bytes_text
text_length [] = refl
text_length (b ∷ bs) = omega (arith, text_length bs)

text_digits : (bs r : List ℕ) → Bytes bs → Digits (bytes_text bs ++ r) (2 * length bs)
unfolding bytes_text
text_digits [] r h i l = absurd (let z : ⊥ = omega arith in z)
text_digits (b ∷ bs) r h zero l = omega (arith, digit_there (b / 16) (omega (arith, h.0)))
text_digits (b ∷ bs) r h (suc zero) l = omega (arith, digit_there (b % 16) (omega arith))
text_digits (b ∷ bs) r h (suc (suc i)) l = text_digits bs r h.1 i (omega arith)

text_byte : (bs r : List ℕ) → Bytes bs → (i : ℕ) → i < length bs
    → byte_at (bytes_text bs ++ r) i ≡ get_or bs i 0
unfolding bytes_text
text_byte [] r h i l = absurd (let z : ⊥ = omega arith in z)
text_byte (b ∷ bs) r h zero l = byte_there b (bytes_text bs ++ r) h.0
text_byte (b ∷ bs) r h (suc i) l =
    ap (byte_at _) (sym (add-one i)) ∙ byte_next _ i ∙ text_byte bs r h.1 i (omega arith)

text_bytes : (bs r : List ℕ) → Bytes bs → list_of (byte_at (bytes_text bs ++ r)) (length bs) ≡ bs
text_bytes bs r h =
    ext_get_or 0 _ bs (list_length _ 0 (length bs))
    (λ i l.
    let below : i < length bs = omega (arith, list_length (byte_at (bytes_text bs ++ r)) 0 (length bs)) in
    list_at 0 (byte_at (bytes_text bs ++ r)) (length bs) i below ∙ text_byte bs r h i below)

-- The check.

check_byte_lem : (bs : List ℕ) → check_byte bs < 256
unfolding check_byte
check_byte_lem bs = omega arith

check_sum : (bs : List ℕ) → (bytes_sum bs + check_byte bs) % 256 ≡ 0
unfolding check_byte
check_sum bs = omega arith

check_only : (bs : List ℕ) (c : ℕ) → c < 256 → (bytes_sum bs + c) % 256 ≡ 0 → c ≡ check_byte bs
unfolding check_byte
check_only bs c l e = omega arith

-- A written line is right, and its bytes are read.

pub line_length_lem : (bs : List ℕ) → length (line_text bs) ≡ 2 * (length bs + 1) + 1
unfolding line_text
line_length_lem bs =
    length-append (bytes_text (bs ++ (check_byte bs ∷ []))) (10 ∷ [])
    ∙ omega (arith, text_length (bs ++ (check_byte bs ∷ [])), length-append bs (check_byte bs ∷ []))

module _ (bs rest : List ℕ) (all : Bytes bs) where
  frame : List ℕ
  frame = bs ++ (check_byte bs ∷ [])

  frame_bytes : Bytes frame
  unfolding frame
  frame_bytes = bytes_append bs (check_byte bs) all (check_byte_lem bs)

  frame_length : length frame ≡ length bs + 1
  unfolding frame
  frame_length = length-append bs (check_byte bs ∷ [])

  line_is : line_text bs ++ rest ≡ bytes_text frame ++ (10 ∷ rest)
  unfolding line_text frame
  line_is = append_assoc (bytes_text (bs ++ (check_byte bs ∷ []))) (10 ∷ []) rest

  text_end : length (bytes_text frame) ≡ 2 * (length bs + 1)
  text_end = omega (arith, text_length frame, frame_length)

  -- byte i of the line is byte i of the frame
  pub line_byte : (i : ℕ) → i < length bs → byte_at (line_text bs ++ rest) i ≡ get_or bs i 0
  unfolding frame
  line_byte i l =
      ap (λ s. byte_at s i) line_is
      ∙ text_byte frame (10 ∷ rest) frame_bytes i (omega (arith, frame_length))
      ∙ get_or-append bs (check_byte bs ∷ []) 0 i l

  line_frame_sum : frame_sum (line_text bs ++ rest) (length bs + 1) ≡ bytes_sum bs + check_byte bs
  unfolding frame bytes_sum
  line_frame_sum =
      ap₂ frame_sum line_is (sym frame_length)
      ∙ sym (sum_list (byte_at (bytes_text frame ++ (10 ∷ rest))) (length frame))
      ∙ ap bytes_sum (text_bytes frame (10 ∷ rest) frame_bytes)
      ∙ sum_append bs (check_byte bs ∷ [])
      ∙ (let e : bytes_sum bs + (check_byte bs + 0) ≡ bytes_sum bs + check_byte bs = omega arith in e)

  -- the text of a frame of due size and kind is a right frame
  pub line_there : (size kind : ℕ) → length bs + 1 ≡ size → 0 < length bs → get_or bs 0 0 ≡ kind
      → FrameRight (line_text bs ++ rest) size kind
  line_there size kind e some k = record {
    text = record {
      long = omega (arith, length-append (line_text bs) rest, line_length_lem bs);
      each = rw line_is (rw (← e, ← frame_length) (text_digits frame (10 ∷ rest) frame_bytes));
      end = rw line_is (rw (← e, ← text_end) (get_or-append_seam (bytes_text frame) 10 rest 0));
    };
    sum = rw (← e) (ap (λ x. x % 256) line_frame_sum ∙ check_sum bs);
    due = line_byte 0 some ∙ k;
  }

-- A right frame, raised, is the text of its bytes.

two : (s : List ℕ) (a m : ℕ) → suc a < length s
    → take (suc (suc m)) (drop a s) ≡ get_or s a 0 ∷ get_or s (suc a) 0 ∷ take m (drop (suc (suc a)) s)
two s a m h =
    ap (take (suc (suc m)))
    (drop-cons s a 0 (omega arith) ∙ ap (λ r. get_or s a 0 ∷ r) (drop-cons s (suc a) 0 h))

module _ (s : List ℕ) where
  back_from : (n i : ℕ) → 2 * i + 2 * n ≤ length s → Digits s (2 * i + 2 * n)
      → bytes_text (list_from (byte_at s) i n) ≡ take (2 * n) (drop (2 * i) (raised s))
  unfolding bytes_text list_from
  back_from zero i l d = refl
  back_from (suc n) i l d =
      rw (high_back s i (λ j m. d j (omega arith)), low_back s i (λ j m. d j (omega arith)))
      (step (back_from n (suc i) (omega arith) (λ j m. d j (omega arith))))
    where
      x : List ℕ
      x = raised s

      step : bytes_text (list_from (byte_at s) (suc i) n) ≡ take (2 * n) (drop (2 * suc i) x)
          → get_or x (2 * i) 0 ∷ get_or x (2 * i + 1) 0 ∷ bytes_text (list_from (byte_at s) (suc i) n)
          ≡ take (2 * suc n) (drop (2 * i) x)
      step ih =
          let place : 2 * i + 1 ≡ suc (2 * i) = omega arith in
          let next : 2 * suc i ≡ suc (suc (2 * i)) = omega arith in
          let more : 2 * suc n ≡ suc (suc (2 * n)) = omega arith in
          rw (ih, place, next, more) (sym (two x (2 * i) (2 * n) (omega (arith, raised_length s))))

  pub line_back : (m kind : ℕ) → FrameRight s (m + 1) kind
      → take (2 * (m + 1) + 1) (raised s) ≡ line_text (list_of (byte_at s) m)
  unfolding line_text
  line_back m kind r = sym front
    where
      bytes : List ℕ
      bytes = list_of (byte_at s) m

      frame_is : bytes ++ (check_byte bytes ∷ []) ≡ list_of (byte_at s) (suc m)
      frame_is =
          ap (λ x. bytes ++ (x ∷ []))
          (sym (check_only bytes (byte_at s m)
          (byte_below s m (λ j l. r.text.each j (omega arith)))
          (ap (λ x. x % 256) (sum_step (byte_at s) (sum_list (byte_at s) m) refl) ∙ r.sum))
          ∙ ap (byte_at s) (let z : m ≡ 0 + m = omega arith in z))
          ∙ sym (list_last (byte_at s) 0 m)

      end_is : 10 ≡ get_or (raised s) (2 * (m + 1)) 0
      end_is =
          sym (raised_at s (2 * (m + 1))
          ∙ eqb-true _ 10 (raise_end (get_or s (2 * (m + 1)) 0) ∙ eq-eqb _ 10 r.text.end))

      front : bytes_text (bytes ++ (check_byte bytes ∷ [])) ++ (10 ∷ []) ≡ take (2 * (m + 1) + 1) (raised s)
      front =
          let more : 2 * (m + 1) + 1 ≡ suc (2 * (m + 1)) = omega arith in
          let one : m + 1 ≡ suc m = omega arith in
          ap (λ x. bytes_text x ++ (10 ∷ [])) frame_is
          ∙ ap (λ x. x ++ (10 ∷ []))
          (back_from (suc m) 0 (omega (arith, r.text.long)) (λ j l. r.text.each j (omega arith)))
          ∙ ap₂ (λ k x. take (2 * k) (raised s) ++ (x ∷ [])) (sym one) end_is
          ∙ sym (take-suc (raised s) (2 * (m + 1)) 0 (omega (arith, r.text.long, raised_length s)))
          ∙ ap (λ k. take k (raised s)) (sym more)
