-- How words that are written one after the other make one word: the only laws that a chain of writes needs.
-- Each is on plain lists and numbers, for any word. Assumes nothing.
use Rattle.std.proofs.Common.{ℕ, suc, ◌+◌, ◌≤◌, ◌<◌, arith, ◌≡◌, refl, sym, ap, ◌∙◌, List, [], ◌∷◌, ◌++◌}
use Rattle.std.proofs.Common.{append_assoc, length, get_or, take, drop, set, length-append, length-take}
use Rattle.std.proofs.Common.{length-drop, take-append-drop, length-take-le, take_at, drop_at, drop-drop}
use Rattle.std.proofs.Common.{take-suc, add-one}
use Rattle.std.proofs.Math.Seq.{set_split, take-length}
use Rattle.buffer.specs.Put.{Put}

-- nothing is written
pub put_none : (s : List ℕ) (at : ℕ) → at ≤ length s → Put s at [] at s
put_none s at h = record {
  fits = omega arith;
  next = omega arith;
  bytes =
      sym (ap (λ n. take at s ++ drop n s) (let e : at + 0 ≡ at = omega arith in e) ∙ take-append-drop at s);
}

-- one byte is stored
pub put_one : (s : List ℕ) (at b : ℕ) → at < length s → Put s at (b ∷ []) (at + 1) (set s at b)
put_one s at b h = record {
  fits = omega arith;
  next = omega arith;
  bytes =
      set_split s at b h ∙ ap (λ n. take at s ++ (b ∷ drop n s)) (let e : suc at ≡ at + 1 = omega arith in e);
}

-- three lists, and the second of them in two
regroup : (a x y d : List ℕ) → (a ++ x) ++ (y ++ d) ≡ a ++ ((x ++ y) ++ d)
regroup a x y d = simp append_assoc

module _ {s : List ℕ} {at : ℕ} {x : List ℕ} {r : ℕ} {s' : List ℕ} (p : Put s at x r s') where
  -- what stands up to the end of the word
  front : length (take at s ++ x) ≡ r
  front =
      length-append (take at s) x
      ∙ omega (arith, length-take-le at s (omega (arith, p.fits)), p.next)

  pub put_length : length s' ≡ length s
  put_length = ap length p.bytes ∙ simp (length-append, length-take, length-drop) (omega (arith, p.fits))

  whole : s' ≡ (take at s ++ x) ++ drop r s
  whole = p.bytes ∙ cc (append_assoc (take at s) x (drop (at + length x) s), p.next)

  -- a second word, written after the first
  pub put_then : {y : List ℕ} {r' : ℕ} {s'' : List ℕ} → Put s' r y r' s'' → Put s at (x ++ y) r' s''
  put_then {y} {r'} {s''} q = record {
    fits = omega (arith, length-append x y, p.next, q.fits, put_length);
    next = omega (arith, length-append x y, p.next, q.next);
    bytes = q.bytes ∙ cc (kept, rest, regroup (take at s) x y (drop (at + length (x ++ y)) s));
  }
    where
      kept : take r s' ≡ take at s ++ x
      kept = ap (take r) whole ∙ take_at (take at s ++ x) (drop r s) r front

      further : r + length y ≡ at + length (x ++ y)
      further = omega (arith, length-append x y, p.next)

      rest : drop (r + length y) s' ≡ drop (at + length (x ++ y)) s
      rest =
          sym (drop-drop (length y) r s')
          ∙ ap (λ l. drop (length y) (drop r l)) whole
          ∙ ap (drop (length y)) (drop_at (take at s ++ x) (drop r s) r front)
          ∙ drop-drop (length y) r s
          ∙ ap (λ n. drop n s) further

-- from the start of a buffer
pub put_start : {s w s' : List ℕ} {r : ℕ} → Put s 0 w r s' → (r ≡ length w) × (s' ≡ w ++ drop (length w) s)
put_start {s} {w} p =
    let e : 0 + length w ≡ length w = omega arith in
    (omega (arith, p.next), p.bytes ∙ ap (λ n. w ++ drop n s) e)

-- what is written is fixed by the buffer, the place and the word
pub put_only : {s w a b : List ℕ} {at r r' : ℕ} → Put s at w r a → Put s at w r' b → (r ≡ r') × (a ≡ b)
put_only p q = (p.next ∙ sym q.next, p.bytes ∙ sym q.bytes)

-- What the loop of a word knows after i bytes: they are written, and there is room for all.
pub record Putting (s : List ℕ) (at : ℕ) (w : List ℕ) (i : ℕ) (s' : List ℕ) : Type 0 where
  pub room : at + length w ≤ length s
  pub low : i ≤ length w
  pub long : length s' ≡ length s
  pub done : Put s at (take i w) (at + i) s'

module _ (s : List ℕ) (at : ℕ) (w : List ℕ) where
  pub putting_start : at + length w ≤ length s → Putting s at w 0 s
  putting_start h = record {
    room = h;
    low = omega arith;
    long = refl;
    done = rw (let e : at + 0 ≡ at = omega arith in e) (put_none s at (omega arith));
  }

  pub putting_step : (i : ℕ) (s' : List ℕ) → Putting s at w i s' → i < length w
      → Putting s at w (i + 1) (set s' (at + i) (get_or w i 0))
  putting_step i s' p lt = record {
    room = p.room;
    low = omega arith;
    long = put_length next;
    done = next;
  }
    where
      one : Put s' (at + i) (get_or w i 0 ∷ []) (at + i + 1) (set s' (at + i) (get_or w i 0))
      one = put_one s' (at + i) (get_or w i 0) (omega (arith, p.room, p.long))

      grown : take i w ++ (get_or w i 0 ∷ []) ≡ take (i + 1) w
      grown = sym (ap (λ n. take n w) (add-one i) ∙ take-suc w i 0 lt)

      next : Put s at (take (i + 1) w) (at + (i + 1)) (set s' (at + i) (get_or w i 0))
      next =
          rw (← grown, let e : at + (i + 1) ≡ at + i + 1 = omega arith in e) (put_then p.done one)

  pub putting_end : (i : ℕ) (s' : List ℕ) → Putting s at w i s' → length w ≤ i → Put s at w (at + i) s'
  putting_end i s' p h =
      rw (ap (λ n. take n w) (let e : i ≡ length w = omega (arith, p.low) in e) ∙ take-length w) at p.done
