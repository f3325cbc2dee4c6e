-- Records as numbers: one record is three stores, and records that are written one after the other make the
-- flat answer. Assumes nothing.
use Rattle.std.proofs.Common.{ℕ, ◌+◌, ◌*◌, ◌/◌, ◌≤◌, ◌<◌, arith, add-one, ◌≡◌, refl, ap, ◌∙◌, List, [], ◌∷◌}
use Rattle.std.proofs.Common.{◌++◌, length, take, drop, set, take-suc}
use Rattle.buffer.specs.Put.{Put}
use Rattle.buffer.proofs.PutLaws.{put_none, put_one, put_then, put_start, put_length}
use Rattle.planner.specs.declared.Record.{Record}
use Rattle.planner.specs.declared.Done.{Done}
use Rattle.planner.specs.Answers.{no_record, record_at}
use Rattle.planner.proofs.CountLaws.{Small}
use Rattle.flat.specs.Flat.{record_numbers, numbers_of, flat_after, Fits}

-- one record: three stores
pub record_put : (s : List ℕ) (i : ℕ) (r : Record) → 3 * i + 3 ≤ length s
    → Put s (3 * i) (record_numbers r) (3 * i + 3)
    (set (set (set s (3 * i) r.flag) (3 * i + 1) r.forced) (3 * i + 2) r.bound)
record_put s i r h =
    let a : Put s (3 * i) (r.flag ∷ []) (3 * i + 1) (set s (3 * i) r.flag) =
    put_one s (3 * i) r.flag (omega arith) in
    let s₁ : List ℕ = set s (3 * i) r.flag in
    let b : Put s₁ (3 * i + 1) (r.forced ∷ []) (3 * i + 1 + 1) (set s₁ (3 * i + 1) r.forced) =
    put_one s₁ (3 * i + 1) r.forced (omega (arith, put_length a)) in
    let s₂ : List ℕ = set s₁ (3 * i + 1) r.forced in
    let d : Put s₂ (3 * i + 2) (r.bound ∷ []) (3 * i + 2 + 1) (set s₂ (3 * i + 2) r.bound) =
    put_one s₂ (3 * i + 2) r.bound (omega (arith, put_length a, put_length b)) in
    let e₁ : 3 * i + 1 + 1 ≡ 3 * i + 2 = omega arith in
    let e₂ : 3 * i + 2 + 1 ≡ 3 * i + 3 = omega arith in
    put_then (put_then a (rw e₁ at b)) (rw e₂ at d)

pub numbers_append : (xs ys : List Record) → numbers_of (xs ++ ys) ≡ numbers_of xs ++ numbers_of ys
unfolding numbers_of
numbers_append [] ys = refl
numbers_append (x ∷ xs) ys = ap (λ l. record_numbers x ++ l) (numbers_append xs ys)

-- What the loop of records knows after i of them.
pub record Putting (d : Done) (old : List ℕ) (i : ℕ) (s : List ℕ) : Type 0 where
  pub low : i ≤ d.count
  pub done : Put old 0 (numbers_of (take i d.recs)) (3 * i) s

module _ (d : Done) (old : List ℕ) where
  pub putting_start : Putting d old 0 old
  unfolding numbers_of
  putting_start = record { low = omega arith; done = put_none old 0 (omega arith) }

  module _ (i : ℕ) (s : List ℕ) (a : Putting d old i s) where
    pub putting_length : length s ≡ length old
    putting_length = put_length a.done

    pub putting_step : (s' : List ℕ) → i < d.count → i < length d.recs
        → Put s (3 * i) (record_numbers (record_at d.recs i)) (3 * i + 3) s' → Putting d old (i + 1) s'
    unfolding numbers_of
    putting_step s' lt in' p =
        record {
          low = omega arith;
          done = rw (grown, let e : 3 * (i + 1) ≡ 3 * i + 3 = omega arith in e)
              (put_then a.done p);
        }
      where
        grown : numbers_of (take (i + 1) d.recs) ≡ numbers_of (take i d.recs) ++ record_numbers
            (record_at d.recs i)
        grown =
            ap (λ n. numbers_of (take n d.recs)) (add-one i)
            ∙ ap numbers_of (take-suc d.recs i no_record in')
            ∙ numbers_append (take i d.recs) (record_at d.recs i ∷ [])

    pub putting_end : d.count ≤ i → s ≡ flat_after d old
    unfolding flat_after
    putting_end end = whole (let y : i ≡ d.count = omega (arith, a.low) in y)
      where
        three : length (numbers_of (take i d.recs)) ≡ 3 * i
        three = omega (arith, (put_start a.done).0)

        whole : i ≡ d.count → s ≡ numbers_of (take d.count d.recs) ++ drop (3 * d.count) old
        whole e =
            (put_start a.done).1
            ∙ ap (λ n. numbers_of (take i d.recs) ++ drop n old) three
            ∙ ap (λ n. numbers_of (take n d.recs) ++ drop (3 * n) old) e

-- an answer's records are there, and the caller's numbers have room for them
pub flat_fits : (len : ℕ) (d x : Done) → d ≡ x → Small (len / 3) x → Fits d len
flat_fits len d x e small = rw e (omega (arith, small.fits), small.few, small.long)
