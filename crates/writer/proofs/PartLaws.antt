-- What a buffer holds after a word was written into it. Assumes nothing.
use Rattle.std.proofs.Common.{ℕ, ◌+◌, ◌-◌, arith, ◌≡◌, sym, ap, ◌∙◌, List, ◌++◌, append_assoc, length, take}
use Rattle.std.proofs.Common.{drop, length-append, length-take-le, take_at, drop_at}
use Rattle.buffer.specs.Put.{Put}

module _ {s w s' : List ℕ} {at r : ℕ} (p : Put s at w r s') where
  front_length : length (take at s) ≡ at
  front_length = length-take-le at s (omega (arith, p.fits))

  pub put_before : take at s' ≡ take at s
  put_before = ap (take at) p.bytes ∙ take_at (take at s) _ at front_length

  pub put_after : drop r s' ≡ drop r s
  put_after =
      ap (drop r) (p.bytes ∙ sym (append_assoc (take at s) w (drop (at + length w) s)))
      ∙ drop_at (take at s ++ w) _ r
      (length-append (take at s) w ∙ omega (arith, front_length, p.next))
      ∙ ap (λ n. drop n s) (sym p.next)

  pub put_between : take (r - at) (drop at s') ≡ w
  put_between =
      ap (λ x. take (r - at) (drop at x)) p.bytes
      ∙ ap (take (r - at)) (drop_at (take at s) _ at front_length)
      ∙ take_at w _ (r - at) (omega (arith, p.next))
