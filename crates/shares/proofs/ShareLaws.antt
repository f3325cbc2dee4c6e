-- A share is at most q, at least min(C, cap, q), and grows with q by its growth at least.
-- Assumes nothing.
use Rattle.std.proofs.Common.{ℕ, ◌+◌, ◌-◌, ◌≤◌, min, arith, ◌≡◌, List}
use Rattle.base.specs.Rows.{at}
use Rattle.shares.specs.Shares.{share_at, full_at, line_at, growth_at, SoundPlace}
use Rattle.shares.proofs.WorkLaws.{work_first, full_least, full_grows, full_above}

-- over plain numbers: w is the work, full that of the jobs begun, top the cap
module _ (w w' full top q d : ℕ) (begun : w ≤ full) (more : min (w + d) full ≤ w') where
  growth_fits : (s k : ℕ) → s ≤ k → (s + min d (k - s) ≤ k) × (s + min d (k - s) ≤ s + d)
  growth_fits s k h = (omega arith, omega arith)

  under_least : (x a b c : ℕ) → x ≤ a → x ≤ b → x ≤ c → x ≤ min (min a b) c
  under_least x a b c p r s = omega arith

  rises : (s : ℕ) → s ≤ w → s ≤ top → s ≤ q → s + min d (min full top - s) ≤ min (min w' top) (q + d)
  rises s a b c =
      let g = growth_fits s (min full top) (omega arith) in
      under_least _ w' top (q + d) (omega (arith, g.0, g.1)) (omega (arith, g.0)) (omega (arith, g.1))

  least_rises : min (min w top) q + min d (min full top - min (min w top) q) ≤ min (min w' top) (q + d)
  least_rises = rises (min (min w top) q) (omega arith) (omega arith) (omega arith)

-- the least of four, the first and the last of which are those of the work
least_of_works : (f l w top q : ℕ) → min f l ≡ w → min (min (min f top) l) q ≡ min (min w top) q
least_of_works f l w top q e = omega arith

module _ (rest cost reach cap : List ℕ) (ahead q i : ℕ) where
  pub share_small : share_at rest cost reach cap ahead q i ≤ q
  unfolding share_at
  share_small = omega arith

  pub share_first : min q (min (at cost i) (at cap i)) ≤ share_at rest cost reach cap ahead q i
  unfolding share_at
  share_first = omega (arith, work_first (at rest i + at cost i) (at cost i) (q + ahead + at reach i))

  pub growth_small : at cap i ≤ 1000000 → growth_at rest cost reach cap ahead q i ≤ 1000000
  unfolding growth_at
  growth_small small = omega arith

  module _ {inverse : ℕ} (sound : SoundPlace inverse (at rest i) (at cost i) (at reach i))
      (range : q + ahead ≤ 1000000) where
    near : q + ahead + at reach i ≤ 2000000
    near = omega (arith, sound.near)

    pub share_is : min (min (min (full_at rest cost reach (q + ahead) i) (at cap i))
        (line_at rest cost reach (q + ahead) i)) q
        ≡ share_at rest cost reach cap ahead q i
    unfolding share_at full_at line_at
    share_is = least_of_works _ _ _ _ q (full_least (at rest i) (at cost i) _ sound.time near)

    pub share_grows : (d : ℕ)
        → share_at rest cost reach cap ahead q i + min d (growth_at rest cost reach cap ahead q i)
        ≤ share_at rest cost reach cap ahead (q + d) i
    unfolding share_at growth_at full_at
    share_grows d =
        let e : q + d + ahead + at reach i ≡ q + ahead + at reach i + d = omega arith in
        rw e
        (least_rises _ _ _ (at cap i) q d (full_above (at rest i) (at cost i) _ sound.time near)
        (full_grows (at rest i) (at cost i) (q + ahead + at reach i) d sound.time))
