-- The checks of a schedule with a pick added as its last. Assumes nothing.
use Prim.Native.Nat.{ℕ, ◌+◌, ◌≤◌, ◌<◌}
use native.Mathlib.Omega.{arith}
use mathlib.Core.Path.{◌≡◌, sym, ap, ◌∙◌}
use mathlib.Core.Bool.{Bool, true, false}
use mathlib.Core.List.{List, [], ◌∷◌, ◌++◌}
use lib.Dec.{ltb}
use lib.ListN.{length, get_or, length-append, get_or-append}
use lib.Seq.{get_or-append_seam}
use borrow.Author.Count.{below_more}
use borrow.Author.Tests.{lt-ltb, le-ltb}
use Rattle.format.specs.Inner.Lowest.{Lowest}
use Rattle.format.proofs.LowestLaws.{found, found_none}
use Rattle.rules.specs.Play.{too_many_picks, wrong_pick}

module _ (s : List ℕ) (p : ℕ) where
  pub length_with : length (s ++ (p ∷ [])) ≡ length s + 1
  length_with = length-append s (p ∷ [])

  pub too_many_with : 4095 < length s → too_many_picks (s ++ (p ∷ [])) ≡ true
  unfolding too_many_picks
  too_many_with h = lt-ltb 4096 (length (s ++ (p ∷ []))) (omega (arith, length_with, h))

  pub few_with : length s ≤ 4095 → too_many_picks (s ++ (p ∷ [])) ≡ false
  unfolding too_many_picks
  few_with h = le-ltb 4096 (length (s ++ (p ∷ []))) (omega (arith, length_with, h))

  -- the picks before it are as they were
  earlier : (k : ℕ) → k < length s → wrong_pick (s ++ (p ∷ [])) k ≡ wrong_pick s k
  unfolding wrong_pick
  earlier k h = ap (ltb 7) (get_or-append s (p ∷ []) 0 k h)

  last : wrong_pick (s ++ (p ∷ [])) (length s) ≡ ltb 7 p
  unfolding wrong_pick
  last = ap (ltb 7) (get_or-append_seam s p [] 0)

  module _ (r : ℕ) (l : Lowest (wrong_pick s) (length s) r) where
    none_before : (k : ℕ) → k < r → wrong_pick (s ++ (p ∷ [])) k ≡ false
    none_before k h = earlier k (omega (arith, h, l.within)) ∙ l.before k h

    -- a pick of the schedule is wrong
    pub wrong_earlier : r < length s → Lowest (wrong_pick (s ++ (p ∷ []))) (length s + 1) r
    wrong_earlier h = found _ _ r (omega arith) (earlier r h ∙ l.here h) none_before

    -- none is
    module _ (past : length s ≤ r) where
      all_before : (k : ℕ) → k < length s → wrong_pick (s ++ (p ∷ [])) k ≡ false
      all_before k h = none_before k (omega (arith, past, h))

      pub wrong_last : ltb 7 p ≡ true → Lowest (wrong_pick (s ++ (p ∷ []))) (length s + 1) (length s)
      wrong_last h = found _ _ (length s) (omega arith) (last ∙ h) all_before

      pub none_wrong : ltb 7 p ≡ false → Lowest (wrong_pick (s ++ (p ∷ []))) (length s + 1) (length s + 1)
      none_wrong h = found_none _ _ (length s + 1) (omega arith) (omega arith) (below_more _ _ all_before (last ∙ h))
