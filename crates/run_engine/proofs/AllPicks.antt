-- The picks of a run that goes on: one by one, and what one note more leaves of them. Assumes nothing.
use Prim.Native.Nat.{ℕ, zero, suc, ◌+◌, ◌-◌, ◌*◌, ◌/◌, ◌≤◌, ◌<◌}
use native.Mathlib.Decide.{dec_lt}
use native.Mathlib.Omega.{arith}
use mathlib.Core.Path.{◌≡◌, refl, sym, ap, ◌∙◌}
use mathlib.Core.List.{List, [], ◌∷◌, ◌++◌, map, append-nil}
use lib.ListN.{length, get_or, set, take, drop, length-append, length-map, length-drop, length-set, drop_of_length-le, get_or-map}
use lib.Seq.{take-append-le, take-append-add, take-append_seam, get_or-append-add, get_or-take, get_or-drop, get_or-set_same, take-set-le, drop-set-add, take-take}
use borrow.Author.Tests.{lt-ltb, le-ltb}
use Rattle.run_engine.specs.Inner.Exploring.{all_picks, pick_at}

-- the thread that a note goes on by
abbrev by : ℕ → ℕ
by x = x / 16

take_map : (n : ℕ) (l : List ℕ) → take n (map by l) ≡ map by (take n l)
take_map zero l = refl
take_map (suc n) [] = refl
take_map (suc n) (x ∷ l) = ap (λ (r : List ℕ). by x ∷ r) (take_map n l)

module _ (picks notes : List ℕ) where
  -- as many as there are picks or notes
  pub length_all : length (all_picks picks notes) ≡ length picks + (length notes - length picks)
  length_all =
      let m : length (map by (drop (length picks) notes)) ≡ length notes - length picks =
      length-map (drop (length picks) notes) by ∙ length-drop (length picks) notes in
      length-append picks (map by (drop (length picks) notes)) ∙ ap (λ (n : ℕ). length picks + n) m

  -- a given one
  pub given_at : (i : ℕ) → i < length picks → get_or (all_picks picks notes) i 0 ≡ get_or picks i 0
  given_at i h =
      sym (get_or-take (length picks) (all_picks picks notes) i 0 h)
      ∙ ap (λ (l : List ℕ). get_or l i 0) (take-append_seam picks (map by (drop (length picks) notes)))

  -- and one that is noted
  pub noted_at : (i : ℕ) → length picks ≤ i → get_or (all_picks picks notes) i 0 ≡ get_or notes i 0 / 16
  noted_at i h =
      let j = i - length picks in
      let e : length picks + j ≡ i = omega arith in
      ap (λ (n : ℕ). get_or (all_picks picks notes) n 0) (sym e) ∙ get_or-append-add picks (map by (drop (length picks) notes)) j 0
      ∙ get_or-map by (drop (length picks) notes) j 0 ∙ ap by (get_or-drop (length picks) notes j 0 ∙ ap (λ (n : ℕ). get_or notes n 0) e)

  -- where nothing is noted, the given ones alone
  pub unnoted : length notes ≡ 0 → all_picks picks notes ≡ picks
  unnoted h =
      ap (λ (l : List ℕ). picks ++ map by l) (drop_of_length-le notes {i = length picks} (omega arith)) ∙ append-nil picks

  -- a note more leaves the picks before it
  module _ (i x : ℕ) where
    pub kept_front : take i (all_picks picks (set notes i x)) ≡ take i (all_picks picks notes)
    kept_front = go (dec_lt i (length picks))
      where
        beyond : length picks ≤ i → take i (all_picks picks (set notes i x)) ≡ take i (all_picks picks notes)
        beyond h =
            let j = i - length picks in
            let e : length picks + j ≡ i = omega arith in
            let s : drop (length picks) (set notes i x) ≡ set (drop (length picks) notes) j x =
            ap (λ (n : ℕ). drop (length picks) (set notes n x)) (sym e) ∙ drop-set-add (length picks) notes j x in
            let t : take j (map by (drop (length picks) (set notes i x))) ≡ take j (map by (drop (length picks) notes)) =
            ap (λ (l : List ℕ). take j (map by l)) s ∙ take_map j (set (drop (length picks) notes) j x)
            ∙ ap (map by) (take-set-le j (drop (length picks) notes) j x (omega arith)) ∙ sym (take_map j (drop (length picks) notes)) in
            ap (λ (n : ℕ). take n (all_picks picks (set notes i x))) (sym e) ∙ take-append-add picks (map by (drop (length picks) (set notes i x))) j
            ∙ ap (λ (l : List ℕ). picks ++ l) t ∙ sym (take-append-add picks (map by (drop (length picks) notes)) j)
            ∙ ap (λ (n : ℕ). take n (all_picks picks notes)) e

        go : Dec (i < length picks) → take i (all_picks picks (set notes i x)) ≡ take i (all_picks picks notes)
        go (yes h) =
            take-append-le i picks (map by (drop (length picks) (set notes i x))) (omega arith)
            ∙ sym (take-append-le i picks (map by (drop (length picks) notes)) (omega arith))
        go (no h) = beyond (omega (arith, h))

    pub kept_before : (j : ℕ) → j ≤ i → take j (all_picks picks (set notes i x)) ≡ take j (all_picks picks notes)
    kept_before j h =
        sym (take-take j i (all_picks picks (set notes i x)) h) ∙ ap (take j) kept_front ∙ take-take j i (all_picks picks notes) h

    pub kept_at : (j : ℕ) → j < i → get_or (all_picks picks (set notes i x)) j 0 ≡ get_or (all_picks picks notes) j 0
    kept_at j h =
        sym (get_or-take i (all_picks picks (set notes i x)) j 0 h) ∙ ap (λ (l : List ℕ). get_or l j 0) kept_front ∙ get_or-take i (all_picks picks notes) j 0 h

-- and adds the pick that it goes on by, where none is given
pub added : (picks notes : List ℕ) (i lowest higher : ℕ) → i < length notes → higher ≤ 8
    → get_or (all_picks picks (set notes i (lowest * 16 + higher))) i 0 ≡ pick_at picks i lowest
added picks notes i lowest higher h b = go (dec_lt i (length picks))
  where
    after : List ℕ
    after = set notes i (lowest * 16 + higher)

    go : Dec (i < length picks) → get_or (all_picks picks after) i 0 ≡ pick_at picks i lowest
    go (yes g) = rw (lt-ltb i (length picks) g) (given_at picks after i g)
    go (no g) =
        let k : length picks ≤ i = omega (arith, g) in
        let e : (lowest * 16 + higher) / 16 ≡ lowest = omega (arith, b) in
        rw (le-ltb i (length picks) k) (noted_at picks after i k ∙ ap by (get_or-set_same notes i (lowest * 16 + higher) 0 h) ∙ e)
