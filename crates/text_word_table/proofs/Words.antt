-- The words of a table, by its bytes and its beginnings. Assumes nothing.
use Prim.Native.Nat.{ℕ, zero, suc, ◌+◌, ◌-◌, ◌≤◌, ◌<◌, max}
use native.Mathlib.Numerals.{add-one}
use native.Mathlib.Omega.{arith}
use mathlib.Core.Path.{◌≡◌, refl, sym, ap, ◌∙◌}
use mathlib.Core.List.{List, [], ◌∷◌, ◌++◌}
use lib.ListN.{length, length-append, get_or, take, drop}
use lib.Seq.{take-append_seam, drop-append-add}
use Rattle.text_word_table.specs.Inner.Table.{joined, starts_from, Table, word_at, Room}

-- the next word begins where a word ends
next_start : (a : ℕ) (ws : List (List ℕ)) (n : ℕ) → n < length ws → get_or (starts_from a ws) (suc n) 0 ≡ get_or (starts_from a ws) n 0 + length (get_or ws n [])
unfolding starts_from
next_start a [] n h = absurd (omega arith)
next_start a (w ∷ []) zero h = refl
next_start a (w ∷ (v ∷ ws)) zero h = refl
next_start a (w ∷ ws) (suc n) h = next_start (a + length w) ws n (omega arith)

-- none begins before the first
not_before : (a : ℕ) (ws : List (List ℕ)) (n : ℕ) → n < length ws → a ≤ get_or (starts_from a ws) n 0
unfolding starts_from
not_before a [] n h = absurd (omega arith)
not_before a (w ∷ ws) zero h = omega arith
not_before a (w ∷ ws) (suc n) h = omega (arith, not_before (a + length w) ws n (omega arith))

-- none ends past the last
not_past : (a : ℕ) (ws : List (List ℕ)) (n : ℕ) → n < length ws → get_or (starts_from a ws) n 0 + length (get_or ws n []) ≤ a + length (joined ws)
unfolding starts_from joined
not_past a [] n h = absurd (omega arith)
not_past a (w ∷ ws) zero h = omega (arith, length-append w (joined ws))
not_past a (w ∷ ws) (suc n) h = omega (arith, not_past (a + length w) ws n (omega arith), length-append w (joined ws))

-- the bytes of a word stand at its beginning
word_there : (a : ℕ) (ws : List (List ℕ)) (n : ℕ) (k : ℕ) → n < length ws → get_or (starts_from a ws) n 0 ≡ a + k
    → take (length (get_or ws n [])) (drop k (joined ws)) ≡ get_or ws n []
unfolding starts_from joined
word_there a [] n k h e = absurd (omega arith)
word_there a (w ∷ ws) zero k h e =
    let z : k ≡ 0 = omega arith in
    ap (λ (i : ℕ). take (length w) (drop i (w ++ joined ws))) z ∙ take-append_seam w (joined ws)
word_there a (w ∷ ws) (suc n) k h e =
    let low = not_before (a + length w) ws n (omega arith) in
    let z : k ≡ length w + (k - length w) = omega (arith, low) in
    ap (λ (i : ℕ). take (length (get_or ws n [])) (drop i (w ++ joined ws))) z
    ∙ ap (take (length (get_or ws n []))) (drop-append-add w (joined ws) (k - length w))
    ∙ word_there (a + length w) ws n (k - length w) (omega arith) (omega (arith, low))

length_starts : (a : ℕ) (ws : List (List ℕ)) → length (starts_from a ws) ≡ length ws + 1
unfolding starts_from
length_starts a [] = refl
length_starts a (w ∷ ws) = omega (arith, length_starts (a + length w) ws)

module _ (ws : List (List ℕ)) (n : ℕ) (h : n < length ws) where
  own_word : word_at (joined ws) (starts_from 0 ws) n ≡ get_or ws n []
  own_word =
      let s = get_or (starts_from 0 ws) n 0 in
      let next = ap (λ (i : ℕ). get_or (starts_from 0 ws) i 0) (add-one n) in
      let e : get_or (starts_from 0 ws) (n + 1) 0 - s ≡ length (get_or ws n []) = omega (arith, next, next_start 0 ws n h) in
      ap (λ (i : ℕ). take i (drop s (joined ws))) e ∙ word_there 0 ws n s h (omega arith)

  own_room : (at : ℕ) (area : List ℕ) → at + length (get_or ws n []) ≤ length area → Room (joined ws) (starts_from 0 ws) n at area
  own_room at area g =
      let e = ap (λ (i : ℕ). get_or (starts_from 0 ws) i 0) (add-one n) in
      record {
        inside = omega (arith, length_starts 0 ws);
        ordered = omega (arith, e, next_start 0 ws n h);
        within = omega (arith, e, next_start 0 ws n h, not_past 0 ws n h);
        room = rw own_word g;
      }

module _ {ws : List (List ℕ)} {bytes starts : List ℕ} (t : Table ws bytes starts) (n : ℕ) (h : n < length ws) where
  -- a word of the table
  pub word_is : word_at bytes starts n ≡ get_or ws n []
  word_is = ap (λ (s : List ℕ). word_at bytes s n) t.starts_are ∙ ap (λ (b : List ℕ). word_at b (starts_from 0 ws) n) t.bytes_are ∙ own_word ws n h

  -- and room for it
  pub room_for : (at : ℕ) (area : List ℕ) → at + length (get_or ws n []) ≤ length area → Room bytes starts n at area
  room_for at area g = rw (t.bytes_are, t.starts_are) (own_room ws n h at area g)

-- no word is longer than the longest
unfoldable pub longest : List (List ℕ) → ℕ
longest [] = 0
longest (w ∷ ws) = max (length w) (longest ws)

pub not_longer : (ws : List (List ℕ)) (n : ℕ) → length (get_or ws n []) ≤ longest ws
unfolding longest
not_longer [] n = omega arith
not_longer (w ∷ ws) zero = omega arith
not_longer (w ∷ ws) (suc n) = omega (arith, not_longer ws n)
