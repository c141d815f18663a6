-- The sentence of a refusal: a word of the code's table, and how long it is. Assumes nothing.
use Prim.Native.Nat.{ℕ, ◌+◌, ◌<◌, ◌≤◌}
use native.Mathlib.Omega.{arith}
use mathlib.Core.Path.{◌≡◌, refl, sym, ap, ◌∙◌}
use mathlib.Core.Bool.{Bool, true, false, cond}
use mathlib.Core.List.{List, [], ◌∷◌, ◌++◌}
use lib.Dec.{ltb}
use lib.ListN.{length, length-append, get_or}
use borrow.Author.Tests.{ltb-true}
use Rattle.format.specs.Refusal.{Refusal}
use Rattle.text.specs.Text.{ascii}
use Rattle.text_word_table.specs.Inner.Table.{joined, starts_from, Table, word_at, Room}
use Rattle.text_word_table.proofs.Words.{word_is, room_for, longest, not_longer}
use Rattle.text_refusal_lines.specs.Lines.{sentences, sentence_row, sentence_line, refusal_line, refusal_lines}
use Rattle.text_refusal_lines.proofs.LineParts.{refusal_short}

row_by : (n : ℕ) (small : Bool) → ltb n 28 ≡ small → cond small n 0 < 28
row_by n true e = ltb-true n 28 e
row_by n false e = omega arith

row_inside : (n : ℕ) → sentence_row n < length sentences
unfolding sentence_row sentences
row_inside n = row_by n (ltb n 28) refl

-- the word of the code's table
pub sentence_is : {bytes starts : List ℕ} {row : ℕ} (n : ℕ) → bytes ≡ joined sentences → starts ≡ starts_from 0 sentences → row ≡ sentence_row n
    → word_at bytes starts row ++ (10 ∷ []) ≡ sentence_line n
unfolding sentence_line
sentence_is {bytes} {starts} {row} n b s r =
    let word = word_is {ws = sentences} (record { bytes_are = b; starts_are = s }) row (rw r (row_inside n)) in
    ap (λ (w : List ℕ). w ++ (10 ∷ [])) (word ∙ ap (λ (k : ℕ). get_or sentences k []) r)

-- and room for it
pub sentence_room : {bytes starts : List ℕ} {row : ℕ} (n at : ℕ) (area : List ℕ)
    → bytes ≡ joined sentences → starts ≡ starts_from 0 sentences → row ≡ sentence_row n
    → at + length (sentence_line n) ≤ length area → Room bytes starts row at area
unfolding sentence_line
sentence_room {bytes} {starts} {row} n at area b s r h =
    room_for {ws = sentences} (record { bytes_are = b; starts_are = s }) row (rw r (row_inside n)) at area
    (rw r (omega (arith, length-append (get_or sentences (sentence_row n) []) (10 ∷ []))))

-- no sentence is longer than 80 bytes
sentence_short : (n : ℕ) → length (sentence_line n) ≤ 81
unfolding sentence_line sentences longest ascii
sentence_short n = omega (arith, not_longer sentences (sentence_row n), length-append (get_or sentences (sentence_row n) []) (10 ∷ []))

pub lines_length : (r : Refusal) → length (refusal_lines r) ≡ length (refusal_line r) + length (sentence_line r.number)
unfolding refusal_lines
lines_length r = length-append (refusal_line r) (sentence_line r.number)

pub lines_short : (r : Refusal) → r.number < 18446744073709551616 → r.place < 18446744073709551616 → length (refusal_lines r) ≤ 131
lines_short r h₁ h₂ = omega (arith, lines_length r, refusal_short r h₁ h₂, sentence_short r.number)
