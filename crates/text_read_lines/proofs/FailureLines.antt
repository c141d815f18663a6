-- The line of a text that is no plan: its parts, and how long they are. Assumes nothing.
use Prim.Native.Nat.{ℕ, ◌+◌, ◌≤◌, ◌<◌}
use native.Mathlib.Omega.{arith}
use mathlib.Core.Path.{◌≡◌, ap}
use mathlib.Core.Bool.{Bool, true, false, cond}
use mathlib.Core.List.{List, [], ◌∷◌, ◌++◌, append_assoc}
use lib.Dec.{eqb, ltb}
use lib.ListN.{length, length-append, get_or}
use Rattle.text.specs.Text.{ascii, decimal}
use Rattle.text.proofs.Decimals.{few_digits}
use Rattle.text_word_table.specs.Inner.Table.{joined, starts_from, word_at, Room}
use Rattle.text_word_table.proofs.Words.{word_is, room_for, longest, not_longer}
use Rattle.plan_parsing.specs.Goals as goal
use Rattle.plan_parsing.specs.Goals.{Sort, either, expression, condition, Goal}
use Rattle.plan_parsing.specs.Parser as reason
use Rattle.plan_parsing.specs.Parser.{Reason}
use Rattle.plan_parsing.specs.Plan as fault
use Rattle.read.specs.Read as failure
use Rattle.read.specs.Read.{Failure}
use Rattle.text_read_lines.specs.Reasons.{reasons, token_row, sort_row, goal_row, reason_row, failure_row, place_words, reason_words, failure_line}

-- ---- every row is one of the table

few : (b : Bool) (m n : ℕ) → m < 25 → n < 25 → cond b m n < 25
few true m n h g = h
few false m n h g = g

token_few : (t : ℕ) → token_row t < 25
unfolding token_row
token_few t =
    few (ltb t 32) 9 _ (omega arith)
    (few (eqb t 42) 10 _ (omega arith)
    (few (eqb t 43) 11 _ (omega arith)
    (few (eqb t 44) 12 _ (omega arith)
    (few (eqb t 45) 13 _ (omega arith)
    (few (eqb t 46) 14 _ (omega arith)
    (few (eqb t 62) 15 _ (omega arith)
    (few (eqb t 63) 16 _ (omega arith) (few (eqb t 66) 18 0 (omega arith) (omega arith)))))))))

sort_few : (s : Sort) → sort_row s < 25
unfolding sort_row
sort_few either = omega arith
sort_few expression = omega arith
sort_few condition = omega arith

goal_few : (g : Goal) → goal_row g < 25
unfolding goal_row
goal_few (goal.expect t) = token_few t
goal_few (goal.operand d s) = sort_few s
goal_few (goal.more d s) = sort_few s
goal_few goal.binder = omega arith
goal_few (goal.fields k f) = omega arith
goal_few goal.procedure = omega arith
goal_few (goal.further k) = omega arith
goal_few goal.count = omega arith
goal_few (goal.make k) = omega arith

reason_few : (r : Reason) → reason_row r < 25
unfolding reason_row
reason_few (reason.wanted g) = goal_few g
reason_few reason.field = omega arith
reason_few reason.terms = omega arith
reason_few reason.nesting = omega arith

pub failure_few : (f : Failure) → failure_row f < 25
unfolding failure_row
failure_few (failure.of_fault (fault.reading r)) = reason_few r
failure_few (failure.of_fault fault.version) = omega arith
failure_few (failure.of_fault fault.slots) = omega arith
failure_few (failure.of_fault fault.end) = omega arith
failure_few failure.tokens = omega arith

-- ---- a word of the code's table

inside : (row : ℕ) → row < 25 → row < length reasons
unfolding reasons
inside row h = h

module _ {bytes starts : List ℕ} (row : ℕ) (h : row < 25) (b : bytes ≡ joined reasons) (s : starts ≡ starts_from 0 reasons) where
  pub reason_is : word_at bytes starts row ++ (10 ∷ []) ≡ reason_words row
  unfolding reason_words
  reason_is = ap (λ (w : List ℕ). w ++ (10 ∷ [])) (word_is {ws = reasons} (record { bytes_are = b; starts_are = s }) row (inside row h))

  pub reason_room : (at : ℕ) (area : List ℕ) → at + length (reason_words row) ≤ length area → Room bytes starts row at area
  unfolding reason_words
  reason_room at area g =
      room_for {ws = reasons} (record { bytes_are = b; starts_are = s }) row (inside row h) at area
      (omega (arith, length-append (get_or reasons row []) (10 ∷ [])))

-- ---- the parts of the line

pub place_parts : (line column : ℕ)
    → (((ascii "no plan: line " ++ decimal line) ++ ascii ", column ") ++ decimal column) ++ ascii ": " ≡ place_words line column
unfolding place_words
place_parts line column = simp append_assoc

pub place_length : (line column : ℕ) → length (place_words line column) ≡ length (decimal line) + length (decimal column) + 25
unfolding ascii
place_length line column = omega (arith, simp length-append at (ap length (place_parts line column)))

pub failure_length : (line column : ℕ) (f : Failure)
    → length (failure_line line column f) ≡ length (place_words line column) + length (reason_words (failure_row f))
unfolding failure_line
failure_length line column f = length-append (place_words line column) (reason_words (failure_row f))

reason_short : (row : ℕ) → length (reason_words row) ≤ 61
unfolding reason_words reasons longest ascii
reason_short row = omega (arith, not_longer reasons row, length-append (get_or reasons row []) (10 ∷ []))

wide_digits : (n : ℕ) → n < 18446744073709551616 → length (decimal n) ≤ 20
wide_digits n h = few_digits 19 n (omega arith)

pub failure_short : (line column : ℕ) (f : Failure) → line < 18446744073709551616 → column < 18446744073709551616 → length (failure_line line column f) ≤ 126
failure_short line column f h g =
    omega (arith, failure_length line column f, place_length line column, reason_short (failure_row f), wide_digits line h, wide_digits column g)
