-- The lines about two records: the parts that they are put together from, and how long they are. Assumes nothing.
use Prim.Native.Nat.{ℕ, ◌+◌, ◌<◌, ◌≤◌}
use native.Mathlib.Omega.{arith}
use mathlib.Core.Path.{◌≡◌, refl, ap}
use mathlib.Core.Bool.{Bool, true, false, cond}
use mathlib.Core.List.{List, [], ◌∷◌, ◌++◌, append_assoc}
use lib.ListN.{length, length-append}
use Rattle.log_records.specs.Record.{Kind, Record}
use Rattle.log_order.specs.Accesses.{is_write}
use Rattle.text.specs.Text.{ascii, decimal}
use Rattle.text.proofs.Decimals.{few_digits}
use Rattle.text_phrases.specs.Phrase.{phrase}
use Rattle.text_race_lines.specs.Lines.{does, deed, apart_line, lack_line, access_part, other_part, conflict_lines}

does_short : (k : Kind) → length (does k) ≤ 7
unfolding does ascii
does_short k = go (is_write k)
  where
    go : (w : Bool) → length (cond w (ascii " writes") (ascii " reads")) ≤ 7
    go true = omega arith
    go false = omega arith

deed_short : (k : Kind) → length (deed k) ≤ 8
unfolding deed ascii
deed_short k = go (is_write k)
  where
    go : (w : Bool) → length (cond w (ascii "'s write") (ascii "'s read")) ≤ 8
    go true = omega arith
    go false = omega arith

-- ---- that nothing leads from one to the other

pub apart_parts : (i j : ℕ) → (phrase "nothing leads from record " i ++ phrase " to record " j) ++ (10 ∷ []) ≡ apart_line i j
unfolding apart_line
apart_parts i j = simp append_assoc

pub apart_length : (i j : ℕ) → length (apart_line i j) ≡ length (decimal i) + length (decimal j) + 38
unfolding phrase ascii
apart_length i j = omega (arith, simp length-append at (ap length (apart_parts i j)))

-- ---- an access that lacks its key

seven : (a b c d e f g : List ℕ) → (((((a ++ b) ++ c) ++ d) ++ e) ++ f) ++ g ≡ a ++ (b ++ (c ++ (d ++ (e ++ (f ++ g)))))
seven a b c d e f g = simp append_assoc

pub lack_parts : (i : ℕ) (w x : Record)
    → (((((phrase "thread " x.thread ++ does x.kind) ++ phrase " field " x.field) ++ phrase " of object " x.object)
    ++ phrase " without the key of thread " w.thread)
    ++ phrase "'s write, record " i)
    ++ (10 ∷ [])
    ≡ lack_line i w x
unfolding lack_line
lack_parts i w x =
    seven (phrase "thread " x.thread) (does x.kind) (phrase " field " x.field) (phrase " of object " x.object)
    (phrase " without the key of thread " w.thread)
    (phrase "'s write, record " i) (10 ∷ [])

pub lack_length : (i : ℕ) (w x : Record)
    → length (lack_line i w x)
    ≡ length (decimal x.thread) + length (does x.kind) + length (decimal x.field) + length (decimal x.object) + length
    (decimal w.thread) + length (decimal i) + 70
unfolding phrase ascii
lack_length i w x = omega (arith, simp length-append at (ap length (lack_parts i w x)))

-- ---- two accesses that conflict

five : (a b c d e : List ℕ) → (((a ++ b) ++ c) ++ d) ++ e ≡ a ++ (b ++ (c ++ (d ++ e)))
five a b c d e = simp append_assoc

pub access_parts : (j : ℕ) (x : Record)
    → (((phrase "thread " x.thread ++ deed x.kind) ++ phrase " of field " x.field) ++ phrase " of object " x.object) ++ phrase ", record "
    j ≡ access_part j x
unfolding access_part
access_parts j x =
    five (phrase "thread " x.thread) (deed x.kind) (phrase " of field " x.field) (phrase " of object " x.object) (phrase ", record " j)

pub access_length : (j : ℕ) (x : Record)
    → length (access_part j x) ≡ length (decimal x.thread) + length (deed x.kind) + length (decimal x.field) + length (decimal x.object) +
    length (decimal j) + 37
unfolding phrase ascii
access_length j x = omega (arith, simp length-append at (ap length (access_parts j x)))

pub other_parts : (i : ℕ) (w : Record)
    → (((phrase ", and thread " w.thread ++ deed w.kind) ++ phrase ", record " i) ++ ascii ", conflict") ++ (10 ∷ []) ≡ other_part i w
unfolding other_part
other_parts i w = five (phrase ", and thread " w.thread) (deed w.kind) (phrase ", record " i) (ascii ", conflict") (10 ∷ [])

pub other_length : (i : ℕ) (w : Record) → length (other_part i w) ≡ length (decimal w.thread) + length (deed w.kind) + length (decimal i) + 33
unfolding phrase ascii
other_length i w = omega (arith, simp length-append at (ap length (other_parts i w)))

pub conflict_parts : (i : ℕ) (w : Record) (j : ℕ) (x : Record) → (access_part j x ++ other_part i w) ++ apart_line i j ≡ conflict_lines i w j x
unfolding conflict_lines
conflict_parts i w j x = refl

-- ---- records of a log have few digits

pub access_short : (j : ℕ) (x : Record) → j < 4096 → x.thread < 8 → x.object < 32 → x.field < 32 → length (access_part j x) ≤ 54
access_short j x h₁ h₂ h₃ h₄ =
    omega (
      arith,
      access_length j x,
      deed_short x.kind,
      few_digits 3 j (omega arith),
      few_digits 0 x.thread (omega arith),
      few_digits 1 x.object
          (omega arith),
      few_digits 1 x.field (omega arith),
    )

pub other_short : (i : ℕ) (w : Record) → i < 4096 → w.thread < 8 → length (other_part i w) ≤ 46
other_short i w h₁ h₂ = omega (arith, other_length i w, deed_short w.kind, few_digits 3 i (omega arith), few_digits 0 w.thread (omega arith))

pub apart_short : (i j : ℕ) → i < 4096 → j < 4096 → length (apart_line i j) ≤ 46
apart_short i j h g = omega (arith, apart_length i j, few_digits 3 i (omega arith), few_digits 3 j (omega arith))

pub lack_short : (i : ℕ) (w x : Record) → i < 4096 → w.thread < 8 → x.thread < 8 → x.object < 32 → x.field < 32 → length (lack_line i w x) ≤ 87
lack_short i w x h₁ h₂ h₃ h₄ h₅ =
    omega (
      arith,
      lack_length i w x,
      does_short x.kind,
      few_digits 3 i (omega arith),
      few_digits 0 w.thread (omega arith),
      few_digits 0 x.thread
          (omega arith),
      few_digits 1 x.object (omega arith),
      few_digits 1 x.field (omega arith),
    )
