-- A line of a data file: the parts that it is put together from, and how long it is. Assumes nothing.
use Prim.Native.Nat.{ℕ, zero, suc, ◌+◌, ◌-◌, ◌*◌, ◌≤◌, ◌<◌}
use native.Mathlib.Nat.{add-zero, zero-add}
use native.Mathlib.Omega.{arith}
use mathlib.Core.Path.{◌≡◌, refl, sym, ap, ap₂, ◌∙◌}
use mathlib.Core.List.{List, [], ◌∷◌, ◌++◌, append-nil, append_assoc}
use lib.ListN.{length, length-append, take}
use mathlib.Core.Option.{Option, some, none}
use Rattle.log_records.specs.Record.{Kind, new, read, write, readv, writev, acquire, release, fork, join, lacks_read, lacks_write, Record}
use Rattle.text.specs.Text.{decimal}
use Rattle.text.proofs.Decimals.{decimal_digit}
use Rattle.text_sample_lines.specs.DataFile.{one_if_acquire, last_of, digital, comma_line, digitals_from, sample_line}
use Rattle.text_sample_lines.specs.Inner.LineEnds.{values_to, end_of, line_of}
use Rattle.text_sample_lines.proofs.LineEnds.{end_length}

-- ---- as the code writes it

pub line_parts : (n : ℕ) (end : List ℕ) → ((decimal n ++ (44 ∷ [])) ++ decimal ((n - 1) * 1000)) ++ end ≡ line_of n end
unfolding line_of
line_parts n end = simp append_assoc

pub line_length : (n : ℕ) (end : List ℕ) → length (line_of n end) ≡ length (decimal n) + length (decimal ((n - 1) * 1000)) + length end + 1
line_length n end = omega (arith, simp length-append at (ap length (line_parts n end)))

-- ---- as the document says it

-- values, each behind a comma
behind : List (List ℕ) → List ℕ
behind [] = []
behind (w ∷ ws) = (44 ∷ w) ++ behind ws

behind_append : (xs ys : List (List ℕ)) → behind (xs ++ ys) ≡ behind xs ++ behind ys
unfolding behind
behind_append [] ys = refl
behind_append (w ∷ xs) ys = ap (λ (l : List ℕ). (44 ∷ w) ++ l) (behind_append xs ys) ∙ sym (append_assoc (44 ∷ w) (behind xs) (behind ys))

comma_parts : (w : List ℕ) (ws : List (List ℕ)) → comma_line (w ∷ ws) ≡ w ++ (behind ws ++ (13 ∷ 10 ∷ []))
unfolding comma_line behind
comma_parts w [] = refl
comma_parts w (v ∷ ws) =
    ap (λ (l : List ℕ). w ++ (44 ∷ l)) (comma_parts v ws)
    ∙ ap (λ (l : List ℕ). w ++ l) (sym (append_assoc (44 ∷ v) (behind ws) (13 ∷ 10 ∷ [])))

digitals_more : (o n : ℕ) (L : List Record) → digitals_from o (suc n) L ≡ digitals_from o n L ++ (decimal (digital (o + n) L) ∷ [])
unfolding digitals_from
digitals_more o zero L = ap (λ (k : ℕ). decimal (digital k L) ∷ []) (sym (add-zero o))
digitals_more o (suc n) L =
    ap (λ (ws : List (List ℕ)). decimal (digital o L) ∷ ws)
    (digitals_more (suc o) n L ∙ ap (λ (k : ℕ). digitals_from (suc o) n L ++ (decimal (digital k L) ∷ [])) (let e : suc o + n ≡ o + suc n = omega arith in e))

-- a digital value is 0 or 1
digital_below : (o : ℕ) (L : List Record) → digital o L < 2
unfolding digital
digital_below o L = go (last_of o L)
  where
    go : (k : Option Kind) → one_if_acquire k < 2
    go none = omega arith
    go (some new) = omega arith
    go (some read) = omega arith
    go (some write) = omega arith
    go (some readv) = omega arith
    go (some writev) = omega arith
    go (some acquire) = omega arith
    go (some release) = omega arith
    go (some fork) = omega arith
    go (some join) = omega arith
    go (some lacks_read) = omega arith
    go (some lacks_write) = omega arith

module _ (L : List Record) where
  values_are : (n : ℕ) → behind (digitals_from 0 n L) ≡ values_to n L
  unfolding digitals_from values_to behind
  values_are zero = refl
  values_are (suc n) =
      ap behind (digitals_more 0 n L)
      ∙ behind_append (digitals_from 0 n L) (decimal (digital (0 + n) L) ∷ [])
      ∙ ap₂ (λ (x y : List ℕ). x ++ y) (values_are n) (append-nil (44 ∷ decimal (digital (0 + n) L))
      ∙ ap (λ (k : ℕ). 44 ∷ decimal (digital k L)) (zero-add n)
      ∙ ap (λ (l : List ℕ). 44 ∷ l) (decimal_digit (digital n L) (let l = digital_below n L in omega arith)))

pub line_is : (L : List Record) (n : ℕ) → line_of n (end_of (take n L)) ≡ sample_line L n
unfolding line_of end_of sample_line behind
line_is L n =
    sym (comma_parts (decimal n) (decimal ((n - 1) * 1000) ∷ digitals_from 0 32 (take n L))
    ∙ ap (λ (l : List ℕ). decimal n ++ l) (append_assoc (44 ∷ decimal ((n - 1) * 1000)) (behind (digitals_from 0 32 (take n L))) (13 ∷ 10 ∷ []))
    ∙ ap (λ (l : List ℕ). decimal n ++ ((44 ∷ decimal ((n - 1) * 1000)) ++ (l ++ (13 ∷ 10 ∷ [])))) (values_are (take n L) 32))

pub sample_length : (L : List Record) (n : ℕ) → length (sample_line L n) ≡ length (decimal n) + length (decimal ((n - 1) * 1000)) + 67
sample_length L n = omega (arith, ap length (line_is L n), line_length n (end_of (take n L)), end_length (take n L))
