-- No line that is laid out has 100 columns. Assumes nothing.
use Prim.Native.Nat.{ℕ, zero, suc, ◌+◌, ◌<◌, ◌≤◌}
use native.Mathlib.Nat.{add-zero, zero-add, add-suc, suc-add}
use native.Mathlib.Omega.{arith}
use mathlib.Core.Path.{◌≡◌, refl}
use mathlib.Core.Bool.{Bool, true, false, cond, not, ◌&&◌, and-eq-true_iff}
use mathlib.Core.List.{List, [], ◌∷◌, ◌++◌}
use lib.Dec.{eqb, ltb}
use lib.ListN.{length, replicate, length-replicate}
use borrow.Author.Tests.{ltb-true, ltb-false, not-true}
use Rattle.format.specs.Refusal.{lowest}
use Rattle.format.proofs.RefusalLaws.{neither}
use Rattle.text.specs.Text.{ascii}
use Rattle.plan_notation.specs.Tokens.{text_end, text_of, texts}
use Rattle.plan_notation.specs.Inner.Known.{Known}
use Rattle.plan_notation.specs.Layout.{Pen, start, apart, breaks, on_new_line, indentation, gap, column_after, pen_after, laid_from, laid_out}
use Rattle.plan_notation.proofs.Tested.{passed}

-- every line of a text has fewer than 100 columns, where the first has k more before the text
unfoldable pub Narrow : ℕ → List ℕ → Type 0
Narrow k [] = k < 100
Narrow k (c ∷ cs) = (k < 100) × Narrow (cond (eqb c 10) 0 (suc k)) cs

-- no byte is a line feed
one_line : List ℕ → Bool
one_line [] = true
one_line (c ∷ cs) = not (eqb c 10) && one_line cs

spaces : (n : ℕ) → one_line (replicate n 32) ≡ true
unfolding one_line
spaces zero = refl
spaces (suc n) = spaces n

-- the text of a token is short, and within a line
Short : List ℕ → Type 0
Short xs = (one_line xs ≡ true) × (length xs < 10)

short : (t : ℕ) → t < text_end → Short (text_of t)
unfolding Short one_line text_of texts ascii lowest
short t h =
    let e = (and-eq-true_iff (one_line (text_of t)) (ltb (length (text_of t)) 10)).0
    (passed (λ (k : ℕ). one_line (text_of k) && ltb (length (text_of k)) 10) text_end refl t h) in
    (e.0, ltb-true (length (text_of t)) 10 e.1)

pub few_bytes : (t : ℕ) → t < text_end → length (text_of t) < 10
unfolding Short
few_bytes t h = (short t h).1

-- more bytes on a line
along : (xs cs : List ℕ) (k : ℕ) → one_line xs ≡ true → k + length xs < 100 → Narrow (k + length xs) cs → Narrow k (xs ++ cs)
unfolding one_line Narrow
along [] cs k e h n = rw add-zero at n
along (x ∷ xs) cs k e h n =
    let d = (and-eq-true_iff (not (eqb x 10)) (one_line xs)).0 e in
    (omega arith, rw (not-true (eqb x 10) d.0) (along xs cs (suc k) d.1 (omega arith) (rw (suc-add, ← add-suc) n)))

-- a token that is not on a new line has room on this one
fits : (p : Pen) (t : ℕ) → on_new_line p t ≡ false → p.column + length (text_of t) ≤ 98
unfolding on_new_line
fits p t e = ltb-false 98 (p.column + length (text_of t)) (neither (breaks p.last t) (ltb 98 (p.column + length (text_of t))) e).1

-- a gap and a token
placed : (new spaced : Bool) (n k : ℕ) (xs cs : List ℕ) → n ≤ 40 → k < 100 → Short xs → (new ≡ false → k + length xs ≤ 98)
    → Narrow (cond new n (cond spaced (suc k) k) + length xs) cs → Narrow k (cond new (10 ∷ replicate n 32) (cond spaced (32 ∷ []) []) ++ (xs ++ cs))
unfolding Narrow Short
placed true spaced n k xs cs i h s f r =
    let e = length-replicate {A = ℕ} n 32 in
    (h, along (replicate n 32) (xs ++ cs) 0 (spaces n) (omega (arith, e)) (rw (e, zero-add) (along xs cs n s.0 (omega arith) r)))
placed false true n k xs cs i h s f r = (h, along xs cs (suc k) s.0 (omega (arith, f refl)) r)
placed false false n k xs cs i h s f r = along xs cs k s.0 (omega (arith, f refl)) r

column_by : (new spaced : Bool) (n k m : ℕ) → n ≤ 40 → m < 10 → (new ≡ false → k + m ≤ 98) → cond new n (cond spaced (suc k) k) + m < 100
column_by true spaced n k m i s f = omega arith
column_by false true n k m i s f = omega (arith, f refl)
column_by false false n k m i s f = omega (arith, f refl)

pub indented : (p : Pen) (t : ℕ) → indentation p t ≤ 40
unfolding indentation
indented p t = omega arith

-- the column behind a token
pub column_below : (p : Pen) (t : ℕ) → t < text_end → column_after p t < 100
unfolding column_after
column_below p t h =
    column_by (on_new_line p t) (apart p.last t) (indentation p t) p.column (length (text_of t)) (indented p t) (few_bytes t h) (fits p t)

narrow_from : (ts : List ℕ) (p : Pen) → Known ts → p.column < 100 → Narrow p.column (laid_from p ts)
unfolding Narrow laid_from gap pen_after column_after Short
narrow_from [] p k h = (h, omega arith)
narrow_from (t ∷ ts) p k h =
    let s = short t (k 0) in
    let f = fits p t in
    placed (on_new_line p t) (apart p.last t) (indentation p t) p.column (text_of t) _ (indented p t) h s f
    (narrow_from ts (pen_after p t) (λ n. k (suc n)) (column_below p t (k 0)))

-- no line has 100 columns or more
pub narrow : (ts : List ℕ) → Known ts → Narrow 0 (laid_out ts)
unfolding laid_out
narrow ts k = narrow_from ts start k (omega arith)
