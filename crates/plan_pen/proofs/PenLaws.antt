-- Where writing stands, part by part; the gap before a token by its three kinds. Assumes nothing.
use Prim.Native.Nat.{ℕ, suc, ◌+◌, ◌-◌, ◌<◌, ◌≤◌}
use native.Mathlib.Nat.{add-zero}
use native.Mathlib.Numerals.{add-one}
use native.Mathlib.Omega.{arith}
use mathlib.Core.Path.{◌≡◌, refl, sym, ap, ◌∙◌}
use mathlib.Core.Bool.{Bool, true, false, cond, ◌||◌}
use lib.Dec.{eqb, ltb}
use lib.ListN.{length}
use Rattle.plan_notation.specs.Tokens.{closing, in_word, else_word, opening, let_word, if_word, text_end, text_of}
use Rattle.plan_notation.specs.Layout.{Pen, apart, breaks, depth_before, depth_after, indentation, on_new_line, gap, column_after, pen_after}
use Rattle.plan_notation.proofs.Widths.{indented, column_below}
use Rattle.plan_pen.specs.declared.Gap.{Gap}
use Rattle.plan_pen.specs.Inner.Pens.{gap_bytes, Parts}

module _ (p : Pen) (t : ℕ) where
  pub depth_before_below : depth_before p t ≤ p.depth
  unfolding depth_before
  depth_before_below = by (eqb t closing || eqb t in_word || eqb t else_word)
    where
      by : (b : Bool) → cond b (p.depth - 1) p.depth ≤ p.depth
      by true = omega arith
      by false = omega arith

  pub depth_after_below : depth_after p t ≤ suc p.depth
  unfolding depth_after
  depth_after_below = by (eqb t opening || eqb t let_word || eqb t if_word) depth_before_below
    where
      by : (b : Bool) → depth_before p t ≤ p.depth → cond b (suc (depth_before p t)) (depth_before p t) ≤ suc p.depth
      by true h = omega arith
      by false h = omega arith

  -- a new line, by the test of the code
  pub line_is : (b : Bool) (w : ℕ) → b ≡ breaks p.last t → w ≡ length (text_of t) → (b || ltb 98 (p.column + w)) ≡ on_new_line p t
  unfolding on_new_line
  line_is b w e f = rw (e, f) refl

  module _ (g : Gap) where
    -- a line feed and the indentation
    pub new_line : on_new_line p t ≡ true → g.feed ≡ true → g.spaces ≡ indentation p t → Parts p t g
    unfolding gap_bytes gap column_after
    new_line n f s =
        record {
          bytes = simp (n, f, s);
          column = simp (n, f, s);
          few = omega (arith, s, indented p t);
        }

    -- a space
    pub space : on_new_line p t ≡ false → apart p.last t ≡ true → g.feed ≡ false → g.spaces ≡ 1 → Parts p t g
    unfolding gap_bytes gap column_after
    space n a f s = record { bytes = simp (n, a, f, s); column = simp (n, a, f, s, add-one); few = omega arith }

    -- nothing
    pub no_space : on_new_line p t ≡ false → apart p.last t ≡ false → g.feed ≡ false → g.spaces ≡ 0 → Parts p t g
    unfolding gap_bytes gap column_after
    no_space n a f s = record { bytes = simp (n, a, f, s); column = simp (n, a, f, s, add-zero); few = omega arith }

    -- the column behind the token, from the line's start or from where writing stood
    module _ (q : Parts p t g) (w : ℕ) (e : w ≡ length (text_of t)) where
      pub on_next : g.feed ≡ true → g.spaces + w ≡ column_after p t
      on_next f =
          ap (λ (k : ℕ). g.spaces + k) e
          ∙ sym (ap (λ (b : Bool). cond b g.spaces (p.column + g.spaces) + length (text_of t)) f)
          ∙ q.column

      pub on_same : g.feed ≡ false → p.column + g.spaces + w ≡ column_after p t
      on_same f =
          ap (λ (k : ℕ). p.column + g.spaces + k) e
          ∙ sym (ap (λ (b : Bool). cond b g.spaces (p.column + g.spaces) + length (text_of t)) f)
          ∙ q.column

  pub pen_is : (k d : ℕ) → k ≡ column_after p t → d ≡ depth_after p t → ◌≡◌ {A = Pen} (record { column = k; depth = d; last = t }) (pen_after p t)
  unfolding pen_after
  pen_is k d e f = simp (e, f)

  -- a pen behind the token
  module _ (p' : Pen) (e : p' ≡ pen_after p t) where
    pub next_column : t < text_end → p'.column < 100
    unfolding pen_after
    next_column h = omega (arith, ap (λ (q : Pen). q.column) e, column_below p t h)

    pub next_depth : p'.depth ≤ suc p.depth
    unfolding pen_after
    next_depth = omega (arith, ap (λ (q : Pen). q.depth) e, depth_after_below)

    pub next_last : t < text_end → p'.last ≤ text_end
    unfolding pen_after
    next_last h = omega (arith, ap (λ (q : Pen). q.last) e)
