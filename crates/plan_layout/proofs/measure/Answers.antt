use Prim.Native.Nat.{ℕ, ◌+◌, ◌≤◌, ◌<◌}
use native.Mathlib.Nat.{zero-add}
use native.Mathlib.Omega.{arith}
use mathlib.Core.Path.{◌≡◌, refl, sym, ap, ◌∙◌}
use mathlib.Core.List.{List, [], ◌∷◌, ◌++◌}
use lib.ListN.{length, length-set, drop}
use Rattle.plan_notation.specs.Layout.{Pen, laid_from, laid_out}
use Rattle.plan_notation.proofs.Widths.{few_bytes}
use Rattle.plan_pen.specs.declared.Gap.{Gap}
use Rattle.plan_pen.specs.Inner.Pens.{pen_of}
use Rattle.plan_pen.proofs.PenLaws.{next_column, next_depth, next_last}
use Rattle.plan_layout.specs.Inner.Marks.{text_to}
use Rattle.plan_layout.proofs.LaidLaws.{gap_short, laid_length, laid_on, laid_none}
use Rattle.plan_layout.proofs.MarkLaws.{text_more, few_more}
use Rattle.plan_layout.proofs.measure.Goals as goal
use Rattle.plan_layout.proofs.measure.Goals.{After-length}

-- a token takes at most 50 bytes
few_of : (c : After-length) → c.length.result + c.width-width.result ≤ 50
few_of c =
    omega (
      arith,
      c.length.ensures,
      gap_short c.pass-gap.result c.pass-gap.ensures.gap.few,
      c.width-width.ensures,
      few_bytes _ (c.requires.rows_value.2
          c.loop-index.index),
    )

pub loop-index-init : goal.loop-index-init
unfolding laid_out text_to
loop-index-init c =
    let e = c.start-pen.ensures in (
      omega arith,
      omega arith,
      omega (arith, ap (λ (p : Pen). p.column) e),
      omega (arith, ap (λ (p : Pen). p.depth) e),
      rw zero-add (ap (λ (p : Pen). length (laid_from p c.args.tokens.now)) e),
      record { kept = refl; text = sym (ap (λ (p : Pen). laid_from p c.args.tokens.now) e); few = λ k l. absurd (omega arith) },
      omega (arith, ap (λ (p : Pen). p.last) e),
    )

pub width-width-requires : goal.width-width-requires
width-width-requires c = c.requires.rows_value.2 c.loop-index.index

pub pass-gap-requires : goal.pass-gap-requires
pass-gap-requires c =
    let l = c.loop-index in
    let w = c.width-width.ensures in
    let k = c.requires.rows_value.2 l.index in record {
      token_value = (k, l.invariant.6);
      width_value = (w, omega (arith, w, few_bytes _ k));
      place = (l.invariant.2, omega (arith, l.invariant.3, c.loop-index-test.true, c.requires.tokens_len_bound.0));
    }

pub mark-requires : goal.mark-requires
mark-requires c = c.pass-gap.ensures.gap.few

pub offset_bounds-marks-index : goal.offset_bounds-marks-index
offset_bounds-marks-index c = record {
  fits = omega (
    arith,
    c.loop-index-test.true,
    c.requires.tokens_len_bound.0,
  );
}

pub bounds-marks-index : goal.bounds-marks-index
bounds-marks-index c = let l = c.loop-index in omega (
  arith,
  c.loop-index-test.true,
  l.invariant.5.kept,
  c.requires.tokens_len_bound.1,
)

pub length-requires : goal.length-requires
length-requires c = c.pass-gap.ensures.gap.few

pub overflow_add-total : goal.overflow_add-total
overflow_add-total c = record { fits = omega (arith, few_of c) }

pub overflow_add-total-in-loop-index : goal.overflow_add-total-in-loop-index
overflow_add-total-in-loop-index c = let l = c.loop-index in record {
  fits = omega
      (arith, few_of c, l.invariant.0, l.invariant.1, c.requires.tokens_len_bound.0);
}

pub loop-index-preserved : goal.loop-index-preserved
loop-index-preserved c =
    let l = c.loop-index in
    let t = c.loop-index-test.true in
    let ts = c.args.tokens.now in
    let g = c.pass-gap in
    let m = c.mark in
    let e = c.pass-gap.ensures.after in
    let n = laid_length ts l.index (pen_of l.pen) t g.result g.ensures.gap (pen_of c.pass-gap.new.self) e in
    let o = l.invariant.5 in
    let inside : l.index < length l.marks = omega (arith, t, o.kept, c.requires.tokens_len_bound.1) in (
      omega (arith, t),
      omega (arith, few_of (goal.at.loop-index-preserved c).After-length, l.invariant.1),
      next_column _ _ _ e (c.requires.rows_value.2 l.index),
      omega (arith, l.invariant.3, next_depth _ _ _ e),
      omega (arith, l.invariant.4, n, c.length.ensures, c.width-width.ensures),
      record {
        kept = length-set l.marks l.index m.result ∙ o.kept;
        text = laid_on ts l.index (pen_of l.pen) t g.result g.ensures.gap (pen_of c.pass-gap.new.self) e _ (text_to ts l.marks l.index) o.text
            ∙ ap (λ (xs : List ℕ). xs ++ laid_from (pen_of c.pass-gap.new.self) (drop (l.index + 1) ts))
            (sym (text_more ts l.marks l.index m.result g.result inside m.ensures));
        few = few_more l.marks l.index m.result inside (rw (ap (λ (x : Gap). x.spaces) m.ensures) g.ensures.gap.few) o.few;
      },
      next_last _ _ _ e (c.requires.rows_value.2 l.index),
    )

pub overflow_add-result : goal.overflow_add-result
overflow_add-result c = let l = c.loop-index in record { fits = omega (arith, l.invariant.0, l.invariant.1, c.requires.tokens_len_bound.0) }

pub returns : goal.returns
returns c =
    let l = c.loop-index in
    let ts = c.args.tokens.now in
    let none = laid_none ts l.index (pen_of l.pen) c.loop-index-test.false in
    let whole : l.index ≡ length ts = omega (arith, l.invariant.0, c.loop-index-test.false) in
    let o = l.invariant.5 in (
      omega (arith, l.invariant.4, ap length none),
      record {
        text = o.text ∙ ap (λ (xs : List ℕ). text_to ts l.marks l.index ++ xs) none ∙ ap (λ (n : ℕ). text_to ts l.marks n ++ (10 ∷ [])) whole;
        few = λ k h. o.few k (omega (arith, whole));
      },
    )
