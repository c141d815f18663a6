use Prim.Native.Nat.{ℕ, ◌+◌}
use native.Mathlib.Omega.{arith}
use mathlib.Core.Path.{refl, sym, ap, ◌∙◌}
use mathlib.Core.List.{List, ◌++◌, append_assoc}
use lib.ListN.{length-append, take, drop, get_or}
use Rattle.plan_notation.specs.Tokens.{text_of}
use Rattle.plan_notation.specs.Layout.{Pen, laid_from, laid_out}
use Rattle.plan_notation.proofs.Widths.{few_bytes}
use Rattle.plan_pen.specs.Inner.Pens.{pen_of, gap_bytes}
use Rattle.plan_pen.proofs.PenLaws.{next_column, next_depth, next_last}
use Rattle.plan_layout.proofs.LaidLaws.{gap_short, laid_on, laid_none}
use Rattle.plan_layout.proofs.lay_within.Goals as goal

pub loop-token-init : goal.loop-token-init
unfolding laid_out
loop-token-init c =
    let e = c.start-pen.ensures in (
      omega arith,
      c.requires.tokens_len_bound.1,
      omega (arith, ap (λ (p : Pen). p.column) e),
      omega (arith, ap (λ (p : Pen). p.depth) e),
      omega (arith, ap (λ (p : Pen). p.last) e),
      refl,
      sym (ap (λ (p : Pen). laid_from p c.args.tokens.now) e),
    )

pub width-width-requires : goal.width-width-requires
width-width-requires c = c.requires.rows_value.2 c.loop-token.token-index

pub pass-gap-requires : goal.pass-gap-requires
pass-gap-requires c =
    let l = c.loop-token in
    let w = c.width-width.ensures in
    let k = c.requires.rows_value.2 l.token-index in record {
      token_value = (k, l.invariant.4);
      width_value = (w, omega (arith, w, few_bytes _ k));
      place = (l.invariant.2, omega (arith, l.invariant.3, c.loop-token-test.true, c.requires.tokens_len_bound.0));
    }

pub put_wide-at-requires : goal.put_wide-at-requires
put_wide-at-requires c =
    let l = c.loop-token in (
      c.requires.rows_value.2 l.token-index,
      c.width-width.ensures,
      c.pass-gap.ensures.gap.few,
      omega (arith, l.invariant.1, c.if-room-at-lt51.false),
    )

pub loop-token-preserved : goal.loop-token-preserved
loop-token-preserved c =
    let l = c.loop-token in
    let t = c.loop-token-test.true in
    let ts = c.args.tokens.now in
    let g = c.pass-gap in
    let w = c.put_wide-at.ensures in
    let e = c.pass-gap.ensures.after in
    let k = c.requires.rows_value.2 l.token-index in
    let n = length-append (gap_bytes g.result) (text_of (get_or ts l.token-index 0)) in
    let done = take l.at l.room in (
      omega (arith, t),
      omega (
        arith,
        w.next,
        w.kept,
        n,
        gap_short g.result g.ensures.gap.few,
        few_bytes _ k,
        l.invariant.1,
        c.if-room-at-lt51.false,
      ),
      next_column _ _ _ e k,
      omega (arith, l.invariant.3, next_depth _ _ _ e),
      next_last _ _ _ e k,
      w.kept ∙ l.invariant.5,
      laid_on ts l.token-index (pen_of l.pen) t g.result g.ensures.gap (pen_of c.pass-gap.new.self) e _ done l.invariant.6
          ∙ ap (λ (xs : List ℕ). xs ++ laid_from (pen_of c.pass-gap.new.self) (drop (l.token-index + 1) ts))
          (append_assoc done (gap_bytes g.result) (text_of (get_or ts l.token-index 0)) ∙ sym w.text),
    )

pub put_byte-requires : goal.put_byte-requires
put_byte-requires c = c.loop-token.invariant.1

pub returns : goal.returns
returns c =
    let l = c.loop-token in
    let p = c.put_byte.ensures in
    record {
      within = omega (arith, p.next, p.kept, l.invariant.1);
      laid = p.text ∙ ap (λ (xs : List ℕ). take l.at l.room ++ xs) (sym (laid_none _ l.token-index (pen_of l.pen) c.loop-token-test.false))
          ∙ sym l.invariant.6;
    }
