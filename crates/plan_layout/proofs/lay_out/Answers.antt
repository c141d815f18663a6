use Prim.Native.Nat.{ℕ}
use native.Mathlib.Omega.{arith}
use mathlib.Core.Path.{◌≡◌, sym, ap, ◌∙◌}
use mathlib.Core.List.{[], ◌∷◌, ◌++◌}
use lib.ListN.{length, get_or, length-append}
use Rattle.format.specs.Area.{overwrite}
use Rattle.plan_notation.specs.Tokens.{text_of}
use Rattle.plan_notation.specs.Layout.{laid_out}
use Rattle.plan_pen.specs.declared.Gap.{Gap}
use Rattle.plan_pen.specs.Inner.Pens.{gap_bytes}
use Rattle.plan_layout.specs.Inner.Marks.{text_to}
use Rattle.plan_layout.proofs.MarkLaws.{text_next, text_room}
use Rattle.plan_layout.proofs.Within.{within_none, within_more, within_as, whole_area}
use Rattle.plan_layout.proofs.lay_out.Goals as goal

pub loop-index-init : goal.loop-index-init
unfolding text_to
loop-index-init c = (omega arith, within_none _ 0 _)

pub offset_bounds-marks-index : goal.offset_bounds-marks-index
offset_bounds-marks-index c = record { fits = omega (arith, c.loop-index-test.true, c.requires.rows_value.3) }

pub put_next-at-requires : goal.put_next-at-requires
put_next-at-requires c =
    let l = c.loop-index in
    let e = c.gap_of-gap.ensures in
    let t = c.loop-index-test.true in
    let r = text_room c.args.tokens.now c.args.marks.now l.index t c.requires.rows_value.2 in record {
      token_value = (c.requires.rows_value.1 l.index, rw e (c.requires.rows_value.2.few l.index t));
      token_bound = (
        rw e (omega (arith, r, l.invariant.1.next, c.requires.tokens_in_bounds.1)),
        omega (arith, c.requires.tokens_in_bounds.2, l.invariant.1.kept),
      );
    }

pub loop-index-preserved : goal.loop-index-preserved
loop-index-preserved c =
    let l = c.loop-index in
    let e = c.gap_of-gap.ensures in (
      omega (arith, c.loop-index-test.true),
      within_as (ap (λ (g : Gap). text_to c.args.tokens.now c.args.marks.now l.index ++
          (gap_bytes g ++ text_of (get_or c.args.tokens.now l.index 0))) e
          ∙ sym (text_next c.args.tokens.now c.args.marks.now l.index))
          (within_more l.invariant.1 c.put_next-at.ensures),
    )

pub put_byte-requires : goal.put_byte-requires
put_byte-requires c =
    let l = c.loop-index in
    let whole : l.index ≡ length c.args.tokens.now = omega (arith, l.invariant.0, c.loop-index-test.false) in
    omega (
      arith,
      c.requires.tokens_in_bounds.1,
      c.requires.tokens_in_bounds.2,
      l.invariant.1.next,
      l.invariant.1.kept,
      ap (λ (n : ℕ). length (text_to c.args.tokens.now c.args.marks.now n)) whole,
      ap length c.requires.rows_value.2.text,
      length-append (text_to c.args.tokens.now c.args.marks.now (length c.args.tokens.now)) (10 ∷ []),
    )

pub returns : goal.returns
unfolding overwrite
returns c =
    let l = c.loop-index in
    let whole : l.index ≡ length c.args.tokens.now = omega (arith, l.invariant.0, c.loop-index-test.false) in
    let e = ap (λ (n : ℕ). text_to c.args.tokens.now c.args.marks.now n ++ (10 ∷ [])) whole ∙ sym c.requires.rows_value.2.text in
    let p = c.put_byte.ensures in
    whole_area (laid_out c.args.tokens.now) e c.requires.tokens_in_bounds.1 l.invariant.1 p
