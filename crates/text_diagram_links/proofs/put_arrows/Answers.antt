use Prim.Native.Nat.{ℕ}
use native.Mathlib.Numerals.{add-one}
use native.Mathlib.Omega.{arith}
use mathlib.Core.Path.{◌≡◌, ap}
use Rattle.log_records.specs.Packed.{log_of}
use Rattle.text.specs.Text.{ascii}
use Rattle.text.proofs.Added.{added_as}
use Rattle.text_diagram_elements.specs.Diagram.{arrow_texts, arrows_of}
use Rattle.text_diagram_elements.proofs.Together.{drawn_none, drawn_more, drawn_as}
use Rattle.text_diagram_links.proofs.NextArrow.{arrows_next}
use Rattle.text_diagram_links.proofs.put_arrows.Goals as goal

pub loop-index-init : goal.loop-index-init
unfolding arrow_texts arrows_of
loop-index-init c = (omega arith, drawn_none _ _ _)

pub bounds-starts-index : goal.bounds-starts-index
bounds-starts-index c = omega (arith, c.requires.1.starts_there)

pub overflow_cast-start : goal.overflow_cast-start
overflow_cast-start c = omega (arith, c.shared_slice_known-in-loop-index-1.given c.loop-index.index)

pub bounds-ends-index : goal.bounds-ends-index
bounds-ends-index c = omega (arith, c.requires.1.ends_there)

pub overflow_cast-end : goal.overflow_cast-end
overflow_cast-end c = omega (arith, c.shared_slice_known-in-loop-index-2-1.given c.loop-index.index)

pub put_between-next-requires : goal.put_between-next-requires
put_between-next-requires c =
    let l = c.loop-index in
    let inside = c.loop-index-test.true in
    let p = c.requires in (
      record { few = p.0; first_inside = p.1.start_inside l.index inside; second_inside = p.1.end_inside l.index inside },
      omega (arith, l.invariant.1.short, l.invariant.1.wrote.kept, p.2),
    )

pub loop-index-preserved : goal.loop-index-preserved
unfolding ascii
loop-index-preserved c =
    let a = c.args in
    let l = c.loop-index in
    let e = arrows_next (log_of a.log.now) a.starts.now a.ends.now l.index in
    (omega arith, rw add-one (drawn_as e (drawn_more l.invariant.1 c.put_between-next.ensures (omega arith))))

pub shape_of-area : goal.shape_of-area
shape_of-area c = c.loop-index.invariant.1.wrote.kept

pub returns : goal.returns
returns c =
    let a = c.args in
    let l = c.loop-index in
    let e : l.index ≡ a.count = omega arith in
    record {
      wrote = added_as (ap (λ (n : ℕ). arrow_texts (log_of a.log.now) (arrows_of a.starts.now a.ends.now n)) e) l.invariant.1.wrote;
      short =
          omega (arith, l.invariant.1.short);
    }
