use Prim.Native.Nat.{ℕ, ◌+◌}
use native.Mathlib.Omega.{arith}
use mathlib.Core.Path.{◌≡◌, ap, sym, ◌∙◌}
use lib.ListN.{length}
use mathlib.Core.List.{◌∷◌}
use Rattle.plan_notation.specs.Lexing.{name, token, name_of, nothing}
use Rattle.plan_scanner.specs.Inner.Classes.{Scanned}
use Rattle.plan_scanner.specs.Inner.Extents.{onward}
use Rattle.plan_scanner.proofs.ScanLaws.{longer, name_over, name_last}
use Rattle.plan_scanner.proofs.extents.name_from.Goals as goal
use Rattle.plan_scanner.proofs.extents.name_from.Goals.{After-class_of-class}

-- the byte of a turn
scanned : (c : After-class_of-class)
    → Scanned c.args.text.now c.loop-end.end c.class_of-class.result
scanned c = record { inside = c.loop-end-test.true; byte = c.class_of-class.ensures.1; class = c.class_of-class.ensures.0 }

pub loop-end-init : goal.loop-end-init
loop-end-init c =
    let a = c.args in
    (omega arith, c.requires.from_in_bounds, λ s. sym (ap (λ (v : ℕ). onward (name s v) a.text.now a.from) c.wide-value.ensures.0))

pub class_of-class-requires : goal.class_of-class-requires
class_of-class-requires c = c.requires.classed

pub returns-then-class-ge-HASH : goal.returns-then-class-ge-HASH
returns-then-class-ge-HASH c =
    let l = c.loop-end in
    record {
      behind = l.invariant.0;
      inside = l.invariant.1;
      same = λ s. l.invariant.2 s
          ∙ name_over (scanned (goal.at.returns-then-class-ge-HASH c).After-class_of-class) c.if-class-ge-HASH.true s l.value;
    }

pub loop-end-preserved : goal.loop-end-preserved
loop-end-preserved c =
    let l = c.loop-end in
    let a = c.args in (
      omega arith,
      omega arith,
      λ s. l.invariant.2 s
          ∙ longer (scanned (goal.at.loop-end-preserved c).After-class_of-class) c.if-class-ge-HASH.false s l.value
          ∙ sym (ap (λ (v : ℕ). onward (name s v) a.text.now (l.end + 1)) c.grown-value.ensures),
    )

pub returns : goal.returns
returns c =
    let l = c.loop-end in
    let text = c.args.text.now in
    let e : l.end ≡ length text = omega (arith, l.invariant.1, c.loop-end-test.false) in
    record {
      behind = c.requires.from_in_bounds;
      inside = omega arith;
      same = λ s. l.invariant.2 s ∙ name_last _ l.end c.loop-end-test.false s l.value ∙ ap (λ (i : ℕ). token (name_of l.value) s ∷ onward nothing text i) e;
    }
