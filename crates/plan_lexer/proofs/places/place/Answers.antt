-- `place` meets its contract. Assumes nothing.
use Prim.Native.Nat.{ℕ}
use native.Mathlib.Omega.{arith}
use mathlib.Core.Path.{sym, ap, ◌∙◌}
use lib.Seq.{take_all, length-take-le}
use lib.ListN.{take}
use Rattle.plan_notation.specs.Lexing.{Place, place_after}
use Rattle.plan_lexer.specs.Place.{place_of}
use Rattle.plan_lexer.proofs.places.place.Goals as goal

pub slice_bounds-spot_after-end : goal.slice_bounds-spot_after-end
slice_bounds-spot_after-end c = sym (length-take-le _ _ (omega (arith, c.if-first-text.true)))

pub returns-then-first-text : goal.returns-then-first-text
unfolding place_of
returns-then-first-text c =
    let e = ap (λ (k : ℕ). place_after (take k c.args.text.now))
    c.first_byte-first.ensures in
    (c.spot_after.ensures.0 ∙ ap (λ (p : Place). p.line) e, c.spot_after.ensures.1 ∙ ap (λ (p : Place). p.column) e)

pub returns : goal.returns
unfolding place_of
returns c =
    let s = c.args.text.now in
    let f = c.first_byte-first in
    let e = ap place_after (sym (take_all f.result s c.if-first-text.false)) ∙ ap (λ (k : ℕ). place_after (take k s)) f.ensures in
    (c.spot_after-2.ensures.0 ∙ ap (λ (p : Place). p.line) e, c.spot_after-2.ensures.1 ∙ ap (λ (p : Place). p.column) e)
