use Prim.Native.Nat.{ℕ, ◌-◌, ◌≤◌}
use native.Mathlib.Omega.{arith}
use mathlib.Core.Path.{◌≡◌, refl, subst as along}
use lib.ListN.{length, length-take}
use borrow.Author.Rules.{rules}
use Rattle.text_interleaving_lines.specs.Inner.Steps.{Advanced}
use Rattle.text_interleaving_lines.proofs.Texts.{Stands, stands_first, line_room, stands_next, all_told, first_told}
use Rattle.text_interleaving_lines.proofs.put_list.Goals as goal

pub loop-index-init : goal.loop-index-init
loop-index-init c =
    (stands_first c.args.plan.now c.args.n c.args.area.now c.args.schedule.now c.args.first c.requires.0, omega arith, refl)

pub slice_bounds-put_digit_line-end : goal.slice_bounds-put_digit_line-end
slice_bounds-put_digit_line-end c =
    let s = c.loop-index.invariant.0 in
    omega (arith, s.here.few, s.here.long)

pub put_digit_line-at-requires : goal.put_digit_line-at-requires
put_digit_line-at-requires c =
    let loop = c.loop-index in
    let s = loop.invariant.0 in
    let given = c.requires.1 in
    omega (arith, s.here.few, s.short, s.kept, given, length-take (loop.picks - 0) loop.schedule)

pub advance-requires : goal.advance-requires
advance-requires c = c.loop-index.invariant.0.here

pub loop-index-preserved : goal.loop-index-preserved
loop-index-preserved c =
    let loop = c.loop-index in
    let s = c.args in
    let advance = c.advance in
    let line = c.put_digit_line-at in
    let a = along (Advanced s.plan.now s.n loop.schedule loop.picks _) c.in-Some.is advance.ensures in
    let next = stands_next s.plan.now s.n s.area.now loop.invariant.0 _ _ line.ensures in
    (next _ _ a.0 a.1, omega arith, search rules)

pub put_count-requires : goal.put_count-requires
put_count-requires c =
    let loop = c.loop-index in
    let w = c.put_digit_line-at.ensures in
    let room = line_room c.args.plan.now c.args.n c.args.area.now loop.invariant.0 _ _ w in
    omega (arith, room, w.kept, loop.invariant.0.kept, c.requires.1)

pub returns-in_default : goal.returns-in_default
returns-in_default c =
    let loop = c.loop-index in
    let s = c.args in
    let advance = c.advance in
    let line = c.put_digit_line-at in
    let e = c.in_default.is in
    let over = along (Advanced s.plan.now s.n loop.schedule loop.picks _) e advance.ensures in
    let told = all_told s.plan.now s.n s.area.now loop.invariant.0 _ _ line.ensures in
    told (omega arith) over _ _ c.put_count.ensures

pub put_more-requires : goal.put_more-requires
put_more-requires c =
    let loop = c.loop-index in
    omega (arith, loop.invariant.0.short, loop.invariant.0.kept, c.requires.1)

pub returns : goal.returns
returns c =
    let loop = c.loop-index in
    let s = c.args in
    let done : loop.index ≡ 8192 = omega arith in
    let stands = along (λ (k : ℕ). Stands s.plan.now s.n s.area.now loop.schedule loop.picks k loop.area loop.at) done loop.invariant.0 in
    first_told s.plan.now s.n s.area.now stands _ _ c.put_more.ensures
