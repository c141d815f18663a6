use Prim.Native.Nat.{ℕ, ◌-◌}
use native.Mathlib.Omega.{arith}
use mathlib.Core.Path.{◌≡◌, refl, subst as along}
use Rattle.log_packing.specs.Inner.Columns.{ReadAt}
use Rattle.log_marking.proofs.Pass.{Going, going_start, all_marked, going_next, drawn_below, fed_below}
use Rattle.log_marking.proofs.mark.Goals as goal
use Rattle.log_marking.proofs.mark.Goals.{After-fed-to}

pub loop-index-init : goal.loop-index-init
loop-index-init c = let a = c.args in going_start a.log.now a.failing a.last a.kept.now

pub columns_at-columns-requires : goal.columns_at-columns-requires
columns_at-columns-requires c = omega (arith, c.loop-index.invariant.within)

pub drawn-from-requires : goal.drawn-from-requires
drawn-from-requires c = c.columns_at-columns.ensures.narrow

pub fed-to-requires : goal.fed-to-requires
fed-to-requires c = c.columns_at-columns.ensures.narrow

-- the columns that are read, and how long the flags are
abbrev read : (c : After-fed-to)
    → ReadAt c.args.log.now (c.loop-index.index - 1)
    c.columns_at-columns.result
read c = c.columns_at-columns.ensures

pub bounds-wanted-to : goal.bounds-wanted-to
bounds-wanted-to c = omega (arith, c.fed-to.ensures, fed_below (read c))

pub bounds-kept-index : goal.bounds-kept-index
bounds-kept-index c = let i = c.loop-index.invariant in
    omega (arith, i.within, i.kept_long, c.requires)

pub bounds-wanted-from : goal.bounds-wanted-from
bounds-wanted-from c = omega (arith, c.drawn-from.ensures, drawn_below (read c))

pub bounds-wanted-from-in-loop-index : goal.bounds-wanted-from-in-loop-index
bounds-wanted-from-in-loop-index c = omega (arith, c.drawn-from.ensures, drawn_below (read c))

pub loop-index-preserved : goal.loop-index-preserved
loop-index-preserved c =
    let l = c.loop-index in
    let a = c.args in
    let t = c.loop-index-test.true in
    going_next {j = a.failing} {i = a.last} (read c) c.requires
    (along (λ (m : ℕ). Going a.log.now a.failing a.last m l.wanted l.kept a.kept.now) (omega arith) l.invariant)
    c.drawn-from.result c.fed-to.result _ _ _ _ c.drawn-from.ensures c.fed-to.ensures refl refl refl refl

pub shape_of-kept : goal.shape_of-kept
shape_of-kept c = c.loop-index.invariant.kept_long

pub returns : goal.returns
returns c =
    let a = c.args in
    let l = c.loop-index in
    let none_left : l.index ≡ 0 = omega arith in
    let G = along (λ (m : ℕ). Going a.log.now a.failing a.last m l.wanted l.kept a.kept.now) none_left l.invariant in record { marked_in = all_marked a.log.now a.failing a.last l.wanted l.kept a.kept.now G; same_beyond = G.beyond }
