-- A move of a redex that changes no cell leaves its cell as it was. Assumes nothing.
use Prim.Native.Nat.{ℕ, ◌<◌}
use native.Mathlib.Omega.{arith}
use mathlib.Core.Path.{◌≡◌, refl}
use mathlib.Core.Bool.{Bool, true, false, cond}
use lib.Dec.{eqb, leb}
use borrow.Author.Tests.{ne_eqb, leb-false}
use Rattle.run_state.specs.declared.Head.{Head}
use Rattle.run_state.specs.declared.Cell.{Cell}
use Rattle.run_state.specs.declared.Object.{Object}
use Rattle.run_state.specs.declared.Counts.{Counts}
use Rattle.run_state.specs.declared.Setting.{Setting}
use Rattle.run_state.specs.declared.acted.Act.{Act}
use Rattle.run_state.specs.declared.acted.Act.TheVariants as act
use Rattle.run_state.specs.declared.acted.Acted.{Acted}
use Rattle.run_outcome.specs.declared.NoRoom.{NoRoom}
use Rattle.run_accesses.specs.Inner.Accesses.{act_read}
use Rattle.run_objects.specs.Inner.Objects.{act_new, act_fork}
use Rattle.run_act.specs.Inner.Act.{changes_by, act_by}

-- the cell c after the move, where there is room for it
unfoldable pub cell_after : Cell → Act → Cell
cell_after c (act.Done a) = a.cell
cell_after c (act.NoRoom r) = c

by : (c : Cell) (b : Bool) (x y : Act) → cell_after c (cond b x y) ≡ cond b (cell_after c x) (cell_after c y)
by c true x y = refl
by c false x y = refl

done : (c : Cell) (a : Acted) → cell_after c (act.Done a) ≡ a.cell
unfolding cell_after
done c a = refl

no_room_lem : (c : Cell) (r : NoRoom) → cell_after c (act.NoRoom r) ≡ c
unfolding cell_after
no_room_lem c r = refl

same : (b : Bool) (c : Cell) → cond b c c ≡ c
same true c = refl
same false c = refl

no_write : (b x : Bool) → cond b true x ≡ false → b ≡ false
no_write true x h = h
no_write false x h = refl

no_more : (b x : Bool) → cond b true x ≡ false → x ≡ false
no_more true x h = absurd (let z : ◌≡◌ {A = ℕ} 0 1 = cc in omega arith)
no_more false x h = h

pub leaves : (p : ℕ) (g : Setting) (n : Counts) (h : Head) (c : Cell) (t : Object) (q : Head) → changes_by p ≡ false → cell_after c (act_by p g n h c t q) ≡ c
unfolding changes_by act_by act_new act_read act_fork
leaves p g n h c t q e =
    let low : p < 14 = leb-false _ _ (no_more (eqb p 11) _ e) in
    let a = no_write (eqb p 11) _ e in
    let b = ne_eqb p 14 (λ x. omega arith) in
    let d = ne_eqb p 15 (λ x. omega arith) in
    let f = ne_eqb p 16 (λ x. omega arith) in
    let k = ne_eqb p 17 (λ x. omega arith) in
    simp (a, b, d, f, k, by, done, no_room_lem, same)
