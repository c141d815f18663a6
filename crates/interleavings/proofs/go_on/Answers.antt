-- `go_on_lem` meets its contract. Assumes nothing.
use Prim.Native.Nat.{ℕ, ◌-◌, ◌≤◌}
use native.Mathlib.Nat.{sub-zero}
use native.Mathlib.Omega.{arith}
use mathlib.Core.Path.{◌≡◌, sym, ◌∙◌}
use lib.ListN.{length, take, replicate}
use lib.Seq.{length-take-le, length_front}
use borrow.Author.Rules.{rules}
use Rattle.interleavings.proofs.GoingOn.{first_is, can_explore, puts, reached}
use Rattle.interleavings.proofs.go_on.Goals as goal

-- room for n notes
few : (n : ℕ) → n ≤ 64 → length (take {A = ℕ} (n - 0) (replicate 64 0)) ≡ n
few n h = length-take-le (n - 0) (replicate 64 0) (omega arith) ∙ sub-zero n

pub explore-explored-requires : goal.explore-explored-requires
explore-explored-requires c = can_explore c.requires _ (few c.args.n c.requires.bound)

pub slice_bounds-put_noted-end : goal.slice_bounds-put_noted-end
slice_bounds-put_noted-end c =
    sym (length_front (replicate 64 0) c.explore-explored.new.notes (c.args.n - 0) c.explore-explored.ensures.kept)

pub put_noted-requires : goal.put_noted-requires
put_noted-requires c =
    puts c.requires c.explore-explored.ensures (first_is c.requires) (few c.args.n c.requires.bound) _

pub returns : goal.returns
returns c =
    reached c.requires c.explore-explored.ensures (first_is c.requires) (few c.args.n c.requires.bound) _ _ c.put_noted.ensures
