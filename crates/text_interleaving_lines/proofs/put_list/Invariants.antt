-- `put_list` meets its contract. Assumes nothing.
use Prim.Native.Nat.{ℕ, ◌-◌, ◌≤◌}
use native.Mathlib.Omega.{arith}
use mathlib.Core.Path.{◌≡◌, refl, subst as along}
use lib.ListN.{length, length-take}
use borrow.Author.Rules.{rules}
use Rattle.text_interleaving_lines.specs.Inner.Steps.{Advanced}
use Rattle.text_interleaving_lines.proofs.Texts.{Stands, stands_first, line_room, stands_next, all_told, first_told}
use Rattle.text_interleaving_lines.proofs.put_list.Given as goal

abbrev pub invariant-loop-index : goal.invariant-loop-index
invariant-loop-index l =
    Stands l.plan l.n l.initial.area l.schedule l.picks l.index l.area l.at × (l.index ≤ 8192) × (length l.schedule ≡ length l.initial.schedule)
