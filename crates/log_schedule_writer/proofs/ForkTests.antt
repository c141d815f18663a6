-- A fork by the number of its kind. Assumes nothing.
use Prim.Native.Nat.{ℕ, ◌<◌}
use native.Mathlib.Omega.{arith}
use mathlib.Core.Path.{◌≡◌, refl, ap, ◌∙◌}
use mathlib.Core.List.{List}
use lib.Dec.{eqb}
use Rattle.format.proofs.Ranges.{by_range}
use Rattle.log_records.specs.Packed.{kind_of, record_at}
use Rattle.log_packing.specs.Inner.Columns.{ReadAt}
use Rattle.log_packing.specs.declared.Columns.{Columns}
use Rattle.log_last_write.proofs.WriteTests.{kind_here}
use Rattle.side_by_side.specs.Schedule.{is_fork}

fork_test : (k : ℕ) → k < 16 → eqb k 8 ≡ is_fork (kind_of k)
unfolding kind_of
fork_test =
    by_range (λ k. eqb k 8 ≡ is_fork (kind_of k)) 0 16 ((k : ℕ) → k < 16 → eqb k 8 ≡ is_fork (kind_of k)) (λ all k h. all k (omega arith) h)
    refl refl refl refl refl refl refl refl refl refl refl refl refl refl refl refl

pub fork_here : {b : List ℕ} {i : ℕ} {c : Columns} → ReadAt b i c → eqb c.kind 8 ≡ is_fork (record_at b i).kind
fork_here {c = c} R = fork_test c.kind R.narrow.kind_below ∙ ap is_fork (kind_here R)
