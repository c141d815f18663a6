-- Bytes that were drawn: none, some behind others, and the same under another name. Assumes nothing.
use Prim.Native.Nat.{ℕ, ◌+◌, ◌≤◌}
use native.Mathlib.Omega.{arith}
use mathlib.Core.Path.{◌≡◌}
use mathlib.Core.List.{List, [], ◌++◌}
use Rattle.text.proofs.Added.{added_none, added_more, added_as}
use Rattle.text_diagram_elements.specs.Inner.Drawn.{Drawn}

pub drawn_none : (most : ℕ) (a : List ℕ) (at : ℕ) → Drawn most a at [] a at
drawn_none most a at = record { wrote = added_none a at; short = omega arith }

pub drawn_more : {m n most : ℕ} {a b c xs ys : List ℕ} {at k r : ℕ} → Drawn m a at xs b k → Drawn n b k ys c r → m + n ≤ most → Drawn most a at (xs ++ ys) c r
drawn_more w v h = record { wrote = added_more w.wrote v.wrote; short = omega arith }

pub drawn_as : {m : ℕ} {a b xs ys : List ℕ} {at r : ℕ} → xs ≡ ys → Drawn m a at xs b r → Drawn m a at ys b r
drawn_as e w = record { wrote = added_as e w.wrote; short = w.short }
