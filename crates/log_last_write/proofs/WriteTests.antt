-- A write by the number of its kind. Assumes nothing.
use Prim.Native.Nat.{ℕ, ◌<◌}
use native.Mathlib.Omega.{arith}
use mathlib.Core.Path.{◌≡◌, refl, sym, ap, ◌∙◌}
use mathlib.Core.Bool.{Bool, true, false, true≢false}
use mathlib.Core.List.{List}
use lib.Dec.{eqb}
use Rattle.format.proofs.Ranges.{by_range}
use Rattle.log_records.specs.Record.{Kind, write}
use Rattle.log_records.specs.Packed.{kind_of, record_at}
use Rattle.log_packing.specs.Inner.Columns.{ReadAt}
use Rattle.log_packing.specs.declared.Columns.{Columns}
use Rattle.log_packing.proofs.Decoded.{kind_is_kind}

abbrev pub is_write : Kind → Bool
is_write Kind.new = false
is_write Kind.read = false
is_write Kind.write = true
is_write Kind.readv = false
is_write Kind.writev = false
is_write Kind.acquire = false
is_write Kind.release = false
is_write Kind.fork = false
is_write Kind.join = false
is_write Kind.lacks_read = false
is_write Kind.lacks_write = false

pub write→ : (k : Kind) → is_write k ≡ true → k ≡ write
write→ Kind.new e = absurd (true≢false (sym e))
write→ Kind.read e = absurd (true≢false (sym e))
write→ Kind.write e = refl
write→ Kind.readv e = absurd (true≢false (sym e))
write→ Kind.writev e = absurd (true≢false (sym e))
write→ Kind.acquire e = absurd (true≢false (sym e))
write→ Kind.release e = absurd (true≢false (sym e))
write→ Kind.fork e = absurd (true≢false (sym e))
write→ Kind.join e = absurd (true≢false (sym e))
write→ Kind.lacks_read e = absurd (true≢false (sym e))
write→ Kind.lacks_write e = absurd (true≢false (sym e))

write_test : (k : ℕ) → k < 16 → eqb k 3 ≡ is_write (kind_of k)
unfolding kind_of
write_test =
    by_range (λ k. eqb k 3 ≡ is_write (kind_of k)) 0 16 ((k : ℕ) → k < 16 → eqb k 3 ≡ is_write (kind_of k)) (λ all k h. all k (omega arith) h)
    refl refl refl refl refl refl refl refl refl refl refl refl refl refl refl refl

module _ {b : List ℕ} {i : ℕ} {c : Columns} (R : ReadAt b i c) where
  pub kind_here : kind_of c.kind ≡ (record_at b i).kind
  kind_here = ap kind_of R.kind_is ∙ sym (kind_is_kind b i)

  pub write_here : eqb c.kind 3 ≡ is_write (record_at b i).kind
  write_here = write_test c.kind R.narrow.kind_below ∙ ap is_write kind_here
