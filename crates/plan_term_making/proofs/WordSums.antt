-- The 40 bits of each tag's terms as sums of their operands. Assumes nothing.
use Prim.Native.Nat.{ℕ, ◌+◌, ◌*◌, ◌%◌, ◌^◌, ◌<◌}
use native.Mathlib.Omega.{arith}
use mathlib.Core.Path.{◌≡◌, sym, subst}
use mathlib.Core.List.{[], ◌∷◌}
use Rattle.format.proofs.Ranges.{NoneOf}
use Rattle.plan_packed.specs.Format.{width, table, layout}
use Rattle.plan_packed.proofs.Tags.{except}
use Rattle.plan_written.specs.Terms.{word_by, word_of}

-- where the operands fit, the sum is the term's 40 bits
abbrev pub Made : ℕ → ℕ → ℕ → ℕ → ℕ → Type 0
Made k x y z s = k < 21 → x < 2 ^ width (layout k).first → y < 2 ^ width (layout k).second → z < 2 ^ width (layout k).third → s ≡ word_of k x y z

module _ (x y z : ℕ) where
  pub variable_made : (k : ℕ) → k ≡ 1 → Made k x y z (k * 34359738368 + x % 16 * 2147483648)
  unfolding word_of word_by layout table
  variable_made k e = subst (λ (k : ℕ). Made k x y z (k * 34359738368 + x % 16 * 2147483648)) (sym e) (λ n a b c. omega arith)

  pub new_made : (k : ℕ) → k ≡ 2 → Made k x y z (k * 34359738368 + x % 4294967296 * 8)
  unfolding word_of word_by layout table
  new_made k e = subst (λ (k : ℕ). Made k x y z (k * 34359738368 + x % 4294967296 * 8)) (sym e) (λ n a b c. omega arith)

  pub read_made : (k : ℕ) → k ≡ 3 → Made k x y z (k * 34359738368 + x % 1024 * 33554432 + y % 32 * 1048576)
  unfolding word_of word_by layout table
  read_made k e = subst (λ (k : ℕ). Made k x y z (k * 34359738368 + x % 1024 * 33554432 + y % 32 * 1048576)) (sym e) (λ n a b c. omega arith)

  pub write_made : (k : ℕ) → k ≡ 4 → Made k x y z (k * 34359738368 + x % 1024 * 33554432 + y % 32 * 1048576 + z % 1024 * 1024)
  unfolding word_of word_by layout table
  write_made k e =
      subst (λ (k : ℕ). Made k x y z (k * 34359738368 + x % 1024 * 33554432 + y % 32 * 1048576 + z % 1024 * 1024)) (sym e) (λ n a b c. omega arith)

  pub let_made : (k : ℕ) → k ≡ 5 → Made k x y z (k * 34359738368 + x % 16 * 2147483648 + y % 1024 * 2097152 + z % 1024 * 2048)
  unfolding word_of word_by layout table
  let_made k e =
      subst (λ (k : ℕ). Made k x y z (k * 34359738368 + x % 16 * 2147483648 + y % 1024 * 2097152 + z % 1024 * 2048)) (sym e) (λ n a b c. omega arith)

  pub call_made : (k : ℕ) → k ≡ 8 → Made k x y z (k * 34359738368 + x % 32 * 1073741824 + y % 1024 * 1048576)
  unfolding word_of word_by layout table
  call_made k e = subst (λ (k : ℕ). Made k x y z (k * 34359738368 + x % 32 * 1073741824 + y % 1024 * 1048576)) (sym e) (λ n a b c. omega arith)

  -- every other tag has only terms as operands
  pub plain_made : (k : ℕ) → NoneOf k (8 ∷ 5 ∷ 4 ∷ 3 ∷ 2 ∷ 1 ∷ []) → Made k x y z (k * 34359738368 + x % 1024 * 33554432 + y % 1024 * 32768 + z % 1024 * 32)
  unfolding word_of word_by layout table
  plain_made k =
      except (λ k. Made k x y z (k * 34359738368 + x % 1024 * 33554432 + y % 1024 * 32768 + z % 1024 * 32)) (8 ∷ 5 ∷ 4 ∷ 3 ∷ 2 ∷ 1 ∷ [])
      (λ n a b c. omega arith)
      tt
      tt
      tt
      tt
      tt
      (λ n a b c. omega arith)
      (λ n a b c. omega arith)
      tt
      (λ n a b c. omega arith)
      (λ n a b c. omega arith)
      (λ n a b c. omega arith)
      (λ n a b c. omega arith)
      (λ n a b c. omega arith)
      (λ n a b c. omega arith)
      (λ n a b c. omega arith)
      (λ n a b c. omega arith)
      (λ n a b c. omega arith)
      (λ n a b c. omega arith)
      (λ n a b c. omega arith)
      (λ n a b c. omega arith)
      (λ j n. absurd (omega arith))
      k
