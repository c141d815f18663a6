-- What is found is the answer, where the table sufficed. Assumes nothing.
use Prim.Native.Nat.{ℕ, ◌/◌, ◌<◌, ◌≤◌}
use native.Mathlib.Omega.{arith}
use mathlib.Core.Path.{◌≡◌, refl, sym, subst, ◌∙◌}
use mathlib.Core.Bool.{Bool, true, false, cond, true≢false}
use mathlib.Core.List.{List}
use mathlib.Core.Logic.{◌⊎◌, inl, inr}
use mathlib.Core.Option.{none}
use lib.ListN.{length}
use Rattle.format.specs.Version.{Version}
use Rattle.log_records.specs.Packed.{record_count}
use Rattle.log_records.specs.Refusals.{log_refusal}
use Rattle.log_conflicts.specs.Judge.{Answers, judges}
use Rattle.judge.specs.Answer.{answered}
use Rattle.judge.specs.Inner.Clear.{large_table}
use Rattle.judge.specs.Inner.Found.{Found, Finds, finds_access, finds_nothing, finds_full, judgement_of, is_full}
use Rattle.std.specs.Prelude as rust
use Rattle.std.specs.Prelude.{Ok}

pub answers_found : {v : Version} {b : List ℕ} {places : ℕ} {f : Found} → log_refusal b ≡ none → Finds v b places f → is_full f ≡ false → (j : rust.Option ℕ)
    → j ≡ judgement_of f → Answers v b (answered (Ok j))
answers_found {v} {b} ok (finds_access n) h j e = subst (λ (x : rust.Option ℕ). Answers v b (answered (Ok x))) (sym e) (judges ok n)
answers_found {v} {b} ok (finds_nothing n) h j e = subst (λ (x : rust.Option ℕ). Answers v b (answered (Ok x))) (sym e) (judges ok n)
answers_found ok (finds_full k l) h j e = absurd (true≢false h)

-- a table for as many places as the log has records, or as there are, suffices
pub never_full : {v : Version} {b : List ℕ} {places : ℕ} {f : Found} → (length b / 3 ≤ places) ⊎ (1024 ≤ places) → Finds v b places f → is_full f ≡ false
unfolding record_count
never_full h (finds_access n) = refl
never_full h (finds_nothing n) = refl
never_full (inl h) (finds_full k l) = absurd (omega arith)
never_full (inr h) (finds_full k l) = absurd (omega arith)

-- what one of the two large tables finds
pub finds_large : {v : Version} {b : List ℕ} {all d : Bool} {f : Found} → all ≡ d → Finds v b (large_table d) f → Finds v b (large_table all) f
finds_large {v} {b} {f = f} e F = subst (λ (x : Bool). Finds v b (large_table x) f) (sym e) F

-- only the smaller of them can be full
pub smaller_full : (all : Bool) {v : Version} {b : List ℕ} {f : Found} → Finds v b (large_table all) f → is_full f ≡ true → 0 < cond all 0 1
smaller_full true F e = absurd (true≢false (sym e ∙ never_full (inr (omega arith)) F))
smaller_full false F e = omega arith
