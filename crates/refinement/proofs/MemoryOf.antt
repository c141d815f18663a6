-- The memory that cells and objects stand for: what is read from it, and what a store or one more object makes of it. Assumes nothing.
use Prim.Native.Nat.{ℕ, suc, ◌+◌, ◌*◌, ◌<◌}
use native.Mathlib.Omega.{arith}
use native.Mathlib.Decide.{ℕ_discrete, dec_lt}
use mathlib.Core.Path.{◌≡◌, refl, sym, ap, ◌∙◌, fun_ext}
use mathlib.Core.Bool.{Bool, true, false, cond, ◌&&◌, and-eq-true_iff}
use mathlib.Core.List.{List}
use lib.Dec.{eqb, ltb}
use lib.ListN.{length, get_or, set}
use lib.Seq.{get_or-set_same, get_or-set_other}
use borrow.Author.Tests.{eq-eqb, ne_eqb, lt-ltb, le-ltb, ltb-true}
use Rattle.run_keys.specs.Keys.{Keys}
use Rattle.run_keys.proofs.KeySetLaws.{keys_zero}
use Rattle.rules.specs.State.{fresh}
use Rattle.rules.specs.State as rules
use Rattle.machine.specs.Inner.Memory.{store_cell, add_mask}
use Rattle.run_state.specs.declared.Setting.{Setting}
use Rattle.run_state.specs.declared.Cell.{Cell}
use Rattle.run_state.specs.declared.Object.{Object}
use Rattle.run_look.specs.Inner.Look.{has_of}
use Rattle.run_engine.specs.Inner.Engine.{no_cell, no_object, cell_first}
use Rattle.refinement.proofs.States.{cell_meant, memory_of}
use Rattle.refinement.proofs.Tests.{test_true, test_false}

inside_32 : (o f : ℕ) → o < 32 → f < 32 → (ltb o 32 && ltb f 32) ≡ true
inside_32 o f p q = rw (lt-ltb o 32 p, lt-ltb f 32 q)

-- a cell of the memory
pub memory_cell : (setting : Setting) (cs : List Cell) (ts : List Object) (n o f : ℕ) → o < 32 → f < 32
    → (memory_of setting cs ts n).cells o f ≡ cell_meant (has_of setting.mask f) (get_or cs (o * 32 + f) no_cell)
unfolding memory_of
memory_cell setting cs ts n o f p q = test_true (ltb o 32 && ltb f 32) _ _ (inside_32 o f p q)

pub memory_mask : (setting : Setting) (cs : List Cell) (ts : List Object) (n o : ℕ) → o < n → (memory_of setting cs ts n).mask o ≡ (get_or ts o no_object).mask
unfolding memory_of
memory_mask setting cs ts n o p = test_true (ltb o n) _ _ (lt-ltb o n p)

pub fresh_meant : (x : Bool) → cell_meant x cell_first ≡ fresh
unfolding fresh
fresh_meant true = ap (λ (K : Keys). rules.cell K 0) keys_zero
fresh_meant false = refl

-- a store to a cell is a store to memory
pub memory_store : (setting : Setting) (cs : List Cell) (ts : List Object) (n o f : ℕ) (c : Cell) → length cs ≡ 1024 → o < 32 → f < 32
    → memory_of setting (set cs (o * 32 + f) c) ts n ≡ store_cell (memory_of setting cs ts n) o f (cell_meant (has_of setting.mask f) c)
unfolding memory_of store_cell
memory_store setting cs ts n o f c z p q =
    ap (λ (k : ℕ → ℕ → rules.Cell). record { count = n; mask = λ a. cond (ltb a n) (get_or ts a no_object).mask 0; cells = k })
    (fun_ext (λ a. fun_ext (λ g. at a g (ℕ_discrete o a) (ℕ_discrete f g))))
  where
    new : ℕ → ℕ → rules.Cell
    new a g = cell_meant (has_of setting.mask g) (get_or (set cs (o * 32 + f) c) (a * 32 + g) no_cell)

    old : ℕ → ℕ → rules.Cell
    old a g = cell_meant (has_of setting.mask g) (get_or cs (a * 32 + g) no_cell)

    same : (a g : ℕ) → o ≡ a → f ≡ g → new a g ≡ cell_meant (has_of setting.mask f) c
    same a g e h =
        rw (← e, ← h) (ap (cell_meant (has_of setting.mask f)) (get_or-set_same cs (o * 32 + f) c no_cell (omega arith)))

    differ : (a g : ℕ) → (a * 32 + g ≡ o * 32 + f → ⊥) → new a g ≡ old a g
    differ a g n = ap (cell_meant (has_of setting.mask g)) (get_or-set_other cs (o * 32 + f) (a * 32 + g) c no_cell n)

    apart : (a g : ℕ) (x : Bool) → (ltb a 32 && ltb g 32) ≡ x → (x ≡ true → a * 32 + g ≡ o * 32 + f → ⊥) → cond x (new a g) fresh ≡ cond x (old a g) fresh
    apart a g true e n = differ a g (n refl)
    apart a g false e n = refl

    low : (a g : ℕ) → (ltb a 32 && ltb g 32) ≡ true → g < 32
    low a g e = ltb-true g 32 ((and-eq-true_iff (ltb a 32) (ltb g 32)).0 e).1

    at : (a g : ℕ) → Dec (o ≡ a) → Dec (f ≡ g)
        → cond (ltb a 32 && ltb g 32) (new a g) fresh ≡ cond (eqb o a && eqb f g) (cell_meant (has_of setting.mask f) c)
        (cond (ltb a 32 && ltb g 32) (old a g) fresh)
    at a g (yes e) (yes h) =
        test_true (ltb a 32 && ltb g 32) (new a g) fresh (inside_32 a g (omega arith) (omega arith))
        ∙ same a g e h
        ∙ sym (test_true (eqb o a && eqb f g) (cell_meant (has_of setting.mask f) c) (cond (ltb a 32 && ltb g 32) (old a g) fresh)
        (rw (eq-eqb o a e, eq-eqb f g h)))
    at a g (yes e) (no h) =
        apart a g (ltb a 32 && ltb g 32) refl (λ x y. let l = low a g x in h (omega arith))
        ∙ sym (test_false (eqb o a && eqb f g) (cell_meant (has_of setting.mask f) c) (cond (ltb a 32 && ltb g 32) (old a g) fresh)
        (rw (eq-eqb o a e, ne_eqb f g h)))
    at a g (no e) h =
        apart a g (ltb a 32 && ltb g 32) refl (λ x y. let l = low a g x in e (omega arith))
        ∙ sym (test_false (eqb o a && eqb f g) (cell_meant (has_of setting.mask f) c) (cond (ltb a 32 && ltb g 32) (old a g) fresh) (rw (ne_eqb o a e)))

-- the object past the last is no part of it
pub memory_past : (setting : Setting) (cs : List Cell) (ts : List Object) (n : ℕ) (x : Object) → memory_of setting cs (set ts n x) n ≡ memory_of setting cs ts n
unfolding memory_of
memory_past setting cs ts n x =
    ap (λ (k : ℕ → ℕ). record { count = n; mask = k; cells = (memory_of setting cs ts n).cells }) (fun_ext (λ o. at o (dec_lt o n)))
  where
    at : (o : ℕ) → Dec (o < n) → cond (ltb o n) (get_or (set ts n x) o no_object).mask 0 ≡ cond (ltb o n) (get_or ts o no_object).mask 0
    at o (yes h) = ap (λ (t : Object). cond (ltb o n) t.mask 0) (get_or-set_other ts n o x no_object (λ e. omega arith))
    at o (no h) = let e : ltb o n ≡ false = le-ltb o n (omega arith) in test_false (ltb o n) _ 0 e ∙ sym (test_false (ltb o n) _ 0 e)

-- one more object
pub memory_more : (setting : Setting) (cs : List Cell) (ts : List Object) (n : ℕ) (x : Object) → n < length ts
    → memory_of setting cs (set ts n x) (suc n) ≡ add_mask (memory_of setting cs ts n) x.mask
unfolding memory_of add_mask
memory_more setting cs ts n x h =
    ap (λ (k : ℕ → ℕ). record { count = suc n; mask = k; cells = (memory_of setting cs ts n).cells }) (fun_ext (λ o. at o (ℕ_discrete n o) (dec_lt o n)))
  where
    at : (o : ℕ) → Dec (n ≡ o) → Dec (o < n)
        → cond (ltb o (suc n)) (get_or (set ts n x) o no_object).mask 0 ≡ cond (eqb n o) x.mask (cond (ltb o n) (get_or ts o no_object).mask 0)
    at o (yes e) d =
        test_true (ltb o (suc n)) _ 0 (lt-ltb o (suc n) (omega arith))
        ∙ ap (λ (a : ℕ). (get_or (set ts n x) a no_object).mask) (sym e)
        ∙ ap (λ (t : Object). t.mask) (get_or-set_same ts n x no_object h)
        ∙ sym (test_true (eqb n o) x.mask _ (eq-eqb n o e))
    at o (no e) (yes d) =
        test_true (ltb o (suc n)) _ 0 (lt-ltb o (suc n) (omega arith))
        ∙ ap (λ (t : Object). t.mask) (get_or-set_other ts n o x no_object (λ q. e (sym q)))
        ∙ sym (test_false (eqb n o) x.mask _ (ne_eqb n o e) ∙ test_true (ltb o n) _ 0 (lt-ltb o n d))
    at o (no e) (no d) =
        test_false (ltb o (suc n)) _ 0 (le-ltb o (suc n) (omega (arith, e, d)))
        ∙ sym (test_false (eqb n o) x.mask _ (ne_eqb n o e) ∙ test_false (ltb o n) _ 0 (le-ltb o n (omega arith)))
