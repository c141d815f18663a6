-- The machine that keeps its cells so, and its cells restored: as they were first, one that is put, and one that is left as it is. Assumes nothing.
use Prim.Native.Nat.{ℕ, zero, suc, ◌+◌, ◌-◌, ◌*◌, ◌/◌, ◌%◌, ◌<◌}
use native.Mathlib.Omega.{arith}
use mathlib.Core.Path.{◌≡◌, refl, sym, ap, ◌∙◌}
use mathlib.Core.Bool.{Bool}
use mathlib.Core.List.{List, [], ◌∷◌, map}
use lib.Bits.{bit_xor, differ, xor_step, xor_zero_r}
use lib.ListN.{get_or, set, replicate, get_or-map}
use lib.Seq.{set-get_or}
use Rattle.run_refocusing.specs.Inner.Refocusing.{Stack}
use Rattle.run_state.specs.declared.Head.{Head}
use Rattle.run_state.specs.declared.Cell.{Cell}
use Rattle.run_state.specs.declared.Object.{Object}
use Rattle.run_tally.specs.declared.Tally.{Tally}
use Rattle.run_engine.specs.declared.kept.Kept.{Kept}
use Rattle.run_engine.specs.Inner.Kept.{keep_of, restore_of, kept_first}
use Rattle.run_engine.specs.Inner.Engine.{no_cell, EngineState}

-- the state that keeps these cells
abbrev pub engine_of : List Head → List Kept → List Object → List ℕ → Stack → Bool → Tally → List ℕ → EngineState
engine_of heads cells objects places stack every tally log =
    record { heads = heads; cells = map restore_of cells; objects = objects; places = places; stack = stack; every = every; tally = tally; log = log }

-- the bit of key 0 turned over
turned_over : (w : ℕ) → bit_xor w 1 ≡ w / 2 * 2 + differ (w % 2) 1
turned_over w = xor_step w 1 ∙ ap (λ (n : ℕ). n * 2 + differ (w % 2) 1) (xor_zero_r (w / 2))

even : (w : ℕ) → w % 2 ≡ 0 → bit_xor w 1 ≡ w + 1
even w e = turned_over w ∙ rw e (omega arith)

odd : (w : ℕ) → w % 2 ≡ 1 → bit_xor w 1 ≡ w - 1
odd w e = turned_over w ∙ rw e (omega arith)

twice : (w : ℕ) → bit_xor (bit_xor w 1) 1 ≡ w
twice w = go (w % 2) refl (omega arith)
  where
    go : (d : ℕ) → w % 2 ≡ d → d < 2 → bit_xor (bit_xor w 1) 1 ≡ w
    go zero e h = ap (λ (n : ℕ). bit_xor n 1) (even w e) ∙ odd (w + 1) (omega arith) ∙ omega arith
    go (suc zero) e h = ap (λ (n : ℕ). bit_xor n 1) (odd w e) ∙ even (w - 1) (omega arith) ∙ omega arith
    go (suc (suc d)) e h = absurd (omega arith)

-- a cell that is kept is the same again
restored : (c : Cell) → restore_of (keep_of c) ≡ c
restored c = rw (twice c.keys.w0)

pub all_restored : (n : ℕ) (x : Kept) → map restore_of (replicate n x) ≡ replicate n (restore_of x)
all_restored zero x = refl
all_restored (suc n) x = ap (λ (l : List Cell). restore_of x ∷ l) (all_restored n x)

pub restored_at : (l : List Kept) (k : ℕ) → restore_of (get_or l k kept_first) ≡ get_or (map restore_of l) k no_cell
restored_at l k = sym (get_or-map restore_of l k kept_first)

set_restored : (l : List Kept) (k : ℕ) (x : Kept) → map restore_of (set l k x) ≡ set (map restore_of l) k (restore_of x)
set_restored [] k x = refl
set_restored (y ∷ l) zero x = refl
set_restored (y ∷ l) (suc k) x = ap (λ (l : List Cell). restore_of y ∷ l) (set_restored l k x)

module _ (l l' : List Kept) (k : ℕ) (c : Cell) where
  pub cell_put : (x : Kept) → x ≡ keep_of c → l' ≡ set l k x → map restore_of l' ≡ set (map restore_of l) k c
  cell_put x ex e =
      ap (map restore_of) (e ∙ ap (set l k) ex) ∙ set_restored l k (keep_of c) ∙ ap (set (map restore_of l) k) (restored c)

  pub cell_left : l' ≡ l → c ≡ get_or (map restore_of l) k no_cell → map restore_of l' ≡ set (map restore_of l) k c
  cell_left e ec = ap (map restore_of) e ∙ sym (ap (set (map restore_of l) k) ec ∙ set-get_or (map restore_of l) k no_cell)
