-- The number of the thread that a search by its object finds, after a change and after one more thread. Assumes nothing.
use Prim.Native.Nat.{ℕ, zero, suc, ◌+◌}
use native.Mathlib.Omega.{arith}
use mathlib.Core.Path.{◌≡◌, refl, ap, ◌∙◌}
use mathlib.Core.Bool.{Bool, true, false, cond}
use mathlib.Core.List.{List, [], ◌∷◌, ◌++◌, map}
use mathlib.Core.Option.{some, none}
use lib.Dec.{eqb}
use lib.ListN.{length, get_elem?}
use borrow.Author.Tests.{eq-eqb, ne_eqb}
use Rattle.rules.specs.State.{change_at}
use Rattle.machine.specs.Inner.Machine as machine
use Rattle.refinement.proofs.States.{number_of}
use Rattle.refinement.proofs.Tests.{test_false}

-- a search finds the same numbers where a thread keeps its object
pub numbers_change : (xs : List machine.Thread) (i p : ℕ) (k : machine.Thread → machine.Thread) → ((x : machine.Thread) → (k x).self ≡ x.self) → (o : ℕ)
    → number_of (machine.thread_of i (change_at xs p k) o) ≡ number_of (machine.thread_of i xs o)
unfolding machine.thread_of change_at
numbers_change [] i p k h o = refl
numbers_change (x ∷ xs) i zero k h o =
    ap (λ (a : ℕ). number_of (cond (eqb a o) (some (record { number = i; thread = k x })) (machine.thread_of (suc i) xs o))) (h x) ∙ at (eqb x.self o)
  where
    at : (t : Bool)
        → number_of (cond t (some (record { number = i; thread = k x })) (machine.thread_of (suc i) xs o)) ≡ number_of
        (cond t (some (record { number = i; thread = x })) (machine.thread_of (suc i) xs o))
    at true = refl
    at false = refl
numbers_change (x ∷ xs) i (suc p) k h o = at (eqb x.self o) (numbers_change xs (suc i) p k h o)
  where
    at : (t : Bool) → number_of (machine.thread_of (suc i) (change_at xs p k) o) ≡ number_of (machine.thread_of (suc i) xs o)
        → number_of (cond t (some (record { number = i; thread = x })) (machine.thread_of (suc i) (change_at xs p k) o)) ≡ number_of
        (cond t (some (record { number = i; thread = x })) (machine.thread_of (suc i) xs o))
    at true q = refl
    at false q = q

-- and where every thread does
pub numbers_map : (xs : List machine.Thread) (i : ℕ) (k : machine.Thread → machine.Thread) → ((x : machine.Thread) → (k x).self ≡ x.self) → (o : ℕ)
    → number_of (machine.thread_of i (map k xs) o) ≡ number_of (machine.thread_of i xs o)
unfolding machine.thread_of
numbers_map [] i k h o = refl
numbers_map (x ∷ xs) i k h o =
    ap (λ (a : ℕ). number_of (cond (eqb a o) (some (record { number = i; thread = k x })) (machine.thread_of (suc i) (map k xs) o))) (h x)
    ∙ at (eqb x.self o) (numbers_map xs (suc i) k h o)
  where
    at : (t : Bool) → number_of (machine.thread_of (suc i) (map k xs) o) ≡ number_of (machine.thread_of (suc i) xs o)
        → number_of (cond t (some (record { number = i; thread = k x })) (machine.thread_of (suc i) (map k xs) o)) ≡ number_of
        (cond t (some (record { number = i; thread = x })) (machine.thread_of (suc i) xs o))
    at true q = refl
    at false q = q

-- no thread has this number for its own
abbrev pub Strange : List machine.Thread → ℕ → Type 0
Strange xs o = (q : ℕ) (t : machine.Thread) → get_elem? xs q ≡ some t → t.self ≡ o → ⊥

pub strange_number : (xs : List machine.Thread) (i o : ℕ) → Strange xs o → machine.thread_of i xs o ≡ none
unfolding machine.thread_of
strange_number [] i o h = refl
strange_number (x ∷ xs) i o h = test_false (eqb x.self o) _ _ (ne_eqb x.self o (λ e. h 0 x refl e))
    ∙ strange_number xs (suc i) o (λ q t g e. h (suc q) t g e)

pub added_number : (xs : List machine.Thread) (x : machine.Thread) (i o : ℕ) → x.self ≡ o → Strange xs o
    → number_of (machine.thread_of i (xs ++ (x ∷ [])) o) ≡ i + length xs
unfolding machine.thread_of
added_number [] x i o e h = rw (eq-eqb x.self o e) (omega arith)
added_number (y ∷ xs) x i o e h =
    ap number_of (test_false (eqb y.self o) _ _ (ne_eqb y.self o (λ e. h 0 y refl e)))
    ∙ added_number xs x (suc i) o e (λ q t g e. h (suc q) t g e)
    ∙ omega arith

pub other_number_lem : (xs : List machine.Thread) (x : machine.Thread) (i o : ℕ) → (x.self ≡ o → ⊥)
    → number_of (machine.thread_of i (xs ++ (x ∷ [])) o) ≡ number_of (machine.thread_of i xs o)
unfolding machine.thread_of
other_number_lem [] x i o n = rw (ne_eqb x.self o n)
other_number_lem (y ∷ xs) x i o n = at (eqb y.self o) (other_number_lem xs x (suc i) o n)
  where
    at : (t : Bool) → number_of (machine.thread_of (suc i) (xs ++ (x ∷ [])) o) ≡ number_of (machine.thread_of (suc i) xs o)
        → number_of (cond t (some (record { number = i; thread = y })) (machine.thread_of (suc i) (xs ++ (x ∷ [])) o)) ≡ number_of
        (cond t (some (record { number = i; thread = y })) (machine.thread_of (suc i) xs o))
    at true q = refl
    at false q = q
