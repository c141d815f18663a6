-- A digital value after one record more: an acquire of its object makes it 1, a release 0, any other record leaves it. Assumes nothing.
use Prim.Native.Nat.{ℕ, ◌<◌}
use native.Mathlib.Omega.{arith}
use mathlib.Core.Path.{◌≡◌, refl, sym, ap, ◌∙◌}
use mathlib.Core.Bool.{Bool, true, false, cond, ◌&&◌}
use mathlib.Core.List.{List, [], ◌∷◌, ◌++◌}
use mathlib.Core.Option.{Option, some, none, or_else}
use lib.Dec.{eqb}
use borrow.Author.Tests.{eq-eqb, ne_eqb}
use Rattle.format.proofs.Ranges.{by_range}
use Rattle.log_records.specs.Record.{Kind, acquire, release, Record}
use Rattle.log_records.specs.Packed.{kinds, kind_of}
use Rattle.text_sample_lines.specs.DataFile.{of_monitor, last_of, one_if_acquire, digital}

-- what a record says of object o
abbrev said : ℕ → Record → Option Kind
said o r = cond (of_monitor r.kind && eqb r.object o) (some r.kind) none

or_none : (x : Option Kind) → x ≡ or_else x none
unfolding or_else
or_none none = refl
or_none (some k) = refl

or_assoc : (x y z : Option Kind) → or_else (or_else x y) z ≡ or_else x (or_else y z)
unfolding or_else
or_assoc none y z = refl
or_assoc (some k) y z = refl

last_more : (o : ℕ) (L : List Record) (r : Record) → last_of o (L ++ (r ∷ [])) ≡ or_else (said o r) (last_of o L)
unfolding last_of or_else
last_more o [] r = or_none (said o r)
last_more o (q ∷ L) r = ap (λ (x : Option Kind). or_else x (said o q)) (last_more o L r) ∙ or_assoc (said o r) (last_of o L) (said o q)

digital_more : (o : ℕ) (L : List Record) (r : Record) → digital o (L ++ (r ∷ [])) ≡ one_if_acquire (or_else (said o r) (last_of o L))
unfolding digital
digital_more o L r = ap one_if_acquire (last_more o L r)

module _ (o : ℕ) (L : List Record) (r : Record) where
  said_own : (k : Kind) → r.kind ≡ k → of_monitor k ≡ true → r.object ≡ o → said o r ≡ some k
  said_own k e m h = rw (e, m, eq-eqb r.object o h)

  pub taken_one : r.kind ≡ acquire → r.object ≡ o → digital o (L ++ (r ∷ [])) ≡ 1
  unfolding or_else
  taken_one e h = digital_more o L r ∙ ap (λ (x : Option Kind). one_if_acquire (or_else x (last_of o L))) (said_own acquire e refl h)

  pub freed_zero : r.kind ≡ release → r.object ≡ o → digital o (L ++ (r ∷ [])) ≡ 0
  unfolding or_else
  freed_zero e h = digital_more o L r ∙ ap (λ (x : Option Kind). one_if_acquire (or_else x (last_of o L))) (said_own release e refl h)

  unsaid : (of_monitor r.kind && eqb r.object o) ≡ false → digital o (L ++ (r ∷ [])) ≡ digital o L
  unfolding or_else digital
  unsaid e = digital_more o L r ∙ ap (λ (b : Bool). one_if_acquire (or_else (cond b (some r.kind) none) (last_of o L))) e

  pub other_object : (r.object ≡ o → ⊥) → digital o (L ++ (r ∷ [])) ≡ digital o L
  other_object h = unsaid (ap (λ (b : Bool). of_monitor r.kind && b) (ne_eqb r.object o h) ∙ and_false (of_monitor r.kind))
    where
      and_false : (b : Bool) → (b && false) ≡ false
      and_false true = refl
      and_false false = refl

  pub other_kind : of_monitor r.kind ≡ false → digital o (L ++ (r ∷ [])) ≡ digital o L
  other_kind e = unsaid (ap (λ (b : Bool). b && eqb r.object o) e)

-- ---- kinds by their numbers

abbrev Neither : ℕ → Type 0
Neither k = (k ≡ 6 → ⊥) → (k ≡ 7 → ⊥) → of_monitor (kind_of k) ≡ false

-- no kind but 6 and 7 is of a monitor
pub no_monitor : (k : ℕ) → k < 16 → Neither k
unfolding kind_of kinds
no_monitor =
    by_range Neither 0 16 ((k : ℕ) → k < 16 → Neither k) (λ all k h. all k (omega arith) (omega arith))
    (λ a b. refl) (λ a b. refl) (λ a b. refl) (λ a b. refl) (λ a b. refl) (λ a b. refl) (λ a b. absurd (a refl)) (λ a b. absurd (b refl))
    (λ a b. refl) (λ a b. refl) (λ a b. refl) (λ a b. refl) (λ a b. refl) (λ a b. refl) (λ a b. refl) (λ a b. refl)

pub acquire_number : (k : ℕ) → k ≡ 6 → kind_of k ≡ acquire
unfolding kind_of kinds
acquire_number k e = ap kind_of e

pub release_number : (k : ℕ) → k ≡ 7 → kind_of k ≡ release
unfolding kind_of kinds
release_number k e = ap kind_of e
