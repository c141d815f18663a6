-- The parameter counts, token by token. Assumes nothing.
use Prim.Native.Nat.{ℕ, suc, ◌+◌, ◌-◌, ◌≤◌, ◌<◌}
use native.Mathlib.Omega.{arith}
use mathlib.Core.Path.{◌≡◌, refl, sym, ap, ◌∙◌}
use mathlib.Core.Bool.{Bool, true, false, cond}
use mathlib.Core.List.{List, [], ◌∷◌, ◌++◌, append-nil, append_assoc}
use lib.Dec.{eqb}
use lib.ListN.{length, length-append, take, drop, drop_of_length-le}
use lib.Seq.{drop-cons, get_or-drop}
use borrow.Author.Tests.{ne_eqb}
use Rattle.plan_notation.specs.Tokens.{procedure_word, text_end}
use Rattle.text.specs.Inner.Wrote.{Wrote}
use Rattle.text.proofs.Added.{added_none, added_more, added_as}
use Rattle.plan_parsing.specs.Parser.{ahead}
use Rattle.plan_parsing.specs.Plan.{counts_from, counts_of}
use Rattle.plan_reader.specs.Inner.Reading.{count_at}

pub count_there : (ts : List ℕ) (i : ℕ) → ahead ts i ≡ procedure_word → count_at ts i ≡ ahead ts (i + 3) ∷ []
unfolding count_at
count_there ts i e = rw e

pub count_none : (ts : List ℕ) (i : ℕ) → (ahead ts i ≡ procedure_word → ⊥) → count_at ts i ≡ []
unfolding count_at
count_none ts i n = rw (ne_eqb (ahead ts i) procedure_word n)

-- one token more
one_more_lem : (t : ℕ) (ts : List ℕ) → counts_from (t ∷ ts) ≡ cond (eqb t procedure_word) (ahead ts 2 ∷ []) [] ++ counts_from ts
unfolding counts_from
one_more_lem t ts = go (eqb t procedure_word)
  where
    go : (b : Bool) → cond b (ahead ts 2 ∷ counts_from ts) (counts_from ts) ≡ cond b (ahead ts 2 ∷ []) [] ++ counts_from ts
    go true = refl
    go false = refl

pub count_more : (ts : List ℕ) (i : ℕ) → i < length ts → counts_from (drop i ts) ≡ count_at ts i ++ counts_from (drop (suc i) ts)
unfolding count_at
count_more ts i h =
    ap counts_from (drop-cons ts i text_end h)
    ∙ one_more_lem (ahead ts i) (drop (suc i) ts)
    ∙ ap (λ (x : ℕ). cond (eqb (ahead ts i) procedure_word) (x ∷ []) [] ++ counts_from (drop (suc i) ts))
    (get_or-drop (suc i) ts 2 text_end ∙ ap (ahead ts) (three i))
  where
    three : (i : ℕ) → suc i + 2 ≡ i + 3
    three i = omega arith

count_few : (ts : List ℕ) (i : ℕ) → length (count_at ts i) ≤ 1
unfolding count_at
count_few ts i = go (eqb (ahead ts i) procedure_word)
  where
    go : (b : Bool) → length (cond b (ahead ts (i + 3) ∷ []) []) ≤ 1
    go true = omega arith
    go false = omega arith

-- token i is next
pub record At (ts area₀ : List ℕ) (from : ℕ) (area : List ℕ) (next i : ℕ) : Type 0 where
  pub before : List ℕ
  pub whole : before ++ counts_from (drop i ts) ≡ counts_from ts
  pub wrote : Wrote area₀ from before area next
  pub few : length before ≤ i
  pub inside : i ≤ length ts

pub at_first : (ts area : List ℕ) (from : ℕ) → At ts area from area from 0
at_first ts area from = record { before = []; whole = refl; wrote = added_none area from; few = omega arith; inside = omega arith }

pub at_next : {ts area₀ area area' : List ℕ} {from next next' i : ℕ} → At ts area₀ from area next i → i < length ts → Wrote area next (count_at ts i) area' next'
    → At ts area₀ from area' next' (suc i)
at_next {ts} {i = i} a h w =
    record {
      before = a.before ++ count_at ts i;
      whole = append_assoc a.before (count_at ts i) (counts_from (drop (suc i) ts)) ∙ ap (λ (l : List ℕ). a.before ++ l) (sym (count_more ts i h)) ∙ a.whole;
      wrote = added_more a.wrote w;
      few = omega (arith, a.few, count_few ts i, length-append a.before (count_at ts i));
      inside = h;
    }

pub at_last : {ts area₀ area : List ℕ} {from next i : ℕ} → At ts area₀ from area next i → length ts ≤ i → Wrote area₀ from (counts_from ts) area next
unfolding counts_from
at_last {ts} {i = i} a h =
    added_as (sym (append-nil a.before) ∙ ap (λ (l : List ℕ). a.before ++ counts_from l) (sym (drop_of_length-le ts h)) ∙ a.whole) a.wrote

-- there are at most as many as tokens, and one
from_few : (ts : List ℕ) → length (counts_from ts) ≤ length ts
unfolding counts_from
from_few [] = omega arith
from_few (t ∷ ts) = go (eqb t procedure_word) (from_few ts)
  where
    go : (b : Bool) → length (counts_from ts) ≤ length ts → length (cond b (ahead ts 2 ∷ counts_from ts) (counts_from ts)) ≤ suc (length ts)
    go true h = omega arith
    go false h = omega arith

pub counts_few : (ts : List ℕ) → length (counts_of ts) ≤ length ts + 1
unfolding counts_of
counts_few ts = omega (arith, from_few ts)

-- the first n bytes of the array, as the code takes them
pub first_counts : (ts : List ℕ) {a b : List ℕ} {n : ℕ} → Wrote a 0 (counts_of ts) b n → take (n - 0) b ≡ counts_of ts
first_counts ts {b = b} {n} w = ap (λ (m : ℕ). take m b) (same n) ∙ w.text
  where
    same : (n : ℕ) → n - 0 ≡ n
    same n = omega arith
