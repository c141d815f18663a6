-- Check 6: counts, no further than two. Assumes nothing.
use mathlib.Core.Path.{◌≡◌, refl, ap, sym, ◌∙◌}
use mathlib.Core.Bool.{false, not}
use mathlib.Core.List.{List, [], ◌∷◌}
use Prim.Native.Nat.{ℕ, zero, suc, ◌+◌, ◌/◌, ◌≤◌, ◌<◌}
use native.Mathlib.Nat.{add-zero}
use native.Mathlib.Numerals.{add-one}
use native.Mathlib.Decide.{ℕ_discrete}
use native.Mathlib.Omega.{arith}
use lib.Dec.{eqb}
use lib.ListN.{get_or, set, length-set, replicate, length-replicate}
use lib.Seq.{get_or-set_same, get_or-set_other}
use borrow.Author.Tests.{eq-eqb, ne_eqb}
use Rattle.format.specs.Inner.Lowest.{Lowest}
use Rattle.format.proofs.LowestLaws.{lowest_ext}
use Rattle.plan_packed.specs.Format
use Rattle.plan_packed.specs.Format.{terms, root, table, layout, laid_out, term_at, tag_at}
use Rattle.plan_packed.specs.Inner.Operands.{tag_of}
use Rattle.plan_packed.specs.Trees.{nodes, node_of, node_at}
use Rattle.plan_packed.specs.Refusals.{sum_below, one_if, wrong_term, times_in, times_named, not_named_once}
use Rattle.plan_packed.specs.Inner.Steps.{Headed, Loaded, node_in, Child, child_of, children_of, more_of, count_all, cap, root_times, all_times, Counted}
use Rattle.plan_packed.specs.Inner.Steps.{not_once, in_word}
use Rattle.plan_packed.specs.Inner.Steps.{lower_all}
use Rattle.plan_packed.proofs.Tags.{by_tag}
use Rattle.format.proofs.Filled.{zeros}
use Rattle.plan_packed.proofs.SingleTerm.{row_of, node_in_lem}
use Rattle.plan_packed.proofs.Children.{Within, nodes_are, children_within, term_of, node_of_tag}

pub more_suc : (n : ℕ) → (n ≡ 0 → ⊥) → 2 ≡ more_of n
unfolding more_of
more_suc zero h = absurd (h refl)
more_suc (suc n) h = refl

cap_more : (n : ℕ) → more_of (cap n) ≡ cap (suc n)
unfolding more_of cap
cap_more zero = refl
cap_more (suc zero) = refl
cap_more (suc (suc n)) = refl

cap_one : (n : ℕ) → eqb (cap n) 1 ≡ eqb n 1
unfolding cap
cap_one zero = refl
cap_one (suc zero) = refl
cap_one (suc (suc n)) = sym (ne_eqb (suc (suc n)) 1 (λ q. omega arith))

counted_ext : (f g : ℕ → ℕ) (c : List ℕ) → ((t : ℕ) → f t ≡ g t) → Counted f c → Counted g c
counted_ext f g c e k = record { size = k.size; each = λ t h. k.each t h ∙ ap cap (e t) }

pub no_names : (b : List ℕ) → Counted (root_times b 0) (replicate 1024 0)
unfolding root_times sum_below cap
no_names b = record { size = length-replicate {A = ℕ} 1024 0; each = λ t h. zeros 1024 t }

once_more : (f : ℕ → ℕ) (c : List ℕ) (v : ℕ) → Counted f c → v < 1024 → Counted (λ t. f t + one_if (eqb v t)) (set c v (more_of (get_or c v 0)))
once_more f c v k h =
    record {
      size = length-set c v (more_of (get_or c v 0)) ∙ k.size;
      each = λ t q. go t q (ℕ_discrete v t);
    }
  where
    go : (t : ℕ) → t < 1024 → Dec (v ≡ t) → get_or (set c v (more_of (get_or c v 0))) t 0 ≡ cap (f t + one_if (eqb v t))
    go t q (yes e) =
        rw (← e)
        (get_or-set_same c v (more_of (get_or c v 0)) 0 (let s = k.size in omega arith)
        ∙ rw (k.each v h, eq-eqb v v refl, add-one) (cap_more (f v)))
    go t q (no n) = get_or-set_other c v t (more_of (get_or c v 0)) 0 (λ q. n (sym q)) ∙ rw (ne_eqb v t n, add-zero) (k.each t q)

-- how often these name term t
unfoldable pub times_of : List Child → ℕ → ℕ
times_of [] t = 0
times_of (k ∷ ks) t = one_if (eqb k.index t) + times_of ks t

count_all_lem : (ks : List Child) (f : ℕ → ℕ) (c : List ℕ) → Within 1024 ks → Counted f c → Counted (λ t. f t + times_of ks t) (count_all ks c)
unfolding count_all times_of
count_all_lem [] f c z k = counted_ext f (λ t. f t + 0) c (λ t. omega arith) k
count_all_lem (x ∷ ks) f c z k =
    let g : ℕ → ℕ = λ t. f t + one_if (eqb x.index t) in
    counted_ext (λ t. g t + times_of ks t) (λ t. f t + times_of (x ∷ ks) t) _ (λ t. omega arith)
    (count_all_lem ks g (set c x.index (more_of (get_or c x.index 0))) z.1 (once_more f c x.index k z.0))

pub no_terms : (b : List ℕ) (procedures : ℕ) (c : List ℕ) → procedures ≡ Format.procedures b → Counted (root_times b procedures) c → Counted (all_times b 0) c
unfolding root_times all_times sum_below
no_terms b procedures c e k = counted_ext _ _ c (λ t. rw e (sym (add-zero _))) k

pub root_step : (b : List ℕ) (p v : ℕ) (c c' : List ℕ) → v ≡ root b p → root b p < 1024 → c' ≡ count_all (child_of 1 v ∷ []) c → Counted (root_times b p) c
    → Counted (root_times b (suc p)) c'
unfolding root_times sum_below times_of
root_step b p v c c' e h q k =
    rw q
    (counted_ext (λ t. root_times b p t + times_of (child_of 1 v ∷ []) t) (root_times b (suc p)) _ (λ t. rw (e, add-zero))
    (count_all_lem (child_of 1 v ∷ []) (root_times b p) c (rw e h, tt) k))

times_are : (t x y z s k : ℕ) → times_in (term_of k x y z s) t ≡ times_of (children_of (node_of_tag k x y z)) t
unfolding times_in times_of children_of nodes layout table
times_are t x y z s k =
    by_tag (λ k. times_in (term_of k x y z s) t ≡ times_of (children_of (node_of_tag k x y z)) t)
    (omega arith)
    (omega arith)
    (omega arith)
    (omega arith)
    (omega arith)
    (omega arith)
    (omega arith)
    (omega arith)
    (omega arith)
    (omega arith)
    (omega arith)
    (omega arith)
    (omega arith)
    (omega arith)
    (omega arith)
    (omega arith)
    (omega arith)
    (omega arith)
    (omega arith)
    (omega arith)
    (omega arith)
    (λ j. omega arith) k

pub term_times : (b : List ℕ) (u t : ℕ) → times_in (term_at b u) t ≡ times_of (children_of (node_at b u)) t
unfolding term_at laid_out node_at node_of
term_times b u t = times_are t _ _ _ _ (tag_at b u)

pub within_more : (n m : ℕ) (ks : List Child) → n ≤ m → Within n ks → Within m ks
within_more n m [] h z = tt
within_more n m (k ∷ ks) h z = (omega (arith, z.0), within_more n m ks h z.1)

-- the counts of a term's children, each once more
pub term_step : (b : List ℕ) (procedures n u : ℕ) (ws c c' : List ℕ) → Loaded b n ws → Headed b procedures n → wrong_term b u ≡ false → u < n
    → c' ≡ count_all (children_of (node_in ws u)) c → Counted (all_times b u) c → Counted (all_times b (suc u)) c'
unfolding all_times sum_below
term_step b procedures n u ws c c' d z h q e k =
    let ks = children_of (node_at b u) in
    let i : node_in ws u ≡ node_at b u = nodes_are b n ws d u q in
    rw (e, i)
    (counted_ext (λ t. all_times b u t + times_of ks t) (all_times b (suc u)) _ (λ t. omega (arith, term_times b u t))
    (count_all_lem ks (all_times b u) c (within_more n 1024 ks z.few (children_within b procedures n u z.sized h)) k))

-- the lowest that is not counted once is the lowest that is not named once
pub all_names : (b : List ℕ) (n r : ℕ) (c : List ℕ) → n ≡ terms b → n ≤ 1024 → Counted (all_times b n) c → Lowest (not_once c) n r → Lowest (not_named_once b) n r
unfolding not_once not_named_once times_named all_times
all_names b n r c e h k l = lowest_ext (not_once c) (not_named_once b) n r (λ t q. ap not (once t (omega arith))) l
  where
    once : (t : ℕ) → t < 1024 → eqb (get_or c t 0) 1 ≡ eqb (times_named b t) 1
    once t q = rw (k.each t q) (cap_one (all_times b n t) ∙ ap (λ (m : ℕ). eqb (all_times b m t) 1) e)

-- ---- the children of a term of the array

pub named : (ws : List ℕ) (t k best r : ℕ) (c c' : List ℕ) → tag_of (get_or ws t 0) ≡ k → r ≡ lower_all ws (children_of (row_of k (get_or ws t 0))) best
    → c' ≡ count_all (children_of (row_of k (get_or ws t 0))) c
    → (r ≡ lower_all ws (children_of (node_in ws t)) best) × (c' ≡ count_all (children_of (node_in ws t)) c)
named ws t k best r c c' e p q = rw (node_in_lem ws t k e) (p, q)
