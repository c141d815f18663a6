-- The arrows that pass the test, record by record and thread by thread, are all that are needed, in their order. Assumes nothing.
use Prim.Native.Nat.{ℕ, zero, suc, ◌-◌, ◌<◌, ◌≤◌}
use native.Mathlib.Omega.{arith}
use native.Mathlib.Decide.{ℕ_discrete}
use mathlib.Core.Path.{◌≡◌, refl, sym, subst, ◌∙◌}
use mathlib.Core.Bool.{Bool, true, false, cond}
use mathlib.Core.List.{List, [], ◌∷◌, ◌++◌}
use mathlib.Core.Logic.{◌⊎◌, inl, inr}
use lib.Dec.{T}
use lib.ListN.{length}
use Rattle.format.specs.Version.{Version}
use Rattle.log_records.specs.Record.{Record}
use Rattle.log_order.specs.Chains.{At}
use Rattle.log_order.proofs.Past.{at_within}
use Rattle.log_arrows.specs.Arrows.{Needed, Among, here, further, Before, by_record, by_thread, Ordered, none, next, AllArrows}
use Rattle.log_arrows.specs.Inner.Newest.{Heard}
use Rattle.log_arrows.specs.Inner.Implied.{is_needed, arrows_to, arrows_below}
use Rattle.log_arrows.proofs.Chains.{chain_end}
use Rattle.log_arrows.proofs.NeededArrows.{Passes, passes→, passes←, passes→needed, needed→passes}
use Rattle.log_arrows.proofs.HeardChains.{Known}

-- ---- lists

among_append : {i j : ℕ} (xs ys : List (ℕ × ℕ)) → Among i j (xs ++ ys) → Among i j xs ⊎ Among i j ys
among_append [] ys a = inr a
among_append (x ∷ xs) ys (here e g) = inl (here e g)
among_append {i} {j} (x ∷ xs) ys (further a) = go (among_append xs ys a)
  where
    go : Among i j xs ⊎ Among i j ys → Among i j (x ∷ xs) ⊎ Among i j ys
    go (inl b) = inl (further b)
    go (inr b) = inr b

pub among_left : {i j : ℕ} {xs : List (ℕ × ℕ)} (ys : List (ℕ × ℕ)) → Among i j xs → Among i j (xs ++ ys)
among_left ys (here e g) = here e g
among_left ys (further a) = further (among_left ys a)

pub among_right : {i j : ℕ} (xs : List (ℕ × ℕ)) {ys : List (ℕ × ℕ)} → Among i j ys → Among i j (xs ++ ys)
among_right [] a = a
among_right (x ∷ xs) a = further (among_right xs a)

ordered_append : {L : List Record} {xs ys : List (ℕ × ℕ)} → Ordered L xs → Ordered L ys
    → ((i j i' j' : ℕ) → Among i j xs → Among i' j' ys → Before L i j i' j') → Ordered L (xs ++ ys)
ordered_append none q f = q
ordered_append {L} {ys = ys} (next {x = x} {rest = xs} b p) q f = next first (ordered_append p q (λ i j i' j' a c. f i j i' j' (further a) c))
  where
    first : (i j : ℕ) → Among i j (xs ++ ys) → Before L x.0 x.1 i j
    first i j a = go (among_append xs ys a)
      where
        go : Among i j xs ⊎ Among i j ys → Before L x.0 x.1 i j
        go (inl c) = b i j c
        go (inr c) = f x.0 x.1 i j (here refl refl) c

-- a list with an arrow is not empty
pub among_some : {i j : ℕ} {xs : List (ℕ × ℕ)} → Among i j xs → 0 < length xs
among_some (here e g) = omega arith
among_some (further a) = omega arith

-- one arrow or none
among_one : {i j : ℕ} (d : Bool) (x : ℕ × ℕ) → Among i j (cond d (x ∷ []) []) → T d × (x.0 ≡ i) × (x.1 ≡ j)
among_one true x (here e g) = (tt, e, g)
among_one true x (further a) = absurd (omega (arith, among_some a))
among_one false x a = absurd (omega (arith, among_some a))

one_among : (d : Bool) (x : ℕ × ℕ) → T d → Among x.0 x.1 (cond d (x ∷ []) [])
one_among true x h = here refl refl
one_among false x h = absurd h

ordered_one : (L : List Record) (d : Bool) (x : ℕ × ℕ) → Ordered L (cond d (x ∷ []) [])
ordered_one L true x = next {rest = []} (λ i j a. absurd (omega (arith, among_some a))) none
ordered_one L false x = none

-- ---- the arrows to one record

-- the arrow from i to k is that of one of the first n threads to record j of thread t
pub record From (h : ℕ → ℕ → ℕ) (t j n i k : ℕ) : Type 0 where
  pub thread : ℕ
  pub below : thread < n
  pub needed : T (is_needed h t j thread)
  pub from_is : h j thread - 1 ≡ i
  pub to_is : j ≡ k

to→ : (h : ℕ → ℕ → ℕ) (t j n i k : ℕ) → Among i k (arrows_to h t j n) → From h t j n i k
unfolding arrows_to
to→ h t j zero i k a = absurd (omega (arith, among_some a))
to→ h t j (suc n) i k a = go (among_append (arrows_to h t j n) _ a) (to→ h t j n i k)
  where
    go : Among i k (arrows_to h t j n) ⊎ Among i k (cond (is_needed h t j n) ((h j n - 1, j) ∷ []) []) → (Among i k (arrows_to h t j n) → From h t j n i k)
        → From h t j (suc n) i k
    go (inl b) old =
        let d = old b in
        record { thread = d.thread; below = omega (arith, d.below); needed = d.needed; from_is = d.from_is; to_is = d.to_is }
    go (inr b) old = let d = among_one (is_needed h t j n) (h j n - 1, j) b in record {
      thread = n;
      below = omega arith;
      needed = d.0;
      from_is = d.1;
      to_is =
          d.2;
    }

to← : (h : ℕ → ℕ → ℕ) (t j n u : ℕ) → u < n → T (is_needed h t j u) → Among (h j u - 1) j (arrows_to h t j n)
unfolding arrows_to
to← h t j zero u b x = absurd (omega arith)
to← h t j (suc n) u b x = go (ℕ_discrete u n) (λ c. to← h t j n u c x)
  where
    go : Dec (u ≡ n) → (u < n → Among (h j u - 1) j (arrows_to h t j n))
        → Among (h j u - 1) j (arrows_to h t j n ++ cond (is_needed h t j n) ((h j n - 1, j) ∷ []) [])
    go (yes e) old =
        among_right (arrows_to h t j n)
        (subst (λ (w : ℕ). Among (h j w - 1) j (cond (is_needed h t j n) ((h j n - 1, j) ∷ []) [])) (sym e)
        (one_among (is_needed h t j n) (h j n - 1, j) (subst (λ (w : ℕ). T (is_needed h t j w)) e x)))
    go (no e) old = among_left _ (old (omega arith))

-- ---- the arrows to the first records

below→ : (h : ℕ → ℕ → ℕ) (t : ℕ → ℕ) (n i k : ℕ) → Among i k (arrows_below h t n) → (k < n) × From h (t k) k 8 i k
unfolding arrows_below
below→ h t zero i k a = absurd (omega (arith, among_some a))
below→ h t (suc n) i k a = go (among_append (arrows_below h t n) (arrows_to h (t n) n 8) a) (below→ h t n i k)
  where
    go : Among i k (arrows_below h t n) ⊎ Among i k (arrows_to h (t n) n 8) → (Among i k (arrows_below h t n) → (k < n) × From h (t k) k 8 i k)
        → (k < suc n) × From h (t k) k 8 i k
    go (inl b) old = let d = old b in let c = d.0 in (omega arith, d.1)
    go (inr b) old = let d = to→ h (t n) n 8 i k b in (omega (arith, d.to_is), subst (λ (m : ℕ). From h (t m) m 8 i k) d.to_is d)

below← : (h : ℕ → ℕ → ℕ) (t : ℕ → ℕ) (n i k : ℕ) → k < n → Among i k (arrows_to h (t k) k 8) → Among i k (arrows_below h t n)
unfolding arrows_below
below← h t zero i k b a = absurd (omega arith)
below← h t (suc n) i k b a = go (ℕ_discrete k n) (λ c. below← h t n i k c a)
  where
    go : Dec (k ≡ n) → (k < n → Among i k (arrows_below h t n)) → Among i k (arrows_below h t n ++ arrows_to h (t n) n 8)
    go (yes e) old = among_right (arrows_below h t n) (subst (λ (m : ℕ). Among i k (arrows_to h (t m) m 8)) e a)
    go (no e) old = among_left _ (old (omega arith))

-- ---- all of them

module _ (v : Version) (L : List Record) (h : ℕ → ℕ → ℕ) (t : ℕ → ℕ) (K : Known v L h) (threads : (j : ℕ) (r : Record) → At L j r → t j ≡ r.thread) where
  -- the record that an arrow leads from
  start : (j i : ℕ) → j < length L → (d : From h (t j) j 8 i j) → Heard v L j d.thread i
  start j i b d = (K.newest j b d.thread d.below).is_heard i ((passes→ h (t j) j d.thread d.needed).newest ∙ one_more_lem d.from_is)
    where
      one_more_lem : {m : ℕ} → m ≡ i → suc m ≡ suc i
      one_more_lem e = omega arith

  passed : (j i : ℕ) (d : From h (t j) j 8 i j) → Passes h (t j) j d.thread i
  passed j i d = subst (Passes h (t j) j d.thread) d.from_is (passes→ h (t j) j d.thread d.needed)

  sound : (n : ℕ) → n ≤ length L → (i j : ℕ) → Among i j (arrows_below h t n) → Needed v L i j
  sound n few i j a =
      let d = below→ h t n i j a in
      let c = d.0 in
      let b : j < length L = omega arith in
      let e = chain_end (start j i b d.1).chain in
      passes→needed v L h K j e.0 e.1 d.1.thread i d.1.below
      (subst (λ (x : ℕ). Passes h x j d.1.thread i) (threads j e.0 e.1) (passed j i d.1))

  whole : (i j : ℕ) → Needed v L i j → Among i j (arrows_below h t (length L))
  whole i j N =
      let l = N.arrow.linked in
      let P : Passes h (t j) j l.earlier.thread i
      = subst (λ (x : ℕ). Passes h x j l.earlier.thread i) (sym (threads j l.later l.at_j))
      (needed→passes v L h K j l.later l.at_j i l.earlier l.at_i N) in
      let m : h j l.earlier.thread - 1 ≡ i = omega (arith, P.newest) in
      below← h t (length L) i j (at_within L j l.later l.at_j)
      (subst (λ (x : ℕ). Among x j (arrows_to h (t j) j 8)) m
      (to← h (t j) j 8 l.earlier.thread (K.eight i l.earlier l.at_i) (passes← h (t j) j l.earlier.thread i P)))

  ordered_to : (j n : ℕ) → j < length L → n ≤ 8 → Ordered L (arrows_to h (t j) j n)
  unfolding arrows_to
  ordered_to j zero b c = none
  ordered_to j (suc n) b c = ordered_append (ordered_to j n b (omega arith)) (ordered_one L (is_needed h (t j) j n) (h j n - 1, j)) after
    where
      after : (i k i' k' : ℕ) → Among i k (arrows_to h (t j) j n) → Among i' k' (cond (is_needed h (t j) j n) ((h j n - 1, j) ∷ []) []) → Before L i k i' k'
      after i k i' k' a a' =
          let d = to→ h (t j) j n i k a in
          let e = among_one (is_needed h (t j) j n) (h j n - 1, j) a' in
          let x : Heard v L j d.thread i
          = start j i b (record { thread = d.thread; below = omega (arith, d.below); needed = d.needed; from_is = d.from_is; to_is = refl }) in
          let y : Heard v L j n i' = start j i' b (record { thread = n; below = omega arith; needed = e.0; from_is = e.1; to_is = refl }) in
          by_thread (sym d.to_is ∙ e.2) x.at y.at (omega (arith, x.of_thread, y.of_thread, d.below))

  ordered_below : (n : ℕ) → n ≤ length L → Ordered L (arrows_below h t n)
  unfolding arrows_below
  ordered_below zero b = none
  ordered_below (suc n) b = ordered_append (ordered_below n (omega arith)) (ordered_to n 8 (omega arith) (omega arith)) after
    where
      after : (i j i' j' : ℕ) → Among i j (arrows_below h t n) → Among i' j' (arrows_to h (t n) n 8) → Before L i j i' j'
      after i j i' j' a a' = let c = (below→ h t n i j a).0 in by_record (omega (arith, (to→ h (t n) n 8 i' j' a').to_is))

  pub all_arrows : AllArrows v L (arrows_below h t (length L))
  all_arrows = record { sound = sound (length L) (omega arith); whole = whole; ordered = ordered_below (length L) (omega arith) }
