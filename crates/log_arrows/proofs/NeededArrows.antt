-- The test of what each record has heard decides which arrows are needed. Assumes nothing.
use Prim.Native.Nat.{ℕ, zero, suc, ◌-◌, ◌<◌, ◌≤◌}
use native.Mathlib.Omega.{arith}
use native.Mathlib.Decide.{ℕ_discrete}
use mathlib.Core.Path.{◌≡◌, refl, sym, ap, subst, ◌∙◌}
use mathlib.Core.Bool.{Bool, true, false, not, ◌&&◌}
use mathlib.Core.List.{List}
use mathlib.Core.Logic.{◌⊎◌, inl, inr}
use lib.Dec.{T, T_not, not_T, eqb, ltb, leb, eqb→eq, ltb→lt, lt→ltb, leb→le, le→leb}
use lib.ListN.{length}
use mir.Facts.{and_yes, yes_and, or_yes, yes_eqb}
use Rattle.format.specs.Version.{Version}
use Rattle.log_records.specs.Record.{Record}
use Rattle.log_order.specs.Chains.{At, Linked, Chain, one}
use Rattle.log_order.proofs.Past.{at_within}
use Rattle.log_order.proofs.Tests.{or←}
use Rattle.log_arrows.specs.Arrows.{Needed}
use Rattle.log_arrows.specs.Inner.Newest.{Heard}
use Rattle.log_arrows.specs.Inner.Implied.{implied_by, implied, is_needed}
use Rattle.log_arrows.proofs.HeardChains.{Known}
use Rattle.log_arrows.proofs.Chains.{chain_before, chain_on, chain_start, chain_one, at_once, thread_chain}

-- ---- the tests as facts

pub record Implies (h : ℕ → ℕ → ℕ) (j u w : ℕ) : Type 0 where
  pub another : w ≡ u → ⊥
  pub some : 0 < h j w
  pub has : h j u ≤ h (h j w - 1) u

by→ : (h : ℕ → ℕ → ℕ) (j u w : ℕ) → T (implied_by h j u w) → Implies h j u w
by→ h j u w x =
    let d = and_yes (not (eqb w u) && ltb 0 (h j w)) (leb (h j u) (h (h j w - 1) u)) x in
    let e = and_yes (not (eqb w u)) (ltb 0 (h j w)) d.0 in
    record { another = λ q. T_not (eqb w u) e.0 (yes_eqb q); some = ltb→lt 0 (h j w) e.1; has = leb→le (h j u) (h (h j w - 1) u) d.1 }

by← : (h : ℕ → ℕ → ℕ) (j u w : ℕ) → Implies h j u w → T (implied_by h j u w)
by← h j u w d =
    yes_and (not (eqb w u) && ltb 0 (h j w)) (leb (h j u) (h (h j w - 1) u))
    (yes_and (not (eqb w u)) (ltb 0 (h j w)) (not_T (eqb w u) (λ q. d.another (eqb→eq w u q))) (lt→ltb 0 (h j w) d.some))
    (le→leb (h j u) (h (h j w - 1) u) d.has)

implied→ : (h : ℕ → ℕ → ℕ) (j u n : ℕ) → T (implied h j u n) → (w : ℕ) × (w < n) × Implies h j u w
unfolding implied
implied→ h j u zero x = absurd x
implied→ h j u (suc n) x = go (or_yes (implied h j u n) (implied_by h j u n) x) (implied→ h j u n)
  where
    go : T (implied h j u n) ⊎ T (implied_by h j u n) → (T (implied h j u n) → (w : ℕ) × (w < n) × Implies h j u w) → (w : ℕ) × (w < suc n) × Implies h j u w
    go (inl y) below = let d = below y in let b = d.1 in (d.0, omega arith, d.2)
    go (inr y) below = (n, omega arith, by→ h j u n y)

implied← : (h : ℕ → ℕ → ℕ) (j u n w : ℕ) → w < n → Implies h j u w → T (implied h j u n)
unfolding implied
implied← h j u zero w b d = absurd (omega arith)
implied← h j u (suc n) w b d = or← (implied h j u n) (implied_by h j u n) (go (ℕ_discrete w n) (λ c. implied← h j u n w c d))
  where
    go : Dec (w ≡ n) → (w < n → T (implied h j u n)) → T (implied h j u n) ⊎ T (implied_by h j u n)
    go (yes e) below = inr (subst (λ (k : ℕ). T (implied_by h j u k)) e (by← h j u w d))
    go (no e) below = inl (below (omega arith))

-- the arrow from the newest record of thread u, m, to record j of thread t passes the test
pub record Passes (h : ℕ → ℕ → ℕ) (t j u m : ℕ) : Type 0 where
  pub two_threads : u ≡ t → ⊥
  pub newest : h j u ≡ suc m
  pub not_implied : (w : ℕ) → w < 8 → Implies h j u w → ⊥

pub passes→ : (h : ℕ → ℕ → ℕ) (t j u : ℕ) → T (is_needed h t j u) → Passes h t j u (h j u - 1)
unfolding is_needed
passes→ h t j u x =
    let d = and_yes (not (eqb u t) && ltb 0 (h j u)) (not (implied h j u 8)) x in
    let e = and_yes (not (eqb u t)) (ltb 0 (h j u)) d.0 in
    record {
      two_threads = λ q. T_not (eqb u t) e.0 (yes_eqb q);
      newest = omega (arith, ltb→lt 0 (h j u) e.1);
      not_implied = λ w b y. T_not (implied h j u 8) d.1 (implied← h j u 8 w b y);
    }

pub passes← : (h : ℕ → ℕ → ℕ) (t j u m : ℕ) → Passes h t j u m → T (is_needed h t j u)
unfolding is_needed
passes← h t j u m d =
    yes_and (not (eqb u t) && ltb 0 (h j u)) (not (implied h j u 8))
    (yes_and (not (eqb u t)) (ltb 0 (h j u)) (not_T (eqb u t) (λ q. d.two_threads (eqb→eq u t q))) (lt→ltb 0 (h j u) (omega (arith, d.newest))))
    (not_T (implied h j u 8) (λ x. let y = implied→ h j u 8 x in d.not_implied y.0 y.1 y.2))

-- an arrow from another thread passes it, or a thread's newest record implies it
pub passes_or_implied : (h : ℕ → ℕ → ℕ) (t j u m : ℕ) → (u ≡ t → ⊥) → h j u ≡ suc m → Passes h t j u m ⊎ ((w : ℕ) × (w < 8) × Implies h j u w)
passes_or_implied h t j u m n e = go (implied h j u 8) refl
  where
    go : (d : Bool) → implied h j u 8 ≡ d → Passes h t j u m ⊎ ((w : ℕ) × (w < 8) × Implies h j u w)
    go true q = inr (implied→ h j u 8 (rw q tt))
    go false q = inl (record { two_threads = n; newest = e; not_implied = λ w b y. let z : T (implied h j u 8) = implied← h j u 8 w b y in rw q at z })

-- ---- they are the needed arrows

module _ (v : Version) (L : List Record) (h : ℕ → ℕ → ℕ) (K : Known v L h) (j : ℕ) (r : Record) (here : At L j r) where
  within : j < length L
  within = at_within L j r here

  -- a record that a record up to the newest of its thread has heard of, that has heard too
  hears : (u i k w m : ℕ) (s : Record) → u < 8 → Heard v L k u i → At L k s → s.thread ≡ w → Heard v L j w m → k ≤ m → i < h m u
  hears u i k w m s b a at of d c =
      (K.newest m (at_within L m d.by d.at) u b).none_newer i (record { by = a.by; at = a.at; of_thread = a.of_thread; chain = go (ℕ_discrete k m) })
    where
      go : Dec (k ≡ m) → Chain v L i m
      go (yes e) = subst (Chain v L i) e a.chain
      go (no n) = chain_on a.chain (thread_chain v L k m s d.by at d.at (of ∙ sym d.of_thread) (omega arith))

  pub passes→needed : (u m : ℕ) → u < 8 → Passes h r.thread j u m → Needed v L m j
  passes→needed u m b P = record { arrow = record { linked = linked; two_threads = apart }; none_between = between }
    where
      d : Heard v L j u m
      d = (K.newest j within u b).is_heard m P.newest

      between : (k : ℕ) → Chain v L m k → Chain v L k j → ⊥
      between k x y = go (ℕ_discrete s.0.thread u)
        where
          s : (s : Record) × At L k s
          s = chain_start y

          w : ℕ
          w = s.0.thread

          few : w < 8
          few = K.eight k s.0 s.1

          below : k < h j w
          below = (K.newest j within w few).none_newer k (record { by = s.0; at = s.1; of_thread = refl; chain = y })

          go : Dec (w ≡ u) → ⊥
          go (yes e) =
              let c : k < h j u = subst (λ (t : ℕ). k < h j t) e below in
              let f : m < k = chain_before x in
              omega (arith, P.newest)
          go (no n) =
              let top : Heard v L j w (h j w - 1) = (K.newest j within w few).is_heard (h j w - 1) (omega (arith, below)) in
              let f : m < h (h j w - 1) u
              = hears u m k w (h j w - 1) s.0 b (record { by = d.by; at = d.at; of_thread = d.of_thread; chain = x }) s.1 refl top
              (omega (arith, below)) in
              P.not_implied w few (record { another = n; some = omega (arith, below); has = omega (arith, P.newest) })

      linked : Linked v L m j
      linked = chain_one between d.chain

      apart : linked.earlier.thread ≡ linked.later.thread → ⊥
      apart e =
          P.two_threads
          (sym d.of_thread ∙ ap (λ (x : Record). x.thread) (at_once L m d.by linked.earlier d.at linked.at_i) ∙ e
          ∙ ap (λ (x : Record). x.thread) (at_once L j linked.later r linked.at_j here))

  pub needed→passes : (i : ℕ) (w : Record) → At L i w → Needed v L i j → Passes h r.thread j w.thread i
  needed→passes i w at N = record { two_threads = apart; newest = newest; not_implied = free }
    where
      l : Linked v L i j
      l = N.arrow.linked

      u : ℕ
      u = w.thread

      few : u < 8
      few = K.eight i w at

      apart : u ≡ r.thread → ⊥
      apart e =
          N.arrow.two_threads
          (ap (λ (x : Record). x.thread) (at_once L i l.earlier w l.at_i at) ∙ e
          ∙ ap (λ (x : Record). x.thread) (at_once L j r l.later here l.at_j))

      below : i < h j u
      below = (K.newest j within u few).none_newer i (record { by = w; at = at; of_thread = refl; chain = one l })

      -- the newest of a thread that has a record from i on, if i has no chain through it, is i
      only : (k m : ℕ) → Heard v L k u m → i ≤ m → (Chain v L i m → ⊥) → m ≡ i
      only k m d c n = go (ℕ_discrete m i)
        where
          go : Dec (m ≡ i) → m ≡ i
          go (yes e) = e
          go (no x) = absurd (n (thread_chain v L i m w d.by at d.at (sym d.of_thread) (omega arith)))

      newest : h j u ≡ suc i
      newest =
          let d : Heard v L j u (h j u - 1) = (K.newest j within u few).is_heard (h j u - 1) (omega (arith, below)) in
          omega (arith, below, only j (h j u - 1) d (omega (arith, below)) (λ c. N.none_between (h j u - 1) c d.chain))

      free : (x : ℕ) → x < 8 → Implies h j u x → ⊥
      free x b y = N.none_between m c d.chain
        where
          m : ℕ
          m = h j x - 1

          d : Heard v L j x m
          d = (K.newest j within x b).is_heard m (omega (arith, y.some))

          q : Heard v L m u (h m u - 1)
          q = (K.newest m (at_within L m d.by d.at) u few).is_heard (h m u - 1) (omega (arith, y.has, below))

          c : Chain v L i m
          c = go (ℕ_discrete (h m u - 1) i)
            where
              go : Dec (h m u - 1 ≡ i) → Chain v L i m
              go (yes e) = subst (λ (k : ℕ). Chain v L k m) e q.chain
              go (no n) = chain_on (thread_chain v L i (h m u - 1) w q.by at q.at (sym q.of_thread) (omega (arith, y.has, below))) q.chain
