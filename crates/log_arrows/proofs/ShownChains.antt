-- What a picture shows by the threads' lines and the needed arrows is happens-before, whole. Assumes nothing.
use Prim.Native.Nat.{ℕ, zero, suc, ◌+◌, ◌-◌, ◌<◌, ◌≤◌}
use native.Mathlib.Omega.{arith}
use native.Mathlib.Decide.{ℕ_discrete}
use mathlib.Core.Path.{◌≡◌, refl, sym, subst, ◌∙◌}
use mathlib.Core.List.{List}
use mathlib.Core.Logic.{◌⊎◌, inl, inr, ◌↔◌}
use Rattle.format.specs.Version.{Version}
use Rattle.log_records.specs.Record.{Record}
use Rattle.log_order.specs.Chains.{At, Chain, one}
use Rattle.log_order.proofs.Past.{at_within}
use Rattle.log_arrows.specs.Arrows.{Shown, line, arrow, on}
use Rattle.log_arrows.specs.Inner.Newest.{Heard}
use Rattle.log_arrows.proofs.Chains.{chain_before, chain_on, chain_start, chain_end, thread_chain}
use Rattle.log_arrows.proofs.HeardChains.{heard_at, Known, known}
use Rattle.log_arrows.proofs.NeededArrows.{Implies, Passes, passes_or_implied, passes→needed}

shown→chain : {v : Version} {L : List Record} {i j : ℕ} → Shown v L i j → Chain v L i j
shown→chain {v} {L} {i} {j} (line {r = r} {s = s} a b e h) = thread_chain v L i j r s a b e h
shown→chain (arrow n) = one n.arrow.linked
shown→chain (on x y) = chain_on (shown→chain x) (shown→chain y)

module _ (v : Version) (L : List Record) (h : ℕ → ℕ → ℕ) (K : Known v L h) where
  -- a chain between two threads goes by the newest record of the first that the last record has heard of
  module _ (n i j : ℕ) (near : j ≤ i + suc n) (shorter : (a b : ℕ) → b ≤ a + n → Chain v L a b → Shown v L a b) (w r : Record)
      (at_i : At L i w) (at_j : At L j r) (apart : w.thread ≡ r.thread → ⊥) (c : Chain v L i j) where
    abbrev u : ℕ
    u = w.thread

    few : u < 8
    few = K.eight i w at_i

    abbrev m : ℕ
    m = h j u - 1

    below : i < h j u
    below = (K.newest j (at_within L j r at_j) u few).none_newer i (record { by = w; at = at_i; of_thread = refl; chain = c })

    newest : h j u ≡ suc m
    newest = omega (arith, below)

    top : Heard v L j u m
    top = (K.newest j (at_within L j r at_j) u few).is_heard m newest

    -- through another thread's newest record
    through : (x : ℕ) → x < 8 → Implies h j u x → Shown v L m j
    through x b y = on (shorter m k (omega (arith, chain_before d.chain, below)) first) (shorter k j (omega (arith, chain_before first, below)) d.chain)
      where
        k : ℕ
        k = h j x - 1

        d : Heard v L j x k
        d = (K.newest j (at_within L j r at_j) x b).is_heard k (omega (arith, y.some))

        q : Heard v L k u (h k u - 1)
        q = (K.newest k (at_within L k d.by d.at) u few).is_heard (h k u - 1) (omega (arith, y.has, below))

        first : Chain v L m k
        first = go (ℕ_discrete (h k u - 1) m)
          where
            go : Dec (h k u - 1 ≡ m) → Chain v L m k
            go (yes e) = subst (λ (z : ℕ). Chain v L z k) e q.chain
            go (no e) =
                chain_on (thread_chain v L m (h k u - 1) top.by q.by top.at q.at (top.of_thread ∙ sym q.of_thread)
                (omega (arith, y.has, below))) q.chain

    last : Shown v L m j
    last = go (passes_or_implied h r.thread j u m apart newest)
      where
        go : Passes h r.thread j u m ⊎ ((x : ℕ) × (x < 8) × Implies h j u x) → Shown v L m j
        go (inl P) = arrow (passes→needed v L h K j r at_j u m few P)
        go (inr (x, b, y)) = through x b y

    between : Shown v L i j
    between = go (ℕ_discrete i m)
      where
        go : Dec (i ≡ m) → Shown v L i j
        go (yes e) = subst (λ (z : ℕ). Shown v L z j) (sym e) last
        go (no e) = on (line at_i top.at (sym top.of_thread) (omega (arith, below))) last

  chain→shown : (n i j : ℕ) → j ≤ i + n → Chain v L i j → Shown v L i j
  chain→shown zero i j b c = absurd (omega (arith, chain_before c))
  chain→shown (suc n) i j b c = go (chain_start c) (chain_end c) (chain→shown n)
    where
      go : (w : Record) × At L i w → (r : Record) × At L j r → ((a b : ℕ) → b ≤ a + n → Chain v L a b → Shown v L a b) → Shown v L i j
      go (w, x) (r, y) shorter = which (ℕ_discrete w.thread r.thread)
        where
          which : Dec (w.thread ≡ r.thread) → Shown v L i j
          which (yes e) = line x y e (chain_before c)
          which (no e) = between n i j b shorter w r x y e c

-- a record comes before another exactly where the picture shows a way
pub shown_chains : (v : Version) (L : List Record) → ((i : ℕ) (w : Record) → At L i w → w.thread < 8) → (i j : ℕ) → Chain v L i j ↔ Shown v L i j
shown_chains v L eight i j = (chain→shown v L (heard_at v L) (known v L eight) j i j (omega arith), shown→chain)
