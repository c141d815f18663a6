-- What is well placed stays so with more objects. Assumes nothing.
use Prim.Native.Nat.{ℕ, ◌≤◌}
use native.Mathlib.Omega.{arith}
use mathlib.Core.List.{List, [], ◌∷◌}
use Rattle.plan_packed.specs.Syntax.{Program}
use Rattle.plan_packed.specs.Slots.{bound}
use Rattle.rules.specs.Context.{Context, Contextᶜ, top, read, write₁, write₂, call, let_in, synch, hold, join, signal, equal₁, equal₂, Redex, Redexᶜ}
use Rattle.rules.specs.Context.{Focus, value, here, hereᶜ}
use Rattle.plan_packed.proofs.WellFormed.{unbound}
use Rattle.rules.proofs.Closing.{more, moreᶜ, moreᵃ, SlotsBelow}
use Rattle.rules.proofs.Placed.{Around, Aroundᶜ, Ready, Readyᶜ, Good}

module _ (g : Program) (n m : ℕ) (le : n ≤ m) where
  below_more : (os : List ℕ) → SlotsBelow n os → SlotsBelow m os
  below_more [] h = tt
  below_more (o ∷ os) h = (let b = h.0 in omega arith, below_more os h.1)

  mutual
    around_more : (K : Context) → Around g n K → Around g m K
    around_more top h = tt
    around_more (read K f) h = (h.0, h.1, around_more K h.2)
    around_more (write₁ K f e') h = (h.0, h.1, more g n m le unbound e' h.2, around_more K h.3)
    around_more (write₂ K o f) h = (h.0, h.1, let b = h.2 in omega arith, around_more K h.3)
    around_more (call K k os es) h = (h.0, below_more os h.1, moreᵃ g n m le unbound es h.2, around_more K h.3)
    around_more (let_in K x e') h = (more g n m le (bound x unbound) e' h.0, around_more K h.1)
    around_more (synch K e') h = (more g n m le unbound e' h.0, around_more K h.1)
    around_more (hold K o) h = (let b = h.0 in omega arith, around_more K h.1)
    around_more (join K) h = around_more K h
    around_more (signal K j) h = around_more K h
    around_more (equal₁ K e') h = (more g n m le unbound e' h.0, around_moreᶜ K h.1)
    around_more (equal₂ K o) h = (let b = h.0 in omega arith, around_moreᶜ K h.1)

    around_moreᶜ : (K : Contextᶜ) → Aroundᶜ g n K → Aroundᶜ g m K
    around_moreᶜ (Contextᶜ.if K e e') h = (more g n m le unbound e h.0, more g n m le unbound e' h.1, around_more K h.2)
    around_moreᶜ (Contextᶜ.and K c) h = (moreᶜ g n m le unbound c h.0, around_moreᶜ K h.1)
    around_moreᶜ (Contextᶜ.not K) h = around_moreᶜ K h

  ready_more : (r : Redex) → Ready g n r → Ready g m r
  ready_more (Redex.variable x) h = h
  ready_more (Redex.new fs) h = h
  ready_more (Redex.read o f) h = (h.0, h.1, let b = h.2 in omega arith)
  ready_more (Redex.write o f v) h = (h.0, h.1, (let b = h.2 in omega arith), (let b = h.3 in omega arith))
  ready_more (Redex.let_in x o e) h = ((let b = h.0 in omega arith), more g n m le (bound x unbound) e h.1)
  ready_more (Redex.if b e e') h = (more g n m le unbound e h.0, more g n m le unbound e' h.1)
  ready_more (Redex.while c e) h = (moreᶜ g n m le unbound c h.0, more g n m le unbound e h.1)
  ready_more (Redex.call k os) h = (h.0, below_more os h.1)
  ready_more (Redex.fork e) h = more g n m le unbound e h
  ready_more (Redex.join o) h = omega arith
  ready_more (Redex.synch o e) h = ((let b = h.0 in omega arith), more g n m le unbound e h.1)
  ready_more (Redex.hold o v) h = ((let b = h.0 in omega arith), (let b = h.1 in omega arith))
  ready_more (Redex.signal j o) h = omega arith
  ready_more (Redex.waiting o) h = omega arith

  ready_moreᶜ : (r : Redexᶜ) → Readyᶜ g n r → Readyᶜ g m r
  ready_moreᶜ Redexᶜ.not_false h = tt
  ready_moreᶜ (Redexᶜ.and b c) h = moreᶜ g n m le unbound c h
  ready_moreᶜ (Redexᶜ.equal o o') h = tt

  pub good_more : (F : Focus) → Good g n F → Good g m F
  good_more (value o) h = omega arith
  good_more (here K r) h = (around_more K h.0, ready_more r h.1)
  good_more (hereᶜ K r) h = (around_moreᶜ K h.0, ready_moreᶜ r h.1)
