-- A round: a procedure whose callees' costs are known gets its own, from its body's walk. Assumes nothing.
use Prim.Native.Nat.{ℕ, suc, ◌+◌, ◌^◌, ◌≤◌, ◌<◌}
use native.Mathlib.Decide.{dec_lt, ℕ_discrete}
use native.Mathlib.Omega.{arith}
use mathlib.Core.Path.{◌≡◌, refl, sym, ap, ◌∙◌, subst}
use mathlib.Core.Bool.{Bool, true, false, ◌&&◌, not, true≢false}
use mathlib.Core.List.{List}
use mathlib.Core.Logic.{◌⊎◌, inl, inr}
use lib.Bits.{bit_or, or_lt}
use lib.Dec.{eqb}
use lib.ListN.{get_or, set, get_or-eq_default, length-set, replicate}
use lib.Pow.{pow-lt}
use lib.Seq.{get_or-set_same, get_or-set_other}
use borrow.Author.Tests.{eq-eqb, ne_eqb}
use Rattle.run_keys.specs.Keys.{singleton, holds, subset}
use Rattle.run_keys.proofs.KeyLaws.{holds_empty, holds_singleton}
use Rattle.plan_packed.specs.Format.{procedures, root}
use Rattle.plan_packed.specs.Trees.{program_of}
use Rattle.plan_packed.specs.Inner.Steps.{tree_in}
use Rattle.costs.specs.Cost.{body_cost}
use Rattle.costs.specs.Calls.{called}
use Rattle.costs.specs.Inner.Leading.{leads_on}
use Rattle.costs.proofs.Below.{by_true}
use Rattle.costs.proofs.Chains.{goes, one_less}
use Rattle.costs.proofs.Fixed.{stable}
use Rattle.plan_cost_walk.specs.Inner.Walked.{capped, entry_of, walked}
use Rattle.bound.specs.Inner.Settling.{Loads, Bits, Called, Settled, Stuck}
use Rattle.bound.proofs.Counting.{counted}
use Rattle.bound.proofs.CallSets.{found, within}
use Rattle.bound.proofs.Sets.{which, has_it, grows, of_subset}
use Rattle.bound.proofs.Bodies.{few_procedures, counted_out, callee_inside, called_in, cost_in}

-- ---- the calls of a procedure

same_test : (m q : ℕ) → eqb q m ≡ eqb m q
same_test m q = go (ℕ_discrete q m)
  where
    go : Dec (q ≡ m) → eqb q m ≡ eqb m q
    go (yes e) = eq-eqb q m e ∙ sym (eq-eqb m q (sym e))
    go (no e) = ne_eqb q m e ∙ sym (ne_eqb m q (λ k. e (sym k)))

module _ {bits : List ℕ} (B : Bits 32 bits) where
  past : (m : ℕ) → 32 ≤ m → entry_of bits m ≡ 0
  past m h = get_or-eq_default bits 0 {n = m} (let e = B.size in omega arith)

  alone : (q : ℕ) → q < 32 → (m : ℕ) → holds (entry_of bits m) q ≡ eqb m q
  alone q b m = go (dec_lt m 32)
    where
      go : Dec (m < 32) → holds (entry_of bits m) q ≡ eqb m q
      go (yes h) = ap (λ (x : ℕ). holds x q) (B.each m h) ∙ holds_singleton m q ∙ same_test m q
      go (no h) = ap (λ (x : ℕ). holds x q) (past m (omega (arith, h))) ∙ holds_empty q ∙ sym (ne_eqb m q (λ e. omega (arith, h)))

  few : (m : ℕ) → entry_of bits m < 2 ^ 32
  few m = go (dec_lt m 32)
    where
      go : Dec (m < 32) → entry_of bits m < 2 ^ 32
      go (yes h) = rw (B.each m h) (pow-lt {i = m} {j = 32} h)
      go (no h) = rw (past m (omega (arith, h))) (omega arith)

  -- the set that the walk of a body comes to
  module _ {b words : List ℕ} {n : ℕ} (l : Loads b n words) (p : ℕ) (h : p < n) {t : ℕ} (e : t ≡ root b p) {c : ℕ}
      (w : c ≡ walked false (entry_of bits) 0 (tree_in words t)) where
    pub set_each : (q : ℕ) → q < 32 → holds c q ≡ called (program_of b) p q
    set_each q k = ap (λ (x : ℕ). holds x q) w ∙ found (entry_of bits) q (alone q k) (tree_in words t) 0 ∙ rw (holds_empty q) (called_in l p h e q)

    pub set_small : c < 2 ^ 32
    set_small = rw w (within (entry_of bits) 32 few (tree_in words t) 0 (omega arith))

-- ---- a procedure's cost

module _ {b words : List ℕ} {n : ℕ} (l : Loads b n words) {sets : List ℕ} (C : Called b n sets) where
  -- p's callees are known
  module _ {done : ℕ} {costs : List ℕ} (S : Settled b done costs) (p : ℕ) (h : p < n) (k : subset (get_or sets p 0) done ≡ true) where
    known : (q : ℕ) → called (program_of b) p q ≡ true → holds done q ≡ true
    known q c =
        let i = callee_inside b l.passes p q c in
        of_subset (get_or sets p 0) done q k (C.each p h q (let f = few_procedures l in let e = l.procedures_are in omega arith) ∙ c)

    ends_here : leads_on (program_of b) (suc S.depth) p ≡ false
    ends_here =
        by_true (leads_on (program_of b) (suc S.depth) p)
        (λ e. let a = goes (program_of b) S.depth p e in
        true≢false (sym a.3 ∙ S.by_depth.ends a.0 (counted_out b l.passes a.0 a.1) (known a.0 a.2)))

    ends_still : (q : ℕ) → leads_on (program_of b) S.depth q ≡ false → leads_on (program_of b) (suc S.depth) q ≡ false
    ends_still q e = by_true (leads_on (program_of b) (suc S.depth) q) (λ y. true≢false (sym (one_less (program_of b) S.depth q y) ∙ e))

    module _ {t : ℕ} (r : t ≡ root b p) {v : ℕ} (w : v ≡ walked true (entry_of costs) 0 (tree_in words t)) where
      its_cost : v ≡ capped (body_cost (program_of b) (suc S.depth) p)
      its_cost =
          w ∙ counted (entry_of costs) (body_cost (program_of b) S.depth) (tree_in words t)
          (λ q c. let y : called (program_of b) p q ≡ true =
          sym (called_in l p h r q) ∙ c in S.by_depth.costs_are q (callee_inside b l.passes p q y) (known q y)) 0 (omega arith)
          ∙ ap capped (let z = cost_in l p h r S.depth in omega arith)

      ends_all : (q : ℕ) → q < procedures b → holds (bit_or done (singleton p)) q ≡ true → leads_on (program_of b) (suc S.depth) q ≡ false
      ends_all q i d = go (which done p q d)
        where
          go : (holds done q ≡ true) ⊎ (q ≡ p) → leads_on (program_of b) (suc S.depth) q ≡ false
          go (inl y) = ends_still q (S.by_depth.ends q i y)
          go (inr y) = subst (λ (x : ℕ). leads_on (program_of b) (suc S.depth) x ≡ false) (sym y) ends_here

      costs_all : holds done p ≡ false → (q : ℕ) → q < procedures b → holds (bit_or done (singleton p)) q ≡ true
          → get_or (set costs p v) q 0 ≡ capped (body_cost (program_of b) (suc S.depth) q)
      costs_all f q i d = go (which done p q d)
        where
          go : (holds done q ≡ true) ⊎ (q ≡ p) → get_or (set costs p v) q 0 ≡ capped (body_cost (program_of b) (suc S.depth) q)
          go (inl y) =
              get_or-set_other costs p q v 0 (λ e. true≢false (sym y ∙ ap (holds done) e ∙ f))
              ∙ S.by_depth.costs_are q i y ∙ ap capped (stable (program_of b) S.depth q (S.by_depth.ends q i y))
          go (inr y) =
              subst (λ (x : ℕ). get_or (set costs p v) x 0 ≡ capped (body_cost (program_of b) (suc S.depth) x)) (sym y)
              (get_or-set_same costs p v 0 (let s = S.size in let m = few_procedures l in omega arith) ∙ its_cost)

      pub settles : holds done p ≡ false → Settled b (bit_or done (singleton p)) (set costs p v)
      settles f =
          let m = few_procedures l in
          record {
            depth = suc S.depth;
            by_depth = record { ends = ends_all; costs_are = costs_all f };
            small = or_lt 32 done (singleton p) S.small (pow-lt {i = p} {j = 32} (omega arith));
            size = length-set costs p v ∙ S.size;
          }

-- at first no procedure is known
pub none_settled : (b : List ℕ) → Settled b 0 (replicate 32 0)
none_settled b = record {
  depth = 0;
  by_depth = record {
    ends = λ p h e. absurd (true≢false (sym e ∙ holds_empty p));
    costs_are = λ p h e. absurd (true≢false (sym e ∙ holds_empty p));
  };
  small = omega arith;
  size = refl;
}

-- the set by another name
pub settled_as : {b costs : List ℕ} {d e : ℕ} → d ≡ e → Settled b d costs → Settled b e costs
settled_as {b} {costs} q s = subst (λ (x : ℕ). Settled b x costs) q s

-- ---- the procedures that a round has passed

pub record Going (b sets : List ℕ) (n before x done : ℕ) (costs : List ℕ) : Type 0 where
  pub inside : x ≤ n
  pub settled : Settled b done costs
  pub grown : before ≤ done
  pub stuck : done ≡ before → (p : ℕ) → x ≤ p → p < n → holds before p ≡ false → subset (get_or sets p 0) before ≡ false

-- the next, which is y
module _ {b words sets : List ℕ} {n before x done y : ℕ} {costs : List ℕ} (l : Loads b n words) (C : Called b n sets) (G : Going b sets n before x done costs)
    (e : y + 1 ≡ x) where
  below : y < n
  below = let i = G.inside in omega arith

  -- it is not next
  pub passes_by : (not (holds done y) && subset (get_or sets y 0) done) ≡ false → Going b sets n before y done costs
  passes_by f = record { inside = let i = G.inside in omega arith; settled = G.settled; grown = G.grown; stuck = λ d p. at d p (ℕ_discrete p y) }
    where
      refused : (z : ℕ) → (not (holds z y) && subset (get_or sets y 0) z) ≡ false → holds z y ≡ false → subset (get_or sets y 0) z ≡ false
      refused z a h = sym (ap (λ (v : Bool). not v && subset (get_or sets y 0) z) h) ∙ a

      at : done ≡ before → (p : ℕ) → Dec (p ≡ y) → y ≤ p → p < n → holds before p ≡ false → subset (get_or sets p 0) before ≡ false
      at d p (yes q) i j h =
          subst (λ (z : ℕ). subset (get_or sets z 0) before ≡ false) (sym q)
          (refused before (subst (λ (z : ℕ). (not (holds z y) && subset (get_or sets y 0) z) ≡ false) d f) (subst (λ (z : ℕ). holds before z ≡ false) q h))
      at d p (no q) i j h = G.stuck d p (omega (arith, q)) j h

  -- it is
  pub takes_in : {t v : ℕ} → t ≡ root b y → v ≡ walked true (entry_of costs) 0 (tree_in words t) → (not (holds done y) && subset (get_or sets y 0) done) ≡ true
      → Going b sets n before y (bit_or done (singleton y)) (set costs y v)
  takes_in r w f =
      let a = parted (holds done y) (subset (get_or sets y 0) done) f in
      let u = grows done (singleton y) in
      record {
        inside = let i = G.inside in omega arith;
        settled = settles l C G.settled y below a.1 r w a.0;
        grown = let i = G.grown in omega arith;
        stuck = λ d p i j h. absurd (true≢false (sym (has_it done y) ∙ ap (λ (z : ℕ). holds z y) (same d) ∙ a.0));
      }
    where
      parted : (p q : Bool) → (not p && q) ≡ true → (p ≡ false) × (q ≡ true)
      parted true q h = absurd (true≢false (sym h))
      parted false q h = (refl, h)

      same : bit_or done (singleton y) ≡ before → bit_or done (singleton y) ≡ done
      same d = let i = G.grown in let u = grows done (singleton y) in omega arith

-- all are passed
pub round_stuck : {b words sets : List ℕ} {n before x done : ℕ} {costs : List ℕ} → Loads b n words → Going b sets n before x done costs → x ≤ 0
    → done ≡ before → Stuck b sets before
round_stuck l G z d p h f = G.stuck d p (omega arith) (let e = l.procedures_are in omega arith) f
