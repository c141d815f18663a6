-- All complete ways, as a list in dictionary order. Assumes nothing.
use Prim.Native.Nat.{ℕ, zero, suc, ◌+◌, ◌≤◌, ◌<◌}
use native.Mathlib.Omega.{arith}
use native.Mathlib.Decide.{ℕ_discrete}
use mathlib.Core.Path.{◌≡◌, refl, sym, ap, ◌∙◌, subst as along}
use mathlib.Core.Bool.{Bool, true, false, cond, true≢false}
use mathlib.Core.List.Memᴰ
use mathlib.Core.List.{List, [], ◌∷◌, ◌++◌, append-nil, Memᴰ}
use mathlib.Core.Logic.{◌⊎◌, inl, inr}
use lib.ListN.{length, length-append}
use lib.Seq.{append_snoc}
use Rattle.listing.specs.Order.{Before}
use Rattle.listing.specs.Inner.Ways.{Way, Complete}
use Rattle.listing.proofs.Order.{higher_before, higher_here}
use Rattle.listing.proofs.Ways.{one_more_lem, pick_of_eight, pick_follows, no_longer}

abbrev pub Mem : List ℕ → List (List ℕ) → Type 0
Mem ps L = Memᴰ ps L

-- each comes before all that stand behind it
abbrev pub Sorted : List (List ℕ) → Type 0
Sorted [] = Unit {0}
Sorted (ps ∷ L) = ((qs : List ℕ) → Mem qs L → Before ps qs) × Sorted L

sorted_append : (L M : List (List ℕ)) → Sorted L → Sorted M → ((ps qs : List ℕ) → Mem ps L → Mem qs M → Before ps qs) → Sorted (L ++ M)
sorted_append [] M s t h = t
sorted_append (x ∷ L) M (a, s) t h = (λ qs m. by qs (Memᴰ.append_cases L m), sorted_append L M s t (λ ps qs m k. h ps qs (Memᴰ.tail m) k))
  where
    by : (qs : List ℕ) → Mem qs L ⊎ Mem qs M → Before x qs
    by qs (inl m) = a qs m
    by qs (inr m) = h x qs (Memᴰ.head refl) m

-- the list, or this alone where it is empty
unfoldable or_self : List ℕ → List (List ℕ) → List (List ℕ)
or_self ps [] = ps ∷ []
or_self ps (x ∷ L) = x ∷ L

module _ (can : List ℕ → ℕ → Bool) where
  -- the lists of the m threads from p on that can follow, one behind the other
  unfoldable children : (List ℕ → List (List ℕ)) → List ℕ → ℕ → ℕ → List (List ℕ)
  children f ps p zero = []
  children f ps p (suc m) = cond (can ps p) (f (ps ++ (p ∷ []))) [] ++ children f ps (suc p) m

  -- all complete ways that begin with these picks and have at most k more
  unfoldable pub all : ℕ → List ℕ → List (List ℕ)
  unfolding or_self children
  all zero ps = ps ∷ []
  all (suc k) ps = or_self ps (children (λ qs. all k qs) ps 0 8)

  -- what such a list is
  pub record AllOf (n : ℕ) (ps : List ℕ) (L : List (List ℕ)) : Type 0 where
    pub sound : (rs : List ℕ) → Mem rs L → Complete can n rs × (t : List ℕ) × (rs ≡ ps ++ t)
    pub each : (rs t : List ℕ) → Complete can n rs → rs ≡ ps ++ t → Mem rs L
    pub sorted : Sorted L
    pub some : (rs : List ℕ) × Mem rs L

  -- the same of those that go on with thread p or a higher one
  record Children (n : ℕ) (ps : List ℕ) (p : ℕ) (L : List (List ℕ)) : Type 0 where
    sound : (rs : List ℕ) → Mem rs L → Complete can n rs × (r : ℕ) × (t : List ℕ) × (p ≤ r) × (rs ≡ ps ++ (r ∷ t))
    each : (rs : List ℕ) (r : ℕ) (t : List ℕ) → Complete can n rs → p ≤ r → rs ≡ ps ++ (r ∷ t) → Mem rs L
    sorted : Sorted L
    some : (r : ℕ) → p ≤ r → r < 8 → can ps r ≡ true → (rs : List ℕ) × Mem rs L

  -- these picks themselves, where nothing can follow them within the bound
  self : (n : ℕ) (ps : List ℕ) → Way can ps → (length ps ≡ n) ⊎ ((p : ℕ) → p < 8 → can ps p ≡ false) → length ps ≤ n
      → ((rs : List ℕ) (r : ℕ) (t : List ℕ) → Complete can n rs → rs ≡ ps ++ (r ∷ t) → ⊥) → AllOf n ps (ps ∷ [])
  self n ps w ends most none =
      record {
        sound = λ rs m. let e =
            Memᴰ.eq_of_singleton m in (along (Complete can n) (sym e) (record { way = w; at_most = most; ends = ends }), [], e ∙ sym (append-nil ps));
        each = λ rs t c q. by rs t c q;
        sorted = (λ qs m. absurd (Memᴰ.not-nil m), tt);
        some = (ps, Memᴰ.head refl);
      }
    where
      by : (rs t : List ℕ) → Complete can n rs → rs ≡ ps ++ t → Mem rs (ps ∷ [])
      by rs [] c q = Memᴰ.head (q ∙ append-nil ps)
      by rs (r ∷ t) c q = absurd (none rs r t c q)

  module _ (n : ℕ) (ps : List ℕ) (f : List ℕ → List (List ℕ)) (w : Way can ps)
      (below : (p : ℕ) → p < 8 → can ps p ≡ true → AllOf n (ps ++ (p ∷ [])) (f (ps ++ (p ∷ [])))) where
    with_child : (p : ℕ) → p < 8 → can ps p ≡ true → (L : List (List ℕ))
        → Children n ps (suc p) L → Children n ps p (f (ps ++ (p ∷ [])) ++ L)
    with_child p b e L x =
        record {
          sound = sound;
          each = each;
          sorted = sorted_append _ L y.sorted x.sorted apart;
          some =
              λ r h k t. (y.some.0, Memᴰ.append_left L y.some.1);
        }
      where
        y : AllOf n (ps ++ (p ∷ [])) (f (ps ++ (p ∷ [])))
        y = below p b e

        behind : (rs t : List ℕ) → rs ≡ (ps ++ (p ∷ [])) ++ t → rs ≡ ps ++ (p ∷ t)
        behind rs t q = q ∙ append_snoc ps p t

        sound : (rs : List ℕ) → Mem rs (f (ps ++ (p ∷ [])) ++ L) → Complete can n rs × (r : ℕ) × (t : List ℕ) × (p ≤ r) × (rs ≡ ps ++ (r ∷ t))
        sound rs m = by (Memᴰ.append_cases (f (ps ++ (p ∷ []))) m)
          where
            by : Mem rs (f (ps ++ (p ∷ []))) ⊎ Mem rs L → Complete can n rs × (r : ℕ) × (t : List ℕ) × (p ≤ r) × (rs ≡ ps ++ (r ∷ t))
            by (inl k) = let (c, t, q) = y.sound rs k in (c, p, t, omega arith, behind rs t q)
            by (inr k) = let (c, r, t, h, q) = x.sound rs k in (c, r, t, omega arith, q)

        each : (rs : List ℕ) (r : ℕ) (t : List ℕ) → Complete can n rs → p ≤ r → rs ≡ ps ++ (r ∷ t) → Mem rs (f (ps ++ (p ∷ [])) ++ L)
        each rs r t c h q = by (ℕ_discrete p r)
          where
            by : Dec (p ≡ r) → Mem rs (f (ps ++ (p ∷ [])) ++ L)
            by (yes d) = Memᴰ.append_left L (y.each rs t c (q ∙ ap (λ (z : ℕ). ps ++ (z ∷ t)) (sym d) ∙ sym (append_snoc ps p t)))
            by (no d) = Memᴰ.append_right (f (ps ++ (p ∷ []))) (x.each rs r t c (omega (arith, h, d)) q)

        apart : (qs rs : List ℕ) → Mem qs (f (ps ++ (p ∷ []))) → Mem rs L → Before qs rs
        apart qs rs m k =
            let (c, t, q) = y.sound qs m in
            let (d, r, u, h, z) = x.sound rs k in
            rw (behind qs t q, z) (higher_before (ps ++ (p ∷ t)) (ps ++ (r ∷ u)) (higher_here ps p r t u h))

    without : (p : ℕ) → can ps p ≡ false → (L : List (List ℕ)) → Children n ps (suc p) L → Children n ps p L
    without p e L x =
        record {
          sound = λ rs m. let (c, r, t, h, q) = x.sound rs m in (c, r, t, omega arith, q);
          each = λ rs r t c h q. by rs r t c h q (ℕ_discrete p r);
          sorted = x.sorted;
          some = λ r h b t. opened r h b t (ℕ_discrete p r);
        }
      where
        by : (rs : List ℕ) (r : ℕ) (t : List ℕ) → Complete can n rs → p ≤ r → rs ≡ ps ++ (r ∷ t) → Dec (p ≡ r) → Mem rs L
        by rs r t c h q (yes d) = absurd (true≢false (sym (pick_follows can ps r t (along (Way can) q c.way)) ∙ ap (can ps) (sym d) ∙ e))
        by rs r t c h q (no d) = x.each rs r t c (omega (arith, h, d)) q

        opened : (r : ℕ) → p ≤ r → r < 8 → can ps r ≡ true → Dec (p ≡ r) → (rs : List ℕ) × Mem rs L
        opened r h b t (yes d) = absurd (true≢false (sym t ∙ ap (can ps) (sym d) ∙ e))
        opened r h b t (no d) = x.some r (omega (arith, h, d)) b t

    children_are : (p m : ℕ) → p + m ≡ 8 → Children n ps p (children f ps p m)
    unfolding children
    children_are p zero e =
        record {
          sound = λ rs m. absurd (Memᴰ.not-nil m);
          each = λ rs r t c h q. let b : r < 8 = pick_of_eight can ps r t (along (Way can) q c.way) in absurd (omega arith);
          sorted = tt;
          some = λ r h b t. absurd (omega arith);
        }
    children_are p (suc m) e = go (can ps p) refl (children f ps (suc p) m) (children_are (suc p) m (omega arith))
      where
        go : (b : Bool) → can ps p ≡ b → (L : List (List ℕ)) → Children n ps (suc p) L → Children n ps p (cond b (f (ps ++ (p ∷ []))) [] ++ L)
        go true d L x = with_child p (omega arith) d L x
        go false d L x = without p d L x

    or_self_lem : length ps ≤ n → (L : List (List ℕ)) → Children n ps 0 L → AllOf n ps (or_self ps L)
    unfolding or_self
    or_self_lem most [] x = self n ps w (inr (λ p b. shut p b (can ps p) refl)) most (λ rs r t c q. Memᴰ.not-nil (x.each rs r t c (omega arith) q))
      where
        shut : (p : ℕ) → p < 8 → (v : Bool) → can ps p ≡ v → can ps p ≡ false
        shut p b true e = absurd (Memᴰ.not-nil (x.some p (omega arith) b e).1)
        shut p b false e = e
    or_self_lem most (y ∷ L) x =
        record {
          sound = λ rs m. let (c, r, t, h, q) = x.sound rs m in (c, (r ∷ t), q);
          each = λ rs t c q. by rs t c q;
          sorted = x.sorted;
          some = (y, Memᴰ.head refl);
        }
      where
        by : (rs t : List ℕ) → Complete can n rs → rs ≡ ps ++ t → Mem rs (y ∷ L)
        by rs [] c q = let (d, r, u, h, z) =
            x.sound y (Memᴰ.head refl) in absurd (no_longer can ps y (along (Complete can n) (q ∙ append-nil ps) c) d (r, u, z))
        by rs (r ∷ t) c q = x.each rs r t c (omega arith) q

  pub all_are : (n k : ℕ) (ps : List ℕ) → Way can ps → length ps + k ≡ n → AllOf n ps (all k ps)
  unfolding all
  all_are n zero ps w e =
      self n ps w (inl (omega arith)) (omega arith) (λ rs r t c q. let h = c.at_most in omega (arith, h, ap length q, length-append ps (r ∷ t)))
  all_are n (suc k) ps w e =
      or_self_lem n ps (λ qs. all k qs) w (λ p b t. all_are n k (ps ++ (p ∷ [])) (one_more_lem can ps p w b t) (omega (arith, e, length-append ps (p ∷ []))))
      (omega arith) _
      (children_are n ps (λ qs. all k qs) w (λ p b t. all_are n k (ps ++ (p ∷ [])) (one_more_lem can ps p w b t) (omega (arith, e, length-append ps (p ∷ [])))) 0
      8 refl)
