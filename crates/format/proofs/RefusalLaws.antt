-- What a refusal says: the first check that refuses, at its lowest place; and none, that no check is wrong anywhere. Assumes nothing.
use Prim.Native.Nat.{ℕ, zero, suc, ◌<◌}
use native.Mathlib.Decide.{ℕ_discrete}
use native.Mathlib.Omega.{arith}
use mathlib.Core.Logic.{◌↔◌}
use mathlib.Core.Path.{◌≡◌, refl, ap, sym, subst, ◌∙◌}
use mathlib.Core.Bool.{Bool, true, false, cond, ◌||◌}
use mathlib.Core.List.{List, [], ◌∷◌, ◌++◌}
use mathlib.Core.Option.{Option, some, none, or_else, none-ne-some}
use Rattle.format.specs.Refusal.{Refusal, Check, lowest, refuse, first_refusal}

-- ---- two tests, two answers

-- two tests of which none passes
pub neither : (x y : Bool) → (x || y) ≡ false → (x ≡ false) × (y ≡ false)
neither true y h = (h, cc)
neither false y h = (refl, h)

-- two answers that are both none
pub both_none : {A : Type 0} (x y : Option A) → or_else x y ≡ none → (x ≡ none) × (y ≡ none)
unfolding or_else
both_none none y e = (refl, e)
both_none (some w) y e = absurd (none-ne-some w (sym e))

-- ---- the lowest place

pub none_below : (f : ℕ → Bool) (n : ℕ) → ((k : ℕ) → k < n → f k ≡ false) → lowest f n ≡ none
unfolding lowest or_else
none_below f zero h = refl
none_below f (suc n) h = rw (none_below f n (λ k q. h k (omega arith)), h n (omega arith))

pub at_first : (f : ℕ → Bool) (n r : ℕ) → r < n → f r ≡ true → ((k : ℕ) → k < r → f k ≡ false) → lowest f n ≡ some r
unfolding lowest or_else
at_first f zero r h e b = absurd (omega arith)
at_first f (suc n) r h e b = go (at_first f n r) (ℕ_discrete r n)
  where
    go : (r < n → f r ≡ true → ((k : ℕ) → k < r → f k ≡ false) → lowest f n ≡ some r) → Dec (r ≡ n) → lowest f (suc n) ≡ some r
    go i (yes q) = rw (none_below f n (λ k p. b k (omega arith)), ← q, e)
    go i (no q) = rw (i (omega (arith, q)) e b)

pub lowest_none : (f : ℕ → Bool) (n : ℕ) → lowest f n ≡ none → (j : ℕ) → j < n → f j ≡ false
unfolding lowest or_else
lowest_none f zero h j q = absurd (omega arith)
lowest_none f (suc n) h j q = go (λ e p. lowest_none f n e j p) (lowest f n) refl (f n) refl h
  where
    go : (lowest f n ≡ none → j < n → f j ≡ false) → (o : Option ℕ) → lowest f n ≡ o → (x : Bool) → f n ≡ x → or_else o (cond x (some n) none) ≡ none
        → f j ≡ false
    go i (some k) e x g w = absurd (none-ne-some _ (sym w))
    go i none e true g w = absurd (none-ne-some _ (sym w))
    go i none e false g w = pick (ℕ_discrete j n)
      where
        pick : Dec (j ≡ n) → f j ≡ false
        pick (yes p) = ap f p ∙ g
        pick (no p) = i e (omega (arith, p))

pub lowest_some : (f : ℕ → Bool) (n i : ℕ) → lowest f n ≡ some i → (i < n) × (f i ≡ true) × ((j : ℕ) → j < i → f j ≡ false)
unfolding lowest or_else
lowest_some f zero i h = absurd (none-ne-some _ h)
lowest_some f (suc n) i h = go (lowest_some f n i) (lowest f n) refl (f n) refl h
  where
    go : (lowest f n ≡ some i → (i < n) × (f i ≡ true) × ((j : ℕ) → j < i → f j ≡ false)) → (o : Option ℕ) → lowest f n ≡ o → (x : Bool) → f n ≡ x
        → or_else o (cond x (some n) none) ≡ some i → (i < suc n) × (f i ≡ true) × ((j : ℕ) → j < i → f j ≡ false)
    go r (some k) e x g w = let z = r (e ∙ w) in (omega (arith, z.0), z.1, z.2)
    go r none e true g w = let q : n ≡ i = cc in (omega arith, ap f (sym q) ∙ g, λ j p. lowest_none f n e j (omega arith))
    go r none e false g w = absurd (none-ne-some _ w)

-- ---- refusals as relations

-- check c is wrong at place i, and at no lower place
pub record Refuses (c : Check) (i : ℕ) : Type 0 where
  pub inside : i < c.places
  pub is_wrong : c.wrong i ≡ true
  pub is_lowest : (j : ℕ) → j < i → c.wrong j ≡ false

-- check c is wrong at no place
pub record Passes (c : Check) : Type 0 where
  pub right : (j : ℕ) → j < c.places → c.wrong j ≡ false

-- r is the refusal of the first check that refuses
pub data First : List Check → Refusal → Type 0 where
  here : {c : Check} {cs : List Check} {i : ℕ} → Refuses c i → First (c ∷ cs) (record { number = c.number; place = i })
  later : {c : Check} {cs : List Check} {r : Refusal} → Passes c → First cs r → First (c ∷ cs) r

-- no check refuses
pub data AllPass : List Check → Type 0 where
  none_left : AllPass []
  and_then : {c : Check} {cs : List Check} → Passes c → AllPass cs → AllPass (c ∷ cs)

pub head_pass : {c : Check} {cs : List Check} → AllPass (c ∷ cs) → Passes c
head_pass (and_then p q) = p

pub tail_pass : {c : Check} {cs : List Check} → AllPass (c ∷ cs) → AllPass cs
tail_pass (and_then p q) = q

-- ---- the function gives the relations

to_first : (cs : List Check) (r : Refusal) → first_refusal cs ≡ some r → First cs r
unfolding first_refusal refuse
to_first [] r h = absurd (none-ne-some _ h)
to_first (c ∷ cs) r h = go (to_first cs r) (lowest c.wrong c.places) refl h
  where
    go : (first_refusal cs ≡ some r → First cs r) → (o : Option ℕ) → lowest c.wrong c.places ≡ o → refuse c.number o (first_refusal cs) ≡ some r
        → First (c ∷ cs) r
    go i none e w = later (record { right = lowest_none c.wrong c.places e }) (i w)
    go i (some k) e w =
        let z = lowest_some c.wrong c.places k e in
        let q : record { number = c.number; place = k } ≡ r = cc in
        subst (First (c ∷ cs)) q (here (record { inside = z.0; is_wrong = z.1; is_lowest = z.2 }))

of_first : {cs : List Check} {r : Refusal} → First cs r → first_refusal cs ≡ some r
unfolding first_refusal refuse
of_first (here {c} {cs} {i} h) = rw (at_first c.wrong c.places i h.inside h.is_wrong h.is_lowest)
of_first (later {c} {cs} {r} p f) = rw (none_below c.wrong c.places p.right) (of_first f)

to_pass : (cs : List Check) → first_refusal cs ≡ none → AllPass cs
unfolding first_refusal refuse
to_pass [] h = none_left
to_pass (c ∷ cs) h = go (to_pass cs) (lowest c.wrong c.places) refl h
  where
    go : (first_refusal cs ≡ none → AllPass cs) → (o : Option ℕ) → lowest c.wrong c.places ≡ o → refuse c.number o (first_refusal cs) ≡ none
        → AllPass (c ∷ cs)
    go i none e w = and_then (record { right = lowest_none c.wrong c.places e }) (i w)
    go i (some k) e w = absurd (none-ne-some _ (sym w))

of_pass : {cs : List Check} → AllPass cs → first_refusal cs ≡ none
unfolding first_refusal refuse
of_pass none_left = refl
of_pass (and_then {c} {cs} p f) = rw (none_below c.wrong c.places p.right) (of_pass f)

-- a refusal is that of the first check that refuses
pub some_is_first : (cs : List Check) (r : Refusal) → (first_refusal cs ≡ some r) ↔ First cs r
some_is_first cs r = (to_first cs r, of_first)

-- a refusal of another number than the first check's is a later check's
pub other_number_lem : {c : Check} {cs : List Check} {r : Refusal} → First (c ∷ cs) r → (c.number ≡ r.number → ⊥) → Passes c × First cs r
other_number_lem (here h) n = absurd (n refl)
other_number_lem (later p f) n = (p, f)

-- a refusal by the last check
pub last_refuses : {c : Check} {r : Refusal} → First (c ∷ []) r → Refuses c r.place
unfolding first_refusal
last_refuses (here h) = h
last_refuses (later p f) = absurd (none-ne-some _ (of_first f))

-- no refusal means that every check passes
pub none_is_pass : (cs : List Check) → (first_refusal cs ≡ none) ↔ AllPass cs
none_is_pass cs = (to_pass cs, of_pass)

-- checks after others are asked where the others pass
pub refusal_append : (cs ds : List Check) → first_refusal (cs ++ ds) ≡ or_else (first_refusal cs) (first_refusal ds)
unfolding first_refusal or_else refuse
refusal_append [] ds = refl
refusal_append (c ∷ cs) ds = rw (refusal_append cs ds) (go (lowest c.wrong c.places))
  where
    go : (o : Option ℕ) → refuse c.number o (or_else (first_refusal cs) (first_refusal ds)) ≡ or_else (refuse c.number o (first_refusal cs)) (first_refusal ds)
    go none = refl
    go (some i) = refl
