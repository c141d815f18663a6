-- The whole list: from the first schedule on by the following one, every listed schedule comes exactly once, in order, and then the list is over. Assumes
-- nothing.
use Prim.Native.Nat.{ℕ, zero, suc, ◌<◌}
use native.Mathlib.Omega.{arith}
use mathlib.Core.Path.{◌≡◌, refl, sym, ap, subst as along}
use mathlib.Core.Bool.{true≢false}
use mathlib.Core.List.Memᴰ
use mathlib.Core.List.{List, [], ◌∷◌}
use mathlib.Core.Logic.{◌⊎◌, inl, inr}
use mathlib.Core.Option.{Option, some}
use native.Mathlib.Decide.{dec_lt}
use lib.ListN.{length, get_elem?}
use Rattle.plan_packed.specs.Syntax.{Program}
use Rattle.listing.specs.Order.{Before, AtMost}
use Rattle.listing.specs.Listed.{Listed, First, Following, Over}
use Rattle.listing.specs.WholeList.{GoesOn, OVER, NEXT, Begins, FIRST, WholeList}
use Rattle.listing.specs.Inner.CanFollow.{can_follow}
use Rattle.listing.proofs.Order.{irreflexive, transitive, one_least, one_least_above}
use Rattle.listing.proofs.Ways.{no_picks}
use Rattle.listing.proofs.All.{Mem, Sorted, all, AllOf, all_are}
use Rattle.listing.proofs.Listed.{complete_of, listed_by_lem}

-- ---- places in a list

at_place : (L : List (List ℕ)) (ps : List ℕ) → Mem ps L → (i : ℕ) × (get_elem? L i ≡ some ps)
at_place [] ps m = absurd (Memᴰ.not-nil m)
at_place (x ∷ L) ps m = by (Memᴰ.cases_cons m) (λ k. at_place L ps k)
  where
    by : (ps ≡ x) ⊎ Mem ps L → (Mem ps L → (i : ℕ) × (get_elem? L i ≡ some ps)) → (i : ℕ) × (get_elem? (x ∷ L) i ≡ some ps)
    by (inl e) ih = (0, ap {B = Option (List ℕ)} some (sym e))
    by (inr k) ih = let (i, e) = ih k in (suc i, e)

in_list : (L : List (List ℕ)) (i : ℕ) (ps : List ℕ) → get_elem? L i ≡ some ps → Mem ps L
in_list [] i ps e = absurd (true≢false cc)
in_list (x ∷ L) zero ps e = let q : ps ≡ x = cc in Memᴰ.head q
in_list (x ∷ L) (suc i) ps e = Memᴰ.tail (in_list L i ps e)

ascending : (L : List (List ℕ)) → Sorted L → (i j : ℕ) (ps qs : List ℕ) → i < j → get_elem? L i ≡ some ps → get_elem? L j ≡ some qs → Before ps qs
ascending [] s i j ps qs h d e = absurd (true≢false cc)
ascending (x ∷ L) s i zero ps qs h d e = absurd (omega arith)
ascending (x ∷ L) (a, s) zero (suc j) ps qs h d e = let q : x ≡ ps = cc in along (λ (y : List ℕ). Before y qs) q (a qs (in_list L j qs e))
ascending (x ∷ L) (a, s) (suc i) (suc j) ps qs h d e = ascending L s i j ps qs (omega arith) d e

module _ (g : Program) (n : ℕ) where
  -- of a list whose first is before all others
  at_most_all : (qs : List ℕ) (L : List (List ℕ)) → ((rs : List ℕ) → Mem rs L → Before qs rs) → (rs : List ℕ) → (rs ≡ qs) ⊎ Mem rs L → AtMost qs rs
  at_most_all qs L b rs (inl e) = inl (sym e)
  at_most_all qs L b rs (inr m) = inr (b rs m)

  behind_it : (qs : List ℕ) (L : List (List ℕ)) (rs : List ℕ) → Before qs rs → (rs ≡ qs) ⊎ Mem rs L → Mem rs L
  behind_it qs L rs h (inl e) = absurd (irreflexive qs (along (Before qs) e h))
  behind_it qs L rs h (inr m) = m

  -- what stands behind a schedule comes after it one by one
  chain : (ps : List ℕ) (L : List (List ℕ)) → Sorted (ps ∷ L) → ((rs : List ℕ) → Mem rs L → Listed g n rs)
      → ((rs : List ℕ) → Listed g n rs → Before ps rs → Mem rs L) → GoesOn g n ps L
  chain ps [] s x each = OVER (λ rs l b. Memᴰ.not-nil (each rs l b))
  chain ps (qs ∷ L) (a, (b, s)) x each =
      let above = a qs (Memᴰ.head refl) in
      NEXT (record { has = x qs (Memᴰ.head refl); above = above; least = λ rs l h. at_most_all qs L b rs (Memᴰ.cases_cons (each rs l h)) })
      (chain qs L (b, s) (λ rs m. x rs (Memᴰ.tail m)) (λ rs l h. behind_it qs L rs h (Memᴰ.cases_cons (each rs l (transitive ps qs rs above h)))))

  begin : (L : List (List ℕ)) → Sorted L → ((rs : List ℕ) → Mem rs L → Listed g n rs)
      → ((rs : List ℕ) → Listed g n rs → Mem rs L) → (ps : List ℕ) → Mem ps L → Begins g n L
  begin [] s x each ps m = absurd (Memᴰ.not-nil m)
  begin (qs ∷ L) (a, s) x each ps m =
      FIRST (record { has = x qs (Memᴰ.head refl); least = λ rs l. at_most_all qs L a rs (Memᴰ.cases_cons (each rs l)) })
      (chain qs L (a, s) (λ rs k. x rs (Memᴰ.tail k)) (λ rs l h. behind_it qs L rs h (Memᴰ.cases_cons (each rs l))))

  -- ---- the list

  abbrev pub schedules : List (List ℕ)
  schedules = all (can_follow g) n []

  found : AllOf (can_follow g) n [] schedules
  found = all_are (can_follow g) n n [] (no_picks (can_follow g)) (omega arith)

  there : (rs : List ℕ) → Listed g n rs → Mem rs schedules
  there rs l = found.each rs rs (complete_of g n rs l) refl

  listed_there : (rs : List ℕ) → Mem rs schedules → Listed g n rs
  listed_there rs m = listed_by_lem g n rs (found.sound rs m).0

  begun : Begins g n schedules
  begun = begin schedules found.sorted listed_there there found.some.0 found.some.1

  -- "For a bound n list each schedule [..]. The order is dictionary order by thread number, each once"
  pub schedules_whole : WholeList g n schedules
  schedules_whole =
      record {
        begins = begun;
        each = λ ps l. at_place schedules ps (there ps l);
        listed = λ i ps e. listed_there ps (in_list schedules i ps e);
        in_order = ascending schedules found.sorted;
        once = once;
      }
    where
      once : (i j : ℕ) (ps : List ℕ) → get_elem? schedules i ≡ some ps → get_elem? schedules j ≡ some ps → i ≡ j
      once i j ps d e = by (dec_lt i j) (dec_lt j i)
        where
          by : Dec (i < j) → Dec (j < i) → i ≡ j
          by (yes h) k = absurd (irreflexive ps (ascending schedules found.sorted i j ps ps h d e))
          by (no h) (yes k) = absurd (irreflexive ps (ascending schedules found.sorted j i ps ps k e d))
          by (no h) (no k) = omega (arith, h, k)

  pub whole_list : (L : List (List ℕ)) × WholeList g n L
  whole_list = (schedules, schedules_whole)

  -- ---- there is one list only that begins so and goes on so

  pub one_rest : {ps : List ℕ} {L M : List (List ℕ)} → GoesOn g n ps L → GoesOn g n ps M → L ≡ M
  one_rest (OVER x) (OVER y) = refl
  one_rest (OVER x) (NEXT {qs = qs} y b) = absurd (x qs y.has y.above)
  one_rest (NEXT {qs = qs} x a) (OVER y) = absurd (y qs x.has x.above)
  one_rest (NEXT {qs = qs} {L = L} x a) (NEXT {L = M} y b) =
      let e = one_least_above x y in
      let d : L ≡ M = one_rest a (along (λ (z : List ℕ). GoesOn g n z M) (sym e) b) in
      cc

  pub one_list : {L M : List (List ℕ)} → Begins g n L → Begins g n M → L ≡ M
  one_list (FIRST {L = L} x a) (FIRST {L = M} y b) =
      let e = one_least x y in
      let d : L ≡ M = one_rest a (along (λ (z : List ℕ). GoesOn g n z M) (sym e) b) in
      cc

  -- ---- a first, and after each listed schedule exactly one, or the list is over

  first_of : {L : List (List ℕ)} → Begins g n L → (qs : List ℕ) × First g n qs
  first_of (FIRST {qs} x a) = (qs, x)

  pub has_first : (qs : List ℕ) × First g n qs
  has_first = first_of begun

  after_in : (ps x : List ℕ) (L : List (List ℕ)) → GoesOn g n x L → (ps ≡ x) ⊎ Mem ps L → ((qs : List ℕ) × Following g n ps qs) ⊎ Over g n ps
  after_in ps x L (OVER o) (inl e) = inr (along (Over g n) (sym e) o)
  after_in ps x L (OVER o) (inr m) = absurd (Memᴰ.not-nil m)
  after_in ps x L (NEXT {qs = qs} f a) (inl e) = inl (qs, along (λ (z : List ℕ). Following g n z qs) (sym e) f)
  after_in ps x L (NEXT {qs = qs} {L = M} f a) (inr m) = after_in ps qs M a (Memᴰ.cases_cons m)

  in_begun : {L : List (List ℕ)} (ps : List ℕ) → Begins g n L → Mem ps L → ((qs : List ℕ) × Following g n ps qs) ⊎ Over g n ps
  in_begun ps (FIRST {qs} {L} x a) m = after_in ps qs L a (Memᴰ.cases_cons m)

  pub follower_or_over : (ps : List ℕ) → Listed g n ps → ((qs : List ℕ) × Following g n ps qs) ⊎ Over g n ps
  follower_or_over ps l = in_begun ps begun (there ps l)

  pub not_both : (ps qs : List ℕ) → Following g n ps qs → Over g n ps → ⊥
  not_both ps qs f o = o qs f.has f.above

  pub one_follower : (ps qs rs : List ℕ) → Following g n ps qs → Following g n ps rs → qs ≡ rs
  one_follower ps qs rs x y = one_least_above x y

  pub one_first : (qs rs : List ℕ) → First g n qs → First g n rs → qs ≡ rs
  one_first qs rs x y = one_least x y

  -- ---- places of the list: the first, and from one to the next

  pub at_first : {M : List (List ℕ)} {qs : List ℕ} → Begins g n M → First g n qs → get_elem? M 0 ≡ some qs
  at_first (FIRST x a) y = ap some (one_least x y)

  next_in_lem : {x : List ℕ} {L : List (List ℕ)} {ps qs : List ℕ} (i : ℕ)
      → GoesOn g n x L → get_elem? (x ∷ L) i ≡ some ps → Following g n ps qs → get_elem? L i ≡ some qs
  next_in_lem {x} {ps = ps} {qs = qs} zero (OVER o) e f = let q : ps ≡ x = cc in absurd (o qs f.has (along (λ (z : List ℕ). Before z qs) q f.above))
  next_in_lem (suc i) (OVER o) e f = absurd (true≢false cc)
  next_in_lem {x} {ps = ps} {qs = qs} zero (NEXT y a) e f =
      let q : ps ≡ x = cc in
      ap some (one_least_above y (along (λ (z : List ℕ). Following g n z qs) q f))
  next_in_lem (suc i) (NEXT y a) e f = next_in_lem i a e f

  pub at_next : {M : List (List ℕ)} {ps qs : List ℕ} (i : ℕ) → Begins g n M → get_elem? M i ≡ some ps → Following g n ps qs → get_elem? M (suc i) ≡ some qs
  at_next i (FIRST x a) e f = next_in_lem i a e f

  last_in : {x : List ℕ} {L : List (List ℕ)} {ps : List ℕ} (i : ℕ) → GoesOn g n x L → get_elem? (x ∷ L) i ≡ some ps → Over g n ps → length L ≡ i
  last_in zero (OVER o) e f = refl
  last_in (suc i) (OVER o) e f = absurd (true≢false cc)
  last_in {x} {ps = ps} zero (NEXT {qs = qs} y a) e f = let q : x ≡ ps = cc in absurd (f qs y.has (along (λ (z : List ℕ). Before z qs) q y.above))
  last_in (suc i) (NEXT y a) e f = ap suc (last_in i a e f)

  pub at_last : {M : List (List ℕ)} {ps : List ℕ} (i : ℕ) → Begins g n M → get_elem? M i ≡ some ps → Over g n ps → length M ≡ suc i
  at_last i (FIRST x a) e f = ap suc (last_in i a e f)
