-- A log has one list of needed arrows. Assumes nothing.
use Prim.Native.Nat.{ℕ}
use native.Mathlib.Omega.{arith}
use mathlib.Core.Path.{◌≡◌, refl, sym, ap, ap₂, ◌∙◌, subst}
use mathlib.Core.List.{List, [], ◌∷◌}
use Rattle.format.specs.Version.{Version}
use Rattle.log_records.specs.Record.{Record}
use Rattle.log_order.specs.Chains.{At}
use Rattle.log_arrows.specs.Arrows.{Among, here, further, Before, by_record, by_thread, Ordered, next, AllArrows}
use Rattle.log_arrows.proofs.Chains.{at_once}
use Rattle.log_arrows.proofs.ArrowLists.{among_some}

-- ---- of two arrows one comes before the other

module _ {L : List Record} where
  -- an arrow does not come before itself
  before_self : {i j i' j' : ℕ} → i ≡ i' → j ≡ j' → Before L i j i' j' → ⊥
  before_self p q (by_record h) = absurd (omega arith)
  before_self {i} {j} {i'} p q (by_thread {r = r} {r' = r'} e a b l) =
      let same : r ≡ r' = at_once L i' r r' (subst (λ (n : ℕ). At L n r) p a) b in
      let thread : r.thread ≡ r'.thread = ap (λ (x : Record). x.thread) same in
      absurd (omega arith)

  before_apart : {i j i' j' : ℕ} → Before L i j i' j' → Before L i' j' i j → ⊥
  before_apart (by_record h) (by_record k) = absurd (omega arith)
  before_apart (by_record h) (by_thread e a b l) = absurd (omega (arith, e))
  before_apart (by_thread e a b l) (by_record k) = absurd (omega (arith, e))
  before_apart {i} {j} {i'} (by_thread {r = r} {r' = r'} e a b l) (by_thread {r = s} {r' = s'} f c d m) =
      let first : r.thread ≡ s'.thread = ap (λ (x : Record). x.thread) (at_once L i r s' a d) in
      let second : r'.thread ≡ s.thread = ap (λ (x : Record). x.thread) (at_once L i' r' s b c) in
      absurd (omega arith)

  -- ---- two lists of the same arrows, each in order

  head_once : {x y : ℕ × ℕ} {xs ys : List (ℕ × ℕ)} → Ordered L (x ∷ xs) → Ordered L (y ∷ ys) → Among x.0 x.1 (y ∷ ys) → Among y.0 y.1 (x ∷ xs)
      → x ≡ y
  head_once o p (here a b) q = ap₂ (λ (m n : ℕ). (m, n)) (sym a) (sym b)
  head_once o p (further a) (here c d) = ap₂ (λ (m n : ℕ). (m, n)) c d
  head_once {x} {y} (next f o) (next g p) (further a) (further b) = absurd (before_apart (g x.0 x.1 a) (f y.0 y.1 b))

  tail_in : {x y : ℕ × ℕ} {xs ys : List (ℕ × ℕ)} → Ordered L (x ∷ xs) → x ≡ y → (i j : ℕ) → Among i j xs → Among i j (y ∷ ys) → Among i j ys
  tail_in o e i j a (further b) = b
  tail_in (next f o) e i j a (here h k) = absurd (before_self (ap (λ (z : ℕ × ℕ). z.0) e ∙ h) (ap (λ (z : ℕ × ℕ). z.1) e ∙ k) (f i j a))

  tail_ordered : {x : ℕ × ℕ} {xs : List (ℕ × ℕ)} → Ordered L (x ∷ xs) → Ordered L xs
  tail_ordered (next f o) = o

  lists_once : (xs ys : List (ℕ × ℕ)) → Ordered L xs → Ordered L ys → ((i j : ℕ) → Among i j xs → Among i j ys) → ((i j : ℕ) → Among i j ys → Among i j xs)
      → xs ≡ ys
  lists_once [] [] o p f g = refl
  lists_once [] (y ∷ ys) o p f g = absurd (omega (arith, among_some (g y.0 y.1 (here refl refl))))
  lists_once (x ∷ xs) [] o p f g = absurd (omega (arith, among_some (f x.0 x.1 (here refl refl))))
  lists_once (x ∷ xs) (y ∷ ys) o p f g =
      let e : x ≡ y = head_once o p (f x.0 x.1 (here refl refl)) (g y.0 y.1 (here refl refl)) in
      ap₂ (λ (a : ℕ × ℕ) (l : List (ℕ × ℕ)). a ∷ l) e
      (lists_once xs ys (tail_ordered o) (tail_ordered p) (λ i j a. tail_in o e i j a (f i j (further a)))
      (λ i j a. tail_in p (sym e) i j a (g i j (further a))))

pub arrows_once : {v : Version} {L : List Record} {xs ys : List (ℕ × ℕ)} → AllArrows v L xs → AllArrows v L ys → xs ≡ ys
arrows_once {xs = xs} {ys = ys} A B =
    lists_once xs ys A.ordered B.ordered (λ i j a. B.whole i j (A.sound i j a)) (λ i j a. A.whole i j (B.sound i j a))
