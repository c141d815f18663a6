-- The marks: one pass over the moves, newest first, finds those that have a chain to one of two targets. Assumes nothing.
use Prim.Native.Nat.{ℕ, ◌<◌}
use native.Mathlib.Omega.{arith}
use native.Mathlib.Decide.{ℕ_discrete}
use mathlib.Core.Path.{◌≡◌, refl, sym, subst as along}
use mathlib.Core.Bool.{Bool, true, false, cond, ◌||◌, ◌&&◌}
use mathlib.Core.List.{List, [], ◌∷◌}
use mathlib.Core.Logic.{◌⊎◌, inl, inr, ◌↔◌}
use lib.Dec.{T, eqb, eqb→eq, eqb_refl}
use lib.ListN.{length}
use borrow.Author.Tests.{eqb-false}
use Rattle.format.specs.Version.{v1}
use Rattle.log_records.specs.Record.{Kind, Record}
use Rattle.log_order.proofs.Newest.{At, here, back, Linked, Chain, more, at_below, at_older, at_newest, one}
use Rattle.log_order.proofs.Ports.{Port, of_thread, of_monitor, of_volatile, of_accesses, of_writes, Feeds, Draws, port→pair, pair→port}
use Rattle.log_order.proofs.Tests.{same_kind, same_kind→, same_kind←, or←}
use Rattle.side_by_side.proofs.Correspondence.{Marks}
use mir.Facts.{or_yes, yes_eqb, and_yes, yes_and}

-- the ports that a later record draws from which is a target or has a chain to one
abbrev pub Wanted : Type 0
Wanted = Port → Bool

-- the record draws from the port
unfoldable pub draws : Record → Port → Bool
draws r (of_thread q) = eqb r.thread q || (same_kind r.kind Kind.join && eqb r.field q)
draws r (of_monitor o) = same_kind r.kind Kind.acquire && eqb r.object o
draws r (of_volatile o f) = same_kind r.kind Kind.readv && (eqb r.object o && eqb r.field f)
draws r (of_accesses o f) = false
draws r (of_writes o f) = false

-- the record feeds a port that is wanted
unfoldable pub fed : Wanted → Record → Bool
fed w r =
    w (of_thread r.thread)
    || ((same_kind r.kind Kind.fork && w (of_thread r.field))
    || ((same_kind r.kind Kind.release && w (of_monitor r.object))
    || (same_kind r.kind Kind.writev && w (of_volatile r.object r.field))))

-- what is wanted before a record; the first says whether it is a target
unfoldable pub wanted_after : Bool → Wanted → Record → Wanted
unfolding draws fed
wanted_after b w r = cond (fed w r || b) (λ p. draws r p || w p) w

-- the marks; t are the targets
unfoldable pub marks_from : (ℕ → Bool) → Wanted → List Record → ℕ → Bool
unfolding wanted_after fed
marks_from t w [] k = false
marks_from t w (r ∷ H) k = cond (eqb k (length H)) (fed w r) (marks_from t (wanted_after (t (length H)) w r) H k)

-- ---- the tests

pub draws→ : (r : Record) (p : Port) → T (draws r p) → Draws v1 r p
unfolding draws
draws→ r (of_thread q) h = go (or_yes (eqb r.thread q) _ h)
  where
    go : T (eqb r.thread q) ⊎ T (same_kind r.kind Kind.join && eqb r.field q) → Draws v1 r (of_thread q)
    go (inl x) = inl (eqb→eq r.thread q x)
    go (inr x) = let d = and_yes (same_kind r.kind Kind.join) (eqb r.field q) x in inr (same_kind→ r.kind Kind.join d.0, eqb→eq r.field q d.1)
draws→ r (of_monitor o) h = let d = and_yes (same_kind r.kind Kind.acquire) (eqb r.object o) h in
    (same_kind→ r.kind Kind.acquire d.0, eqb→eq r.object o d.1)
draws→ r (of_volatile o f) h =
    let d = and_yes (same_kind r.kind Kind.readv) (eqb r.object o && eqb r.field f) h in
    let e = and_yes (eqb r.object o) (eqb r.field f) d.1 in
    (refl, same_kind→ r.kind Kind.readv d.0, eqb→eq r.object o e.0, eqb→eq r.field f e.1)
draws→ r (of_accesses o f) h = absurd h
draws→ r (of_writes o f) h = absurd h

pub draws← : (r : Record) (p : Port) → Draws v1 r p → T (draws r p)
unfolding draws
draws← r (of_thread q) (inl e) = or← (eqb r.thread q) _ (inl (yes_eqb e))
draws← r (of_thread q) (inr (k, e)) =
    or← (eqb r.thread q) _ (inr (yes_and (same_kind r.kind Kind.join) (eqb r.field q) (same_kind← r.kind Kind.join k) (yes_eqb e)))
draws← r (of_monitor o) (k, e) = yes_and (same_kind r.kind Kind.acquire) (eqb r.object o) (same_kind← r.kind Kind.acquire k) (yes_eqb e)
draws← r (of_volatile o f) (_, k, e, e') =
    yes_and (same_kind r.kind Kind.readv) (eqb r.object o && eqb r.field f) (same_kind← r.kind Kind.readv k)
    (yes_and (eqb r.object o) (eqb r.field f) (yes_eqb e) (yes_eqb e'))
draws← r (of_accesses o f) h = absurd h
draws← r (of_writes o f) h = absurd h

-- a port that some record can draw from
abbrev pub Drawable : Port → Type 0
Drawable (of_thread q) = Unit {0}
Drawable (of_monitor o) = Unit {0}
Drawable (of_volatile o f) = Unit {0}
Drawable (of_accesses o f) = ⊥
Drawable (of_writes o f) = ⊥

drawn_drawable : (r : Record) (p : Port) → Draws v1 r p → Drawable p
drawn_drawable r (of_thread q) d = tt
drawn_drawable r (of_monitor o) d = tt
drawn_drawable r (of_volatile o f) d = tt
drawn_drawable r (of_accesses o f) d = d
drawn_drawable r (of_writes o f) d = d

-- the record feeds a port that is wanted
abbrev pub Feeding : Wanted → Record → Type 0
Feeding w r = (p : Port) × Drawable p × Feeds v1 r p × T (w p)

pub fed→ : (w : Wanted) (r : Record) → T (fed w r) → Feeding w r
unfolding fed
fed→ w r h = first (or_yes (w (of_thread r.thread)) _ h)
  where
    fourth : T (same_kind r.kind Kind.writev && w (of_volatile r.object r.field)) → Feeding w r
    fourth x = let d = and_yes (same_kind r.kind Kind.writev) (w (of_volatile r.object r.field)) x in
        (of_volatile r.object r.field, tt, (refl, same_kind→ r.kind Kind.writev d.0, refl, refl), d.1)

    third : T (same_kind r.kind Kind.release && w (of_monitor r.object)) ⊎ T (same_kind r.kind Kind.writev && w (of_volatile r.object r.field))
        → Feeding w r
    third (inl x) = let d = and_yes (same_kind r.kind Kind.release) (w (of_monitor r.object)) x in
        (of_monitor r.object, tt, (same_kind→ r.kind Kind.release d.0, refl), d.1)
    third (inr x) = fourth x

    second : T (same_kind r.kind Kind.fork && w (of_thread r.field)) ⊎ T
        ((same_kind r.kind Kind.release && w (of_monitor r.object)) || (same_kind r.kind Kind.writev && w (of_volatile r.object r.field)))
        → Feeding w r
    second (inl x) = let d = and_yes (same_kind r.kind Kind.fork) (w (of_thread r.field)) x in
        (of_thread r.field, tt, inr (same_kind→ r.kind Kind.fork d.0, refl), d.1)
    second (inr x) = third (or_yes (same_kind r.kind Kind.release && w (of_monitor r.object)) _ x)

    first : T (w (of_thread r.thread)) ⊎ T
        ((same_kind r.kind Kind.fork && w (of_thread r.field)) ||
        ((same_kind r.kind Kind.release && w (of_monitor r.object)) || (same_kind r.kind Kind.writev && w (of_volatile r.object r.field))))
        → Feeding w r
    first (inl x) = (of_thread r.thread, tt, inl refl, x)
    first (inr x) = second (or_yes (same_kind r.kind Kind.fork && w (of_thread r.field)) _ x)

pub fed← : (w : Wanted) (r : Record) (p : Port) → Drawable p → Feeds v1 r p → T (w p) → T (fed w r)
unfolding fed
fed← w r (of_thread q) _ (inl e) x = or← (w (of_thread r.thread)) _ (inl (rw e x))
fed← w r (of_thread q) _ (inr (k, e)) x =
    or← (w (of_thread r.thread)) _
    (inr (or← (same_kind r.kind Kind.fork && w (of_thread r.field)) _
    (inl (yes_and (same_kind r.kind Kind.fork) (w (of_thread r.field)) (same_kind← r.kind Kind.fork k) (rw e x)))))
fed← w r (of_monitor o) _ (k, e) x =
    or← (w (of_thread r.thread)) _ (inr (or← (same_kind r.kind Kind.fork && w (of_thread r.field)) _ (inr
    (or← (same_kind r.kind Kind.release && w (of_monitor r.object)) _
    (inl (yes_and (same_kind r.kind Kind.release) (w (of_monitor r.object)) (same_kind← r.kind Kind.release k) (rw e x)))))))
fed← w r (of_volatile o f) _ (_, k, e, e') x =
    or← (w (of_thread r.thread)) _ (inr (or← (same_kind r.kind Kind.fork && w (of_thread r.field)) _ (inr
    (or← (same_kind r.kind Kind.release && w (of_monitor r.object)) _
    (inr (yes_and (same_kind r.kind Kind.writev) (w (of_volatile r.object r.field)) (same_kind← r.kind Kind.writev k) (rw (e, e') x)))))))
fed← w r (of_accesses o f) d h x = absurd d
fed← w r (of_writes o f) d h x = absurd d

after→ : (b : Bool) (w : Wanted) (r : Record) (p : Port) → T (wanted_after b w r p) → T (w p) ⊎ (T (fed w r || b) × Draws v1 r p)
unfolding wanted_after
after→ b w r p h = go (fed w r || b) h
  where
    go : (c : Bool) → T (cond c (λ (q : Port). draws r q || w q) w p) → T (w p) ⊎ (T c × Draws v1 r p)
    go true h = cases (or_yes (draws r p) (w p) h)
      where
        cases : T (draws r p) ⊎ T (w p) → T (w p) ⊎ (T true × Draws v1 r p)
        cases (inl x) = inr (tt, draws→ r p x)
        cases (inr x) = inl x
    go false h = inl h

after_old : (b : Bool) (w : Wanted) (r : Record) (p : Port) → T (w p) → T (wanted_after b w r p)
unfolding wanted_after
after_old b w r p h = go (fed w r || b)
  where
    go : (c : Bool) → T (cond c (λ (q : Port). draws r q || w q) w p)
    go true = or← (draws r p) (w p) (inr h)
    go false = h

after_drawn : (b : Bool) (w : Wanted) (r : Record) (p : Port) → T (fed w r || b) → Draws v1 r p → T (wanted_after b w r p)
unfolding wanted_after
after_drawn b w r p x d = go (fed w r || b) x
  where
    go : (c : Bool) → T c → T (cond c (λ (q : Port). draws r q || w q) w p)
    go true x = or← (draws r p) (w p) (inl (draws← r p d))
    go false x = absurd x

-- ---- what the pass finds

module _ (t : ℕ → Bool) where
  -- record k feeds a port that is wanted, or is paired with a target, or with a later record that leads so
  data Leads (w : Wanted) (H : List Record) : ℕ → Type 0 where
    wanted : {k : ℕ} {s : Record} → At H k s → (p : Port) → Drawable p → Feeds v1 s p → T (w p) → Leads w H k
    reaches : {k m : ℕ} → Linked v1 H k m → T (t m) → Leads w H k
    onward : {k m : ℕ} → Linked v1 H k m → Leads w H m → Leads w H k

  newer : {r : Record} {H : List Record} {i j : ℕ} → Linked v1 H i j → Linked v1 (r ∷ H) i j
  newer l = record { earlier = l.earlier; later = l.later; at_i = back l.at_i; at_j = back l.at_j; before = l.before; paired = l.paired }

  older : {r : Record} {H : List Record} {i j : ℕ} → j < length H → Linked v1 (r ∷ H) i j → Linked v1 H i j
  older {i = i} {j = j} b l = let lt : i < j =
      l.before in record {
        earlier = l.earlier;
        later = l.later;
        at_i = at_older (omega arith) l.at_i;
        at_j = at_older b l.at_j;
        before =
            l.before;
        paired = l.paired;
      }

  -- a record that feeds what the newest one draws from
  to_newest : {r s : Record} {H : List Record} {k : ℕ} → At H k s → (p : Port) → Feeds v1 s p → Draws v1 r p → Linked v1 (r ∷ H) k (length H)
  to_newest {r} {s} a p f d = record { earlier = s; later = r; at_i = back a; at_j = here refl; before = at_below a; paired = port→pair p f d }

  up : (w : Wanted) (r : Record) (H : List Record) {k : ℕ} → Leads (wanted_after (t (length H)) w r) H k → Leads w (r ∷ H) k
  up w r H (wanted {k} {s} a p q f x) = go (after→ (t (length H)) w r p x)
    where
      target : Linked v1 (r ∷ H) k (length H) → T (fed w r) ⊎ T (t (length H)) → Leads w (r ∷ H) k
      target l (inl y) = let d = fed→ w r y in onward l (wanted (here refl) d.0 d.1 d.2 d.3)
      target l (inr y) = reaches l y

      go : T (w p) ⊎ (T (fed w r || t (length H)) × Draws v1 r p) → Leads w (r ∷ H) k
      go (inl y) = wanted (back a) p q f y
      go (inr (y, d)) = target (to_newest a p f d) (or_yes (fed w r) (t (length H)) y)
  up w r H (reaches l x) = reaches (newer l) x
  up w r H (onward l y) = onward (newer l) (up w r H y)

  marks→ : (w : Wanted) (H : List Record) (k : ℕ) → T (marks_from t w H k) → Leads w H k
  unfolding marks_from
  marks→ w [] k h = absurd h
  marks→ w (r ∷ H) k h = go (eqb k (length H)) refl h (marks→ (wanted_after (t (length H)) w r) H k)
    where
      go : (b : Bool) → eqb k (length H) ≡ b → T (cond b (fed w r) (marks_from t (wanted_after (t (length H)) w r) H k))
          → (T (marks_from t (wanted_after (t (length H)) w r) H k) → Leads (wanted_after (t (length H)) w r) H k) → Leads w (r ∷ H) k
      go true e x ih = let d = fed→ w r x in wanted (here (eqb→eq k (length H) (rw e tt))) d.0 d.1 d.2 d.3
      go false e x ih = up w r H (ih x)

  -- the newest record leads only by what is wanted
  newest_fed : (w : Wanted) (r : Record) (H : List Record) {k : ℕ} → k ≡ length H → Leads w (r ∷ H) k → T (fed w r)
  newest_fed w r H e (wanted {s = s} a p q f x) = fed← w r p q (along (λ (z : Record). Feeds v1 z p) (sym (at_newest e a)) f) x
  newest_fed w r H {k} e (reaches {m = m} l x) = let a : k < m = l.before in let b : m < length (r ∷ H) = at_below l.at_j in absurd (omega arith)
  newest_fed w r H {k} e (onward {m = m} l x) = let a : k < m = l.before in let b : m < length (r ∷ H) = at_below l.at_j in absurd (omega arith)

  down : (w : Wanted) (r : Record) (H : List Record) {k : ℕ} → k < length H → Leads w (r ∷ H) k → Leads (wanted_after (t (length H)) w r) H k
  down w r H b (wanted a p q f x) = wanted (at_older b a) p q f (after_old (t (length H)) w r p x)
  down w r H b (reaches {k} {m} l x) = go (ℕ_discrete m (length H))
    where
      go : Dec (m ≡ length H) → Leads (wanted_after (t (length H)) w r) H k
      go (yes e) =
          let q = pair→port l.paired in
          wanted (at_older b l.at_i) q.0 (drawn_drawable l.later q.0 q.2) q.1
          (after_drawn (t (length H)) w r q.0 (or← (fed w r) (t (length H)) (inr (rw (← e) x)))
          (along (λ (z : Record). Draws v1 z q.0) (sym (at_newest e l.at_j)) q.2))
      go (no e) = let c : m < length (r ∷ H) = at_below l.at_j in reaches (older (omega arith) l) x
  down w r H b (onward {k} {m} l y) = go (ℕ_discrete m (length H)) (λ c. down w r H c y)
    where
      go : Dec (m ≡ length H) → (m < length H → Leads (wanted_after (t (length H)) w r) H m) → Leads (wanted_after (t (length H)) w r) H k
      go (yes e) ih =
          let q = pair→port l.paired in
          wanted (at_older b l.at_i) q.0 (drawn_drawable l.later q.0 q.2) q.1
          (after_drawn (t (length H)) w r q.0 (or← (fed w r) (t (length H)) (inl (newest_fed w r H e y)))
          (along (λ (z : Record). Draws v1 z q.0) (sym (at_newest e l.at_j)) q.2))
      go (no e) ih = let c : m < length (r ∷ H) = at_below l.at_j in onward (older (omega arith) l) (ih (omega arith))

  leads_below : {w : Wanted} {H : List Record} {k : ℕ} → Leads w H k → k < length H
  leads_below (wanted a p q f x) = at_below a
  leads_below (reaches l x) = at_below l.at_i
  leads_below (onward l y) = at_below l.at_i

  marks← : (w : Wanted) (H : List Record) (k : ℕ) → Leads w H k → T (marks_from t w H k)
  unfolding marks_from
  marks← w [] k h = let b : k < 0 = leads_below h in absurd (omega arith)
  marks← w (r ∷ H) k h = go (eqb k (length H)) refl (λ c. marks← (wanted_after (t (length H)) w r) H k (down w r H c h))
    where
      go : (b : Bool) → eqb k (length H) ≡ b → (k < length H → T (marks_from t (wanted_after (t (length H)) w r) H k))
          → T (cond b (fed w r) (marks_from t (wanted_after (t (length H)) w r) H k))
      go true e ih = newest_fed w r H (eqb→eq k (length H) (rw e tt)) h
      go false e ih = let b : k < length (r ∷ H) = leads_below h in ih (let n : k ≡ length H → ⊥ = eqb-false k (length H) e in omega arith)

  -- ---- with nothing wanted at the end: the chains to targets

  nothing : Wanted
  nothing p = false

  front : {H : List Record} {a b c : ℕ} → Linked v1 H a b → Chain v1 H b c → Chain v1 H a c
  front l (one m) = more (one l) m
  front l (more c m) = more (front l c) m

  leads→ : {H : List Record} {k : ℕ} → Leads nothing H k → (m : ℕ) × T (t m) × Chain v1 H k m
  unfolding nothing
  leads→ (wanted a p q f x) = absurd x
  leads→ (reaches {m = m} l x) = (m, x, one l)
  leads→ (onward l y) = let d = leads→ y in (d.0, d.1, front l d.2)

  along_chain : {H : List Record} {k m : ℕ} → Chain v1 H k m → Leads nothing H m → Leads nothing H k
  along_chain (one l) y = onward l y
  along_chain (more c l) y = along_chain c (onward l y)

  leads← : {H : List Record} {k m : ℕ} → Chain v1 H k m → T (t m) → Leads nothing H k
  leads← (one l) x = reaches l x
  leads← (more c l) x = along_chain c (reaches l x)

-- the two targets
unfoldable pub targets : ℕ → ℕ → ℕ → Bool
targets j i m = eqb m j || eqb m i

-- the moves with a chain to record j or to record i
unfoldable pub marks_of : List Record → ℕ → ℕ → Marks
unfolding marks_from targets nothing
marks_of H j i = marks_from (targets j i) (λ p. false) H

-- the marks exist, and one pass finds them
pub marked : (H : List Record) (j i k : ℕ) → T (marks_of H j i k) ↔ (Chain v1 H k j ⊎ Chain v1 H k i)
unfolding marks_of targets nothing
marked H j i k = (λ h. there (leads→ (targets j i) (marks→ (targets j i) (λ p. false) H k h)), λ c. marks← (targets j i) (λ p. false) H k (hither c))
  where
    there : (m : ℕ) × T (targets j i m) × Chain v1 H k m → Chain v1 H k j ⊎ Chain v1 H k i
    there (m, x, c) = go (or_yes (eqb m j) (eqb m i) x)
      where
        go : T (eqb m j) ⊎ T (eqb m i) → Chain v1 H k j ⊎ Chain v1 H k i
        go (inl e) = inl (rw (eqb→eq m j e) at c)
        go (inr e) = inr (rw (eqb→eq m i e) at c)

    hither : Chain v1 H k j ⊎ Chain v1 H k i → Leads (targets j i) (λ p. false) H k
    hither (inl c) = leads← (targets j i) c (or← (eqb j j) (eqb j i) (inl (eqb_refl j)))
    hither (inr c) = leads← (targets j i) c (or← (eqb i j) (eqb i i) (inr (eqb_refl i)))
