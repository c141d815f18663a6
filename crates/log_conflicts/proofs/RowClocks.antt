-- What a row of clocks, one to a thread, says of a port: the records of thread u that reach the port are those whose index is below the clock of u. The row of
-- a plain field's accesses, or of its writes, has of each thread the last one alone. Logs newest first. Assumes nothing.
use Prim.Native.Nat.{ℕ, suc, ◌<◌, ◌≤◌, max, min}
use mathlib.Core.Path.{◌≡◌, refl, sym, ap, subst, ◌∙◌}
use mathlib.Core.Bool.{cond}
use mathlib.Core.List.{List, [], ◌∷◌}
use mathlib.Core.Logic.{◌⊎◌, inl, inr}
use lib.Dec.{T, eqb}
use lib.ListN.{length}
use native.Mathlib.Omega.{arith}
use native.Mathlib.Decide.{ℕ_discrete, dec_lt}
use borrow.Author.Tests.{ne_eqb, eq-eqb}
use Rattle.format.specs.Version.{Version}
use Rattle.log_records.specs.Record.{Record, is_plain}
use Rattle.log_order.proofs.Newest.{At, here, back, at_below}
use Rattle.log_order.proofs.Ports.{Port, of_thread, Feeds, Draws}
use Rattle.log_order.proofs.Flow.{Reach, kept, made, passed, reach_below}
use Rattle.log_conflicts.proofs.Conflicts.{Eight, Clash, held, held_conflict, conflict_held}

-- the clocks c of a port that what reaches it is drawn from
pub record Heard (v : Version) (H : List Record) (p : Port) (c : ℕ → ℕ) : Type 0 where
  pub reaches : (i : ℕ) (w : Record) → At H i w → i < c w.thread → Reach v i H p
  pub below : (i : ℕ) (w : Record) → At H i w → Reach v i H p → i < c w.thread
  -- no clock is past the log, but those of threads of themselves, which have no end
  pub most : (u : ℕ) → u < 8 → (p ≡ of_thread u) ⊎ (c u ≤ length H)
  pub own : (t : ℕ) → p ≡ of_thread t → 4096 ≤ c t

-- record i feeds the port, and is thread u's last that does
pub record LastOf (v : Version) (H : List Record) (p : Port) (u time : ℕ) : Type 0 where
  pub index : ℕ
  pub feeder : Record
  pub at_index : At H index feeder
  pub feeds : Feeds v feeder p
  pub by_thread : feeder.thread ≡ u
  pub time_is : time ≡ suc index

-- the clocks c of the accesses or the writes of a plain field
pub record Kept (v : Version) (H : List Record) (p : Port) (c : ℕ → ℕ) : Type 0 where
  pub last : (u : ℕ) → u < 8 → 0 < c u → LastOf v H p u (c u)
  pub all : (i : ℕ) (w : Record) → At H i w → Feeds v w p → i < c w.thread

-- ---- the start

pub heard_start : (v : Version) (p : Port) (c : ℕ → ℕ) → ((u : ℕ) → u < 8 → (p ≡ of_thread u) ⊎ (c u ≡ 0)) → ((t : ℕ) → p ≡ of_thread t → 4096 ≤ c t)
    → Heard v [] p c
heard_start v p c zero own =
    record {
      reaches = λ i w h. let b : i < 0 = at_below h in absurd (omega arith);
      below = λ i w h. let b : i < 0 = at_below h in absurd (omega arith);
      most = λ u h. go u (zero u h);
      own = own;
    }
  where
    go : (u : ℕ) → (p ≡ of_thread u) ⊎ (c u ≡ 0) → (p ≡ of_thread u) ⊎ (c u ≤ 0)
    go u (inl e) = inl e
    go u (inr e) = inr (omega arith)

pub kept_start : (v : Version) (p : Port) (c : ℕ → ℕ) → ((u : ℕ) → u < 8 → c u ≡ 0) → Kept v [] p c
kept_start v p c zero =
    record {
      last = λ u h k. let e = zero u h in absurd (omega arith);
      all = λ i w h. let b : i < 0 = at_below h in absurd (omega arith);
    }

-- ---- the same clocks

module _ {v : Version} {H : List Record} {p : Port} (eight : Eight H) (c d : ℕ → ℕ) (same : (u : ℕ) → u < 8 → d u ≡ c u) where
  pub heard_same : ((t : ℕ) → p ≡ of_thread t → t < 8) → Heard v H p c → Heard v H p d
  heard_same few S =
      record {
        reaches = λ i w h l. S.reaches i w h (subst (λ (x : ℕ). i < x) (same w.thread (eight i w h)) l);
        below = λ i w h x. subst (λ (y : ℕ). i < y) (sym (same w.thread (eight i w h))) (S.below i w h x);
        most = λ u h. subst (λ (x : ℕ). (p ≡ of_thread u) ⊎ (x ≤ length H)) (sym (same u h)) (S.most u h);
        own = λ t e. subst (λ (x : ℕ). 4096 ≤ x) (sym (same t (few t e))) (S.own t e);
      }

  pub kept_same : Kept v H p c → Kept v H p d
  kept_same S =
      record {
        last = λ u h k. subst (LastOf v H p u) (sym (same u h)) (S.last u h (subst (λ (x : ℕ). 0 < x) (same u h) k));
        all = λ i w h x. subst (λ (y : ℕ). i < y) (sym (same w.thread (eight i w h))) (S.all i w h x);
      }

-- ---- one record more

module _ {v : Version} (r : Record) (H : List Record) {p : Port} (thread_below : r.thread < 8) where
  -- it does not feed the port
  pub heard_unfed : {c : ℕ → ℕ} → (Feeds v r p → ⊥) → (p ≡ of_thread r.thread → ⊥) → Heard v H p c → Heard v (r ∷ H) p c
  heard_unfed {c} n m S =
      record {
        reaches = reaches;
        below = below;
        most = λ u h. more u (S.most u h);
        own = S.own;
      }
    where
      past : (p ≡ of_thread r.thread) ⊎ (c r.thread ≤ length H) → c r.thread ≤ length H
      past (inl e) = absurd (m e)
      past (inr h) = h

      reaches : (i : ℕ) (w : Record) → At (r ∷ H) i w → i < c w.thread → Reach v i (r ∷ H) p
      reaches i w (here e) l = let k = past (S.most r.thread thread_below) in absurd (omega arith)
      reaches i w (back h) l = kept (S.reaches i w h l)

      below : (i : ℕ) (w : Record) → At (r ∷ H) i w → Reach v i (r ∷ H) p → i < c w.thread
      below i w (here e) (kept x) = let b = reach_below x in absurd (omega arith)
      below i w (back h) (kept x) = S.below i w h x
      below i w a (made e o) = absurd (n o)
      below i w a (passed d x o) = absurd (n o)

      more : (u : ℕ) → (p ≡ of_thread u) ⊎ (c u ≤ length H) → (p ≡ of_thread u) ⊎ (c u ≤ suc (length H))
      more u (inl e) = inl e
      more u (inr h) = inr (omega arith)

  pub kept_unfed : {c : ℕ → ℕ} → (Feeds v r p → ⊥) → Kept v H p c → Kept v (r ∷ H) p c
  kept_unfed {c} n S = record { last = λ u h k. older (S.last u h k); all = all }
    where
      older : {u x : ℕ} → LastOf v H p u x → LastOf v (r ∷ H) p u x
      older l = record { index = l.index; feeder = l.feeder; at_index = back l.at_index; feeds = l.feeds; by_thread = l.by_thread; time_is = l.time_is }

      all : (i : ℕ) (w : Record) → At (r ∷ H) i w → Feeds v w p → i < c w.thread
      all i w (here e) x = absurd (n x)
      all i w (back h) x = S.all i w h x

  -- it feeds the port: the clocks of a port s that it draws from are added
  module _ (feeds-p : Feeds v r p) {s : Port} (draws-s : Draws v r s) (only : (q : Port) → Draws v r q → (q ≡ p) ⊎ (q ≡ s)) (short : length H < 4096) where
    pub heard_told : {c g : ℕ → ℕ} (d : ℕ → ℕ) → Eight H → (p ≡ of_thread r.thread) ⊎ (s ≡ of_thread r.thread)
        → ((u : ℕ) → u < 8 → d u ≡ max (c u) (min (g u) (suc (length H))))
        → ((t : ℕ) → p ≡ of_thread t → t < 8) → Heard v H p c → Heard v H s g → Heard v (r ∷ H) p d
    heard_told {c} {g} d eight itself d-is few S G = record { reaches = reaches; below = below; most = λ u h. more u h (S.most u h); own = own }
      where
        reaches : (i : ℕ) (w : Record) → At (r ∷ H) i w → i < d w.thread → Reach v i (r ∷ H) p
        reaches i w (here e) l = made e feeds-p
        reaches i w (back h) l = go (dec_lt i (c w.thread))
          where
            go : Dec (i < c w.thread) → Reach v i (r ∷ H) p
            go (yes k) = kept (S.reaches i w h k)
            go (no k) = passed draws-s (G.reaches i w h (omega (arith, d-is w.thread (eight i w h)))) feeds-p

        newest : (p ≡ of_thread r.thread) ⊎ (s ≡ of_thread r.thread) → length H < d r.thread
        newest (inl e) = omega (arith, d-is r.thread thread_below, S.own r.thread e)
        newest (inr e) = omega (arith, d-is r.thread thread_below, G.own r.thread e)

        below : (i : ℕ) (w : Record) → At (r ∷ H) i w → Reach v i (r ∷ H) p → i < d w.thread
        below i w (here e) x = let b = newest itself in omega arith
        below i w (back h) (kept x) = omega (arith, d-is w.thread (eight i w h), S.below i w h x)
        below i w (back h) (made e o) = let b = at_below h in absurd (omega arith)
        below i w (back h) (passed {q = q} n x o) = go (only q n)
          where
            go : (q ≡ p) ⊎ (q ≡ s) → i < d w.thread
            go (inl e) = omega (arith, d-is w.thread (eight i w h), S.below i w h (subst (Reach v i H) e x))
            go (inr e) = omega (arith, d-is w.thread (eight i w h), G.below i w h (subst (Reach v i H) e x), at_below h)

        more : (u : ℕ) → u < 8 → (p ≡ of_thread u) ⊎ (c u ≤ length H) → (p ≡ of_thread u) ⊎ (d u ≤ suc (length H))
        more u h (inl e) = inl e
        more u h (inr k) = inr (omega (arith, d-is u h))

        own : (t : ℕ) → p ≡ of_thread t → 4096 ≤ d t
        own t e = omega (arith, d-is t (few t e), S.own t e)

  pub kept_fed : {c : ℕ → ℕ} (d : ℕ → ℕ) → Feeds v r p → Eight H → ((u : ℕ) → u < 8 → d u ≡ cond (eqb r.thread u) (suc (length H)) (c u)) → Kept v H p c
      → Kept v (r ∷ H) p d
  kept_fed {c} d o eight d-is S = record { last = λ u h k. latest u h k (ℕ_discrete r.thread u); all = all }
    where
      other : (u : ℕ) → u < 8 → (r.thread ≡ u → ⊥) → d u ≡ c u
      other u h n = d-is u h ∙ rw (ne_eqb r.thread u n)

      itself : d r.thread ≡ suc (length H)
      itself = d-is r.thread thread_below ∙ rw (eq-eqb r.thread r.thread refl)

      latest : (u : ℕ) → u < 8 → 0 < d u → Dec (r.thread ≡ u) → LastOf v (r ∷ H) p u (d u)
      latest u h k (yes e) =
          record { index = length H; feeder = r; at_index = here refl; feeds = o; by_thread = e; time_is = ap d (sym e) ∙ itself }
      latest u h k (no n) =
          let l = S.last u h (subst (λ (x : ℕ). 0 < x) (other u h n) k) in
          record {
            index = l.index;
            feeder = l.feeder;
            at_index = back l.at_index;
            feeds = l.feeds;
            by_thread = l.by_thread;
            time_is = other u h n ∙ l.time_is;
          }

      all : (i : ℕ) (w : Record) → At (r ∷ H) i w → Feeds v w p → i < d w.thread
      all i w (here e) x = omega (arith, itself)
      all i w (back h) x = go (ℕ_discrete r.thread w.thread)
        where
          go : Dec (r.thread ≡ w.thread) → i < d w.thread
          go (yes e) = let b = at_below h in let k : d w.thread ≡ suc (length H) = ap d (sym e) ∙ itself in omega arith
          go (no n) = omega (arith, other w.thread (eight i w h) n, S.all i w h x)

-- ---- the test of an access

module _ (v : Version) (H : List Record) (r : Record) (plain : T (is_plain r.kind)) {own heard : ℕ → ℕ} (S : Heard v H (of_thread r.thread) own)
    (K : Kept v H (held r) heard) where
  pub lower→clash : (u : ℕ) → u < 8 → own u < heard u → Clash v H r
  lower→clash u h k =
      let l = K.last u h (omega arith) in
      record {
        index = l.index;
        other = l.feeder;
        at_index = l.at_index;
        conflict = held_conflict v l.feeder r plain l.feeds;
        no_reach = λ x.
            let b : l.index < own u = subst (λ (t : ℕ). l.index < own t) l.by_thread (S.below l.index l.feeder l.at_index x) in
            omega (arith, l.time_is);
      }

  pub clash→lower : Eight H → Clash v H r → (u : ℕ) × ((u < 8) × (own u < heard u))
  clash→lower eight c = (c.other.thread, (eight c.index c.other c.at_index, go (dec_lt c.index (own c.other.thread))))
    where
      go : Dec (c.index < own c.other.thread) → own c.other.thread < heard c.other.thread
      go (yes k) = absurd (c.no_reach (S.reaches c.index c.other c.at_index k))
      go (no k) = omega (arith, K.all c.index c.other c.at_index (conflict_held v c.other r c.conflict))
