-- The rows show the marks of every port that a record can draw from, and go on showing them as a record is passed. Assumes nothing.
use Prim.Native.Nat.{ℕ, suc, ◌<◌, ◌≤◌, max}
use native.Mathlib.Omega.{arith}
use native.Mathlib.Decide.{ℕ_discrete}
use mathlib.Core.Path.{◌≡◌, refl, sym, ap, ap₂, subst, ◌∙◌}
use mathlib.Core.Bool.{Bool, true, false, cond}
use mathlib.Core.List.{List, ◌∷◌}
use mathlib.Core.Logic.{◌⊎◌, inl, inr}
use mathlib.Core.Option.{Option, some, none}
use lib.Dec.{eqb}
use lib.ListN.{length, set, length-set}
use lib.Seq.{get_or-set_same, get_or-set_other}
use Rattle.format.specs.Version.{Version}
use Rattle.log_records.specs.Record.{Record}
use Rattle.log_order.proofs.Tests.{cond_true, cond_false}
use Rattle.log_order.proofs.Ports.{Port, of_thread, Feeds}
use Rattle.log_conflicts.proofs.Clock.{feeds, second, reading, gather, feeds→, feeds←}
use Rattle.log_clocks.specs.Inner.Rows.{Row, clock_of, no_row, row_at, Raised}
use Rattle.log_arrows.specs.Inner.Links.{Marked}
use Rattle.log_arrows.proofs.Marks.{mark, heard, mark_bound}
use Rattle.log_arrows.proofs.Ports.{row_of, Link, thread, link_below, row_once, port_or, source_port, target_port, Fits, source_link, target_link}
use Rattle.log_arrows.proofs.Ports.{target_feeds, fed_one_of}

-- ---- the mark of a port after a record

abbrev pub gathered : Version → List Record → Record → ℕ → ℕ
gathered v H r u = gather v (mark v H) (λ w. length H) r u

mark_fed : (v : Version) (r : Record) (H : List Record) (p : Port) (u : ℕ) → Feeds v r p → mark v (r ∷ H) p u ≡ max (mark v H p u) (gathered v H r u)
mark_fed v r H p u o = cond_true (feeds v r p) (max (mark v H p u) (gathered v H r u)) (mark v H p u) (feeds← v r p o)

mark_unfed : (v : Version) (r : Record) (H : List Record) (p : Port) (u : ℕ) → (Feeds v r p → ⊥) → mark v (r ∷ H) p u ≡ mark v H p u
mark_unfed v r H p u n = cond_false (feeds v r p) (max (mark v H p u) (gathered v H r u)) (mark v H p u) (λ h. n (feeds→ v r p h))

own_max : (c : Bool) (A B n : ℕ) → A ≤ n → max A (cond c (suc n) (max A B)) ≡ cond c (suc n) (max A B)
own_max true A B n h = omega arith
own_max false A B n h = omega arith

mark_own : (v : Version) (r : Record) (H : List Record) (u : ℕ) → mark v (r ∷ H) (of_thread r.thread) u ≡ gathered v H r u
mark_own v r H u =
    mark_fed v r H (of_thread r.thread) u (inl refl)
    ∙ own_max (eqb r.thread u) (mark v H (of_thread r.thread) u) (reading (mark v H) (second v r) u) (length H) (mark_bound v H (of_thread r.thread) u)

-- what a second port gives is the reading of it
source_reads : (c : Port → ℕ → ℕ) (t u : ℕ) (m : Option Port) → max (c (of_thread t) u) (c (port_or t m) u) ≡ max (c (of_thread t) u) (reading c m u)
source_reads c t u none = omega arith
source_reads c t u (some p) = refl

-- ---- the table

unfoldable pub Shows : Version → List Record → List Row → Type 0
Shows v H rows = (p : Port) → Link p → (u : ℕ) → u < 8 → clock_of (row_at rows (row_of p)) u ≡ mark v H p u

module _ (v : Version) (r : Record) (H : List Record) (rows : List Row) (fits : Fits r) (long : length rows ≡ 1088) (S : Shows v H rows) where
  abbrev from : ℕ
  from = row_of (source_port v r)

  abbrev to : ℕ
  to = row_of (target_port v r)

  own_link : Link (of_thread r.thread)
  own_link = thread {q = r.thread} (omega (arith, fits.thread_fits))

  module _ (known moved told : Row) (A : Raised (row_at rows r.thread) (row_at rows from) known) (M : Marked known r.thread (suc (length H)) moved)
      (B : Raised (row_at rows to) moved told) where
    pub known_heard : (u : ℕ) → u < 8 → clock_of known u ≡ heard v H r u
    unfolding Shows
    known_heard u h =
        A.clocks_are u h ∙ ap₂ max (S (of_thread r.thread) own_link u h) (S (source_port v r) (source_link v r fits) u h)
        ∙ source_reads (mark v H) r.thread u (second v r)

    moved_gathered : (u : ℕ) → u < 8 → clock_of moved u ≡ gathered v H r u
    moved_gathered u h = M.clocks_are u h ∙ ap (cond (eqb r.thread u) (suc (length H))) (known_heard u h)

    abbrev one : List Row
    one = set rows r.thread moved

    abbrev pub next_rows : List Row
    next_rows = set one to told

    pub next_long : length next_rows ≡ 1088
    next_long = length-set one to told ∙ length-set rows r.thread moved ∙ long

    to_one : to < length one
    to_one = omega (arith, length-set rows r.thread moved, long, link_below (target_link v r fits))

    to_row : row_at next_rows to ≡ told
    to_row = get_or-set_same one to told no_row to_one

    own_row : (q : ℕ) → (q ≡ to → ⊥) → q ≡ r.thread → row_at next_rows q ≡ moved
    own_row q n e = get_or-set_other one to q told no_row n ∙ ap (row_at one) e
        ∙ get_or-set_same rows r.thread moved no_row (omega (arith, fits.thread_fits, long))

    other_row : (q : ℕ) → (q ≡ to → ⊥) → (q ≡ r.thread → ⊥) → row_at next_rows q ≡ row_at rows q
    other_row q n k = get_or-set_other one to q told no_row n ∙ get_or-set_other rows r.thread q moved no_row k

    pub shows_step : Shows v (r ∷ H) next_rows
    unfolding Shows
    shows_step p l u h = go (ℕ_discrete (row_of p) to) (ℕ_discrete (row_of p) r.thread)
      where
        Goal : Port → Type 0
        Goal q = clock_of (row_at next_rows (row_of q)) u ≡ mark v (r ∷ H) q u

        -- a port with the row of another is that port
        only : (q : Port) → Link q → row_of p ≡ row_of q → Goal q → Goal p
        only q k e = subst Goal (sym (row_once l k e))

        unfed : (row_of p ≡ to → ⊥) → (row_of p ≡ r.thread → ⊥) → Feeds v r p → ⊥
        unfed a b o = which (fed_one_of v r l o)
          where
            which : (p ≡ of_thread r.thread) ⊎ (p ≡ target_port v r) → ⊥
            which (inl k) = b (ap row_of k)
            which (inr k) = a (ap row_of k)

        go : Dec (row_of p ≡ to) → Dec (row_of p ≡ r.thread) → Goal p
        go (yes e) y =
            only (target_port v r) (target_link v r fits) e
            (ap (λ (x : Row). clock_of x u) to_row ∙ B.clocks_are u h ∙ ap₂ max (S (target_port v r) (target_link v r fits) u h) (moved_gathered u h)
            ∙ sym (mark_fed v r H (target_port v r) u (target_feeds v r)))
        go (no e) (yes k) =
            only (of_thread r.thread) own_link k
            (ap (λ (x : Row). clock_of x u) (own_row r.thread (λ q. e (k ∙ q)) refl) ∙ moved_gathered u h ∙ sym (mark_own v r H u))
        go (no e) (no k) = ap (λ (x : Row). clock_of x u) (other_row (row_of p) e k) ∙ S p l u h ∙ sym (mark_unfed v r H p u (unfed e k))
