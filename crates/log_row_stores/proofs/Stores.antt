-- Stores to the table of rows: what they make of it. Assumes nothing.
use Prim.Native.Nat.{ℕ, ◌+◌, ◌<◌}
use native.Mathlib.Omega.{arith}
use native.Mathlib.Decide.{ℕ_discrete, dec_lt}
use mathlib.Core.Path.{◌≡◌, refl, sym, ap, subst, ◌∙◌}
use mathlib.Core.Bool.{cond}
use mathlib.Core.List.{List}
use lib.Dec.{eqb}
use lib.ListN.{length, set, length-set, get_or-eq_default}
use lib.Seq.{get_or-set_same, get_or-set_other}
use borrow.Author.Tests.{ne_eqb, eq-eqb}
use Rattle.log_clocks.specs.Inner.Rows.{Row, Low, clock_of, no_row, row_at, RaisedTo}
use Rattle.log_row_stores.specs.Inner.Table.{Sound, clock_at, Stored, Keeps, Hears, Told, Started}

module _ (rows : List Row) (q : ℕ) (sound : Sound rows) (inside : q < length rows) where
  stored : (row : Row) → length row ≡ 8 → Low row → Stored q rows (set rows q row)
  stored row eight low =
      record {
        long = length-set rows q row;
        sound = record { wide = wide_after; low = low_after };
        others = λ p n. get_or-set_other rows q p row no_row n;
      }
    where
      low_after : (p : ℕ) → Low (row_at (set rows q row) p)
      low_after p u = go (ℕ_discrete p q)
        where
          go : Dec (p ≡ q) → clock_of (row_at (set rows q row) p) u < 32768
          go (yes e) = subst (λ (x : ℕ). clock_of (row_at (set rows q row) x) u < 32768) (sym e)
              (subst (λ (x : Row). clock_of x u < 32768) (sym (get_or-set_same rows q row no_row inside)) (low u))
          go (no n) = subst (λ (x : Row). clock_of x u < 32768) (sym (get_or-set_other rows q p row no_row n)) (sound.low p u)

      wide_after : (p : ℕ) → p < length (set rows q row) → length (row_at (set rows q row) p) ≡ 8
      wide_after p h = go (ℕ_discrete p q)
        where
          go : Dec (p ≡ q) → length (row_at (set rows q row) p) ≡ 8
          go (yes e) = ap (λ (x : ℕ). length (row_at (set rows q row) x)) e ∙ ap length (get_or-set_same rows q row no_row inside) ∙ eight
          go (no n) = ap length (get_or-set_other rows q p row no_row n) ∙ sound.wide p (omega (arith, length-set rows q row))

  -- the row that is stored
  row_is : (row : Row) (u : ℕ) → clock_of (row_at (set rows q row) q) u ≡ clock_of row u
  row_is row u = ap (λ (r : Row). clock_of r u) (get_or-set_same rows q row no_row inside)

  -- a raised row is no higher than those that it is of
  raised_low : (p time : ℕ) (row : Row) → RaisedTo time (row_at rows q) (row_at rows p) row → Low row
  raised_low p time row R u = go (dec_lt u 8)
    where
      go : Dec (u < 8) → clock_of row u < 32768
      go (yes h) = let a = sound.low q u in let b = sound.low p u in omega (arith, R.clocks_are u h)
      go (no h) = let none : clock_of row u ≡ 0 = get_or-eq_default row 0 {n = u} (omega (arith, R.wide)) in omega arith

  pub told_by : (p time : ℕ) (row : Row) → RaisedTo time (row_at rows q) (row_at rows p) row → Told q p time rows (set rows q row)
  told_by p time row R = record { stored = stored row R.wide (raised_low p time row R); clocks_are = λ u h. row_is row u ∙ R.clocks_are u h }

  pub heard_by : (p : ℕ) (row : Row) → RaisedTo 32767 (row_at rows q) (row_at rows p) row → Hears q p rows (set rows q row)
  heard_by p row R =
      record {
        stored = stored row R.wide (raised_low p 32767 row R);
        clocks_are = λ u h. let b = sound.low p u in row_is row u ∙ omega (arith, R.clocks_are u h);
      }

  pub kept_by : (t time : ℕ) → t < 8 → time < 32768 → Keeps q t time rows (set rows q (set (row_at rows q) t time))
  kept_by t time below early =
      record {
        stored = stored (set (row_at rows q) t time) (length-set (row_at rows q) t time ∙ sound.wide q inside) low;
        clocks_are = λ u h. row_is (set (row_at rows q) t time) u ∙ clock u (ℕ_discrete t u);
      }
    where
      clock : (u : ℕ) → Dec (t ≡ u) → clock_of (set (row_at rows q) t time) u ≡ cond (eqb t u) time (clock_of (row_at rows q) u)
      clock u (yes e) =
          rw (eq-eqb t u e) (ap (clock_of (set (row_at rows q) t time)) (sym e) ∙ get_or-set_same (row_at rows q) t time 0 (omega (arith, sound.wide q inside)))
      clock u (no n) = rw (ne_eqb t u n) (get_or-set_other (row_at rows q) t u time 0 (λ e. n (sym e)))

      low : Low (set (row_at rows q) t time)
      low u = go (ℕ_discrete t u)
        where
          go : Dec (t ≡ u) → clock_of (set (row_at rows q) t time) u < 32768
          go (yes e) = subst (λ (x : ℕ). x < 32768) (sym (clock u (yes e) ∙ rw (eq-eqb t u e))) early
          go (no n) = subst (λ (x : ℕ). x < 32768) (sym (clock u (no n) ∙ rw (ne_eqb t u n))) (sound.low q u)

-- ---- the threads' own clocks

pub started_none : (rows : List Row) → Sound rows → Started 0 rows rows
started_none rows sound = record { long = refl; sound = sound; own = λ t h. absurd (omega arith); others = λ q u n. refl }

pub started_eight : (rows after : List Row) (n : ℕ) → n ≡ 8 → Started n rows after → Started 8 rows after
started_eight rows after n e S = rw e at S

pub started_one_more : (rows after : List Row) (n : ℕ) → n < 8 → n < length rows → Started n rows after
    → Started (n + 1) rows (set after n (set (row_at after n) n 32767))
started_one_more rows after n few below S =
    record {
      long = K.stored.long ∙ S.long;
      sound = K.stored.sound;
      own = own_after;
      others = others_after;
    }
  where
    K : Keeps n n 32767 after (set after n (set (row_at after n) n 32767))
    K = kept_by after n S.sound (omega (arith, S.long)) n 32767 few (omega arith)

    own_after : (t : ℕ) → t < n + 1 → clock_at (set after n (set (row_at after n) n 32767)) t t ≡ 32767
    own_after t h = go (ℕ_discrete t n)
      where
        go : Dec (t ≡ n) → clock_at (set after n (set (row_at after n) n 32767)) t t ≡ 32767
        go (yes e) = rw e (K.clocks_are n few ∙ rw (eq-eqb n n refl))
        go (no m) = ap (λ (r : Row). clock_of r t) (K.stored.others t m) ∙ S.own t (omega arith)

    others_after : (q u : ℕ) → (q < n + 1 → q ≡ u → ⊥) → clock_at (set after n (set (row_at after n) n 32767)) q u ≡ clock_at rows q u
    others_after q u m = go (ℕ_discrete q n)
      where
        within : (q ≡ n) → clock_at (set after n (set (row_at after n) n 32767)) n u ≡ clock_at after n u
        within e =
            row_is after n S.sound (omega (arith, S.long)) (set (row_at after n) n 32767) u
            ∙ get_or-set_other (row_at after n) n u 32767 0 (λ g. m (omega arith) (e ∙ sym g))

        go : Dec (q ≡ n) → clock_at (set after n (set (row_at after n) n 32767)) q u ≡ clock_at rows q u
        go (yes e) = ap (λ (x : ℕ). clock_at (set after n (set (row_at after n) n 32767)) x u) e ∙ within e ∙ ap (λ (x : ℕ). clock_at after x u) (sym e)
            ∙ S.others q u (λ h g. m (omega arith) g)
        go (no k) = ap (λ (r : Row). clock_of r u) (K.stored.others q k) ∙ S.others q u (λ h g. m (omega arith) g)
