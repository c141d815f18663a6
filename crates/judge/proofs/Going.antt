-- What the pass keeps: its table shows the clocks of the records so far by the numbers of their places, and no record so far is an unordered access.
-- Assumes nothing.
use Prim.Native.Nat.{ℕ, ◌+◌, ◌/◌, ◌<◌, ◌≤◌}
use native.Mathlib.Omega.{arith}
use native.Mathlib.Decide.{ℕ_discrete}
use mathlib.Core.Path.{◌≡◌, refl, sym, ap, subst, ◌∙◌}
use mathlib.Core.List.{List, []}
use mathlib.Core.Logic.{◌⊎◌, inl, inr}
use mathlib.Core.Option.{none}
use lib.ListN.{length, replicate, length-replicate, get_or-replicate}
use borrow.Author.Tests.{lt-ltb, le-ltb}
use Rattle.format.specs.Version.{Version}
use Rattle.format.proofs.Filled.{repeated, zeros}
use Rattle.log_records.specs.Record.{Record}
use Rattle.log_records.specs.Packed.{record_count, log_of}
use Rattle.log_records.specs.Refusals.{log_refusal}
use Rattle.log_records.proofs.RoundTrip.{count_log}
use Rattle.log_records.proofs.Tidy.{tidy_at}
use Rattle.log_records.proofs.Accepted.{accepted_tidy}
use Rattle.log_order.proofs.Past.{past, past_zero, at_within}
use Rattle.log_order.proofs.Ports.{Port, of_thread, of_monitor, of_volatile, of_accesses, of_writes}
use Rattle.log_conflicts.specs.Conflicts.{Conflicting}
use Rattle.log_conflicts.specs.Judge.{Names, names_none}
use Rattle.log_conflicts.proofs.FirstConflict.{Threads}
use Rattle.log_conflicts.proofs.RowClocks.{heard_start, kept_start}
use Rattle.log_clocks.specs.Inner.Rows.{Row, clock_of, no_row, row_at}
use Rattle.log_places.specs.Inner.Places.{numbers_of, given_of}
use Rattle.log_rows.specs.Inner.Rows.{place_row}
use Rattle.log_row_stores.specs.Inner.Table.{Sound, clock_at, Started}
use Rattle.judge.specs.Inner.Clear.{Clear}
use Rattle.judge.proofs.PlaceNumbers.{Places, places_first}
use Rattle.judge.proofs.PortRows.{row_of, Valid}
use Rattle.judge.proofs.Table.{Shown, Shows, Blank, clocks}

-- the records before record i, newest first
abbrev pub before : List ℕ → ℕ → List Record
before b i = past (log_of b) i

pub record Going (v : Version) (b : List ℕ) (places i : ℕ) (N : List ℕ) (given : ℕ) (rows : List Row) : Type 0 where
  pub most : places ≤ 1024
  pub room : place_row places + 2 < length rows
  pub sound : Sound rows
  pub numbers : Places N given
  pub few : given < 1024 → given ≤ i
  pub within : given ≤ places
  pub blank : Blank given rows
  pub shows : Shows v (before b i) N rows
  pub none_late : (j : ℕ) → j < i → Conflicting v (log_of b) j → ⊥

-- ---- the start

module _ (v : Version) (places : ℕ) (rows after : List Row) (C : Clear places rows) (A : Started 8 rows after) where
  no_clock : (q u : ℕ) → (q < 8 → q ≡ u → ⊥) → clock_at after q u ≡ 0
  no_clock q u n = A.others q u n ∙ C.zero q u

  abbrev N : List ℕ
  N = numbers_of places (replicate 1024 0)

  abbrev given : ℕ
  given = given_of places 0

  -- none is given, or all
  given_first : (given < 1024 → given ≤ 0) × (given ≤ places) × (places ≤ 1024)
  given_first = go C.most
    where
      go : (places ≤ 255) ⊎ (places ≡ 1024) → (given < 1024 → given ≤ 0) × (given ≤ places) × (places ≤ 1024)
      go (inl h) = rw (le-ltb 255 places h) (λ k. omega arith, omega arith, omega arith)
      go (inr h) = rw (lt-ltb 255 places (omega arith)) (λ k. omega arith, omega arith, omega arith)

  shown_start : (p : Port) → Valid p → Shown v [] p (clocks N after p)
  shown_start (of_thread q) w = heard_start v (of_thread q) (clocks N after (of_thread q)) (λ u h. go u (ℕ_discrete q u)) own
    where
      go : (u : ℕ) → Dec (q ≡ u) → (of_thread q ≡ of_thread u) ⊎ (clock_at after q u ≡ 0)
      go u (yes e) = inl (ap of_thread e)
      go u (no n) = inr (no_clock q u (λ h. n))

      own : (t : ℕ) → of_thread q ≡ of_thread t → 4096 ≤ clock_at after q t
      own t e = let same : q ≡ t = cc in let k : clock_at after q t ≡ 32767 = subst (λ (x : ℕ). clock_at after q x ≡ 32767) same (A.own q w) in omega arith
  shown_start (of_monitor o) w =
      heard_start v (of_monitor o) (clocks N after (of_monitor o)) (λ u h. inr (no_clock (row_of N (of_monitor o)) u (λ k. absurd (omega arith))))
      (λ t e. absurd (apart e))
    where
      apart : {t : ℕ} → of_monitor o ≡ of_thread t → ⊥
      apart e = let z : ◌≡◌ {A = ℕ} 0 1 = cc in omega arith
  shown_start (of_volatile o f) w =
      heard_start v (of_volatile o f) (clocks N after (of_volatile o f)) (λ u h. inr (no_clock (row_of N (of_volatile o f)) u (λ k. absurd (omega arith))))
      (λ t e. absurd (apart e))
    where
      apart : {t : ℕ} → of_volatile o f ≡ of_thread t → ⊥
      apart e = let z : ◌≡◌ {A = ℕ} 0 1 = cc in omega arith
  shown_start (of_accesses o f) w =
      kept_start v (of_accesses o f) (clocks N after (of_accesses o f)) (λ u h. no_clock (row_of N (of_accesses o f)) u (λ k. absurd (omega arith)))
  shown_start (of_writes o f) w =
      kept_start v (of_writes o f) (clocks N after (of_writes o f)) (λ u h. no_clock (row_of N (of_writes o f)) u (λ k. absurd (omega arith)))

  pub going_start : (b : List ℕ) → Going v b places 0 (numbers_of places (replicate 1024 0)) (given_of places 0) after
  unfolding Shows Blank
  going_start b =
      record {
        most = given_first.2;
        room = omega (arith, C.room, A.long);
        sound = A.sound;
        numbers = places_first places;
        few = given_first.0;
        within = given_first.1;
        blank = λ k q x y d u h. no_clock q u (λ l. absurd (omega arith));
        shows = λ p w. rw (past_zero (log_of b)) (shown_start p w);
        none_late = λ j h. absurd (omega arith);
      }

-- rows that are all clear
pub clear_rows : (places long : ℕ) → (places ≤ 255) ⊎ (places ≡ 1024) → place_row places + 2 < long → Clear places (replicate long (replicate 8 0))
clear_rows places long h k =
    record {
      most = h;
      room = subst (λ (m : ℕ). place_row places + 2 < m) (sym (length-replicate {A = Row} long (replicate 8 0))) k;
      sound = record { wide = wide; low = λ q u. omega (arith, zero q u) };
      zero = zero;
    }
  where
    zero : (q u : ℕ) → clock_at (replicate long (replicate 8 0)) q u ≡ 0
    zero q u = repeated long q (replicate 8 0) no_row (λ (r : Row). clock_of r u ≡ 0) (zeros 8 u) refl

    wide : (q : ℕ) → q < length (replicate {A = Row} long (replicate 8 0)) → length (row_at (replicate long (replicate 8 0)) q) ≡ 8
    wide q b =
        ap length (get_or-replicate {A = Row} long q (replicate 8 0) no_row (omega (arith, length-replicate {A = Row} long (replicate 8 0))))
        ∙ length-replicate {A = ℕ} 8 0

pub threads : (b : List ℕ) → log_refusal b ≡ none → Threads (log_of b)
threads b ok i w h = (tidy_at (log_of b) (accepted_tidy b ok) i w h).thread_below

-- the whole log is passed
pub none_named : {v : Version} {b : List ℕ} {places i : ℕ} {N : List ℕ} {given : ℕ} {rows : List Row} → Going v b places i N given rows
    → length b / 3 ≤ i → Names v (log_of b) none
unfolding record_count
none_named {b = b} G h = names_none (λ j c. G.none_late j (let k = at_within (log_of b) j c.access c.at_j in omega (arith, count_log b)) c)
