-- The search for the last earlier access that conflicts with a given one and has no chain to it: none later is one. Assumes nothing.
use Prim.Native.Nat.{ℕ, zero, suc, ◌/◌, ◌<◌, ◌≤◌}
use native.Mathlib.Omega.{arith}
use native.Mathlib.Decide.{ℕ_discrete}
use mathlib.Core.Path.{◌≡◌, refl, sym, ap, ◌∙◌, subst as along}
use mathlib.Core.Bool.{Bool, true, false, ◌&&◌, ◌||◌, not, true≢false}
use mathlib.Core.List.{List}
use mathlib.Core.Logic.{◌⊎◌, inl, inr, ⊎_elim}
use lib.Dec.{T, eqb, ltb}
use lib.ListN.{length}
use borrow.Author.Tests.{eq-eqb, eqb-true, lt-ltb, ltb-true}
use Rattle.format.specs.Version.{Version}
use Rattle.log_records.specs.Record.{Kind, Record, is_plain}
use Rattle.log_records.specs.Packed.{kind_of, record_at, log_of}
use Rattle.log_order.specs.Accesses.{is_write}
use Rattle.log_order.specs.Chains.{At, Chain}
use Rattle.log_order.proofs.Past.{at_within}
use Rattle.log_conflicts.specs.Conflicts.{Conflict, Conflicting}
use Rattle.log_records.proofs.RoundTrip.{length_log}
use Rattle.log_packing.specs.declared.Columns.{Columns}
use Rattle.log_packing.specs.Inner.Columns.{ReadAt}
use Rattle.log_packing.proofs.Decoded.{kind_is_kind}
use Rattle.log_clocks.specs.Inner.Rows.{Row, clock_of}
use Rattle.log_arrows.specs.Inner.Newest.{Heard, Newest}
use Rattle.log_arrows.proofs.Chains.{chain_before, chain_on, thread_chain}
use Rattle.text_race_lines.proofs.Records.{at_once, record_here}
use Rattle.text_judge_lines.specs.Inner.Search.{conflict_test, Named, LastOf}

-- ---- truth values

holds : (x : Bool) → T x → x ≡ true
holds true t = refl
holds false t = elim t [ ]

held : (x : Bool) → x ≡ true → T x
held true e = tt
held false e = absurd (true≢false (sym e))

both : (x y : Bool) → (x && y) ≡ true → (x ≡ true) × (y ≡ true)
both true y h = (refl, h)
both false y h = absurd (true≢false (sym h))

one_of : (x y : Bool) → (x || y) ≡ true → T x ⊎ T y
one_of true y e = inl tt
one_of false y e = inr (held y e)

or_true : (x y : Bool) → T x ⊎ T y → (x || y) ≡ true
or_true true y h = refl
or_true false y h = ⊎_elim (λ e. absurd e) (λ e. holds y e) h

not_true : (x : Bool) → not x ≡ true → T x → ⊥
not_true true e t = true≢false (sym e)
not_true false e t = t

not_false_lem : (x : Bool) → (T x → ⊥) → not x ≡ true
not_false_lem true n = absurd (n tt)
not_false_lem false n = refl

-- ---- the code's test of two records

kind_here : {b : List ℕ} {i : ℕ} {c : Columns} → ReadAt b i c → kind_of c.kind ≡ (record_at b i).kind
kind_here {b} {i} R = ap kind_of R.kind_is ∙ sym (kind_is_kind b i)

module _ {b : List ℕ} {j i : ℕ} {w x : Columns} (W : ReadAt b i w) (X : ReadAt b j x) where
  test→ : conflict_test w x ≡ true → T (is_plain (record_at b j).kind) → Conflict (record_at b i) (record_at b j)
  unfolding conflict_test
  test→ t later =
      let d = both ((is_plain (kind_of w.kind) && (is_write (kind_of w.kind) || is_write (kind_of x.kind))) && eqb w.object x.object)
      (eqb w.field x.field) t in
      let e = both (is_plain (kind_of w.kind) && (is_write (kind_of w.kind) || is_write (kind_of x.kind))) (eqb w.object x.object) d.0 in
      let f = both (is_plain (kind_of w.kind)) (is_write (kind_of w.kind) || is_write (kind_of x.kind)) e.0 in
      record {
        earlier_plain = along (λ (k : Kind). T (is_plain k)) (kind_here W) (held _ f.0);
        later_plain = later;
        same_object = sym W.object_is ∙ eqb-true w.object x.object e.1 ∙ X.object_is;
        same_field = sym W.field_is ∙ eqb-true w.field x.field d.1 ∙ X.field_is;
        one_writes = ⊎_elim (λ p. inl (along (λ (k : Kind). T (is_write k)) (kind_here W) p)) (λ p. inr (along (λ (k : Kind). T (is_write k)) (kind_here X) p))
            (one_of (is_write (kind_of w.kind)) (is_write (kind_of x.kind)) f.1);
      }

  test← : Conflict (record_at b i) (record_at b j) → conflict_test w x ≡ true
  unfolding conflict_test
  test← c =
      let p : is_plain (kind_of w.kind) ≡ true = ap is_plain (kind_here W) ∙ holds _ c.earlier_plain in
      let one : (is_write (kind_of w.kind) || is_write (kind_of x.kind)) ≡ true
      = ap (λ (k : Kind). is_write k || is_write (kind_of x.kind)) (kind_here W)
      ∙ ap (λ (k : Kind). is_write (record_at b i).kind || is_write k) (kind_here X)
      ∙ or_true (is_write (record_at b i).kind) (is_write (record_at b j).kind) c.one_writes in
      let o : eqb w.object x.object ≡ true = eq-eqb w.object x.object (W.object_is ∙ c.same_object ∙ sym X.object_is) in
      let f : eqb w.field x.field ≡ true = eq-eqb w.field x.field (W.field_is ∙ c.same_field ∙ sym X.field_is) in
      rw (p, one, o, f)

-- ---- the search

-- every access that is sought comes before `index`
abbrev pub Earlier : Version → List ℕ → ℕ → ℕ → Type 0
Earlier v b j index = (d : Conflicting v (log_of b) j) → d.index < index

-- the record that the judge names is one of the log
pub inside : {v : Version} (b : List ℕ) (j : ℕ) → Conflicting v (log_of b) j → j < length b / 3
inside b j c = omega (arith, at_within (log_of b) j c.access c.at_j, length_log b)

-- a row says what record j has heard of each thread
pub record HeardBy (v : Version) (b : List ℕ) (j : ℕ) (row : Row) : Type 0 where
  pub newest : (u : ℕ) → u < 8 → Newest v (log_of b) j u (clock_of row u)

-- it has heard of earlier records alone
pub heard_most : {v : Version} {b : List ℕ} {j : ℕ} {row : Row} → HeardBy v b j row → (u : ℕ) → u < 8 → clock_of row u ≤ j
heard_most {v} {b} {j} {row} R u h = go (clock_of row u) (R.newest u h)
  where
    go : (n : ℕ) → Newest v (log_of b) j u n → n ≤ j
    go zero N = omega arith
    go (suc m) N = chain_before (N.is_heard m refl).chain

-- it has heard of record i exactly where a chain leads from i to j
module _ {v : Version} {b : List ℕ} {j i : ℕ} {w : Columns} {row : Row} (R : HeardBy v b j row) (W : ReadAt b i w) (within : i < length b / 3) where
  chain→heard : Chain v (log_of b) i j → ltb i (clock_of row w.thread) ≡ true
  chain→heard k = lt-ltb i (clock_of row w.thread) ((R.newest w.thread W.narrow.thread_below).none_newer i
      (record { by = record_at b i; at = record_here b i within; of_thread = sym W.thread_is; chain = k }))

  newest→chain : (n : ℕ) → Newest v (log_of b) j w.thread n → i < n → Chain v (log_of b) i j
  newest→chain zero N h = absurd (omega arith)
  newest→chain (suc m) N h = go (ℕ_discrete i m) (N.is_heard m refl)
    where
      go : Dec (i ≡ m) → Heard v (log_of b) j w.thread m → Chain v (log_of b) i j
      go (yes e) d = along (λ (n : ℕ). Chain v (log_of b) n j) (sym e) d.chain
      go (no n) d = chain_on (thread_chain v (log_of b) i m (record_at b i) d.by (record_here b i within) d.at (sym W.thread_is ∙ sym d.of_thread)
          (omega (arith, n))) d.chain

  heard→chain : ltb i (clock_of row w.thread) ≡ true → Chain v (log_of b) i j
  heard→chain e = newest→chain (clock_of row w.thread) (R.newest w.thread W.narrow.thread_below) (ltb-true i (clock_of row w.thread) e)

module _ {v : Version} {b : List ℕ} {j i : ℕ} {w x : Columns} {row : Row} (N : Named v b j) (R : HeardBy v b j row) (W : ReadAt b i w) (X : ReadAt b j x)
    (less : i < j) {z : Bool} (same : z ≡ conflict_test w x) where
  abbrev named : Conflicting v (log_of b) j
  named = N.conflicting

  within : i < length b / 3
  within = let h = inside b j named in omega arith

  -- the code's test
  abbrev pub test : Bool
  test = z && not (ltb i (clock_of row w.thread))

  later_plain : T (is_plain (record_at b j).kind)
  later_plain =
      along (λ (r : Record). T (is_plain r.kind)) (at_once (log_of b) j named.at_j (record_here b j (inside b j named))) named.conflict.later_plain

  -- it is passed by
  pub passed : test ≡ false → Earlier v b j (suc i) → Earlier v b j i
  passed t h d = go (ℕ_discrete d.index i) (h d)
    where
      go : Dec (d.index ≡ i) → d.index < suc i → d.index < i
      go (no n) q = omega (arith, n)
      go (yes e) q =
          let there = along (λ (n : ℕ). At (log_of b) n d.other) e d.at_index in
          let other : d.other ≡ record_at b i = at_once (log_of b) i there (record_here b i within) in
          let access : d.access ≡ record_at b j = at_once (log_of b) j d.at_j (record_here b j (inside b j d)) in
          let conflict : Conflict (record_at b i) (record_at b j) =
          along (λ (r : Record). Conflict r (record_at b j)) other (along (λ (r : Record). Conflict d.other r) access d.conflict) in
          let apart : Chain v (log_of b) i j → ⊥ = along (λ (n : ℕ). Chain v (log_of b) n j → ⊥) e d.no_chain in
          let left : not (ltb i (clock_of row w.thread)) ≡ true =
          not_false_lem (ltb i (clock_of row w.thread)) (λ k. apart (heard→chain R W within (holds (ltb i (clock_of row w.thread)) k))) in
          absurd (true≢false (rw (same ∙ test← W X conflict, left) at t))

  -- or it is the last
  pub found : test ≡ true → Earlier v b j (suc i) → LastOf v b j i
  found t h =
      let d = both z (not (ltb i (clock_of row w.thread))) t in
      record {
        last = record {
          access = record_at b j;
          at_j = record_here b j (inside b j named);
          other = record_at b i;
          index = i;
          at_index = record_here b i within;
          before = less;
          conflict = test→ W X (sym same ∙ d.0) later_plain;
          no_chain = λ k. not_true (ltb i (clock_of row w.thread)) d.1 (held (ltb i (clock_of row w.thread)) (chain→heard R W within k));
        };
        index_is = refl;
        latest = λ e. let q = h e in omega arith;
      }

-- where there is one, the search does not come to its end
pub not_none : {v : Version} {b : List ℕ} {j : ℕ} → Named v b j → Earlier v b j 0 → ⊥
not_none N h = let q = h N.conflicting in omega arith
