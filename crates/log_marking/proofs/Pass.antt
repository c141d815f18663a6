-- What the pass keeps: the wanted ports are a state of the definition's pass, from which the rest of it gives the marks, and the marks so far are
-- stored. Assumes nothing.
use Prim.Native.Nat.{ℕ, suc, ◌/◌, ◌<◌, ◌≤◌}
use native.Mathlib.Omega.{arith}
use native.Mathlib.Decide.{ℕ_discrete}
use mathlib.Core.Path.{◌≡◌, refl, sym, ap, ap₂, ◌∙◌, subst as along}
use mathlib.Core.Bool.{Bool, true, false, cond, ◌||◌}
use mathlib.Core.List.{List, ◌∷◌, reverse}
use mathlib.Core.Logic.{◌⊎◌, inl, inr, ◌↔◌}
use lib.Dec.{T, eqb}
use lib.ListN.{length, get_or, set, replicate, length-set, length-replicate}
use lib.Seq.{take_all, get_or-set_same, get_or-set_other}
use borrow.Author.Tests.{eq-eqb, ne_eqb}
use Rattle.format.specs.Version.{v1}
use Rattle.format.proofs.Filled.{repeated}
use Rattle.log_records.specs.Record.{Record}
use Rattle.log_records.specs.Packed.{kind_of, record_at, record_count, log_of}
use Rattle.log_records.proofs.RoundTrip.{count_log, log_element}
use Rattle.log_order.specs.Chains.{Chain}
use Rattle.log_order.proofs.Ports.{Port, of_thread}
use Rattle.log_order.proofs.Past.{past, past_suc, past_length, at→get_d}
use Rattle.log_order.proofs.Newest as N
use Rattle.log_order.proofs.Turned.{chain→, chain←}
use Rattle.log_packing.specs.Inner.Columns.{ReadAt}
use Rattle.log_packing.specs.declared.Columns.{Columns}
use Rattle.log_packing.proofs.Decoded.{kind_is_kind}
use Rattle.side_by_side.proofs.Marks.{Wanted, draws, fed, wanted_after, marks_from, marks_of, targets, marked}
use Rattle.log_marking.specs.Inner.Rows.{drawn_row, fed_row}
use Rattle.log_marking.specs.Inner.Marked.{MarkedIn, SameBeyond}
use Rattle.log_marking.proofs.PortRows.{Valid, row_of, row_below, row_once, drawn_port, fed_port, drawn_valid, fed_valid, drawn_row_lem}
use Rattle.log_marking.proofs.PortRows.{fed_row_lem}
use Rattle.log_marking.proofs.PortTests.{fed_ports, draws_own, draws_drawn, draws_no}

pub record Going (b : List ℕ) (j i left : ℕ) (wanted kept before : List Bool) : Type 0 where
  pub within : left ≤ length b / 3
  pub wanted_long : length wanted ≡ 1088
  pub kept_long : length kept ≡ length before
  pub w : Wanted
  pub shows : (p : Port) → Valid p → get_or wanted (row_of p) false ≡ w p
  pub rest : (k : ℕ) → k < left → marks_from (targets j i) w (past (log_of b) left) k ≡ marks_of (reverse (log_of b)) j i k
  pub done : (k : ℕ) → left ≤ k → k < length b / 3 → get_or kept k false ≡ marks_of (reverse (log_of b)) j i k
  pub beyond : SameBeyond b before kept

whole_past : (b : List ℕ) → past (log_of b) (length b / 3) ≡ reverse (log_of b)
unfolding past record_count
whole_past b = ap reverse (take_all (length b / 3) (log_of b) (omega (arith, count_log b)))

pub going_start : (b : List ℕ) (j i : ℕ) (kept : List Bool) → Going b j i (length b / 3) (replicate 1088 false) kept kept
unfolding marks_of
going_start b j i kept = record {
  within = omega arith;
  wanted_long = length-replicate {A = Bool} 1088 false;
  kept_long = refl;
  w = λ p. false;
  shows = λ p v. repeated 1088 (row_of p) false false (λ (x : Bool). x ≡ false) refl refl;
  rest = λ k h. ap (λ (H : List Record). marks_from (targets j i) (λ p. false) H k) (whole_past b);
  done = λ k h q. absurd (omega arith);
  beyond = λ k h. refl;
}

-- what the pass leaves
pub all_marked : (b : List ℕ) (j i : ℕ) (wanted kept before : List Bool) → Going b j i 0 wanted kept before → MarkedIn b j i kept
all_marked b j i wanted kept before G k h =
    along (λ (x : Bool). T x ↔ (Chain v1 (log_of b) k j ⊎ Chain v1 (log_of b) k i)) (sym (G.done k (omega arith) h))
    (λ t. out ((marked (reverse (log_of b)) j i k).0 t), λ c. (marked (reverse (log_of b)) j i k).1 (into c))
  where
    out : N.Chain v1 (reverse (log_of b)) k j ⊎ N.Chain v1 (reverse (log_of b)) k i → Chain v1 (log_of b) k j ⊎ Chain v1 (log_of b) k i
    out (inl c) = inl (chain→ v1 (log_of b) c)
    out (inr c) = inr (chain→ v1 (log_of b) c)

    into : Chain v1 (log_of b) k j ⊎ Chain v1 (log_of b) k i → N.Chain v1 (reverse (log_of b)) k j ⊎ N.Chain v1 (reverse (log_of b)) k i
    into (inl c) = inl (chain← v1 (log_of b) c)
    into (inr c) = inr (chain← v1 (log_of b) c)

-- ---- at a record

module _ {b : List ℕ} {n : ℕ} {c : Columns} (R : ReadAt b n c) where
  abbrev r : Record
  r = record_at b n

  thread_fits : r.thread < 8
  thread_fits = omega (arith, R.thread_is, R.narrow.thread_below)

  object_fits : r.object < 32
  object_fits = omega (arith, R.object_is, R.narrow.object_below)

  field_fits : r.field < 32
  field_fits = omega (arith, R.field_is, R.narrow.field_below)

  kind_here : r.kind ≡ kind_of c.kind
  kind_here = kind_is_kind b n ∙ ap kind_of (sym R.kind_is)

  pub drawn_is : drawn_row c ≡ row_of (drawn_port r)
  unfolding drawn_row
  drawn_is = rw (R.thread_is, R.object_is, R.field_is, kind_here) (drawn_row_lem r.thread r.object r.field c.kind R.narrow.kind_below)

  pub fed_is : fed_row c ≡ row_of (fed_port r)
  unfolding fed_row
  fed_is = rw (R.thread_is, R.object_is, R.field_is, kind_here) (fed_row_lem r.thread r.object r.field c.kind R.narrow.kind_below)

  drawn_valid_here : Valid (drawn_port r)
  drawn_valid_here = drawn_valid r.kind r.thread r.object r.field thread_fits object_fits field_fits

  fed_valid_here : Valid (fed_port r)
  fed_valid_here = fed_valid r.kind r.thread r.object r.field thread_fits object_fits field_fits

  own_valid_here : Valid (of_thread r.thread)
  own_valid_here = omega (arith, thread_fits)

  pub drawn_below : drawn_row c < 1088
  drawn_below = omega (arith, drawn_is, row_below (drawn_port r) drawn_valid_here)

  pub fed_below : fed_row c < 1088
  fed_below = omega (arith, fed_is, row_below (fed_port r) fed_valid_here)

-- one record
module _ {b : List ℕ} {j i n : ℕ} {wanted kept before : List Bool} {c : Columns} (R : ReadAt b n c) (room : length b / 3 ≤ length before)
    (G : Going b j i (suc n) wanted kept before)
    (from to : ℕ) (own keep goes heard : Bool) (from_is : from ≡ drawn_row c) (to_is : to ≡ fed_row c) (own_is : own ≡ get_or wanted c.thread false)
    (keep-is : keep ≡ (own || get_or wanted to false)) (goes-is : goes ≡ ((keep || eqb n j) || eqb n i))
    (heard-is : heard ≡ get_or (set wanted c.thread (own || goes)) from false) where
  abbrev w : Wanted
  w = G.w

  abbrev own_port : Port
  own_port = of_thread (r R).thread

  thread_is : c.thread ≡ row_of own_port
  thread_is = R.thread_is

  from_row : from ≡ row_of (drawn_port (r R))
  from_row = from_is ∙ drawn_is R

  own_flag : own ≡ w own_port
  own_flag = own_is ∙ ap (λ (q : ℕ). get_or wanted q false) thread_is ∙ G.shows own_port (own_valid_here R)

  keep_flag : keep ≡ fed w (r R)
  keep_flag = keep-is ∙ ap₂ ◌||◌ own_flag (ap (λ (q : ℕ). get_or wanted q false) (to_is ∙ fed_is R) ∙ G.shows (fed_port (r R)) (fed_valid_here R))
      ∙ sym (fed_ports w (r R))

  abbrev C : Bool
  C = fed w (r R) || targets j i n

  or_assoc : (x y z : Bool) → ((x || y) || z) ≡ (x || (y || z))
  or_assoc true y z = refl
  or_assoc false y z = refl

  goes_flag : goes ≡ C
  unfolding targets
  goes_flag = goes-is ∙ or_assoc keep (eqb n j) (eqb n i) ∙ ap (λ (x : Bool). x || (eqb n j || eqb n i)) keep_flag

  mine_flag : (own || goes) ≡ (w own_port || C)
  mine_flag = ap₂ ◌||◌ own_flag goes_flag

  abbrev w₁ : Wanted
  w₁ = wanted_after (targets j i n) w (r R)

  -- where it draws, and where not
  after_drawn : (p : Port) → draws (r R) p ≡ true → w₁ p ≡ (w p || C)
  unfolding wanted_after
  after_drawn p e = go C (w p)
    where
      go : (x y : Bool) → cond x (λ (q : Port). draws (r R) q || w q) w p ≡ (w p || x)
      go true y = ap (λ (z : Bool). z || w p) e ∙ sym (or_true (w p))
        where
          or_true : (z : Bool) → (z || true) ≡ true
          or_true true = refl
          or_true false = refl
      go false y = sym (or_false (w p))
        where
          or_false : (z : Bool) → (z || false) ≡ z
          or_false true = refl
          or_false false = refl

  after_other : (p : Port) → draws (r R) p ≡ false → w₁ p ≡ w p
  unfolding wanted_after
  after_other p e = go C
    where
      go : (x : Bool) → cond x (λ (q : Port). draws (r R) q || w q) w p ≡ w p
      go true = ap (λ (z : Bool). z || w p) e
      go false = refl

  abbrev first : List Bool
  first = set wanted c.thread (own || goes)

  abbrev second : List Bool
  second = set first from (heard || goes)

  from_in : from < length first
  from_in = omega (arith, from_is, drawn_below R, length-set wanted c.thread (own || goes), G.wanted_long)

  -- the thread's flag, and the other's
  first_own : get_or first c.thread false ≡ (w own_port || C)
  first_own = get_or-set_same wanted c.thread (own || goes) false (omega (arith, R.narrow.thread_below, G.wanted_long)) ∙ mine_flag

  absorb : (x y : Bool) → ((x || y) || y) ≡ (x || y)
  absorb true y = refl
  absorb false true = refl
  absorb false false = refl

  drawn_flag : (heard || goes) ≡ (w (drawn_port (r R)) || C)
  drawn_flag = go (ℕ_discrete c.thread from)
    where
      go : Dec (c.thread ≡ from) → (heard || goes) ≡ (w (drawn_port (r R)) || C)
      go (yes e) =
          let same : own_port ≡ drawn_port (r R) = row_once own_port (drawn_port (r R)) (own_valid_here R) (drawn_valid_here R) (sym thread_is ∙ e ∙ from_row) in
          ap₂ ◌||◌ (heard-is ∙ ap (λ (q : ℕ). get_or first q false) (sym e) ∙ first_own) goes_flag ∙ absorb (w own_port) C ∙ ap (λ (p : Port). w p || C) same
      go (no e) =
          ap₂ ◌||◌ (heard-is ∙ get_or-set_other wanted c.thread from (own || goes) false (λ z. e (sym z)) ∙ ap (λ (q : ℕ). get_or wanted q false) from_row
          ∙ G.shows (drawn_port (r R)) (drawn_valid_here R)) goes_flag

  shows_now : (p : Port) → Valid p → get_or second (row_of p) false ≡ w₁ p
  shows_now p v = go (ℕ_discrete (row_of p) from) (ℕ_discrete (row_of p) c.thread)
    where
      go : Dec (row_of p ≡ from) → Dec (row_of p ≡ c.thread) → get_or second (row_of p) false ≡ w₁ p
      go (yes e) d =
          let same : p ≡ drawn_port (r R) = row_once p (drawn_port (r R)) v (drawn_valid_here R) (e ∙ from_row) in
          ap (λ (q : ℕ). get_or second q false) e ∙ get_or-set_same first from (heard || goes) false from_in ∙ drawn_flag
          ∙ sym (after_drawn (drawn_port (r R)) (draws_drawn (r R))) ∙ ap w₁ (sym same)
      go (no e) (yes f) =
          let same : p ≡ own_port = row_once p own_port v (own_valid_here R) (f ∙ thread_is) in
          get_or-set_other first from (row_of p) (heard || goes) false e ∙ ap (λ (q : ℕ). get_or first q false) f ∙ first_own
          ∙ sym (after_drawn own_port (draws_own (r R))) ∙ ap w₁ (sym same)
      go (no e) (no f) =
          get_or-set_other first from (row_of p) (heard || goes) false e ∙ get_or-set_other wanted c.thread (row_of p) (own || goes) false f ∙ G.shows p v
          ∙ sym (after_other p (draws_no (r R) p (λ z. f (ap row_of z ∙ sym thread_is)) (λ z. e (ap row_of z ∙ sym from_row))))

  inside : n < record_count b
  unfolding record_count
  inside = omega (arith, G.within)

  next_past : past (log_of b) (suc n) ≡ r R ∷ past (log_of b) n
  next_past =
      past_suc (log_of b) n (r R) (omega (arith, inside, count_log b))
      ∙ ap (λ (z : Record). z ∷ past (log_of b) n) (at→get_d (log_of b) n (r R) (r R) (log_element b n inside))

  past_long : length (past (log_of b) n) ≡ n
  past_long = past_length (log_of b) n (omega (arith, inside, count_log b))

  -- the definition's pass at this record
  passes : (k : ℕ) → marks_from (targets j i) w (past (log_of b) (suc n)) k ≡ cond (eqb k n) (fed w (r R)) (marks_from (targets j i) w₁ (past (log_of b) n) k)
  unfolding marks_from
  passes k =
      ap (λ (H : List Record). marks_from (targets j i) w H k) next_past
      ∙ ap (λ (m : ℕ). cond (eqb k m) (fed w (r R)) (marks_from (targets j i) (wanted_after (targets j i m) w (r R)) (past (log_of b) n) k)) past_long

  pub going_next : Going b j i n second (set kept n keep) before
  going_next = record {
    within = omega (arith, G.within);
    wanted_long = length-set first from (heard || goes) ∙ length-set wanted c.thread (own || goes) ∙ G.wanted_long;
    kept_long = length-set kept n keep ∙ G.kept_long;
    w = w₁;
    shows = shows_now;
    rest = λ k h. ap (λ (x : Bool). cond x (fed w (r R)) (marks_from (targets j i) w₁ (past (log_of b) n) k)) (sym (ne_eqb k n (λ e. omega arith)))
        ∙ sym (passes k) ∙ G.rest k (omega arith);
    done = λ k h q. at k h q (ℕ_discrete k n);
    beyond = λ k h. get_or-set_other kept n k keep false (λ e. omega (arith, G.within)) ∙ G.beyond k h;
  }
    where
      at : (k : ℕ) → n ≤ k → k < length b / 3 → Dec (k ≡ n) → get_or (set kept n keep) k false ≡ marks_of (reverse (log_of b)) j i k
      at k h q (yes e) =
          ap (λ (x : ℕ). get_or (set kept n keep) x false) e ∙ get_or-set_same kept n keep false (omega (arith, G.kept_long, G.within)) ∙ keep_flag
          ∙ ap (λ (x : Bool). cond x (fed w (r R)) (marks_from (targets j i) w₁ (past (log_of b) n) n)) (sym (eq-eqb n n refl)) ∙ sym (passes n)
          ∙ G.rest n (omega arith)
          ∙ ap (λ (x : ℕ). marks_of (reverse (log_of b)) j i x) (sym e)
      at k h q (no e) = get_or-set_other kept n k keep false e ∙ G.done k (omega (arith, e)) q
