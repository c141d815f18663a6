-- The judge of conflicting accesses on any log, oldest first, by the clocks: which accesses conflict with an earlier one and have no chain from it, and
-- the lowest of them. Assumes nothing.
use Prim.Native.Nat.{ℕ, suc, ◌<◌, ◌≤◌}
use native.Mathlib.Omega.{arith}
use native.Mathlib.Decide.{dec_lt}
use mathlib.Core.Path.{◌≡◌, refl, sym, ap, subst, ◌∙◌}
use mathlib.Core.Bool.{Bool, true, false, true≢false}
use mathlib.Core.List.{List, [], ◌∷◌, ◌++◌, reverse}
use mathlib.Core.Logic.Iff
use mathlib.Core.Logic.{◌⊎◌, inl, inr, ◌↔◌}
use mathlib.Core.Option.{Option, some, none}
use lib.Dec.{T}
use lib.ListN.{length, drop, get_elem?, length-append}
use Rattle.format.specs.Refusal.{lowest}
use Rattle.format.specs.Version.{Version}
use Rattle.format.proofs.RefusalLaws.{lowest_none, lowest_some}
use Rattle.log_records.specs.Record.{Record, is_plain}
use Rattle.log_order.specs.Chains.{At, Chain, Unordered}
use Rattle.log_order.specs.Accesses.{is_write}
use Rattle.log_conflicts.specs.Conflicts.{Conflict, Conflicting}
use Rattle.log_conflicts.specs.Judge.{Names, names_first, names_none, Judged, refused, named, Answers, refuses, judges}
use Rattle.log_order.proofs.Newest as N
use Rattle.log_order.proofs.Ports.{of_thread, plain_draws_own}
use Rattle.log_order.proofs.Flow.{Reach, own_chain}
use Rattle.log_conflicts.proofs.Conflicts.{clashes, Clash, clashes→, clashes←, write_plain}
use Rattle.log_order.proofs.Past.{past, past_length, at_within, at→get_d, turned_at}
use Rattle.log_order.proofs.Turned.{at→, at←, chain→, chain←}

-- ---- a record and its past

-- later records make no difference
at_append : (K H : List Record) (i : ℕ) (w : Record) → i < length H → N.At (K ++ H) i w ↔ N.At H i w
at_append [] H i w b = (λ x. x, λ x. x)
at_append (s ∷ K) H i w b =
    let d = at_append K H i w b in
    let c : i < length (K ++ H) = omega (arith, length-append K H) in
    (λ x. d.0 (N.at_older c x), λ x. N.back (d.1 x))

chain_append : {v : Version} (K H : List Record) (i j : ℕ) → j < length H → N.Chain v (K ++ H) i j ↔ N.Chain v H i j
chain_append [] H i j b = (λ x. x, λ x. x)
chain_append (s ∷ K) H i j b =
    let d = chain_append K H i j b in
    let c : j < length (K ++ H) = omega (arith, length-append K H) in
    (λ x. d.0 (N.chain_older c x), λ x. N.chain_newer (d.1 x))

module _ (v : Version) (L : List Record) (j : ℕ) (r : Record) (here : At L j r) where
  abbrev H : List Record
  H = past L j

  size : length H ≡ j
  size = let b = at_within L j r here in past_length L j (omega arith)

  pub at_past : (i : ℕ) (w : Record) → i < j → At L i w ↔ N.At H i w
  at_past i w b =
      let turned : At L i w ↔ N.At (reverse L) i w = (at← L i w, at→ L i w) in
      let cut : N.At (reverse (drop (suc j) L) ++ r ∷ H) i w ↔ N.At (r ∷ H) i w = at_append (reverse (drop (suc j) L)) (r ∷ H) i w (omega (arith, size)) in
      let top : N.At (r ∷ H) i w ↔ N.At H i w = (N.at_older (omega (arith, size)), N.back) in
      Iff.trans turned (Iff.trans (subst (λ (K : List Record). N.At (reverse L) i w ↔ N.At K i w) (turned_at L j r here) (λ x. x, λ x. x)) (Iff.trans cut top))

  -- the chains to a record are those in its past and itself
  pub chain_cut : (i : ℕ) → Chain v L i j ↔ N.Chain v (r ∷ H) i j
  chain_cut i =
      let turned : Chain v L i j ↔ N.Chain v (reverse L) i j = (chain← v L, chain→ v L) in
      let cut : N.Chain v (reverse (drop (suc j) L) ++ r ∷ H) i j ↔ N.Chain v (r ∷ H) i j
      = chain_append (reverse (drop (suc j) L)) (r ∷ H) i j (omega (arith, size)) in
      Iff.trans turned (Iff.trans (subst (λ (K : List Record). N.Chain v (reverse L) i j ↔ N.Chain v K i j) (turned_at L j r here) (λ x. x, λ x. x)) cut)

  pub chain_past : T (is_plain r.kind) → (i : ℕ) → Chain v L i j ↔ Reach v i H (of_thread r.thread)
  chain_past a i =
      let own : N.Chain v (r ∷ H) i j ↔ Reach v i H (of_thread r.thread)
      = subst (λ (n : ℕ). N.Chain v (r ∷ H) i n ↔ Reach v i H (of_thread r.thread)) size (own_chain r H i (plain_draws_own v r a)) in
      Iff.trans (chain_cut i) own

  clash→conflicting : Clash v H r → Conflicting v L j
  clash→conflicting c =
      let b : c.index < j = subst (λ (n : ℕ). c.index < n) size (N.at_below c.at_index) in
      record {
        access = r;
        at_j = here;
        other = c.other;
        index = c.index;
        at_index = (at_past c.index c.other b).1 c.at_index;
        before = b;
        conflict = c.conflict;
        no_chain = λ x. c.no_reach ((chain_past c.conflict.later_plain c.index).0 x);
      }

  conflicting→clash : Conflicting v L j → Clash v H r
  conflicting→clash c =
      let same : c.access ≡ r = sym (at→get_d L j c.access r c.at_j) ∙ at→get_d L j r r here in
      let both : Conflict c.other r = subst (Conflict c.other) same c.conflict in
      record {
        index = c.index;
        other = c.other;
        at_index = (at_past c.index c.other c.before).0 c.at_index;
        conflict = both;
        no_reach = λ x. c.no_chain ((chain_past both.later_plain c.index).1 x);
      }

  pub conflicting↔ : Clash v H r ↔ Conflicting v L j
  conflicting↔ = (clash→conflicting, conflicting→clash)

-- ---- the test decides

-- the record, if there is one, conflicts with one of the past H that does not reach it
abbrev pub clashes_of : Version → List Record → Option Record → Bool
clashes_of v H none = false
clashes_of v H (some r) = clashes v H r

-- record j is such an access
unfoldable pub conflicts_at : Version → List Record → ℕ → Bool
unfolding past
conflicts_at v L j = clashes_of v (past L j) (get_elem? L j)

-- "thread 3" bits
abbrev pub Threads : List Record → Type 0
Threads L = (i : ℕ) (w : Record) → At L i w → w.thread < 8

pub conflicting_decided : (v : Version) (L : List Record) → Threads L → (j : ℕ) → T (conflicts_at v L j) ↔ Conflicting v L j
unfolding conflicts_at
conflicting_decided v L few j = go (get_elem? L j) refl
  where
    go : (m : Option Record) → get_elem? L j ≡ m → T (clashes_of v (past L j) m) ↔ Conflicting v L j
    go none e = (λ h. absurd h, λ u. let q = u.at_j in true≢false cc)
    go (some r) e = Iff.trans (clashes→ v (past L j) r, clashes← v (past L j) r eight) (conflicting↔ v L j r e)
      where
        size : length (past L j) ≡ j
        size = let b = at_within L j r e in past_length L j (omega arith)

        eight : (i : ℕ) (w : Record) → N.At (past L j) i w → w.thread < 8
        eight i w h = let b = N.at_below h in few i w ((at_past v L j r e i w (omega (arith, size))).1 h)

-- ---- the lowest

-- the lowest index of such an access, or none
unfoldable pub first_conflict : Version → List Record → Option ℕ
unfolding lowest conflicts_at
first_conflict v L = lowest (conflicts_at v L) (length L)

pub names_lowest : (v : Version) (L : List Record) → Threads L → (j : ℕ) → T (conflicts_at v L j) → ((i : ℕ) → i < j → conflicts_at v L i ≡ false)
    → Names v L (some j)
names_lowest v L few j h low = names_first ((conflicting_decided v L few j).0 h) (λ i c. not_below i ((conflicting_decided v L few i).1 c))
  where
    not_below : (i : ℕ) → T (conflicts_at v L i) → j ≤ i
    not_below i x = go (dec_lt i j)
      where
        go : Dec (i < j) → j ≤ i
        go (yes b) = absurd (subst T (low i b) x)
        go (no b) = omega arith

pub names_no : (v : Version) (L : List Record) → Threads L → ((i : ℕ) → i < length L → conflicts_at v L i ≡ false) → Names v L none
names_no v L few low = names_none (λ j c. subst T (low j (at_within L j c.access c.at_j)) ((conflicting_decided v L few j).1 c))

pub names_computed : (v : Version) (L : List Record) → Threads L → Names v L (first_conflict v L)
unfolding first_conflict
names_computed v L few = go (first_conflict v L) refl
  where
    go : (a : Option ℕ) → lowest (conflicts_at v L) (length L) ≡ a → Names v L a
    go none e = names_no v L few (lowest_none (conflicts_at v L) (length L) e)
    go (some i) e = let d = lowest_some (conflicts_at v L) (length L) i e in names_lowest v L few i (subst T (sym d.1) tt) d.2

-- the answer is one
pub names_once : {v : Version} {L : List Record} {a b : Option ℕ} → Names v L a → Names v L b → a ≡ b
names_once (names_first {j = i} c low) (names_first {j = j} d low') = let x = low j d in let y = low' i c in ap {B = Option ℕ} some (omega arith)
names_once (names_first {j = i} c low) (names_none n) = absurd (n i c)
names_once (names_none n) (names_first {j = j} d low) = absurd (n j d)
names_once (names_none n) (names_none m) = refl

-- of any bytes too
pub answers_once : {v : Version} {b : List ℕ} {x y : Judged} → Answers v b x → Answers v b y → x ≡ y
answers_once (refuses {r = r} e) (refuses {r = s} g) = let q : r ≡ s = cc in ap refused q
answers_once (refuses {r = r} e) (judges g n) = absurd (true≢false cc)
answers_once (judges e m) (refuses g) = absurd (true≢false cc)
answers_once (judges e m) (judges g n) = ap named (names_once m n)

-- ---- against the last write

-- an access that nothing orders after the last write of its field conflicts with it
pub unordered→conflicting : {v : Version} {L : List Record} {j : ℕ} → Unordered v L j → Conflicting v L j
unordered→conflicting u =
    let w = u.is_last.writes in
    let writes : T (is_write u.is_last.write_record.kind) = rw w.is_write tt in
    record {
      access = u.access;
      at_j = u.at_j;
      other = u.is_last.write_record;
      index = u.last;
      at_index = u.is_last.at_i;
      before = u.is_last.before;
      conflict = record {
        earlier_plain = write_plain u.is_last.write_record.kind writes;
        later_plain = u.plain;
        same_object =
            w.same_object;
        same_field = w.same_field;
        one_writes = inl writes;
      };
      no_chain = u.no_chain;
    }

-- the judge names it or an earlier one
pub named_by : {v : Version} {L : List Record} {a : Option ℕ} → Names v L a → (j : ℕ) → Unordered v L j → (i : ℕ) × (a ≡ some i) × (i ≤ j)
named_by (names_first {j = i} c low) j u = (i, refl, low j (unordered→conflicting u))
named_by (names_none n) j u = absurd (n j (unordered→conflicting u))

-- a judge that finds none means no such access
pub none_unordered : {v : Version} {L : List Record} → Names v L none → (j : ℕ) → Unordered v L j → ⊥
none_unordered n j u = let d = named_by n j u in let e = d.1 in true≢false cc
