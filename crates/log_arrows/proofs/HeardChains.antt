-- What a record of a log has heard of each thread, by the marks of its past: the newest record of the thread that has a chain to it. Assumes nothing.
use Prim.Native.Nat.{ℕ, zero, suc, ◌<◌, ◌≤◌}
use native.Mathlib.Omega.{arith}
use mathlib.Core.Path.{◌≡◌, refl, sym, subst}
use mathlib.Core.List.{List, [], ◌∷◌}
use mathlib.Core.Option.{Option, none, some}
use lib.ListN.{length, get_elem?}
use Rattle.format.specs.Version.{Version}
use Rattle.log_records.specs.Record.{Record}
use Rattle.log_order.specs.Chains.{At}
use Rattle.log_order.proofs.Newest as N
use Rattle.log_order.proofs.Flow.{chain→drawn, drawn→chain}
use Rattle.log_order.proofs.Past.{past, past_length, at_within}
use Rattle.log_conflicts.proofs.FirstConflict.{at_past, chain_cut}
use Rattle.log_arrows.specs.Inner.Newest.{Heard, Newest}
use Rattle.log_arrows.proofs.Chains.{chain_before}
use Rattle.log_arrows.proofs.Marks.{heard, drawn_heard, heard_source, heard_of_lem, reach→mark, mark→reach}

-- ---- in a record's past, newest first

module _ (v : Version) (r : Record) (H : List Record) where
  pub chain→heard : {i : ℕ} {w : Record} → N.At H i w → N.Chain v (r ∷ H) i (length H) → suc i ≤ heard v H r w.thread
  chain→heard {i} {w} a c = let d = chain→drawn r H i c in drawn_heard v r H d.port w.thread (suc i) d.draws (reach→mark v a d.reached)

  pub heard→chain : {i : ℕ} {w : Record} → N.At H i w → suc i ≤ heard v H r w.thread → N.Chain v (r ∷ H) i (length H)
  heard→chain {i} {w} a h =
      let d = heard_source v r H w.thread (suc i) (omega arith) h in
      drawn→chain r H i (record { port = d.port; draws = d.draws; reached = mark→reach v d.port a d.has })

-- ---- in a log, oldest first

-- what the record, if there is one, has heard in the past H
abbrev heard_of : Version → List Record → Option Record → ℕ → ℕ
heard_of v H none u = 0
heard_of v H (some r) u = heard v H r u

-- what record j has heard of thread u
unfoldable pub heard_at : Version → List Record → ℕ → ℕ → ℕ
unfolding past
heard_at v L j u = heard_of v (past L j) (get_elem? L j) u

module _ (v : Version) (L : List Record) (j : ℕ) (r : Record) (here : At L j r) where
  abbrev H : List Record
  H = past L j

  size : length H ≡ j
  size = let b = at_within L j r here in past_length L j (omega arith)

  pub newest_heard : (u : ℕ) → Newest v L j u (heard v H r u)
  newest_heard u = record { none_newer = top; is_heard = is }
    where
      top : (i : ℕ) → Heard v L j u i → i < heard v H r u
      top i d =
          let c : N.Chain v (r ∷ H) i (length H) = subst (N.Chain v (r ∷ H) i) (sym size) ((chain_cut v L j r here i).0 d.chain) in
          let b : i < j = chain_before d.chain in
          subst (λ (t : ℕ). i < heard v H r t) d.of_thread (chain→heard v r H ((at_past v L j r here i d.by b).0 d.at) c)

      is : (m : ℕ) → heard v H r u ≡ suc m → Heard v L j u m
      is m e =
          let d = heard_of_lem v r H u m e in
          let b : m < j = subst (λ (n : ℕ). m < n) size (N.at_below d.at) in
          let h : suc m ≤ heard v H r d.by.thread = subst (λ (t : ℕ). suc m ≤ heard v H r t) (sym d.of_thread) (omega arith) in
          record {
            by = d.by;
            at = (at_past v L j r here m d.by b).1 d.at;
            of_thread = d.of_thread;
            chain = (chain_cut v L j r here m).1 (subst (N.Chain v (r ∷ H) m) size (heard→chain v r H d.at h));
          }

  pub newest_at : (u : ℕ) → Newest v L j u (heard_at v L j u)
  unfolding heard_at
  newest_at u = rw here (newest_heard u)

-- ---- all records

-- h j u is what record j has heard of thread u, for the records of eight threads
pub record Known (v : Version) (L : List Record) (h : ℕ → ℕ → ℕ) : Type 0 where
  pub newest : (j : ℕ) → j < length L → (u : ℕ) → u < 8 → Newest v L j u (h j u)
  pub eight : (i : ℕ) (w : Record) → At L i w → w.thread < 8

record_at_lem : (L : List Record) (j : ℕ) → j < length L → (r : Record) × At L j r
record_at_lem [] j b = absurd (omega arith)
record_at_lem (r ∷ L) zero b = (r, refl)
record_at_lem (r ∷ L) (suc j) b = record_at_lem L j (omega arith)

pub known : (v : Version) (L : List Record) → ((i : ℕ) (w : Record) → At L i w → w.thread < 8) → Known v L (heard_at v L)
known v L eight = record { newest = λ j b u c. let d = record_at_lem L j b in newest_at v L j d.0 d.1 u; eight = eight }
