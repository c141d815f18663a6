-- Logs kept newest first, so that a record's index, the number of records behind it, stays as the log grows: chains, last writes, unordered
-- accesses, and that a longer log has the same ones. Assumes nothing.
use Prim.Native.Nat.{ℕ, suc, ◌<◌, ◌≤◌}
use mathlib.Core.Path.{◌≡◌, refl}
use mathlib.Core.List.{List, [], ◌∷◌, ◌++◌}
use mathlib.Core.Logic.{◌⊎◌, inl, inr, ◌↔◌}
use lib.ListN.{length, length-append}
use lib.Dec.{T}
use native.Mathlib.Omega.{arith}
use Rattle.format.specs.Version.{Version}
use Rattle.log_records.specs.Record.{Record, is_plain}
use Rattle.log_order.specs.Pairs.{Pair}
use Rattle.log_order.specs.Chains.{Writes}

-- record i of the log H is r
pub data At : List Record → ℕ → Record → Type 0 where
  here : {H : List Record} {i : ℕ} {r : Record} → i ≡ length H → At (r ∷ H) i r
  back : {H : List Record} {i : ℕ} {r s : Record} → At H i r → At (s ∷ H) i r

pub record Linked (v : Version) (H : List Record) (i j : ℕ) : Type 0 where
  pub earlier : Record
  pub later : Record
  pub at_i : At H i earlier
  pub at_j : At H j later
  pub before : i < j
  pub paired : Pair v earlier later

pub data Chain (v : Version) (H : List Record) (i : ℕ) : ℕ → Type 0 where
  one : {j : ℕ} → Linked v H i j → Chain v H i j
  more : {j k : ℕ} → Chain v H i j → Linked v H j k → Chain v H i k

pub record LastWrite (H : List Record) (j o f i : ℕ) : Type 0 where
  pub write_record : Record
  pub at_i : At H i write_record
  pub writes : Writes write_record o f
  pub before : i < j
  pub latest : (m : ℕ) (w : Record) → At H m w → Writes w o f → m < j → m ≤ i

pub record Unordered (v : Version) (H : List Record) (j : ℕ) : Type 0 where
  pub access : Record
  pub at_j : At H j access
  pub plain : T (is_plain access.kind)
  pub last : ℕ
  pub is_last : LastWrite H j access.object access.field last
  pub no_chain : Chain v H last j → ⊥

-- ---- indexes

pub at_below : {H : List Record} {i : ℕ} {r : Record} → At H i r → i < length H
at_below (here e) = omega arith
at_below (back h) = let b = at_below h in omega arith

pub at_older : {s : Record} {H : List Record} {i : ℕ} {r : Record} → i < length H → At (s ∷ H) i r → At H i r
at_older b (here e) = absurd (omega arith)
at_older b (back h) = h

pub at_newest : {s : Record} {H : List Record} {i : ℕ} {r : Record} → i ≡ length H → At (s ∷ H) i r → s ≡ r
at_newest b (here e) = refl
at_newest b (back h) = let c = at_below h in absurd (omega arith)

pub at_cases : {s : Record} {H : List Record} {i : ℕ} {r : Record} → At (s ∷ H) i r → ((i ≡ length H) × (s ≡ r)) ⊎ At H i r
at_cases (here e) = inl (e, refl)
at_cases (back h) = inr h

-- ---- chains

linked_older : {v : Version} {s : Record} {H : List Record} {i j : ℕ} → j < length H → Linked v (s ∷ H) i j → Linked v H i j
linked_older {i = i} {j = j} b l =
    let lt : i < j = l.before in
    record {
      earlier = l.earlier;
      later = l.later;
      at_i = at_older (omega arith) l.at_i;
      at_j = at_older b l.at_j;
      before = l.before;
      paired =
          l.paired;
    }

linked_newer : {v : Version} {s : Record} {H : List Record} {i j : ℕ} → Linked v H i j → Linked v (s ∷ H) i j
linked_newer l = record { earlier = l.earlier; later = l.later; at_i = back l.at_i; at_j = back l.at_j; before = l.before; paired = l.paired }

pub chain_older : {v : Version} {s : Record} {H : List Record} {i j : ℕ} → j < length H → Chain v (s ∷ H) i j → Chain v H i j
chain_older b (one l) = one (linked_older b l)
chain_older {j = k} b (more {j = j} c l) =
    let lt : j < k = l.before in
    more (chain_older (omega arith) c) (linked_older b l)

pub chain_newer : {v : Version} {s : Record} {H : List Record} {i j : ℕ} → Chain v H i j → Chain v (s ∷ H) i j
chain_newer (one l) = one (linked_newer l)
chain_newer (more c l) = more (chain_newer c) (linked_newer l)

-- ---- last writes

pub last_newer : (s : Record) (H : List Record) (j o f i : ℕ) → j ≤ length H → LastWrite H j o f i → LastWrite (s ∷ H) j o f i
last_newer s H j o f i b d =
    record {
      write_record = d.write_record;
      at_i = back d.at_i;
      writes = d.writes;
      before = d.before;
      latest =
          λ m w h x c. d.latest m w (at_older (omega arith) h) x c;
    }

pub last_older : (s : Record) (H : List Record) (j o f i : ℕ) → j ≤ length H → LastWrite (s ∷ H) j o f i → LastWrite H j o f i
last_older s H j o f i b d =
    let c : i < j = d.before in
    record {
      write_record = d.write_record;
      at_i = at_older (omega arith) d.at_i;
      writes = d.writes;
      before = d.before;
      latest =
          λ m w h x c. d.latest m w (back h) x c;
    }

pub last_once : (H : List Record) (j o f i i' : ℕ) → LastWrite H j o f i → LastWrite H j o f i' → i ≡ i'
last_once H j o f i i' d d' =
    let a : i ≤ i' = d'.latest i d.write_record d.at_i d.writes d.before in
    let b : i' ≤ i = d.latest i' d'.write_record d'.at_i d'.writes d'.before in
    omega arith

-- the last write of a field in the whole log, if there is one, as the log grows
abbrev pub Last : List Record → ℕ → ℕ → ℕ → Type 0
Last H o f i = LastWrite H (length H) o f i

abbrev pub Never : List Record → ℕ → ℕ → Type 0
Never H o f = (m : ℕ) (w : Record) → At H m w → Writes w o f → ⊥

pub never_start : (o f : ℕ) → Never [] o f
never_start o f m w h x = let b : m < 0 = at_below h in omega arith

pub never_more : (r : Record) (H : List Record) (o f : ℕ) → (Writes r o f → ⊥) → Never H o f → Never (r ∷ H) o f
never_more r H o f n g m w (here e) x = n x
never_more r H o f n g m w (back h) x = g m w h x

pub last_here : (r : Record) (H : List Record) (o f : ℕ) → Writes r o f → Last (r ∷ H) o f (length H)
last_here r H o f x = record { write_record = r; at_i = here refl; writes = x; before = omega arith; latest = λ m w h y b. omega arith }

pub last_more : (r : Record) (H : List Record) (o f i : ℕ) → (Writes r o f → ⊥) → Last H o f i → Last (r ∷ H) o f i
last_more r H o f i n d = record { write_record = d.write_record; at_i = back d.at_i; writes = d.writes; before = within; latest = top }
  where
    within : i < suc (length H)
    within = let b : i < length H = d.before in omega arith

    top : (m : ℕ) (w : Record) → At (r ∷ H) m w → Writes w o f → m < suc (length H) → m ≤ i
    top m w (here e) x b = absurd (n x)
    top m w (back h) x b = d.latest m w h x (at_below h)

-- ---- unordered accesses

pub unordered_newer : {v : Version} (s : Record) (H : List Record) (j : ℕ) → j < length H → Unordered v H j → Unordered v (s ∷ H) j
unordered_newer s H j b u =
    record {
      access = u.access;
      at_j = back u.at_j;
      plain = u.plain;
      last = u.last;
      is_last =
          last_newer s H j u.access.object u.access.field u.last (omega arith) u.is_last;
      no_chain = λ c. u.no_chain (chain_older b c);
    }

pub unordered_older : {v : Version} (s : Record) (H : List Record) (j : ℕ) → j < length H → Unordered v (s ∷ H) j → Unordered v H j
unordered_older s H j b u =
    record {
      access = u.access;
      at_j = at_older b u.at_j;
      plain = u.plain;
      last = u.last;
      is_last =
          last_older s H j u.access.object u.access.field u.last (omega arith) u.is_last;
      no_chain = λ c. u.no_chain (chain_newer c);
    }

-- later records make no difference to an access
pub unordered_append : {v : Version} (K H : List Record) (j : ℕ) → j < length H → Unordered v (K ++ H) j ↔ Unordered v H j
unordered_append [] H j b = (λ u. u, λ u. u)
unordered_append (s ∷ K) H j b =
    let w = unordered_append K H j b in
    let c : j < length (K ++ H) = omega (arith, length-append K H) in
    (λ u. w.0 (unordered_older s (K ++ H) j c u), λ u. unordered_newer s (K ++ H) j c (w.1 u))
