-- What reaches a port, newest record first; the chains into a new record are what reaches a port that it draws from. Assumes nothing.
use Prim.Native.Nat.{ℕ, ◌<◌}
use mathlib.Core.Path.{◌≡◌, refl, sym, ◌∙◌, subst}
use mathlib.Core.List.{[], List, ◌∷◌}
use mathlib.Core.Logic.{inl, ◌↔◌}
use lib.ListN.{length}
use native.Mathlib.Omega.{arith}
use Rattle.format.specs.Version.{Version}
use Rattle.log_records.specs.Record.{Record}
use Rattle.log_order.proofs.Newest.{At, here, back, Linked, Chain, one, more, at_below, at_older, at_newest, chain_older, chain_newer}
use Rattle.log_order.proofs.Ports.{Port, of_thread, Feeds, Draws, pair→port, port→pair}

-- record i reaches the port p: a record that i is, or that a chain leads to from i, feeds it
pub data Reach (v : Version) (i : ℕ) : List Record → Port → Type 0 where
  kept : {r : Record} {H : List Record} {p : Port} → Reach v i H p → Reach v i (r ∷ H) p
  made : {r : Record} {H : List Record} {p : Port} → i ≡ length H → Feeds v r p → Reach v i (r ∷ H) p
  passed : {r : Record} {H : List Record} {p q : Port} → Draws v r q → Reach v i H q → Feeds v r p → Reach v i (r ∷ H) p

pub reach_below : {v : Version} {i : ℕ} {H : List Record} {p : Port} → Reach v i H p → i < length H
reach_below (kept x) = let b = reach_below x in omega arith
reach_below (made e o) = omega arith
reach_below (passed n x o) = let b = reach_below x in omega arith

-- ---- from a port to a chain

-- i is j, or a chain leads from i to j
pub data UpTo (v : Version) (H : List Record) (i : ℕ) : ℕ → Type 0 where
  itself : {j : ℕ} → i ≡ j → UpTo v H i j
  along : {j : ℕ} → Chain v H i j → UpTo v H i j

pub record Fed (v : Version) (H : List Record) (i : ℕ) (p : Port) : Type 0 where
  pub index : ℕ
  pub feeder : Record
  pub at_index : At H index feeder
  pub feeds : Feeds v feeder p
  pub up_to : UpTo v H i index

up_to_newer : {v : Version} {s : Record} {H : List Record} {i j : ℕ} → UpTo v H i j → UpTo v (s ∷ H) i j
up_to_newer (itself e) = itself e
up_to_newer (along c) = along (chain_newer c)

up_to_older : {v : Version} {s : Record} {H : List Record} {i j : ℕ} → j < length H → UpTo v (s ∷ H) i j → UpTo v H i j
up_to_older b (itself e) = itself e
up_to_older b (along c) = along (chain_older b c)

fed→chain : {v : Version} (r : Record) (H : List Record) (i : ℕ) (q : Port) → Draws v r q → Fed v H i q → Chain v (r ∷ H) i (length H)
fed→chain {v} r H i q n d = close d.up_to
  where
    last : Linked v (r ∷ H) d.index (length H)
    last = record {
      earlier = d.feeder;
      later = r;
      at_i = back d.at_index;
      at_j = here refl;
      before = at_below d.at_index;
      paired =
          port→pair q d.feeds n;
    }

    close : UpTo v H i d.index → Chain v (r ∷ H) i (length H)
    close (itself e) = one (subst (λ (m : ℕ). Linked v (r ∷ H) m (length H)) (sym e) last)
    close (along c) = more (chain_newer c) last

pub reach→fed : {v : Version} {i : ℕ} {H : List Record} {p : Port} → Reach v i H p → Fed v H i p
reach→fed (kept x) =
    let d = reach→fed x in
    record { index = d.index; feeder = d.feeder; at_index = back d.at_index; feeds = d.feeds; up_to = up_to_newer d.up_to }
reach→fed (made {r = r} {H = H} e o) = record { index = length H; feeder = r; at_index = here refl; feeds = o; up_to = itself e }
reach→fed {i = i} (passed {r = r} {H = H} {q = q} n x o) =
    record { index = length H; feeder = r; at_index = here refl; feeds = o; up_to = along (fed→chain r H i q n (reach→fed x)) }

-- ---- from a chain to a port

-- the port of a link
abbrev port_of : {v : Version} {H : List Record} {i j : ℕ} → Linked v H i j → Port
port_of l = (pair→port l.paired).0

drawn : {v : Version} {r : Record} {H : List Record} {i j : ℕ} → j ≡ length H → (l : Linked v (r ∷ H) i j) → Draws v r (port_of l)
drawn {v} e l = subst (λ (x : Record). Draws v x (port_of l)) (sym (at_newest e l.at_j)) (pair→port l.paired).2

source : {v : Version} {r : Record} {H : List Record} {i j : ℕ} → j ≡ length H → (l : Linked v (r ∷ H) i j) → At H i l.earlier
source {i = i} {j = j} e l = let b : i < j = l.before in at_older (omega arith) l.at_i

pub at→reach : {v : Version} {i j : ℕ} {s : Record} (H : List Record) (p : Port) → At H j s → Feeds v s p → UpTo v H i j → Reach v i H p
at→reach (r ∷ H) p (here e) o (itself d) = made (d ∙ e) o
at→reach (r ∷ H) p (here e) o (along (one l)) = passed (drawn e l) (at→reach H (port_of l) (source e l) (pair→port l.paired).1 (itself refl)) o
at→reach (r ∷ H) p (here e) o (along (more c l)) =
    passed (drawn e l) (at→reach H (port_of l) (source e l) (pair→port l.paired).1 (along (chain_older (at_below (source e l)) c))) o
at→reach (r ∷ H) p (back h) o u = kept (at→reach H p h o (up_to_older (at_below h) u))
at→reach {v = v} {i = i} {j = j} {s = s} [] p x3 o u = elim x3 [ ]

-- record i reaches some port that r draws from
pub record Drawn (v : Version) (r : Record) (H : List Record) (i : ℕ) : Type 0 where
  pub port : Port
  pub draws : Draws v r port
  pub reached : Reach v i H port

-- the chains into a new record are what reaches a port that it draws from
pub chain→drawn : {v : Version} (r : Record) (H : List Record) (i : ℕ) → Chain v (r ∷ H) i (length H) → Drawn v r H i
chain→drawn {v} r H i c = go refl c
  where
    go : {j : ℕ} → j ≡ length H → Chain v (r ∷ H) i j → Drawn v r H i
    go e (one l) = record { port = port_of l; draws = drawn e l; reached = at→reach H (port_of l) (source e l) (pair→port l.paired).1 (itself refl) }
    go e (more c l) = record {
      port = port_of l;
      draws = drawn e l;
      reached =
          at→reach H (port_of l) (source e l) (pair→port l.paired).1 (along (chain_older (at_below (source e l)) c));
    }

pub drawn→chain : {v : Version} (r : Record) (H : List Record) (i : ℕ) → Drawn v r H i → Chain v (r ∷ H) i (length H)
drawn→chain r H i d = fed→chain r H i d.port d.draws (reach→fed d.reached)

-- for a record that draws from its own thread only: what reaches that thread
pub own_chain : {v : Version} (r : Record) (H : List Record) (i : ℕ) → ((q : Port) → Draws v r q → q ≡ of_thread r.thread)
    → Chain v (r ∷ H) i (length H) ↔ Reach v i H (of_thread r.thread)
own_chain {v} r H i only = (
  λ c. let d = chain→drawn r H i c in subst (λ (q : Port). Reach v i H q) (only d.port d.draws) d.reached,
  λ x. drawn→chain r H i (record { port = of_thread r.thread; draws = inl refl; reached = x }),
)
