-- Keys and chains agree, on logs oldest first: after a legal log, a plain access lacked its key exactly when it is unordered. Assumes nothing.
use Prim.Native.Nat.{ℕ}
use mathlib.Core.List.{List, reverse}
use mathlib.Core.Logic.Iff
use mathlib.Core.Logic.{◌↔◌}
use lib.Dec.{T}
use Rattle.format.specs.Version.{Version}
use Rattle.log_records.specs.Record.{Kind, new, read, write, readv, writev, acquire, release, fork, join, lacks_read, lacks_write, Record, is_plain, lacks_key}
use Rattle.log_order.specs.Chains.{At, Unordered}
use Rattle.log_order.proofs.KeyMachine.{Legal}
use Rattle.log_order.proofs.AgreeNewest.{agree_newest}
use Rattle.log_order.proofs.Turned.{at←, unordered↔}

-- a plain access lacked its key exactly when it is unordered
pub agree : (v : Version) (L : List Record) → Legal v (reverse L) → (j : ℕ) (r : Record) → At L j r → T (is_plain r.kind)
    → T (lacks_key r.kind) ↔ Unordered v L j
agree v L l j r h a = Iff.trans (agree_newest v (reverse L) l j r (at← L j r h) a) (unordered↔ v L j)

-- a record that lacked its key is a plain access
pub lacking_plain : (κ : Kind) → T (lacks_key κ) → T (is_plain κ)
lacking_plain new h = absurd h
lacking_plain read h = absurd h
lacking_plain write h = absurd h
lacking_plain readv h = absurd h
lacking_plain writev h = absurd h
lacking_plain acquire h = absurd h
lacking_plain release h = absurd h
lacking_plain fork h = absurd h
lacking_plain join h = absurd h
lacking_plain lacks_read h = tt
lacking_plain lacks_write h = tt
