-- Laws of the chains of a log, oldest first. Assumes nothing.
use Prim.Native.Nat.{ℕ, ◌<◌}
use native.Mathlib.Omega.{arith}
use mathlib.Core.Path.{◌≡◌, sym, ◌∙◌}
use mathlib.Core.List.{List}
use Rattle.format.specs.Version.{Version}
use Rattle.log_records.specs.Record.{Record}
use Rattle.log_order.specs.Pairs.{same_thread}
use Rattle.log_order.specs.Chains.{At, Linked, Chain, one, more}
use Rattle.log_order.proofs.Past.{at→get_d}

pub chain_before : {v : Version} {L : List Record} {i j : ℕ} → Chain v L i j → i < j
chain_before {i = i} (one {j = j} l) = let b : i < j = l.before in b
chain_before (more {j = j} {k = k} c l) = let a = chain_before c in let b : j < k = l.before in omega arith

pub chain_on : {v : Version} {L : List Record} {i j k : ℕ} → Chain v L i j → Chain v L j k → Chain v L i k
chain_on c (one l) = more c l
chain_on c (more d l) = more (chain_on c d) l

-- the records that a chain begins and ends at
pub chain_end : {v : Version} {L : List Record} {i j : ℕ} → Chain v L i j → (r : Record) × At L j r
chain_end (one l) = (l.later, l.at_j)
chain_end (more c l) = (l.later, l.at_j)

pub chain_start : {v : Version} {L : List Record} {i j : ℕ} → Chain v L i j → (r : Record) × At L i r
chain_start (one l) = (l.earlier, l.at_i)
chain_start (more c l) = chain_start c

-- a chain that nothing lies on is one pair
pub chain_one : {v : Version} {L : List Record} {i j : ℕ} → ((k : ℕ) → Chain v L i k → Chain v L k j → ⊥) → Chain v L i j → Linked v L i j
chain_one n (one l) = l
chain_one n (more {j = k} c l) = absurd (n k c (one l))

-- an index has one record
pub at_once : (L : List Record) (i : ℕ) (r s : Record) → At L i r → At L i s → r ≡ s
at_once L i r s a b = sym (at→get_d L i r r a) ∙ at→get_d L i s r b

-- two records of one thread
pub thread_chain : (v : Version) (L : List Record) (i j : ℕ) (r s : Record) → At L i r → At L j s → r.thread ≡ s.thread → i < j → Chain v L i j
thread_chain v L i j r s a b e h = one (record { earlier = r; later = s; at_i = a; at_j = b; before = h; paired = same_thread e })
