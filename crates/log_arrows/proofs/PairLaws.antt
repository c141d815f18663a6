-- What a reader of the two areas knows of each arrow. Assumes nothing.
use Prim.Native.Nat.{ℕ, zero, suc, ◌<◌}
use native.Mathlib.Omega.{arith}
use native.Mathlib.Decide.{ℕ_discrete}
use mathlib.Core.Path.{◌≡◌, ap}
use mathlib.Core.List.{List, [], ◌∷◌}
use lib.ListN.{length, get_or}
use Rattle.format.specs.Version.{Version}
use Rattle.log_records.specs.Record.{Record}
use Rattle.log_order.proofs.Past.{at_within}
use Rattle.log_arrows.specs.Arrows.{Needed, Among, here, AllArrows, pairs}
use Rattle.log_arrows.proofs.ArrowLists.{among_left, among_right}

-- arrow k is one of them
pub pair_among : (n k : ℕ) (from to : List ℕ) → k < n → Among (get_or from k 0) (get_or to k 0) (pairs n from to)
pair_among zero k from to h = absurd (omega arith)
pair_among (suc n) k from to h = go (ℕ_discrete n k) (pair_among n k from to)
  where
    go : Dec (n ≡ k) → (k < n → Among (get_or from k 0) (get_or to k 0) (pairs n from to)) → Among (get_or from k 0) (get_or to k 0) (pairs (suc n) from to)
    go (yes e) old = among_right (pairs n from to) (here (ap (λ (m : ℕ). get_or from m 0) e) (ap (λ (m : ℕ). get_or to m 0) e))
    go (no e) old = among_left ((get_or from n 0, get_or to n 0) ∷ []) (old (omega arith))

-- a needed arrow leads from a record to a later one of the log
pub needed_within : {v : Version} {L : List Record} {i j : ℕ} → Needed v L i j → (i < j) × (j < length L)
needed_within {L = L} {j = j} N = let l = N.arrow.linked in (l.before, at_within L j l.later l.at_j)

-- so arrow k does
pub pair_within : {v : Version} {L : List Record} (n k : ℕ) (from to : List ℕ) → AllArrows v L (pairs n from to) → k < n
    → (get_or from k 0 < get_or to k 0) × (get_or to k 0 < length L)
pair_within n k from to A h = needed_within (A.sound (get_or from k 0) (get_or to k 0) (pair_among n k from to h))
