-- Sample logs, and the arrows that they need, by computation. Assumes nothing.
use Prim.Native.Nat.{ℕ, ◌<◌}
use mathlib.Core.Path.{◌≡◌, refl, ap}
use mathlib.Core.List.{List, [], ◌∷◌}
use lib.ListN.{length, get_or}
use Rattle.format.specs.Version.{Version, v0, v1}
use Rattle.log_records.specs.Record.{new, readv, writev, acquire, release, fork, join, Record, entry}
use Rattle.log_order.specs.Chains.{At}
use Rattle.log_order.proofs.Samples.{log_a, log_v}
use Rattle.log_order.proofs.Past.{past, at→get_d}
use Rattle.log_arrows.specs.Arrows.{AllArrows}
use Rattle.log_arrows.specs.Inner.Implied.{arrows_below, arrows_to, is_needed, implied}
use Rattle.log_arrows.proofs.HeardChains.{heard_at, known}
use Rattle.log_arrows.proofs.ArrowLists.{all_arrows}

abbrev thread_of : List Record → ℕ → ℕ
thread_of L j = (get_or L j (entry new 0 0 0 0)).thread

-- the arrows by the marks of a log
unfoldable arrows_of : Version → List Record → List (ℕ × ℕ)
unfolding arrows_below arrows_to is_needed implied heard_at past
arrows_of v L = arrows_below (heard_at v L) (thread_of L) (length L)

-- they are all that the log needs
of_log : (v : Version) (L : List Record) → ((i : ℕ) (w : Record) → At L i w → w.thread < 8) → AllArrows v L (arrows_of v L)
unfolding arrows_of
of_log v L eight =
    all_arrows v L (heard_at v L) (thread_of L) (known v L eight) (λ j r at. ap (λ (x : Record). x.thread) (at→get_d L j r (entry new 0 0 0 0) at))

-- plan P with its race: the fork's arrow alone
arrows_A : arrows_of v1 log_a ≡ (1, 2) ∷ []
unfolding arrows_of
arrows_A = refl

-- a value handed on through a volatile field: in version 0 the fork's arrow alone
arrows_V1 : arrows_of v1 log_v ≡ (3, 4) ∷ []
unfolding arrows_of
arrows_V1 = refl

arrows_V0 : arrows_of v0 log_v ≡ (1, 4) ∷ []
unfolding arrows_of
arrows_V0 = refl

-- two threads leave a monitor and a third takes it: the older release is implied
abbrev log_m : List Record
log_m = entry acquire 0 1 0 0 ∷ entry release 0 1 0 0 ∷ entry acquire 1 1 0 0 ∷ entry release 1 1 0 0 ∷ entry acquire 2 1 0 0 ∷ []

arrows_M : arrows_of v1 log_m ≡ (1, 2) ∷ (3, 4) ∷ []
unfolding arrows_of
arrows_M = refl

-- two threads write a volatile field and a third reads it: an arrow from each
abbrev log_w : List Record
log_w = entry writev 1 1 1 3 ∷ entry writev 0 1 1 4 ∷ entry readv 2 1 1 4 ∷ []

arrows_W : arrows_of v1 log_w ≡ (1, 2) ∷ (0, 2) ∷ []
unfolding arrows_of
arrows_W = refl

-- a join has an arrow from the thread's last record, or from its fork where it has none
abbrev log_j : List Record
log_j = entry fork 0 1 1 0 ∷ entry new 1 2 0 0 ∷ entry new 1 3 0 0 ∷ entry join 0 1 1 0 ∷ entry fork 0 4 2 0 ∷ entry join 1 4 2 0 ∷ []

arrows_J : arrows_of v1 log_j ≡ (0, 1) ∷ (2, 3) ∷ (4, 5) ∷ []
unfolding arrows_of
arrows_J = refl
