-- The arrows of a log in bytes, by the rows of what its records have heard. Assumes nothing.
use Prim.Native.Nat.{ℕ, zero, suc, ◌/◌, ◌<◌, ◌≤◌}
use native.Mathlib.Omega.{arith}
use mathlib.Core.Path.{◌≡◌, refl, ap, subst}
use mathlib.Core.List.{List}
use mathlib.Core.Option.{none}
use lib.ListN.{length}
use Rattle.format.specs.Version.{Version}
use Rattle.log_records.specs.Record.{Record}
use Rattle.log_records.specs.Packed.{record_at, record_count, log_of}
use Rattle.log_records.specs.Refusals.{log_refusal}
use Rattle.log_records.proofs.RoundTrip.{count_log, log_element}
use Rattle.log_records.proofs.Tidy.{tidy_at}
use Rattle.log_records.proofs.Accepted.{accepted, accepted_tidy}
use Rattle.log_order.specs.Chains.{At}
use Rattle.log_order.proofs.Past.{at_within}
use Rattle.log_clocks.specs.Inner.Rows.{Row}
use Rattle.log_arrows.specs.Arrows.{AllArrows}
use Rattle.log_arrows.specs.Inner.Newest.{Newest, HeardRows}
use Rattle.log_arrows.specs.Inner.Implied.{heard_in, Earlier, arrows_below, thread_at}
use Rattle.log_arrows.proofs.Chains.{chain_before, at_once}
use Rattle.log_arrows.proofs.ArrowLists.{all_arrows}

pub log_short : (b : List ℕ) → log_refusal b ≡ none → length b / 3 ≤ 4096
log_short b ok = omega (arith, (accepted b ok).length_most)

log_count : (b : List ℕ) → length (log_of b) ≡ length b / 3
unfolding record_count
log_count b = count_log b

-- what a record has heard of is earlier
pub heard_earlier : (v : Version) (L : List Record) (n : ℕ) (rows : List Row) → HeardRows v L n rows → n ≤ length rows → (j : ℕ) → j < n → Earlier rows j
heard_earlier v L n rows R long j h = record { inside = omega arith; most = λ u b. go u (heard_in rows j u) (R.newest j h u b) }
  where
    go : (u x : ℕ) → Newest v L j u x → x ≤ j
    go u zero N = omega arith
    go u (suc m) N = chain_before (N.is_heard m refl).chain

pub whole : (v : Version) (b : List ℕ) (rows : List Row) → log_refusal b ≡ none → HeardRows v (log_of b) (length b / 3) rows
    → AllArrows v (log_of b) (arrows_below (heard_in rows) (thread_at b) (length b / 3))
whole v b rows ok R =
    subst (λ (n : ℕ). AllArrows v (log_of b) (arrows_below (heard_in rows) (thread_at b) n)) (log_count b)
    (all_arrows v (log_of b) (heard_in rows) (thread_at b)
    (record { newest = λ j h. R.newest j (omega (arith, log_count b)); eight = λ i w h. (tidy_at (log_of b) (accepted_tidy b ok) i w h).thread_below }) threads)
  where
    inside : (j : ℕ) → j < length (log_of b) → j < record_count b
    inside j h = omega (arith, count_log b)

    threads : (j : ℕ) (r : Record) → At (log_of b) j r → thread_at b j ≡ r.thread
    threads j r h = ap (λ (x : Record). x.thread) (at_once (log_of b) j (record_at b j) r (log_element b j (inside j (at_within (log_of b) j r h))) h)
