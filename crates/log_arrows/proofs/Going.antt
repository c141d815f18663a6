-- What the pass over a log keeps: its rows show the marks of the records so far, and what each of these has heard is stored. Assumes nothing.
use Prim.Native.Nat.{ℕ, suc, ◌+◌, ◌/◌, ◌<◌, ◌≤◌}
use native.Mathlib.Omega.{arith}
use native.Mathlib.Numerals.{add-one}
use mathlib.Core.Path.{◌≡◌, refl, sym, ap, subst, ◌∙◌}
use mathlib.Core.List.{List, ◌∷◌}
use mathlib.Core.Option.{none}
use lib.ListN.{length, set, replicate, length-replicate}
use Rattle.format.specs.Version.{Version, version_of}
use Rattle.format.proofs.Filled.{repeated, zeros, filled}
use Rattle.log_records.specs.Record.{Record}
use Rattle.log_records.specs.Packed.{kind_of, record_at, record_count, log_of}
use Rattle.log_records.specs.Refusals.{log_refusal}
use Rattle.log_records.proofs.RoundTrip.{count_log, log_element}
use Rattle.log_records.proofs.Accepted.{RightRecord, accepted}
use Rattle.log_order.specs.Chains.{At}
use Rattle.log_order.proofs.Past.{past, past_zero, past_suc, past_length, at→get_d}
use Rattle.log_packing.specs.Inner.Columns.{ReadAt}
use Rattle.log_packing.specs.declared.Columns.{Columns}
use Rattle.log_packing.proofs.Decoded.{kind_is_kind}
use Rattle.log_clocks.specs.Inner.Rows.{Row, clock_of, no_row, row_at, Raised}
use Rattle.log_arrows.specs.Inner.Newest.{Newest, HeardRows}
use Rattle.log_arrows.specs.Inner.Links.{link_row, source_row, target_row, Marked}
use Rattle.log_arrows.proofs.HeardChains.{newest_heard}
use Rattle.log_arrows.proofs.Ports.{row_of, link_below, source_port, target_port, Fits, source_link, target_link, heard_choice, told_choice}
use Rattle.log_arrows.proofs.Table.{Shows, known_heard, shows_step, next_long}

pub record Going (v : Version) (b : List ℕ) (i : ℕ) (links heard : List Row) : Type 0 where
  pub long : length links ≡ 1088
  pub shows : Shows v (past (log_of b) i) links
  pub done : HeardRows v (log_of b) i heard

pub going_start : (v : Version) (b : List ℕ) (heard : List Row) → Going v b 0 (replicate 1088 (replicate 8 0)) heard
unfolding Shows
going_start v b heard =
    record {
      long = length-replicate {A = Row} 1088 (replicate 8 0);
      shows = λ p l u h. rw (past_zero (log_of b)) (repeated 1088 (row_of p) (replicate 8 0) no_row (λ (r : Row). clock_of r u ≡ 0) (zeros 8 u) refl);
      done = record { newest = λ j h. absurd (omega arith) };
    }

-- the pass is at record i, whose columns are c
pub record Here (n : ℕ) (b : List ℕ) (i : ℕ) (links heard : List Row) (c : Columns) : Type 0 where
  pub accepted_log : log_refusal b ≡ none
  pub below : i < length b / 3
  pub read : ReadAt b i c
  pub room : i < length heard
  pub going : Going (version_of n) b i links heard

module _ {n : ℕ} {b : List ℕ} {i : ℕ} {links heard : List Row} {c : Columns} (W : Here n b i links heard c) where
  abbrev r : Record
  r = record_at b i

  abbrev H : List Record
  H = past (log_of b) i

  abbrev R : ReadAt b i c
  R = W.read

  inside : i < record_count b
  unfolding record_count
  inside = W.below

  right : RightRecord b i
  right = (accepted b W.accepted_log).right i inside

  pub short : i ≤ 4095
  short = omega (arith, W.below, (accepted b W.accepted_log).length_most)

  kind_here : (record_at b i).kind ≡ kind_of c.kind
  kind_here = kind_is_kind b i ∙ ap kind_of (sym R.kind_is)

  fits : Fits (record_at b i)
  fits =
      record {
        thread_fits = omega (arith, R.thread_is, R.narrow.thread_below);
        object_fits = omega (arith, R.object_is, R.narrow.object_below);
        field_fits = omega (arith, R.field_is, R.narrow.field_below);
      }

  at : At (log_of b) i (record_at b i)
  at = log_element b i inside

  within : i < length (log_of b)
  within = rw (count_log b) inside

  size : length H ≡ i
  size = past_length (log_of b) i (omega (arith, within))

  next_past : past (log_of b) (suc i) ≡ record_at b i ∷ past (log_of b) i
  next_past =
      past_suc (log_of b) i (record_at b i) within
      ∙ ap (λ (r : Record). r ∷ past (log_of b) i) (at→get_d (log_of b) i (record_at b i) (record_at b i) at)

  source_is : (from : ℕ) → from ≡ source_row n c → from ≡ row_of (source_port (version_of n) r)
  unfolding link_row
  source_is from e =
      e ∙ rw (R.thread_is, R.object_is, R.field_is, kind_here)
      (heard_choice r.thread r.object r.field n c.kind (omega (arith, R.kind_is, right.kind_least))
      (omega (arith, R.kind_is, right.kind_most)))

  target_is : (to : ℕ) → to ≡ target_row n c → to ≡ row_of (target_port (version_of n) r)
  unfolding link_row
  target_is to e =
      e ∙ rw (R.thread_is, R.object_is, R.field_is, kind_here)
      (told_choice r.thread r.object r.field n c.kind (omega (arith, R.kind_is, right.kind_least)) (omega (arith, R.kind_is, right.kind_most)))

  pub source_below : (from : ℕ) → from ≡ source_row n c → from < 1088
  source_below from e = omega (arith, source_is from e, link_below (source_link (version_of n) r fits))

  pub target_below : (to : ℕ) → to ≡ target_row n c → to < 1088
  target_below to e = omega (arith, target_is to e, link_below (target_link (version_of n) r fits))

  module _ (known moved told : Row) (A : Raised (row_at links r.thread) (row_at links (row_of (source_port (version_of n) r))) known)
      (M : Marked known r.thread (suc (length H)) moved) (B : Raised (row_at links (row_of (target_port (version_of n) r))) moved told) where
    stored : HeardRows (version_of n) (log_of b) (i + 1) (set heard i known)
    stored =
        record {
          newest =
              filled heard i known no_row (λ (j : ℕ) (row : Row). (u : ℕ) → u < 8 → Newest (version_of n) (log_of b) j u (clock_of row u)) W.room
              W.going.done.newest
              (λ u h. subst (Newest (version_of n) (log_of b) i u)
              (sym (known_heard (version_of n) r H links fits W.going.long W.going.shows known moved told A M B u h))
              (newest_heard (version_of n) (log_of b) i r at u));
        }

    next : Going (version_of n) b (i + 1) (set (set links r.thread moved) (row_of (target_port (version_of n) r)) told) (set heard i known)
    next =
        record {
          long = next_long (version_of n) r H links fits W.going.long W.going.shows known moved told A M B;
          shows = rw (add-one i, next_past) (shows_step (version_of n) r H links fits W.going.long W.going.shows known moved told A M B);
          done = stored;
        }

  pub next_by : (from to : ℕ) (known moved told : Row) → from ≡ source_row n c → to ≡ target_row n c → Raised (row_at links c.thread) (row_at links from) known
      → Marked known c.thread (i + 1) moved → Raised (row_at links to) moved told
      → Going (version_of n) b (i + 1) (set (set links c.thread moved) to told) (set heard i known)
  next_by from to known moved told e g A M B =
      let t : c.thread ≡ r.thread = R.thread_is in
      let m : i + 1 ≡ suc (length H) = omega (arith, size) in
      rw (t, target_is to g)
      (next known moved told
      (subst (λ (x : ℕ). Raised (row_at links r.thread) (row_at links x) known) (source_is from e)
      (subst (λ (x : ℕ). Raised (row_at links x) (row_at links from) known) t A))
      (subst (λ (x : ℕ). Marked known r.thread x moved) m (subst (λ (x : ℕ). Marked known x (i + 1) moved) t M))
      (subst (λ (x : ℕ). Raised (row_at links x) moved told) (target_is to g) B))
