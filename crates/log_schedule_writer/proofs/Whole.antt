-- The parts of the writing put together: the search, the marks, the count and the pass write what the definition says. Assumes nothing.
use Prim.Native.Nat.{ℕ, suc, ◌/◌, ◌<◌}
use native.Mathlib.Omega.{arith}
use native.Mathlib.Decide.{dec_lt}
use mathlib.Core.Path.{◌≡◌, refl, sym, ap, ◌∙◌, subst as along}
use mathlib.Core.Bool.{Bool, false}
use mathlib.Core.List.{List}
use mathlib.Core.Logic.{◌⊎◌, inl, inr, ◌↔◌}
use mathlib.Core.Option.{some, none-ne-some}
use lib.Dec.{T}
use lib.ListN.{length, get_elem?, replicate}
use Rattle.format.specs.Version.{v1}
use Rattle.format.specs.Area.{overwrite}
use Rattle.format.proofs.Filled.{repeated}
use Rattle.log_records.specs.Record.{Record}
use Rattle.log_records.specs.Packed.{record_at, record_count, log_of}
use Rattle.log_records.proofs.RoundTrip.{length_log, log_element, log_past}
use Rattle.log_order.specs.Chains as O
use Rattle.log_order.specs.Chains.{At, Chain, one, more, LastWrite}
use Rattle.answers.specs.Answer.{Answer}
use Rattle.side_by_side.specs.SideBySide.{WrittenFrom}
use Rattle.side_by_side.proofs.Written.{written_by}
use Rattle.log_last_write.specs.Inner.LastWrite.{IsLast, HasLast}
use Rattle.log_marking.specs.Inner.Marked.{MarkedIn, SameBeyond}
use Rattle.log_schedule_writer.specs.Inner.Kept.{flagged, count_kept, picks_in, Small}
use Rattle.log_schedule_writer.specs.Inner.WritesFrom.{RacedIn, WritesFrom, too_short, wrote}
use Rattle.log_schedule_writer.proofs.Counts.{picks_counted}

-- where a chain begins there is a record
chain_inside : (b : List ℕ) {k j : ℕ} → Chain v1 (log_of b) k j → k < length b / 3
unfolding record_count
chain_inside b {k} (one l) = go (dec_lt k (length b / 3))
  where
    go : Dec (k < length b / 3) → k < length b / 3
    go (yes h) = h
    go (no h) = absurd (none-ne-some l.earlier (sym (log_past b k (omega (arith, h))) ∙ l.at_i))
chain_inside b (more c l) = chain_inside b c

module _ {b : List ℕ} (R : RacedIn b) (failing : ℕ) (end : suc failing ≡ length b / 3) where
  its_end : R.failing ≡ failing
  its_end = omega (arith, R.at_end)

  inside : failing < record_count b
  unfolding record_count
  inside = omega (arith, end)

  access : At (log_of b) failing (record_at b failing)
  access = log_element b failing inside

  pub has_last : HasLast b failing
  unfolding record_count
  has_last =
      let u = R.unordered in
      let e : some u.access ≡ some (record_at b failing) = sym u.at_j ∙ ap (get_elem? (log_of b)) its_end ∙ access in
      let same : u.access ≡ record_at b failing = cc in
      record {
        inside = inside;
        index = u.last;
        is_last = along (λ (n : ℕ). LastWrite (log_of b) n (record_at b failing).object (record_at b failing).field u.last) its_end
            (along (λ (z : Record). LastWrite (log_of b) R.failing z.object z.field u.last) same u.is_last);
      }

  module _ (last : ℕ) (is_last : IsLast b failing last) (kept : List Bool) (marks : MarkedIn b failing last kept)
      (beyond : SameBeyond b (replicate 4096 false) kept) where
    by_chains : (k : ℕ) → T (flagged kept k) ↔ (Chain v1 (log_of b) k failing ⊎ Chain v1 (log_of b) k last)
    by_chains k = go (dec_lt k (length b / 3))
      where
        out : (k < length b / 3 → ⊥) → Chain v1 (log_of b) k failing ⊎ Chain v1 (log_of b) k last → ⊥
        out n (inl c) = n (chain_inside b c)
        out n (inr c) = n (chain_inside b c)

        go : Dec (k < length b / 3) → T (flagged kept k) ↔ (Chain v1 (log_of b) k failing ⊎ Chain v1 (log_of b) k last)
        go (yes h) = marks k h
        go (no h) =
            let e : flagged kept k ≡ false = beyond k (omega (arith, h)) ∙ repeated 4096 k false false (λ (x : Bool). x ≡ false) refl refl in
            (λ t. absurd (along T e t), λ c. absurd (out h c))

    pub its_picks : WrittenFrom (log_of b) (picks_in b kept)
    its_picks =
        written_by (log_of b) failing last (record_at b failing) access (end ∙ sym (length_log b)) is_last
        (along (λ (n : ℕ). O.Unordered v1 (log_of b) n) its_end R.unordered) (flagged kept) by_chains

    pub few_picks : Small (picks_in b kept)
    few_picks = R.small (picks_in b kept) its_picks

    pub counted : (n : ℕ) → n ≡ count_kept (flagged kept) 0 (length b / 3) → n ≡ length (picks_in b kept)
    counted n e = e ∙ ap (count_kept (flagged kept) 0) (sym (length_log b)) ∙ sym (picks_counted (flagged kept) (log_of b))

    pub writes_short : (n : ℕ) (area : List ℕ) → n ≡ count_kept (flagged kept) 0 (length b / 3) → length area < n
        → WritesFrom b area (Answer.refused (record { number = 17; place = 0 })) area
    writes_short n area e h = too_short its_picks (omega (arith, counted n e))

    pub writes_all : (n : ℕ) (area after : List ℕ) → n ≡ count_kept (flagged kept) 0 (length b / 3) → (length area < n → ⊥)
        → after ≡ overwrite (picks_in b kept) area → WritesFrom b area (Answer.value n) after
    writes_all n area after e h q =
        along (λ (m : ℕ). WritesFrom b area (Answer.value m) after) (sym (counted n e))
        (along (WritesFrom b area (Answer.value (length (picks_in b kept)))) (sym q) (wrote its_picks (omega (arith, counted n e, h))))
