-- The newest record of a log is an unordered access exactly when it is plain and the last write of its field does not reach its thread. Logs newest
-- first. Assumes nothing.
use Prim.Native.Nat.{ℕ}
use mathlib.Core.Path.{◌≡◌, refl, sym, subst}
use mathlib.Core.List.{List, ◌∷◌}
use mathlib.Core.Logic.{◌↔◌}
use lib.ListN.{length}
use lib.Dec.{T}
use native.Mathlib.Omega.{arith}
use Rattle.format.specs.Version.{Version}
use Rattle.log_records.specs.Record.{Record, is_plain}
use Rattle.log_order.proofs.Newest.{Chain, here, LastWrite, Last, Unordered, at_newest, last_newer, last_older}
use Rattle.log_order.proofs.Ports.{of_thread, plain_draws_own}
use Rattle.log_order.proofs.Flow.{Reach, own_chain}

-- the last write of r's field does not reach r's thread
pub record Unreached (v : Version) (H : List Record) (r : Record) : Type 0 where
  pub plain : T (is_plain r.kind)
  pub last : ℕ
  pub is_last : Last H r.object r.field last
  pub no_reach : Reach v last H (of_thread r.thread) → ⊥

module _ (v : Version) (r : Record) (H : List Record) where
  chain↔ : T (is_plain r.kind) → (i : ℕ) → Chain v (r ∷ H) i (length H) ↔ Reach v i H (of_thread r.thread)
  chain↔ a i = own_chain r H i (plain_draws_own v r a)

  pub unreached→unordered : Unreached v H r → Unordered v (r ∷ H) (length H)
  unreached→unordered u = record {
    access = r;
    at_j = here refl;
    plain = u.plain;
    last = u.last;
    is_last = last_newer r H (length H) r.object r.field u.last (omega arith) u.is_last;
    no_chain = λ c. u.no_reach ((chain↔ u.plain u.last).0 c);
  }

  pub unordered→unreached : Unordered v (r ∷ H) (length H) → Unreached v H r
  unordered→unreached u = record { plain = plain; last = u.last; is_last = its; no_reach = λ x. u.no_chain ((chain↔ plain u.last).1 x) }
    where
      same : u.access ≡ r
      same = sym (at_newest refl u.at_j)

      plain : T (is_plain r.kind)
      plain = subst (λ (w : Record). T (is_plain w.kind)) same u.plain

      its : Last H r.object r.field u.last
      its = last_older r H (length H) r.object r.field u.last (omega arith)
          (subst (λ (w : Record). LastWrite (r ∷ H) (length H) w.object w.field u.last) same u.is_last)
