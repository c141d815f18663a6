-- Keys and chains agree: after a legal log, a plain access lacked its key exactly when it is unordered. Logs newest first. Assumes nothing.
use Prim.Native.Nat.{ℕ}
use mathlib.Core.Path.{◌≡◌}
use mathlib.Core.List.{[], List, ◌∷◌}
use mathlib.Core.Logic.{◌⊎◌, inl, inr, ◌↔◌}
use lib.ListN.{length}
use lib.Dec.{T, T_not}
use native.Mathlib.Omega.{arith}
use Rattle.format.specs.Version.{Version}
use Rattle.log_records.specs.Record.{Kind, new, read, write, readv, writev, acquire, release, fork, join, lacks_read, lacks_write, Record, is_plain, lacks_key}
use Rattle.log_order.proofs.Newest.{At, here, back, Unordered, at_below, last_once, unordered_newer, unordered_older}
use Rattle.log_order.proofs.Ports.{of_thread}
use Rattle.log_order.proofs.Flow.{Reach}
use Rattle.log_order.proofs.Access.{Unreached, unreached→unordered, unordered→unreached}
use Rattle.log_order.proofs.WriteKeys.{KeyAt, key_once, key_positive}
use Rattle.log_order.proofs.KeyMachine.{KeyState, Needs, after, Legal}
use Rattle.log_order.proofs.Known.{Known, known_zero}
use Rattle.log_order.proofs.Invariant.{invariant}
use Rattle.log_order.proofs.Traced.{Traced, known→traced, reach→known}
use Rattle.log_order.proofs.LastKeys.{LastKey, never, last, last_key}

-- what the key machine tested
abbrev Tested : Kind → ℕ → ℕ → ℕ → KeyState → Type 0
Tested κ t o f s = (T (lacks_key κ) × (T (s.knows t (s.plain o f)) → ⊥)) ⊎ ((T (lacks_key κ) → ⊥) × T (s.knows t (s.plain o f)))

tested : (κ : Kind) (t o f : ℕ) (s : KeyState) → T (is_plain κ) → Needs κ t o f s → Tested κ t o f s
tested new t o f s a nd = absurd a
tested read t o f s a nd = inr (λ x. x, nd)
tested write t o f s a nd = inr (λ x. x, nd)
tested readv t o f s a nd = absurd a
tested writev t o f s a nd = absurd a
tested acquire t o f s a nd = absurd a
tested release t o f s a nd = absurd a
tested fork t o f s a nd = absurd a
tested join t o f s a nd = absurd a
tested lacks_read t o f s a nd = inl (tt, T_not (s.knows t (s.plain o f)) nd)
tested lacks_write t o f s a nd = inl (tt, T_not (s.knows t (s.plain o f)) nd)

-- the access at the log's end
module _ (v : Version) (r : Record) (H : List Record) (l : Legal v (r ∷ H)) (a : T (is_plain r.kind)) where
  abbrev Key : ℕ
  Key = (after v H).plain r.object r.field

  known↔ : T ((after v H).knows r.thread Key) ↔ Known v Key H (of_thread r.thread)
  known↔ = (invariant v H l.0).threads_know r.thread Key l.1

  -- the thread knows the field's key: the write that made the key reaches the thread
  known→reach : (i : ℕ) → KeyAt H i Key → T ((after v H).knows r.thread Key) → Reach v i H (of_thread r.thread)
  known→reach i y x = go (known→traced (known↔.0 x))
    where
      go : (Key ≡ 0) ⊎ Traced v H Key (of_thread r.thread) → Reach v i H (of_thread r.thread)
      go (inl e) = let b = key_positive y in absurd (omega arith)
      go (inr d) = rw (key_once y d.made_at) d.reaches

  abbrev tests : Tested r.kind r.thread r.object r.field (after v H)
  tests = tested r.kind r.thread r.object r.field (after v H) a l.2

  lacking→unordered : T (lacks_key r.kind) → Unordered v (r ∷ H) (length H)
  lacking→unordered x = unreached→unordered v r H (go tests (last_key v H l.0 r.object r.field))
    where
      go : Tested r.kind r.thread r.object r.field (after v H) → LastKey H r.object r.field Key → Unreached v H r
      go (inr (n, _)) p = absurd (n x)
      go (inl (_, n)) (never e g) = absurd (n (known↔.1 (rw e (known_zero H (of_thread r.thread)))))
      go (inl (_, n)) (last i d y) = record { plain = a; last = i; is_last = d; no_reach = λ c. n (known↔.1 (reach→known y c)) }

  unordered→lacking : Unordered v (r ∷ H) (length H) → T (lacks_key r.kind)
  unordered→lacking x = go tests (last_key v H l.0 r.object r.field)
    where
      u : Unreached v H r
      u = unordered→unreached v r H x

      go : Tested r.kind r.thread r.object r.field (after v H) → LastKey H r.object r.field Key → T (lacks_key r.kind)
      go (inl (x, _)) p = x
      go (inr (_, k)) (never e g) = absurd (g u.last u.is_last.write_record u.is_last.at_i u.is_last.writes)
      go (inr (_, k)) (last i d y) = absurd (u.no_reach (rw (last_once H (length H) r.object r.field u.last i u.is_last d) (known→reach i y k)))

-- a plain access lacked its key exactly when it is unordered
pub agree_newest : (v : Version) (H : List Record) → Legal v H → (j : ℕ) (r : Record) → At H j r → T (is_plain r.kind)
    → T (lacks_key r.kind) ↔ Unordered v H j
agree_newest v (s ∷ H) l j r (here e) a = rw e (lacking→unordered v r H l a, unordered→lacking v r H l a)
agree_newest v (s ∷ H) l j r (back h) a =
    let b = at_below h in
    let w = agree_newest v H l.0 j r h a in
    (λ x. unordered_newer s H j b (w.0 x), λ u. w.1 (unordered_older s H j b u))
agree_newest v [] l j r x3 a = elim x3 [ ]
