-- The key machine: what a record needs of the key sets and what it does to them; so the key sets are a function of the log, newest first.
-- Assumes nothing.
use Prim.Native.Nat.{ℕ, suc}
use mathlib.Core.Path.{◌≡◌}
use mathlib.Core.Bool.{Bool, true, not}
use mathlib.Core.List.{List, [], ◌∷◌}
use lib.Dec.{T, eqb}
use Rattle.format.specs.Version.{Version, v0, v1}
use Rattle.log_records.specs.Record.{Kind, new, read, write, readv, writev, acquire, release, fork, join, lacks_read, lacks_write, Record}
use Rattle.log_order.proofs.KeySets.{KeySet, union, learn, no_keys, only_zero, put, put₂}

-- threads that are present and their sets, the one key of a plain field, the sets of volatile fields and monitors, who took a monitor last, the
-- next unused key
pub record KeyState : Type 0 where
  pub present : ℕ → Bool
  pub knows : ℕ → KeySet
  pub plain : ℕ → ℕ → ℕ
  pub volatiles : ℕ → ℕ → KeySet
  pub monitors : ℕ → KeySet
  pub owner : ℕ → ℕ
  pub next : ℕ

unfoldable pub start : KeyState
start = record {
  present = eqb 0;
  knows = λ t. only_zero;
  plain = λ o f. 0;
  volatiles = λ o f. only_zero;
  monitors = λ o. only_zero;
  owner = λ o. 0;
  next = 1;
}

-- ---- one place changed

-- thread t has the set a
abbrev pub thread_knows : ℕ → KeySet → KeyState → KeyState
thread_knows t a s = record {
  present = s.present;
  knows = put s.knows t a;
  plain = s.plain;
  volatiles = s.volatiles;
  monitors = s.monitors;
  owner =
      s.owner;
  next = s.next;
}

-- plain field f of o has the next unused key
abbrev pub plain_keyed : ℕ → ℕ → KeyState → KeyState
plain_keyed o f s = record {
  present = s.present;
  knows = s.knows;
  plain = put₂ s.plain o f s.next;
  volatiles = s.volatiles;
  monitors =
      s.monitors;
  owner = s.owner;
  next = suc s.next;
}

-- volatile field f of o has the set a
abbrev pub volatile_knows : ℕ → ℕ → KeySet → KeyState → KeyState
volatile_knows o f a s =
    record {
      present = s.present;
      knows = s.knows;
      plain = s.plain;
      volatiles = put₂ s.volatiles o f a;
      monitors = s.monitors;
      owner = s.owner;
      next =
          s.next;
    }

-- thread t has the monitor of o
abbrev pub monitor_taken : ℕ → ℕ → KeyState → KeyState
monitor_taken o t s = record {
  present = s.present;
  knows = s.knows;
  plain = s.plain;
  volatiles = s.volatiles;
  monitors =
      put s.monitors o no_keys;
  owner = put s.owner o t;
  next = s.next;
}

-- the monitor of o has the set a
abbrev pub monitor_freed : ℕ → KeySet → KeyState → KeyState
monitor_freed o a s = record {
  present = s.present;
  knows = s.knows;
  plain = s.plain;
  volatiles = s.volatiles;
  monitors = put s.monitors o a;
  owner =
      s.owner;
  next = s.next;
}

-- thread q is present and has the set a
abbrev pub thread_forked : ℕ → KeySet → KeyState → KeyState
thread_forked q a s = record {
  present = put s.present q true;
  knows = put s.knows q a;
  plain = s.plain;
  volatiles = s.volatiles;
  monitors =
      s.monitors;
  owner = s.owner;
  next = s.next;
}

-- ---- records

-- what a record of this kind, thread, object and field does
abbrev pub act : Version → Kind → ℕ → ℕ → ℕ → KeyState → KeyState
act v new t o f s = s
act v read t o f s = s
act v write t o f s = thread_knows t (learn s.next (s.knows t)) (plain_keyed o f s)
act v0 readv t o f s = s
act v1 readv t o f s = thread_knows t (union (s.knows t) (s.volatiles o f)) s
act v0 writev t o f s = s
act v1 writev t o f s = volatile_knows o f (union (s.volatiles o f) (s.knows t)) s
act v acquire t o f s = thread_knows t (union (s.knows t) (s.monitors o)) (monitor_taken o t s)
act v release t o f s = monitor_freed o (s.knows t) s
act v fork t o f s = thread_forked f (s.knows t) s
act v join t o f s = thread_knows t (union (s.knows t) (s.knows f)) s
act v lacks_read t o f s = s
act v lacks_write t o f s = s

abbrev pub step : Version → KeyState → Record → KeyState
step v s r = act v r.kind r.thread r.object r.field s

-- what it needs, besides that its thread is present
abbrev pub Needs : Kind → ℕ → ℕ → ℕ → KeyState → Type 0
Needs new t o f s = Unit {0}
Needs read t o f s = T (s.knows t (s.plain o f))
Needs write t o f s = T (s.knows t (s.plain o f))
Needs readv t o f s = Unit {0}
Needs writev t o f s = Unit {0}
Needs acquire t o f s = (k : ℕ) × T (s.monitors o k)
Needs release t o f s = ((k : ℕ) → T (s.monitors o k) → ⊥) × (s.owner o ≡ t)
Needs fork t o f s = T (not (s.present f))
Needs join t o f s = T (s.present f)
Needs lacks_read t o f s = T (not (s.knows t (s.plain o f)))
Needs lacks_write t o f s = T (not (s.knows t (s.plain o f)))

-- the key sets after a log
abbrev pub after : Version → List Record → KeyState
after v [] = start
after v (r ∷ H) = step v (after v H) r

-- every record had what it needs
abbrev pub Legal : Version → List Record → Type 0
Legal v [] = Unit {0}
Legal v (r ∷ H) = Legal v H × T ((after v H).present r.thread) × Needs r.kind r.thread r.object r.field (after v H)
