-- The bytes of eight threads, put one thread after the other. Assumes nothing.
use Prim.Native.Nat.{ℕ, zero, suc, ◌+◌, ◌*◌, ◌<◌}
use native.Mathlib.Omega.{arith}
use mathlib.Core.Path.{◌≡◌, refl, sym, ap, ◌∙◌, subst as along}
use mathlib.Core.List.{List, [], ◌∷◌, map}
use lib.ListN.{length, length-map, get_or, set, replicate}
use Rattle.format.proofs.Turns.{turns}
use Rattle.rules.specs.Run as run
use Rattle.run_outcome.specs.declared.ThreadState.TheVariants as state
use Rattle.run_outcome.specs.declared.Thread.{Thread}
use Rattle.run_outcome.specs.declared.Outcome.{Outcome}
use Rattle.play.specs.Answer.{stop_of, status_of, outcome_of}
use Rattle.abi_thread_bytes.specs.declared.ThreadBytes.{ThreadBytes}
use Rattle.abi_thread_bytes.specs.Bytes.{thread_bytes}
use Rattle.abi_thread_bytes.specs.Inner.Small.{SmallStatus}
use Rattle.abi_outcome.specs.Bytes.{all_threads, outcome_bytes}
use Rattle.abi_outcome.specs.Inner.Small.{AllSmall, SmallOutcome}
use Rattle.abi_outcome.specs.Inner.Parts.{head_bytes}

abbrev pub absent : Thread
absent = record { state = state.Absent; learnt = 0 }

-- thread p
abbrev pub thread_at : List Thread → ℕ → run.Status
thread_at all p = status_of (get_or all p absent).state

abbrev pub put_one : List ℕ → ℕ → ThreadBytes → ℕ → List ℕ
put_one l p b n = set (set (set (set l (8 + 4 * p) b.state) (9 + 4 * p) b.named) (10 + 4 * p) b.field) (11 + 4 * p) n

-- the bytes of thread p, put
abbrev pub put_thread : List Thread → ℕ → List ℕ → List ℕ
put_thread all p l = put_one l p (thread_bytes (thread_at all p)) (get_or all p absent).learnt

-- a list of n elements, spelled out
unfoldable spell : {A : Type 0} → ℕ → (ℕ → A) → List A
spell zero f = []
spell (suc n) f = f 0 ∷ spell n (λ i. f (suc i))

spelled : (n : ℕ) (l : List Thread) → length l ≡ n → l ≡ spell n (λ i. get_or l i absent)
unfolding spell
spelled zero [] e = refl
spelled zero (x ∷ l) e = absurd (omega arith)
spelled (suc n) [] e = absurd (omega arith)
spelled (suc n) (x ∷ l) e = ap (λ (t : List Thread). x ∷ t) (spelled n l (omega arith))

abbrev bytes_of : run.Stop → ℕ → ℕ → ℕ → List Thread → List ℕ
bytes_of s k m r all =
    outcome_bytes (record {
      stop = s;
      picks = k;
      moves = m;
      records = r;
      threads = map (λ (t : Thread). status_of t.state) all;
      totals =
          map (λ (t : Thread). t.learnt) all;
    })

abbrev put_all : run.Stop → ℕ → ℕ → ℕ → List Thread → List ℕ
put_all s k m r all = turns (put_thread all) 8 0 (head_bytes (replicate 40 0) s k m r)

put_spelled : (s : run.Stop) (k m r : ℕ) (f : ℕ → Thread) → put_all s k m r (spell 8 f) ≡ bytes_of s k m r (spell 8 f)
unfolding turns spell head_bytes outcome_bytes all_threads
put_spelled s k m r f = refl

-- the first eight bytes, then the eight threads
all_threads_lem : (s : run.Stop) (k m r : ℕ) (all : List Thread) → length all ≡ 8 → put_all s k m r all ≡ bytes_of s k m r all
all_threads_lem s k m r all e =
    along (λ (l : List Thread). put_all s k m r l ≡ bytes_of s k m r l) (sym (spelled 8 all e)) (put_spelled s k m r (λ i. get_or all i absent))

-- what holds of all holds of each
each_small : (all : List Thread) → AllSmall (map (λ (t : Thread). status_of t.state) all) → (p : ℕ) → p < length all → SmallStatus (thread_at all p)
each_small [] h p q = absurd (omega arith)
each_small (x ∷ all) h zero q = h.0
each_small (x ∷ all) h (suc p) q = each_small all h.1 p (omega arith)

-- ---- of an outcome whose numbers fit

module _ (o : Outcome) (h : SmallOutcome (outcome_of o)) where
  eight : length o.threads ≡ 8
  unfolding outcome_of
  eight = sym (length-map o.threads (λ (t : Thread). status_of t.state)) ∙ h.eight

  pub small_thread : (p : ℕ) → p < 8 → SmallStatus (thread_at o.threads p)
  unfolding outcome_of
  small_thread p q = each_small o.threads h.threads p (omega (arith, eight))

  pub whole : turns (put_thread o.threads) 8 0 (head_bytes (replicate 40 0) (stop_of o.stop) o.picks o.moves o.records) ≡ outcome_bytes (outcome_of o)
  unfolding outcome_of
  whole = all_threads_lem (stop_of o.stop) o.picks o.moves o.records o.threads eight
