-- Every set, at every moment (document 02, E9): "After every pick of every run, a present thread's set must hold key 0 and the keys of just those plain
-- writes in the log that would have a chain to a `new` record of this thread, were one put at the log's end. This is to be shown for both versions and for
-- plans with wait." Assumes nothing.
use Rattle.std.specs.Prelude.{ℕ, ◌≡◌, List, [], ◌∷◌, ◌++◌, ◌⊎◌, ◌↔◌, T, length, take}
use Rattle.std.proofs.Math.Option.{some}
use Rattle.std.proofs.Math.ListN.{get_elem?}
use Rattle.format.specs.Version.{Version}
use Rattle.run_keys.specs.Keys.{Keys, holds}
use Rattle.plan_packed.specs.Trees.{program_of}
use Rattle.log_records.specs.Record.{new, Record}
use Rattle.log_order.specs.Chains.{Chain}
use Rattle.rules.specs.State.{Thread}
use Rattle.rules.specs.Run.{Run, log}
use Rattle.rules.specs.Play.{run_of}
use Rattle.known_keys.specs.WriteKeys.{PlainWrite, key_at}

-- "a `new` record of this thread", thread t, whatever object it makes
pub record NewOf (t : ℕ) (r : Record) : Type 0 where
  pub is_new : r.kind ≡ new
  pub of_thread : r.thread ≡ t

-- record i of the log L "would have a chain to [r], were one put at the log's end"
abbrev pub WouldChain : Version → List Record → ℕ → Record → Type 0
WouldChain v L i r = Chain v (L ++ (r ∷ [])) i (length L)

-- k is the key of one of "those plain writes in the log that would have a chain to" r
pub record KeyOfChained (v : Version) (L : List Record) (r : Record) (k : ℕ) : Type 0 where
  pub index : ℕ
  pub plain_write : PlainWrite L index
  pub its_key : k ≡ key_at L index
  pub chained : WouldChain v L index r

-- the set K holds "key 0 and the keys of just those plain writes in the log that would have a chain to a `new` record of this thread", whichever that
-- record is
abbrev pub HoldsJust : Version → List Record → ℕ → Keys → Type 0
HoldsJust v L t K = (r : Record) → NewOf t r → (k : ℕ) → T (holds K k) ↔ ((k ≡ 0) ⊎ KeyOfChained v L r k)

-- where a run stands: each "present thread's set" is that of the run's log
abbrev pub EverySet : Version → Run → Type 0
EverySet v r = (t : ℕ) (x : Thread) → get_elem? r.final.threads t ≡ some x → HoldsJust v (log r) t x.keys

-- "After every pick" of the run of the schedule on the plan: the run of its first n picks, for every n. One that has stopped stands where it stopped.
abbrev pub AfterEveryPick : (plan schedule : List ℕ) → Type 0
AfterEveryPick plan schedule = (n : ℕ) → EverySet (program_of plan).version (run_of plan (take n schedule))
