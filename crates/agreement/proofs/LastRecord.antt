-- Of a run's records the last alone may lack its key, and does exactly where the run stopped for it. Assumes nothing.
use Prim.Native.Nat.{ℕ, zero, suc, ◌<◌}
use native.Mathlib.Omega.{arith}
use mathlib.Core.Path.{◌≡◌, refl, sym, ap, ◌∙◌, subst as along}
use mathlib.Core.Bool.{not, true≢false}
use mathlib.Core.List.{List, [], ◌∷◌}
use mathlib.Core.Logic.{◌↔◌}
use mathlib.Core.Option.{Option, some, none}
use lib.Dec.{T, T_not}
use lib.ListN.{length, get_elem?}
use Rattle.log_order.specs.Chains.{At}
use Rattle.plan_packed.specs.Syntax.{Expression, Program}
use Rattle.log_records.specs.Record.{Record, lacks_key}
use Rattle.rules.specs.State.{Thread, State}
use Rattle.rules.specs.Rules.{Rule, Converts, E-CALL, E-LET, E-IF, E-WHILE, E-NEW, E-READ, E-WRITE, E-READV, E-WRITEV, E-FORK, E-JOIN, E-RE-ENTER, E-ACQUIRE}
use Rattle.rules.specs.Rules.{E-RELEASE, E-WAIT, E-WAKE, E-NOTIFY, E-NOTIFYALL, Moves, EVAL, EVALᶜ, LACKS-READ, LACKS-WRITE, Lacks, LACKS}
use Rattle.rules.specs.Run.{Stop, end, race, no_room, Run, logged, stopped, after_pass, after_move, log}
use Rattle.rules.specs.Execution.{Execution, ends, passes, lacks_key_lem, no_room_lem, moves}
use Rattle.agreement.specs.Agreement.{StoppedAt}

-- ---- moves and stops

abbrev Complete : Option Record → Type 0
Complete none = Unit {0}
Complete (some r) = T (not (lacks_key r.kind))

complete : {g : Program} {s : State} {p : ℕ} {t : Thread} {e : Expression} {R : Rule} {r : Option Record} {s' : State} {e' : Expression}
    → Converts g s p t e R r s' e' → Complete r
complete (E-CALL os hd hp) = tt
complete E-LET = tt
complete (E-IF b) = tt
complete E-WHILE = tt
complete E-NEW = tt
complete (E-READ w h k v) = tt
complete (E-WRITE w h k v) = tt
complete (E-READV h v) = tt
complete (E-WRITEV h v) = tt
complete E-FORK = tt
complete (E-JOIN h l) = tt
complete (E-RE-ENTER h) = tt
complete (E-ACQUIRE h n) = tt
complete (E-RELEASE h) = tt
complete (E-WAIT h) = tt
complete (E-WAKE n h k) = tt
complete (E-NOTIFY h) = tt
complete (E-NOTIFYALL h) = tt

-- a move's record lacks no key
complete_move : {g : Program} {s : State} {p : ℕ} {R : Rule} {r : Option Record} {s' : State} → Moves g s p R r s' → Complete r
complete_move (EVAL K ht he c) = complete c
complete_move (EVALᶜ K ht he c) = tt

-- the record of a stop lacks its key
lacking : {g : Program} {s : State} {p : ℕ} {r : Record} → Lacks g s p r → T (lacks_key r.kind)
lacking (LACKS K ht he (LACKS-READ w h k v)) = tt
lacking (LACKS K ht he (LACKS-WRITE w h k v)) = tt

-- ---- runs

-- which records of a log lack their keys, by how the run ended
abbrev pub LastLacks : Stop → List Record → Type 0
LastLacks end L = (j : ℕ) (x : Record) → At L j x → T (lacks_key x.kind) → ⊥
LastLacks (no_room k) L = (j : ℕ) (x : Record) → At L j x → T (lacks_key x.kind) → ⊥
LastLacks race L = (0 < length L) × ((j : ℕ) (x : Record) → At L j x → T (lacks_key x.kind) ↔ (suc j ≡ length L))

none_in_empty : (j : ℕ) (x : Record) → At [] j x → T (lacks_key x.kind) → ⊥
none_in_empty j x h k = true≢false cc

only_one : (r : Record) → T (lacks_key r.kind) → (j : ℕ) (x : Record) → At (r ∷ []) j x → T (lacks_key x.kind) ↔ (suc j ≡ 1)
only_one r k zero x h = let e : r ≡ x = cc in (λ q. refl, λ q. along (λ (y : Record). T (lacks_key y.kind)) e k)
only_one r k (suc j) x h = absurd (true≢false cc)

not_first : (r x : Record) (L : List Record) → T (not (lacks_key r.kind)) → At (r ∷ L) 0 x → T (lacks_key x.kind) → ⊥
not_first r x L c h k = let e : r ≡ x = cc in T_not (lacks_key r.kind) c (along (λ (y : Record). T (lacks_key y.kind)) (sym e) k)

none_with : (r : Record) (L : List Record) → T (not (lacks_key r.kind)) → ((j : ℕ) (x : Record) → At L j x → T (lacks_key x.kind) → ⊥)
    → (j : ℕ) (x : Record) → At (r ∷ L) j x → T (lacks_key x.kind) → ⊥
none_with r L c n zero x h k = not_first r x L c h k
none_with r L c n (suc j) x h k = n j x h k

race_with : (r : Record) (L : List Record) → T (not (lacks_key r.kind)) → LastLacks race L → (j : ℕ) (x : Record) → At (r ∷ L) j x
    → T (lacks_key x.kind) ↔ (suc j ≡ suc (length L))
race_with r L c n zero x h = (λ k. absurd (not_first r x L c h k), λ q. absurd (let b = n.0 in omega arith))
race_with r L c n (suc j) x h = let w = n.1 j x h in (λ k. ap suc (w.0 k), λ q. w.1 (omega arith))

last_logged : (r : Option Record) (e : Stop) (L : List Record) → Complete r → LastLacks e L → LastLacks e (logged r L)
unfolding logged
last_logged none e L c n = n
last_logged (some r) end L c n = none_with r L c n
last_logged (some r) (no_room k) L c n = none_with r L c n
last_logged (some r) race L c n = (omega arith, race_with r L c n)

pub last_lacks : {g : Program} {s : State} {ps : List ℕ} {r : Run} → Execution g s ps r → LastLacks r.stop (log r)
unfolding log stopped after_pass after_move
last_lacks ends = none_in_empty
last_lacks (passes h x) = last_lacks x
last_lacks (lacks_key_lem {e = e} h) = (omega arith, only_one e (lacking h))
last_lacks (no_room_lem h e) = none_in_empty
last_lacks (moves {r = r} {e = e} h k x) = last_logged e r.stop (log r) (complete_move h) (last_lacks x)

-- ---- the access

last_one : (r x : Record) (j : ℕ) → At (r ∷ []) j x → r ≡ x
last_one r x zero h = cc
last_one r x (suc j) h = absurd (true≢false cc)

in_logged : (e : Option Record) (L : List Record) (j : ℕ) (x : Record) → 0 < length L → At (logged e L) j x → suc j ≡ length (logged e L)
    → (i : ℕ) × At L i x × (suc i ≡ length L)
unfolding logged
in_logged none L j x b h q = (j, h, q)
in_logged (some r) L zero x b h q = absurd (omega arith)
in_logged (some r) L (suc j) x b h q = (j, h, omega arith)

pub race_recorded : (r : Run) → LastLacks r.stop (log r) → r.stop ≡ race → 0 < length (log r)
race_recorded r n h = (along (λ (e : Stop). LastLacks e (log r)) h n).0

-- the last record of a run that stopped for want of a key is the access that the thread picked last lacks the key for
pub last_access : {g : Program} {s : State} {ps : List ℕ} {r : Run} → Execution g s ps r → r.stop ≡ race → (j : ℕ) (x : Record) → At (log r) j x
    → suc j ≡ length (log r)
    → (p : ℕ) × (get_elem? ps r.picks ≡ some p) × Lacks g r.final p x
unfolding log stopped after_pass after_move
last_access ends q j x h l = absurd (true≢false cc)
last_access (passes o y) q j x h l = last_access y q j x h l
last_access {g} (lacks_key_lem {s} {p} {e = e} k) q j x h l = (p, refl, along (Lacks g s p) (last_one e x j h) k)
last_access (no_room_lem m k) q j x h l = absurd (true≢false cc)
last_access (moves {r = r} {e = e} m k y) q j x h l =
    let i = in_logged e (log r) j x (race_recorded r (last_lacks y) q) h l in
    last_access y q i.0 x i.1 i.2

-- ---- the stop

no_race : {r : Run} {A : Type 0} (e : Stop) → r.stop ≡ e → (e ≡ race → ⊥) → (j : ℕ) → StoppedAt r j → A
no_race e h n j st = absurd (n (sym h ∙ st.raced))

-- record j lacks its key exactly where the run stopped at it
pub lacks_stopped : (r : Run) → LastLacks r.stop (log r) → (j : ℕ) (x : Record) → At (log r) j x → T (lacks_key x.kind) ↔ StoppedAt r j
lacks_stopped r n j x h = go r.stop refl n
  where
    go : (e : Stop) → r.stop ≡ e → LastLacks e (log r) → T (lacks_key x.kind) ↔ StoppedAt r j
    go end q n = (λ k. absurd (n j x h k), λ st. let y : end ≡ race = sym q ∙ st.raced in absurd (true≢false cc))
    go (no_room k) q n = (λ l. absurd (n j x h l), λ st. let y : no_room k ≡ race = sym q ∙ st.raced in absurd (true≢false cc))
    go race q n = (λ k. record { raced = q; is_last = (n.1 j x h).0 k }, λ st. (n.1 j x h).1 st.is_last)
