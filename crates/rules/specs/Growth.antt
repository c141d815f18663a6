-- How much a thread learns (document 02, E6): the growth of its set over the moves that count. Assumes nothing.
use Rattle.std.specs.Prelude.{ℕ, ◌+◌, ◌-◌, Bool, true, false, cond, ◌&&◌, List, eqb}
use Rattle.std.proofs.Math.Option.{Option, some, none}
use Rattle.std.proofs.Math.ListN.{get_elem?}
use Rattle.run_keys.specs.Keys.{Keys, empty, size}
use Rattle.plan_packed.specs.Syntax.{Program}
use Rattle.rules.specs.State.{Thread, State}
use Rattle.rules.specs.Rules.{Rule, e_call, e_let, e_if, e_while, e_notnottrue, e_andtrue, e_andfalse, e_equaltrue, e_equalfalse, e_new, e_read}
use Rattle.rules.specs.Rules.{e_write, e_readv, e_writev, e_fork, e_join, e_re_enter, e_acquire, e_release, e_wait, e_wake, e_notify, e_notifyall}
use Rattle.rules.specs.Run.{Run}
use Rattle.rules.specs.Execution.{Execution, ends, passes, lacks_key_lem, no_room_lem, moves}

-- κ(p); ∅ of a thread that is not there
unfoldable pub keys_of_thread : Option Thread → Keys
keys_of_thread none = empty
keys_of_thread (some t) = t.keys

-- "acquire, volatile read and join": the moves that count. The acquire after a wait is one.
unfoldable pub counts : Rule → Bool
counts e_call = false
counts e_let = false
counts e_if = false
counts e_while = false
counts e_notnottrue = false
counts e_andtrue = false
counts e_andfalse = false
counts e_equaltrue = false
counts e_equalfalse = false
counts e_new = false
counts e_read = false
counts e_write = false
counts e_readv = true
counts e_writev = false
counts e_fork = false
counts e_join = true
counts e_re_enter = false
counts e_acquire = true
counts e_release = false
counts e_wait = false
counts e_wake = true
counts e_notify = false
counts e_notifyall = false

-- by how much the set of thread p is larger in the second state
unfoldable pub larger : ℕ → State → State → ℕ
unfolding keys_of_thread
larger p s s' = size (keys_of_thread (get_elem? s'.threads p)) - size (keys_of_thread (get_elem? s.threads p))

-- "the growth of that thread's set over those moves", of thread p
unfoldable pub growth : {g : Program} {s : State} {ps : List ℕ} {r : Run} → ℕ → Execution g s ps r → ℕ
unfolding counts larger
growth p ends = 0
growth p (passes h x) = growth p x
growth p (lacks_key_lem h) = 0
growth p (no_room_lem h e) = 0
growth p (moves {s} {s'} {p = q} {R = R} h k x) = cond (counts R && eqb q p) (larger p s s') 0 + growth p x
