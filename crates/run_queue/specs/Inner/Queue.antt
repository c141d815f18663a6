-- The places of threads in the queues of monitors, as numbers: number * 32 + object, where a number of 0 is no place in the queue. The machine that the
-- code runs; no reader of the entries' promises needs it. Assumes nothing.
use Rattle.std.specs.Prelude.{ℕ, suc, ◌+◌, ◌-◌, ◌*◌, ◌/◌, ◌%◌, Bool, ◌&&◌, cond, List, [], ◌∷◌, map, eqb, ltb, set}
use Rattle.run_frames.specs.Inner.RedexKinds.{RedexKind as redex, is_redex}
use Rattle.run_frames.specs.declared.refocusing.Ready.{Ready}

-- w is a place in the queue of object o
unfoldable pub queued_on : ℕ → ℕ → Bool
queued_on o w = eqb o (w % 32) && ltb 0 (w / 32)

-- how many are queued on an object
unfoldable pub count_of : ℕ → List ℕ → ℕ
unfolding queued_on
count_of o [] = 0
count_of o (w ∷ ws) = cond (queued_on o w) (suc (count_of o ws)) (count_of o ws)

-- the last place in an object's queue
unfoldable pub last_of : ℕ → List ℕ → ℕ
unfolding count_of
last_of o ws = (count_of o ws + 1) * 32 + o

-- thread p waits: it takes the last place
unfoldable pub waited_of : ℕ → ℕ → List ℕ → List ℕ
unfolding last_of
waited_of o p ws = set ws p (last_of o ws)

-- notify: each place in the object's queue is one nearer to its front
unfoldable pub nearer : ℕ → ℕ → ℕ
unfolding queued_on
nearer o w = cond (queued_on o w) (w - 32) w

unfoldable pub notified_of : ℕ → List ℕ → List ℕ
unfolding nearer
notified_of o ws = map (nearer o) ws

-- notify all: nobody has a place in the object's queue
unfoldable pub freed : ℕ → ℕ → ℕ
freed o w = cond (eqb o (w % 32)) o w

unfoldable pub all_notified_of : ℕ → List ℕ → List ℕ
unfolding freed
all_notified_of o ws = map (freed o) ws

-- signal k of thread p: 0 wait, 1 notify, 2 notify all
unfoldable pub signalled_of : ℕ → ℕ → ℕ → List ℕ → List ℕ
unfolding waited_of notified_of all_notified_of
signalled_of k o p ws = cond (eqb k 0) (waited_of o p ws) (cond (eqb k 1) (notified_of o ws) (all_notified_of o ws))

-- the places after thread p has moved from redex r: only a signal changes them
unfoldable pub after_of : List ℕ → Ready → ℕ → List ℕ
unfolding signalled_of
after_of ws r p = cond (is_redex redex.Signal r.redex) (signalled_of r.second (r.first % 32) p ws) ws
