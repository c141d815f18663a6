-- The queues of the monitors (document 02, E3): "The thread's state keeps its place in the queue and whether it was notified". Assumes nothing.
use Rattle.std.specs.Prelude.{ℕ, suc, Bool, cond, ◌&&◌, List, [], ◌∷◌, eqb, ltb}

-- a thread's place: the object on whose monitor the thread waits or last waited, and its number in that queue, which is how many, itself included, wait on the
-- object, are not yet notified and have waited as long or longer; 0 of a thread that is notified, or does not wait
pub record Place : Type 0 where
  pub object : ℕ
  pub number : ℕ

-- the place of a new thread
abbrev pub awake : Place
awake = record { object = 0; number = 0 }

-- it waits on o and is not yet notified
unfoldable pub queued : ℕ → Place → Bool
queued o w = eqb o w.object && ltb 0 w.number

-- how many of these wait on o and are not yet notified
unfoldable pub queue_length : ℕ → List Place → ℕ
unfolding queued
queue_length o [] = 0
queue_length o (w ∷ ws) = cond (queued o w) (suc (queue_length o ws)) (queue_length o ws)

-- the last place of the queue of o, behind all these
unfoldable pub last_place : ℕ → List Place → Place
unfolding queue_length
last_place o ws = record { object = o; number = suc (queue_length o ws) }

-- a place whose number, if it is one on o, is changed by h
unfoldable pub moved_up : (ℕ → ℕ) → ℕ → Place → Place
moved_up h o w = record { object = w.object; number = cond (eqb o w.object) (h w.number) w.number }
