-- Laws of the queues: the places of a list, as a wait, a notify and a fork change them (document 02, E3). Assumes nothing.
use Prim.Native.Nat.{ℕ, zero, suc, pred, ◌+◌, ◌<◌, ◌≤◌}
use native.Mathlib.Omega.{arith}
use native.Mathlib.Decide.{ℕ_discrete, dec_lt}
use mathlib.Core.Path.{◌≡◌, refl, sym, ap, ◌∙◌}
use mathlib.Core.Bool.{Bool, true, false, cond, ◌&&◌, true≢false}
use mathlib.Core.List.{List, [], ◌∷◌, ◌++◌, map}
use mathlib.Core.Option.{Option, some}
use lib.Dec.{eqb, ltb}
use lib.ListN.{get_elem?}
use borrow.Author.Tests.{eq-eqb, ne_eqb, eqb-true, lt-ltb, ltb-true}
use Rattle.rules.specs.Queue.{Place, awake, queued, queue_length, last_place, moved_up}
use Rattle.rules.specs.State.{change_at}
use Rattle.rules.specs.Waking.{holders}

-- ---- one place

-- it is one of the queue of o
abbrev pub In : ℕ → Place → Type 0
In o w = (o ≡ w.object) × (0 < w.number)

pub queued_in : (o : ℕ) (w : Place) → In o w → queued o w ≡ true
unfolding queued
queued_in o w h = rw (eq-eqb o w.object h.0, lt-ltb 0 w.number h.1)

pub in_queued : (o : ℕ) (w : Place) → queued o w ≡ true → In o w
unfolding queued
in_queued o w h = go (eqb o w.object) refl h
  where
    go : (b : Bool) → eqb o w.object ≡ b → b && ltb 0 w.number ≡ true → In o w
    go true e h = (eqb-true o w.object e, ltb-true 0 w.number h)
    go false e h = absurd (true≢false (sym h))

-- where a place is, seen from the queue of o
data Seen (o : ℕ) (w : Place) : Type 0 where
  elsewhere : (o ≡ w.object → ⊥) → Seen o w
  woken : o ≡ w.object → w.number ≡ 0 → Seen o w
  at : (n : ℕ) → o ≡ w.object → w.number ≡ suc n → Seen o w

seen : (o : ℕ) (w : Place) → Seen o w
seen o w = go (ℕ_discrete o w.object) w.number refl
  where
    go : Dec (o ≡ w.object) → (n : ℕ) → w.number ≡ n → Seen o w
    go (no e) n k = elsewhere e
    go (yes e) zero k = woken e k
    go (yes e) (suc n) k = at n e k

queued_elsewhere : (o : ℕ) (w : Place) → (o ≡ w.object → ⊥) → queued o w ≡ false
unfolding queued
queued_elsewhere o w e = rw (ne_eqb o w.object e)

queued_woken : (o : ℕ) (w : Place) → w.number ≡ 0 → queued o w ≡ false
unfolding queued
queued_woken o w k = rw k (go (eqb o w.object))
  where
    go : (b : Bool) → b && false ≡ false
    go true = refl
    go false = refl

-- it is place n of the queue of o
abbrev is : ℕ → ℕ → Place → Bool
is o n w = eqb o w.object && eqb n w.number

is_elsewhere : (o n : ℕ) (w : Place) → (o ≡ w.object → ⊥) → is o n w ≡ false
is_elsewhere o n w e = rw (ne_eqb o w.object e)

is_number : (o n : ℕ) (w : Place) → o ≡ w.object → is o n w ≡ eqb n w.number
is_number o n w e = rw (eq-eqb o w.object e)

is_other : (o n : ℕ) (w : Place) → (n ≡ w.number → ⊥) → is o n w ≡ false
is_other o n w k = rw (ne_eqb n w.number k) (go (eqb o w.object))
  where
    go : (b : Bool) → b && false ≡ false
    go true = refl
    go false = refl

is_at : (o n : ℕ) (w : Place) → o ≡ w.object → n ≡ w.number → is o n w ≡ true
is_at o n w e k = rw (eq-eqb o w.object e, eq-eqb n w.number k)

pub moved_number : (h : ℕ → ℕ) (o : ℕ) (w : Place) → o ≡ w.object → (moved_up h o w).number ≡ h w.number
unfolding moved_up
moved_number h o w e = rw (eq-eqb o w.object e)

pub moved_other : (h : ℕ → ℕ) (o : ℕ) (w : Place) → (o ≡ w.object → ⊥) → (moved_up h o w).number ≡ w.number
unfolding moved_up
moved_other h o w e = rw (ne_eqb o w.object e)

pub moved_object : (h : ℕ → ℕ) (o : ℕ) (w : Place) → (moved_up h o w).object ≡ w.object
unfolding moved_up
moved_object h o w = refl

-- ---- the first of a list counts, or does not

length_in_lem : (o : ℕ) (w : Place) (ws : List Place) → queued o w ≡ true → queue_length o (w ∷ ws) ≡ suc (queue_length o ws)
unfolding queue_length
length_in_lem o w ws h = rw h

length_out : (o : ℕ) (w : Place) (ws : List Place) → queued o w ≡ false → queue_length o (w ∷ ws) ≡ queue_length o ws
unfolding queue_length
length_out o w ws h = rw h

holders_in : (o n : ℕ) (w : Place) (ws : List Place) → is o n w ≡ true → holders o n (w ∷ ws) ≡ suc (holders o n ws)
unfolding holders
holders_in o n w ws h = rw h

holders_out : (o n : ℕ) (w : Place) (ws : List Place) → is o n w ≡ false → holders o n (w ∷ ws) ≡ holders o n ws
unfolding holders
holders_out o n w ws h = rw h

-- ---- a new thread is in no queue

pub length_awake : (o : ℕ) (ws : List Place) → queue_length o (ws ++ (awake ∷ [])) ≡ queue_length o ws
unfolding queue_length
length_awake o [] = rw (queued_woken o awake refl)
length_awake o (w ∷ ws) = ap (λ (n : ℕ). cond (queued o w) (suc n) n) (length_awake o ws)

pub holders_awake : (o n : ℕ) (ws : List Place) → holders o (suc n) (ws ++ (awake ∷ [])) ≡ holders o (suc n) ws
unfolding holders
holders_awake o n [] = rw (is_other o (suc n) awake (λ e. omega arith))
holders_awake o n (w ∷ ws) = ap (λ (m : ℕ). cond (is o (suc n) w) (suc m) m) (holders_awake o n ws)

-- ---- thread p, which was in no queue, takes place v

one_if_lem : (b : Bool) (n : ℕ) → cond b (suc n) n ≡ n + cond b 1 0
one_if_lem true n = omega arith
one_if_lem false n = omega arith

pass_one : (b : Bool) (m n k : ℕ) → m ≡ n + k → cond b (suc m) m ≡ cond b (suc n) n + k
pass_one true m n k e = omega arith
pass_one false m n k e = e

pub length_taken : (o : ℕ) (v : Place) (ws : List Place) (p : ℕ) (w : Place) → get_elem? ws p ≡ some w → w.number ≡ 0
    → queue_length o (change_at ws p (λ x. v)) ≡ queue_length o ws + cond (queued o v) 1 0
unfolding queue_length change_at
length_taken o v [] p w h z = absurd (true≢false cc)
length_taken o v (x ∷ ws) zero w h z =
    let e : x ≡ w = cc in
    rw (queued_woken o x (ap (λ (y : Place). y.number) e ∙ z)) (one_if_lem (queued o v) (queue_length o ws))
length_taken o v (x ∷ ws) (suc p) w h z = pass_one (queued o x) _ _ _ (length_taken o v ws p w h z)

pub holders_taken : (o n : ℕ) (v : Place) (ws : List Place) (p : ℕ) (w : Place) → get_elem? ws p ≡ some w → w.number ≡ 0
    → holders o (suc n) (change_at ws p (λ x. v)) ≡ holders o (suc n) ws + cond (is o (suc n) v) 1 0
unfolding holders change_at
holders_taken o n v [] p w h z = absurd (true≢false cc)
holders_taken o n v (x ∷ ws) zero w h z =
    let e : x ≡ w = cc in
    rw (is_other o (suc n) x (λ k. omega (arith, k, z, ap (λ (y : Place). y.number) e))) (one_if_lem (is o (suc n) v) (holders o (suc n) ws))
holders_taken o n v (x ∷ ws) (suc p) w h z = pass_one (is o (suc n) x) _ _ _ (holders_taken o n v ws p w h z)

-- ---- the others of a queue move up: another queue stays

module _ (h : ℕ → ℕ) (o a : ℕ) (n : o ≡ a → ⊥) where
  same_queued : (w : Place) → queued a (moved_up h o w) ≡ queued a w
  unfolding queued
  same_queued w = go (ℕ_discrete o w.object)
    where
      go : Dec (o ≡ w.object) → queued a (moved_up h o w) ≡ queued a w
      go (yes e) = queued_elsewhere a (moved_up h o w) (λ k. n (e ∙ sym (k ∙ moved_object h o w))) ∙ sym (queued_elsewhere a w (λ k. n (e ∙ sym k)))
      go (no e) = rw (moved_object h o w, moved_other h o w e)

  same_is : (m : ℕ) (w : Place) → is a m (moved_up h o w) ≡ is a m w
  same_is m w = go (ℕ_discrete o w.object)
    where
      go : Dec (o ≡ w.object) → is a m (moved_up h o w) ≡ is a m w
      go (yes e) = is_elsewhere a m (moved_up h o w) (λ k. n (e ∙ sym (k ∙ moved_object h o w))) ∙ sym (is_elsewhere a m w (λ k. n (e ∙ sym k)))
      go (no e) = rw (moved_object h o w, moved_other h o w e)

  pub length_other : (ws : List Place) → queue_length a (map (moved_up h o) ws) ≡ queue_length a ws
  unfolding queue_length
  length_other [] = refl
  length_other (w ∷ ws) = rw (same_queued w, length_other ws)

  pub holders_other : (m : ℕ) (ws : List Place) → holders a m (map (moved_up h o) ws) ≡ holders a m ws
  unfolding holders
  holders_other m [] = refl
  holders_other m (w ∷ ws) = rw (same_is m w, holders_other m ws)

-- ---- notify: one leaves

pub length_notified : (o : ℕ) (ws : List Place) → queue_length o ws ≡ queue_length o (map (moved_up pred o) ws) + holders o 1 ws
unfolding queue_length holders
length_notified o [] = refl
length_notified o (w ∷ ws) = go (seen o w) (length_notified o ws)
  where
    w' : Place
    w' = moved_up pred o w

    L : ℕ
    L = queue_length o ws

    A : ℕ
    A = holders o 1 ws

    L' : ℕ
    L' = queue_length o (map (moved_up pred o) ws)

    goal : (b b' c : Bool) → queued o w ≡ b → queued o w' ≡ b' → is o 1 w ≡ c → cond b (suc L) L ≡ cond b' (suc L') L' + cond c (suc A) A
        → cond (queued o w) (suc L) L ≡ cond (queued o w') (suc L') L' + cond (is o 1 w) (suc A) A
    goal b b' c e e' k h = rw (e, e', k) h

    go : Seen o w → L ≡ L' + A → cond (queued o w) (suc L) L ≡ cond (queued o w') (suc L') L' + cond (is o 1 w) (suc A) A
    go (elsewhere e) rest =
        goal false false false (queued_elsewhere o w e) (queued_elsewhere o w' (λ k. e (k ∙ moved_object pred o w))) (is_elsewhere o 1 w e) rest
    go (woken e k) rest =
        goal false false false (queued_woken o w k) (queued_woken o w' (moved_number pred o w e ∙ ap pred k)) (is_other o 1 w (λ z. omega (arith, z, k))) rest
    go (at zero e k) rest =
        goal true false true (queued_in o w (e, omega (arith, k))) (queued_woken o w' (moved_number pred o w e ∙ ap pred k)) (is_at o 1 w e (sym k))
        (omega (arith, rest))
    go (at (suc n) e k) rest =
        goal true true false (queued_in o w (e, omega (arith, k)))
        (queued_in o w' (e ∙ sym (moved_object pred o w), omega (arith, moved_number pred o w e ∙ ap pred k))) (is_other o 1 w (λ z. omega (arith, z, k)))
        (omega (arith, rest))

pub holders_notified : (o n : ℕ) (ws : List Place) → holders o (suc n) (map (moved_up pred o) ws) ≡ holders o (suc (suc n)) ws
unfolding holders
holders_notified o n [] = refl
holders_notified o n (w ∷ ws) = rw (holders_notified o n ws, same (seen o w))
  where
    w' : Place
    w' = moved_up pred o w

    same : Seen o w → is o (suc n) w' ≡ is o (suc (suc n)) w
    same (elsewhere e) = is_elsewhere o (suc n) w' (λ k. e (k ∙ moved_object pred o w)) ∙ sym (is_elsewhere o (suc (suc n)) w e)
    same (woken e k) =
        is_other o (suc n) w' (λ z. omega (arith, z, moved_number pred o w e ∙ ap pred k)) ∙ sym (is_other o (suc (suc n)) w (λ z. omega (arith, z, k)))
    same (at m e k) = go (ℕ_discrete (suc n) m)
      where
        now : w'.number ≡ m
        now = moved_number pred o w e ∙ ap pred k

        go : Dec (suc n ≡ m) → is o (suc n) w' ≡ is o (suc (suc n)) w
        go (yes q) = is_at o (suc n) w' (e ∙ sym (moved_object pred o w)) (q ∙ sym now) ∙ sym (is_at o (suc (suc n)) w e (ap suc q ∙ sym k))
        go (no q) = is_other o (suc n) w' (λ z. q (z ∙ now)) ∙ sym (is_other o (suc (suc n)) w (λ z. q (omega (arith, z, k))))

-- ---- notify all: every one leaves

abbrev pub all : ℕ → ℕ
all n = 0

moved_all : (o : ℕ) (w : Place) → queued o (moved_up all o w) ≡ false
moved_all o w = go (ℕ_discrete o w.object)
  where
    go : Dec (o ≡ w.object) → queued o (moved_up all o w) ≡ false
    go (yes e) = queued_woken o (moved_up all o w) (moved_number all o w e)
    go (no e) = queued_elsewhere o (moved_up all o w) (λ k. e (k ∙ moved_object all o w))

pub length_all : (o : ℕ) (ws : List Place) → queue_length o (map (moved_up all o) ws) ≡ 0
unfolding queue_length
length_all o [] = refl
length_all o (w ∷ ws) = rw (moved_all o w) (length_all o ws)

is_moved_all : (o n : ℕ) (w : Place) → is o (suc n) (moved_up all o w) ≡ false
is_moved_all o n w = go (ℕ_discrete o w.object)
  where
    go : Dec (o ≡ w.object) → is o (suc n) (moved_up all o w) ≡ false
    go (yes e) = is_other o (suc n) (moved_up all o w) (λ z. omega (arith, z, moved_number all o w e))
    go (no e) = is_elsewhere o (suc n) (moved_up all o w) (λ k. e (k ∙ moved_object all o w))

pub holders_all : (o n : ℕ) (ws : List Place) → holders o (suc n) (map (moved_up all o) ws) ≡ 0
unfolding holders
holders_all o n [] = refl
holders_all o n (w ∷ ws) = rw (is_moved_all o n w) (holders_all o n ws)

-- ---- who holds a place

abbrev pub Holder : ℕ → ℕ → List Place → Type 0
Holder o n ws = (p : ℕ) × (w : Place) × (get_elem? ws p ≡ some w) × (o ≡ w.object) × (n ≡ w.number)

pub holder : (o n : ℕ) (ws : List Place) → 0 < holders o n ws → Holder o n ws
unfolding holders
holder o n [] h = absurd (omega arith)
holder o n (w ∷ ws) h = go (ℕ_discrete o w.object) (ℕ_discrete n w.number) (holder o n ws)
  where
    later : holders o n (w ∷ ws) ≡ holders o n ws → (0 < holders o n ws → Holder o n ws) → Holder o n (w ∷ ws)
    later e f = let r = f (omega (arith, h, e)) in (suc r.0, r.1, r.2, r.3, r.4)

    go : Dec (o ≡ w.object) → Dec (n ≡ w.number) → (0 < holders o n ws → Holder o n ws) → Holder o n (w ∷ ws)
    go (yes e) (yes k) f = (0, w, refl, e, k)
    go (yes e) (no k) f = later (holders_out o n w ws (is_other o n w k)) f
    go (no e) k f = later (holders_out o n w ws (is_elsewhere o n w e)) f

pub held_place : (o n : ℕ) (ws : List Place) (p : ℕ) (w : Place) → get_elem? ws p ≡ some w → o ≡ w.object → n ≡ w.number → 0 < holders o n ws
unfolding holders
held_place o n [] p w h e k = absurd (true≢false cc)
held_place o n (x ∷ ws) zero w h e k =
    let q : x ≡ w = cc in
    omega (arith, holders_in o n x ws (is_at o n x (e ∙ sym (ap (λ (y : Place). y.object) q)) (k ∙ sym (ap (λ (y : Place). y.number) q))))
held_place o n (x ∷ ws) (suc p) w h e k = go (is o n x) (held_place o n ws p w h e k)
  where
    go : (c : Bool) → 0 < holders o n ws → 0 < cond c (suc (holders o n ws)) (holders o n ws)
    go true l = omega arith
    go false l = l

-- one holder at most
pub one_holder : (o n : ℕ) (ws : List Place) → holders o n ws ≤ 1 → (p q : ℕ) (v w : Place) → get_elem? ws p ≡ some v → get_elem? ws q ≡ some w
    → o ≡ v.object → n ≡ v.number → o ≡ w.object → n ≡ w.number → p ≡ q
one_holder o n [] l p q v w hp hq a b c d = absurd (true≢false cc)
one_holder o n (x ∷ ws) l zero zero v w hp hq a b c d = refl
one_holder o n (x ∷ ws) l zero (suc q) v w hp hq a b c d =
    let e : x ≡ v = cc in
    let i = holders_in o n x ws (is_at o n x (a ∙ sym (ap (λ (y : Place). y.object) e)) (b ∙ sym (ap (λ (y : Place). y.number) e))) in
    absurd (omega (arith, l, i, held_place o n ws q w hq c d))
one_holder o n (x ∷ ws) l (suc p) zero v w hp hq a b c d =
    let e : x ≡ w = cc in
    let i = holders_in o n x ws (is_at o n x (c ∙ sym (ap (λ (y : Place). y.object) e)) (d ∙ sym (ap (λ (y : Place). y.number) e))) in
    absurd (omega (arith, l, i, held_place o n ws p v hp a b))
one_holder o n (x ∷ ws) l (suc p) (suc q) v w hp hq a b c d = ap suc (one_holder o n ws (fewer (is o n x) refl) p q v w hp hq a b c d)
  where
    fewer : (c : Bool) → is o n x ≡ c → holders o n ws ≤ 1
    fewer true e = omega (arith, l, holders_in o n x ws e)
    fewer false e = omega (arith, l, holders_out o n x ws e)

-- ---- the last place of the queue of o

module _ (o : ℕ) (ws : List Place) (p : ℕ) (w : Place) (h : get_elem? ws p ≡ some w) (z : w.number ≡ 0) where
  abbrev pub behind : List Place
  behind = change_at ws p (λ x. last_place o ws)

  last_object : (last_place o ws).object ≡ o
  last_object = unfold last_place in refl

  last_number : (last_place o ws).number ≡ suc (queue_length o ws)
  last_number = unfold last_place in refl

  pub length_behind : queue_length o behind ≡ suc (queue_length o ws)
  length_behind = length_taken o (last_place o ws) ws p w h z ∙ rw (queued_in o (last_place o ws) (sym last_object, omega (arith, last_number))) (omega arith)

  pub length_beside : (a : ℕ) → (a ≡ o → ⊥) → queue_length a behind ≡ queue_length a ws
  length_beside a n = length_taken a (last_place o ws) ws p w h z ∙ rw (queued_elsewhere a (last_place o ws) (λ e. n (e ∙ last_object))) (omega arith)

  pub holders_last : holders o (suc (queue_length o ws)) behind ≡ suc (holders o (suc (queue_length o ws)) ws)
  holders_last =
      holders_taken o (queue_length o ws) (last_place o ws) ws p w h z
      ∙ rw (is_at o (suc (queue_length o ws)) (last_place o ws) (sym last_object) (sym last_number)) (omega arith)

  pub holders_before : (n : ℕ) → (n ≡ queue_length o ws → ⊥) → holders o (suc n) behind ≡ holders o (suc n) ws
  holders_before n k =
      holders_taken o n (last_place o ws) ws p w h z ∙ rw (is_other o (suc n) (last_place o ws) (λ e. k (omega (arith, e, last_number)))) (omega arith)

  pub holders_beside : (a n : ℕ) → (a ≡ o → ⊥) → holders a (suc n) behind ≡ holders a (suc n) ws
  holders_beside a n k = holders_taken a n (last_place o ws) ws p w h z ∙ rw (is_elsewhere a (suc n) (last_place o ws) (λ e. k (e ∙ last_object))) (omega arith)

-- ---- the places of a queue are 1 to its length, each once

pub record Line (ws : List Place) : Type 0 where
  pub once : (o n : ℕ) → n < queue_length o ws → holders o (suc n) ws ≡ 1
  pub empty : (o n : ℕ) → queue_length o ws ≤ n → holders o (suc n) ws ≡ 0

pub line_awake : (ws : List Place) → Line ws → Line (ws ++ (awake ∷ []))
line_awake ws l = record {
  once = λ o n h. holders_awake o n ws ∙ l.once o n (omega (arith, h, length_awake o ws));
  empty = λ o n h. holders_awake o n ws ∙ l.empty o n (omega (arith, h, length_awake o ws));
}

pub line_behind : (o : ℕ) (ws : List Place) (p : ℕ) (w : Place) → get_elem? ws p ≡ some w → w.number ≡ 0 → Line ws → Line (change_at ws p (λ x. last_place o ws))
line_behind o ws p w h z l = record { once = λ a n k. one a n k (ℕ_discrete a o); empty = λ a n k. none_there a n k (ℕ_discrete a o) }
  where
    B : List Place
    B = change_at ws p (λ x. last_place o ws)

    first : (n : ℕ) → n < queue_length o B → Dec (n ≡ queue_length o ws) → holders o (suc n) B ≡ 1
    first n k (yes e) = rw (e, holders_last o ws p w h z) (ap suc (l.empty o (queue_length o ws) (omega arith)))
    first n k (no e) = holders_before o ws p w h z n e ∙ l.once o n (omega (arith, k, length_behind o ws p w h z))

    one : (a n : ℕ) → n < queue_length a B → Dec (a ≡ o) → holders a (suc n) B ≡ 1
    one a n k (yes e) = rw e (first n (rw e at k) (ℕ_discrete n (queue_length o ws)))
    one a n k (no e) = holders_beside o ws p w h z a n e ∙ l.once a n (omega (arith, k, length_beside o ws p w h z a e))

    past : (n : ℕ) → queue_length o B ≤ n → holders o (suc n) B ≡ 0
    past n k =
        let b = length_behind o ws p w h z in
        holders_before o ws p w h z n (λ e. omega (arith, k, b, e)) ∙ l.empty o n (omega (arith, k, b))

    none_there : (a n : ℕ) → queue_length a B ≤ n → Dec (a ≡ o) → holders a (suc n) B ≡ 0
    none_there a n k (yes e) = rw e (past n (rw e at k))
    none_there a n k (no e) = holders_beside o ws p w h z a n e ∙ l.empty a n (omega (arith, k, length_beside o ws p w h z a e))

-- of the places that move up, those of other queues stay
line_moved : (h : ℕ → ℕ) (o : ℕ) (ws : List Place)
    → ((n : ℕ) → n < queue_length o (map (moved_up h o) ws) → holders o (suc n) (map (moved_up h o) ws) ≡ 1)
    → ((n : ℕ) → queue_length o (map (moved_up h o) ws) ≤ n → holders o (suc n) (map (moved_up h o) ws) ≡ 0) → Line ws → Line (map (moved_up h o) ws)
line_moved h o ws f k l = record { once = λ a n x. one a n x (ℕ_discrete o a); empty = λ a n x. none_there a n x (ℕ_discrete o a) }
  where
    one : (a n : ℕ) → n < queue_length a (map (moved_up h o) ws) → Dec (o ≡ a) → holders a (suc n) (map (moved_up h o) ws) ≡ 1
    one a n x (yes e) = rw (← e) (f n (rw (← e) at x))
    one a n x (no e) = holders_other h o a e (suc n) ws ∙ l.once a n (omega (arith, x, length_other h o a e ws))

    none_there : (a n : ℕ) → queue_length a (map (moved_up h o) ws) ≤ n → Dec (o ≡ a) → holders a (suc n) (map (moved_up h o) ws) ≡ 0
    none_there a n x (yes e) = rw (← e) (k n (rw (← e) at x))
    none_there a n x (no e) = holders_other h o a e (suc n) ws ∙ l.empty a n (omega (arith, x, length_other h o a e ws))

pub line_notified : (o : ℕ) (ws : List Place) → Line ws → Line (map (moved_up pred o) ws)
line_notified o ws l = line_moved pred o ws one none_there l
  where
    one : (n : ℕ) → n < queue_length o (map (moved_up pred o) ws) → holders o (suc n) (map (moved_up pred o) ws) ≡ 1
    one n k =
        let e = length_notified o ws in
        let f = l.once o 0 (omega (arith, k, e)) in
        holders_notified o n ws ∙ l.once o (suc n) (omega (arith, k, e, f))

    none_there : (n : ℕ) → queue_length o (map (moved_up pred o) ws) ≤ n → holders o (suc n) (map (moved_up pred o) ws) ≡ 0
    none_there n k = holders_notified o n ws ∙ l.empty o (suc n) (short (queue_length o ws) refl)
      where
        short : (m : ℕ) → queue_length o ws ≡ m → queue_length o ws ≤ suc n
        short zero e = omega (arith, e)
        short (suc m) e = let f = l.once o 0 (omega (arith, e)) in omega (arith, k, length_notified o ws, f)

pub line_all : (o : ℕ) (ws : List Place) → Line ws → Line (map (moved_up all o) ws)
line_all o ws l = line_moved all o ws (λ n k. absurd (omega (arith, k, length_all o ws))) (λ n k. holders_all o n ws) l

-- a place in a queue is within its length
pub within : (ws : List Place) → Line ws → (o p : ℕ) (w : Place) → get_elem? ws p ≡ some w → In o w → w.number ≤ queue_length o ws
within ws l o p w h i = go w.number refl
  where
    go : (n : ℕ) → w.number ≡ n → w.number ≤ queue_length o ws
    go zero e = absurd (omega (arith, e, i.1))
    go (suc n) e = far (dec_lt n (queue_length o ws))
      where
        far : Dec (n < queue_length o ws) → w.number ≤ queue_length o ws
        far (yes k) = omega (arith, k, e)
        far (no k) = absurd (omega (arith, l.empty o n (omega arith), held_place o (suc n) ws p w h i.0 (sym e)))

-- and of one thread
pub alone : (ws : List Place) → Line ws → (o p q : ℕ) (v w : Place) → get_elem? ws p ≡ some v → get_elem? ws q ≡ some w → In o v → In o w
    → v.number ≡ w.number → p ≡ q
alone ws l o p q v w hp hq iv iw e = one_holder o v.number ws (few v.number refl) p q v w hp hq iv.0 refl iw.0 e
  where
    few : (n : ℕ) → v.number ≡ n → holders o v.number ws ≤ 1
    few zero k = absurd (omega (arith, k, iv.1))
    few (suc n) k = let b = within ws l o p v hp iv in rw k (omega (arith, l.once o n (omega (arith, b, k))))

-- ---- lists with places changed

pub mapped : {A B : Type 0} (f : A → B) (xs : List A) (i : ℕ) (y : B) → get_elem? (map f xs) i ≡ some y → (x : A) × (get_elem? xs i ≡ some x) × (f x ≡ y)
mapped f [] i y h = absurd (true≢false cc)
mapped f (x ∷ xs) zero y h = (x, refl, cc)
mapped f (x ∷ xs) (suc i) y h = mapped f xs i y h

pub mapped_at : {A B : Type 0} (f : A → B) (xs : List A) (i : ℕ) (x : A) → get_elem? xs i ≡ some x → get_elem? (map f xs) i ≡ some (f x)
mapped_at f [] i x h = absurd (true≢false cc)
mapped_at {B = B} f (y ∷ xs) zero x h = let e : y ≡ x = cc in ap {B = Option B} (λ z. some (f z)) e
mapped_at f (y ∷ xs) (suc i) x h = mapped_at f xs i x h
