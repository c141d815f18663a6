-- The queues of the monitors: the engine's places, which are numbers, against the places of the abstract machine's threads, and what a wait, a notify and a
-- notify
-- all make of both. Assumes nothing.
use Prim.Native.Nat.{ℕ, zero, suc, pred, ◌+◌, ◌-◌, ◌*◌, ◌/◌, ◌%◌, ◌<◌}
use native.Mathlib.Omega.{arith}
use native.Mathlib.Decide.{ℕ_discrete}
use mathlib.Core.Path.{◌≡◌, refl, sym, ap, ap₂, ◌∙◌}
use mathlib.Core.Bool.{Bool, true, false, cond, ◌&&◌}
use mathlib.Core.List.{List, [], ◌∷◌, ◌++◌, map}
use mathlib.Core.Option.{some, none-ne-some}
use lib.Dec.{eqb, ltb}
use lib.ListN.{length, get_or, set, get_elem?, length-set, length-map, get_or-map}
use lib.Seq.{get_or-set_same, get_or-set_other}
use borrow.Author.Tests.{eqb-true, ltb-true, ltb-false}
use Rattle.rules.specs.Queue.{Place, awake, queued, queue_length, last_place, moved_up}
use Rattle.rules.specs.State.{change_at}
use Rattle.machine.specs.Inner.Machine as machine
use Rattle.run_frames.specs.Inner.RedexKinds.{RedexKind as redex, is_redex}
use Rattle.run_frames.specs.declared.refocusing.Ready.{Ready}
use Rattle.run_queue.specs.Inner.Queue.{queued_on, count_of, last_of, waited_of, nearer, notified_of, freed, all_notified_of, signalled_of, after_of}

-- the place that a number stands for
abbrev pub place_meant : ℕ → Place
place_meant w = record { object = w % 32; number = w / 32 }

abbrev pub places_of : List machine.Thread → List Place
places_of xs = map (λ (x : machine.Thread). x.place) xs

-- the numbers stand for the places, and past the threads all are awake
abbrev pub Places : List ℕ → List Place → Type 0
Places ws ps = (i : ℕ) → place_meant (get_or ws i 0) ≡ get_or ps i awake

-- the place of a thread that is there
pub place_there : (xs : List machine.Thread) (p : ℕ) (t : machine.Thread) → get_elem? xs p ≡ some t → get_or (places_of xs) p awake ≡ t.place
place_there [] p t e = absurd (none-ne-some t e)
place_there (x ∷ xs) zero t e = let z : x ≡ t = cc in ap (λ (x : machine.Thread). x.place) z
place_there (x ∷ xs) (suc p) t e = place_there xs p t e

-- ---- the length of a queue

awake_out : (o : ℕ) → queued o awake ≡ false
unfolding queued
awake_out o = by (eqb o 0)
  where
    by : (x : Bool) → (x && false) ≡ false
    by true = refl
    by false = refl

queued_same : (o w : ℕ) → queued_on o w ≡ queued o (place_meant w)
unfolding queued_on queued
queued_same o w = refl

pub count_same : (o : ℕ) (ws : List ℕ) (ps : List Place) → Places ws ps → count_of o ws ≡ queue_length o ps
unfolding count_of queue_length
count_same o [] [] h = refl
count_same o [] (q ∷ ps) h =
    let e : queued o q ≡ false = ap (queued o) (sym (h 0)) ∙ awake_out o in
    count_same o [] ps (λ i. h (suc i)) ∙ sym (rw e)
count_same o (w ∷ ws) [] h =
    let e : queued_on o w ≡ false = queued_same o w ∙ ap (queued o) (h 0) ∙ awake_out o in
    rw e (count_same o ws [] (λ i. h (suc i)))
count_same o (w ∷ ws) (q ∷ ps) h =
    ap₂ (λ (x : Bool) (n : ℕ). cond x (suc n) n) (queued_same o w ∙ ap (queued o) (h 0)) (count_same o ws ps (λ i. h (suc i)))

-- ---- what a move does to the threads

-- threads that change and keep their places
pub places_kept : (xs : List machine.Thread) (p : ℕ) (k : machine.Thread → machine.Thread) → ((x : machine.Thread) → (k x).place ≡ x.place)
    → places_of (change_at xs p k) ≡ places_of xs
unfolding change_at
places_kept [] p k h = refl
places_kept (x ∷ xs) zero k h = ap (λ (w : Place). w ∷ places_of xs) (h x)
places_kept (x ∷ xs) (suc p) k h = ap (λ (ws : List Place). x.place ∷ ws) (places_kept xs p k h)

-- a thread that takes the place w
places_set : (xs : List machine.Thread) (p : ℕ) (k : machine.Thread → machine.Thread) (w : Place) → ((x : machine.Thread) → (k x).place ≡ w)
    → places_of (change_at xs p k) ≡ set (places_of xs) p w
unfolding change_at
places_set [] p k w h = refl
places_set (x ∷ xs) zero k w h = ap (λ (w : Place). w ∷ places_of xs) (h x)
places_set (x ∷ xs) (suc p) k w h = ap (λ (ws : List Place). x.place ∷ ws) (places_set xs p k w h)

-- every place changes
places_map : (xs : List machine.Thread) (k : machine.Thread → machine.Thread) (g : Place → Place) → ((x : machine.Thread) → (k x).place ≡ g x.place)
    → places_of (map k xs) ≡ map g (places_of xs)
places_map [] k g h = refl
places_map (x ∷ xs) k g h = ap₂ {C = List Place} (λ w ws. w ∷ ws) (h x) (places_map xs k g h)

-- one more thread, which is awake
pub places_more : (ws : List ℕ) (xs : List machine.Thread) (y : machine.Thread) → awake ≡ y.place → Places ws (places_of xs)
    → Places ws (places_of (xs ++ (y ∷ [])))
places_more ws xs y e h i = h i ∙ at xs i
  where
    at : (xs : List machine.Thread) (i : ℕ) → get_or (places_of xs) i awake ≡ get_or (places_of (xs ++ (y ∷ []))) i awake
    at [] zero = e
    at [] (suc i) = refl
    at (x ∷ xs) zero = refl
    at (x ∷ xs) (suc i) = at xs i

-- ---- a wait, a notify, a notify all

pub waited : (o p : ℕ) (ws : List ℕ) (xs : List machine.Thread) (k : machine.Thread → machine.Thread) → o < 32 → p < length ws → p < length xs
    → ((x : machine.Thread) → (k x).place ≡ last_place o (places_of xs)) → Places ws (places_of xs) → Places (waited_of o p ws) (places_of (change_at xs p k))
unfolding waited_of last_of last_place
waited o p ws xs k ho hp hq e h i = at (ℕ_discrete i p) ∙ ap (λ (ps : List Place). get_or ps i awake) (sym (places_set xs p k last e))
  where
    last : Place
    last = record { object = o; number = suc (queue_length o (places_of xs)) }

    number : ℕ
    number = (count_of o ws + 1) * 32 + o

    same : place_meant number ≡ last
    same =
        let c = count_same o ws (places_of xs) h in
        let a : number % 32 ≡ o = omega arith in
        let d : number / 32 ≡ suc (queue_length o (places_of xs)) = omega arith in
        ap₂ (λ (x y : ℕ). record { object = x; number = y }) a d

    at : Dec (i ≡ p) → place_meant (get_or (set ws p number) i 0) ≡ get_or (set (places_of xs) p last) i awake
    at (yes q) =
        rw q
        (ap place_meant (get_or-set_same ws p number 0 hp) ∙ same
        ∙ sym (get_or-set_same (places_of xs) p last awake (let l = length-map xs (λ (x : machine.Thread). x.place) in omega arith)))
    at (no q) = ap place_meant (get_or-set_other ws p i number 0 q) ∙ h i ∙ sym (get_or-set_other (places_of xs) p i last awake q)

-- a change f of numbers is a change g of places, and leaves those who are awake
mapped : (f : ℕ → ℕ) (g : Place → Place) (ws : List ℕ) (xs : List machine.Thread) (k : machine.Thread → machine.Thread) → f 0 ≡ 0 → g awake ≡ awake
    → ((w : ℕ) → place_meant (f w) ≡ g (place_meant w)) → ((x : machine.Thread) → (k x).place ≡ g x.place) → Places ws (places_of xs)
    → Places (map f ws) (places_of (map k xs))
mapped f g ws xs k zf zg same e h i =
    ap (λ (d : ℕ). place_meant (get_or (map f ws) i d)) (sym zf) ∙ ap place_meant (get_or-map f ws i 0) ∙ same (get_or ws i 0) ∙ ap g (h i)
    ∙ sym (ap (λ (ps : List Place). get_or ps i awake) (places_map xs k g e) ∙ ap (λ (d : Place). get_or (map g (places_of xs)) i d) (sym zg)
    ∙ get_or-map g (places_of xs) i awake)

nearer_meant : (o w : ℕ) → place_meant (nearer o w) ≡ moved_up pred o (place_meant w)
unfolding nearer queued_on moved_up
nearer_meant o w = by (eqb o (w % 32)) (ltb 0 (w / 32)) refl
  where
    by : (x y : Bool) → ltb 0 (w / 32) ≡ y → place_meant (cond (x && y) (w - 32) w) ≡ record { object = w % 32; number = cond x (pred (w / 32)) (w / 32) }
    by true true q =
        let l : 0 < w / 32 = ltb-true 0 (w / 32) q in
        let a : (w - 32) % 32 ≡ w % 32 = omega arith in
        let d : (w - 32) / 32 ≡ pred (w / 32) = omega arith in
        ap₂ (λ (x y : ℕ). record { object = x; number = y }) a d
    by true false q =
        let l = ltb-false 0 (w / 32) q in
        let d : w / 32 ≡ pred (w / 32) = omega arith in
        ap (λ (y : ℕ). record { object = w % 32; number = y }) d
    by false true q = refl
    by false false q = refl

freed_meant : (o w : ℕ) → o < 32 → place_meant (freed o w) ≡ moved_up (λ n. 0) o (place_meant w)
unfolding freed moved_up
freed_meant o w ho = by (eqb o (w % 32)) refl
  where
    by : (x : Bool) → eqb o (w % 32) ≡ x → place_meant (cond x o w) ≡ record { object = w % 32; number = cond x 0 (w / 32) }
    by true q =
        let e : o ≡ w % 32 = eqb-true o (w % 32) q in
        let a : o % 32 ≡ w % 32 = omega arith in
        let d : o / 32 ≡ 0 = omega arith in
        ap₂ (λ (x y : ℕ). record { object = x; number = y }) a d
    by false q = refl

nobody_nearer : (o : ℕ) → nearer o 0 ≡ 0
unfolding nearer queued_on
nobody_nearer o = by (eqb o 0)
  where
    by : (x : Bool) → ◌≡◌ {A = ℕ} (cond (x && false) 0 0) 0
    by true = refl
    by false = refl

nobody_freed : (o : ℕ) → freed o 0 ≡ 0
unfolding freed
nobody_freed o = by (eqb o 0) refl
  where
    by : (x : Bool) → eqb o 0 ≡ x → cond x o 0 ≡ 0
    by true q = eqb-true o 0 q
    by false q = refl

nobody_up : (h : ℕ → ℕ) (o : ℕ) → h 0 ≡ 0 → moved_up h o awake ≡ awake
unfolding moved_up
nobody_up h o e = by (eqb o 0)
  where
    by : (x : Bool) → ◌≡◌ {A = Place} (record { object = 0; number = cond x (h 0) 0 }) awake
    by true = ap (λ (n : ℕ). record { object = 0; number = n }) e
    by false = refl

pub notified : (o : ℕ) (ws : List ℕ) (xs : List machine.Thread) (k : machine.Thread → machine.Thread)
    → ((x : machine.Thread) → (k x).place ≡ moved_up pred o x.place)
    → Places ws (places_of xs) → Places (notified_of o ws) (places_of (map k xs))
unfolding notified_of
notified o ws xs k e h = mapped (nearer o) (moved_up pred o) ws xs k (nobody_nearer o) (nobody_up pred o refl) (nearer_meant o) e h

pub all_notified : (o : ℕ) (ws : List ℕ) (xs : List machine.Thread) (k : machine.Thread → machine.Thread) → o < 32
    → ((x : machine.Thread) → (k x).place ≡ moved_up (λ n. 0) o x.place)
    → Places ws (places_of xs) → Places (all_notified_of o ws) (places_of (map k xs))
unfolding all_notified_of
all_notified o ws xs k ho e h = mapped (freed o) (moved_up (λ n. 0) o) ws xs k (nobody_freed o) (nobody_up (λ n. 0) o refl) (λ w. freed_meant o w ho) e h

-- ---- after a move

-- a redex that is no signal leaves the places
pub after_quiet : (ws : List ℕ) (r : Ready) (p : ℕ) → is_redex redex.Signal r.redex ≡ false → after_of ws r p ≡ ws
unfolding after_of
after_quiet ws r p e = rw e

pub after_size : (ws : List ℕ) (r : Ready) (p : ℕ) → length (after_of ws r p) ≡ length ws
unfolding after_of signalled_of waited_of notified_of all_notified_of
after_size ws r p = by (is_redex redex.Signal r.redex) (eqb r.second 0) (eqb r.second 1)
  where
    o : ℕ
    o = r.first % 32

    by : (x y z : Bool) → length (cond x (cond y (set ws p (last_of o ws)) (cond z (map (nearer o) ws) (map (freed o) ws))) ws) ≡ length ws
    by false y z = refl
    by true true z = length-set ws p (last_of o ws)
    by true false true = length-map ws (nearer o)
    by true false false = length-map ws (freed o)
