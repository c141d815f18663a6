-- After a move with room before it: the room that is left, and the state that the code's state then stands for. Assumes nothing.
use Prim.Native.Nat.{ℕ, ◌+◌, ◌*◌, ◌%◌, ◌≤◌, ◌<◌}
use native.Mathlib.Nat.{mod-eq_of_lt}
use native.Mathlib.Omega.{arith}
use native.Mathlib.Decide.{ℕ_discrete, dec_lt}
use mathlib.Core.Path.{◌≡◌, refl, sym, ap, ap₂, ◌∙◌, subst as along}
use mathlib.Core.Bool.{Bool, true, false, cond, ◌&&◌, ◌||◌}
use mathlib.Core.List.{List, []}
use mathlib.Core.Option.{Option, some, none, none-ne-some}
use mathlib.Core.Logic.{◌⊎◌, inl, inr}
use lib.Dec.{ltb}
use lib.ListN.{length, get_or, set, get_elem?, drop, length-set}
use lib.Seq.{get_or-set_same, get_or-set_other}
use Rattle.run_keys.specs.Inner.KeySet.{keys_of}
use Rattle.rules.specs.Queue.{Place}
use Rattle.rules.specs.State.{change_at}
use Rattle.rules.specs.Room as rooms
use Rattle.rules.proofs.StateLaws.{there as present, inside, added, change_same, change_other, change_length}
use Rattle.rules.proofs.Relocated.{relocated_length, was_there}
use Rattle.machine.specs.Inner.Frames.{height}
use Rattle.machine.specs.Inner.Machine as machine
use Rattle.machine.specs.Inner.Playing as playing
use Rattle.run_frames.specs.Inner.Going.{go_full}
use Rattle.run_refocusing_step.specs.Inner.Down.{frame_at}
use Rattle.run_refocusing.specs.Inner.Refocusing.{Stack, Ended, ended, refocus_of}
use Rattle.run_state.specs.declared.Head.{Head}
use Rattle.run_state.specs.declared.Counts.{Counts}
use Rattle.run_state.specs.declared.acted.Acted.{Acted}
use Rattle.run_pick.specs.declared.Met.{Met}
use Rattle.run_pick.specs.Inner.Answer.{Move}
use Rattle.run_pick.specs.Inner.Pick.{no_head, forks_of, full_of, mover_of, forked_of, move_of, refocus_mover, forked_go, refocus_forked}
use Rattle.run_queue.specs.Inner.Queue.{after_of}
use Rattle.run_engine.specs.Inner.Engine as engine
use Rattle.run_engine.specs.Inner.Engine.{head_at, cell_number, after}
use Rattle.refinement.proofs.Meant.{WordsAndRoots, Sized, Refocuses}
use Rattle.refinement.proofs.FrameLaws.{holds_same}
use Rattle.refinement.proofs.Refocusing.{refocused}
use Rattle.refinement.proofs.Queues.{places_of, Places, places_kept, places_more, after_size}
use Rattle.refinement.proofs.States.{setting_of, Kept, Headed, headed_elsewhere, Related}
use Rattle.refinement.proofs.Moves.{with_forked, mover_in, Mover, ForkedBy, Does, met}
use Rattle.refinement.proofs.Moving.{few_threads}
use Rattle.refinement.proofs.Depths.{found_full, found_at}
use Rattle.refinement.proofs.RoomAfter.{forked_deep, room_after}

-- the refocusing of the thread that a fork makes, behind that of the mover; another move makes none
abbrev pub refocused_forked : List ℕ → List ℕ → Met → Ended → Bool → Ended
refocused_forked ws rs x l forks = cond forks (refocus_forked ws rs x l.stack) (ended l.stack go_full 0)

-- what the move leaves
abbrev pub left : List ℕ → List ℕ → Met → Acted → Stack → Bool → Move
left ws rs x a k forks = move_of x a (refocus_mover ws rs x a k).refocused (forked_of x (refocused_forked ws rs x (refocus_mover ws rs x a k) forks).refocused)
    forks

-- the heads, where a thread was made and where none was
forked_size : (x : Bool) (l : List Head) (q : ℕ) (y : Head) → length (engine.with_forked x l q y) ≡ length l
forked_size true l q y = length-set l q y
forked_size false l q y = refl

forked_other : (x : Bool) (l : List Head) (i : ℕ) (y : Head) (q : ℕ) → (q ≡ i → ⊥) → head_at (engine.with_forked x l i y) q ≡ head_at l q
forked_other true l i y q e = get_or-set_other l i q y no_head e
forked_other false l i y q e = refl

module _ {b ws rs : List ℕ} (loaded : WordsAndRoots b ws rs) {m : engine.EngineState} {s : machine.State} {p : ℕ} (mover : Mover b m s p) {v : machine.Move}
    (a : Acted)
    (D : Does mover (head_at m.heads p).ready (cell_number (head_at m.heads p).ready) a v) where
  open mover use {ok, related as rel, reached as reach, thread as t, there, headed as H}

  abbrev X : Met
  X = met m p

  abbrev h : Head
  h = head_at m.heads p

  abbrev n : Counts
  n = m.tally.counts

  abbrev forks : Bool
  forks = forks_of h

  abbrev L : Ended
  L = refocus_mover ws rs X a m.stack

  abbrev Y : Ended
  Y = refocused_forked ws rs X L forks

  abbrev forked_full : Bool
  forked_full = forks && full_of Y.refocused

  -- the mover after its move, and the threads that were there
  abbrev gone : machine.Thread → machine.Thread
  gone = mover_in D.expression (keys_of a.keys) (h.learnt % 256 + a.new)

  abbrev olds : List machine.Thread
  olds = change_at D.placed p gone

  few_objects : n.objects ≤ 32
  few_objects = let x = rel.kept.objects_count in let y = reach.roomy.objects32 in omega arith

  here : p < n.threads
  here = let x = rel.kept.threads_count in let y = inside s.threads p t there in omega arith

  refocuses : Refocuses b m.stack (p * 33) D.expression L
  refocuses =
      let x = H.depth in
      let y = H.shallow in
      let e : h.depth % 33 ≡ h.depth = mod-eq_of_lt (omega arith) in
      refocused b ws rs ok loaded (p * 33) m.stack rel.sized (omega arith) H.stack H.held a.go (h.depth % 33)
      (omega arith) (omega arith) D.expression D.goes

  -- the second refocusing: nothing, or the new thread's
  record Second (forked : Option machine.Thread) : Type 0 where
    sized : Sized b Y.stack
    others : (i : ℕ) → i < n.threads * 33 → frame_at Y.stack i ≡ frame_at L.stack i
    full : forked_full ≡ forked_deep forked
    head : (y : machine.Thread) → forked ≡ some y → forked_full ≡ false → Headed b Y.stack (n.threads * 33) (forked_of X Y.refocused) y

  second : (forked : Option machine.Thread) → ForkedBy mover h.ready forked → Second forked
  second none k =
      let q : Y ≡ ended L.stack go_full 0 = ap (refocused_forked ws rs X L) k in
      record {
        sized = along (λ (E : Ended). Sized b E.stack) (sym q) refocuses.sized;
        others = λ i l. ap (λ (E : Ended). frame_at E.stack i) q;
        full = ap (λ (x : Bool). x && full_of Y.refocused) k;
        head = λ y z. absurd (none-ne-some y z);
      }
  second (some y) (k, few, o, known, unlearnt, out, goes) =
      let e : n.threads % 9 ≡ n.threads = mod-eq_of_lt (omega arith) in
      let q : refocus_of 2100 ws rs (n.threads % 9 * 33) L.stack (forked_go h) 0 ≡ Y =
      ap (refocused_forked ws rs X L) (sym k) in
      let refocuses' : Refocuses b L.stack (n.threads * 33) y.expression Y =
      along (λ (E : Ended). Refocuses b L.stack (n.threads * 33) y.expression E) q
      (along (λ (c : ℕ). Refocuses b L.stack (c * 33) y.expression (refocus_of 2100 ws rs (n.threads % 9 * 33) L.stack (forked_go h) 0)) e
      (refocused b ws rs ok loaded (n.threads % 9 * 33) L.stack refocuses.sized (omega arith) [] tt (forked_go h) 0 refl (omega arith) y.expression
      goes)) in
      record {
        sized = refocuses'.sized;
        others = λ i l. refocuses'.others i (inl l);
        full = ap (λ (x : Bool). x && full_of Y.refocused) k ∙ found_full b Y.refocused.stage Y (n.threads * 33) y.expression refocuses'.found;
        head = λ y' z f.
            let same : y ≡ y' = cc in
            along (λ (y' : machine.Thread). Headed b Y.stack (n.threads * 33) (forked_of X Y.refocused) y') same
            (let F = found_at b Y.refocused.stage Y (n.threads * 33) y.expression refocuses'.found
            (ap (λ (x : Bool). x && full_of Y.refocused) (sym k) ∙ f) in
            record {
              stack = F.0;
              held = F.1;
              depth = F.2;
              shallow = F.3;
              stands = F.4;
              object = o;
              keys = known;
              keys_fit = H.keys_fit;
              learnt =
                  unlearnt;
            });
      }

  -- ---- the room after the move

  size : length D.placed ≡ length s.threads
  size = relocated_length s.threads D.placed D.relocated

  -- the mover, in the place that it then has
  there' : (u : machine.Thread) × (get_elem? D.placed p ≡ some u)
  there' = present D.placed p (let x = size in let y = inside s.threads p t there in omega arith)

  t' : machine.Thread
  t' = there'.0

  same_self : t.self ≡ t'.self
  unfolding t'
  same_self =
      let (u, was, same) = was_there s.threads D.placed D.relocated p t' there'.1 in
      let z : t ≡ u = cc in
      ap (λ (x : machine.Thread). x.self) z ∙ ap (λ (x : machine.Thread). x.self) same

  mover_there : get_elem? olds p ≡ some (gone t')
  unfolding t'
  mover_there = change_same D.placed p _ t' there'.1

  two : Second D.forked
  two = second D.forked D.forked_by

  mover_full : full_of L.refocused ≡ ltb 32 (height D.expression)
  mover_full = found_full b L.refocused.stage L (p * 33) D.expression refocuses.found

  pub deep_after : playing.no_room_after s p v.state ≡ cond (full_of L.refocused || forked_full) (some rooms.Room.depth) none
  unfolding playing.no_room_after
  deep_after =
      ap (λ (xs : List machine.Thread). cond (playing.deep_at (get_elem? xs p) || playing.any_deep (drop (length s.threads) xs)) (some rooms.Room.depth) none)
      D.threads
      ∙ room_after olds D.forked _ p (length s.threads) (change_length D.placed p _ ∙ size) mover_there
      ∙ ap₂ (λ (x y : Bool). cond (x || y) (some rooms.Room.depth) none) (sym mover_full) (sym two.full)

  -- ---- the state after the move

  abbrev heads₁ : List Head
  heads₁ = engine.with_forked (forks) m.heads (n.threads % 9) (forked_of X Y.refocused)

  abbrev heads' : List Head
  heads' = set heads₁ p (mover_of X a L.refocused)

  mod_threads : n.threads % 9 ≡ n.threads
  mod_threads = let x = few_threads mover in mod-eq_of_lt (omega arith)

  -- the mover's head, a new thread's, and any other's
  head_mover : head_at heads' p ≡ mover_of X a L.refocused
  head_mover = get_or-set_same heads₁ p (mover_of X a L.refocused) no_head (let x = rel.heads_size in let y =
      forked_size (forks) m.heads (n.threads % 9) (forked_of X Y.refocused) in omega arith)

  head_forked : forks ≡ true → head_at heads' n.threads ≡ forked_of X Y.refocused
  head_forked k =
      let l = here in
      let z = few_threads mover in
      let x = rel.heads_size in
      get_or-set_other heads₁ p n.threads (mover_of X a L.refocused) no_head (λ e. omega arith)
      ∙ ap (λ (i : ℕ). get_or heads₁ i no_head) (sym mod_threads)
      ∙ ap (λ (x : Bool). get_or (engine.with_forked x m.heads (n.threads % 9) (forked_of X Y.refocused)) (n.threads % 9) no_head) k
      ∙ get_or-set_same m.heads (n.threads % 9) (forked_of X Y.refocused) no_head (omega (arith, mod_threads))

  head_other : (q : ℕ) → (q ≡ p → ⊥) → q < n.threads → head_at heads' q ≡ head_at m.heads q
  head_other q e l =
      get_or-set_other heads₁ p q (mover_of X a L.refocused) no_head e
      ∙ forked_other (forks) m.heads (n.threads % 9) (forked_of X Y.refocused) q (λ x. omega (arith, mod_threads))

  forks_there : (y : machine.Thread) → D.forked ≡ some y → forks ≡ true
  forks_there y e = (along (λ (forked : Option machine.Thread). ForkedBy mover h.ready forked) e D.forked_by).0

  -- its frames are as they were, or as the first refocusing left them
  mover_headed : full_of L.refocused ≡ false → Headed b Y.stack (p * 33) (mover_of X a L.refocused) (gone t')
  mover_headed f =
      let F = found_at b L.refocused.stage L (p * 33) D.expression refocuses.found f in
      let sh = F.3 in
      let l = here in
      record {
        stack = F.0;
        held = holds_same b L.stack Y.stack (p * 33) F.0 (omega arith) (λ j i. two.others (p * 33 + j) (omega arith)) F.1;
        depth = F.2;
        shallow = F.3;
        stands = F.4;
        object = H.object ∙ same_self;
        keys = refl;
        keys_fit = D.keys_fit;
        learnt = refl;
      }

  other_headed : (q : ℕ) (u : machine.Thread) → (q ≡ p → ⊥) → get_elem? s.threads q ≡ some u → Headed b Y.stack (q * 33) (head_at m.heads q) u
  other_headed q u e g =
      let G = rel.each q u g in
      let sh = G.shallow in
      let l : q < n.threads = (let x = rel.kept.threads_count in let y = inside s.threads q u g in omega arith) in
      record {
        stack = G.stack;
        held = holds_same b m.stack Y.stack (q * 33) G.stack (omega arith) (λ j i. two.others (q * 33 + j) (omega arith)
            ∙ refocuses.others (q * 33 + j) (apart q j e i)) G.held;
        depth = G.depth;
        shallow = G.shallow;
        stands = G.stands;
        object = G.object;
        keys = G.keys;
        keys_fit = G.keys_fit;
        learnt = G.learnt;
      }
    where
      apart : (q j : ℕ) → (q ≡ p → ⊥) → j < 33 → (q * 33 + j < p * 33) ⊎ (p * 33 + 33 ≤ q * 33 + j)
      apart q j e l = by (dec_lt q p)
        where
          by : Dec (q < p) → (q * 33 + j < p * 33) ⊎ (p * 33 + 33 ≤ q * 33 + j)
          by (yes h) = inl (omega arith)
          by (no h) = inr (omega (arith, e, h))

  each_after : (forked : Option machine.Thread) → D.forked ≡ forked → full_of L.refocused ≡ false → forked_full ≡ false
      → (q : ℕ) (u : machine.Thread) → get_elem? (with_forked olds forked) q ≡ some u
      → Headed b Y.stack (q * 33) (head_at heads' q) u
  each_after forked e fl fy q u g = by forked e g
    where
      old : get_elem? olds q ≡ some u → Headed b Y.stack (q * 33) (head_at heads' q) u
      old g = at (ℕ_discrete q p)
        where
          at : Dec (q ≡ p) → Headed b Y.stack (q * 33) (head_at heads' q) u
          at (yes e) =
              let x : some (gone t') ≡ some u =
              sym mover_there ∙ ap (get_elem? olds) (sym e) ∙ g in
              let y : gone t' ≡ u = cc in
              along (λ (u : machine.Thread). Headed b Y.stack (q * 33) (head_at heads' q) u) y
              (along (λ (q : ℕ). Headed b Y.stack (q * 33) (head_at heads' q) (gone t')) (sym e)
              (along (λ (h : Head). Headed b Y.stack (p * 33) h (gone t')) (sym head_mover) (mover_headed fl)))
          at (no e) =
              let g₁ = sym (change_other D.placed p gone q (λ x. e (sym x))) ∙ g in
              let (v, g₂, same) = was_there s.threads D.placed D.relocated q u g₁ in
              let l : q < n.threads = (let x = rel.kept.threads_count in let y = inside s.threads q v g₂ in omega arith) in
              along (λ (h : Head). Headed b Y.stack (q * 33) h u) (sym (head_other q e l)) (along (Headed b Y.stack (q * 33) _) same
              (headed_elsewhere _ (other_headed q v e g₂)))

      by : (forked : Option machine.Thread) → D.forked ≡ forked → get_elem? (with_forked olds forked) q ≡ some u
          → Headed b Y.stack (q * 33) (head_at heads' q) u
      by none e g = old g
      by (some y) e g = at (added olds y q u g)
        where
          at : ((q < length olds) × (get_elem? olds q ≡ some u))
              ⊎ ((q ≡ length olds) × (y ≡ u)) → Headed b Y.stack (q * 33) (head_at heads' q) u
          at (inl (l, g)) = old g
          at (inr (l, z)) =
              let c : n.threads ≡ q = rel.kept.threads_count ∙ sym (l ∙ change_length D.placed p _ ∙ size) in
              along (λ (u : machine.Thread). Headed b Y.stack (q * 33) (head_at heads' q) u) z
              (along (λ (q : ℕ). Headed b Y.stack (q * 33) (head_at heads' q) y) c
              (along (λ (h : Head). Headed b Y.stack (n.threads * 33) h y) (sym (head_forked (forks_there y e))) (two.head y e fy)))

  -- ---- the places

  forked_awake : (forked : Option machine.Thread) → ForkedBy mover h.ready forked → Places (after_of m.places h.ready p) (places_of olds)
      → Places (after_of m.places h.ready p) (places_of (with_forked olds forked))
  forked_awake none forked_by e = e
  forked_awake (some y) forked_by e = places_more (after_of m.places h.ready p) olds y forked_by.5 e

  places_after : Places (after_of m.places h.ready p) (places_of v.state.threads)
  places_after =
      along (λ (xs : List machine.Thread). Places (after_of m.places h.ready p) (places_of xs)) (sym D.threads)
      (forked_awake D.forked D.forked_by
      (along (λ (ws : List Place). Places (after_of m.places h.ready p) ws) (sym (places_kept D.placed p gone (λ x. refl))) D.places))

  pub related_after : full_of L.refocused ≡ false → forked_full ≡ false → Related b (after m p (left ws rs X a m.stack forks) Y.stack) v.state
  related_after fl fy = record {
    heads_size = length-set heads₁ p (mover_of X a L.refocused) ∙ forked_size forks m.heads (n.threads % 9) (forked_of X Y.refocused) ∙ rel.heads_size;
    sized = two.sized;
    kept =
        along (λ (i : ℕ). Kept (setting_of b) (set m.cells (cell_number h.ready) a.cell) (set m.objects i a.object) a.counts v.state)
        (sym (mod-eq_of_lt (let x = few_objects in omega arith))) D.kept;
    places_size = after_size m.places h.ready p ∙ rel.places_size;
    places = places_after;
    each = λ q u g. each_after D.forked refl fl fy q u (ap (λ (xs : List machine.Thread). get_elem? xs q) (sym D.threads) ∙ g);
  }
