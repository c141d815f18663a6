-- The parts of a move that any rule may have: keys learnt, a record entered, the thread gone on. Assumes nothing.
use Prim.Native.Nat.{ℕ, ◌+◌, ◌%◌, ◌≤◌, ◌<◌}
use native.Mathlib.Nat.{mod-eq_of_lt}
use native.Mathlib.Omega.{arith}
use mathlib.Core.Path.{◌≡◌, refl, sym, ap, ap₂, ◌∙◌, subst as along}
use mathlib.Core.Bool.{false}
use mathlib.Core.List.{List}
use mathlib.Core.Option.{Option, none}
use lib.Bits.{or_comm}
use lib.ListN.{length, get_or, set}
use Rattle.run_keys.specs.declared.KeySet.{KeySet}
use Rattle.run_keys.specs.Keys.{Keys, union, count_new}
use Rattle.run_keys.specs.Inner.KeySet.{keys_of, join_of, new_of}
use Rattle.run_keys.proofs.KeySetLaws.{Fits, keys_join, keys_new}
use Rattle.log_records.specs.Record.{Record, entry}
use Rattle.log_records.specs.Record as records
use Rattle.rules.specs.State.{change_at}
use Rattle.rules.specs.Rules.{Rule}
use Rattle.rules.proofs.StateLaws.{inside, there as present}
use Rattle.rules.proofs.Relocated.{Relocated, relocated_same, relocated_length, was_there}
use Rattle.machine.specs.Inner.Frames as frames
use Rattle.machine.specs.Inner.Machine as machine
use Rattle.machine.specs.Inner.Playing.{table_of}
use Rattle.machine.specs.Inner.Playing as playing
use Rattle.machine.proofs.Runs.{reached_threads, reached_total}
use Rattle.run_frames.specs.Inner.RedexKinds.{RedexKind as redex, is_redex}
use Rattle.run_frames.specs.declared.refocusing.Ready.{Ready}
use Rattle.run_frames.specs.declared.refocusing.Refocusing.{Refocusing}
use Rattle.run_state.specs.declared.Head.{Head}
use Rattle.run_state.specs.declared.Cell.{Cell}
use Rattle.run_state.specs.declared.Object.{Object}
use Rattle.run_state.specs.declared.Counts.{Counts}
use Rattle.run_state.specs.declared.Entry.{Entry}
use Rattle.run_state.specs.Inner.Acted.{entry_of, no_entry, nothing, acted_of}
use Rattle.run_queue.specs.Inner.Queue.{after_of}
use Rattle.run_engine.specs.Inner.Engine as engine
use Rattle.run_engine.specs.Inner.Engine.{no_cell, head_at}
use Rattle.refinement.proofs.Meant.{Goes}
use Rattle.refinement.proofs.Queues.{places_of, Places, after_quiet}
use Rattle.refinement.proofs.States.{setting_of, Kept}
use Rattle.refinement.proofs.KeptLaws.{kept_changed, kept_past, kept_same}
use Rattle.refinement.proofs.Looks.{Written, Entered, attempt_act}
use Rattle.refinement.proofs.Moves.{Mover, Does, Acts}
use Rattle.refinement.proofs.ChangeLaws.{change_agree, change_none, change_twice}

-- a thread that knows the keys K, of which it has learnt this many
abbrev knowing : Keys → ℕ → machine.Thread → machine.Thread
knowing K l x = record { self = x.self; expression = x.expression; keys = K; learnt = l; place = x.place }

-- thread p's head, were r its redex
abbrev pub head_for : engine.EngineState → ℕ → Ready → Head
head_for m p r = record {
  ready = r;
  depth = (head_at m.heads p).depth;
  object = (head_at m.heads p).object;
  keys = (head_at m.heads p).keys;
  learnt =
      (head_at m.heads p).learnt;
}

module _ {b : List ℕ} {m : engine.EngineState} {s : machine.State} {p : ℕ} (mover : Mover b m s p) where
  open m use {cells as cs, objects as ts}
  open mover use {thread as t, there, small, reached as reach, headed}
  open mover.related use {kept as k}
  open mover.headed use {stack as S, keys as known, keys_fit as fits}

  abbrev n : Counts
  n = m.tally.counts

  abbrev ks : KeySet
  ks = (head_at m.heads p).keys

  -- what is ready is tried
  pub attempts : {A : machine.Act} (R : frames.Ready) → t.expression ≡ frames.Found.here S R → machine.act (table_of b) s p t R ≡ A
      → machine.attempt (table_of b) s p ≡ machine.around (table_of b) p S A
  attempts R e h = attempt_act (table_of b) s p t there S R _ e h

  -- the mover's total, with this many more
  abbrev pub total : ℕ → ℕ
  total i = (head_at m.heads p).learnt % 256 + i

  pub same_total : t.learnt ≡ (head_at m.heads p).learnt % 256
  same_total =
      let e = headed.learnt in
      let l = reached_total (table_of b) reach p t there in
      sym e ∙ sym (mod-eq_of_lt (omega (arith, e, l)))

  -- what the mover knows, in whatever place
  pub unlearnt_among : (xs : List machine.Thread) → Relocated s.threads xs → xs ≡ change_at xs p (knowing (keys_of ks) (total 0))
  unlearnt_among xs r =
      let l = relocated_length s.threads xs r in
      let y = inside s.threads p t there in
      let (u, at) = present xs p (omega arith) in
      let (v, was, same) = was_there s.threads xs r p u at in
      let z : v ≡ t = cc in
      let K : u.keys ≡ keys_of ks = sym (ap (λ (x : machine.Thread). x.keys) same) ∙ ap (λ (x : machine.Thread). x.keys) z ∙ sym known in
      let L : u.learnt ≡ total 0 = sym (ap (λ (x : machine.Thread). x.learnt) same) ∙ ap (λ (x : machine.Thread). x.learnt) z ∙ omega (arith, same_total) in
      sym (change_none xs p) ∙ change_agree xs p (λ x. x) (knowing (keys_of ks) (total 0)) u at (ap₂ (λ (K : Keys) (l : ℕ). knowing K l u) K L)

  pub unlearnt : s.threads ≡ change_at s.threads p (knowing (keys_of ks) (total 0))
  unlearnt = unlearnt_among s.threads (relocated_same s.threads)

  pub gained : (K L : Keys) (count : Keys → ℕ) (i : ℕ) → union K t.keys ≡ L → count t.keys ≡ i
      → change_at s.threads p (λ x. record {
        self = x.self;
        expression = x.expression;
        keys = union K x.keys;
        learnt = x.learnt + count x.keys;
        place =
            x.place;
      }) ≡ change_at s.threads p (knowing L (total i))
  gained K L count i e z =
      change_agree s.threads p _ (knowing L (total i)) t there (ap₂ (λ (K : Keys) (l : ℕ). knowing K l t) e (ap₂ (λ (x y : ℕ). x + y) same_total z))

  -- the keys of c that are new to the mover
  pub joined_new : (c : KeySet) → Fits c → count_new (keys_of c) t.keys ≡ new_of ks c
  joined_new c f = ap (count_new (keys_of c)) (sym known) ∙ sym (keys_new fits f)

  pub joined : (c : KeySet) → Fits c → union (keys_of c) t.keys ≡ keys_of (join_of ks c)
  unfolding union
  joined c f = ap (union (keys_of c)) (sym known) ∙ or_comm (keys_of c) (keys_of ks) ∙ sym (keys_join fits f)

  -- a move that forks no thread, and leaves these places
  pub moved_among : (xs : List machine.Thread) (r₀ : Ready) (i : ℕ) (R : Rule) (r : Option Record) (s' : machine.State) (F : frames.Found) (g : Refocusing)
      (n' : Counts) (ks' : KeySet) (new : ℕ) (c : Cell) (x : Object) (e : Entry)
      → Relocated s.threads xs → Places (after_of m.places r₀ p) (places_of xs)
      → playing.no_room_before s R ≡ none → Entered p e r → is_redex redex.Fork r₀.redex ≡ false → Goes b g S F → Fits ks'
      → s'.threads ≡ change_at xs p (knowing (keys_of ks') (total new)) → Kept (setting_of b) (set cs i c) (set ts n.objects x) n' s'
      → Does mover r₀ i (record { go = g; keys = ks'; cell = c; object = x; counts = n'; entry = e; new = new })
      (record { rule = R; entry = r; state = machine.become s' p F })
  unfolding machine.become
  moved_among xs r₀ i R r s' F g n' ks' new c x e relocated places lack ent forks goes fit threads kept = record {
    lacks = lack;
    entered = ent;
    expression = F;
    goes = goes;
    forked = none;
    forked_by = forks;
    placed = xs;
    relocated = relocated;
    places = places;
    threads =
        ap (λ (xs : List machine.Thread). change_at xs p (λ x. record { self = x.self; expression = F; keys = x.keys; learnt = x.learnt; place = x.place }))
        threads
        ∙ change_twice xs p (knowing (keys_of ks') (total new))
        (λ x. record { self = x.self; expression = F; keys = x.keys; learnt = x.learnt; place = x.place });
    keys_fit = fit;
    kept = kept_changed kept p _ (λ x. refl);
  }

  -- a move that forks no thread and makes no signal
  pub moved : (r₀ : Ready) (i : ℕ) (R : Rule) (r : Option Record) (s' : machine.State) (F : frames.Found) (g : Refocusing) (n' : Counts) (ks' : KeySet)
      (new : ℕ)
      (c : Cell) (x : Object) (e : Entry)
      → playing.no_room_before s R ≡ none → Entered p e r → is_redex redex.Fork r₀.redex ≡ false → is_redex redex.Signal r₀.redex ≡ false → Goes b g S F
      → Fits ks'
      → s'.threads ≡ change_at s.threads p (knowing (keys_of ks') (total new)) → Kept (setting_of b) (set cs i c) (set ts n.objects x) n' s'
      → Does mover r₀ i (record { go = g; keys = ks'; cell = c; object = x; counts = n'; entry = e; new = new })
      (record { rule = R; entry = r; state = machine.become s' p F })
  moved r₀ i R r s' F g n' ks' new c x e lack ent forks signals goes fit threads kept =
      moved_among s.threads r₀ i R r s' F g n' ks' new c x e (relocated_same s.threads)
      (along (λ (ws : List ℕ). Places ws (places_of s.threads)) (sym (after_quiet m.places r₀ p signals)) mover.related.places) lack ent forks goes
      fit threads kept

  -- a move that leaves the memory, the keys and the places as they are, and no record
  pub plain : (r₀ : Ready) (i : ℕ) (R : Rule) (F : frames.Found) (g : Refocusing) → is_redex redex.Fork r₀.redex ≡ false → is_redex redex.Signal r₀.redex
      ≡ false
      → playing.no_room_before s R ≡ none → Goes b g S F
      → Acts mover r₀ i (acted_of g n ks (get_or cs i no_cell) no_entry) (record { rule = R; entry = none; state = machine.become s p F })
  plain r₀ i R F g forks signals lack goes =
      moved r₀ i R none s F g n ks 0 (get_or cs i no_cell) nothing no_entry lack refl forks signals goes fits unlearnt (kept_past (kept_same k i) nothing)

  pub few_threads : n.threads ≤ 8
  few_threads = let a = k.threads_count in let c = reached_threads (table_of b) reach in omega arith

  pub object_there : (o : ℕ) → o < length s.objects → o < n.objects
  object_there o h = let a = k.objects_count in omega arith

  -- an entry is a record
  pub written : (K : records.Kind) (o f v : ℕ) → o < 32 → f < 32 → v < 32 → Written p (entry_of (records.kind_number K) o f v) (entry K p o f v)
  written K o f v x y z = record {
    kind = refl;
    thread = refl;
    object = refl;
    field = refl;
    value = refl;
    thread_fits = small;
    object_fits = x;
    field_fits =
        y;
    value_fits = z;
  }
