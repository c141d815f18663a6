-- On the log of a run a digital value is 1 exactly when some thread holds the monitor in the state after the record. It rests on the bridge from runs to logs
-- and on the holders of monitors, which have every rule. Assumes nothing.
use Prim.Native.Nat.{ℕ, zero, suc, ◌≤◌}
use native.Mathlib.Omega.{arith}
use mathlib.Core.Path.{◌≡◌, refl, sym, ap, ap₂, ◌∙◌, subst}
use mathlib.Core.Bool.{Bool, true, false, true≢false}
use mathlib.Core.List.{List, [], ◌∷◌, ◌++◌, reverse, reverse-reverse}
use mathlib.Core.Logic.{inl, inr, ◌↔◌}
use mathlib.Core.Option.{Option, some, none}
use lib.Dec.{T}
use borrow.Author.Tests.{eqb-true}
use lib.ListN.{length, take, drop, take-append-drop}
use lib.Seq.{take-append_seam, take_all}
use Rattle.run_keys.specs.Keys.{Keys, empty, holds, is_empty}
use Rattle.run_keys.proofs.KeyLaws.{some_key, no_key}
use Rattle.plan_packed.specs.Syntax.{Program}
use Rattle.plan_packed.specs.Trees.{program_of}
use Rattle.plan_packed.specs.Check.{refusal}
use Rattle.plan_packed.proofs.WellFormed.{WellFormedProgram}
use Rattle.plan_packed.proofs.Decoded.{well_formed}
use Rattle.log_records.specs.Record.{Record}
use Rattle.log_order.proofs.KeySets.{KeySet}
use Rattle.rules.specs.State.{Cell, cell, State, start, monitor}
use Rattle.rules.specs.Room.{PickAnswerOf, PickAnswer, step}
use Rattle.rules.specs.Run.{Stop, Run, logged, stopped, after_pass, after_move, resume, run, play, log}
use Rattle.rules.specs.Play.{run_of}
use Rattle.rules.proofs.KeyBridge.{keys_of}
use Rattle.rules.proofs.Bridge.{Kept}
use Rattle.rules.proofs.RunKeys.{kept_play}
use Rattle.rules.proofs.Holders.{Holders, holders_play, holding}
use Rattle.rules.proofs.RunAppend.{run_stopped, log_goes_on}
use Rattle.text_sample_lines.specs.DataFile.{digital}
use Rattle.shown_monitors.specs.Held.{Held}
use Rattle.shown_monitors.proofs.Taken.{Shows, shows}

-- ---- a state whose sets are those of its log

module _ (g : Program) (s : State) (L : List Record) (J : Kept g s (reverse L)) (H : Holders s) (o : ℕ) where
  abbrev set : KeySet
  set = λ k. holds (keys_of (monitor s o)) k

  shown_here : Shows set (digital o L)
  shown_here =
      subst (λ (M : List Record). Shows set (digital o M)) (reverse-reverse L)
      (subst (λ (a : KeySet). Shows a (digital o (reverse (reverse L)))) (λ i k. J.agrees.monitors o k i) (shows g.version (reverse L) J.legal o))

  -- a monitor whose set is empty is held by some thread
  held_cell : (c : Cell) → monitor s o ≡ some c → is_empty c.keys ≡ true → Held s o
  unfolding is_empty
  held_cell c e q =
      let h = H.taken o c e q in
      let b = holding h.thread o h.owing in
      record {
        number = h.number;
        thread = h.thread;
        there = h.there;
        owned = e ∙ ap₂ (λ (W : Keys) (v : ℕ). some (cell W v)) (eqb-true c.keys 0 q) h.owner;
        around = b.0;
        body = b.1;
        pending = b.2;
      }

  held_by_lem : (c : Option Cell) → monitor s o ≡ c → ((k : ℕ) → T (holds (keys_of c) k) → ⊥) → Held s o
  unfolding holds
  held_by_lem none e h = absurd (h 0 tt)
  held_by_lem (some c) e h = go (is_empty c.keys) refl
    where
      go : (b : Bool) → is_empty c.keys ≡ b → Held s o
      go true q = held_cell c e q
      go false q = let x = some_key c.keys q in absurd (h x.0 x.1)

  free_by : (k : ℕ) → T (holds (keys_of (monitor s o)) k) → Held s o → ⊥
  unfolding is_empty
  free_by k x h = no_key empty k refl (subst (λ (c : Option Cell). T (holds (keys_of c) k)) h.owned x)

  pub held_exactly : (digital o L ≡ 1) ↔ Held s o
  held_exactly = go shown_here
    where
      go : Shows set (digital o L) → (digital o L ≡ 1) ↔ Held s o
      go (inl (none_in, e)) = (λ q. held_by_lem (monitor s o) refl none_in, λ h. e)
      go (inr ((k, x), e)) = (λ q. absurd (omega arith), λ h. absurd (free_by k x h))

-- ---- the records of a run's first picks

module _ (g : Program) where
  -- they begin the log of the whole run
  first_records : (s : State) (ps qs : List ℕ) → take (length (log (run g s ps))) (log (run g s (ps ++ qs))) ≡ log (run g s ps)
  first_records s ps qs = go (run g s ps).stop refl
    where
      all : ((run g s ps).stop ≡ Stop.end → ⊥) → take (length (log (run g s ps))) (log (run g s (ps ++ qs))) ≡ log (run g s ps)
      all n = ap (λ (r : Run). take (length (log (run g s ps))) (log r)) (run_stopped g s ps qs n)
          ∙ take_all (length (log (run g s ps))) (log (run g s ps)) (omega arith)

      go : (e : Stop) → (run g s ps).stop ≡ e → take (length (log (run g s ps))) (log (run g s (ps ++ qs))) ≡ log (run g s ps)
      go Stop.end e = ap (take (length (log (run g s ps)))) (log_goes_on g s ps qs e)
          ∙ take-append_seam (log (run g s ps)) (log (run g (run g s ps).final qs))
      go Stop.race e = all (λ q. true≢false cc)
      go (Stop.no_room k) e = all (λ q. true≢false cc)

  -- after some number of picks there are just n records
  written_after : (s : State) (ps : List ℕ) (n : ℕ) → n ≤ length (log (run g s ps)) → (k : ℕ) × (length (log (run g s (take k ps))) ≡ n)
  unfolding run log resume stopped after_pass after_move
  written_after s [] n h = (0, omega arith)
  written_after s (p ∷ ps) n h = go n (step g s p) refl h (λ z m l. written_after z ps m l)
    where
      After : ℕ → Type 0
      After n = (k : ℕ) × (length (log (run g s (take k (p ∷ ps)))) ≡ n)

      go : (n : ℕ) (a : PickAnswer) → step g s p ≡ a → n ≤ length (log (resume s p (λ z. run g z ps) a))
          → ((z : State) (m : ℕ) → m ≤ length (log (run g z ps)) → (k : ℕ) × (length (log (run g z (take k ps))) ≡ m)) → After n
      go zero a e l ih = (0, refl)
      go (suc n) PickAnswerOf.passed e l ih = let x = ih s (suc n) l in (suc x.0, rw e x.1)
      go (suc n) (PickAnswerOf.race r) e l ih = (1, rw e (let z : 1 ≡ suc n = omega arith in z))
      go (suc n) (PickAnswerOf.no_room w) e l ih = absurd (omega arith)
      go (suc n) (PickAnswerOf.moved m) e l ih = moved m.entry refl l
        where
          one_more_lem : (r : Record) → m.entry ≡ some r → (k : ℕ) × (length (log (run g m.state (take k ps))) ≡ n) → After (suc n)
          one_more_lem r q (k, x) = (suc k, rw (e, q) (ap suc x))

          moved : (r : Option Record) → m.entry ≡ r → suc n ≤ length (logged r (log (run g m.state ps))) → After (suc n)
          moved none q l = let x = ih m.state (suc n) l in (suc x.0, rw (e, q) x.1)
          moved (some r) q l = one_more_lem r q (ih m.state n (omega arith))

-- ---- runs

module _ (g : Program) (P : WellFormedProgram g) where
  -- after any picks
  shown_after_lem : (ps : List ℕ) (o : ℕ) → (digital o (log (play g ps)) ≡ 1) ↔ Held (play g ps).final o
  shown_after_lem ps o = held_exactly g (play g ps).final (log (play g ps)) (kept_play g P ps) (holders_play g P ps) o

  -- of the line of each record: after any of the picks by which so many records are written
  line_shown : (ps qs : List ℕ) (n o : ℕ) → length (log (play g ps)) ≡ n → (digital o (take n (log (play g (ps ++ qs)))) ≡ 1) ↔ Held (play g ps).final o
  unfolding play
  line_shown ps qs n o e =
      subst (λ (L : List Record). (digital o L ≡ 1) ↔ Held (play g ps).final o)
      (sym (first_records g start ps qs) ∙ ap (λ (k : ℕ). take k (log (play g (ps ++ qs)))) e)
      (shown_after_lem ps o)

  -- and there are such picks
  every_line : (ps : List ℕ) (n o : ℕ) → n ≤ length (log (play g ps))
      → (k : ℕ) × (length (log (play g (take k ps))) ≡ n) × ((digital o (take n (log (play g ps))) ≡ 1) ↔ Held (play g (take k ps)).final o)
  unfolding play
  every_line ps n o h =
      let x = written_after g start ps n h in (
        x.0,
        x.1,
        subst (λ (rs : List ℕ). (digital o (take n (log (play g rs))) ≡ 1) ↔ Held (play g (take x.0 ps)).final o) (take-append-drop x.0 ps)
            (line_shown (take x.0 ps) (drop x.0 ps) n o x.1),
      )

-- of plans that pass the check
module _ (plan : List ℕ) (e : refusal plan ≡ none) where
  -- at line n of a run's log digital value o is 1 exactly when some thread holds the monitor of object o after any first picks that write n records
  pub monitors_shown : (ps qs : List ℕ) (n o : ℕ) → length (log (run_of plan ps)) ≡ n
      → (digital o (take n (log (run_of plan (ps ++ qs)))) ≡ 1) ↔ Held (run_of plan ps).final o
  unfolding run_of
  monitors_shown = line_shown (program_of plan) (well_formed plan e)

  -- and for each line there are such first picks
  pub each_line_shown : (ps : List ℕ) (n o : ℕ) → n ≤ length (log (run_of plan ps))
      → (k : ℕ) × (length (log (run_of plan (take k ps))) ≡ n) × ((digital o (take n (log (run_of plan ps))) ≡ 1) ↔ Held (run_of plan (take k ps)).final o)
  unfolding run_of
  each_line_shown = every_line (program_of plan) (well_formed plan e)
