-- A run cut by its marks, where the marks leave out a write and leave the writer and another thread alive: both stand side by side at the end of the
-- cut run. Assumes nothing.
use Prim.Native.Nat.{ℕ, ◌<◌}
use native.Mathlib.Omega.{arith}
use mathlib.Core.Path.{◌≡◌, refl, sym, ap, ◌∙◌, subst as along}
use mathlib.Core.List.{List, ◌∷◌}
use mathlib.Core.Logic.{◌⊎◌, inl, inr, ◌↔◌}
use mathlib.Core.Option.{Option, some, none}
use lib.Dec.{T}
use lib.ListN.{length, get_elem?}
use Rattle.format.specs.Version.{v1}
use Rattle.plan_packed.specs.Syntax.{Program}
use Rattle.plan_packed.proofs.WellFormed.{WellFormedProgram}
use Rattle.log_records.specs.Record.{Record}
use Rattle.log_order.proofs.Newest.{At, here, Linked, Chain, more, one}
use Rattle.log_order.proofs.Ports.{Port, of_thread, Feeds, Draws, port→pair}
use Rattle.rules.specs.Context.{Context, Redex, Focus, focus, top, plug, redex_expression}
use Rattle.rules.specs.State.{Cell, Thread, State, start, lookup}
use Rattle.rules.specs.Rules.{Rule, Moves}
use Rattle.rules.specs.Step.{around}
use Rattle.rules.specs.Room.{no_room_for}
use Rattle.rules.proofs.FocusPlug.{found}
use Rattle.side_by_side.specs.Inner.Waitless.{WaitlessProgram}
use Rattle.side_by_side.specs.Moves.{shown}
use Rattle.side_by_side.specs.SideBySide.{About}
use Rattle.side_by_side.proofs.Like.{Naming, k_top, LikePart, LikeFocus}
use Rattle.side_by_side.proofs.Correspondence.{Marks, Closed, Live, Mirror}
use Rattle.side_by_side.proofs.Trail.{Trail, Later, none_yet, then, Plays}
use Rattle.side_by_side.proofs.Newest.{numbers, schedule}
use Rattle.side_by_side.proofs.Likeness.{focus_like, Next, next}
use Rattle.side_by_side.proofs.Cut.{Cut, cuts, one_more_lem, trail_kept, closed_older, Beside, beside, mover}

-- the marked moves of H, in order and renumbered: played, every pick moves, and at the end the threads p and q, under their new numbers, are about to do
-- y and x, up to the numbering of objects
pub record Met (g : Program) (S : Marks) (H : List Record) (p q : ℕ) (y x : Redex) : Type 0 where
  pub end : State
  pub plays : Plays g start (schedule S H) end
  pub ω : Naming
  pub apart : (o o' a : ℕ) → ω o ≡ some a → ω o' ≡ some a → o ≡ o'
  pub writer : ℕ
  pub writer_is : numbers S H p ≡ some writer
  pub write_part : Redex
  pub about_write : About end writer write_part
  pub write_like : LikePart ω y write_part
  pub other : ℕ
  pub other_is : numbers S H q ≡ some other
  pub access_part : Redex
  pub about_access : About end other access_part
  pub access_like : LikePart ω x access_part
  pub two : (p ≡ q → ⊥) → writer ≡ other → ⊥

closed_before : (S : Marks) {g : Program} {s₀ : State} {H₀ : List Record} {s : State} {H : List Record} → Later g s₀ H₀ s H → Closed S H → Closed S H₀
closed_before S none_yet cl = cl
closed_before S (then {H = H} {r = r} tr la p mv l) cl = closed_before S la (closed_older S (shown p r) H cl)

module _ (g : Program) (P : WellFormedProgram g) (Q : WaitlessProgram g) (S : Marks)
    {s₀ s₁ s : State} {H₀ H : List Record} (tr₀ : Trail g s₀ H₀) (p : ℕ) (t₀ : Thread) (ht₀ : get_elem? s₀.threads p ≡ some t₀) (K₀ : Context) (y : Redex)
    (he₀ : t₀.expression ≡ plug K₀ (redex_expression y))
    {R : Rule} (r : Option Record) (mv : Moves g s₀ p R r s₁) (room : no_room_for R s₀ p s₁ ≡ none) (la : Later g s₁ (shown p r ∷ H₀) s H)
    (q : ℕ) (t : Thread) (ht : get_elem? s.threads q ≡ some t) (K : Context) (x : Redex) (he : t.expression ≡ plug K (redex_expression x))
    (cl : Closed S H) (unmarked : T (S (length H₀)) → ⊥) (writer-live : Live S H₀ (of_thread p)) (other-live : Live S H (of_thread q)) where
  cl₁ : Closed S (shown p r ∷ H₀)
  cl₁ = closed_before S la cl

  X₀ : Cut g S s₀ H₀
  X₀ = cuts g P Q S tr₀ (closed_older S (shown p r) H₀ cl₁)

  B₁ : Beside g P Q S s₁ (shown p r ∷ H₀) p t₀.expression
  B₁ =
      let m = X₀.corr.mirrors p t₀ writer-live ht₀ in
      let Y = one_more_lem g P Q S (trail_kept g P tr₀) p mv room cl₁ X₀ in
      record {
        its = Y.0;
        stands =
            Y.1 p t₀.expression (λ mk _. unmarked mk)
            (record { number = m.number; thread = m.thread; named = m.named; there = m.there; expr_like = m.expr_like });
      }

  pub cut_beside : Beside g P Q S s H p t₀.expression
  cut_beside = (beside g P Q S (length H₀) p t₀.expression (shown p r) (mover mv).2 unmarked (here refl) la cl B₁).1

  pub met : Met g S H p q y x
  unfolding cut_beside
  met = record {
    end = B.its.cut;
    plays = along (λ (l : List ℕ). Plays g start l B.its.cut) B.its.picks_are B.its.plays;
    ω = ω₀;
    apart = B.its.corr.names.objects_apart;
    writer = B.stands.number;
    writer_is = sym (B.its.numbered p) ∙ B.stands.named;
    other = m.number;
    other_is = sym (B.its.numbered q) ∙ m.named;
    write_part = n₀.part;
    about_write = record { thread = B.stands.thread; there = B.stands.there; around = n₀.around; next_is = n₀.found };
    write_like = n₀.part_like;
    access_part = n.part;
    about_access = record { thread = m.thread; there = m.there; around = n.around; next_is = n.found };
    access_like = n.part_like;
    two = λ d e. d (B.its.corr.names.threads_apart p q m.number (B.stands.named ∙ ap {B = Option ℕ} some e) m.named);
  }
    where
      B : Beside g P Q S s H p t₀.expression
      B = cut_beside

      ω₀ : Naming
      ω₀ = B.its.ω

      zero_kept : ω₀ 0 ≡ some 0
      zero_kept = B.its.corr.names.zero_kept

      n₀ : Next ω₀ K₀ y (focus top B.stands.thread.expression)
      n₀ = next ω₀ (along (λ (F : Focus). LikeFocus ω₀ F (focus top B.stands.thread.expression)) (ap (focus top) he₀ ∙ found K₀ y)
          (focus_like ω₀ zero_kept B.stands.expr_like k_top))

      m : Mirror ω₀ B.its.τ B.its.κ B.its.cut.threads q t
      m = B.its.corr.mirrors q t other-live ht

      n : Next ω₀ K x (focus top m.thread.expression)
      n = next ω₀ (along (λ (F : Focus). LikeFocus ω₀ F (focus top m.thread.expression)) (ap (focus top) he ∙ found K x)
          (focus_like ω₀ zero_kept m.expr_like k_top))

  -- a field of the run is a field of the cut run
  pub met_field : (o a f : ℕ) (d : Cell) → met.ω o ≡ some a → lookup s o f ≡ some d → (d' : Cell) × (lookup met.end a f ≡ some d')
  unfolding met
  met_field o a f d n h = let z = cut_beside.its.corr.fields o a f d n h in (z.0, z.1)

-- ---- the marks of E10: the moves with a chain to the failing access, at index j of H, or to the last write, at index i

module _ (S : Marks) (H : List Record) (i j : ℕ) (marks : (k : ℕ) → T (S k) ↔ (Chain v1 H k j ⊎ Chain v1 H k i)) where
  front : {a b c : ℕ} → Linked v1 H a b → Chain v1 H b c → Chain v1 H a c
  front l (one m) = more (one l) m
  front l (more c m) = more (front l c) m

  pub marks_closed : Closed S H
  marks_closed a b r r' ha hb l q m = (marks a).1 (go ((marks b).0 m))
    where
      link : Linked v1 H a b
      link = record { earlier = r; later = r'; at_i = ha; at_j = hb; before = l; paired = q }

      go : Chain v1 H b j ⊎ Chain v1 H b i → Chain v1 H a j ⊎ Chain v1 H a i
      go (inl c) = inl (front link c)
      go (inr c) = inr (front link c)

  rising : {a b : ℕ} → Chain v1 H a b → a < b
  rising (one l) = l.before
  rising (more c l) = let x = rising c in let y = l.before in omega arith

  -- the last write is not marked: it has no chain to the failing access
  pub marks_write : (Chain v1 H i j → ⊥) → T (S i) → ⊥
  marks_write n m = go ((marks i).0 m)
    where
      go : Chain v1 H i j ⊎ Chain v1 H i i → ⊥
      go (inl c) = n c
      go (inr c) = let b = rising c in omega arith

  -- all that feeds the writer's thread before the write, and the other's before its access
  pub marks_feed : (b : ℕ) (w : Record) → At H b w → (b ≡ i) ⊎ (b ≡ j) → (a : ℕ) (r : Record) → At H a r → a < b → (z : Port) → Feeds v1 r z → Draws v1 w z
      → T (S a)
  marks_feed b w hb e a r ha l z out inn = (marks a).1 (go e)
    where
      link : Chain v1 H a b
      link = one (record { earlier = r; later = w; at_i = ha; at_j = hb; before = l; paired = port→pair z out inn })

      go : (b ≡ i) ⊎ (b ≡ j) → Chain v1 H a j ⊎ Chain v1 H a i
      go (inl q) = inr (along (λ (k : ℕ). Chain v1 H a k) q link)
      go (inr q) = inl (along (λ (k : ℕ). Chain v1 H a k) q link)
