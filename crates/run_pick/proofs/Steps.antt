-- The steps of a pick come to its answer: how it begins, and its refocusings. Assumes nothing.
use mathlib.Core.Path.{◌≡◌, refl, sym, ap, ◌∙◌}
use mathlib.Core.Bool.{Bool, true, false, cond}
use mathlib.Core.List.{List, [], ◌∷◌}
use Prim.Native.Nat.{ℕ}
use native.Mathlib.Omega.{arith}
use types.Run.{OneOf, miss}
use denote.Enum.Declared.{tag_of}
use Rattle.run_frames.specs.declared.refocusing.Refocusing.{Refocusing}
use Rattle.run_frames.specs.Inner.Going.{go_full}
use Rattle.run_refocusing.specs.Inner.Refocusing.{Stack, Ends}
use Rattle.run_outcome.specs.declared.NoRoom.TheVariants as room
use Rattle.run_outcome.specs.declared.Stop.{Stop}
use Rattle.run_outcome.specs.declared.Stop.TheVariants as stop
use Rattle.run_state.specs.declared.Setting.{Setting}
use Rattle.run_state.specs.declared.Entry.{Entry}
use Rattle.run_state.specs.declared.acted.Act.{Act}
use Rattle.run_state.specs.declared.acted.Act.TheVariants as act
use Rattle.run_state.specs.declared.acted.Acted.{Acted}
use Rattle.run_state.specs.Inner.Acted.{no_entry, nothing}
use Rattle.run_look.specs.declared.Sight.{Sight}
use Rattle.run_look.specs.declared.Sight.TheVariants as sight
use Rattle.run_act.specs.Inner.Act.{goes_on_by, act_pure}
use Rattle.run_pick.specs.contracts.Begun as begun-type
use Rattle.run_pick.specs.declared.Met.{Met}
use Rattle.run_pick.specs.declared.Begun.{Begun}
use Rattle.run_pick.specs.declared.Begun.TheVariants as begun
use Rattle.run_pick.specs.Inner.Answer.{Move, PickAnswer, PickAnswer as answer}
use Rattle.run_pick.specs.Inner.Pick.{Picked, picked, no_room, no_head, full_of, forks_of, forked_of, move_of, refocus_mover, refocus_by, make_by, act_met, pick_by}
use Rattle.run_pick.specs.Inner.Pick.{look_met, pick_of}
use Rattle.run_pick.specs.Inner.Pick.{begun_by, begin_by, begin_of, go_of, refocusings_from}
use Rattle.run_pick.proofs.Answers.{refocus_full, refocus_forked_lem, refocus_moved}
use Rattle.run_pick.proofs.GoesOn.{no_fork, is_ready, only_goes}

-- what a move does that only goes on elsewhere
abbrev pub gone_on : Met → Refocusing → Acted
gone_on x g = record { go = g; keys = x.head.keys; cell = x.cell; object = nothing; counts = x.counts; entry = no_entry; new = 0 }

module _ (ws rs : List ℕ) (g : Setting) (x : Met) (k : Stack) where
  -- the answer to a pick that begins so
  abbrev answer_by : Begun → Picked
  answer_by begun.Passed = picked k answer.Passed
  answer_by (begun.Stopped e y) = picked k (answer.Stopped e y)
  answer_by (begun.Went h) = refocus_by ws rs x (gone_on x h) (refocus_mover ws rs x (gone_on x h) k)
  answer_by (begun.Acted a) = refocus_by ws rs x a (refocus_mover ws rs x a k)

  by_act : (z : Act) → make_by ws rs x z k ≡ answer_by (begun_by z)
  by_act (act.Done a) = refl
  by_act (act.NoRoom r) = refl

  by_sight : (s : Sight) → pick_by ws rs g x s k ≡ answer_by (begin_by g x s)
  by_sight sight.Ready = by_act (act_met g x)
  by_sight sight.Lacking = refl
  by_sight (sight.Blocked b) = refl

  by_begun : (t : Bool) → goes_on_by x.head.ready.redex ≡ t → pick_of ws rs g x k ≡ answer_by (begin_of g x)
  unfolding pick_of begin_of
  by_begun true e =
      ap (λ (s : Sight). pick_by ws rs g x s k) (is_ready x.head.ready.redex e g x.head x.cell x.object x.other.ready.redex x.place)
      ∙ ap (λ (z : Act). make_by ws rs x z k) (only_goes x.head.ready.redex e g x.counts x.head x.cell x.object x.other) ∙ rw e
  by_begun false e = by_sight (look_met g x) ∙ rw e

  answers : {p : Picked} (b : Begun) → b ≡ begin_of g x → p ≡ answer_by b → p ≡ pick_of ws rs g x k
  answers b begins e = e ∙ ap (λ (b : Begun). answer_by b) begins ∙ sym (by_begun (goes_on_by x.head.ready.redex) refl)

  -- only a move that only goes on elsewhere begins so
  not_went : {h : Refocusing} (z : Act) → begun.Went h ≡ begun_by z → ⊥
  not_went {h} (act.Done a) e = let z : ◌≡◌ {A = ℕ} 0 1 = cc in omega arith
  not_went {h} (act.NoRoom r) e = let z : ◌≡◌ {A = ℕ} 0 1 = cc in omega arith

  not_went_by : {h : Refocusing} (s : Sight) → begun.Went h ≡ begin_by g x s → ⊥
  not_went_by sight.Ready e = not_went (act_met g x) e
  not_went_by {h} sight.Lacking e = let z : ◌≡◌ {A = ℕ} 0 1 = cc in omega arith
  not_went_by {h} (sight.Blocked b) e = let z : ◌≡◌ {A = ℕ} 0 1 = cc in omega arith

  on_by : {h : Refocusing} (t : Bool) → goes_on_by x.head.ready.redex ≡ t → begun.Went h ≡ begin_of g x → goes_on_by x.head.ready.redex ≡ true
  unfolding begin_of
  on_by true e begins = e
  on_by false e begins =
      absurd (not_went_by (look_met g x) (begins ∙ ap (λ (t : Bool). cond t (begun.Went (act_pure x.head)) (begin_by g x (look_met g x))) e))

  module _ (e : Ends) where
    abbrev Refocuses : Refocusing → Type 0
    Refocuses h = e ≡ refocusings_from ws rs x.counts x.head x.thread h k

    -- a move whose refocusing has no room, one that makes no thread, and one that does
    full_by_lem : (b : Begun) → Refocuses (go_of b) → OneOf (2 ∷ 3 ∷ []) (tag_of begun-type.the_type b) → full_of e.refocusings.last ≡ true
        → picked e.stack (no_room room.Depth) ≡ answer_by b
    full_by_lem begun.Passed q o f = absurd (miss (2 ∷ 3 ∷ []) 0 tt o)
    full_by_lem (begun.Stopped s y) q o f = absurd (miss (2 ∷ 3 ∷ []) 1 tt o)
    full_by_lem (begun.Went h) q o f = refocus_full x (gone_on x h) ws rs _ _ (no_room room.Depth) q f refl
    full_by_lem (begun.Acted a) q o f = refocus_full x a ws rs _ _ (no_room room.Depth) q f refl

    moves_by : (a : Acted) → Refocuses a.go → full_of e.refocusings.last ≡ false → forks_of x.head ≡ false
        → picked e.stack (answer.Moved (move_of x a e.refocusings.last no_head false)) ≡ refocus_by ws rs x a (refocus_mover ws rs x a k)
    moves_by a q f n = refocus_moved x a ws rs _ _ (answer.Moved (move_of x a e.refocusings.last no_head false)) q no_head f n refl refl

    forks_by : (a : Acted) → Refocuses a.go → full_of e.refocusings.last ≡ false → forks_of x.head ≡ true
        → picked e.stack (answer.Moved (move_of x a e.refocusings.before (forked_of x e.refocusings.last) true))
        ≡ refocus_by ws rs x a (refocus_mover ws rs x a k)
    forks_by a q f n =
        refocus_forked_lem x a ws rs _ _ (answer.Moved (move_of x a e.refocusings.before (forked_of x e.refocusings.last) true)) q
        (forked_of x e.refocusings.last) f n refl refl

    -- one that only goes on elsewhere
    goes_by : (b : Begun) → b ≡ begin_of g x → Refocuses (go_of b) → OneOf (2 ∷ 3 ∷ []) (tag_of begun-type.the_type b)
        → OneOf (0 ∷ 1 ∷ 2 ∷ []) (tag_of begun-type.the_type b) → full_of e.refocusings.last ≡ false
        → (goes_on_by x.head.ready.redex ≡ true) × (picked e.stack (answer.Moved (move_of x (gone_on x go_full) e.refocusings.last no_head false))
        ≡ answer_by b)
    goes_by begun.Passed begins q m o f = absurd (miss (2 ∷ 3 ∷ []) 0 tt m)
    goes_by (begun.Stopped s y) begins q m o f = absurd (miss (2 ∷ 3 ∷ []) 1 tt m)
    goes_by (begun.Went h) begins q m o f =
        let on = on_by (goes_on_by x.head.ready.redex) refl begins in (on, moves_by (gone_on x h) q f (no_fork x.head.ready.redex on))
    goes_by (begun.Acted a) begins q m o f = absurd (miss (0 ∷ 1 ∷ 2 ∷ []) 3 tt o)

  module _ (b : Begun) (begins : b ≡ begin_of g x) where
    pub passes : b ≡ begun.Passed → picked k answer.Passed ≡ pick_of ws rs g x k
    passes z = answers b begins (ap (λ (b : Begun). answer_by b) (sym z))

    pub stops : {s : Stop} {y : Entry} → b ≡ begun.Stopped s y → picked k (answer.Stopped s y) ≡ pick_of ws rs g x k
    stops z = answers b begins (ap (λ (b : Begun). answer_by b) (sym z))

    module _ {e : Ends} (refocuses : e ≡ refocusings_from ws rs x.counts x.head x.thread (go_of b) k) where
      pub full : OneOf (2 ∷ 3 ∷ []) (tag_of begun-type.the_type b) → full_of e.refocusings.last ≡ true
          → picked e.stack (no_room room.Depth) ≡ pick_of ws rs g x k
      full m f = answers b begins (full_by_lem e b refocuses m f)

      module _ (room : full_of e.refocusings.last ≡ false) where
        module _ {a : Acted} (acts : b ≡ begun.Acted a) where
          acted : e ≡ refocusings_from ws rs x.counts x.head x.thread a.go k
          acted = refocuses ∙ ap (λ (b : Begun). refocusings_from ws rs x.counts x.head x.thread (go_of b) k) acts

          pub moves : forks_of x.head ≡ false
              → picked e.stack (answer.Moved (move_of x a e.refocusings.last no_head false)) ≡ pick_of ws rs g x k
          moves n = answers b begins (moves_by e a acted room n ∙ ap (λ (b : Begun). answer_by b) (sym acts))

          pub forks : forks_of x.head ≡ true
              → picked e.stack (answer.Moved (move_of x a e.refocusings.before (forked_of x e.refocusings.last) true)) ≡ pick_of ws rs g x k
          forks n = answers b begins (forks_by e a acted room n ∙ ap (λ (b : Begun). answer_by b) (sym acts))

        module _ (mover : OneOf (2 ∷ 3 ∷ []) (tag_of begun-type.the_type b)) (other : OneOf (0 ∷ 1 ∷ 2 ∷ []) (tag_of begun-type.the_type b)) where
          pub on : goes_on_by x.head.ready.redex ≡ true
          on = (goes_by e b begins refocuses mover other room).0

          pub goes_on_lem : picked e.stack (answer.Moved (move_of x (gone_on x go_full) e.refocusings.last no_head false)) ≡ pick_of ws rs g x k
          goes_on_lem = answers b begins (goes_by e b begins refocuses mover other room).1
