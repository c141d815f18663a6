-- A turn does the step of the goal on top, and what is left to do becomes less. Assumes nothing.
use Prim.Native.Nat.{ℕ, zero, suc, ◌+◌, ◌-◌, ◌*◌, ◌≤◌, ◌<◌}
use native.Mathlib.Omega.{arith}
use mathlib.Core.Path.{◌≡◌, refl, sym, subst, ◌∙◌}
use mathlib.Core.List.{List, ◌∷◌, ◌++◌}
use lib.ListN.{length, get_or, drop}
use lib.Seq.{drop-drop}
use borrow.Author.Tests.{eq-eqb, ne_eqb}
use Rattle.plan_parsing.specs.Goals.{Goal, make, Value}
use Rattle.plan_parsing.specs.Parser.{Step, go, stop, step}
use Rattle.plan_parser_goals.specs.Inner.Encoded.{goal_of, reason_of, goals_of, values_of}
use Rattle.plan_parser_goals.specs.Inner.Moves.{Fits, onto, done, Sound}
use Rattle.plan_parser.specs.Inner.Stacks.{Entries}
use Rattle.plan_parser.specs.Inner.Making.{Makeable}
use Rattle.plan_parser.specs.Inner.Reading.{Sized, terms_left, State, Going, NoneLeft, Found, Went, WentWith, shown, Turned}
use Rattle.plan_parser.specs.declared.turns.Standing.{Standing}
use Rattle.std.specs.Prelude.{Ok, Err}
use Rattle.plan_parser_goals.specs.Inner.Moves.{Go, Make, Stop}
use Rattle.plan_parser.proofs.FitLaws.{FitsAfter, step_fits, fits_sound}

-- ---- numbers

-- a token that is not past the end
inside : (l a x : ℕ) → x < 69 → 69 ≤ x + 69 * (l - a) → a < l
inside l a x h k = omega arith

-- the tokens that are taken are there
taken_there : (l a t x y z : ℕ) → a ≤ l → t ≤ 3 → t ≤ 3 * (69 - x) → t ≤ 1 + 2 * (69 - y) → t ≤ 2 + (69 - z)
    → 69 ≤ x + 69 * (l - a) → 69 ≤ y + 69 * (l - (a + 1)) → 69 ≤ z + 69 * (l - (a + 2)) → a + t ≤ l
taken_there l a zero x y z i f b₀ b₁ b₂ c₀ c₁ c₂ = omega arith
taken_there l a (suc zero) x y z i f b₀ b₁ b₂ c₀ c₁ c₂ = let p = inside l a x (low x b₀) c₀ in omega arith
  where
    low : (x : ℕ) → 1 ≤ 3 * (69 - x) → x < 69
    low x h = omega arith
taken_there l a (suc (suc zero)) x y z i f b₀ b₁ b₂ c₀ c₁ c₂ = let p = inside l (a + 1) y (low y b₁) c₁ in omega arith
  where
    low : (x : ℕ) → 2 ≤ 1 + 2 * (69 - x) → x < 69
    low x h = omega arith
taken_there l a (suc (suc (suc zero))) x y z i f b₀ b₁ b₂ c₀ c₁ c₂ = let p = inside l (a + 2) z (low z b₂) c₂ in omega arith
  where
    low : (x : ℕ) → 3 ≤ 2 + (69 - x) → x < 69
    low x h = omega arith
taken_there l a (suc (suc (suc (suc t)))) x y z i f b₀ b₁ b₂ c₀ c₁ c₂ = absurd (omega arith)

-- what is left to do becomes less
bounds : (l a g t k n d a' g' : ℕ) → a + t ≤ l → 0 < g → k ≤ 1024 * t → n ≤ 1024 * t → d ≤ 1152921504606846976 * t → a' ≡ a + t → g' ≤ g - 1 + 8
    → g' ≤ g - 1 + k + n + 6 * d
    → (a' ≤ l) × (8 * (l - a') + g' < 8 * (l - a) + g)
bounds l a g zero k n d a' g' i p e₀ e₁ e₂ r u v = (omega arith, omega arith)
bounds l a g (suc t) k n d a' g' i p e₀ e₁ e₂ r u v = (omega arith, omega arith)

-- arrays of the same lengths
pub resized : {goals values words goals' values' words' : List ℕ} → Sized goals values words → length goals' ≡ length goals → length values' ≡ length values
    → length words' ≡ length words → Sized goals' values' words'
resized z g v w =
    record {
      some_goals = rw g z.some_goals;
      most_goals = rw g z.most_goals;
      some_values = rw v z.some_values;
      most_values = rw v z.most_values;
      most_words = rw w z.most_words;
      whole = λ e. let q = z.whole (sym w ∙ e) in (g ∙ q.0, v ∙ q.1);
    }

-- ---- the goal on top

goal_fits : (goals : List ℕ) (n : ℕ) (vs : List Value) → 0 < n → Fits (goals_of goals n) vs → Fits (goal_of (get_or goals (n - 1) 0) ∷ goals_of goals (n - 1)) vs
unfolding goals_of
goal_fits goals zero vs h f = absurd (omega arith)
goal_fits goals (suc n) vs h f = let e : suc n - 1 ≡ n = omega arith in rw e f

fits_onto : (gs : List Goal) (x : Step) (gs'' : List Goal) (vs'' : List Value) (n : ℕ) (ts'' : List ℕ) → go gs'' vs'' n ts'' ≡ onto gs x → FitsAfter gs x → Fits
    gs'' vs''
unfolding onto
fits_onto gs (go gs' vs m ts) gs'' vs'' n ts'' e f = let p : gs'' ≡ gs' ++ gs = cc in let q : vs'' ≡ vs = cc in rw (p, q) f
fits_onto gs (stop r ts) gs'' vs'' n ts'' e f = let z : ◌≡◌ {A = ℕ} 0 1 = cc in absurd (omega arith)

module _ (tokens counts goals values words : List ℕ) (s : Standing) (st : State tokens goals values words s) (gg : Going goals values s) where
  abbrev top : ℕ
  top = s.goals - 1

  abbrev code : ℕ
  code = get_or goals top 0

  abbrev below : List Goal
  below = goals_of goals top

  abbrev held : List Value
  held = values_of words values s.values

  abbrev terms : ℕ
  terms = terms_left words s.left

  abbrev ahead : List ℕ
  ahead = drop s.at tokens

  pub fit : Fits (goal_of code ∷ below) held
  fit = goal_fits goals s.goals held gg.some_goal st.fits

  pub sound : Sound code
  sound = fits_sound below code held fit

  pub small_entries : Entries 0 values s.values
  small_entries i h = (omega arith, (st.entries i h).1)

  -- ---- a move

  module _ (taken kept next digits popped value : ℕ) (f : Found tokens counts goals values words s (Go taken kept next digits popped value)) where
    module _ (goals' values' : List ℕ) (s' : Standing) (w : Went goals values s taken kept next digits popped value goals' values' s') where
      went_says : shown tokens goals' values' words (Ok s') ≡ onto below (step counts (goal_of code) held terms ahead)
      unfolding shown done
      went_says =
          rw (w.on_goals.goals_are, w.on_values.values_are words, w.left_is, w.at_is, ← drop-drop taken s.at tokens)
          (f.calls.does below held terms ahead fit f.looks.seen)

      went_fits : Fits (goals_of goals' s'.goals) (values_of words values' s'.values)
      unfolding shown
      went_fits =
          fits_onto below (step counts (goal_of code) held terms ahead) (goals_of goals' s'.goals) (values_of words values' s'.values) (terms_left words
          s'.left)
          (drop s'.at tokens) went_says
          (step_fits below counts f.counts_small terms ahead (goal_of code) held fit)

      went_bounds : (s'.at ≤ length tokens) × (8 * (length tokens - s'.at) + s'.goals < 8 * (length tokens - s.at) + s.goals)
      went_bounds =
          let m = f.calls.slight in
          let k = f.looks in
          let there = taken_there (length tokens) s.at taken f.sight.first f.sight.second f.sight.third st.inside m.taken_few
          m.to_first m.to_second m.to_third k.first_inside k.second_inside k.third_inside
          in
          bounds (length tokens) s.at s.goals taken kept next digits s'.at s'.goals there gg.some_goal
          m.kept_taken m.next_taken m.goals_taken w.at_is w.few w.fewer

      pub turned_on : Turned tokens counts goals values words goals' values' words s (Ok s')
      turned_on =
          record {
            says = went_says;
            next =
                record {
                  state =
                      record {
                        sized = resized st.sized w.on_goals.long w.on_values.long refl;
                        tokens_few = st.tokens_few;
                        ordered = st.ordered;
                        inside = went_bounds.0;
                        goals_few = let l = w.on_goals.long in let a = w.few in let b = gg.few_goals in let d = gg.some_goal in omega arith;
                        values_few = let l = w.on_values.long in let a = w.on_values.few in let b = gg.few_values in omega arith;
                        left_few = rw w.left_is st.left_few;
                        entries = rw w.left_is (w.on_values.entries s.left (let f = st.left_few in let m = st.sized.most_words in omega arith)
                            st.entries);
                        fits = went_fits;
                      };
                  less = went_bounds.1;
                  fewer = let e = w.left_is in omega arith;
                };
            kept = record { ordered = st.ordered; long = refl; terms_stay = λ i h. refl };
            goals_stay = w.on_goals.long;
            values_stay = w.on_values.long;
          }

  -- ---- a term

  module _ (k : ℕ) (f : Found tokens counts goals values words s (Make k)) where
    make_fit : Fits (make k ∷ below) held
    make_fit = subst (λ (g : Goal). Fits (g ∷ below) held) f.calls.slight fit

    make_does : done (Make k) below held terms ahead ≡ onto below (step counts (goal_of code) held terms ahead)
    make_does = f.calls.does below held terms ahead fit f.looks.seen

    pub turned_none : NoneLeft words s → s.left ≡ 0 → Turned tokens counts goals values words goals values words s (Err (record { reason = 1000; at = s.at }))
    unfolding shown done reason_of
    turned_none none e =
        record {
          says = let l = none e in sym (rw (eq-eqb terms 0 (omega arith)) at (sym make_does));
          next = tt;
          kept = record { ordered = st.ordered; long = refl; terms_stay = λ i h. refl };
          goals_stay = refl;
          values_stay = refl;
        }

    pub makeable : (s.left ≡ 0 → ⊥) → Makeable words values s.values s.left k
    makeable d =
        record {
          tag_known = make_fit.0;
          some_left = omega (arith, d);
          few_left = st.left_few;
          few_words = st.sized.most_words;
          few = let b = gg.few_values in omega arith;
          ordered = st.ordered;
          entries = st.entries;
          operands = make_fit.1;
        }

    module _ (d : s.left ≡ 0 → ⊥) (words' values' : List ℕ) (s' : Standing) (w : WentWith words values s k words' values' s') where
      fewer_terms : terms_left words' s'.left ≡ terms - 1
      fewer_terms = let l = w.makes.words_long in let e = w.left_is in omega (arith, d)

      made_says : shown tokens goals values' words' (Ok s') ≡ onto below (step counts (goal_of code) held terms ahead)
      unfolding shown done
      made_says =
          rw (w.goals_are, w.makes.values_are, w.at_is, fewer_terms)
          (rw (ne_eqb terms 0 (λ e. d (omega arith))) at make_does)

      made_fits : Fits (goals_of goals s'.goals) (values_of words' values' s'.values)
      unfolding shown
      made_fits =
          fits_onto below (step counts (goal_of code) held terms ahead) (goals_of goals s'.goals) (values_of words' values' s'.values)
          (terms_left words' s'.left)
          (drop s'.at tokens) made_says
          (step_fits below counts f.counts_small terms ahead (goal_of code) held fit)

      pub turned_made : Turned tokens counts goals values words goals values' words' s (Ok s')
      turned_made =
          let p = st.left_few in
          let q = w.left_is in
          let g = w.goals_are in
          let a = w.at_is in
          let i = st.inside in
          let j = gg.some_goal in
          record {
            says = made_says;
            next =
                record {
                  state =
                      record {
                        sized = resized st.sized refl w.makes.values_long w.makes.words_long;
                        tokens_few = st.tokens_few;
                        ordered = w.makes.ordered;
                        inside = omega arith;
                        goals_few = let b = st.goals_few in omega arith;
                        values_few = let l = w.makes.values_long in let b = w.makes.few in let c = gg.few_values in omega arith;
                        left_few = let l = w.makes.words_long in omega arith;
                        entries = rw w.left_is w.makes.entries;
                        fits = made_fits;
                      };
                  less = omega arith;
                  fewer = omega arith;
                };
            kept = record { ordered = w.makes.ordered; long = w.makes.words_long; terms_stay = w.makes.terms_stay };
            goals_stay = refl;
            values_stay = w.makes.values_long;
          }

  -- ---- a stop

  pub turned_stop : (before reason : ℕ) → Found tokens counts goals values words s (Stop before reason) → Turned tokens counts goals values words goals
      values words s (Err (record { reason = reason; at = s.at + before }))
  unfolding shown done
  turned_stop before reason f =
      record {
        says = rw (← drop-drop before s.at tokens) (f.calls.does below held terms ahead fit f.looks.seen);
        next = tt;
        kept = record { ordered = st.ordered; long = refl; terms_stay = λ i h. refl };
        goals_stay = refl;
        values_stay = refl;
      }
