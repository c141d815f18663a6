-- Goals that find what they take still do after a step. Assumes nothing.
use Prim.Native.Nat.{ℕ, zero, suc, ◌+◌, ◌-◌, ◌^◌, ◌≤◌, ◌<◌}
use native.Mathlib.Nat.{pow-le-pow_right}
use native.Mathlib.Decide.{dec_lt, ℕ_discrete}
use native.Mathlib.Omega.{arith}
use lib.Pow.{pow_pos}
use mathlib.Core.Path.{◌≡◌, refl}
use mathlib.Core.Bool.{Bool, true, false, cond, not, ◌&&◌, ◌||◌}
use mathlib.Core.List.{List, [], ◌∷◌, ◌++◌}
use lib.Dec.{eqb, ltb, leb}
use lib.ListN.{length, get_or, drop}
use borrow.Author.Tests.{ltb-true, leb-true, not-false, eq-eqb, ne_eqb}
use Rattle.format.proofs.Ranges.{by_range}
use Rattle.plan_notation.specs.Shown.{loose, testing, prefix}
use Rattle.plan_parsing.specs.Goals.{Sort, expression, condition, Goal, expect, operand, more, make, binder, fields, procedure, further, count, Value}
use Rattle.plan_parsing.specs.Goals.{number, of_expression, of_condition, of_arguments, number_in, operand_counts, terms, value_at, made, forms, argument_goals}
use Rattle.plan_parsing.specs.Parser.{ahead, Step, go, stop, Reason, wanted, takes_condition, inside, begun, word_form, operand_step, is_field, dot_step, more_step}
use Rattle.plan_parsing.specs.Parser.{fields_step, further_step, step, is_expression, is_condition, fits}
use Rattle.plan_parser_goals.specs.Inner.Encoded.{goal_of}
use Rattle.plan_parser_goals.specs.Inner.Moves.{IsTerm, operand_kinds, Fits, Sound, form_at}
use Rattle.plan_parser_goals.proofs.Numbers.{expect_goal, further_goal}

-- what a step leaves finds what it takes
abbrev pub FitsAfter : List Goal → Step → Type 0
FitsAfter gs (go gs' vs n ts) = Fits (gs' ++ gs) vs
FitsAfter gs (stop r ts) = Unit {0}

-- a choice, by both of its ways
choose : (P : Step → Type 0) (b : Bool) (x y : Step) → (b ≡ true → P x) → (b ≡ false → P y) → P (cond b x y)
choose P true x y f g = f refl
choose P false x y f g = g refl

and_first : (a b : Bool) → (a && b) ≡ true → a ≡ true
and_first true b e = refl
and_first false b e = e

pub and_second : (a b : Bool) → (a && b) ≡ true → b ≡ true
and_second true b e = e
and_second false b e = absurd (absurd_false e)
  where
    absurd_false : false ≡ true → ⊥
    absurd_false e = let z : ◌≡◌ {A = ℕ} 0 1 = cc in omega arith

-- a made term is a term
made_term : (x y z : Value) (k : ℕ) → k < 21 → IsTerm (get_or terms k (λ x y z. number 0) x y z)
unfolding terms
made_term x y z =
    by_range (λ k. IsTerm (get_or terms k (λ x y z. number 0) x y z)) 0 21 ((k : ℕ) → k < 21 → IsTerm (get_or terms k (λ x y z. number 0) x y z))
    (λ all k h. all k (omega arith) (omega arith))
    tt tt tt tt tt tt tt tt tt tt tt tt tt tt tt tt tt tt tt tt tt

module _ (gs : List Goal) where
  -- ---- an operand

  module _ (d : ℕ) (s : Sort) (vs : List Value) (f : (v : Value) → IsTerm v → Fits gs (v ∷ vs)) where
    -- behind it
    behind : (v : Value) → IsTerm v → Fits (more d s ∷ gs) (v ∷ vs)
    behind v h = ((h, tt), f)

    -- the goals of a form, over what it starts from
    abbrev FormFits : ℕ → Type 0
    FormFits i = Fits (((form_at i).goals ++ (more d s ∷ [])) ++ gs) (cond (eqb i 3) (number 0 ∷ vs) vs)

    form_fits : (i : ℕ) → i < 14 → FormFits i
    unfolding forms operand_kinds operand_counts
    form_fits =
        by_range FormFits 0 14 ((i : ℕ) → i < 14 → FormFits i) (λ all i h. all i (omega arith) (omega arith))
        (omega arith, tt, behind)
        (λ v t. (omega arith, (t, tt), behind))
        (omega arith, tt, behind)
        (omega arith, ((omega arith, omega arith), λ m h. (omega arith, (h, tt), behind)))
        (λ n h. (omega arith, λ v t. (omega arith, λ w u. (omega arith, (u, (t, (h, tt))), behind))))
        (λ v t. (omega arith, λ w u. (omega arith, λ x y. (omega arith, (y, (u, (t, tt))), behind))))
        (λ v t. (omega arith, λ w u. (omega arith, (u, (t, tt)), behind)))
        (λ n h v t. (omega arith, (t, (h, tt)), behind))
        (λ v t. (omega arith, (t, tt), behind))
        (λ v t. (omega arith, (t, tt), behind))
        (λ v t. (omega arith, λ w u. (omega arith, (u, (t, tt)), behind)))
        (λ v t. (omega arith, (t, tt), behind))
        (λ v t. (omega arith, (t, tt), behind))
        (λ v t. (omega arith, (t, tt), behind))

    begun_fits : (i n : ℕ) (vs' : List Value) (ts rest : List ℕ) → FitsAfter gs (go ((form_at i).goals ++ (more d s ∷ [])) vs' n rest) → FitsAfter gs
        (begun (form_at i) d s vs' n ts rest)
    unfolding begun
    begun_fits i n vs' ts rest h =
        choose (FitsAfter gs) (leb d (form_at i).binding && (not (form_at i).is_condition || takes_condition s))
        (go ((form_at i).goals ++ (more d s ∷ [])) vs' n rest) (stop (wanted (operand d s)) ts) (λ e. h) (λ e. tt)

    word_fits : (t n : ℕ) (ts : List ℕ) → 49 ≤ t → t < 62 → FitsAfter gs (word_form t d s vs n ts)
    unfolding word_form forms
    word_fits t n ts l b =
        choose (FitsAfter gs) (eqb t 61 && eqb (ahead ts 1) 47) (begun (form_at 13) d s vs n ts (drop 2 ts))
        (begun (form_at (t - 49)) d s (cond (eqb t 52) (number 0 ∷ vs) vs) n ts (drop 1 ts))
        (λ e. begun_fits 13 n vs ts (drop 2 ts) (form_fits 13 (omega arith)))
        (λ e. begun_fits (t - 49) n (cond (eqb t 52) (number 0 ∷ vs) vs) ts (drop 1 ts) (rw same (form_fits (t - 49) (omega arith))))
      where
        same : eqb t 52 ≡ eqb (t - 49) 3
        same = go (ℕ_discrete t 52)
          where
            go : Dec (t ≡ 52) → eqb t 52 ≡ eqb (t - 49) 3
            go (yes e) = rw (eq-eqb t 52 e, eq-eqb (t - 49) 3 (omega arith))
            go (no e) = rw (ne_eqb t 52 e, ne_eqb (t - 49) 3 (λ q. omega (arith, e)))

    operand_fits : (n : ℕ) (ts : List ℕ) → FitsAfter gs (operand_step d s vs n ts)
    unfolding operand_step operand_kinds operand_counts
    operand_fits n ts =
        let t = ahead ts 0 in
        choose (FitsAfter gs) (leb 32 t && ltb t 40) (go (make 1 ∷ more d s ∷ []) (number (t - 32) ∷ vs) n (drop 1 ts))
        (cond (leb 49 t && leb t 61) (word_form t d s vs n ts)
        (cond (eqb t 62) (go (operand loose (inside s) ∷ expect 63 ∷ more d s ∷ []) vs n (drop 1 ts)) (stop (wanted (operand d s)) ts)))
        (λ e. let h = ltb-true t 40 (and_second (leb 32 t) (ltb t 40) e) in (omega arith, (omega arith, tt), behind))
        (λ e.
        choose (FitsAfter gs) (leb 49 t && leb t 61) (word_form t d s vs n ts)
        (cond (eqb t 62) (go (operand loose (inside s) ∷ expect 63 ∷ more d s ∷ []) vs n (drop 1 ts)) (stop (wanted (operand d s)) ts))
        (λ e. let h = leb-true t 61 (and_second (leb 49 t) (leb t 61) e) in word_fits t n ts (leb-true 49 t (and_first (leb 49 t) (leb t 61) e))
        (omega arith))
        (λ e.
        choose (FitsAfter gs) (eqb t 62) (go (operand loose (inside s) ∷ expect 63 ∷ more d s ∷ []) vs n (drop 1 ts)) (stop (wanted (operand d s)) ts)
        (λ e. (λ v h. (omega arith, behind v h)))
        (λ e. tt)))

  -- ---- what follows an operand

  module _ (d : ℕ) (s : Sort) (v : Value) (vs : List Value) (t : IsTerm v) (f : (w : Value) → IsTerm w → Fits gs (w ∷ vs)) where
    dot_fits : (n : ℕ) (ts : List ℕ) → FitsAfter gs (dot_step d s (v ∷ vs) n ts)
    unfolding dot_step is_field operand_kinds operand_counts
    dot_fits n ts =
        let x = ahead ts 1 in
        choose (FitsAfter gs) (not (is_field x)) (stop Reason.field (drop 1 ts))
        (cond (eqb d loose && eqb (ahead ts 2) 67) (go (operand loose expression ∷ make 4 ∷ more d s ∷ []) (number x ∷ v ∷ vs) n (drop 3 ts))
        (go (make 3 ∷ more d s ∷ []) (number x ∷ v ∷ vs) n (drop 2 ts)))
        (λ e. tt)
        (λ e.
        let h = ltb-true x 32 (and_second (ltb 0 x) (ltb x 32) (not-false (is_field x) e)) in
        choose (FitsAfter gs) (eqb d loose && eqb (ahead ts 2) 67) (go (operand loose expression ∷ make 4 ∷ more d s ∷ []) (number x ∷ v ∷ vs) n (drop 3 ts))
        (go (make 3 ∷ more d s ∷ []) (number x ∷ v ∷ vs) n (drop 2 ts))
        (λ e. (λ w u. (omega arith, (u, (h, (t, tt))), behind d s vs f)))
        (λ e. (omega arith, (h, (t, tt)), behind d s vs f)))

    more_fits : (n : ℕ) (ts : List ℕ) → FitsAfter gs (more_step d s (v ∷ vs) n ts)
    unfolding more_step operand_kinds operand_counts
    more_fits n ts =
        let x = ahead ts 0 in
        let last = cond (fits s v) (go [] (v ∷ vs) n ts) (stop (wanted (more d s)) ts) in
        let conditions = cond (is_condition v && eqb x 48 && eqb d loose) (go (operand loose condition ∷ make 14 ∷ more d s ∷ []) (v ∷ vs) n (drop 1 ts))
        last in
        choose (FitsAfter gs) (is_expression v && eqb x 65) (dot_step d s (v ∷ vs) n ts)
        (cond (is_expression v && eqb x 66 && leb d testing && takes_condition s)
        (go (operand prefix expression ∷ make 15 ∷ more d s ∷ []) (v ∷ vs) n (drop 1 ts)) conditions)
        (λ e. dot_fits n ts)
        (λ e.
        choose (FitsAfter gs) (is_expression v && eqb x 66 && leb d testing && takes_condition s)
        (go (operand prefix expression ∷ make 15 ∷ more d s ∷ []) (v ∷ vs) n (drop 1 ts)) conditions
        (λ e. (λ w u. (omega arith, (u, (t, tt)), behind d s vs f)))
        (λ e.
        choose (FitsAfter gs) (is_condition v && eqb x 48 && eqb d loose) (go (operand loose condition ∷ make 14 ∷ more d s ∷ []) (v ∷ vs) n (drop 1 ts)) last
        (λ e. (λ w u. (omega arith, (u, (t, tt)), behind d s vs f)))
        (λ e. choose (FitsAfter gs) (fits s v) (go [] (v ∷ vs) n ts) (stop (wanted (more d s)) ts) (λ e. f v t) (λ e. tt))))

  -- ---- fields

  -- a mask with one field more
  room : (k x y z : ℕ) → k < suc (4294967296 - x) → y + y ≤ x → x ≤ 4294967296 → k + y < suc (4294967296 - y)
  room k x y z a b c = omega arith

  twice : (f t : ℕ) → f < t → t < 32 → 2 ^ (31 - t) + 2 ^ (31 - t) ≤ 2 ^ (31 - f)
  twice f t h b =
      let e : 2 ^ suc (31 - t) ≤ 2 ^ (31 - f) = pow-le-pow_right (omega arith) {j = 31 - f} (omega arith) in
      let q : 2 ^ suc (31 - t) ≡ 2 ^ (31 - t) + 2 ^ (31 - t) = omega arith in
      omega arith

  fields_fit : (k x m n : ℕ) (vs : List Value) (ts : List ℕ) → m < suc (4294967296 - 2 ^ (31 - x)) → x < 32 →
      ((m : ℕ) → m < 4294967296 → Fits gs (number m ∷ vs))
      → FitsAfter gs (fields_step k x (number m ∷ vs) n ts)
  unfolding fields_step number_in
  fields_fit k x m n vs ts h b f =
      let t = ahead ts 0 in
      let stops = stop (wanted (fields k x)) ts in
      choose (FitsAfter gs) (eqb t 63) (go [] (number m ∷ vs) n (drop 1 ts))
      (cond (ltb 0 k && ltb x t && ltb t 32) (go (fields (k - 1) t ∷ []) (number (m + 2 ^ (31 - t)) ∷ vs) n (drop 1 ts)) stops)
      (λ e. f m (let p = pow_pos (31 - x) in let q = pow-le-pow_right {n = 2} (omega arith) {i = 31 - x} {j = 32} (omega arith) in omega arith))
      (λ e.
      choose (FitsAfter gs) (ltb 0 k && ltb x t && ltb t 32) (go (fields (k - 1) t ∷ []) (number (m + 2 ^ (31 - t)) ∷ vs) n (drop 1 ts)) stops
      (λ e.
      let l = ltb-true x t (and_second (ltb 0 k) (ltb x t) (and_first (ltb 0 k && ltb x t) (ltb t 32) e)) in
      let g = ltb-true t 32 (and_second (ltb 0 k && ltb x t) (ltb t 32) e) in
      ((room m (2 ^ (31 - x)) (2 ^ (31 - t)) 0 h (twice x t l g) (pow-le-pow_right {n = 2} (omega arith) {i = 31 - x} {j = 32} (omega arith)), g), f))
      (λ e. tt))

  -- ---- arguments

  arguments_fit : (t p : ℕ) (vs : List Value) → p < 256 → ((v : Value) → IsTerm v → Fits gs (v ∷ number t ∷ vs)) → Fits (argument_goals p ++ gs)
      (number t ∷ vs)
  unfolding argument_goals operand_kinds operand_counts
  arguments_fit t zero vs h f = (omega arith, (omega arith, (omega arith, tt, f)))
  arguments_fit t (suc p) vs h f = (omega arith, λ v u. (omega arith, λ w x. (omega arith, (x, (u, tt)), f)))

  further_fit : (k n : ℕ) (vs : List Value) (ts : List ℕ) → k < 256 → ((v : Value) → IsTerm v → Fits gs (v ∷ vs)) → FitsAfter gs (further_step k vs n ts)
  unfolding further_step operand_kinds operand_counts
  further_fit zero n vs ts h f = choose (FitsAfter gs) (eqb (ahead ts 0) 63) (go (make 17 ∷ []) vs n (drop 1 ts)) (stop (wanted (further 0)) ts)
      (λ e. (omega arith, tt, f)) (λ e. tt)
  further_fit (suc k) n vs ts h f =
      choose (FitsAfter gs) (eqb (ahead ts 0) 64) (go (operand loose expression ∷ further k ∷ make 16 ∷ []) vs n (drop 1 ts))
      (stop (wanted (further (suc k))) ts)
      (λ e. (λ v u. (omega arith, λ w x. (omega arith, (x, (u, tt)), f))))
      (λ e. tt)

  -- ---- any goal

  module _ (counts : List ℕ) (small : (i : ℕ) → get_or counts i 0 < 256) (n : ℕ) (ts : List ℕ) where
    pub step_fits : (g : Goal) (vs : List Value) → Fits (g ∷ gs) vs → FitsAfter gs (step counts g vs n ts)
    unfolding step made
    step_fits (expect t) vs f = choose (FitsAfter gs) (eqb (ahead ts 0) t) (go [] vs n (drop 1 ts)) (stop (wanted (expect t)) ts) (λ e. f.1) (λ e. tt)
    step_fits (operand d s) vs f = operand_fits d s vs f n ts
    step_fits (more d s) [] f = absurd f.0
    step_fits (more d s) (v ∷ vs) f = more_fits d s v vs f.0.0 f.1 n ts
    step_fits (make k) vs f =
        choose (FitsAfter gs) (eqb n 0) (stop Reason.terms ts) (go [] (made k vs) (n - 1) ts) (λ e. tt)
        (λ e. f.2 _ (made_term (value_at vs (get_or operand_counts k 0 - 1)) (value_at vs (get_or operand_counts k 0 - 2))
        (value_at vs (get_or operand_counts k 0 - 3)) k f.0))
    step_fits binder vs f =
        let t = ahead ts 0 in
        choose (FitsAfter gs) (ltb t 8) (go [] (number t ∷ vs) n (drop 1 ts))
        (cond (eqb t 68) (go [] (number 15 ∷ vs) n (drop 1 ts)) (stop (wanted binder) ts))
        (λ e. let h = ltb-true t 8 e in f t (omega arith))
        (λ e. choose (FitsAfter gs) (eqb t 68) (go [] (number 15 ∷ vs) n (drop 1 ts)) (stop (wanted binder) ts) (λ e. f 15 (omega arith)) (λ e. tt))
    step_fits (fields k x) [] f = absurd f.0
    step_fits (fields k x) (number m ∷ vs) f = fields_fit k x m n vs ts f.0.0 f.0.1 f.1
    step_fits (fields k x) (of_expression v ∷ vs) f = absurd f.0.0
    step_fits (fields k x) (of_condition v ∷ vs) f = absurd f.0.0
    step_fits (fields k x) (of_arguments v ∷ vs) f = absurd f.0.0
    step_fits procedure vs f =
        let t = ahead ts 0 in
        choose (FitsAfter gs) (ltb t 32 && ltb t (length counts)) (go (argument_goals (get_or counts t 0)) (number t ∷ vs) n (drop 1 ts))
        (stop (wanted procedure) ts)
        (λ e. arguments_fit t (get_or counts t 0) vs (small t) (f t (ltb-true t 32 (and_first (ltb t 32) (ltb t (length counts)) e))))
        (λ e. tt)
    step_fits (further k) vs f = further_fit k n vs ts f.0 f.1
    step_fits count vs f =
        let t = ahead ts 0 in
        choose (FitsAfter gs) (ltb t 9) (go [] (number t ∷ vs) n (drop 1 ts)) (stop (wanted count) ts) (λ e. f t (ltb-true t 9 e)) (λ e. tt)

  -- the number of a goal that finds what it takes
  pub fits_sound : (c : ℕ) (vs : List Value) → Fits (goal_of c ∷ gs) vs → Sound c
  fits_sound c vs f = (λ h. low h, high (dec_lt c 640))
    where
      low : c < 128 → c < 69
      low h = (rw (expect_goal c h) at f).0

      high : Dec (c < 640) → c < 896
      high (yes h) = omega arith
      high (no h) = let q = (rw (further_goal c (omega (arith, h))) at f).0 in omega (arith, h)
