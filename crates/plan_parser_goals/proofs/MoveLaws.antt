-- Each way through a step is what the step of its goal is. Assumes nothing.
use Prim.Native.Nat.{ℕ, zero, suc, ◌+◌, ◌-◌, ◌*◌, ◌/◌, ◌%◌, ◌^◌, ◌≤◌, ◌<◌}
use native.Mathlib.Omega.{arith}
use native.Mathlib.Nat.{pow-le-pow_right}
use lib.Pow.{pow-lt}
use mathlib.Core.Path.{◌≡◌, refl, sym, subst, ◌∙◌}
use mathlib.Core.Bool.{Bool, true, false, cond, not, ◌&&◌, ◌||◌}
use mathlib.Core.List.{List, [], ◌∷◌, append_assoc}
use lib.Dec.{eqb, leb}
use lib.ListN.{length, get_or, drop}
use borrow.Author.Tests.{eq-eqb, ne_eqb, lt-ltb, le-ltb, le-leb, lt-leb}
use Rattle.format.proofs.BitLaws.{shl_one}
use Rattle.plan_parsing.specs.Goals.{Goal, expect, operand, more, make, binder, fields, procedure, further, count, Value, number, of_expression, of_condition}
use Rattle.plan_parsing.specs.Goals.{of_arguments, number_in, value_at, made, argument_goals, forms}
use Rattle.plan_parsing.specs.Parser.{Reason, Step, go, stop, wanted, takes_condition, fits, step, further_step, fields_step, more_step, dot_step, is_field}
use Rattle.plan_parsing.specs.Parser.{operand_step, word_form, begun}
use Rattle.plan_parser_goals.specs.Inner.Encoded.{goal_of, reason_of, sort_of, stacked, unpacked, value_sort}
use Rattle.plan_parser_goals.specs.Inner.Moves.{IsBelow, MaskTo, Seen, Does, Calls, onto, pushed, done, form_at, PackedForm, Formed, Ends}
use Rattle.plan_parser_goals.specs.Inner.Moves.{Sight, Move, Go, Make, Stop}
use Rattle.plan_parser_goals.proofs.FormTable.{form_condition, form_expression}
use Rattle.plan_parser_goals.proofs.Numbers.{expect_goal, operand_goal, more_goal, count_goal, fields_goal, further_goal}
use Rattle.plan_parser_goals.proofs.Numbers.{more_above, reason_goal, stacked_some}
use Rattle.plan_parser_goals.proofs.Numbers.{pushed_some, expression_is, condition_is, neither_is, takes, takes_not, inside_expression, inside_either}
use Rattle.plan_parser_goals.proofs.Numbers.{fits_either, fits_same, fits_not, fits_neither}

-- the code's bit of a field
pub shift_is : (t : ℕ) → (1 * 2 ^ (31 - t)) % 18446744073709551616 ≡ 2 ^ (31 - t)
shift_is t = shl_one (31 - t) (omega arith)

pub bit_small : (t : ℕ) → 2 ^ (31 - t) < 4294967296
bit_small t = pow-lt {j = 32} (omega arith)

-- a mask of fields up to f has room for one more
mask_room : (f m t : ℕ) (vs : List Value) → MaskTo f vs → number_in (value_at vs 0) ≡ m → f < t → t < 32 → m + 2 ^ (31 - t) < 4294967296
unfolding number_in
mask_room f m t (of_expression x ∷ vs) h e a b = absurd h.0
mask_room f m t (of_condition x ∷ vs) h e a b = absurd h.0
mask_room f m t (of_arguments x ∷ vs) h e a b = absurd h.0
mask_room f m t (number k ∷ vs) h e a b = room k m (2 ^ (31 - t)) (2 ^ (31 - f)) h.0 e (pow-lt (omega arith))
    (pow-le-pow_right (omega arith) {j = 32} (omega arith))
  where
    room : (k m x y : ℕ) → k < suc (4294967296 - y) → k ≡ m → x < y → y ≤ 2 ^ 32 → m + x < 4294967296
    room k m x y p q r z = omega arith
mask_room f m t [] h e a b = elim h [ ]

module _ (counts : List ℕ) (s : Sight) where
  -- ---- a token

  pub expect_taken : (c : ℕ) → s.first ≡ c → Does (step counts (expect c)) (expect c) s (Go 1 0 0 0 0 0)
  unfolding done onto step stacked unpacked pushed
  expect_taken c e gs vs n ts f k = rw (k.first_is, eq-eqb s.first c e)

  pub expect_stops : (c : ℕ) → c < 69 → (s.first ≡ c → ⊥) → Does (step counts (expect c)) (expect c) s (Stop 0 c)
  unfolding done onto step
  expect_stops c h d gs vs n ts f k = rw (k.first_is, ne_eqb s.first c d, reason_goal c (omega arith), expect_goal c (omega arith))

  -- ---- a number

  pub binder_slot : s.first < 8 → Does (step counts binder) binder s (Go 1 0 0 0 0 (1024 + s.first))
  unfolding done onto step stacked unpacked
  binder_slot h gs vs n ts f k = rw (k.first_is, lt-ltb s.first 8 h, pushed_some (1024 + s.first) s.first vs refl)

  pub binder_dash : s.first ≡ 68 → Does (step counts binder) binder s (Go 1 0 0 0 0 1039)
  unfolding done onto step stacked unpacked pushed
  binder_dash e gs vs n ts f k = rw (k.first_is, le-ltb s.first 8 (omega arith), eq-eqb s.first 68 e)

  pub binder_stops : 8 ≤ s.first → (s.first ≡ 68 → ⊥) → Does (step counts binder) binder s (Stop 0 192)
  unfolding done onto step reason_of goal_of
  binder_stops h d gs vs n ts f k = rw (k.first_is, le-ltb s.first 8 h, ne_eqb s.first 68 d)

  pub count_number : s.first < 9 → Does (step counts count) count s (Go 1 0 0 0 0 (1024 + s.first))
  unfolding done onto step stacked unpacked
  count_number h gs vs n ts f k = rw (k.first_is, lt-ltb s.first 9 h, pushed_some (1024 + s.first) s.first vs refl)

  pub count_stops : (c : ℕ) → 194 ≤ c → c < 256 → 9 ≤ s.first → Does (step counts count) count s (Stop 0 c)
  unfolding done onto step
  count_stops c l b h gs vs n ts f k = rw (k.first_is, le-ltb s.first 9 h, reason_goal c (omega arith), count_goal c l b)

  -- ---- a procedure and its arguments

  pub procedure_high : 31 < s.first → Does (step counts procedure) procedure s (Stop 0 193)
  unfolding done onto step reason_of goal_of
  procedure_high h gs vs n ts f k = rw (k.first_is, le-ltb s.first 32 (omega arith))

  pub procedure_none : s.first ≤ 31 → length counts ≤ s.first → Does (step counts procedure) procedure s (Stop 0 193)
  unfolding done onto step reason_of goal_of
  procedure_none h l gs vs n ts f k = rw (k.first_is, lt-ltb s.first 32 (omega arith), le-ltb s.first (length counts) l)

  pub procedure_alone_lem : s.first ≤ 31 → s.first < length counts → get_or counts s.first 0 ≡ 0 → Does (step counts procedure) procedure s
      (Go 1 145 0 63551 0 (1024 + s.first))
  unfolding done onto step stacked unpacked goal_of argument_goals
  procedure_alone_lem h l e gs vs n ts f k =
      rw (k.first_is, lt-ltb s.first 32 (omega arith), lt-ltb s.first (length counts) l, e, pushed_some (1024 + s.first) s.first vs refl)

  pub procedure_arguments : (p : ℕ) → s.first ≤ 31 → s.first < length counts → get_or counts s.first 0 ≡ suc p
      → Does (step counts procedure) procedure s (Go 1 144 (640 + p) 63649 0 (1024 + s.first))
  unfolding done onto step stacked unpacked goal_of argument_goals
  procedure_arguments p h l e gs vs n ts f k =
      let q : 640 + p - 640 ≡ p = omega arith in
      rw (
        stacked_some (640 + p) (further p) (make 16 ∷ gs) (omega arith) (further_goal (640 + p) (omega arith) ∙ rw q),
        k.first_is,
        lt-ltb s.first 32 (omega arith),
        lt-ltb s.first (length counts) l,
        e,
        pushed_some (1024 + s.first) s.first vs refl,
      )

  module _ (c : ℕ) where
    abbrev rest : Goal
    rest = further (c - 640)

    pub further_end : c ≡ 640 → s.first ≡ 63 → Does (step counts rest) rest s (Go 1 145 0 0 0 0)
    unfolding done onto step stacked unpacked pushed goal_of further_step
    further_end d e gs vs n ts f k = let z : c - 640 ≡ 0 = omega arith in rw (z, k.first_is, eq-eqb s.first 63 e)

    pub further_open : c ≡ 640 → (s.first ≡ 63 → ⊥) → Does (step counts rest) rest s (Stop 0 c)
    unfolding done onto step further_step
    further_open d e gs vs n ts f k =
        let z : c - 640 ≡ 0 = omega arith in
        rw (reason_goal c (omega arith), further_goal c (omega arith), z, k.first_is, ne_eqb s.first 63 e)

    pub further_comma : 640 ≤ c → (c ≡ 640 → ⊥) → s.first ≡ 64 → Does (step counts rest) rest s (Go 1 144 (c - 1) 161 0 0)
    unfolding done onto step stacked unpacked pushed goal_of further_step
    further_comma l d e gs vs n ts f k =
        let z : c - 640 ≡ suc (c - 641) = omega (arith, d) in
        let q : c - 1 - 640 ≡ c - 641 = omega arith in
        rw (
          stacked_some (c - 1) (further (c - 641)) (make 16 ∷ gs) (omega arith) (further_goal (c - 1) (omega (arith, d)) ∙ rw q),
          z,
          k.first_is,
          eq-eqb
              s.first 64 e,
        )

    pub further_stops : 640 ≤ c → c < 896 → (c ≡ 640 → ⊥) → (s.first ≡ 64 → ⊥) → Does (step counts rest) rest s (Stop 0 c)
    unfolding done onto step further_step
    further_stops l b d e gs vs n ts f k =
        let z : c - 640 ≡ suc (c - 641) = omega (arith, d) in
        rw (reason_goal c (omega arith), further_goal c (omega arith), z, k.first_is, ne_eqb s.first 64 e)

    -- ---- fields

    abbrev mask : Goal
    mask = fields ((c - 256) / 32) ((c - 256) % 32)

    pub fields_end : s.first ≡ 63 → Does (step counts mask) mask s (Go 1 0 0 0 0 0)
    unfolding done onto step stacked unpacked pushed fields_step
    fields_end e gs vs n ts f k = rw (k.first_is, eq-eqb s.first 63 e)

    pub fields_many : 256 ≤ c → c < 288 → (s.first ≡ 63 → ⊥) → Does (step counts mask) mask s (Stop 0 c)
    unfolding done onto step fields_step
    fields_many l b d gs vs n ts f k =
        let z : (c - 256) / 32 ≡ 0 = omega arith in
        rw (reason_goal c (omega arith), fields_goal c l (omega arith), z, k.first_is, ne_eqb s.first 63 d)

    pub fields_low : 288 ≤ c → c < 640 → (s.first ≡ 63 → ⊥) → s.first ≤ (c - 256) % 32 → Does (step counts mask) mask s (Stop 0 c)
    unfolding done onto step fields_step
    fields_low l b d h gs vs n ts f k =
        rw (
          reason_goal c (omega arith),
          fields_goal c (omega arith) b,
          k.first_is,
          ne_eqb s.first 63 d,
          lt-ltb 0 ((c - 256) / 32) (omega arith),
          le-ltb
              ((c - 256) % 32) s.first h,
        )

    pub fields_high : 288 ≤ c → c < 640 → (s.first ≡ 63 → ⊥) → (c - 256) % 32 < s.first → 31 < s.first → Does (step counts mask) mask s (Stop 0 c)
    unfolding done onto step fields_step
    fields_high l b d h w gs vs n ts f k =
        rw (
          reason_goal c (omega arith),
          fields_goal c (omega arith) b,
          k.first_is,
          ne_eqb s.first 63 d,
          lt-ltb 0 ((c - 256) / 32) (omega arith),
          lt-ltb ((c - 256) % 32) s.first h,
          le-ltb s.first 32 (omega arith),
        )

    pub fields_field : (v : ℕ) → v ≡ 1024 + (s.number + 2 ^ (31 - s.first)) % 4294967296 → 288 ≤ c → c < 640 → (s.first ≡ 63 → ⊥) → (c - 256) % 32 < s.first → s.first < 32
        → Does (step counts mask) mask s (Go 1 (c - 32 - (c - 256) % 32 + s.first) 0 0 1 v)
    unfolding done onto step stacked unpacked fields_step
    fields_field v q l b d h w gs vs n ts f k =
        let j = c - 32 - (c - 256) % 32 + s.first in
        let p : (j - 256) / 32 ≡ (c - 256) / 32 - 1 = omega arith in
        let r : (j - 256) % 32 ≡ s.first = omega arith in
        let m = mask_room ((c - 256) % 32) s.number s.first vs f.0 k.number_is h w in
        rw (
          stacked_some j (fields ((c - 256) / 32 - 1) s.first) gs (omega arith) (fields_goal j (omega arith) (omega arith) ∙ rw (p, r)),
          pushed_some v (s.number + 2 ^ (31 - s.first)) (drop 1 vs) (room v (s.number + 2 ^ (31 - s.first)) q m),
          k.first_is,
          k.number_is,
          ne_eqb s.first 63 d,
          lt-ltb 0 ((c - 256) / 32) (omega arith),
          lt-ltb ((c - 256) % 32) s.first h,
          lt-ltb s.first 32 w,
        )
      where
        room : (v x : ℕ) → v ≡ 1024 + x % 4294967296 → x < 4294967296 → v ≡ 1024 + x
        room v x e h = omega arith

    -- ---- what may follow an operand

    abbrev follow : Goal
    follow = more ((c - 176) / 3) (sort_of ((c - 176) % 3))

    module _ (l : 176 ≤ c) (b : c < 192) where
      stays : (gs : List Goal) → stacked c gs ≡ follow ∷ gs
      stays gs = stacked_some c follow gs (omega arith) (more_goal c l b)

      -- `.`
      module _ (i : s.sort ≡ 1) (a : s.first ≡ 65) where
        pub dot_zero : s.second ≡ 0 → Does (step counts follow) follow s (Stop 1 1002)
        unfolding done onto step reason_of goal_of more_step dot_step is_field
        dot_zero e gs vs n ts f k =
            rw (k.first_is, eq-eqb s.first 65 a, (expression_is (value_at vs 0) (k.sort_is ∙ i)).0, k.second_is, e)

        pub dot_high : (s.second ≡ 0 → ⊥) → 31 < s.second → Does (step counts follow) follow s (Stop 1 1002)
        unfolding done onto step reason_of goal_of more_step dot_step is_field
        dot_high d h gs vs n ts f k =
            rw (
              k.first_is,
              eq-eqb s.first 65 a,
              (expression_is (value_at vs 0) (k.sort_is ∙ i)).0,
              k.second_is,
              lt-ltb 0 s.second
                  (omega (arith, d)),
              le-ltb s.second 32 (omega arith),
            )

        module _ (d : s.second ≡ 0 → ⊥) (h : s.second ≤ 31) where
          pub dot_tight : 178 < c → Does (step counts follow) follow s (Go 2 c 0 131 0 (1024 + s.second))
          unfolding done onto step stacked unpacked goal_of more_step dot_step is_field
          dot_tight g gs vs n ts f k =
              rw (
                stays gs,
                pushed_some (1024 + s.second) s.second vs refl,
                k.first_is,
                eq-eqb s.first 65 a,
                (expression_is (value_at vs 0) (k.sort_is ∙ i)).0,
                k.second_is,
                lt-ltb 0 s.second (omega (arith, d)),
                lt-ltb s.second 32 (omega arith),
                ne_eqb ((c - 176) / 3) 0 (λ e. omega arith),
              )

          pub dot_writes : c ≤ 178 → s.third ≡ 67 → Does (step counts follow) follow s (Go 3 c 0 164996 0 (1024 + s.second))
          unfolding done onto step stacked unpacked goal_of more_step dot_step is_field
          dot_writes g e gs vs n ts f k =
              rw (
                stays gs,
                pushed_some (1024 + s.second) s.second vs refl,
                k.first_is,
                eq-eqb s.first 65 a,
                (expression_is (value_at vs 0) (k.sort_is ∙ i)).0,
                k.second_is,
                lt-ltb 0 s.second (omega (arith, d)),
                lt-ltb s.second 32 (omega arith),
                eq-eqb ((c - 176) / 3) 0 (omega arith),
                k.third_is,
                eq-eqb s.third 67 e,
              )

          pub dot_reads : c ≤ 178 → (s.third ≡ 67 → ⊥) → Does (step counts follow) follow s (Go 2 c 0 131 0 (1024 + s.second))
          unfolding done onto step stacked unpacked goal_of more_step dot_step is_field
          dot_reads g e gs vs n ts f k =
              rw (
                stays gs,
                pushed_some (1024 + s.second) s.second vs refl,
                k.first_is,
                eq-eqb s.first 65 a,
                (expression_is (value_at vs 0) (k.sort_is ∙ i)).0,
                k.second_is,
                lt-ltb 0 s.second (omega (arith, d)),
                lt-ltb s.second 32 (omega arith),
                eq-eqb ((c - 176) / 3) 0 (omega arith),
                k.third_is,
                ne_eqb s.third 67 e,
              )

      -- `=`
      module _ (i : s.sort ≡ 1) (a : s.first ≡ 65 → ⊥) where
        pub equal_none : (m : Move) → (s.first ≡ 66 → ⊥) → Ends c s m → Does (step counts follow) follow s m
        unfolding onto step more_step
        equal_none m d e gs vs n ts f k =
            let x = expression_is (value_at vs 0) (k.sort_is ∙ i) in
            rw (k.first_is, ne_eqb s.first 65 a, ne_eqb s.first 66 d, x.0, x.1) (e.does gs vs n ts k)

        pub equal_tight : (m : Move) → s.first ≡ 66 → 181 < c → Ends c s m → Does (step counts follow) follow s m
        unfolding onto step more_step
        equal_tight m d h e gs vs n ts f k =
            let x = expression_is (value_at vs 0) (k.sort_is ∙ i) in
            rw (k.first_is, ne_eqb s.first 65 a, eq-eqb s.first 66 d, lt-leb ((c - 176) / 3) 1 (omega arith), x.0, x.1) (e.does gs vs n ts k)

        pub equal_sort : (m : Move) → s.first ≡ 66 → c ≤ 181 → (c - 176) % 3 ≡ 1 → Ends c s m → Does (step counts follow) follow s m
        unfolding onto step more_step
        equal_sort m d h q e gs vs n ts f k =
            let x = expression_is (value_at vs 0) (k.sort_is ∙ i) in
            rw (
              k.first_is,
              ne_eqb s.first 65 a,
              eq-eqb s.first 66 d,
              le-leb ((c - 176) / 3) 1 (omega arith),
              takes_not ((c - 176) % 3) q,
              x.0,
              x.1,
            ) (e.does gs vs n ts k)

        pub equal_goes : s.first ≡ 66 → c ≤ 181 → ((c - 176) % 3 ≡ 1 → ⊥) → Does (step counts follow) follow s (Go 1 c 0 171151 0 0)
        unfolding done onto step stacked unpacked pushed goal_of more_step
        equal_goes d h q gs vs n ts f k =
            let x = expression_is (value_at vs 0) (k.sort_is ∙ i) in
            rw (stays gs, k.first_is, ne_eqb s.first 65 a, eq-eqb s.first 66 d, le-leb ((c - 176) / 3) 1 (omega arith), takes ((c - 176) % 3) q, x.0)

      -- `and`
      module _ (i : s.sort ≡ 2) where
        pub and_none : (m : Move) → (s.first ≡ 48 → ⊥) → Ends c s m → Does (step counts follow) follow s m
        unfolding onto step more_step
        and_none m d e gs vs n ts f k =
            let x = condition_is (value_at vs 0) (k.sort_is ∙ i) in
            rw (k.first_is, ne_eqb s.first 48 d, x.0, x.1) (e.does gs vs n ts k)

        pub and_tight : (m : Move) → s.first ≡ 48 → 178 < c → Ends c s m → Does (step counts follow) follow s m
        unfolding onto step more_step
        and_tight m d h e gs vs n ts f k =
            let x = condition_is (value_at vs 0) (k.sort_is ∙ i) in
            rw (k.first_is, eq-eqb s.first 48 d, ne_eqb ((c - 176) / 3) 0 (λ e. omega arith), x.0, x.1) (e.does gs vs n ts k)

        pub and_goes : s.first ≡ 48 → c ≤ 178 → Does (step counts follow) follow s (Go 1 c 0 166030 0 0)
        unfolding done onto step stacked unpacked pushed goal_of more_step
        and_goes d h gs vs n ts f k =
            let x = condition_is (value_at vs 0) (k.sort_is ∙ i) in
            rw (stays gs, k.first_is, eq-eqb s.first 48 d, eq-eqb ((c - 176) / 3) 0 (omega arith), x.0, x.1)

      pub more_stops : (s.sort ≡ 1 → ⊥) → (s.sort ≡ 2 → ⊥) → Does (step counts follow) follow s (Stop 0 c)
      unfolding done onto step more_step
      more_stops d e gs vs n ts f k =
          let p : value_sort (value_at vs 0) ≡ 1 → ⊥ = λ q. d (sym k.sort_is ∙ q) in
          let r : value_sort (value_at vs 0) ≡ 2 → ⊥ = λ q. e (sym k.sort_is ∙ q) in
          let x = neither_is (value_at vs 0) p r in
          rw (reason_goal c (omega arith), more_goal c l b, fits_neither ((c - 176) % 3) (value_at vs 0) p r, x.0, x.1)

    -- ---- an operand

    abbrev here : Goal
    here = operand ((c - 160) / 3) (sort_of ((c - 160) % 3))

    module _ (l : 160 ≤ c) (b : c < 176) where
      follows : (gs : List Goal) → stacked (c + 16) gs ≡ more ((c - 160) / 3) (sort_of ((c - 160) % 3)) ∷ gs
      follows gs = stacked_some (c + 16) _ gs (omega arith) (more_above c l b)

      refused : reason_of c ≡ wanted here
      refused = reason_goal c (omega arith) ∙ rw (operand_goal c l b)

      pub operand_low : s.first < 32 → Does (step counts here) here s (Stop 0 c)
      unfolding done onto step operand_step
      operand_low h gs vs n ts f k =
          rw (refused, k.first_is, lt-leb 32 s.first h, lt-leb 49 s.first (omega arith), ne_eqb s.first 62 (λ e. omega arith))

      pub operand_variable : 32 ≤ s.first → s.first < 40 → Does (step counts here) here s (Go 1 (c + 16) 0 129 0 (992 + s.first))
      unfolding done onto step stacked unpacked goal_of operand_step
      operand_variable h g gs vs n ts f k =
          rw (follows gs, pushed_some (992 + s.first) (s.first - 32) vs (omega arith), k.first_is, le-leb 32 s.first h, lt-ltb s.first 40 g)

      pub operand_other : 40 ≤ s.first → s.first < 49 → Does (step counts here) here s (Stop 0 c)
      unfolding done onto step operand_step
      operand_other h g gs vs n ts f k =
          rw (
            refused,
            k.first_is,
            le-leb 32 s.first (omega arith),
            le-ltb s.first 40 h,
            lt-leb 49 s.first g,
            ne_eqb s.first 62
                (λ e. omega arith),
          )

      pub operand_high : 62 ≤ s.first → (s.first ≡ 62 → ⊥) → Does (step counts here) here s (Stop 0 c)
      unfolding done onto step operand_step
      operand_high h d gs vs n ts f k =
          rw (
            refused,
            k.first_is,
            le-leb 32 s.first (omega arith),
            le-ltb s.first 40 (omega arith),
            le-leb 49 s.first (omega arith),
            lt-leb
                s.first 61 (omega arith),
            ne_eqb s.first 62 d,
          )

      pub operand_group : s.first ≡ 62 → (c - 160) % 3 ≡ 1 → Does (step counts here) here s (Go 1 (c + 16) 0 164927 0 0)
      unfolding done onto step stacked unpacked pushed goal_of operand_step
      operand_group e q gs vs n ts f k =
          rw (
            follows gs,
            k.first_is,
            le-leb 32 s.first (omega arith),
            le-ltb s.first 40 (omega arith),
            le-leb 49 s.first (omega arith),
            lt-leb s.first 61 (omega arith),
            eq-eqb s.first 62 e,
            inside_expression ((c - 160) % 3) q,
          )

      pub operand_either : s.first ≡ 62 → ((c - 160) % 3 ≡ 1 → ⊥) → Does (step counts here) here s (Go 1 (c + 16) 0 163903 0 0)
      unfolding done onto step stacked unpacked pushed goal_of operand_step
      operand_either e q gs vs n ts f k =
          rw (
            follows gs,
            k.first_is,
            le-leb 32 s.first (omega arith),
            le-ltb s.first 40 (omega arith),
            le-leb 49 s.first (omega arith),
            lt-leb s.first 61 (omega arith),
            eq-eqb s.first 62 e,
            inside_either ((c - 160) % 3) q,
          )

      -- ---- a word

      module _ (m : Move) (h : 49 ≤ s.first) (g : s.first < 62) where
        pub word_new : s.first ≡ 52 → Formed c s 3 1 1024 m → Does (step counts here) here s m
        unfolding onto step operand_step word_form pushed
        word_new e p gs vs n ts f k =
            let z : s.first - 49 ≡ 3 = omega arith in
            rw (
              k.first_is,
              le-leb 32 s.first (omega arith),
              le-ltb s.first 40 (omega arith),
              le-leb 49 s.first h,
              le-leb s.first 61 (omega arith),
              ne_eqb s.first 61 (λ q. omega arith),
              eq-eqb s.first 52 e,
              z,
            )
            (p.does gs vs n ts)

        pub word_other : (s.first ≡ 52 → ⊥) → (s.first ≡ 61 → ⊥) → Formed c s (s.first - 49) 1 0 m → Does (step counts here) here s m
        unfolding onto step operand_step word_form pushed
        word_other d e p gs vs n ts f k =
            rw (
              k.first_is,
              le-leb 32 s.first (omega arith),
              le-ltb s.first 40 (omega arith),
              le-leb 49 s.first h,
              le-leb s.first 61 (omega arith),
              ne_eqb s.first 61 e,
              ne_eqb s.first 52 d,
            )
            (p.does gs vs n ts)

        pub word_all : s.first ≡ 61 → s.second ≡ 47 → Formed c s 13 2 0 m → Does (step counts here) here s m
        unfolding onto step operand_step word_form pushed forms
        word_all d e p gs vs n ts f k =
            rw (
              k.first_is,
              le-leb 32 s.first (omega arith),
              le-ltb s.first 40 (omega arith),
              le-leb 49 s.first h,
              le-leb s.first 61 (omega arith),
              eq-eqb s.first 61 d,
              k.second_is,
              eq-eqb s.second 47 e,
            )
            (p.does gs vs n ts)

        pub word_notify : s.first ≡ 61 → (s.second ≡ 47 → ⊥) → Formed c s 12 1 0 m → Does (step counts here) here s m
        unfolding onto step operand_step word_form pushed
        word_notify d e p gs vs n ts f k =
            let z : s.first - 49 ≡ 12 = omega arith in
            rw (
              k.first_is,
              le-leb 32 s.first (omega arith),
              le-ltb s.first 40 (omega arith),
              le-leb 49 s.first h,
              le-leb s.first 61 (omega arith),
              eq-eqb s.first 61 d,
              k.second_is,
              ne_eqb s.second 47 e,
              ne_eqb s.first 52 (λ q. omega arith),
              z,
            )
            (p.does gs vs n ts)

-- ---- a form

module _ (c i taken value : ℕ) (l : 160 ≤ c) (b : c < 176) (gs : List Goal) (vs : List Value) (n : ℕ) (ts : List ℕ) where
  abbrev formed : Step
  formed = onto gs (begun (form_at i) ((c - 160) / 3) (sort_of ((c - 160) % 3)) (pushed value vs) n ts (drop taken ts))

  form_stops : (leb ((c - 160) / 3) (form_at i).binding && (not (form_at i).is_condition || takes_condition (sort_of ((c - 160) % 3)))) ≡ false → done
      (Stop 0 c) gs vs n ts ≡ formed
  unfolding done onto begun
  form_stops e = rw (reason_goal c (omega arith), operand_goal c l b, e)

  form_goes : (p : ℕ) → PackedForm i p → (leb ((c - 160) / 3) (form_at i).binding &&
      (not (form_at i).is_condition || takes_condition (sort_of ((c - 160) % 3)))) ≡ true
      → done (Go taken (c + 16) 0 p 0 value) gs vs n ts ≡ formed
  unfolding done onto begun stacked
  form_goes p h e = rw (stacked_some (c + 16) _ gs (omega arith) (more_above c l b), h, e, append_assoc)

  pub form_loose : (f : ℕ) → f ≡ (form_at i).binding → f < (c - 160) / 3 → done (Stop 0 c) gs vs n ts ≡ formed
  form_loose f e h = form_stops (rw (lt-leb ((c - 160) / 3) (form_at i).binding (omega arith)))

  module _ (f : ℕ) (e : f ≡ (form_at i).binding) (h : (c - 160) / 3 ≤ f) where
    pub form_refused : i ≤ 1 → (c - 160) % 3 ≡ 1 → done (Stop 0 c) gs vs n ts ≡ formed
    form_refused k q = form_stops (rw (le-leb ((c - 160) / 3) (form_at i).binding (omega arith), form_condition i k, takes_not ((c - 160) % 3) q))

    pub form_taken : (p : ℕ) → PackedForm i p → i ≤ 1 → ((c - 160) % 3 ≡ 1 → ⊥) → done (Go taken (c + 16) 0 p 0 value) gs vs n ts ≡ formed
    form_taken p a k q = form_goes p a (rw (le-leb ((c - 160) / 3) (form_at i).binding (omega arith), form_condition i k, takes ((c - 160) % 3) q))

    pub form_term : (p : ℕ) → PackedForm i p → 1 < i → i < 14 → done (Go taken (c + 16) 0 p 0 value) gs vs n ts ≡ formed
    form_term p a k q = form_goes p a (rw (le-leb ((c - 160) / 3) (form_at i).binding (omega arith), form_expression i k q))

-- ---- nothing follows

module _ (c : ℕ) (s : Sight) (l : 176 ≤ c) (b : c < 192) (gs : List Goal) (vs : List Value) (n : ℕ) (ts : List ℕ) (k : Seen s vs ts) where
  abbrev ended : Step
  ended = onto gs (cond (fits (sort_of ((c - 176) % 3)) (value_at vs 0)) (go [] vs n ts) (stop (wanted (more ((c - 176) / 3) (sort_of ((c - 176) % 3)))) ts))

  pub end_either : (c - 176) % 3 ≡ 0 → 1 ≤ s.sort → s.sort ≤ 2 → done (Go 0 0 0 0 0 0) gs vs n ts ≡ ended
  unfolding done onto stacked unpacked pushed
  end_either e x y = let q = k.sort_is in rw (fits_either ((c - 176) % 3) (value_at vs 0) e (omega arith) (omega arith))

  pub end_same : (c - 176) % 3 ≡ s.sort → 1 ≤ s.sort → s.sort ≤ 2 → done (Go 0 0 0 0 0 0) gs vs n ts ≡ ended
  unfolding done onto stacked unpacked pushed
  end_same e x y = let q = k.sort_is in rw (fits_same ((c - 176) % 3) (value_at vs 0) (omega arith) (omega arith) (omega arith))

  pub end_other : ((c - 176) % 3 ≡ 0 → ⊥) → ((c - 176) % 3 ≡ s.sort → ⊥) → done (Stop 0 c) gs vs n ts ≡ ended
  unfolding done onto
  end_other d e = rw (reason_goal c (omega arith), more_goal c l b, fits_not ((c - 176) % 3) (value_at vs 0) (omega arith) d (λ q. e (q ∙ k.sort_is)))

-- ---- a term

pub make_is : (counts : List ℕ) (s : Sight) (k : ℕ) → Does (step counts (make k)) (make k) s (Make k)
unfolding done onto step
make_is counts s k gs vs n ts f e = choice (eqb n 0)
  where
    choice : (b : Bool) → cond b (stop Reason.terms ts) (go gs (made k vs) (n - 1) ts) ≡ onto gs
        (cond b (stop Reason.terms ts) (go [] (made k vs) (n - 1) ts))
    choice true = refl
    choice false = refl

-- the same move by an equal goal
pub moved : (counts : List ℕ) (g g' : Goal) (s : Sight) (m : Move) → g' ≡ g → Calls counts g s m → Calls counts g' s m
moved counts g g' s m e r = subst (λ (x : Goal). Calls counts x s m) (sym e) r
