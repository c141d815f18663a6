-- Tokens that are read as an operand: in parentheses, up to where it ends, and behind the words that begin a form. Assumes nothing.
use Prim.Native.Nat.{ℕ, ◌+◌, ◌*◌, ◌≤◌, ◌<◌}
use native.Mathlib.Decide.{dec_lt}
use native.Mathlib.Omega.{arith}
use mathlib.Core.Path.{◌≡◌, refl}
use mathlib.Core.Bool.{Bool, true, false, cond, ◌&&◌, and-false}
use mathlib.Core.List.{List, [], ◌∷◌, ◌++◌, append_assoc}
use lib.Dec.{eqb, ltb, leb}
use lib.ListN.{length}
use borrow.Author.Tests.{ltb-false, ne_eqb}
use Rattle.plan_packed.specs.Syntax.{Expression, Condition}
use Rattle.plan_notation.specs.Tokens.{and_word, opening, closing, dot, equals, becomes}
use Rattle.plan_notation.specs.Shown.{loose, testing, grouped, tight}
use Rattle.plan_parsing.specs.Goals.{Sort, either, expression, condition, Goal, expect, operand, more, Value, of_expression, of_condition}
use Rattle.plan_parsing.specs.Parser.{ahead, go, is_expression, is_condition, takes_condition, fits, inside, operand_step, more_step, step}
use Rattle.plan_parsing.proofs.Runs.{state, Leads, ◌thence◌, by_step, expects}

-- what may stand behind an operand that is shown at a place that asks for d: nothing that it could take for its own
pub record Follows (d : ℕ) (rest : List ℕ) : Type 0 where
  pub no_becomes : eqb (ahead rest 0) becomes ≡ false
  pub no_dot : d < 3 → eqb (ahead rest 0) dot ≡ false
  pub no_and : d < 1 → eqb (ahead rest 0) and_word ≡ false

-- at a place that asks for more, as much may follow
pub looser : (d d' : ℕ) (rest : List ℕ) → d ≤ d' → Follows d rest → Follows d' rest
looser d d' rest h f = record { no_becomes = f.no_becomes; no_dot = λ q. f.no_dot (omega arith); no_and = λ q. f.no_and (omega arith) }

-- the goals that an operand leaves room for, with its parentheses and without
abbrev pub within : ℕ
within = 8390

abbrev pub bare : ℕ
bare = 8392

-- k terms of n are made and m are left, where these goals and values leave room, r goals at most
abbrev pub Fits : ℕ → ℕ → List Goal → List Value → ℕ → ℕ → Type 0
Fits r k gs vs n m = (n ≡ k + m) × (length gs + 8 * k ≤ r) × (length vs + 3 * k ≤ 3090)

-- a value that can be in parentheses where a sort is asked for
abbrev pub Suits : Sort → Value → Type 0
Suits s v = fits (inside s) v ≡ true

-- tokens that are read as value v of k terms, at a place that asks for l or less, before whatever may follow
pub record Reads (counts : List ℕ) (r l : ℕ) (ts : List ℕ) (v : Value) (k : ℕ) : Type 0 where
  pub leads : (d : ℕ) (s : Sort) (gs : List Goal) (vs : List Value) (n m : ℕ) (rest : List ℕ) → d ≤ l → Suits s v → Follows l rest → Fits r k gs vs n m
      → Leads counts (state (operand d s ∷ gs) vs n (ts ++ rest)) (state (more d s ∷ gs) (v ∷ vs) m rest)

-- ---- sorts

suits_inside : (s : Sort) (v : Value) → fits (inside s) v ≡ true → fits (inside (inside s)) v ≡ true
unfolding inside fits
suits_inside either v h = h
suits_inside expression v h = h
suits_inside condition v h = h

pub suits_expression : (s : Sort) (e : Expression) → fits (inside s) (of_expression e) ≡ true
unfolding inside fits
suits_expression either e = refl
suits_expression expression e = refl
suits_expression condition e = refl

-- one condition for another
pub suits_another : (s : Sort) (c c' : Condition) → fits (inside s) (of_condition c) ≡ true → fits (inside s) (of_condition c') ≡ true
unfolding inside fits
suits_another either c c' h = h
suits_another expression c c' h = h
suits_another condition c c' h = h

pub takes_condition_lem : (s : Sort) (c : Condition) → fits (inside s) (of_condition c) ≡ true → takes_condition s ≡ true
unfolding inside fits takes_condition
takes_condition_lem either c h = refl
takes_condition_lem expression c h = h
takes_condition_lem condition c h = refl

-- ---- where an operand ends

-- before `)`, whatever it is
ends_closing : (d : ℕ) (s : Sort) (v : Value) (vs : List Value) (n : ℕ) (ts : List ℕ) → fits s v ≡ true
    → more_step d s (v ∷ vs) n (closing ∷ ts) ≡ go [] (v ∷ vs) n (closing ∷ ts)
unfolding more_step
ends_closing d s v vs n ts h = rw (and-false (is_expression v), and-false (is_condition v), h)

ends_expression : (d : ℕ) (e : Expression) (vs : List Value) (n : ℕ) (ts : List ℕ) → eqb (ahead ts 0) dot ≡ false
    → more_step d expression (of_expression e ∷ vs) n ts ≡ go [] (of_expression e ∷ vs) n ts
unfolding more_step
ends_expression d e vs n ts h = rw (h, and-false (true && eqb (ahead ts 0) equals && leb d testing))

ends_condition : (d : ℕ) (c : Condition) (vs : List Value) (n : ℕ) (ts : List ℕ) → (eqb (ahead ts 0) and_word && eqb d loose) ≡ false
    → more_step d condition (of_condition c ∷ vs) n ts ≡ go [] (of_condition c ∷ vs) n ts
unfolding more_step
ends_condition d c vs n ts h = rw h

-- a token of which no operand takes anything
pub follows_token : (t d : ℕ) (rest : List ℕ) → eqb t becomes ≡ false → eqb t dot ≡ false → eqb t and_word ≡ false → Follows d (t ∷ rest)
follows_token t d rest p q r = record { no_becomes = p; no_dot = λ h. q; no_and = λ h. r }

-- `.` follows what binds most tightly, `and` a test
pub follows_dot : (rest : List ℕ) → Follows tight (dot ∷ rest)
follows_dot rest = record { no_becomes = refl; no_dot = λ h. absurd (omega arith); no_and = λ h. refl }

pub follows_and : (rest : List ℕ) → Follows testing (and_word ∷ rest)
follows_and rest = record { no_becomes = refl; no_dot = λ h. refl; no_and = λ h. absurd (omega arith) }

module _ {counts : List ℕ} where
  -- an expression up to its end
  pub whole : {l : ℕ} {ts : List ℕ} {e : Expression} {k : ℕ} → Reads counts within l ts (of_expression e) k
      → (m : ℕ) {gs : List Goal} {vs : List Value} {n : ℕ} {rest : List ℕ} → l < 3 → Follows l rest → Fits within k gs vs n m
      → Leads counts (state (operand l expression ∷ gs) vs n (ts ++ rest)) (state gs (of_expression e ∷ vs) m rest)
  unfolding step
  whole {l} {ts} {e} {k} read m {gs} {vs} {n} {rest} h f room =
      read.leads l expression gs vs n m rest (omega arith) (suits_expression expression e) f room
      thence by_step [] (of_expression e ∷ vs) rest (ends_expression l e vs m rest (f.no_dot h)) (omega arith)

  -- a condition up to its end
  pub wholeᶜ : {l : ℕ} {ts : List ℕ} {c : Condition} {k : ℕ} → Reads counts within l ts (of_condition c) k
      → (m : ℕ) {gs : List Goal} {vs : List Value} {n : ℕ} {rest : List ℕ} → l < 3 → Follows l rest → Fits within k gs vs n m
      → Leads counts (state (operand l condition ∷ gs) vs n (ts ++ rest)) (state gs (of_condition c ∷ vs) m rest)
  unfolding step inside fits
  wholeᶜ {l} {ts} {c} {k} read m {gs} {vs} {n} {rest} h f room =
      read.leads l condition gs vs n m rest (omega arith) refl f room
      thence by_step [] (of_condition c ∷ vs) rest (ends_condition l c vs m rest (no_more (dec_lt 0 l))) (omega arith)
    where
      no_more : Dec (0 < l) → (eqb (ahead rest 0) and_word && eqb l loose) ≡ false
      no_more (yes p) = rw (ne_eqb l 0 (λ z. omega arith), and-false (eqb (ahead rest 0) and_word))
      no_more (no p) = rw (f.no_and (omega (arith, p)))

  -- "parentheses where needed"
  pub in_parentheses : (l d₁ : ℕ) {ts : List ℕ} {v : Value} {k : ℕ} → Reads counts bare l ts v k → Reads counts within d₁ (grouped d₁ l ts) v k
  unfolding grouped step operand_step
  in_parentheses l d₁ {ts} {v} {k} read = choose (ltb l d₁) refl
    where
      choose : (x : Bool) → ltb l d₁ ≡ x → Reads counts within d₁ (cond x (opening ∷ ts ++ (closing ∷ [])) ts) v k
      choose true z =
          record {
            leads = λ d s gs vs n m rest h su f room.
                rw append_assoc
                (by_step (operand loose (inside s) ∷ expect closing ∷ more d s ∷ []) vs (ts ++ (closing ∷ rest)) refl (omega arith)
                thence read.leads loose (inside s) (expect closing ∷ more d s ∷ gs) vs n m (closing ∷ rest) (omega arith) (suits_inside s v su)
                (follows_token closing l rest refl refl refl) (omega arith)
                thence by_step [] (v ∷ vs) (closing ∷ rest) (ends_closing loose (inside s) v vs m rest su) (omega arith)
                thence expects (omega arith));
          }
      choose false z =
          let y = ltb-false l d₁ z in
          record { leads = λ d s gs vs n m rest h su f room. read.leads d s gs vs n m rest (omega arith) su (looser d₁ l rest y f) (omega arith) }
