-- The class of a byte says what the lexer asks of the byte: each by a test of all 256. Assumes nothing.
use Prim.Native.Nat.{ℕ, ◌<◌}
use native.Mathlib.Omega.{arith}
use mathlib.Core.Path.{◌≡◌, refl, ap, sym, ◌∙◌}
use mathlib.Core.Bool.{Bool, true, false, cond, ◌||◌}
use mathlib.Core.List.{List, [], ◌∷◌}
use lib.Dec.{eqb, ltb}
use borrow.Author.Tests.{lt-ltb, le-ltb, ne_eqb}
use Rattle.format.specs.Refusal.{lowest}
use Rattle.plan_notation.specs.Lexing.{Token, token, Begun, nothing, comment, name, colon, is_blank, digit_of, mark_of, begins, alone}
use Rattle.plan_notation.proofs.Tested.{equated}
use Rattle.plan_scanner.specs.Inner.Classes.{class_of}

-- a test as a number
bit : Bool → ℕ
bit true = 1
bit false = 0

same : (x y : Bool) → bit x ≡ bit y → x ≡ y
unfolding bit
same true true e = refl
same true false e = absurd (omega arith)
same false true e = absurd (omega arith)
same false false e = refl

-- a blank, `#`, `:` or a digit, which are no token by themselves
no_mark : ℕ → Bool
no_mark c = is_blank c || eqb c 35 || eqb c 58 || ltb 0 (digit_of c)

-- the class of a colon, for each class that is told from it by a test
colon_or : ℕ → ℕ
colon_or k = cond (ltb k 38) 38 (cond (ltb k 62) (cond (eqb k 39) 38 k) 38)

told : (k : ℕ) → 37 < k → k < 62 → (k ≡ 39 → ⊥) → colon_or k ≡ 38 → k ≡ 38
unfolding colon_or
told k a b n e = simp (le-ltb k 38 (omega arith), lt-ltb k 62 b, ne_eqb k 39 n) at e

-- what a byte of class k at place i begins
unfoldable pub begins_by : ℕ → ℕ → Begun
begins_by i k = cond (eqb k 37) comment (cond (eqb k 38) (colon i) (cond (ltb k 37) (name i k) nothing))

-- the token that it is by itself
unfoldable pub alone_by : ℕ → ℕ → List Token
alone_by i k = cond (ltb k 62) [] (token k i ∷ [])

module _ (c : ℕ) (h : c < 256) where
  pub is_digit_lem : ltb 0 (digit_of c) ≡ ltb (class_of c) 37
  unfolding bit class_of lowest
  is_digit_lem = same (ltb 0 (digit_of c)) (ltb (class_of c) 37) (equated (λ (k : ℕ). bit (ltb 0 (digit_of k))) (λ (k : ℕ). bit (ltb (class_of k) 37)) 256 refl c h)

  is_hash : eqb c 35 ≡ eqb (class_of c) 37
  unfolding bit class_of lowest
  is_hash = same (eqb c 35) (eqb (class_of c) 37) (equated (λ (k : ℕ). bit (eqb k 35)) (λ (k : ℕ). bit (eqb (class_of k) 37)) 256 refl c h)

  is_colon : eqb c 58 ≡ eqb (class_of c) 38
  unfolding bit class_of lowest
  is_colon = same (eqb c 58) (eqb (class_of c) 38) (equated (λ (k : ℕ). bit (eqb k 58)) (λ (k : ℕ). bit (eqb (class_of k) 38)) 256 refl c h)

  no_mark_lem : no_mark c ≡ ltb (class_of c) 62
  unfolding bit no_mark class_of lowest
  no_mark_lem = same (no_mark c) (ltb (class_of c) 62) (equated (λ (k : ℕ). bit (no_mark k)) (λ (k : ℕ). bit (ltb (class_of k) 62)) 256 refl c h)

  pub the_digit : ltb (class_of c) 37 ≡ true → digit_of c ≡ class_of c
  unfolding class_of lowest
  the_digit e =
      sym (ap (λ (b : Bool). cond b (digit_of c) (class_of c)) e)
      ∙ equated (λ (k : ℕ). cond (ltb (class_of k) 37) (digit_of k) (class_of k)) class_of 256 refl c h

  the_mark : ltb (class_of c) 62 ≡ false → mark_of c ≡ class_of c
  unfolding class_of lowest
  the_mark e =
      sym (ap (λ (b : Bool). cond b (class_of c) (mark_of c)) e)
      ∙ equated (λ (k : ℕ). cond (ltb (class_of k) 62) (class_of k) (mark_of k)) class_of 256 refl c h

  -- what is neither a digit, nor `#`, nor a blank, nor a token by itself
  pub the_colon : 37 < class_of c → class_of c < 62 → (class_of c ≡ 39 → ⊥) → class_of c ≡ 38
  unfolding class_of colon_or lowest
  the_colon a b n = told (class_of c) a b n (equated (λ (k : ℕ). colon_or (class_of k)) (λ (k : ℕ). 38) 256 refl c h)

  -- what the byte begins
  named : (i : ℕ) (b : Bool) → ltb (class_of c) 37 ≡ b → cond b (name i (class_of c)) nothing ≡ cond b (name i (digit_of c)) nothing
  named i true e = ap (name i) (sym (the_digit e))
  named i false e = refl

  pub begins_by_lem : (i : ℕ) → begins_by i (class_of c) ≡ begins i c
  unfolding begins_by begins
  begins_by_lem i = rw (is_hash, is_colon, is_digit_lem, named i (ltb (class_of c) 37) refl)

  -- the token that it is by itself
  marked : (i : ℕ) (b : Bool) → ltb (class_of c) 62 ≡ b → cond b [] (token (class_of c) i ∷ []) ≡ cond b [] (token (mark_of c) i ∷ [])
  marked i true e = refl
  marked i false e = ap (λ (t : ℕ). token t i ∷ []) (sym (the_mark e))

  pub alone_by_lem : (i : ℕ) → alone_by i (class_of c) ≡ alone i c
  unfolding alone_by alone no_mark
  alone_by_lem i = marked i (ltb (class_of c) 62) refl ∙ ap (λ (b : Bool). cond b [] (token (mark_of c) i ∷ [])) (sym no_mark_lem)
