-- What the codes of a list tell are its values, and each is put above those before it. Assumes nothing.
use mathlib.Core.Path.{◌≡◌, refl, sym, ap, ◌∙◌}
use mathlib.Core.Bool.{Bool, true, false, cond, true≢false}
use mathlib.Core.List.{List}
use Prim.Native.Nat.{ℕ, zero, suc, ◌+◌, ◌-◌, ◌*◌, ◌/◌, ◌%◌, ◌^◌, ◌≤◌, ◌<◌}
use native.Mathlib.Nat.{add_comm, div-eq_of_lt, mod-eq_of_lt, lt_of_lt_of_le}
use native.Mathlib.Decide.{dec_lt}
use native.Mathlib.Omega.{arith}
use borrow.Author.Tests.{ltb-true, ltb-false, lt-ltb, le-ltb, ne_eqb}
use lib.Dec.{eqb, ltb}
use lib.Pow.{field, mod-mod-pow, pow-add, pow_mono, high, low}
use lib.Arith.{digits_lt}
use mathlib.Core.Logic.{◌⊎◌, inl, inr}
use Rattle.plan_packed.specs.Inner.Operands.{tag_of, first_of, slot_bits}
use Rattle.run_term_words.specs.Inner.Slots.{slot_of, bind_of}
use Rattle.run_term_words.specs.Inner.Words.{word_at, value_by, value_of}
use Rattle.run_lists.specs.Inner.Lists.{code_by, value_in, valued_at, code_at, next_at, one_at, codes_from, rest_from, count_from, values_of}
use Rattle.run_lists.proofs.Digits.{value_below}
use Rattle.run_lists.proofs.Tells.{code_below}

-- past all slots there is nothing
null_value : (e : ℕ) → value_in e 40 ≡ 0
unfolding value_in
null_value e = omega arith

-- the first 40 bits have the eight slots
slot_value : (e s : ℕ) → s < 8 → value_in e (s * 5) ≡ e / 2 ^ (s * 5) % 32
unfolding value_in
slot_value e s h =
    let p : (40 - s * 5) + s * 5 ≡ 40 = omega (arith, h) in
    let q : (35 - s * 5) + 5 ≡ 40 - s * 5 = omega (arith, h) in
    let f : e % 2 ^ 40 / 2 ^ (s * 5) ≡ e / 2 ^ (s * 5) % 2 ^ (40 - s * 5) = rw p at (field e (40 - s * 5) (s * 5)) in
    let m : e / 2 ^ (s * 5) % 2 ^ (40 - s * 5) % 32 ≡ e / 2 ^ (s * 5) % 32 = rw q at (mod-mod-pow (e / 2 ^ (s * 5)) (35 - s * 5) 5) in
    ap (λ (n : ℕ). n % 32) f ∙ m

variable_value : (e s : ℕ) → slot_of e s ≡ value_in e (cond (ltb s 8) (s * 5) 40)
unfolding slot_of
variable_value e s = by (dec_lt s 8)
  where
    by : Dec (s < 8) → slot_of e s ≡ value_in e (cond (ltb s 8) (s * 5) 40)
    by (yes h) = rw (lt-ltb s 8 h) (sym (slot_value e s h))
    by (no h) = let l : 8 ≤ s = omega arith in rw (le-ltb s 8 l) (sym (null_value e))

-- the value of a word that has one is what its code tells
by_code : (e w : ℕ) → tag_of w < 2 → value_by e w ≡ value_in e (code_by w)
unfolding value_by code_by
by_code e w h = by (dec_lt (tag_of w) 1)
  where
    by : Dec (tag_of w < 1) → value_by e w ≡ value_in e (code_by w)
    by (yes l) = let z : tag_of w ≡ 0 = omega arith in rw z (sym (null_value e))
    by (no l) = let o : tag_of w ≡ 1 = omega (arith, h) in rw o (variable_value e (slot_bits w))

no_value : (e w : ℕ) → 2 ≤ tag_of w → value_by e w ≡ 32
unfolding value_by
no_value e w h =
    let a : tag_of w ≡ 0 → ⊥ = λ z. omega arith in
    let b : tag_of w ≡ 1 → ⊥ = λ z. omega arith in rw (ne_eqb _ 0 a, ne_eqb _ 1 b)

-- a value above those that are there
pub bound_above : (a i v : ℕ) → i < 8 → a < 2 ^ (i * 5) → v < 32 → bind_of a i v ≡ a + v * 2 ^ (i * 5)
unfolding bind_of
bound_above a i v h l k =
    let s : a < 2 ^ 40 = lt_of_lt_of_le l (pow_mono {i = i * 5} {j = 40} (omega (arith, h))) in
    let d : a % 1099511627776 ≡ a = mod-eq_of_lt s in
    let z : a / 2 ^ (i * 5) ≡ 0 = div-eq_of_lt l in
    let m : v % 32 ≡ v = omega (arith, k) in rw (lt-ltb i 8 h, d, z, m) (omega arith)

module _ (ws : List ℕ) (t : ℕ) where
  abbrev word : ℕ
  word = word_at ws t

  abbrev operand : ℕ
  operand = word_at ws (first_of (word_at ws t))

  -- what comes next in a list that has a value next is what its code tells; in another it is none
  pub next_valued : (e : ℕ) → valued_at ws t ≡ true → cond (eqb (tag_of word) 16) (value_of ws e (first_of word)) 32 ≡ value_in e (code_at ws t)
  unfolding valued_at code_at value_of
  next_valued e h = by (eqb (tag_of word) 16) (ltb (tag_of operand) 2) refl h
    where
      by : (b d : Bool) → ltb (tag_of operand) 2 ≡ d → cond b d false ≡ true → cond b (value_by e operand) 32 ≡ value_in e (cond (cond b d false)
          (code_by operand) 40)
      by true true q k = by_code e operand (ltb-true _ _ q)
      by true false q k = absurd (true≢false (sym k))
      by false d q k = absurd (true≢false (sym k))

  pub next_none : (e : ℕ) → valued_at ws t ≡ false → cond (eqb (tag_of word) 16) (value_of ws e (first_of word)) 32 ≡ 32
  unfolding valued_at value_of
  next_none e h = by (eqb (tag_of word) 16) (ltb (tag_of operand) 2) refl h
    where
      by : (b d : Bool) → ltb (tag_of operand) 2 ≡ d → cond b d false ≡ false → cond b (value_by e operand) 32 ≡ 32
      by true true q k = absurd (true≢false k)
      by true false q k = no_value e operand (ltb-false _ _ q)
      by false d q k = refl

  -- a list that ends has no value next
  pub ended_none : eqb (tag_of word) 16 ≡ false → valued_at ws t ≡ false
  unfolding valued_at
  ended_none h = rw h

  -- one value more
  pub values_more : (k e x : ℕ) → values_of (suc k) e (codes_from (suc k) ws t x)
      ≡ value_in e (code_at ws t) + values_of k e (codes_from k ws (next_at ws t) x) * 32
  unfolding values_of codes_from
  values_more k e x =
      let c = code_at ws t in
      let y = codes_from k ws (next_at ws t) x in
      let d : (c + y * 64) / 64 ≡ y = rw (add_comm c (y * 64)) (high y 6 (code_below ws t)) in
      let m : (c + y * 64) % 64 ≡ c = rw (add_comm c (y * 64)) (low y 6 (code_below ws t)) in rw (d, m)

  -- from a list that has none next
  module _ (h : valued_at ws t ≡ false) where
    stays : next_at ws t ≡ t
    unfolding next_at
    stays = rw h

    pub no_rest : (k : ℕ) → rest_from k ws t ≡ t
    unfolding rest_from
    no_rest zero = refl
    no_rest (suc k) = ap (rest_from k ws) stays ∙ no_rest k

    pub no_count : (k : ℕ) → count_from k ws t ≡ 0
    unfolding count_from one_at
    no_count zero = refl
    no_count (suc k) = rw h (ap (λ (n : ℕ). 0 + n) (ap (count_from k ws) stays ∙ no_count k))

    pub no_values : (k e x : ℕ) → values_of k e (codes_from k ws t x) ≡ 0
    unfolding values_of
    no_values zero e x = refl
    no_values (suc k) e x =
        let z : value_in e (code_at ws t) ≡ 0 = unfold code_at in rw h (null_value e) in
        let r : values_of k e (codes_from k ws (next_at ws t) x) ≡ 0 = rw stays (no_values k e x) in
        values_more k e x ∙ rw (z, r)

-- as many values have room in as many slots
pub values_lt : (k : ℕ) (ws : List ℕ) (t e x : ℕ) → values_of k e (codes_from k ws t x) < 2 ^ (count_from k ws t * 5)
unfolding values_of count_from
values_lt zero ws t e x = omega arith
values_lt (suc k) ws t e x = by (values_lt k ws (next_at ws t) e x) (valued_at ws t) refl
  where
    by : values_of k e (codes_from k ws (next_at ws t) x) < 2 ^ (count_from k ws (next_at ws t) * 5) → (b : Bool) → valued_at ws t ≡ b
        → values_of (suc k) e (codes_from (suc k) ws t x) < 2 ^ (count_from (suc k) ws t * 5)
    by r true q =
        let n : count_from (suc k) ws t * 5 ≡ count_from k ws (next_at ws t) * 5 + 5 = unfold one_at in rw q (omega arith) in
        rw (
          values_more ws t k e x,
          n,
          add_comm (value_in e (code_at ws t)) (values_of k e (codes_from k ws (next_at ws t) x) * 32),
          pow-add 2 (count_from k ws (next_at ws t) * 5) 5,
        ) (digits_lt r (value_below e (code_at ws t)))
    by r false q = rw (no_values ws t q (suc k) e x, no_count ws t q (suc k)) (omega arith)

-- a term wraps past 1,023
module _ (ws : List ℕ) where
  word_wraps : (t : ℕ) → word_at ws (t % 1024) ≡ word_at ws t
  unfolding word_at
  word_wraps t = let q : t % 1024 % 1024 ≡ t % 1024 = omega arith in rw q

  valued_wraps : (t : ℕ) → valued_at ws (t % 1024) ≡ valued_at ws t
  unfolding valued_at
  valued_wraps t = rw (word_wraps t)

  code_wraps : (t : ℕ) → code_at ws (t % 1024) ≡ code_at ws t
  unfolding code_at
  code_wraps t = rw (valued_wraps t, word_wraps t)

  one_wraps : (t : ℕ) → one_at ws (t % 1024) ≡ one_at ws t
  unfolding one_at
  one_wraps t = rw (valued_wraps t)

  -- so does the list behind a value, or there is none
  next_wraps : (t : ℕ) → (next_at ws (t % 1024) ≡ next_at ws t) ⊎ ((next_at ws (t % 1024) ≡ t % 1024) × (next_at ws t ≡ t))
  unfolding next_at
  next_wraps t = by (valued_at ws t) refl
    where
      by : (b : Bool) → valued_at ws t ≡ b → (next_at ws (t % 1024) ≡ next_at ws t) ⊎ ((next_at ws (t % 1024) ≡ t % 1024) × (next_at ws t ≡ t))
      by true q = inl (rw (valued_wraps t, q, word_wraps t))
      by false q = inr (rw (valued_wraps t, q), rw q)

  pub codes_wrap : (k t x : ℕ) → (codes_from k ws (t % 1024) x ≡ codes_from k ws t x) × (count_from k ws (t % 1024) ≡ count_from k ws t)
      × (word_at ws (rest_from k ws (t % 1024)) ≡ word_at ws (rest_from k ws t))
  unfolding codes_from count_from rest_from
  codes_wrap zero t x = (refl, refl, word_wraps t)
  codes_wrap (suc k) t x = by (codes_wrap k t x) (next_wraps t)
    where
      by : ((codes_from k ws (t % 1024) x ≡ codes_from k ws t x) × (count_from k ws (t % 1024) ≡ count_from k ws t)
          × (word_at ws (rest_from k ws (t % 1024)) ≡ word_at ws (rest_from k ws t)))
          → (next_at ws (t % 1024) ≡ next_at ws t) ⊎ ((next_at ws (t % 1024) ≡ t % 1024) × (next_at ws t ≡ t))
          → (codes_from (suc k) ws (t % 1024) x ≡ codes_from (suc k) ws t x) × (count_from (suc k) ws (t % 1024) ≡ count_from (suc k) ws t)
          × (word_at ws (rest_from (suc k) ws (t % 1024)) ≡ word_at ws (rest_from (suc k) ws t))
      by r (inl q) = (rw (code_wraps t, q), rw (one_wraps t, q), rw q)
      by r (inr (q, p)) = (rw (code_wraps t, q, p, r.0), rw (one_wraps t, q, p, r.1), rw (q, p, r.2))
