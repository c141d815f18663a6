-- What is read off a list's number: the list, and how many values it has. Assumes nothing.
use mathlib.Core.Path.{◌≡◌, sym, ap, ◌∙◌}
use mathlib.Core.Bool.{Bool, true, false, cond}
use mathlib.Core.List.{List}
use Prim.Native.Nat.{ℕ, zero, suc, ◌+◌, ◌*◌, ◌/◌, ◌%◌, ◌^◌, ◌≤◌, ◌<◌}
use native.Mathlib.Nat.{add_comm}
use native.Mathlib.Decide.{dec_lt, ℕ_discrete}
use native.Mathlib.Omega.{arith}
use borrow.Author.Tests.{lt-ltb, le-ltb}
use lib.Dec.{eqb, ltb}
use lib.ListN.{get_or, set, length-set}
use lib.Seq.{get_or-set_same, get_or-set_other}
use lib.Pow.{high, shr-shr}
use Rattle.plan_packed.specs.Inner.Operands.{tag_of, first_of, slot_bits}
use Rattle.run_term_words.specs.Inner.Words.{word_at}
use Rattle.run_lists.specs.Inner.Lists.{code_by, valued_at, code_at, next_at, one_at, codes_from, rest_from, count_from, head_by, head_of, told_of, Right}

either : (b : Bool) (x y n : ℕ) → x < n → y < n → cond b x y < n
either true x y n h l = h
either false x y n h l = l

slot_code : (s : ℕ) → cond (ltb s 8) (s * 5) 40 < 64
slot_code s = by (dec_lt s 8)
  where
    by : Dec (s < 8) → cond (ltb s 8) (s * 5) 40 < 64
    by (yes h) = rw (lt-ltb s 8 h) (omega (arith, h))
    by (no h) = let l : 8 ≤ s = omega arith in rw (le-ltb s 8 l) (omega arith)

pub code_below : (ws : List ℕ) (t : ℕ) → code_at ws t < 64
unfolding code_at code_by
code_below ws t =
    let o = word_at ws (first_of (word_at ws t)) in
    either (valued_at ws t) _ 40 64 (either (eqb (tag_of o) 1) _ 40 64 (slot_code (slot_bits o)) (omega arith)) (omega arith)

one_le : (ws : List ℕ) (t : ℕ) → one_at ws t < 2
unfolding one_at
one_le ws t = either (valued_at ws t) 1 0 2 (omega arith) (omega arith)

pub count_le : (k : ℕ) (ws : List ℕ) (t : ℕ) → count_from k ws t ≤ k
unfolding count_from
count_le zero ws t = omega arith
count_le (suc k) ws t = omega (arith, one_le ws t, count_le k ws (next_at ws t))

-- what is above the codes
codes_above : (k : ℕ) (ws : List ℕ) (t x : ℕ) → codes_from k ws t x / 2 ^ (k * 6) ≡ x
unfolding codes_from
codes_above zero ws t x = omega arith
codes_above (suc k) ws t x =
    let y = codes_from k ws (next_at ws t) x in
    let q : suc k * 6 ≡ 6 + k * 6 = omega arith in
    let d : (code_at ws t + y * 64) / 2 ^ 6 ≡ y = rw (add_comm (code_at ws t) (y * 64)) (high y 6 (code_below ws t)) in
    rw q (sym (shr-shr (code_at ws t + y * 64) 6 (k * 6)) ∙ ap (λ (n : ℕ). n / 2 ^ (k * 6)) d ∙ codes_above k ws (next_at ws t) x)

pub told_head : (ws : List ℕ) (l : ℕ) → told_of ws l / 281474976710656 ≡ head_of ws l
unfolding told_of
told_head ws l = codes_above 8 ws l (head_of ws l)

count_below_lem : (ws : List ℕ) (l : ℕ) → cond (eqb (tag_of (word_at ws (rest_from 8 ws l))) 16) 15 (count_from 8 ws l) < 16
count_below_lem ws l = either (eqb (tag_of (word_at ws (rest_from 8 ws l))) 16) 15 (count_from 8 ws l) 16 (omega arith) (omega (arith, count_le 8 ws l))

pub told_count : (ws : List ℕ) (l : ℕ) → told_of ws l / 281474976710656 % 16 ≡ cond (eqb (tag_of (word_at ws (rest_from 8 ws l))) 16) 15 (count_from 8 ws l)
unfolding head_by
told_count ws l = rw (told_head ws l) (omega (arith, count_below_lem ws l))

pub told_list : (ws : List ℕ) (l : ℕ) → told_of ws l / 4503599627370496 ≡ l + 1
unfolding head_by
told_list ws l = sym (shr-shr (told_of ws l) 48 4) ∙ ap (λ (n : ℕ). n / 16) (told_head ws l) ∙ omega (arith, count_below_lem ws l)

-- a kept number more
module _ (ws ls : List ℕ) (l : ℕ) (h : l < 1024) (r : Right ws ls) where
  abbrev put : List ℕ
  put = set ls (l % 32) (told_of ws l)

  same : get_or put (l % 32) 0 ≡ told_of ws l
  same = let n = r.0 in get_or-set_same ls (l % 32) (told_of ws l) 0 (omega (arith, n))

  at : (m : ℕ) → m < 1024 → Dec (m % 32 ≡ l % 32) → get_or put (m % 32) 0 / 4503599627370496 ≡ m + 1 → get_or put (m % 32) 0 ≡ told_of ws m
  at m k (yes e) q =
      let s : get_or put (m % 32) 0 ≡ told_of ws l = ap (λ (i : ℕ). get_or put i 0) e ∙ same in
      let t : l + 1 ≡ m + 1 = sym (told_list ws l) ∙ ap (λ (n : ℕ). n / 4503599627370496) (sym s) ∙ q in
      let u : l ≡ m = omega (arith, t) in s ∙ ap (told_of ws) u
  at m k (no e) q =
      let s : get_or put (m % 32) 0 ≡ get_or ls (m % 32) 0 = get_or-set_other ls (l % 32) (m % 32) (told_of ws l) 0 e in
      s ∙ r.1 m k (ap (λ (n : ℕ). n / 4503599627370496) (sym s) ∙ q)

  pub put_right : Right ws (set ls (l % 32) (told_of ws l))
  put_right = (rw length-set r.0, λ m k q. at m k (ℕ_discrete (m % 32) (l % 32)) q)
