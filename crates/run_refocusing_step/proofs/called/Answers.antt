-- `called` meets its contract. Assumes nothing.
use mathlib.Core.Path.{◌≡◌, refl, sym, ap, ◌∙◌}
use mathlib.Core.Bool.{Bool, true, false, cond}
use mathlib.Core.List.{List}
use Prim.Native.Nat.{ℕ, ◌+◌, ◌-◌, ◌*◌, ◌/◌, ◌%◌, ◌^◌, ◌<◌, ◌≤◌}
use native.Mathlib.Nat.{lt_of_lt_of_le}
use native.Mathlib.Omega.{arith}
use borrow.Author.Tests.{ne_eqb}
use lib.Dec.{eqb}
use lib.Pow.{pow_mono, shl_lt, shl_exact}
use Rattle.run_frames.specs.declared.frame.Frame.{Frame}
use Rattle.plan_packed.specs.Inner.Operands.{tag_of}
use Rattle.run_term_words.specs.Inner.Words.{word_at}
use Rattle.run_lists.specs.Inner.Lists.{codes_from, rest_from, count_from, head_of, told_of, values_of}
use Rattle.run_lists.proofs.Tells.{told_count}
use Rattle.run_lists.proofs.Coded.{values_lt, codes_wrap}
use Rattle.run_refocusing_step.specs.declared.Through.{Through}
use Rattle.run_refocusing_step.specs.Inner.Ahead.{called_of}
use Rattle.run_refocusing_step.specs.Inner.Down.{call_of}
use Rattle.run_refocusing_step.proofs.Told.{over, gathers_told}
use borrow.Author.Rules.{rules}
use Rattle.run_refocusing_step.proofs.called.Goals as goal

-- a count under 15 is one
counts : (b : Bool) (m : ℕ) → cond b 15 m ≤ 8 → (b ≡ false) × (cond b 15 m ≡ m)
counts true m h = absurd (omega arith)
counts false m h = (refl, refl)

-- a frame whose list is told by t, of n values that fit
module _ (ws rs : List ℕ) (f : Frame) (t n left : ℕ) (e : t ≡ told_of ws (f.first % 1024)) (q : n ≡ t / 281474976710656 % 16)
    (l : n < left) (c : f.count + n ≤ 8) (a : f.arguments < 2 ^ (f.count * 5)) where
  abbrev head : ℕ
  head = head_of ws (f.first % 1024)

  codes : t ≡ codes_from 8 ws f.first head
  unfolding told_of
  codes = e ∙ (codes_wrap ws 8 f.first head).0

  number : n ≡ cond (eqb (tag_of (word_at ws (rest_from 8 ws f.first))) 16) 15 (count_from 8 ws f.first)
  number =
      let w = codes_wrap ws 8 f.first head in
      q ∙ ap (λ (x : ℕ). x / 281474976710656 % 16) e ∙ told_count ws (f.first % 1024) ∙ rw (w.2, w.1)

  whole : (eqb (tag_of (word_at ws (rest_from 8 ws f.first))) 16 ≡ false)
      × (cond (eqb (tag_of (word_at ws (rest_from 8 ws f.first))) 16) 15 (count_from 8 ws f.first) ≡ count_from 8 ws f.first)
  whole = counts _ _ (omega (arith, c, number))

  all : n ≡ count_from 8 ws f.first
  all = number ∙ whole.1

  low : values_of 8 f.environment t < 2 ^ (n * 5)
  low = rw (codes, all) (values_lt 8 ws f.first f.environment head)

  exact : (values_of 8 f.environment t * 2 ^ (f.count * 5)) % 2 ^ 64 ≡ values_of 8 f.environment t * 2 ^ (f.count * 5)
  exact = shl_exact (n * 5) (f.count * 5) 64 low (omega (arith, c))

  few : values_of 8 f.environment t * 2 ^ (f.count * 5) < 2 ^ 40
  few = lt_of_lt_of_le (shl_lt (n * 5) (f.count * 5) low) (pow_mono {i = n * 5 + f.count * 5} {j = 40} (omega (arith, c)))

  slots : f.arguments < 2 ^ 40
  slots = lt_of_lt_of_le a (pow_mono {i = f.count * 5} {j = 40} (omega (arith, c)))

  gathers : called_of ws rs left f ≡ record { left = left - n; go = call_of rs f (f.arguments + values_of 8 f.environment t * 2 ^ (f.count * 5)) }
  gathers =
      gathers_told ws rs 8 head left f (whole.0, rw (← all) l, rw (← all) c, a)
      ∙ ap (λ (m : ℕ). record {
        left = left - m;
        go = call_of rs f (f.arguments + values_of 8 f.environment (codes_from 8 ws f.first head) * 2 ^ (f.count * 5));
      }) (sym all)
      ∙ ap (λ (x : ℕ). record { left = left - n; go = call_of rs f (f.arguments + values_of 8 f.environment x * 2 ^ (f.count * 5)) }) (sym codes)

pub overflow_mul-more : goal.overflow_mul-more
overflow_mul-more c = record { fits = omega (arith, c.fits.ensures c.if-fits.true) }

pub overflow_shl-more : goal.overflow_shl-more
overflow_shl-more c = omega (arith, c.fits.ensures c.if-fits.true)

pub overflow_sub-result : goal.overflow_sub-result
overflow_sub-result c = omega (arith, c.fits.ensures c.if-fits.true)

pub overflow_add-frame : goal.overflow_add-frame
overflow_add-frame c =
    let s = c.args in
    let h = c.fits.ensures c.if-fits.true in
    let t = c.told-told in
    let n = c.count_of-count in
    let x = exact s.words.now s.roots.now s.frame t.result n.result s.left t.ensures.0 n.ensures h.0 h.1 h.2 in
    let y = few s.words.now s.roots.now s.frame t.result n.result s.left t.ensures.0 n.ensures h.0 h.1 h.2 in
    let z = slots s.words.now s.roots.now s.frame t.result n.result s.left t.ensures.0 n.ensures h.0 h.1 h.2 in
    record { fits = rw (c.values.ensures, x) (omega (arith, y, z)) }

pub returns-then-fits : goal.returns-then-fits
returns-then-fits c =
    let s = c.args in
    let h = c.fits.ensures c.if-fits.true in
    let t = c.told-told in
    let n = c.count_of-count in
    let x = exact s.words.now s.roots.now s.frame t.result n.result s.left t.ensures.0 n.ensures h.0 h.1 h.2 in
    let g = gathers s.words.now s.roots.now s.frame t.result n.result s.left t.ensures.0 n.ensures h.0 h.1 h.2 in
    (rw (c.call.ensures, c.values.ensures, x) (sym g), t.ensures.1)

pub returns : goal.returns
returns c =
    let e : eqb (tag_of (word_at c.args.words.now c.args.frame.first)) 16 ≡ false =
    rw (← c.word.ensures, ← c.tag.ensures) (ne_eqb _ _ c.if-tag-eq-LIST.false) in
    (rw c.call-2.ensures (sym (over c.args.words.now c.args.roots.now c.args.left c.args.frame c.requires.0 e)), c.requires.1)
