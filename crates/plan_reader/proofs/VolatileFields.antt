-- The volatile fields, one by one. Assumes nothing.
use Prim.Native.Nat.{ℕ, zero, suc, ◌+◌, ◌-◌, ◌*◌, ◌^◌, ◌≤◌, ◌<◌}
use native.Mathlib.Omega.{arith}
use mathlib.Core.Path.{◌≡◌, refl, sym, ap, ◌∙◌}
use mathlib.Core.Bool.{Bool, true, false, ◌&&◌, true≢false}
use mathlib.Core.List.{List, [], ◌∷◌}
use lib.Dec.{ltb}
use lib.ListN.{length, get_or, drop, drop_of_length-le}
use lib.Seq.{drop-cons}
use lib.Pow.{pow_mono}
use borrow.Author.Tests.{ltb-true}
use Rattle.plan_notation.specs.Tokens.{text_end}
use Rattle.plan_parsing.specs.Parser.{ahead}
use Rattle.plan_parsing.specs.Plan.{mask_from, behind_fields}
use Rattle.plan_reader.specs.Inner.Reading.{is_next}

-- beyond the tokens is the text's end
pub beyond : (ts : List ℕ) (i : ℕ) → length ts ≤ i → ahead ts i ≡ text_end
beyond [] i h = refl
beyond (t ∷ ts) zero h = absurd (omega arith)
beyond (t ∷ ts) (suc i) h = beyond ts i (omega arith)

both : (a b : Bool) → (a && b) ≡ true → (a ≡ true) × (b ≡ true)
both true b e = (refl, e)
both false b e = absurd (true≢false (sym e))

pub next_is : (f t : ℕ) → is_next f t ≡ true → (f < t) × (t < 32)
unfolding is_next
next_is f t e = let q = both (ltb f t) (ltb t 32) e in (ltb-true f t q.0, ltb-true t 32 q.1)

-- what follows a field, and what ends them
mask_more : (m f t : ℕ) (ts : List ℕ) → is_next f t ≡ true → mask_from m f (t ∷ ts) ≡ mask_from (m + 2 ^ (31 - t)) t ts
unfolding mask_from is_next
mask_more m f t ts e = rw e

behind_more : (f t : ℕ) (ts : List ℕ) → is_next f t ≡ true → behind_fields f (t ∷ ts) ≡ behind_fields t ts
unfolding behind_fields is_next
behind_more f t ts e = rw e

mask_none : (m f t : ℕ) (ts : List ℕ) → is_next f t ≡ false → mask_from m f (t ∷ ts) ≡ m
unfolding mask_from is_next
mask_none m f t ts e = rw e

behind_none : (f t : ℕ) (ts : List ℕ) → is_next f t ≡ false → behind_fields f (t ∷ ts) ≡ t ∷ ts
unfolding behind_fields is_next
behind_none f t ts e = rw e

mask_end : (m f : ℕ) → mask_from m f [] ≡ m
unfolding mask_from
mask_end m f = refl

behind_end : (f : ℕ) → behind_fields f [] ≡ []
unfolding behind_fields
behind_end f = refl

-- where the loop stands
pub record Going (ts : List ℕ) (from mask last at : ℕ) : Type 0 where
  pub mask_same : mask_from mask last (drop at ts) ≡ mask_from (2 ^ 31) 0 (drop from ts)
  pub rest_same : behind_fields last (drop at ts) ≡ behind_fields 0 (drop from ts)
  pub inside : at ≤ length ts
  pub last_small : last < 32
  pub mask_small : mask ≤ 2147483648 * (last + 1)

pub starts : (ts : List ℕ) (from : ℕ) → from ≤ length ts → Going ts from 2147483648 0 from
starts ts from h = record { mask_same = refl; rest_same = refl; inside = h; last_small = omega arith; mask_small = omega arith }

module _ {ts : List ℕ} {from mask last at : ℕ} (g : Going ts from mask last at) where
  pub power_small : (t : ℕ) → 2 ^ (31 - t) ≤ 2147483648
  power_small t = pow_mono {i = 31 - t} {j = 31} (omega arith)

  -- at a token
  module _ (token : ℕ) (l : at < length ts) (t : token ≡ get_or ts at 0) where
    here : drop at ts ≡ token ∷ drop (suc at) ts
    here = drop-cons ts at 0 l ∙ ap (λ (x : ℕ). x ∷ drop (suc at) ts) (sym t)

    pub goes_on_lem : is_next last token ≡ true → Going ts from (mask + 2 ^ (31 - token)) token (at + 1)
    goes_on_lem e =
        let q = next_is last token e in
        let s = ap (λ (i : ℕ). drop i ts) (next at) in
        record {
          mask_same =
              ap (mask_from (mask + 2 ^ (31 - token)) token) s ∙ sym (mask_more mask last token (drop (suc at) ts) e) ∙ ap (mask_from mask last) (sym here)
              ∙ g.mask_same;
          rest_same = ap (behind_fields token) s ∙ sym (behind_more last token (drop (suc at) ts) e) ∙ ap (behind_fields last) (sym here) ∙ g.rest_same;
          inside = omega (arith, l);
          last_small = q.1;
          mask_small = bound mask (2 ^ (31 - token)) last token g.mask_small (power_small token) q.0;
        }
      where
        next : (at : ℕ) → at + 1 ≡ suc at
        next at = omega arith

        bound : (m p l t : ℕ) → m ≤ 2147483648 * (l + 1) → p ≤ 2147483648 → l < t → m + p ≤ 2147483648 * (t + 1)
        bound m p l t a b c = omega arith

    -- one that is no further field
    pub mask_is : is_next last token ≡ false → mask ≡ mask_from (2 ^ 31) 0 (drop from ts)
    mask_is e = sym (ap (mask_from mask last) here ∙ mask_none mask last token (drop (suc at) ts) e) ∙ g.mask_same

    pub rest_is : is_next last token ≡ false → drop at ts ≡ behind_fields 0 (drop from ts)
    rest_is e = here ∙ sym (ap (behind_fields last) here ∙ behind_none last token (drop (suc at) ts) e) ∙ g.rest_same

  -- at the end
  pub mask_at_end : length ts ≤ at → mask ≡ mask_from (2 ^ 31) 0 (drop from ts)
  mask_at_end h = sym (ap (mask_from mask last) (drop_of_length-le ts h) ∙ mask_end mask last) ∙ g.mask_same

  pub rest_at_end : length ts ≤ at → drop (length ts) ts ≡ behind_fields 0 (drop from ts)
  rest_at_end h =
      drop_of_length-le ts {i = length ts} (omega arith) ∙ sym (ap (behind_fields last) (drop_of_length-le ts h) ∙ behind_end last) ∙ g.rest_same
