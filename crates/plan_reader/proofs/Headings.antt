-- The version and the volatile fields, read. Assumes nothing.
use Prim.Native.Nat.{ℕ, ◌+◌, ◌^◌, ◌≤◌, ◌<◌}
use native.Mathlib.Decide.{dec_lt}
use native.Mathlib.Omega.{arith}
use mathlib.Core.Path.{◌≡◌, refl, sym, ap, ap₂, ◌∙◌}
use mathlib.Core.List.{List}
use lib.ListN.{length, drop}
use lib.Seq.{get_or-drop, drop-drop}
use borrow.Author.Tests.{ne_eqb, lt-ltb, le-ltb}
use Rattle.plan_notation.specs.Tokens.{version_word, volatile_word, text_end}
use Rattle.plan_parsing.specs.Parser.{ahead}
use Rattle.plan_parsing.specs.Plan.{counts_of, procedures_by, mask_from, behind_fields, with_volatiles, read_plan}
use Rattle.plan_reader.specs.declared.Heading.{Heading}
use Rattle.plan_reader.specs.Inner.Reading.{none, Fielded, Marked, Headed}
use Rattle.plan_reader.proofs.VolatileFields.{beyond}

-- fields that are not named, and fields that are
unnamed : (counts : List ℕ) (v : ℕ) (ts : List ℕ) → (ahead ts 0 ≡ volatile_word → ⊥)
    → with_volatiles counts v ts ≡ procedures_by counts 32 0 (none v (2 ^ 31)) 1024 ts
unfolding with_volatiles
unnamed counts v ts n = rw (ne_eqb (ahead ts 0) volatile_word n)

named : (counts : List ℕ) (v : ℕ) (ts : List ℕ) → ahead ts 0 ≡ volatile_word
    → with_volatiles counts v ts ≡ procedures_by counts 32 0 (none v (mask_from (2 ^ 31) 0 (drop 1 ts))) 1024 (behind_fields 0 (drop 1 ts))
unfolding with_volatiles
named counts v ts e = rw e

module _ (ts : List ℕ) where
  -- the next token of those from one on
  pub here : (i : ℕ) → ahead (drop i ts) 0 ≡ ahead ts i
  here i = get_or-drop i ts 0 text_end ∙ ap (ahead ts) (whole i)
    where
      whole : (i : ℕ) → i + 0 ≡ i
      whole i = omega arith

  -- a token that is not the text's end
  pub present : (i t : ℕ) → t ≡ ahead ts i → t < 69 → i < length ts
  present i t e h = go (dec_lt i (length ts))
    where
      go : Dec (i < length ts) → i < length ts
      go (yes l) = l
      go (no n) = absurd (omega (arith, e, beyond ts i (omega (arith, n)), h))

  pub marked_none : (v from : ℕ) → (ahead ts from ≡ volatile_word → ⊥) → from ≤ length ts
      → Marked ts v from (record { version = v; mask = 2147483648; at = from })
  marked_none v from n h = record { version_is = refl; behind = λ counts. go counts; inside = h }
    where
      go : (counts : List ℕ) → with_volatiles counts v (drop from ts) ≡ procedures_by counts 32 0 (none v 2147483648) 1024 (drop from ts)
      go counts = unnamed counts v (drop from ts) (λ e. n (sym (here from) ∙ e))

  pub marked_some : (v from : ℕ) (h : Heading) → ahead ts from ≡ volatile_word → Fielded ts (from + 1) h → h.version ≡ v → Marked ts v from h
  marked_some v from h e f g =
      record {
        version_is = g;
        behind = λ counts.
            named counts v (drop from ts) (here from ∙ e)
            ∙ ap₂ (λ (m : ℕ) (l : List ℕ). procedures_by counts 32 0 (none v m) 1024 l)
            (ap (mask_from (2 ^ 31) 0) (drop-drop 1 from ts) ∙ sym f.mask_is) (ap (behind_fields 0) (drop-drop 1 from ts) ∙ sym f.rest_is);
        inside = f.inside;
      }

  -- ---- the version

  pub headed_without : (h : Heading) → (ahead ts 0 ≡ version_word → ⊥) → Marked ts 1 0 h → Headed ts h
  unfolding read_plan
  headed_without h n m =
      record {
        known =
            λ l. rw (ne_eqb (ahead ts 0) version_word n)
            (m.behind (counts_of ts) ∙ ap (λ (v : ℕ). procedures_by (counts_of ts) 32 0 (none v h.mask) 1024 (drop h.at ts)) (sym m.version_is));
        unknown = λ l. absurd (omega (arith, l, m.version_is));
        inside = m.inside;
      }

  pub headed_with : (h : Heading) (v : ℕ) → ahead ts 0 ≡ version_word → v ≡ ahead ts 1 → v ≤ 1 → Marked ts v 2 h → Headed ts h
  unfolding read_plan
  headed_with h v e f l m =
      record {
        known = λ k. rw (e, lt-ltb (ahead ts 1) 2 (omega (arith, f, l)))
            (ap (λ (x : ℕ). with_volatiles (counts_of ts) x (drop 2 ts)) (sym f) ∙ m.behind (counts_of ts)
            ∙ ap (λ (v : ℕ). procedures_by (counts_of ts) 32 0 (none v h.mask) 1024 (drop h.at ts)) (sym m.version_is));
        unknown = λ k. absurd (omega (arith, k, m.version_is, l));
        inside = m.inside;
      }

  pub headed_wrong : (v : ℕ) → ahead ts 0 ≡ version_word → v ≡ ahead ts 1 → 1 < v → 1 ≤ length ts → Headed ts (record { version = 2; mask = 0; at = 1 })
  unfolding read_plan
  headed_wrong v e f l n =
      record {
        known = λ k. absurd (omega (arith, k));
        unknown = λ k. rw (e, le-ltb (ahead ts 1) 2 (omega (arith, f, l))) refl;
        inside = n;
      }
