-- Bytes added to the text of an area: none, one, and some behind others. Assumes nothing.
use Prim.Native.Nat.{ℕ, ◌+◌, ◌<◌, ◌≤◌}
use native.Mathlib.Nat.{add_assoc, add-zero}
use native.Mathlib.Numerals.{add-one}
use native.Mathlib.Omega.{arith}
use mathlib.Core.Path.{◌≡◌, refl, sym, ap, ◌∙◌}
use mathlib.Core.List.{List, [], ◌∷◌, ◌++◌, append-nil, append_assoc}
use lib.ListN.{length, length-append, take, drop, take-append-drop, set, length-set}
use lib.Seq.{take-suc-set, drop-set-lt, drop-drop}
use borrow.Author.Rules.{rules}
use borrow.Rule.Slice.PartMut.{put_mid}
use Rattle.std.proofs.lemmas.Slice.{overwrites}
use Rattle.text.specs.Inner.Wrote.{Wrote}

pub added_none : (a : List ℕ) (at : ℕ) → Wrote a at [] a at
added_none a at = record { next = sym (add-zero at); kept = refl; text = sym (append-nil (take at a)); rest = refl }

pub added_one : (a : List ℕ) (at b : ℕ) → at < length a → Wrote a at (b ∷ []) (set a at b) (at + 1)
added_one a at b h =
    record { next = refl; kept = length-set a at b; text = rw add-one (take-suc-set a at b h); rest = drop-set-lt (at + 1) a at b (omega arith) }

-- a part of the area takes the bytes
pub added_part : (a xs : List ℕ) (at k r : ℕ) → at + k ≤ length a → length xs ≡ k → r ≡ at + k → Wrote a at xs (put_mid at k a xs) r
added_part a xs at k r h e n =
    record { next = omega arith; kept = search (rules, overwrites); text = search (rules, overwrites); rest = search (rules, overwrites) }

-- what is the same past a place is the same past any later place
same_past : (a b : List ℕ) (m n r : ℕ) → r ≡ m + n → drop m b ≡ drop m a → drop r b ≡ drop r a
same_past a b m n r e h =
    ap (λ (k : ℕ). drop k b) e ∙ sym (drop-drop n m b) ∙ ap (drop n) h ∙ drop-drop n m a ∙ ap (λ (k : ℕ). drop k a) (sym e)

pub added_more : {a b c xs ys : List ℕ} {at m r : ℕ} → Wrote a at xs b m → Wrote b m ys c r → Wrote a at (xs ++ ys) c r
added_more {a} {b} {c} {xs} {ys} {at} {m} {r} w v =
    record {
      next = v.next ∙ ap (λ (k : ℕ). k + length ys) w.next ∙ add_assoc at (length xs) (length ys) ∙ ap (λ (k : ℕ). at + k) (sym (length-append xs ys));
      kept = v.kept ∙ w.kept;
      text = v.text ∙ ap (λ (l : List ℕ). l ++ ys) w.text ∙ append_assoc (take at a) xs ys;
      rest = v.rest ∙ same_past a b m (length ys) r v.next w.rest;
    }

-- the same bytes under another name
pub added_as : {a b xs ys : List ℕ} {at r : ℕ} → xs ≡ ys → Wrote a at xs b r → Wrote a at ys b r
added_as e w = rw e at w

-- the whole area, where the text begins it
pub added_whole : {a b xs : List ℕ} {r : ℕ} → Wrote a 0 xs b r → b ≡ xs ++ drop r a
added_whole {a} {b} {xs} {r} w = sym (take-append-drop r b) ∙ ap (λ (l : List ℕ). l ++ drop r b) w.text ∙ ap (λ (l : List ℕ). xs ++ l) w.rest
