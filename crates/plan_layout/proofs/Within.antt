-- Bytes added to the text of an area, with others behind them that are to be written over. Assumes nothing.
use Prim.Native.Nat.{ℕ, zero, suc, ◌+◌, ◌-◌, ◌≤◌, ◌<◌}
use native.Mathlib.Nat.{add_assoc, add-zero}
use native.Mathlib.Omega.{arith}
use mathlib.Core.Path.{◌≡◌, refl, sym, ap, subst, ◌∙◌}
use mathlib.Core.Bool.{true, false}
use mathlib.Core.List.{List, [], ◌∷◌, ◌++◌, append-nil, append_assoc}
use lib.ListN.{length, length-append, length-drop, replicate, take, drop, take-append-drop}
use lib.Seq.{drop-drop, length-take-le, take_all, take-append-add, take-append-le, take-append_seam}
use Rattle.text.specs.Inner.Wrote.{Wrote}
use Rattle.text.proofs.Added.{added_more, added_as}
use Rattle.plan_pen.specs.declared.Gap.{Gap}
use Rattle.plan_pen.specs.Inner.Pens.{gap_bytes}
use Rattle.plan_layout.specs.Inner.Rows.{columns, text_row}
use Rattle.plan_layout.specs.Inner.Marks.{WroteWithin}
use Rattle.plan_layout.proofs.LaidLaws.{gap_feed, gap_plain}

-- what is the same past a place is the same past any later place
past : (a b : List ℕ) (m n : ℕ) → m ≤ n → drop m b ≡ drop m a → drop n b ≡ drop n a
past a b m n l h =
    let e : n ≡ m + (n - m) = omega arith in
    ap (λ (k : ℕ). drop k b) e ∙ sym (drop-drop (n - m) m b) ∙ ap (drop (n - m)) h ∙ drop-drop (n - m) m a ∙ ap (λ (k : ℕ). drop k a) (sym e)

pub within_none : (a : List ℕ) (at end : ℕ) → WroteWithin a at [] a at end
within_none a at end = record { next = sym (add-zero at); kept = refl; text = sym (append-nil (take at a)); rest = refl }

pub within_more : {a b c xs ys : List ℕ} {at m r end : ℕ} → WroteWithin a at xs b m end → WroteWithin b m ys c r end → WroteWithin a at (xs ++ ys) c r end
within_more {a} {b} {c} {xs} {ys} {at} {m} {r} w v =
    record {
      next = v.next ∙ ap (λ (k : ℕ). k + length ys) w.next ∙ add_assoc at (length xs) (length ys) ∙ ap (λ (k : ℕ). at + k) (sym (length-append xs ys));
      kept = v.kept ∙ w.kept;
      text = v.text ∙ ap (λ (l : List ℕ). l ++ ys) w.text ∙ append_assoc (take at a) xs ys;
      rest = v.rest ∙ w.rest;
    }

pub within_later : {a b xs : List ℕ} {at r m : ℕ} (end : ℕ) → m ≤ end → WroteWithin a at xs b r m → WroteWithin a at xs b r end
within_later {a} {b} {m = m} end h w = record { next = w.next; kept = w.kept; text = w.text; rest = past a b m end h w.rest }

pub within_exact : {a b xs : List ℕ} {at r : ℕ} (end : ℕ) → r ≤ end → Wrote a at xs b r → WroteWithin a at xs b r end
within_exact {a} {b} {r = r} end h w = record { next = w.next; kept = w.kept; text = w.text; rest = past a b r end h w.rest }

pub within_as : {a b xs ys : List ℕ} {at r end : ℕ} → xs ≡ ys → WroteWithin a at xs b r end → WroteWithin a at ys b r end
within_as e w = rw e at w

-- the first n of the bytes
pub within_part : {a b ys : List ℕ} {at m : ℕ} (n : ℕ) → at ≤ length a → n ≤ length ys → Wrote a at ys b m → WroteWithin a at (take n ys) b (at + n) m
within_part {a} {b} {ys} {at} {m} n h l w =
    record {
      next = ap (λ (k : ℕ). at + k) (sym (length-take-le n ys l));
      kept = w.kept;
      text = first;
      rest = w.rest;
    }
  where
    k : length (take at a) ≡ at
    k = length-take-le at a h

    first : take (at + n) b ≡ take at a ++ take n ys
    first =
        ap (take (at + n)) (sym (take-append-drop m b) ∙ ap (λ (l : List ℕ). l ++ drop m b) w.text ∙ append_assoc (take at a) ys (drop m b))
        ∙ ap (λ (i : ℕ). take (i + n) (take at a ++ (ys ++ drop m b))) (sym k)
        ∙ take-append-add (take at a) (ys ++ drop m b) n
        ∙ ap (λ (l : List ℕ). take at a ++ l) (take-append-le n ys (drop m b) l)

-- ---- a gap and a token with more than their own bytes

fewer : (n k : ℕ) → n ≤ k → take n (replicate {A = ℕ} k 32) ≡ replicate n 32
fewer zero k h = refl
fewer (suc n) zero h = absurd (omega arith)
fewer (suc n) (suc k) h = ap (λ (l : List ℕ). 32 ∷ l) (fewer n k (omega arith))

within_at : {a b xs : List ℕ} {at r end : ℕ} (k l : ℕ) → r ≡ k → end ≤ l → WroteWithin a at xs b r end → WroteWithin a at xs b k l
within_at {a} {b} {xs} {at} k l e h w = subst (λ (n : ℕ). WroteWithin a at xs b n l) e (within_later l h w)

pub wide_feed : {a b c : List ℕ} {at m r : ℕ} (g : Gap) → g.feed ≡ true → g.spaces ≤ 40 → at ≤ length a → Wrote a at (10 ∷ []) b m
    → Wrote b m (replicate 40 32) c r → WroteWithin a at (gap_bytes g) c (m + g.spaces) (at + 41)
wide_feed {at = at} {m} g f h k w v =
    within_at (m + g.spaces) (at + 41) (omega (arith, w.next)) (omega (arith, w.next, v.next))
    (within_as (ap (λ (l : List ℕ). 10 ∷ l) (fewer g.spaces 40 h) ∙ sym (gap_feed g f)) (within_part (suc g.spaces) k (omega arith) (added_more w v)))

pub wide_plain : {a b : List ℕ} {at r : ℕ} (g : Gap) → g.feed ≡ false → g.spaces ≤ 40 → at ≤ length a → Wrote a at (replicate 40 32) b r
    → WroteWithin a at (gap_bytes g) b (at + g.spaces) (at + 41)
wide_plain {at = at} g f h k w =
    within_later (at + 41) (omega (arith, w.next)) (within_as (fewer g.spaces 40 h ∙ sym (gap_plain g f)) (within_part g.spaces k (omega arith) w))

row_bytes : (bs : List ℕ) → length bs < 10 → take (10 - 1) (drop 1 (text_row bs)) ≡ bs ++ drop (length bs) columns
unfolding text_row
row_bytes bs h =
    let pad = drop (length bs) columns in
    take_all 9 (bs ++ pad) (omega (arith, length-append bs pad, length-drop (length bs) columns))

-- a row's bytes behind the first, as many as its text has
pub row_text : (bs row : List ℕ) (w : ℕ) → row ≡ text_row bs → w ≡ length bs → take (1 + w - 1) (drop 1 row) ≡ bs
unfolding text_row
row_text bs row w e q =
    let n : 1 + w - 1 ≡ length bs = omega (arith, q) in
    ap (λ (l : List ℕ). take (1 + w - 1) (drop 1 l)) e
    ∙ ap (λ (k : ℕ). take k (bs ++ drop (length bs) columns)) n
    ∙ take-append_seam bs (drop (length bs) columns)

pub wide_token : {a b : List ℕ} {at m w : ℕ} (bs row : List ℕ) → row ≡ text_row bs → length bs < 10 → w ≡ length bs → at ≤ length a
    → Wrote a at (take (10 - 1) (drop 1 row)) b m → WroteWithin a at bs b (at + w) (at + 9)
wide_token {at = at} {w = w} bs row e h q k v =
    let pad = drop (length bs) columns in
    let u = added_as (ap (λ (l : List ℕ). take (10 - 1) (drop 1 l)) e ∙ row_bytes bs h) v in
    let n = length-append bs pad in
    within_at (at + w) (at + 9) (omega (arith, q)) (omega (arith, u.next, n, length-drop (length bs) columns))
    (within_as (take-append_seam bs pad) (within_part (length bs) k (omega (arith, n)) u))

-- the whole area, where a last byte ends the text
pub whole_area : {a b c xs : List ℕ} {at x total r : ℕ} (whole : List ℕ) → xs ++ (x ∷ []) ≡ whole → total ≡ length whole
    → WroteWithin a 0 xs b at total → Wrote b at (x ∷ []) c r → c ≡ whole ++ drop (length whole) a
whole_area {a} {b} {c} {xs} {at} {x} {total} {r} whole e t w v =
    let n : r ≡ total = omega (arith, v.next, w.next, t, ap length e, length-append xs (x ∷ [])) in
    let u = within_more w (within_exact total (omega (arith, n)) v) in
    sym (take-append-drop r c)
    ∙ ap (λ (l : List ℕ). l ++ drop r c) (u.text ∙ e)
    ∙ ap (λ (k : ℕ). whole ++ drop k c) n
    ∙ ap (λ (l : List ℕ). whole ++ l) u.rest
    ∙ ap (λ (k : ℕ). whole ++ drop k a) t
