-- What is told of a tool's answer, by what the tool leaves in the area. Assumes nothing.
use Prim.Native.Nat.{ℕ, ◌≤◌}
use native.Mathlib.Omega.{arith}
use mathlib.Core.Path.{◌≡◌, refl, sym, ap, ◌∙◌, subst as along}
use mathlib.Core.List.{List}
use mathlib.Core.Option.{Option, some, none}
use lib.ListN.{length, take}
use lib.Seq.{length-take-le}
use Rattle.format.specs.Area.{overwrite}
use Rattle.format.specs.Refusal.{Refusal}
use Rattle.format.proofs.AreaLaws.{overwrite_covers}
use Rattle.text.specs.Inner.Wrote.{Wrote}
use Rattle.text_refusal_lines.specs.Lines.{refusal_lines}
use Rattle.answers.specs.Answer.{Answer, value, refused, answer_by}
use Rattle.text_answer_lines.specs.Texts.{text_by}
use Rattle.text_answer_lines.specs.Inner.Told.{Told, Settled}
use Rattle.text_answer_lines.proofs.Areas.{overwritten, wrote_within}

-- ---- a tool whose answer and area are functions of what refuses it

module _ (text area : List ℕ) (f : Option Refusal → List ℕ) (written : f none ≡ overwrite text area) (kept : (k : Refusal) → f (some k) ≡ area) where
  pub settled_by : (o : Option Refusal) (x : Answer) (mid after : List ℕ) (r : ℕ) → (o ≡ none → length text ≤ length area)
      → x ≡ answer_by o (length text) → mid ≡ f o → Settled x mid after r → Wrote area 0 (text_by o text) after r
  unfolding answer_by text_by
  settled_by none x mid after r room e m s =
      let t : Settled (value (length text)) mid after r = along (λ (y : Answer). Settled y mid after r) e s in
      overwritten t.0 (omega (arith, t.0, room refl)) (t.1 ∙ m ∙ written)
  settled_by (some k) x mid after r room e m s =
      let t : Settled (refused k) mid after r = along (λ (y : Answer). Settled y mid after r) e s in
      along (λ (l : List ℕ). Wrote l 0 (refusal_lines k) after r) (m ∙ kept k) t

-- ---- a tool of whose answer and area something is said

module _ {P : List ℕ → Type 0} {area : List ℕ} (R : Answer → List ℕ → Type 0)
    (refuses : (k : Refusal) (mid : List ℕ) → R (refused k) mid → P (refusal_lines k) × (mid ≡ area))
    (tells : (n : ℕ) (mid : List ℕ) → length mid ≡ length area → R (value n) mid → Told P area mid n) where
  pub settled_told : (x : Answer) (mid after : List ℕ) (r : ℕ) → length mid ≡ length area → R x mid → Settled x mid after r → Told P area after r
  settled_told (value n) mid after r same h s =
      along (λ (k : ℕ). Told P area after k) (sym s.0) (along (λ (l : List ℕ). Told P area l n) (sym s.1) (tells n mid same h))
  settled_told (refused k) mid after r same h s =
      let t = refuses k mid h in
      record { text = refusal_lines k; says = t.0; wrote = along (λ (l : List ℕ). Wrote l 0 (refusal_lines k) after r) t.1 s }

-- a text that covers the area's start
pub tells_text : {P : List ℕ → Type 0} (text area : List ℕ) → P text → length (overwrite text area) ≡ length area
    → Told P area (overwrite text area) (length text)
tells_text text area p same =
    record { text = text; says = p; wrote = overwritten refl (omega (arith, overwrite_covers text area)) refl }

-- ---- a text within its area, as a part of it asks

pub within : {P : List ℕ → Type 0} {before after : List ℕ} {r : ℕ} → Told P before after r → (r ≤ length after) × (r ≡ length (take r after))
within {after = after} {r = r} t = let h = wrote_within t.wrote in (h, sym (length-take-le r after h))
