-- The text of a preview by what the entry `preview` answers. Assumes nothing.
use Prim.Native.Nat.{ℕ, ◌≤◌}
use native.Mathlib.Omega.{arith}
use mathlib.Core.Path.{◌≡◌, sym, ap, ◌∙◌, subst as along}
use mathlib.Core.List.{List, ◌++◌}
use lib.ListN.{length, drop}
use Rattle.format.specs.Area.{overwrite}
use Rattle.answers.specs.Answer.{Answer}
use Rattle.run_last_pick.specs.declared.Preview as code
use Rattle.refusals.specs.declared.Refusal as refusals
use Rattle.refusals.specs.Numbers.{refusal_of}
use Rattle.preview.specs.Preview as preview
use Rattle.preview.specs.Preview.{Preview, previewed}
use Rattle.preview.specs.Answer.{preview_of}
use Rattle.text.specs.Inner.Wrote.{Wrote}
use Rattle.text.proofs.Added.{added_whole}
use Rattle.text_preview_lines.specs.Lines.{preview_line}
use Rattle.text_preview_lines.specs.Told.{PreviewTold, refuses, tells}

module _ (plan schedule : List ℕ) (pick : ℕ) (area : List ℕ) (big : 200 ≤ length area) where
  pub refused_told : (r : refusals.Refusal) → preview.Previewed.refused (refusal_of r) ≡ previewed plan schedule pick
      → PreviewTold plan schedule pick area (Answer.refused (refusal_of r)) area
  refused_told r h = refuses big (sym h)

  pub shown_told : (p : code.Preview) (h : preview.Previewed.shows (preview_of p) ≡ previewed plan schedule pick) (x : Preview) {late : List ℕ} {r : ℕ}
      → preview_of p ≡ x → Wrote area 0 (preview_line pick x) late r → PreviewTold plan schedule pick area (Answer.value r) late
  unfolding overwrite
  shown_told p h x {late} {r} e w =
      let m : length (preview_line pick x) ≡ r = omega (arith, w.next) in
      let whole : overwrite (preview_line pick x) area ≡ late = ap (λ (k : ℕ). preview_line pick x ++ drop k area) m ∙ sym (added_whole w) in
      along (λ (k : ℕ). PreviewTold plan schedule pick area (Answer.value k) late) m
      (along (λ (l : List ℕ). PreviewTold plan schedule pick area (Answer.value (length (preview_line pick x))) l) whole (tells big (sym h ∙ ap preview.Previewed.shows e)))
