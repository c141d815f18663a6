-- A log has one picture. Assumes nothing.
use Prim.Native.Nat.{ℕ, ◌≤◌}
use native.Mathlib.Omega.{arith}
use mathlib.Core.Path.{◌≡◌, refl, sym, ap, ap₂, ◌∙◌, subst as along}
use mathlib.Core.List.{List}
use mathlib.Core.Option.{Option, some}
use Rattle.format.specs.Version.{Version}
use Rattle.log_records.specs.Record.{Record}
use Rattle.log_conflicts.specs.Conflicts.{Conflicting}
use Rattle.log_arrows.proofs.OneList.{arrows_once}
use Rattle.text_diagram_elements.specs.Diagram.{diagram_text}
use Rattle.diagram.specs.Picture.{Red, ordered, unordered, Picture}

-- the two records that are red
abbrev both : ℕ → ℕ → Option (ℕ × ℕ)
both i j = some (i, j)

red_once : {v : Version} {L : List Record} {p q : Option (ℕ × ℕ)} → Red v L p → Red v L q → p ≡ q
red_once (ordered f) (ordered g) = refl
red_once (ordered f) (unordered {j = j} c low last) = absurd (f j c)
red_once (unordered {j = j} c low last) (ordered g) = absurd (g j c)
red_once {v} {L} (unordered {j = i} c low last) (unordered {j = j} d least latest) = go (let p = low j d in let q = least i c in omega arith) d latest
  where
    -- of one record two earlier accesses, each the last
    go : i ≡ j → (e : Conflicting v L j) → ((x : Conflicting v L j) → x.index ≤ e.index) → both c.index i ≡ both e.index j
    go q = along (λ (n : ℕ). (e : Conflicting v L n) → ((x : Conflicting v L n) → x.index ≤ e.index) → both c.index i ≡ both e.index n) q
        (λ e h. let a = h c in let b = last e in let same : c.index ≡ e.index = omega arith in ap (λ (n : ℕ). both n i) same)

pub picture_once : {v : Version} {L : List Record} {s t : List ℕ} → Picture v L s → Picture v L t → s ≡ t
picture_once {L = L} P Q =
    P.text_is
    ∙ ap₂ (λ (arrows : List (ℕ × ℕ)) (race : Option (ℕ × ℕ)). diagram_text L arrows race) (arrows_once P.all_arrows Q.all_arrows)
    (red_once P.red Q.red)
    ∙ sym Q.text_is
