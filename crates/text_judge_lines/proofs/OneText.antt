-- A log has one text. Assumes nothing.
use Prim.Native.Nat.{ℕ, ◌≤◌}
use native.Mathlib.Omega.{arith}
use mathlib.Core.Path.{◌≡◌, refl, ap, ◌∙◌, subst as along}
use mathlib.Core.List.{List}
use Rattle.format.specs.Version.{Version}
use Rattle.log_records.specs.Record.{Record}
use Rattle.log_order.specs.Chains.{At}
use Rattle.log_conflicts.specs.Conflicts.{Conflicting}
use Rattle.text_race_lines.specs.Lines.{conflict_lines, conflicting_lines}
use Rattle.text_race_lines.proofs.Records.{at_once}
use Rattle.text_judge_lines.specs.Told.{LogTold, ordered, conflicts}

-- two accesses, each the last
last_once : {v : Version} {L : List Record} {j : ℕ} (c d : Conflicting v L j) → c.index ≤ d.index → d.index ≤ c.index
    → conflicting_lines c ≡ conflicting_lines d
unfolding conflicting_lines
last_once {v} {L} {j} c d p q =
    let i : c.index ≡ d.index = omega arith in
    let other : c.other ≡ d.other = at_once L d.index (along (λ (n : ℕ). At L n c.other) i c.at_index) d.at_index in
    let access : c.access ≡ d.access = at_once L j c.at_j d.at_j in
    ap (λ (y : Record). conflict_lines c.index y j c.access) other
    ∙ ap (λ (y : Record). conflict_lines c.index d.other j y) access
    ∙ ap (λ (n : ℕ). conflict_lines n d.other j d.access) i

pub told_once : {v : Version} {L : List Record} {s t : List ℕ} → LogTold v L s → LogTold v L t → s ≡ t
told_once (ordered f) (ordered g) = refl
told_once (ordered f) (conflicts {j = j} c low last) = absurd (f j c)
told_once (conflicts {j = j} c low last) (ordered g) = absurd (g j c)
told_once {v} {L} (conflicts {j = i} c low last) (conflicts {j = j} d least latest) = go (let p = low j d in let q = least i c in omega arith) d latest
  where
    go : i ≡ j → (e : Conflicting v L j) → ((x : Conflicting v L j) → x.index ≤ e.index) → conflicting_lines c ≡ conflicting_lines e
    go q =
        along (λ (n : ℕ). (e : Conflicting v L n) → ((x : Conflicting v L n) → x.index ≤ e.index) → conflicting_lines c ≡ conflicting_lines e) q
        (λ e h. last_once c e (h c) (last e))
