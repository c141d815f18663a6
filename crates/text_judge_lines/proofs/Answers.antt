-- The text of a log by what the judge answers. Assumes nothing.
use Prim.Native.Nat.{ℕ, ◌≤◌}
use native.Mathlib.Omega.{arith}
use mathlib.Core.Path.{◌≡◌, sym, ap, ◌∙◌, subst as along}
use mathlib.Core.List.{List, ◌++◌}
use mathlib.Core.Option.{some, none}
use lib.ListN.{length, drop}
use Rattle.format.specs.Area.{overwrite}
use Rattle.format.specs.Refusal.{Refusal}
use Rattle.format.specs.Version.{Version, version_of}
use Rattle.log_records.specs.Packed.{record_at, log_of}
use Rattle.log_records.specs.Record.{Record}
use Rattle.log_records.specs.Refusals.{log_refusal}
use Rattle.log_order.specs.Chains.{At}
use Rattle.log_conflicts.specs.Judge.{refused, named, names_first, names_none, Answers, refuses, judges, AnswersTold, wrong_version, right_version}
use Rattle.answers.specs.Answer.{Answer}
use Rattle.log_packing.specs.declared.Columns.{Columns}
use Rattle.log_packing.specs.Inner.Columns.{ReadAt}
use Rattle.text_record_lines.specs.Inner.Columns.{record_of}
use Rattle.text.specs.Inner.Wrote.{Wrote}
use Rattle.text.proofs.Added.{added_as, added_whole}
use Rattle.text_race_lines.specs.Lines.{conflict_lines, conflicting_lines}
use Rattle.text_race_lines.proofs.Records.{at_once, columns_are, record_here}
use Rattle.text_judge_lines.specs.Told as told
use Rattle.text_judge_lines.specs.Told.{ordered_line, LogTold, JudgeTold}
use Rattle.text_judge_lines.specs.Inner.Search.{Named, LastOf, WroteConflict}
use Rattle.text_judge_lines.proofs.LastConflicts.{inside}

-- ---- the two records that were found

module _ {v : Version} (b : List ℕ) (j i : ℕ) (w x : Columns) (L : LastOf v b j i) (W : ReadAt b i w) (X : ReadAt b j x) where
  lines_are : conflict_lines i (record_of w) j (record_of x) ≡ conflicting_lines L.last
  unfolding conflicting_lines
  lines_are =
      let c = L.last in
      let h = inside b j c in
      let l = c.before in
      let other : record_at b i ≡ c.other = at_once (log_of b) i (record_here b i (omega (arith, L.index_is)))
      (along (λ (n : ℕ). At (log_of b) n c.other) L.index_is c.at_index) in
      let access : record_at b j ≡ c.access = at_once (log_of b) j (record_here b j h) c.at_j in
      ap (λ (y : Record). conflict_lines i y j (record_of x)) (columns_are W ∙ other)
      ∙ ap (λ (y : Record). conflict_lines i c.other j y) (columns_are X ∙ access)
      ∙ ap (λ (n : ℕ). conflict_lines n c.other j c.access) (sym L.index_is)

  pub wrote_conflict : {before after : List ℕ} {r : ℕ} → Wrote before 0 (conflict_lines i (record_of w) j (record_of x)) after r
      → WroteConflict v b j before after r
  wrote_conflict t = record { last = L.last; latest = λ d. let q = L.latest d in omega (arith, L.index_is); wrote = added_as lines_are t }

-- ---- the judge's answer

module _ (version : ℕ) (b area : List ℕ) (big : 200 ≤ length area) where
  refused_by : {r : Refusal} → version ≤ 1 → Answers (version_of version) b (refused r) → JudgeTold version b area (Answer.refused r) area
  refused_by l (refuses e) = told.refuses big l e

  pub refused_told : {r : Refusal} → AnswersTold version b (refused r) → JudgeTold version b area (Answer.refused r) area
  refused_told (wrong_version h) = told.wrong_version big h
  refused_told (right_version l a) = refused_by l a

  told_by : {t late : List ℕ} {r : ℕ} → version ≤ 1 → log_refusal b ≡ none → Wrote area 0 t late r → LogTold (version_of version) (log_of b) t
      → JudgeTold version b area (Answer.value r) late
  unfolding overwrite
  told_by {t} {late} {r} l e w x =
      let m : length t ≡ r = omega (arith, w.next) in
      let whole : overwrite t area ≡ late = ap (λ (k : ℕ). t ++ drop k area) m ∙ sym (added_whole w) in
      along (λ (k : ℕ). JudgeTold version b area (Answer.value k) late) m
      (along (λ (y : List ℕ). JudgeTold version b area (Answer.value (length t)) y) whole (told.tells big l e x))

  ordered_by : {late : List ℕ} {r : ℕ} → version ≤ 1 → Answers (version_of version) b (named none) → Wrote area 0 ordered_line late r
      → JudgeTold version b area (Answer.value r) late
  ordered_by l (judges e (names_none f)) w = told_by l e w (told.ordered f)

  pub ordered_told : {late : List ℕ} {r : ℕ} → AnswersTold version b (named none) → Wrote area 0 ordered_line late r
      → JudgeTold version b area (Answer.value r) late
  ordered_told (right_version l a) w = ordered_by l a w

  named_by : {j : ℕ} → Answers (version_of version) b (named (some j)) → Named (version_of version) b j
  named_by (judges e (names_first c low)) = record { passed = e; conflicting = c }

  pub named_here : {j : ℕ} → AnswersTold version b (named (some j)) → Named (version_of version) b j
  named_here (right_version l a) = named_by a

  conflict_by : {j : ℕ} {late : List ℕ} {r : ℕ} → version ≤ 1 → Answers (version_of version) b (named (some j))
      → WroteConflict (version_of version) b j area late r
      → JudgeTold version b area (Answer.value r) late
  conflict_by l (judges e (names_first c low)) w = told_by l e w.wrote (told.conflicts w.last low w.latest)

  pub conflict_told : {j : ℕ} {late : List ℕ} {r : ℕ} → AnswersTold version b (named (some j)) → WroteConflict (version_of version) b j area late r
      → JudgeTold version b area (Answer.value r) late
  conflict_told (right_version l a) w = conflict_by l a w
