-- The text of a log by what its own functions answer and leave. Assumes nothing.
use Prim.Native.Nat.{ℕ, ◌≤◌, ◌<◌}
use native.Mathlib.Omega.{arith}
use mathlib.Core.Path.{◌≡◌, refl, sym, subst as along}
use mathlib.Core.List.{List}
use mathlib.Core.Option.{none}
use lib.ListN.{length}
use Rattle.format.specs.Refusal.{Refusal}
use Rattle.log_records.specs.Packed.{record_count}
use Rattle.log_records.specs.Refusals.{log_refusal}
use Rattle.log_arrows.proofs.OfLog.{log_short}
use Rattle.text_refusal_lines.specs.Lines.{refusal_lines}
use Rattle.answers.specs.Answer.{Answer, value, refused}
use Rattle.text_judge_lines.specs.Told as judge
use Rattle.text_judge_lines.specs.Told.{LogTold, JudgeTold}
use Rattle.diagram.specs.Picture as picture
use Rattle.diagram.specs.Picture.{Picture, Pictured, room_for}
use Rattle.text_answer_lines.specs.Inner.Told.{Told, Settled}
use Rattle.text_answer_lines.proofs.Settling.{settled_told, tells_text}
use Rattle.text_log_words.specs.Words.{LogText, wrong_version, refuses, tells, SaysOf, judges, draws}
use Rattle.text_log_words.specs.declared.LogWord.{LogWord}
use Rattle.text_log_words.specs.declared.LogWord.TheVariants as word

-- ---- the judge's answer

module _ (version : ℕ) (log area : List ℕ) (long : 2680576 ≤ length area) where
  judge_refuses : (k : Refusal) (mid : List ℕ) → JudgeTold version log area (refused k) mid → LogText LogTold version log (refusal_lines k) × (mid ≡ area)
  judge_refuses k mid (judge.wrong_version h w) = (wrong_version w, refl)
  judge_refuses k mid (judge.refuses h v e) = (refuses v e, refl)

  judge_tells : (n : ℕ) (mid : List ℕ) → length mid ≡ length area → JudgeTold version log area (value n) mid → Told (LogText LogTold version log) area mid n
  judge_tells n mid same (judge.short h) = absurd (omega arith)
  judge_tells n mid same (judge.tells {text} h v e t) = tells_text text area (tells v e t) same

  pub judge_told : (x : Answer) (mid after : List ℕ) (r : ℕ) → length mid ≡ length area → JudgeTold version log area x mid → Settled x mid after r
      → Told (LogText LogTold version log) area after r
  judge_told = settled_told (JudgeTold version log area) judge_refuses judge_tells

  -- ---- the picture

  -- no log that passes has more than 4,096 records
  room : log_refusal log ≡ none → length area < room_for (record_count log) → ⊥
  unfolding record_count
  room e h = omega (arith, log_short log e)

  picture_refuses : (k : Refusal) (mid : List ℕ) → Pictured version log area (refused k) mid → LogText Picture version log (refusal_lines k) × (mid ≡ area)
  picture_refuses k mid (picture.wrong_version w) = (wrong_version w, refl)
  picture_refuses k mid (picture.refuses v e) = (refuses v e, refl)
  picture_refuses k mid (picture.short v e h) = absurd (room e h)

  picture_tells : (n : ℕ) (mid : List ℕ) → length mid ≡ length area → Pictured version log area (value n) mid → Told (LogText Picture version log) area mid n
  picture_tells n mid same (picture.shows {text} v e h p) = tells_text text area (tells v e p) same

  pub picture_told : (x : Answer) (mid after : List ℕ) (r : ℕ) → length mid ≡ length area → Pictured version log area x mid → Settled x mid after r
      → Told (LogText Picture version log) area after r
  picture_told = settled_told (Pictured version log area) picture_refuses picture_tells

-- ---- by the word

module _ {w : LogWord} {version : ℕ} {log before after : List ℕ} {r : ℕ} where
  pub of_judge : w ≡ word.Judge version → Told (LogText LogTold version log) before after r → Told (SaysOf w log) before after r
  of_judge e t =
      along (λ (x : LogWord). Told (SaysOf x log) before after r) (sym e) (record { text = t.text; says = judges t.says; wrote = t.wrote })

  pub of_diagram : w ≡ word.Diagram version → Told (LogText Picture version log) before after r → Told (SaysOf w log) before after r
  of_diagram e t =
      along (λ (x : LogWord). Told (SaysOf x log) before after r) (sym e) (record { text = t.text; says = draws t.says; wrote = t.wrote })
