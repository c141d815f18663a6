-- What is drawn is the picture of the log. Assumes nothing.
use Prim.Native.Nat.{ℕ, zero, suc, ◌/◌, ◌<◌, ◌≤◌}
use native.Mathlib.Omega.{arith}
use mathlib.Core.Path.{◌≡◌, refl, sym, ap, ◌∙◌, subst as along}
use mathlib.Core.List.{List, [], ◌∷◌, ◌++◌}
use mathlib.Core.Option.{Option, some, none, none-ne-some}
use Rattle.std.specs.Prelude.{Option as CodeOption, Some, None}
use lib.ListN.{length, length-append, get_or, drop}
use Rattle.format.specs.Area.{overwrite}
use Rattle.format.specs.Refusal.{Refusal}
use Rattle.format.specs.Version.{Version, version_of}
use Rattle.log_records.specs.Packed.{record_count, log_of}
use Rattle.log_records.proofs.RoundTrip.{length_log}
use Rattle.log_order.proofs.Past.{at_within}
use Rattle.log_conflicts.specs.Judge.{refused, named, names_first, names_none, Answers, refuses, judges, AnswersTold, wrong_version, right_version}
use Rattle.answers.specs.Answer.{Answer}
use Rattle.log_arrows.specs.Arrows.{AllArrows, pairs}
use Rattle.log_arrows.proofs.PairLaws.{pair_within}
use Rattle.text.specs.Inner.Wrote.{Wrote}
use Rattle.text.proofs.Added.{added_as, added_whole}
use Rattle.text_diagram_elements.specs.declared.Race.{Race}
use Rattle.text_diagram_elements.specs.Diagram.{diagram_text, arrows_of, race_of}
use Rattle.text_diagram_elements.specs.Inner.Drawn.{ArrowsInside, RaceInside}
use Rattle.text_judge_lines.specs.Inner.Search.{Named, LastOf}
use Rattle.diagram.specs.Picture as picture
use Rattle.diagram.specs.Picture.{Red, ordered, unordered, Picture, room_for, Pictured}
use Rattle.diagram.specs.Inner.Drawing.{Judged, NamedBy, WroteArrows}

-- ---- the arrows

-- the arrows that two areas hold, as the one and as the other crate says it
arrows_are : (n : ℕ) (from to : List ℕ) → arrows_of from to n ≡ pairs n from to
unfolding arrows_of
arrows_are zero from to = refl
arrows_are (suc n) from to = ap (λ (l : List (ℕ × ℕ)). l ++ (get_or from n 0, get_or to n 0) ∷ []) (arrows_are n from to)

pub arrows_inside : (v : Version) (b : List ℕ) (n : ℕ) (from to : List ℕ) → n ≤ length from → n ≤ length to → AllArrows v (log_of b) (pairs n from to)
    → ArrowsInside from to n (length b / 3)
arrows_inside v b n from to f t A =
    record {
      starts_there = f;
      ends_there = t;
      start_inside = λ k h. let p = pair_within n k from to A h in omega (arith, p.0, p.1, length_log b);
      end_inside = λ k h. omega (arith, (pair_within n k from to A h).1, length_log b);
    }

pub wrote_arrows : (v : Version) (b : List ℕ) (race : CodeOption Race) (n : ℕ) (from to : List ℕ) {before after : List ℕ} {r : ℕ}
    → AllArrows v (log_of b) (pairs n from to)
    → Wrote before 0 (diagram_text (log_of b) (arrows_of from to n) (race_of race)) after r → WroteArrows v b race before after r
wrote_arrows v b race n from to A w =
    record {
      arrows = pairs n from to;
      all_arrows = A;
      wrote = added_as (ap (λ (l : List (ℕ × ℕ)). diagram_text (log_of b) l (race_of race)) (arrows_are n from to)) w;
    }

-- ---- what is red

-- the two records are among those of the log
red_inside : {v : Version} (b : List ℕ) {o : Option (ℕ × ℕ)} → Red v (log_of b) o → (w a : ℕ) → o ≡ some (w, a) → (w < length b / 3) × (a < length b / 3)
red_inside b (ordered f) w a e = absurd (none-ne-some (w, a) e)
red_inside b (unordered {j = j} c low last) w a e =
    let both : ◌≡◌ {A = ℕ × ℕ} (c.index, j) (w, a) = cc in
    let p : c.index ≡ w = ap (λ (x : ℕ × ℕ). x.0) both in
    let q : j ≡ a = ap (λ (x : ℕ × ℕ). x.1) both in
    let h = at_within (log_of b) j c.access c.at_j in
    let l = c.before in
    (omega (arith, length_log b), omega (arith, length_log b))

pub race_inside : {version : ℕ} {b : List ℕ} {race : CodeOption Race} → Judged version b race → RaceInside race (length b / 3)
race_inside {b = b} J =
    record {
      write_inside = λ r e. (red_inside b J.red r.write r.access (ap race_of e)).0;
      access_inside = λ r e. (red_inside b J.red r.write r.access (ap race_of e)).1;
    }

pub red_last : {version : ℕ} {b : List ℕ} {j i : ℕ} → NamedBy version b j → LastOf (version_of version) b j i
    → Judged version b (Some (record { write = i; access = j }))
red_last {version} {b} {j} {i} N L =
    record {
      version_known = N.version_known;
      passed = N.passed;
      red = along (λ (n : ℕ). Red (version_of version) (log_of b) (some (n, j))) L.index_is
          (unordered L.last N.lowest (λ d. let q = L.latest d in omega (arith, L.index_is)));
    }

-- ---- the answer

module _ {version : ℕ} {b area : List ℕ} where
  pub drawn : {race : CodeOption Race} {late : List ℕ} {r : ℕ} → Judged version b race → room_for (length b / 3) ≤ length area
      → WroteArrows (version_of version) b race area late r → Pictured version b area (Answer.value r) late
  unfolding overwrite record_count
  drawn {race} {late} {r} J room W =
      let t = diagram_text (log_of b) W.arrows (race_of race) in
      let w = W.wrote in
      let m : length t ≡ r = omega (arith, w.next) in
      let whole : overwrite t area ≡ late = ap (λ (k : ℕ). t ++ drop k area) m ∙ sym (added_whole w) in
      along (λ (k : ℕ). Pictured version b area (Answer.value k) late) m (along (λ (y : List ℕ). Pictured version b area (Answer.value (length t)) y) whole
      (picture.shows J.version_known J.passed room
      (record { arrows = W.arrows; race = race_of race; all_arrows = W.all_arrows; red = J.red; text_is = refl })))

  pub too_short : {race : CodeOption Race} → Judged version b race → length area < room_for (length b / 3)
      → Pictured version b area (Answer.refused (record { number = 27; place = 0 })) area
  unfolding record_count
  too_short J h = picture.short J.version_known J.passed h

  refused_by : {r : Refusal} → version ≤ 1 → Answers (version_of version) b (refused r) → Pictured version b area (Answer.refused r) area
  refused_by l (refuses e) = picture.refuses l e

  pub refused_picture : {r : Refusal} → AnswersTold version b (refused r) → Pictured version b area (Answer.refused r) area
  refused_picture (wrong_version h) = picture.wrong_version h
  refused_picture (right_version l a) = refused_by l a

-- a text that is written lies within its area
within : {version : ℕ} {b area late : List ℕ} {n : ℕ} → Pictured version b area (Answer.value n) late → length late ≡ length area → n ≤ length area
unfolding overwrite
within {area = area} (picture.shows {text = text} l e room p) same = omega (arith, same, length-append text (drop (length text) area))

pub value_within : {version : ℕ} {b area late : List ℕ} {a : Answer} {n : ℕ} → a ≡ Answer.value n → Pictured version b area a late
    → length late ≡ length area → n ≤ length area
value_within {version} {b} {area} {late} e p = within (along (λ (x : Answer). Pictured version b area x late) e p)

-- ---- what the judge answers

module _ {version : ℕ} {b : List ℕ} where
  ordered_by : version ≤ 1 → Answers (version_of version) b (named none) → Judged version b None
  ordered_by l (judges e (names_none f)) = record { version_known = l; passed = e; red = ordered f }

  pub ordered_judged : AnswersTold version b (named none) → Judged version b None
  ordered_judged (right_version l a) = ordered_by l a

  named_by : {j : ℕ} → version ≤ 1 → Answers (version_of version) b (named (some j)) → NamedBy version b j
  named_by l (judges e (names_first c low)) = record { version_known = l; passed = e; conflicting = c; lowest = low }

  pub named_judged : {j : ℕ} → AnswersTold version b (named (some j)) → NamedBy version b j
  named_judged (right_version l a) = named_by l a

pub named_search : {version : ℕ} {b : List ℕ} {j : ℕ} → NamedBy version b j → Named (version_of version) b j
named_search N = record { passed = N.passed; conflicting = N.conflicting }
