-- The lines of a list's first schedules, and the text of the whole. Assumes nothing.
use Prim.Native.Nat.{ℕ, zero, suc, ◌+◌, ◌-◌, ◌*◌, ◌≤◌, ◌<◌}
use native.Mathlib.Nat.{sub-zero}
use native.Mathlib.Numerals.{add-one}
use native.Mathlib.Omega.{arith}
use mathlib.Core.Path.{◌≡◌, refl, sym, ap, ◌∙◌, subst as along}
use mathlib.Core.Bool.{true≢false}
use mathlib.Core.List.{List, [], ◌∷◌, ◌++◌, append_assoc, append-nil}
use mathlib.Core.Option.{some}
use lib.ListN.{length, length-append, length-take, get_elem?, take}
use lib.Seq.{take_all}
use Rattle.plan_packed.specs.Syntax.{Program}
use Rattle.plan_packed.specs.Trees.{program_of}
use Rattle.text.specs.Inner.Wrote.{Wrote}
use Rattle.text.proofs.Added.{added_none, added_more, added_as}
use Rattle.text_inputs.specs.Schedules.{digit_line, digits_of}
use Rattle.text_inputs.proofs.Bytes.{length_digits}
use Rattle.text_answer_lines.specs.Inner.Told.{Told}
use Rattle.listing.specs.Listed.{First, Following, Over}
use Rattle.listing.specs.WholeList.{WholeList}
use Rattle.listing.proofs.WholeList.{whole_list, at_first, at_next, at_last}
use Rattle.text_interleaving_lines.specs.Lines.{schedule_lines, count_line, more_line, InterleavingsText, all, first}
use Rattle.text_interleaving_lines.specs.Inner.Steps.{Here, Begun}

-- ---- one schedule more

line_more : (L : List (List ℕ)) (i : ℕ) (ps : List ℕ) → get_elem? L i ≡ some ps → schedule_lines (take i L) ++ digit_line ps ≡ schedule_lines (take (suc i) L)
unfolding schedule_lines
line_more [] i ps e = absurd (true≢false cc)
line_more (x ∷ L) zero ps e = let q : ps ≡ x = cc in ap digit_line q ∙ sym (append-nil (digit_line x))
line_more (x ∷ L) (suc i) ps e =
    append_assoc (digit_line x) (schedule_lines (take i L)) (digit_line ps) ∙ ap (λ (t : List ℕ). digit_line x ++ t) (line_more L i ps e)

inside : (L : List (List ℕ)) (i : ℕ) (ps : List ℕ) → get_elem? L i ≡ some ps → i < length L
inside [] i ps e = absurd (true≢false cc)
inside (x ∷ L) zero ps e = omega arith
inside (x ∷ L) (suc i) ps e = let h = inside L i ps e in omega arith

pub line_short : (ps : List ℕ) → length (digit_line ps) ≡ length ps + 1
unfolding digit_line
line_short ps = length-append (digits_of ps) (10 ∷ []) ∙ omega (arith, length_digits ps)

-- ---- where the listing stands

module _ (plan : List ℕ) (n : ℕ) (area₀ : List ℕ) where
  abbrev g : Program
  g = program_of plan

  -- the schedule at a place of the whole list, and behind the lines of those before it
  pub record Stands (schedule : List ℕ) (picks place : ℕ) (area : List ℕ) (at : ℕ) : Type 0 where
    pub here : Here plan n schedule picks
    pub at_place : (L : List (List ℕ)) → WholeList g n L → get_elem? L place ≡ some (take picks schedule)
    pub lines : (L : List (List ℕ)) → WholeList g n L → Wrote area₀ 0 (schedule_lines (take place L)) area at
    pub short : at ≤ 65 * place
    pub kept : length area ≡ length area₀

  pub stands_first : (schedule : List ℕ) (picks : ℕ) → Begun plan n schedule picks → Stands schedule picks 0 area₀ 0
  unfolding schedule_lines
  stands_first schedule picks b =
      record {
        here = b.here;
        at_place = λ L w. at_first g n w.begins b.is_first;
        lines = λ L w. added_none area₀ 0;
        short = omega arith;
        kept = refl;
      }

  module _ {schedule : List ℕ} {picks place : ℕ} {area : List ℕ} {at : ℕ} (s : Stands schedule picks place area at) (late : List ℕ) (r : ℕ)
      (w : Wrote area at (digit_line (take (picks - 0) schedule)) late r) where
    -- the line of the schedule is written
    written : (L : List (List ℕ)) → WholeList g n L → Wrote area₀ 0 (schedule_lines (take (suc place) L)) late r
    written L l =
        let line = added_as (ap (λ (k : ℕ). digit_line (take k schedule)) (sub-zero picks)) w in
        added_as (line_more L place (take picks schedule) (s.at_place L l)) (added_more (s.lines L l) line)

    pub line_room : r ≤ 65 * place + 65
    line_room = omega (arith, w.next, line_short (take (picks - 0) schedule), length-take (picks - 0) schedule, s.here.few, s.short)

    pub stands_next : (after : List ℕ) (m : ℕ) → Here plan n after m → Following g n (take picks schedule) (take m after) → Stands after m (place + 1) late r
    stands_next after m h f =
        record {
          here = h;
          at_place = λ L l. rw add-one (at_next g n place l.begins (s.at_place L l) f);
          lines = λ L l. rw add-one (written L l);
          short = omega (arith, line_room);
          kept = omega (arith, w.kept, s.kept);
        }

    -- the list is over
    pub all_told : place < 8192 → Over g n (take picks schedule) → (after : List ℕ) (q : ℕ) → Wrote late r (count_line (place + 1)) after q
        → Told (InterleavingsText plan n) area₀ after q
    all_told few o after q v =
        let l = whole_list g n in
        let L = l.0 in
        let size : length L ≡ suc place = at_last g n place l.1.begins (s.at_place L l.1) o in
        let whole : take (suc place) L ≡ L = take_all (suc place) L (omega arith) in
        let count : place + 1 ≡ length L = omega arith in
        record {
          text = schedule_lines L ++ count_line (length L);
          says = all s.here.passed l.1 (omega arith);
          wrote =
              added_as (ap (λ (M : List (List ℕ)). schedule_lines M ++ count_line (place + 1)) whole ∙ ap (λ (k : ℕ). schedule_lines L ++ count_line k) count)
              (added_more (written L l.1) v);
        }

  -- there are more
  pub first_told : {schedule : List ℕ} {picks : ℕ} {area : List ℕ} {at : ℕ} → Stands schedule picks 8192 area at → (after : List ℕ) (q : ℕ)
      → Wrote area at more_line after q → Told (InterleavingsText plan n) area₀ after q
  first_told {schedule} {picks} s after q v =
      let l = whole_list g n in
      let L = l.0 in
      record {
        text = schedule_lines (take 8192 L) ++ more_line;
        says = first s.here.passed l.1 (inside L 8192 (take picks schedule) (s.at_place L l.1));
        wrote = added_more (s.lines L l.1) v;
      }
