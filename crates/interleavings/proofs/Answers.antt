-- From the steps to the answers: what the entries need to begin, and what they have written. Assumes nothing.
use Prim.Native.Nat.{ℕ, ◌+◌, ◌-◌, ◌≤◌, ◌<◌}
use native.Mathlib.Nat.{sub-zero}
use native.Mathlib.Omega.{arith}
use mathlib.Core.Path.{◌≡◌, sym, ap, ◌∙◌, subst as along}
use mathlib.Core.List.{List, [], ◌∷◌, ◌++◌}
use mathlib.Core.Option.{some, none}
use lib.ListN.{length, length-append, take, drop, take-append-drop}
use lib.Seq.{length-take-le, take-take, drop-drop}
use borrow.Author.Tests.{lt-ltb, le-ltb}
use Rattle.format.specs.Refusal.{check_whole, or_else, first_refusal}
use Rattle.format.specs.Area.{overwrite}
use Rattle.format.proofs.AreaLaws.{overwrite_only}
use Rattle.format.proofs.RefusalLaws.{refusal_append}
use Rattle.plan_packed.specs.Syntax.{Program}
use Rattle.plan_packed.specs.Format.{terms}
use Rattle.plan_packed.specs.Trees.{program_of}
use Rattle.plan_packed.specs.Check.{checks, refusal}
use Rattle.plan_packed.specs.Inner.Steps.{Loaded}
use Rattle.plan_refusals.specs.Answer as check
use Rattle.std.specs.Prelude.{Ok, Err, Some, None}
use Rattle.std.specs.Prelude as rust
use Rattle.refusals.specs.declared.Refusal as code
use Rattle.refusals.specs.Numbers.{refusal_of}
use Rattle.plan_refusals.proofs.Stages.{Checked}
use Rattle.rules.specs.Play.{schedule_refusal}
use Rattle.text.specs.Inner.Wrote.{Wrote}
use Rattle.answers.specs.Answer as answer
use Rattle.listing.specs.Order.{Before, AtMost}
use Rattle.listing.specs.Listed.{Listed, First}
use Rattle.listing.specs.Inner.CanFollow.{can_follow}
use Rattle.listing.specs.Inner.Ways.{Way}
use Rattle.listing.proofs.Order.{empty_lowest}
use Rattle.listing.proofs.Ways.{no_picks}
use Rattle.listing_answers.specs.Interleavings as papers
use Rattle.listing_answers.specs.Interleavings.{over_bound, FirstAnswer, NextAnswer}
use Rattle.interleavings.specs.Answer.{answered}
use Rattle.interleavings.specs.Count.{count_refused}
use Rattle.listing_answers.proofs.Answers.{numbered, refuses, passes, first_or, then_other, refused_is, passed_is, first_none, next_written, next_over}
use Rattle.run_replays.specs.Inner.Replay.{Accepted, OfEight}
use Rattle.run_refusals.proofs.Passed.{scheduled_by_code}
use Rattle.interleavings.specs.Inner.Steps.{Begins, Reached, TurnsAt, Followed}
use Rattle.interleavings.proofs.GoingOn.{taken}
use Rattle.interleavings.proofs.GoingBack.{turned_way, turned_least, turned_above}

-- ---- to begin

module _ (plan : List ℕ) (n : ℕ) (area : List ℕ) (r : Checked) (h : check.answered r ≡ refusal plan) (e : r ≡ Ok tt) where
  pub accepted_plan : (words : List ℕ) → Loaded plan (terms plan) words → Accepted plan words
  accepted_plan words l = record { plan_passes = passed_is _ r h e; loaded = l }

  pub first_begins : (words : List ℕ) → Loaded plan (terms plan) words → n ≤ 64 → n ≤ length area → Begins plan words n area 0
  first_begins words l b s =
      record { accepted = accepted_plan words l; bound = b; long = s; within = omega arith; way = no_picks (can_follow (program_of plan)) }

  pub first_written : n ≤ 64 → n ≤ length area → (after : List ℕ) (at : ℕ) → Reached (program_of plan) n 0 area after at
      → FirstAnswer plan n area (answer.value at) after
  first_written b s after at x =
      let qs = take at after in
      let m : length qs ≡ at = taken x s in
      let a : after ≡ overwrite qs area =
      overwrite_only qs area after (ap (λ (k : ℕ). take k after) m) (ap (λ (k : ℕ). drop k after) m ∙ x.rest
      ∙ ap (λ (k : ℕ). drop k area) (sym m)) in
      let f : First (program_of plan) n qs = record { has = x.listed; least = λ rs l. x.least rs l (empty_lowest rs) } in
      along (λ (k : ℕ). FirstAnswer plan n area (answer.value k) after) m
      (along (FirstAnswer plan n area (answer.value (length qs))) (sym a) (FirstAnswer.WRITTEN (first_none plan n area r h e b s) f))

-- ---- the following one

-- what was written first, and then gone on with
module _ (g : Program) (n : ℕ) (ps : List ℕ) (x : Listed g n ps) (area : List ℕ) (long : n ≤ length area) (place pick : ℕ) (t : TurnsAt g ps place pick) where
  -- there is room for it
  pub turn_fits : length (take (place - 0) ps) + 1 ≤ length area
  turn_fits =
      let h = t.inside in
      let m : length (take (place - 0) ps) ≡ place = length-take-le (place - 0) ps (omega arith) ∙ sub-zero place in
      omega (arith, m, x.at_most)

  module _ (middle : List ℕ) (from : ℕ) (w : Wrote area 0 (take (place - 0) ps ++ (pick ∷ [])) middle from) where
    front : take from middle ≡ take place ps ++ (pick ∷ [])
    front = w.text ∙ ap (λ (k : ℕ). take k ps ++ (pick ∷ [])) (sub-zero place)

    pub from_is : from ≡ place + 1
    from_is =
        let h = t.inside in
        let m : length (take (place - 0) ps) ≡ place = length-take-le (place - 0) ps (omega arith) ∙ sub-zero place in
        omega (arith, w.next, length-append (take (place - 0) ps) (pick ∷ []), m)

    pub still_long : n ≤ length middle
    still_long = omega (arith, w.kept)

    pub begins : (plan words : List ℕ) → program_of plan ≡ g → Accepted plan words → n ≤ 64 → Begins plan words n middle from
    begins plan words q a b =
        let h = t.inside in
        record {
          accepted = a;
          bound = b;
          long = still_long;
          within = omega (arith, from_is, x.at_most);
          way = along (λ (k : Program). Way (can_follow k) (take from middle)) (sym q)
              (along (Way (can_follow g)) (sym front) (turned_way g n ps x place pick t));
        }

    pub followed : (after : List ℕ) (at : ℕ) → Reached g n from middle after at → Followed g n ps area after (Some at)
    followed after at y =
        let m : length qs ≡ at = taken y still_long in (
          qs,
          record { has = y.listed; above = along (Before ps) (sym whole_is) (turned_above g n ps x place pick t (drop from qs)); least = least },
          sym m,
          overwrite_only qs area after (ap (λ (k : ℕ). take k after) m) (ap (λ (k : ℕ). drop k after) m ∙ past ∙ ap (λ (k : ℕ). drop k area) (sym m)),
        )
      where
        qs : List ℕ
        qs = take at after

        whole_is : take at after ≡ (take place ps ++ (pick ∷ [])) ++ drop from (take at after)
        whole_is =
            sym (take-append-drop from (take at after))
            ∙ ap (λ (l : List ℕ). l ++ drop from (take at after)) (take-take from at after y.reached ∙ y.front ∙ front)

        least : (rs : List ℕ) → Listed g n rs → Before ps rs → AtMost qs rs
        least rs l b = y.least rs l (along (λ (l : List ℕ). AtMost l rs) (sym front) (turned_least g n ps x place pick t rs l b))

        past : drop at after ≡ drop at area
        past =
            let e : from + (at - from) ≡ at = omega (arith, y.reached) in
            y.rest ∙ ap (λ (k : ℕ). drop k middle) (sym e) ∙ sym (drop-drop (at - from) from middle) ∙ ap (drop (at - from)) w.rest
            ∙ drop-drop (at - from) from area ∙ ap (λ (k : ℕ). drop k area) e

module _
    (plan : List ℕ) (n : ℕ) (schedule area : List ℕ) (r : Checked) (h : check.answered r ≡ schedule_refusal plan schedule) (e : r ≡ Ok tt)
  where
    pub given_plan_lem : (words : List ℕ) → Loaded plan (terms plan) words → Accepted plan words
    given_plan_lem words l = record { plan_passes = (scheduled_by_code plan schedule r h e).plan_passes; loaded = l }

    pub given_picks : OfEight schedule
    given_picks j b = let k = (scheduled_by_code plan schedule r h e).small j b in omega arith

    pub next_followed : n ≤ 64 → Listed (program_of plan) n schedule → n ≤ length area → (after : List ℕ) (a : rust.Option ℕ)
        → Followed (program_of plan) n schedule area after a → NextAnswer plan n schedule area (answered (Ok a)) after
    next_followed b l s after (Some m) (qs, f, d, q) =
        along (λ (k : ℕ). NextAnswer plan n schedule area (papers.Next.written k) after) (sym d)
        (along (NextAnswer plan n schedule area (papers.Next.written (length qs))) (sym q) (next_written plan n schedule area r h e b l s qs f))
    next_followed b l s after None (f, q) = along (NextAnswer plan n schedule area papers.Next.over) (sym q) (next_over plan n schedule area r h e b l s f)

-- ---- counting

module _ (plan : List ℕ) (n : ℕ) where
  count_stages : count_refused plan n ≡ or_else (refusal plan) (first_refusal (check_whole 18 (over_bound n) ∷ []))
  unfolding count_refused refusal
  count_stages = refusal_append (checks plan) (check_whole 18 (over_bound n) ∷ [])

  module _ (r : Checked) (h : check.answered r ≡ refusal plan) where
    pub count_refused_lem : (c : code.Refusal) → r ≡ Err c → count_refused plan n ≡ some (refusal_of c)
    count_refused_lem c e = count_stages ∙ first_or _ _ _ (refused_is _ r c h e)

    module _ (e : r ≡ Ok tt) where
      pub count_over_bound : 64 < n → count_refused plan n ≡ some (numbered 18)
      unfolding over_bound
      count_over_bound b = count_stages ∙ then_other _ _ (passed_is _ r h e) ∙ refuses 18 (over_bound n) _ (lt-ltb 64 n b)

      pub count_none : n ≤ 64 → count_refused plan n ≡ none
      unfolding over_bound first_refusal
      count_none b = count_stages ∙ then_other _ _ (passed_is _ r h e) ∙ passes 18 (over_bound n) [] (le-ltb 64 n b)
