-- A procedure, by what the parser gives. Assumes nothing.
use Prim.Native.Nat.{ℕ, suc, ◌≤◌, ◌<◌}
use mathlib.Core.Path.{◌≡◌, refl, sym, ap, subst, ◌∙◌}
use mathlib.Core.List.{List, [], ◌∷◌}
use lib.Dec.{ltb}
use lib.ListN.{length, drop}
use Rattle.plan_packed.specs.Slots.{closed}
use Rattle.plan_packed.specs.Inner.Steps.{tree_in}
use Rattle.plan_notation.specs.Tokens.{text_end}
use Rattle.plan_parsing.specs.Goals.{Value, number, number_in, expression_in, value_at}
use Rattle.plan_parsing.specs.Parser as definition
use Rattle.plan_parsing.specs.Parser.{ahead, parse}
use Rattle.plan_parsing.specs.Plan.{fault, Fault, counts_of, procedure_goals, read_plan}
use Rattle.plan_parser_goals.specs.Inner.Encoded.{reason_of}
use Rattle.plan_parser.specs.Inner.Reading as parser
use Rattle.plan_parser.specs.Inner.Reading.{Finished, terms_left}
use Rattle.plan_parser.specs.declared.Parsed.{Parsed}
use Rattle.plan_parser.specs.declared.turns.Halt.{Halt}
use Rattle.std.specs.Prelude.{Option, Some, None, Result, Ok, Err}
use Rattle.std.specs.declared.ops.ControlFlow.{ControlFlow}
use Rattle.std.specs.declared.ops.ControlFlow.TheVariants.{Continue, Break}
use Rattle.plan_reader.specs.declared.Heading.{Heading}
use Rattle.plan_reader.specs.declared.Rest.{Rest}
use Rattle.plan_reader.specs.Inner.Reading.{fault_of, Faulty, PlanHeld, Outcome, ReadBy, ReadAs, Going, GoesAs, Goes, Kept, EndsAs, KeptAs, Keeps}
use Rattle.plan_reader.proofs.Headings.{here}
use Rattle.plan_reader.proofs.OneMore.{OneMore, stops, opens, sized_more, there_more, lasts, goes_on_lem}

abbrev result_of : List ℕ → List ℕ → ℕ → ℕ → ℕ → definition.Parsed
result_of counts ts p at left = parse counts (procedure_goals p) (number 0 ∷ []) left (drop at ts)

-- reading has stopped
pub stop_faulty : {ts counts : List ℕ} {v m : ℕ} {words roots params words' : List ℕ} {p at left : ℕ} {halt : Halt} {r : Option (Result Parsed Halt)}
    → Going ts v m words roots params p at left → p < 32 → counts ≡ counts_of ts → parser.Ran ts words words' left (result_of counts ts p at
    (terms_left words left)) r
    → r ≡ Some (Err halt)
    → Faulty ts 0 halt.reason halt.at
unfolding fault_of
stop_faulty {ts} {counts} {words = words} {words' = words'} {p} {at} {left} {halt} {r} g h e q f =
    go (result_of counts ts p at (terms_left words left)) refl
    (subst (parser.Reads ts words' left (result_of counts ts p at (terms_left words left))) f q.reads)
  where
    go : (R : definition.Parsed) → result_of counts ts p at (terms_left words left) ≡ R → parser.Reads ts words' left R (Some (Err halt))
        → read_plan ts ≡ fault (Fault.reading (reason_of halt.reason)) (drop halt.at ts)
    go (definition.parsed vs n rest) z x = absurd x
    go (definition.stopped s rest) z x =
        stops g h s rest (ap (λ (cs : List ℕ). result_of cs ts p at (terms_left words left)) (sym e) ∙ z) ∙ ap (λ (y : definition.Reason). fault
        (Fault.reading y) rest) x.0
        ∙ ap (fault (Fault.reading (reason_of halt.reason))) (sym x.1)

-- the arrays are too short
pub read_full : {ts words words' : List ℕ} {left : ℕ} {R : definition.Parsed} {r : Option (Result Parsed Halt)} → parser.Ran ts words words' left R r → r ≡ None
    → length words' < 1024
read_full {ts} {words} {words'} {left} {R} {r} q f = go R (subst (parser.Reads ts words' left R) f q.reads)
  where
    go : (S : definition.Parsed) → parser.Reads ts words' left S None → length words' < 1024
    go (definition.parsed vs n rest) x = x
    go (definition.stopped s rest) x = x

-- a procedure has been read
pub record Got (ts words' : List ℕ) (left : ℕ) (R : definition.Parsed) (x : Parsed) : Type 0 where
  pub values : List Value
  pub terms : ℕ
  pub rest : List ℕ
  pub parsed_is : R ≡ definition.parsed values terms rest
  pub finished : Finished ts words' left values terms rest x.root x.parameters x.left x.at

pub read_finished : {ts words words' : List ℕ} {left : ℕ} {parsed : Parsed} {R : definition.Parsed} {r : Option (Result Parsed Halt)} → parser.Ran ts words words' left R r
    → r ≡ Some (Ok parsed)
    → Got ts words' left R parsed
read_finished {ts} {words} {words'} {left} {parsed} {R} {r} q f = go R refl (subst (parser.Reads ts words' left R) f q.reads)
  where
    go : (S : definition.Parsed) → R ≡ S → parser.Reads ts words' left S (Some (Ok parsed)) → Got ts words' left R parsed
    go (definition.parsed vs n rest) z x = record { values = vs; terms = n; rest = rest; parsed_is = z; finished = x }
    go (definition.stopped s rest) z x = absurd x

module _ {ts counts : List ℕ} {v m : ℕ} {words roots params words' : List ℕ} {p at left : ℕ} {x : Parsed}
    (g : Going ts v m words roots params p at left) (h : p < 32) (e : counts ≡ counts_of ts) (w : parser.Kept left words words')
    (t : Got ts words' left (result_of counts ts p at (terms_left words left)) x) where
  one_more_lem : OneMore words words' left t.values t.terms x.root x.parameters x.left
  one_more_lem =
      let f = t.finished in
      record {
        tree_is = f.tree_is;
        count_is = f.parameters_are;
        terms_are = f.left_is;
        root_there = f.root_there;
        root_below = f.root_below;
        count_few = f.parameters_few;
        fewer = f.fewer;
        ordered = w.ordered;
        words_long = w.long;
        stay = w.terms_stay;
      }

  result_is : result_of (counts_of ts) ts p at (terms_left words left) ≡ definition.parsed t.values t.terms t.rest
  result_is = ap (λ (cs : List ℕ). result_of cs ts p at (terms_left words left)) (sym e) ∙ t.parsed_is

  -- the slots, as the code sees them
  closed_is : closed (λ y. ltb y x.parameters) (tree_in words' x.root) ≡ closed (λ y. ltb y (number_in (value_at t.values 1))) (expression_in (value_at t.values 0))
  closed_is =
      ap (λ (j : ℕ). closed (λ y. ltb y j) (tree_in words' x.root)) t.finished.parameters_are
      ∙ ap (closed (λ y. ltb y (number_in (value_at t.values 1)))) t.finished.tree_is

  next_is : ahead t.rest 0 ≡ ahead ts x.at
  next_is = ap (λ (us : List ℕ). ahead us 0) (sym t.finished.rest_is) ∙ here ts x.at

  last_held : {roots' params' : List ℕ} → Kept words' roots params roots' params' p x.root x.parameters → ahead ts x.at ≡ text_end
      → PlanHeld ts v m (suc p) x.left words' roots' params'
  last_held q f =
      rw (q.roots_are, q.counts_are)
      (record {
        says = lasts g h t.values t.terms t.rest result_is one_more_lem (sym closed_is ∙ q.bound) (next_is ∙ f);
        ordered = w.ordered;
        there = there_more g h t.values t.terms t.rest result_is one_more_lem;
        sized = sized_more g h t.values t.terms t.rest result_is one_more_lem;
        few = h;
      })

  more_going : {roots' params' : List ℕ} → Kept words' roots params roots' params' p x.root x.parameters → (ahead ts x.at ≡ text_end → ⊥)
      → Going ts v m words' roots' params' (suc p) x.at x.left
  more_going q f =
      rw (q.roots_are, q.counts_are)
      (goes_on_lem g h t.values t.terms t.rest result_is one_more_lem x.at (sym closed_is ∙ q.bound) t.finished.rest_is t.finished.inside
      (λ z. f (sym next_is ∙ z)))

  -- the heading of the plan
  module _ (heading : Heading) (v_is : heading.version ≡ v) (m_is : heading.mask ≡ m) where
    ends_as : (roots' params' : List ℕ) (r : Outcome) → EndsAs ts heading p at words' roots params roots' params' x r
        → GoesAs ts v m words' roots' params' p (Break r)
    unfolding fault_of
    ends_as roots' params' (Some (Err f)) q =
        opens g h t.values t.terms t.rest result_is (sym closed_is ∙ q.0) ∙ sym (rw (q.1, q.2) refl)
    ends_as roots' params' (Some (Ok held)) q =
        rw (q.2, v_is, m_is) (last_held q.0 q.1, refl, refl, refl)
    ends_as roots' params' None q = absurd q

    kept_as : (roots' params' : List ℕ) (r : ControlFlow Outcome Rest) → KeptAs ts heading p at words' roots params roots' params' x r
        → GoesAs ts v m words' roots' params' p r
    kept_as roots' params' (Break r) q = ends_as roots' params' r q
    kept_as roots' params' (Continue r) q = rw q.2 (more_going q.0 q.1)

    pub kept_goes : {roots' params' : List ℕ} {r : ControlFlow Outcome Rest} → Keeps ts heading p at words' roots params roots' params' x r
        → Goes ts v m words' roots' params' p r
    kept_goes {roots'} {params'} {r} q = record { so = kept_as roots' params' r q.so }

-- ---- what a step says, by what follows it

module _ {ts : List ℕ} {v m : ℕ} {words roots params : List ℕ} {p : ℕ} {r : ControlFlow Outcome Rest} (g : Goes ts v m words roots params p r) where
  pub on_going : {rest : Rest} → r ≡ Continue rest → Going ts v m words roots params (suc p) rest.at rest.left
  on_going e = subst (GoesAs ts v m words roots params p) e g.so

  pub ended : {o : Outcome} → r ≡ Break o → v ≤ 1 → ReadAs ts words roots params o
  ended {o} e few = record { so = go o (subst (GoesAs ts v m words roots params p) e g.so) }
    where
      go : (o : Outcome) → GoesAs ts v m words roots params p (Break o) → ReadBy ts words roots params o
      go (Some (Ok h)) (held, same_v, same_m, same_p) = rw (same_v, same_m, same_p) (held, few)
      go (Some (Err f)) x = x
      go None x = x
