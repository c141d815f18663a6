-- How many tokens are shown, at most eleven for each term, and that all are tokens. Assumes nothing.
use Prim.Native.Nat.{ℕ, zero, suc, ◌+◌, ◌*◌, ◌≤◌, ◌<◌}
use native.Mathlib.Omega.{arith}
use mathlib.Core.Path.{◌≡◌, refl, sym, ap}
use mathlib.Core.Bool.{Bool, true, false, cond}
use mathlib.Core.List.{List, [], ◌∷◌, ◌++◌}
use mathlib.Core.Option.{Option}
use lib.Dec.{eqb, ltb}
use lib.ListN.{length, length-append, get_or}
use Rattle.plan_packed.specs.Syntax.{Signal, Expression, Condition, Arguments, Procedure, Program}
use Rattle.plan_packed.specs.Format.{mask_bit, fields_from}
use Rattle.plan_written.specs.Terms.{terms_of, terms_ofᶜ, terms_ofᵃ, size}
use Rattle.plan_written.specs.Written.{size_of_all, version_number}
use Rattle.plan_written.proofs.Right.{Ascending, RightFields, RightSlot, Right, Rightᶜ, Rightᵃ, counts_in, RightDefinition, RightDefinitions, RightProgram}
use Rattle.plan_written.proofs.RightPlans.{fields_ascend}
use Rattle.format.specs.Version.{Version, v0, v1}
use Rattle.plan_notation.specs.Tokens.{opening, closing}
use Rattle.plan_notation.specs.Inner.Known.{Known}
use Rattle.plan_notation.specs.Shown.{grouped, binder_token, signal_tokens, shown, shownᶜ, shownᵃ, shown_further, volatile_tokens, procedure_tokens, main_first}
use Rattle.plan_notation.specs.Shown.{shown_plan}

-- at most n codes, all of tokens
abbrev Codes : List ℕ → Type 0
Codes [] = Unit {0}
Codes (t ∷ ts) = (t < 69) × Codes ts

pub record Fit (n : ℕ) (ts : List ℕ) : Type 0 where
  pub few : length ts ≤ n
  pub codes : Codes ts

none : Fit 0 []
none = record { few = omega arith; codes = tt }

more : {n t : ℕ} {ts : List ℕ} → t < 69 → Fit n ts → Fit (suc n) (t ∷ ts)
more h f = record { few = omega (arith, f.few); codes = (h, f.codes) }

codes_append : (ts us : List ℕ) → Codes ts → Codes us → Codes (ts ++ us)
codes_append [] us h k = k
codes_append (t ∷ ts) us h k = (h.0, codes_append ts us h.1 k)

both : {n m : ℕ} {ts us : List ℕ} → Fit n ts → Fit m us → Fit (n + m) (ts ++ us)
both {n} {m} {ts} {us} f g = record { few = omega (arith, f.few, g.few, length-append ts us); codes = codes_append ts us f.codes g.codes }

pub within : {n : ℕ} (m : ℕ) {ts : List ℕ} → n ≤ m → Fit n ts → Fit m ts
within m h f = record { few = omega (arith, f.few); codes = f.codes }

fields_fit : (fs : List ℕ) (f : ℕ) → Ascending f fs → Fit (length fs) fs
fields_fit [] f h = none
fields_fit (g ∷ fs) f h = more (omega (arith, h.1)) (fields_fit fs g h.2)

group_fit : {n : ℕ} (d l : ℕ) (ts : List ℕ) → Fit n ts → Fit (n + 2) (grouped d l ts)
unfolding grouped
group_fit {n} d l ts f = go (ltb l d)
  where
    go : (b : Bool) → Fit (n + 2) (cond b (opening ∷ ts ++ (closing ∷ [])) ts)
    go true = within (n + 2) (omega arith) (more (omega arith) (both f (more (omega arith) none)))
    go false = within (n + 2) (omega arith) f

binder_below : (x : Option ℕ) → RightSlot x → binder_token x < 69
unfolding binder_token
binder_below (Option.some x) h = omega (arith, h)
binder_below Option.none h = omega arith

-- ---- expressions, conditions, arguments

module _ (counts : List ℕ) where
  mutual
    unfolding shown signal_tokens terms_of size

    pub shown_fit : (e : Expression) (d : ℕ) → Right counts e → Fit (11 * size (terms_of e)) (shown d e)
    shown_fit (Expression.literal o) d h = within _ (omega arith) (more (omega arith) none)
    shown_fit (Expression.variable x) d h = within _ (omega arith) (more (omega (arith, h)) none)
    shown_fit (Expression.new fs) d h =
        within _ (omega (arith, h.few)) (more (omega arith) (more (omega arith) (both (fields_fit fs 0 h.ascending) (more (omega arith) none))))
    shown_fit (Expression.read e f) d h = within _ (omega arith) (both (shown_fit e 3 h.0) (more (omega arith) (more (omega (arith, h.1.1)) none)))
    shown_fit (Expression.write e f e') d h =
        within _ (omega arith)
        (group_fit d 0 _ (both (shown_fit e 3 h.0) (more (omega arith) (more (omega (arith, h.1.1)) (more (omega arith) (shown_fit e' 0 h.2))))))
    shown_fit (Expression.let_in x e e') d h =
        within _ (omega arith)
        (group_fit d 0 _ (more (omega arith)
        (more (binder_below x h.0) (more (omega arith) (both (shown_fit e 0 h.1) (more (omega arith) (shown_fit e' 0 h.2)))))))
    shown_fit (Expression.if c e e') d h =
        within _ (omega arith)
        (group_fit d 0 _ (more (omega arith)
        (both (shown_fitᶜ c 0 h.0) (more (omega arith) (both (shown_fit e 0 h.1) (more (omega arith) (shown_fit e' 0 h.2)))))))
    shown_fit (Expression.while c e) d h =
        within _ (omega arith) (group_fit d 0 _ (more (omega arith) (both (shown_fitᶜ c 0 h.0) (more (omega arith) (shown_fit e 0 h.1)))))
    shown_fit (Expression.call m es) d h =
        within _ (omega arith) (more (omega arith) (more (omega (arith, h.0.small)) (more (omega arith) (shown_fitᵃ es h.1))))
    shown_fit (Expression.fork e) d h = within _ (omega arith) (group_fit d 2 _ (more (omega arith) (shown_fit e 2 h)))
    shown_fit (Expression.join e) d h = within _ (omega arith) (group_fit d 2 _ (more (omega arith) (shown_fit e 2 h)))
    shown_fit (Expression.synch e e') d h =
        within _ (omega arith) (group_fit d 0 _ (more (omega arith) (both (shown_fit e 0 h.0) (more (omega arith) (shown_fit e' 0 h.1)))))
    shown_fit (Expression.hold o e) d h = absurd h
    shown_fit (Expression.signal Signal.wait e) d h = within _ (omega arith) (group_fit d 2 _ (more (omega arith) (shown_fit e 2 h)))
    shown_fit (Expression.signal Signal.notify e) d h = within _ (omega arith) (group_fit d 2 _ (more (omega arith) (shown_fit e 2 h)))
    shown_fit (Expression.signal Signal.notify_all e) d h = within _ (omega arith) (group_fit d 2 _ (more (omega arith) (more (omega arith) (shown_fit e 2 h))))
    shown_fit (Expression.waiting o) d h = absurd h

    pub shown_fitᶜ : (c : Condition) (d : ℕ) → Rightᶜ counts c → Fit (11 * size (terms_ofᶜ c)) (shownᶜ d c)
    shown_fitᶜ Condition.truth d h = within _ (omega arith) (more (omega arith) none)
    shown_fitᶜ (Condition.not c) d h = within _ (omega arith) (group_fit d 1 _ (more (omega arith) (shown_fitᶜ c 1 h)))
    shown_fitᶜ (Condition.and c c') d h = within _ (omega arith) (group_fit d 0 _ (both (shown_fitᶜ c 1 h.0) (more (omega arith) (shown_fitᶜ c' 0 h.1))))
    shown_fitᶜ (Condition.equal e e') d h = within _ (omega arith) (group_fit d 1 _ (both (shown_fit e 2 h.0) (more (omega arith) (shown_fit e' 2 h.1))))

    pub shown_fitᵃ : (es : Arguments) → Rightᵃ counts es → Fit (11 * size (terms_ofᵃ es)) (shownᵃ es)
    shown_fitᵃ Arguments.end h = within _ (omega arith) (more (omega arith) none)
    shown_fitᵃ (Arguments.argument e es) h = within _ (omega arith) (both (shown_fit e 0 h.0) (further_fit es h.1))

    further_fit : (es : Arguments) → Rightᵃ counts es → Fit (11 * size (terms_ofᵃ es)) (shown_further es)
    further_fit Arguments.end h = within _ (omega arith) (more (omega arith) none)
    further_fit (Arguments.argument e es) h = within _ (omega arith) (more (omega arith) (both (shown_fit e 0 h.0) (further_fit es h.1)))

-- ---- the plan

volatiles_fit : (fs : List ℕ) → Ascending 0 fs → Fit (suc (length fs)) (volatile_tokens fs)
unfolding volatile_tokens
volatiles_fit [] h = within 1 (omega arith) none
volatiles_fit (f ∷ fs) h = more (omega arith) (fields_fit (f ∷ fs) 0 h)

procedures_fit : (counts : List ℕ) (ds : List Procedure) (p : ℕ) → p + length ds ≤ 32 → RightDefinitions counts ds
    → Fit (11 * size_of_all ds + 6 * length ds) (procedure_tokens p ds)
unfolding procedure_tokens size_of_all
procedures_fit counts [] p k h = none
procedures_fit counts (d ∷ ds) p k h =
    within _ (omega arith)
    (more (omega arith) (more (omega arith) (more (omega arith) (more (omega (arith, h.0.few_parameters)) (more (omega arith) (more (omega arith)
    (both (shown_fit counts d.body 0 h.0.right_body) (procedures_fit counts ds (suc p) (omega arith) h.1))))))))

main_fit : (counts : List ℕ) (ds : List Procedure) → length ds ≤ 32 → RightDefinitions counts ds → Fit (11 * size_of_all ds + 6 * length ds) (main_first ds)
unfolding main_first size_of_all
main_fit counts [] k h = none
main_fit counts (d ∷ ds) k h = within _ (omega arith) (both (shown_fit counts d.body 0 h.0.right_body) (procedures_fit counts ds 1 (omega arith) h.1))

version_below : (v : Version) → version_number v < 69
unfolding version_number
version_below v0 = omega arith
version_below v1 = omega arith

fields_few : (m f n : ℕ) → length (fields_from m f n) ≤ n
unfolding fields_from
fields_few m f zero = omega arith
fields_few m f (suc n) = go (eqb (mask_bit m f) 1) (fields_few m (suc f) n)
  where
    go : (b : Bool) → length (fields_from m (suc f) n) ≤ n → length (cond b (f ∷ fields_from m (suc f) n) (fields_from m (suc f) n)) ≤ suc n
    go true h = omega arith
    go false h = omega arith

in_all : (a b c : ℕ) → a ≤ 31 → b ≤ 1024 → c ≤ 32 → suc (suc (suc a + (11 * b + 6 * c))) ≤ 11490
in_all a b c h k l = omega arith

-- a plan that there can be has at most 11,490 tokens
pub plan_fit : (g : Program) → RightProgram g → Fit 11490 (shown_plan g)
unfolding shown_plan
plan_fit g r =
    within 11490 (in_all _ _ _ (fields_few g.volatiles 1 31) r.few_terms r.few_procedures)
    (more (omega arith) (more (version_below g.version)
    (both (volatiles_fit (fields_from g.volatiles 1 31) (fields_ascend g.volatiles 1 31 0 refl (omega arith)))
    (main_fit (counts_in g.procedures) g.procedures r.few_procedures r.each_procedure))))

-- they are codes of tokens
known_from : (ts : List ℕ) → Codes ts → Known ts
known_from [] h k = omega arith
known_from (t ∷ ts) h zero = h.0
known_from (t ∷ ts) h (suc k) = known_from ts h.1 k

pub known : {n : ℕ} {ts : List ℕ} → Fit n ts → Known ts
known {n} {ts} f = known_from ts f.codes
