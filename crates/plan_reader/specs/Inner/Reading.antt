-- What is left to read of a plan's tokens. No reader of the entry's promise needs it. Assumes nothing.
use Rattle.std.specs.Prelude.{ℕ, suc, ◌+◌, ◌-◌, ◌^◌, ◌≤◌, ◌<◌, ◌≡◌, Bool, true, false, cond, ◌&&◌, List, [], ◌∷◌, eqb, ltb, length, get_or, drop, set}
use Rattle.std.specs.Prelude.{Option, Some, None, Result, Ok, Err}
use Rattle.plan_notation.specs.Tokens.{procedure_word, text_end}
use Rattle.plan_parsing.specs.Parser.{ahead}
use Rattle.plan_parsing.specs.Plan.{Reading, plan, fault, Fault, counts_of, Before, procedures_by, mask_from, behind_fields, with_volatiles, read_plan}
use Rattle.plan_packed.specs.Slots.{closed}
use Rattle.plan_packed.specs.Inner.Steps.{Ordered, tree_in}
use Rattle.plan_written.specs.Written.{size_of_all}
use Rattle.plan_writer.specs.Inner.Held.{held_from, held_program}
use Rattle.plan_parser_goals.specs.Inner.Encoded.{reason_of}
use Rattle.plan_parser.specs.Inner.Reading.{terms_left}
use Rattle.plan_reader.specs.declared.Heading.{Heading}
use Rattle.plan_parser.specs.declared.Parsed.{Parsed}
use Rattle.plan_reader.specs.declared.HeldPlan.{HeldPlan}
use Rattle.plan_reader.specs.declared.PlanFault.{PlanFault}
use Rattle.plan_reader.specs.declared.Rest.{Rest}
use Rattle.std.specs.declared.ops.ControlFlow.{ControlFlow}
use Rattle.std.specs.declared.ops.ControlFlow.TheVariants.{Continue, Break}

-- the parameter count at a token, if it is the word `procedure`
unfoldable pub count_at : List ℕ → ℕ → List ℕ
count_at ts i = cond (eqb (ahead ts i) procedure_word) (ahead ts (i + 3) ∷ []) []

-- no procedure has been read
abbrev pub none : ℕ → ℕ → Before
none v m = record { version = v; mask = m; procedures = [] }

-- the procedures are left to be read
abbrev pub Behind : List ℕ → Reading → ℕ → ℕ → ℕ → Type 0
Behind ts r v m at = r ≡ procedures_by (counts_of ts) 32 0 (none v m) 1024 (drop at ts)

-- a field that is higher than the last
unfoldable pub is_next : ℕ → ℕ → Bool
is_next f t = ltb f t && ltb t 32

-- the volatile fields have been read
pub record Fielded (ts : List ℕ) (from : ℕ) (h : Heading) : Type 0 where
  pub mask_is : h.mask ≡ mask_from (2 ^ 31) 0 (drop from ts)
  pub rest_is : drop h.at ts ≡ behind_fields 0 (drop from ts)
  pub inside : h.at ≤ length ts

-- where some may be named
pub record Marked (ts : List ℕ) (v from : ℕ) (h : Heading) : Type 0 where
  pub version_is : h.version ≡ v
  pub behind : (counts : List ℕ) → with_volatiles counts v (drop from ts) ≡ procedures_by counts 32 0 (none v h.mask) 1024 (drop h.at ts)
  pub inside : h.at ≤ length ts

-- the header has been read: the version and the mask, or a version that there is not
pub record Headed (ts : List ℕ) (h : Heading) : Type 0 where
  pub known : h.version ≤ 1 → Behind ts (read_plan ts) h.version h.mask h.at
  pub unknown : 1 < h.version → read_plan ts ≡ fault Fault.version (drop h.at ts)
  pub inside : h.at ≤ length ts

-- ---- procedures

-- why a text is no plan, by the kind of the fault and the parser's reason
unfoldable pub fault_of : ℕ → ℕ → Fault
unfolding reason_of
fault_of kind r = cond (eqb kind 0) (Fault.reading (reason_of r)) (cond (eqb kind 1) Fault.version (cond (eqb kind 2) Fault.slots Fault.end))

-- reading stops before a token
abbrev pub Faulty : List ℕ → ℕ → ℕ → ℕ → Type 0
Faulty ts kind reason at = read_plan ts ≡ fault (fault_of kind reason) (drop at ts)

-- a plan of n procedures has been read into arrays, and so many terms are left
pub record PlanHeld (ts : List ℕ) (v m n left : ℕ) (words roots counts : List ℕ) : Type 0 where
  pub says : read_plan ts ≡ plan (held_program v m n words roots counts)
  pub ordered : Ordered words
  pub there : (q : ℕ) → q < n → (left ≤ get_or roots q 0) × (get_or roots q 0 < 1024) × (get_or counts q 0 ≤ 8)
  pub sized : size_of_all (held_from words roots counts 0 n) + left ≡ length words
  pub few : n ≤ 32

abbrev pub Outcome : Type 0
Outcome = Option (Result HeldPlan PlanFault)

-- what comes of a plan's tokens; arrays are too short only where they are not for every text
abbrev pub ReadBy : List ℕ → List ℕ → List ℕ → List ℕ → Outcome → Type 0
ReadBy ts words roots counts (Some (Ok h)) = PlanHeld ts h.version h.mask h.procedures h.left words roots counts × (h.version ≤ 1)
ReadBy ts words roots counts (Some (Err f)) = Faulty ts f.kind f.reason f.at
ReadBy ts words roots counts None = length words < 1024

pub record ReadAs (ts words roots counts : List ℕ) (r : Outcome) : Type 0 where
  pub so : ReadBy ts words roots counts r

-- where reading stands: procedure p is next
pub record Going (ts : List ℕ) (v m : ℕ) (words roots counts : List ℕ) (p at left : ℕ) : Type 0 where
  pub same : read_plan ts ≡ procedures_by (counts_of ts) (32 - p) p (record { version = v; mask = m; procedures = held_from words roots counts 0 p })
      (terms_left words left) (drop at ts)
  pub ordered : Ordered words
  pub few_words : length words ≤ 1024
  pub roots_long : length roots ≡ 32
  pub counts_long : length counts ≡ 32
  pub there : (q : ℕ) → q < p → (left ≤ get_or roots q 0) × (get_or roots q 0 < 1024) × (get_or counts q 0 ≤ 8)
  pub sized : size_of_all (held_from words roots counts 0 p) + left ≡ length words
  pub inside : at ≤ length ts
  pub few : p ≤ 32

-- after procedure p: the next one, or what comes of the plan
abbrev pub GoesAs : List ℕ → ℕ → ℕ → List ℕ → List ℕ → List ℕ → ℕ → ControlFlow Outcome Rest → Type 0
GoesAs ts v m words roots counts p (Continue rest) = Going ts v m words roots counts (suc p) rest.at rest.left
GoesAs ts v m words roots counts p (Break (Some (Ok h))) =
    PlanHeld ts v m (suc p) h.left words roots counts × (h.version ≡ v) × (h.mask ≡ m) × (h.procedures ≡ suc p)
GoesAs ts v m words roots counts p (Break (Some (Err f))) = Faulty ts f.kind f.reason f.at
GoesAs ts v m words roots counts p (Break None) = length words < 1024

pub record Goes (ts : List ℕ) (v m : ℕ) (words roots counts : List ℕ) (p : ℕ) (r : ControlFlow Outcome Rest) : Type 0 where
  pub so : GoesAs ts v m words roots counts p r

-- a procedure that has been read is kept, if its slots are bound
pub record Kept (words roots counts roots' counts' : List ℕ) (p root k : ℕ) : Type 0 where
  pub bound : closed (λ x. ltb x k) (tree_in words root) ≡ true
  pub roots_are : roots' ≡ set roots p root
  pub counts_are : counts' ≡ set counts p k

-- what comes of a plan, if it is known behind a procedure that has been read
abbrev pub EndsAs : List ℕ → Heading → ℕ → ℕ → List ℕ → List ℕ → List ℕ → List ℕ → List ℕ → Parsed → Outcome → Type 0
EndsAs ts h p at words roots counts roots' counts' x (Some (Err f)) =
    (closed (λ y. ltb y x.parameters) (tree_in words x.root) ≡ false) × (f.kind ≡ 2) × (f.at ≡ at)
EndsAs ts h p at words roots counts roots' counts' x (Some (Ok g)) =
    Kept words roots counts roots' counts' p x.root x.parameters × (ahead ts x.at ≡ text_end)
    × (g ≡ record { version = h.version; mask = h.mask; procedures = suc p; left = x.left })
EndsAs ts h p at words roots counts roots' counts' x None = ⊥

abbrev pub KeptAs : List ℕ → Heading → ℕ → ℕ → List ℕ → List ℕ → List ℕ → List ℕ → List ℕ → Parsed → ControlFlow Outcome Rest → Type 0
KeptAs ts h p at words roots counts roots' counts' x (Break r) = EndsAs ts h p at words roots counts roots' counts' x r
KeptAs ts h p at words roots counts roots' counts' x (Continue rest) =
    Kept words roots counts roots' counts' p x.root x.parameters × (ahead ts x.at ≡ text_end → ⊥) × (rest ≡ record { at = x.at; left = x.left })

pub record Keeps (ts : List ℕ) (h : Heading) (p at : ℕ) (words roots counts roots' counts' : List ℕ) (x : Parsed)
    (r : ControlFlow Outcome Rest) : Type 0 where
  pub so : KeptAs ts h p at words roots counts roots' counts' x r
