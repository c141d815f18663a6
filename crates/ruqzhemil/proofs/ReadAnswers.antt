-- What the tool `read` answers is small: the length of a plan that passes the check. Assumes nothing.
use Prim.Native.Nat.{ℕ}
use mathlib.Core.Path.{◌≡◌, refl}
use mathlib.Core.Bool.{Bool, true, false, cond}
use mathlib.Core.List.{List}
use lib.ListN.{length}
use Rattle.plan_written.specs.Written.{written}
use Rattle.plan_notation.specs.Lexing.{codes_of}
use Rattle.plan_parsing.specs.Plan.{Reading, plan, fault, read_plan}
use Rattle.plan_parsing.proofs.PlanRight.{text_passes}
use Rattle.read.specs.Read.{Read, tokens, short_for_plan, failed_at, too_many, answer_by, read_answer}
use Rattle.abi_numbers.specs.Inner.Small.{SmallRead}
use Rattle.ruqzhemil.proofs.Tools.{few_bytes}

either_small : (b : Bool) (x y : Read) → SmallRead x → SmallRead y → SmallRead (cond b x y)
either_small true x y h k = h
either_small false x y h k = k

read_small : (text area : List ℕ) (r : Reading) → read_plan (codes_of text) ≡ r → SmallRead (answer_by text area r)
unfolding answer_by failed_at
read_small text area (plan g) e =
    either_small (short_for_plan g area) Read.short (Read.written (length (written g))) tt (few_bytes (written g) (text_passes text g e).0)
read_small text area (fault f rest) e = tt

pub small_read : (text area : List ℕ) → SmallRead (read_answer text area)
unfolding read_answer failed_at
small_read text area =
    let r = read_plan (codes_of text) in either_small (too_many text) (failed_at text 16384 tokens) (answer_by text area r) tt (read_small text area r refl)
