-- `write_shot_list` meets its contract: what is read decides as the whole input does. Assumes nothing.
use Rattle.std.proofs.Common.{rules, arith, ◌≡◌, ℕ, ◌<◌, ◌≤◌, List, [], ◌++◌, length, take, length-take, length-take-le, take_all}
use Rattle.std.proofs.Common.{sym, ap, ◌∙◌, Option, Some, None, Result, Ok, Err}
use Rattle.std.proofs.Math.Logic.{◌⊎◌, inl, inr}
use Rattle.std.proofs.lemmas.Bool.{cases_lt}
use Rattle.std.proofs.lemmas.List.{append-nil, take-append-le}
use Rattle.std.specs.Prelude.{OnOk, IfSome}
use Rattle.std.specs.Io.KnownBytes.{Appends, Consumes, IsAtEnd}
use Rattle.text_shot_list.specs.Printed.{printed}
use Rattle.shotlist_files.proofs.write_shot_list.Goals as goal

-- a buffer's worth of what begins with the bytes that were read, and ends with them where they do not fill the buffer
begins : (size n : ℕ) (bytes rest : List ℕ) → length bytes ≡ n → n ≤ size → (n < size → rest ≡ []) → take size (bytes ++ rest) ≡ bytes
begins size n bytes rest long fits end = elim (cases_lt n size) [
  | inl short ↦ ap (λ l. take size (bytes ++ l)) (end short) ∙ ap (take size) (append-nil bytes) ∙ take_all size bytes (omega (arith, long, fits))
  | inr full ↦ take-append-le size bytes rest (omega (arith, long, full)) ∙ take_all size bytes (omega (arith, long, fits))
]

-- the first bytes of what the reader had are those that were read
decides : (size n : ℕ) (buffer : List ℕ) (known left : Option (List ℕ)) → length buffer ≡ size → n ≤ length buffer
    → Consumes known left (take n buffer) → (n < length buffer → IsAtEnd left) → IfSome known (λ input. take size input ≡ take n buffer)
decides size n buffer None left full fits consumed end = tt
decides size n buffer (Some input) None full fits consumed end = absurd consumed
decides size n buffer (Some input) (Some rest) full fits consumed end =
    ap (take size) consumed ∙ begins size n (take n buffer) rest (length-take-le n buffer fits) (omega (arith, full, fits))
    (λ short. end (omega (arith, full, short)))

-- what holds of each input that the reader may have had holds of the one that it had
of_known : {T E : Type 0} → (r : Result T E) (known : Option (List ℕ)) (P A : List ℕ → Type 0) → IfSome known P
    → ((input : List ℕ) → P input → OnOk r (A input)) → OnOk r (IfSome known A)
of_known (Ok v) None P A h f = tt
of_known (Err e) None P A h f = tt
of_known r (Some input) P A h f = f input h

pub returns : goal.returns
returns g c =
    let e = c.in_ok-size.ensures in
    of_known _ _ _ _ (decides 9291 c.in_ok-size.size c.read_full.new.buffer _ _ (search rules) e.bound e.bytes e.end) c.write_text.ensures
