-- A preview as a number and eight bytes. Assumes nothing.
use Rattle.std.specs.Prelude.{ℕ, List, [], ◌∷◌, ◌++◌}
use Rattle.std.proofs.Math.Option.{some, none}
use Rattle.log_records.specs.Packed.{bytes_of}
use Rattle.rules.specs.Run.{Stop}
use Rattle.abi_thread_bytes.specs.Bytes.{stop_byte, thread_bytes}
use Rattle.abi_convention.specs.Convention.{value_number, refusal_number}
use Rattle.preview.specs.Preview.{Preview, Previewed}

-- byte 0: 0 passed over, 1 moved without a record, 2 moved with one, 3 race, 4 no room, 5 the schedule had stopped;
-- bytes 1 to 3: of 0 the thread's state, value or object, field, as an outcome has them; of 3, 4 and 5 the stop in byte 1, as an outcome has it;
-- bytes 4 to 6: the record of 2 and 3; byte 7 zero; what is not said is 0
unfoldable pub preview_bytes : Preview → List ℕ
unfolding thread_bytes stop_byte bytes_of
preview_bytes (Preview.passed x) = 0 ∷ (thread_bytes x).state ∷ (thread_bytes x).named ∷ (thread_bytes x).field ∷ 0 ∷ 0 ∷ 0 ∷ 0 ∷ []
preview_bytes (Preview.moved none) = 1 ∷ 0 ∷ 0 ∷ 0 ∷ 0 ∷ 0 ∷ 0 ∷ 0 ∷ []
preview_bytes (Preview.moved (some r)) = 2 ∷ 0 ∷ 0 ∷ 0 ∷ bytes_of (r ∷ []) ++ (0 ∷ [])
preview_bytes (Preview.race r) = 3 ∷ stop_byte Stop.race ∷ 0 ∷ 0 ∷ bytes_of (r ∷ []) ++ (0 ∷ [])
preview_bytes (Preview.no_room k) = 4 ∷ stop_byte (Stop.no_room k) ∷ 0 ∷ 0 ∷ 0 ∷ 0 ∷ 0 ∷ 0 ∷ []
preview_bytes (Preview.stopped e) = 5 ∷ stop_byte e ∷ 0 ∷ 0 ∷ 0 ∷ 0 ∷ 0 ∷ 0 ∷ []

-- the number: 0 for a preview
unfoldable pub preview_number : Previewed → ℕ
preview_number (Previewed.shows x) = value_number 0
preview_number (Previewed.refused r) = refusal_number r

-- the area for the eight bytes: untouched where the preview is refused
unfoldable pub out_after : List ℕ → Previewed → List ℕ
unfolding preview_bytes
out_after out (Previewed.refused r) = out
out_after out (Previewed.shows x) = preview_bytes x
