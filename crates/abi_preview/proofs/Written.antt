-- The bytes of each preview, by what the code puts into the area. Assumes nothing.
use Prim.Native.Nat.{ℕ}
use mathlib.Core.Path.{◌≡◌, ap, ◌∙◌}
use mathlib.Core.List.{List, [], ◌∷◌, ◌++◌}
use Rattle.run_outcome.specs.declared.NoRoom.{NoRoom}
use Rattle.run_outcome.specs.declared.Stop.{Stop}
use Rattle.run_outcome.specs.declared.Stop.TheVariants as stop
use Rattle.run_outcome.specs.declared.ThreadState.{ThreadState}
use Rattle.play.specs.Answer.{stop_of, status_of}
use Rattle.abi_thread_bytes.specs.Bytes.{three, stop_byte, thread_bytes}
use Rattle.abi_thread_bytes.specs.declared.ThreadBytes.{ThreadBytes}
use Rattle.run_last_pick.specs.declared.RecordBytes.{RecordBytes}
use Rattle.run_last_pick.specs.declared.Preview.{Preview}
use Rattle.run_last_pick.specs.declared.Preview.TheVariants as code
use Rattle.preview.specs.Answer.{preview_of, BytesAsLogged}
use Rattle.abi_preview.specs.Bytes.{preview_bytes}
use Rattle.abi_preview.specs.Inner.Small.{eight, no_record}

-- these are the bytes of the preview
abbrev pub Written : List ℕ → Preview → Type 0
Written after x = after ≡ preview_bytes (preview_of x)

module _ (after : List ℕ) (why : ThreadBytes) (logged : RecordBytes) where
  pub stopped : (e : Stop) → after ≡ eight 5 why logged → why ≡ three (stop_byte (stop_of e)) 0 0 → logged ≡ no_record → Written after (code.Stopped e)
  unfolding preview_of preview_bytes
  stopped e f w r = f ∙ ap (λ (y : ThreadBytes). eight 5 y logged) w ∙ ap (eight 5 (three (stop_byte (stop_of e)) 0 0)) r

  pub passed : (x : ThreadState) → after ≡ eight 0 why logged → why ≡ thread_bytes (status_of x) → logged ≡ no_record → Written after (code.Passed x)
  unfolding preview_of preview_bytes
  passed x f w r = f ∙ ap (λ (y : ThreadBytes). eight 0 y logged) w ∙ ap (eight 0 (thread_bytes (status_of x))) r

  pub moved : after ≡ eight 1 why logged → why ≡ three 0 0 0 → logged ≡ no_record → Written after code.Moved
  unfolding preview_of preview_bytes
  moved f w r = f ∙ ap (λ (y : ThreadBytes). eight 1 y logged) w ∙ ap (eight 1 (three 0 0 0)) r

  pub recorded : after ≡ eight 2 why logged → why ≡ three 0 0 0 → BytesAsLogged logged → Written after (code.Recorded logged)
  unfolding preview_of preview_bytes
  recorded f w r = f ∙ ap (λ (y : ThreadBytes). eight 2 y logged) w ∙ ap (λ (l : List ℕ). 2 ∷ 0 ∷ 0 ∷ 0 ∷ l ++ (0 ∷ [])) r

  pub raced : after ≡ eight 3 why logged → why ≡ three (stop_byte (stop_of stop.Race)) 0 0 → BytesAsLogged logged → Written after (code.Race logged)
  unfolding preview_of preview_bytes stop_of stop_byte
  raced f w r = f ∙ ap (λ (y : ThreadBytes). eight 3 y logged) w ∙ ap (λ (l : List ℕ). 3 ∷ 1 ∷ 0 ∷ 0 ∷ l ++ (0 ∷ [])) r

  pub no_room_lem : (k : NoRoom) → after ≡ eight 4 why logged → why ≡ three (stop_byte (stop_of (stop.NoRoom k))) 0 0 → logged ≡ no_record
      → Written after (code.NoRoom k)
  unfolding preview_of preview_bytes stop_of
  no_room_lem k f w r = f ∙ ap (λ (y : ThreadBytes). eight 4 y logged) w ∙ ap (eight 4 (three (stop_byte (stop_of (stop.NoRoom k))) 0 0)) r
