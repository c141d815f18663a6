-- Previews whose numbers fit their bytes, as those of every run do, and the eight bytes as the code puts them. For inner contracts; no reader of the entries'
-- promises needs it. Assumes nothing.
use Rattle.std.specs.Prelude.{ℕ, List, [], ◌∷◌}
use Rattle.plan_refusals.specs.Inner.Small.{SmallRefusal}
use Rattle.abi_thread_bytes.specs.Inner.Small.{SmallStatus}
use Rattle.abi_thread_bytes.specs.declared.ThreadBytes.{ThreadBytes}
use Rattle.run_last_pick.specs.declared.RecordBytes.{RecordBytes}
use Rattle.preview.specs.Preview.{Preview, Previewed}

abbrev pub SmallPreview : Preview → Type 0
SmallPreview (Preview.passed x) = SmallStatus x
SmallPreview (Preview.moved r) = Unit {0}
SmallPreview (Preview.race r) = Unit {0}
SmallPreview (Preview.no_room k) = Unit {0}
SmallPreview (Preview.stopped e) = Unit {0}

abbrev pub SmallPreviewed : Previewed → Type 0
SmallPreviewed (Previewed.refused r) = SmallRefusal r
SmallPreviewed (Previewed.shows x) = SmallPreview x

-- what the pick would do, three bytes that say why, the record's three, 0
abbrev pub eight : ℕ → ThreadBytes → RecordBytes → List ℕ
eight kind why logged = kind ∷ why.state ∷ why.named ∷ why.field ∷ logged.high ∷ logged.middle ∷ logged.low ∷ 0 ∷ []

-- no record
abbrev pub no_record : RecordBytes
no_record = record { high = 0; middle = 0; low = 0 }
