-- What the judge says of the cases of the shot list (document 01, "Shot list"; document 02, E7). Assumes nothing.
use Rattle.std.specs.Prelude.{ℕ, List, [], ◌∷◌}
use Rattle.std.proofs.Math.Option.{Option, some, none}
use Rattle.log_conflicts.specs.Judge.{Judged, refused, named}
use Rattle.log_records.specs.Record.{Record}
use Rattle.log_records.specs.Packed.{log_of}
use Rattle.rules.specs.ShotList.{Expected}

-- the judgement of what comes of a case, for any judge of logs: of a run, the judge's of the bytes that it wrote; a refused play has its own refusal
unfoldable pub judged_by : (List Record → Option ℕ) → Expected → Judged
unfolding log_of
judged_by judge (Expected.refused number place) = refused (record { number = number; place = place })
judged_by judge (Expected.ran o log bytes) = named (judge (log_of bytes))

-- the judgements of the rows, in their order
unfoldable pub judgements : List Judged
judgements =
    named (some 3)  -- P with its race: the last record
    ∷ named (some 3)  -- "That run of P is judged at record 3."
    ∷ refused (record { number = 1; place = 0 })  -- P cut to 54 bytes
    ∷ named none  -- P, no picks
    ∷ named none  -- `new` of eight fields
    ∷ refused (record { number = 4; place = 0 })  -- of nine
    ∷ named none  -- `if not true then null else null`
    ∷ named none  -- with `not not true`
    ∷ named none  -- `synch null do null`
    ∷ named none  -- a second synch on null inside
    ∷ named none  -- `join null` in main
    ∷ named none  -- `join (fork null)`
    ∷ []
