-- The shot list (document 01): the cases marked *, each with its plan, its picks and what must come of them. Assumes nothing.
use Rattle.std.specs.Prelude.{ℕ, List, [], ◌∷◌, take, replicate}
use Rattle.log_records.specs.Record.{new, read, write, acquire, release, fork, join, lacks_read, Record, entry}
use Rattle.rules.specs.Step.{for_join}
use Rattle.rules.specs.Run.{Stop, end, race, Status, absent, finished, ready, waiting, lacking, Outcome}

-- what must come of a case: a refusal with its number and place, or a run with its outcome, its log and the log's bytes
pub data Expected : Type 0 where
  refused : ℕ → ℕ → Expected
  ran : Outcome → List Record → List ℕ → Expected

-- a case: its plan, its picks and what must come of them
pub record Shot : Type 0 where
  pub plan : List ℕ
  pub picks : List ℕ
  pub expected : Expected

-- an outcome: how the run ended, picks, moves, records, and the eight thread states; in no case does a thread learn a key from another
abbrev pub outcome : Stop → ℕ → ℕ → ℕ → List Status → Outcome
outcome e p m r ts = record { stop = e; picks = p; moves = m; records = r; threads = ts; totals = replicate 8 0 }

-- Plan P: main is `let 0 = new(1) in let - = fork (v0.1 := null) in v0.1`, field 1 plain, nine terms, 55 bytes
unfoldable pub plan_p : List ℕ
plan_p =
    0x10 ∷ 0x40 ∷ 0x24 ∷ 0x00  -- header
    ∷ 0x80 ∷ 0x00 ∷ 0x00 ∷ 0x00  -- volatile mask
    ∷ 0x00 ∷ 0x00  -- procedure 0
    ∷ 0x28 ∷ 0x00 ∷ 0x20 ∷ 0x10 ∷ 0x00  -- term 0
    ∷ 0x12 ∷ 0x00 ∷ 0x00 ∷ 0x00 ∷ 0x00  -- term 1
    ∷ 0x2f ∷ 0x80 ∷ 0x60 ∷ 0x38 ∷ 0x00  -- term 2
    ∷ 0x48 ∷ 0x08 ∷ 0x00 ∷ 0x00 ∷ 0x00  -- term 3
    ∷ 0x20 ∷ 0x0a ∷ 0x10 ∷ 0x18 ∷ 0x00  -- term 4
    ∷ 0x08 ∷ 0x00 ∷ 0x00 ∷ 0x00 ∷ 0x00  -- term 5
    ∷ 0x00 ∷ 0x00 ∷ 0x00 ∷ 0x00 ∷ 0x00  -- term 6
    ∷ 0x18 ∷ 0x10 ∷ 0x10 ∷ 0x00 ∷ 0x00  -- term 7
    ∷ 0x08 ∷ 0x00 ∷ 0x00 ∷ 0x00 ∷ 0x00  -- term 8
    ∷ []

-- P cut to 54 bytes
unfoldable pub plan_p54 : List ℕ
unfolding plan_p
plan_p54 = take 54 plan_p

-- `new` of eight fields, 1 to 8
unfoldable pub new_of_eight : List ℕ
new_of_eight =
    0x10 ∷ 0x40 ∷ 0x04 ∷ 0x00  -- header
    ∷ 0x80 ∷ 0x00 ∷ 0x00 ∷ 0x00  -- volatile mask
    ∷ 0x00 ∷ 0x00  -- procedure 0
    ∷ 0x13 ∷ 0xfc ∷ 0x00 ∷ 0x00 ∷ 0x00  -- term 0
    ∷ []

-- `new` of nine fields
unfoldable pub new_of_nine : List ℕ
new_of_nine =
    0x10 ∷ 0x40 ∷ 0x04 ∷ 0x00  -- header
    ∷ 0x80 ∷ 0x00 ∷ 0x00 ∷ 0x00  -- volatile mask
    ∷ 0x00 ∷ 0x00  -- procedure 0
    ∷ 0x13 ∷ 0xfe ∷ 0x00 ∷ 0x00 ∷ 0x00  -- term 0
    ∷ []

-- `if not true then null else null`
unfoldable pub if_not_true : List ℕ
if_not_true =
    0x10 ∷ 0x40 ∷ 0x14 ∷ 0x00  -- header
    ∷ 0x80 ∷ 0x00 ∷ 0x00 ∷ 0x00  -- volatile mask
    ∷ 0x00 ∷ 0x00  -- procedure 0
    ∷ 0x30 ∷ 0x02 ∷ 0x01 ∷ 0x80 ∷ 0x80  -- term 0
    ∷ 0x68 ∷ 0x04 ∷ 0x00 ∷ 0x00 ∷ 0x00  -- term 1
    ∷ 0x60 ∷ 0x00 ∷ 0x00 ∷ 0x00 ∷ 0x00  -- term 2
    ∷ 0x00 ∷ 0x00 ∷ 0x00 ∷ 0x00 ∷ 0x00  -- term 3
    ∷ 0x00 ∷ 0x00 ∷ 0x00 ∷ 0x00 ∷ 0x00  -- term 4
    ∷ []

-- `if not not true then null else null`
unfoldable pub if_not_not_true : List ℕ
if_not_not_true =
    0x10 ∷ 0x40 ∷ 0x18 ∷ 0x00  -- header
    ∷ 0x80 ∷ 0x00 ∷ 0x00 ∷ 0x00  -- volatile mask
    ∷ 0x00 ∷ 0x00  -- procedure 0
    ∷ 0x30 ∷ 0x02 ∷ 0x02 ∷ 0x00 ∷ 0xa0  -- term 0
    ∷ 0x68 ∷ 0x04 ∷ 0x00 ∷ 0x00 ∷ 0x00  -- term 1
    ∷ 0x68 ∷ 0x06 ∷ 0x00 ∷ 0x00 ∷ 0x00  -- term 2
    ∷ 0x60 ∷ 0x00 ∷ 0x00 ∷ 0x00 ∷ 0x00  -- term 3
    ∷ 0x00 ∷ 0x00 ∷ 0x00 ∷ 0x00 ∷ 0x00  -- term 4
    ∷ 0x00 ∷ 0x00 ∷ 0x00 ∷ 0x00 ∷ 0x00  -- term 5
    ∷ []

-- `synch null do null`
unfoldable pub synch_null : List ℕ
synch_null =
    0x10 ∷ 0x40 ∷ 0x0c ∷ 0x00  -- header
    ∷ 0x80 ∷ 0x00 ∷ 0x00 ∷ 0x00  -- volatile mask
    ∷ 0x00 ∷ 0x00  -- procedure 0
    ∷ 0x58 ∷ 0x02 ∷ 0x01 ∷ 0x00 ∷ 0x00  -- term 0
    ∷ 0x00 ∷ 0x00 ∷ 0x00 ∷ 0x00 ∷ 0x00  -- term 1
    ∷ 0x00 ∷ 0x00 ∷ 0x00 ∷ 0x00 ∷ 0x00  -- term 2
    ∷ []

-- a second synch on null inside
unfoldable pub synch_twice : List ℕ
synch_twice =
    0x10 ∷ 0x40 ∷ 0x14 ∷ 0x00  -- header
    ∷ 0x80 ∷ 0x00 ∷ 0x00 ∷ 0x00  -- volatile mask
    ∷ 0x00 ∷ 0x00  -- procedure 0
    ∷ 0x58 ∷ 0x02 ∷ 0x01 ∷ 0x00 ∷ 0x00  -- term 0
    ∷ 0x00 ∷ 0x00 ∷ 0x00 ∷ 0x00 ∷ 0x00  -- term 1
    ∷ 0x58 ∷ 0x06 ∷ 0x02 ∷ 0x00 ∷ 0x00  -- term 2
    ∷ 0x00 ∷ 0x00 ∷ 0x00 ∷ 0x00 ∷ 0x00  -- term 3
    ∷ 0x00 ∷ 0x00 ∷ 0x00 ∷ 0x00 ∷ 0x00  -- term 4
    ∷ []

-- `join null`
unfoldable pub join_null : List ℕ
join_null =
    0x10 ∷ 0x40 ∷ 0x08 ∷ 0x00  -- header
    ∷ 0x80 ∷ 0x00 ∷ 0x00 ∷ 0x00  -- volatile mask
    ∷ 0x00 ∷ 0x00  -- procedure 0
    ∷ 0x50 ∷ 0x02 ∷ 0x00 ∷ 0x00 ∷ 0x00  -- term 0
    ∷ 0x00 ∷ 0x00 ∷ 0x00 ∷ 0x00 ∷ 0x00  -- term 1
    ∷ []

-- `join (fork null)`
unfoldable pub join_fork : List ℕ
join_fork =
    0x10 ∷ 0x40 ∷ 0x0c ∷ 0x00  -- header
    ∷ 0x80 ∷ 0x00 ∷ 0x00 ∷ 0x00  -- volatile mask
    ∷ 0x00 ∷ 0x00  -- procedure 0
    ∷ 0x50 ∷ 0x02 ∷ 0x00 ∷ 0x00 ∷ 0x00  -- term 0
    ∷ 0x48 ∷ 0x04 ∷ 0x00 ∷ 0x00 ∷ 0x00  -- term 1
    ∷ 0x00 ∷ 0x00 ∷ 0x00 ∷ 0x00 ∷ 0x00  -- term 2
    ∷ []

-- the cases in the order of the list
unfoldable pub shots : List Shot
unfolding plan_p plan_p54 new_of_eight new_of_nine if_not_true if_not_not_true synch_null synch_twice join_null join_fork
shots =
    -- "* P as above."
    record {
      plan = plan_p;
      picks = 0 ∷ 0 ∷ 0 ∷ 0 ∷ 0 ∷ 1 ∷ 0 ∷ [];
      expected = ran (outcome race 6 6 4 (lacking 1 1 ∷ finished 0 ∷ absent ∷ absent ∷ absent ∷ absent ∷ absent ∷ absent ∷ []))
          (entry new 0 1 0 0 ∷ entry fork 0 2 1 0 ∷ entry write 1 1 1 0 ∷ entry lacks_read 0 1 1 0 ∷ [])
          (0x10 ∷ 0x10 ∷ 0x00 ∷ 0x80 ∷ 0x20 ∷ 0x80 ∷ 0x32 ∷ 0x10 ∷ 0x80 ∷ 0xa0 ∷ 0x10 ∷ 0x80 ∷ []);
    }
    -- "* P with 0 0 0 0 0 0 1: end 7 7 4"
    ∷ record {
      plan = plan_p;
      picks = 0 ∷ 0 ∷ 0 ∷ 0 ∷ 0 ∷ 0 ∷ 1 ∷ [];
      expected = ran (outcome end 7 7 4 (finished 0 ∷ finished 0 ∷ absent ∷ absent ∷ absent ∷ absent ∷ absent ∷ absent ∷ []))
          (entry new 0 1 0 0 ∷ entry fork 0 2 1 0 ∷ entry read 0 1 1 0 ∷ entry write 1 1 1 0 ∷ [])
          (0x10 ∷ 0x10 ∷ 0x00 ∷ 0x80 ∷ 0x20 ∷ 0x80 ∷ 0x20 ∷ 0x10 ∷ 0x80 ∷ 0x32 ∷ 0x10 ∷ 0x80 ∷ []);
    }
    -- "* P cut to 54 bytes: 1."
    ∷ record {
      plan = plan_p54;
      picks = 0 ∷ 0 ∷ 0 ∷ 0 ∷ 0 ∷ 1 ∷ 0 ∷ [];
      expected = refused 1 0;
    }
    -- "* P, no picks: end 0 0 0, thread 0 ready."
    ∷ record {
      plan = plan_p;
      picks = [];
      expected = ran (outcome end 0 0 0 (ready ∷ absent ∷ absent ∷ absent ∷ absent ∷ absent ∷ absent ∷ absent ∷ [])) ([]) ([]);
    }
    -- "* `new` of eight fields passes;"
    ∷ record {
      plan = new_of_eight;
      picks = 0 ∷ 0 ∷ [];
      expected = ran (outcome end 2 2 1 (finished 1 ∷ absent ∷ absent ∷ absent ∷ absent ∷ absent ∷ absent ∷ absent ∷ [])) (entry new 0 1 0 0 ∷ [])
          (0x10 ∷ 0x10 ∷ 0x00 ∷ []);
    }
    -- "* of nine: 4."
    ∷ record {
      plan = new_of_nine;
      picks = 0 ∷ 0 ∷ [];
      expected = refused 4 0;
    }
    -- "* `if not true then null else null`: two moves."
    ∷ record {
      plan = if_not_true;
      picks = 0 ∷ 0 ∷ 0 ∷ [];
      expected = ran (outcome end 3 2 0 (finished 0 ∷ absent ∷ absent ∷ absent ∷ absent ∷ absent ∷ absent ∷ absent ∷ [])) ([]) ([]);
    }
    -- "* With `not not true`: three."
    ∷ record {
      plan = if_not_not_true;
      picks = 0 ∷ 0 ∷ 0 ∷ 0 ∷ [];
      expected = ran (outcome end 4 3 0 (finished 0 ∷ absent ∷ absent ∷ absent ∷ absent ∷ absent ∷ absent ∷ absent ∷ [])) ([]) ([]);
    }
    -- "* `synch null do null`: three moves, two records."
    ∷ record {
      plan = synch_null;
      picks = 0 ∷ 0 ∷ 0 ∷ 0 ∷ [];
      expected = ran (outcome end 4 3 2 (finished 0 ∷ absent ∷ absent ∷ absent ∷ absent ∷ absent ∷ absent ∷ absent ∷ []))
          (entry acquire 0 0 0 0 ∷ entry release 0 0 0 0 ∷ []) (0x60 ∷ 0x00 ∷ 0x00 ∷ 0x70 ∷ 0x00 ∷ 0x00 ∷ []);
    }
    -- "* A second synch on null inside: four moves, two records."
    ∷ record {
      plan = synch_twice;
      picks = 0 ∷ 0 ∷ 0 ∷ 0 ∷ 0 ∷ [];
      expected = ran (outcome end 5 4 2 (finished 0 ∷ absent ∷ absent ∷ absent ∷ absent ∷ absent ∷ absent ∷ absent ∷ []))
          (entry acquire 0 0 0 0 ∷ entry release 0 0 0 0 ∷ []) (0x60 ∷ 0x00 ∷ 0x00 ∷ 0x70 ∷ 0x00 ∷ 0x00 ∷ []);
    }
    -- "* `join null` in main, 0 0 0: one move, waiting."
    ∷ record {
      plan = join_null;
      picks = 0 ∷ 0 ∷ 0 ∷ [];
      expected = ran (outcome end 3 1 0 (waiting (for_join 0) ∷ absent ∷ absent ∷ absent ∷ absent ∷ absent ∷ absent ∷ absent ∷ [])) ([]) ([]);
    }
    -- "* `join (fork null)`, 0 0 0: three moves, two records."
    ∷ record {
      plan = join_fork;
      picks = 0 ∷ 0 ∷ 0 ∷ [];
      expected = ran (outcome end 3 3 2 (finished 0 ∷ finished 0 ∷ absent ∷ absent ∷ absent ∷ absent ∷ absent ∷ absent ∷ []))
          (entry fork 0 1 1 0 ∷ entry join 0 1 1 0 ∷ []) (0x80 ∷ 0x10 ∷ 0x80 ∷ 0x90 ∷ 0x10 ∷ 0x80 ∷ []);
    }
    ∷ []
