-- `write_text` meets its contract: the text lies at the start of its area, and it is what the writer gets. Assumes nothing.
use Rattle.std.proofs.Common.{rules, arith, ◌≡◌, ℕ, ◌≤◌, List, ◌++◌, length, take, drop, length-take, length-append, take_all, sym, ap, ◌∙◌, subst}
use Rattle.std.proofs.lemmas.List.{take-append-le}
use Rattle.text_shot_list.specs.Printed.{printed, TextWritten}
use Rattle.std.specs.Io.KnownBytes.{Appends}
use Rattle.std.specs.Prelude.{OnOk}
use Rattle.shotlist_files.proofs.write_text.Goals as goal

-- what was read is an input of its own
whole : (n : ℕ) (buffer : List ℕ) → length buffer ≤ 9291 → take 9291 (take n buffer) ≡ take n buffer
whole n buffer h = take_all 9291 (take n buffer) (grind (arith, length-take))

-- a text that was written lies within its area
within : (text before after : List ℕ) (r : ℕ) → TextWritten text before after r → 131072 ≤ length before → r ≤ length after
within text before after r h room = let e = h.0 room in omega (arith, e.0, simp length-append at (ap length e.1))

-- at its start
start : (text before after : List ℕ) (r : ℕ) → TextWritten text before after r → 131072 ≤ length before → take r after ≡ text
start text before after r h room =
    let e = h.0 room in
    ap (take r) e.1 ∙ take-append-le r text (drop r before) (omega (arith, e.0)) ∙ take_all r text (omega (arith, e.0))

pub slice_bounds-text-end : goal.slice_bounds-text-end
slice_bounds-text-end g c =
    within _ _ _ _ (c.shot_list_read-length.ensures (take c.args.size c.args.buffer.now)
    (whole c.args.size c.args.buffer.now (search rules))) (search rules)

pub slice_bounds-write_all-end : goal.slice_bounds-write_all-end
slice_bounds-write_all-end g c =
    let h = within _ _ _ _ (c.shot_list_read-length.ensures (take c.args.size c.args.buffer.now)
    (whole c.args.size c.args.buffer.now (search rules))) (search rules) in
    grind (arith, length-take, h)

pub returns : goal.returns
returns g c input e =
    let begins = start _ _ _ _ (c.shot_list_read-length.ensures input e) (search rules) in
    subst (λ (bytes : List ℕ). OnOk c.write_all.result (Appends (g.W.Write.contents c.args.writer.now) (g.W.Write.contents c.write_all.new.self) bytes))
    begins c.write_all.ensures.bytes
