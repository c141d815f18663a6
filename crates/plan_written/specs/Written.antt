-- The bytes of a program (document 02, E5), by document 01, "The plan, bit by bit". Assumes nothing.
use Rattle.std.specs.Prelude.{ℕ, zero, suc, ◌+◌, ◌*◌, ◌/◌, ◌%◌, ◌^◌, List, [], ◌∷◌, ◌++◌, length}
use Rattle.format.specs.Version.{Version, v0, v1}
use Rattle.plan_packed.specs.Syntax.{Procedure, Program}
use Rattle.plan_packed.specs.Trees.{program_of}
use Rattle.plan_written.specs.Terms.{terms_of, size, words_from}

-- a number in n bytes: "most significant bit first"
unfoldable pub bytes_of : ℕ → ℕ → List ℕ
bytes_of zero x = []
bytes_of (suc n) x = x / 2 ^ (8 * n) % 256 ∷ bytes_of n x

-- ---- "procedures in their order, terms numbered procedure by procedure"

-- how many terms these procedures have
unfoldable pub size_of_all : List Procedure → ℕ
unfolding terms_of size
size_of_all [] = 0
size_of_all (d ∷ ds) = size (terms_of d.body) + size_of_all ds

-- "Procedure, 16 bits: parameters 4 (0 to 8), root term 12.": these procedures, where the next term has number n
unfoldable pub procedure_bytes : ℕ → List Procedure → List ℕ
unfolding bytes_of terms_of size
procedure_bytes n [] = []
procedure_bytes n (d ∷ ds) = bytes_of 2 (d.parameters * 2 ^ 12 + n) ++ procedure_bytes (n + size (terms_of d.body)) ds

-- their terms, 40 bits each
unfoldable pub term_words : ℕ → List Procedure → List ℕ
unfolding terms_of size words_from
term_words n [] = []
term_words n (d ∷ ds) = words_from n (terms_of d.body) ++ term_words (n + size (terms_of d.body)) ds

-- and these in bytes
unfoldable pub word_bytes : List ℕ → List ℕ
unfolding bytes_of
word_bytes [] = []
word_bytes (w ∷ ws) = bytes_of 5 w ++ word_bytes ws

-- ---- the plan

-- the number of a version
unfoldable pub version_number : Version → ℕ
version_number v0 = 0
version_number v1 = 1

-- "Header, 32 bits: version 4 (1), procedures 6 (1 to 32), terms 12 (1 to 1,024), spare 10."
unfoldable pub header_of : Program → ℕ
unfolding version_number size_of_all
header_of g = ((version_number g.version * 2 ^ 6 + length g.procedures) * 2 ^ 12 + size_of_all g.procedures) * 2 ^ 10

-- the bytes of a program: the header, "Volatile mask, 32 bits", the procedures, the terms
unfoldable pub written : Program → List ℕ
unfolding bytes_of header_of procedure_bytes term_words word_bytes
written g = bytes_of 4 (header_of g) ++ bytes_of 4 g.volatiles ++ procedure_bytes 0 g.procedures ++ word_bytes (term_words 0 g.procedures)

-- an accepted plan, written in the one way
unfoldable pub written_plan : List ℕ → List ℕ
unfolding program_of written
written_plan b = written (program_of b)
