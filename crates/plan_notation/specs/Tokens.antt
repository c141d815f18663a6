-- The tokens of a plan's text, by their codes (docs/FORMAT.md, "A plan as text"). Assumes nothing.
use Rattle.std.specs.Prelude.{ℕ, ◌+◌, List, [], ◌∷◌, get_or}
use Rattle.text.specs.Text.{ascii}

-- a number, 0 to 31, is its own code
abbrev pub number : ℕ → ℕ
number n = n

-- v0 to v7
abbrev pub variable : ℕ → ℕ
variable x = 32 + x

-- the words and the marks; those from `null` to `notify` begin an expression
abbrev pub version_word : ℕ
version_word = 40  -- version

abbrev pub volatile_word : ℕ
volatile_word = 41  -- volatile

abbrev pub procedure_word : ℕ
procedure_word = 42  -- procedure

abbrev pub in_word : ℕ
in_word = 43  -- in

abbrev pub then_word : ℕ
then_word = 44  -- then

abbrev pub else_word : ℕ
else_word = 45  -- else

abbrev pub do_word : ℕ
do_word = 46  -- do

abbrev pub all_word : ℕ
all_word = 47  -- all

abbrev pub and_word : ℕ
and_word = 48  -- and

abbrev pub true_word : ℕ
true_word = 49  -- true

abbrev pub not_word : ℕ
not_word = 50  -- not

abbrev pub null_word : ℕ
null_word = 51  -- null

abbrev pub new_word : ℕ
new_word = 52  -- new

abbrev pub let_word : ℕ
let_word = 53  -- let

abbrev pub if_word : ℕ
if_word = 54  -- if

abbrev pub while_word : ℕ
while_word = 55  -- while

abbrev pub call_word : ℕ
call_word = 56  -- call

abbrev pub fork_word : ℕ
fork_word = 57  -- fork

abbrev pub join_word : ℕ
join_word = 58  -- join

abbrev pub synch_word : ℕ
synch_word = 59  -- synch

abbrev pub wait_word : ℕ
wait_word = 60  -- wait

abbrev pub notify_word : ℕ
notify_word = 61  -- notify

abbrev pub opening : ℕ
opening = 62  -- (

abbrev pub closing : ℕ
closing = 63  -- )

abbrev pub comma : ℕ
comma = 64  -- ,

abbrev pub dot : ℕ
dot = 65  -- .

abbrev pub equals : ℕ
equals = 66  -- =

abbrev pub becomes : ℕ
becomes = 67  -- :=

abbrev pub dash : ℕ
dash = 68  -- -

-- where the text ends
abbrev pub text_end : ℕ
text_end = 69

-- what is no token
abbrev pub unknown : ℕ
unknown = 70

-- the texts of the tokens, each at its code
unfoldable pub texts : List (List ℕ)
unfolding ascii
texts =
    ascii "0" ∷ ascii "1" ∷ ascii "2" ∷ ascii "3" ∷ ascii "4" ∷ ascii "5" ∷ ascii "6" ∷ ascii "7"
    ∷ ascii "8" ∷ ascii "9" ∷ ascii "10" ∷ ascii "11" ∷ ascii "12" ∷ ascii "13" ∷ ascii "14" ∷ ascii "15"
    ∷ ascii "16" ∷ ascii "17" ∷ ascii "18" ∷ ascii "19" ∷ ascii "20" ∷ ascii "21" ∷ ascii "22" ∷ ascii "23"
    ∷ ascii "24" ∷ ascii "25" ∷ ascii "26" ∷ ascii "27" ∷ ascii "28" ∷ ascii "29" ∷ ascii "30" ∷ ascii "31"
    ∷ ascii "v0" ∷ ascii "v1" ∷ ascii "v2" ∷ ascii "v3" ∷ ascii "v4" ∷ ascii "v5" ∷ ascii "v6" ∷ ascii "v7"
    ∷ ascii "version" ∷ ascii "volatile" ∷ ascii "procedure" ∷ ascii "in" ∷ ascii "then" ∷ ascii "else"
    ∷ ascii "do" ∷ ascii "all" ∷ ascii "and" ∷ ascii "true" ∷ ascii "not" ∷ ascii "null"
    ∷ ascii "new" ∷ ascii "let" ∷ ascii "if" ∷ ascii "while" ∷ ascii "call" ∷ ascii "fork"
    ∷ ascii "join" ∷ ascii "synch" ∷ ascii "wait" ∷ ascii "notify"
    ∷ ascii "(" ∷ ascii ")" ∷ ascii "," ∷ ascii "." ∷ ascii "=" ∷ ascii ":=" ∷ ascii "-"
    ∷ []

-- the text of a token
unfoldable pub text_of : ℕ → List ℕ
unfolding texts
text_of t = get_or texts t []
