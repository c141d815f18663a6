-- The configuration file of IEEE C37.111-1999 that a viewer opens beside the data file of a log (document 02, E14). Assumes nothing.
use Rattle.std.specs.Prelude.{ℕ, zero, suc, List, [], ◌∷◌, ◌++◌}
use Rattle.text.specs.Text.{ascii, decimal}
use Rattle.text_sample_lines.specs.DataFile.{comma_line}

-- station, recording device, revision year of the standard; channels in all, analog, digital: "no analog values, and 32 digital values for objects 0 to 31"
unfoldable pub head_lines : List ℕ
unfolding comma_line ascii
head_lines = comma_line (ascii "Ruqzhemil" ∷ ascii "relay test set" ∷ ascii "1999" ∷ []) ++ comma_line (ascii "32" ∷ ascii "0A" ∷ ascii "32D" ∷ [])

-- the channel of object o: its number from 1, its name, no phase, no monitored component, 0 as its normal state
unfoldable pub channel_line : ℕ → List ℕ
unfolding comma_line ascii decimal
channel_line o = comma_line (decimal (suc o) ∷ (ascii "object " ++ decimal o) ∷ [] ∷ [] ∷ ascii "0" ∷ [])

-- the channels of the first n objects
unfoldable pub channel_lines : ℕ → List ℕ
unfolding channel_line
channel_lines zero = []
channel_lines (suc n) = channel_lines n ++ channel_line n

-- a date and a time of day; the log has no clock, so it is always the same
unfoldable pub stamp_line : List ℕ
unfolding comma_line ascii
stamp_line = comma_line (ascii "01/01/2000" ∷ ascii "00:00:00.000000" ∷ [])

-- line frequency; one rate; its samples a second, which the time stamps have in microseconds, and the number of its last sample; the times of the first sample
-- and of the trigger; file type; time multiplier
unfoldable pub last_lines : ℕ → List ℕ
unfolding comma_line ascii decimal stamp_line
last_lines n =
    comma_line (ascii "50" ∷ [])
    ++ (comma_line (ascii "1" ∷ [])
    ++ (comma_line (ascii "1000" ∷ decimal n ∷ []) ++ (stamp_line ++ (stamp_line ++ (comma_line (ascii "ASCII" ∷ []) ++ comma_line (ascii "1" ∷ []))))))

-- the whole file for n samples
unfoldable pub configuration_file : ℕ → List ℕ
unfolding head_lines channel_lines last_lines
configuration_file n = head_lines ++ (channel_lines 32 ++ last_lines n)
