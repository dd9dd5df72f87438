-- The lines that a station writes.
use Rattle.std.specs.Prelude.{ℕ, List, [], ◌∷◌, ◌++◌, Option, Some, None, Bool, true, false, codes, decimal}
use Rattle.run_types.specs.declared.types.Event.{Event}
use Rattle.run_types.specs.declared.types.FullKind.{FullKind}
use Rattle.run_types.specs.declared.types.What.{What}
use Rattle.text_scan.specs.Text.{Text}
use Rattle.record_writer.specs.RecordText.{event_words, full_text, joined, what_words}
use Rattle.station_frames.specs.declared.frame.StationFrame.{StationFrame}
use Rattle.station_frames.specs.Bytes.{encoding}
use Rattle.station_text.specs.Digits.{digits_of_bytes}

-- words with one space between them, and a line feed
abbrev pub line_of_words : List Text → Text
line_of_words ws = joined ws ++ 10 ∷ []

-- the neighbour on whose link a packet was put
abbrev pub put_word : Option ℕ → Text
put_word None = codes "-"
put_word (Some to) = decimal to

-- the line of an event
abbrev pub log_line : List Text → Event → What → Option ℕ → Text
log_line names event what put = line_of_words (codes "log" ∷ put_word put ∷ (event_words event ++ what_words names what))

-- the line of a limit that a step would exceed
abbrev pub full_line : FullKind → Text
full_line kind = line_of_words (codes "full" ∷ full_text kind ∷ [])

-- the line of bytes for a neighbour
abbrev pub to_line : ℕ → List ℕ → Text
to_line to bytes = line_of_words (codes "to" ∷ decimal to ∷ digits_of_bytes bytes ∷ [])

-- the line of a frame of this run for a neighbour
abbrev pub frame_line : ℕ → ℕ → StationFrame → Text
frame_line to run f = to_line to (encoding run f)

-- the line of a frame from a neighbour that is of another run
abbrev pub other_line : ℕ → ℕ → Text
other_line from run = line_of_words (codes "other" ∷ decimal from ∷ decimal run ∷ [])

-- no object is ready, or all turns were made
abbrev pub rest_line : Bool → Text
rest_line true = codes "idle\n"
rest_line false = codes "ready\n"

-- the word, the neighbour and the count, of each of these counts
abbrev pub count_words : Text → List (ℕ × ℕ) → List Text
count_words word [] = []
count_words word (c ∷ cs) = word ∷ decimal c.0 ∷ decimal c.1 ∷ count_words word cs

abbrev pub last_word : Bool → Text
last_word true = codes "idle"
last_word false = codes "ready"

-- whether no object is ready
abbrev pub end_text : Bool → Text
end_text idle = joined (codes "end" ∷ last_word idle ∷ [])

-- the last words: whether no object is ready; how many packets were put on the link to each neighbour; and how many
-- packets of the link from each neighbour were handed out
abbrev pub last_line : Bool → List (ℕ × ℕ) → List (ℕ × ℕ) → Text
last_line idle puts handed = line_of_words (codes "end" ∷ last_word idle ∷ (count_words (codes "put") puts ++ count_words (codes "handed") handed))
