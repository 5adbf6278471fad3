-- The commands of a text, each as the chunks that stand between its blanks.
use Rattle.std.specs.Prelude.{ℕ, zero, suc, Bool, not, ◌&&◌, ◌==◌, nat_lt, List, [], ◌∷◌, ◌++◌, length, codes, if◌then◌else◌}
use Rattle.std.specs.List.{slice_split, starts_with, list_all}
use Rattle.cdc_base.specs.Bytes.{front}
use Rattle.cdc_base.specs.Words.{is_in}
use Rattle.clock_constraints.specs.Refusals.{Text}
use Rattle.sdc_subset.specs.declared.bytes.Class.TheVariants.{LineFeed, Semicolon, Blank, Ordinary}
use Rattle.sdc_subset.specs.Bytes.{in_class}

-- how many bytes the line end at the front of a text has: a line feed, or a carriage return and a line feed
abbrev pub line_end : Text → ℕ
line_end text = if starts_with ◌==◌ text (10 ∷ []) then 1 else if starts_with ◌==◌ text (13 ∷ 10 ∷ []) then 2 else 0

-- whether `\` and a line end stand here
abbrev pub is_joint : ℕ → Text → Bool
is_joint b behind = b == 92 && nat_lt 0 (line_end behind)

-- a text, whose first n bytes belong to a line end before it, with a blank for each `\` at the end of a line
abbrev pub joined_behind : ℕ → Text → Text
joined_behind n [] = []
joined_behind zero (b ∷ bs) = if is_joint b bs then 32 ∷ joined_behind (line_end bs) bs else b ∷ joined_behind 0 bs
joined_behind (suc n) (b ∷ bs) = joined_behind n bs

abbrev pub joined : Text → Text
joined text = joined_behind 0 text

-- those that have a byte
abbrev pub filled : List Text → List Text
filled [] = []
filled (t ∷ ts) = if length t == 0 then filled ts else t ∷ filled ts

-- what stands between blanks
abbrev pub chunks_of : Text → List Text
chunks_of text = filled (slice_split (in_class Blank) text)

abbrev pub head : List Text → Text
head [] = []
head (c ∷ cs) = c

-- the commands that are passed over
abbrev pub passed_over : List Text
passed_over =
    codes "set_output_delay" ∷ codes "set_clock_uncertainty" ∷ codes "set_clock_latency" ∷ codes "set_load" ∷
    codes "set_driving_cell" ∷ codes "set_input_transition" ∷ codes "set_max_delay" ∷ codes "set_min_delay" ∷
    codes "set_max_fanout" ∷ codes "set_max_transition" ∷ codes "set_units" ∷ codes "set_false_path" ∷
    codes "set_multicycle_path" ∷ []

unfoldable pub is_passed_over : Text → Bool
is_passed_over word = is_in passed_over word

-- a comment begins with `#`
abbrev pub is_comment : List Text → Bool
is_comment chunks = front (head chunks) == 35

-- a command that has words and isn't passed over
abbrev pub is_read : List Text → Bool
is_read chunks = not (length chunks == 0) && not (is_passed_over (head chunks))

-- the commands of a line's pieces, which go to the first comment; it ends with its line
abbrev pub commands_in : List Text → List (List Text)
commands_in [] = []
commands_in (p ∷ ps) =
    if is_comment (chunks_of p) then [] else if is_read (chunks_of p) then chunks_of p ∷ commands_in ps else commands_in ps

abbrev pub commands_of_lines : List Text → List (List Text)
commands_of_lines [] = []
commands_of_lines (l ∷ ls) = commands_in (slice_split (in_class Semicolon) l) ++ commands_of_lines ls

-- the commands of a text that have words and aren't passed over
abbrev pub commands_of : Text → List (List Text)
commands_of text = commands_of_lines (slice_split (in_class LineFeed) (joined text))

-- whether each byte is a tab, a line feed, a carriage return or one from 32 to 126; blanks are such bytes
abbrev pub are_ordinary : List (List Text) → Bool
are_ordinary commands = list_all (list_all (list_all (in_class Ordinary))) commands
