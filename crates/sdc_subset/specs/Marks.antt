-- What the chunks of a command are made of: plain words and brackets.
use Rattle.std.specs.Prelude.{ℕ, ◌==◌, List, [], ◌∷◌, ◌++◌, map, length, take, drop, Option, None, Some, option_map, option_and_then, if◌then◌else◌}
use Rattle.std.specs.List.{list_all, prefix_len}
use Rattle.clock_constraints.specs.Refusals.{Text}
use Rattle.sdc_subset.specs.declared.bytes.Class.TheVariants as class
use Rattle.sdc_subset.specs.declared.marks.Mark.{Mark}
use Rattle.sdc_subset.specs.declared.marks.Mark.TheVariants.{Plain, Brace, BraceEnd, Bracket, BracketEnd}
use Rattle.sdc_subset.specs.Bytes.{in_class}

-- the mark that a byte is which opens or closes something
abbrev pub mark_of : ℕ → Mark
mark_of b = if b == 123 then Brace else if b == 125 then BraceEnd else if b == 91 then Bracket else BracketEnd

-- the plain word of a chunk, which may have none
abbrev pub plain_marks : Text → List Mark
plain_marks text = if length text == 0 then [] else Plain text ∷ []

-- what is left of a chunk behind its openings and its plain word
abbrev pub openings : Text → ℕ
openings chunk = prefix_len (in_class class.Opening) chunk

abbrev pub plain_run : Text → ℕ
plain_run text = prefix_len (in_class class.Plain) text

-- the marks of a chunk: what opens, at most one plain word, and what closes. Words stand apart, so nothing else is one
abbrev pub chunk_marks : Text → Option (List Mark)
chunk_marks chunk =
    let rest = drop (openings chunk) chunk in
    if list_all (in_class class.Closing) (drop (plain_run rest) rest)
    then Some ((map mark_of (take (openings chunk) chunk) ++ plain_marks (take (plain_run rest) rest)) ++ map mark_of (drop (plain_run rest) rest))
    else None

-- the marks of all chunks
abbrev pub marks_of : List Text → Option (List Mark)
marks_of [] = Some []
marks_of (c ∷ cs) = option_and_then (λ ms. option_map (λ rest. ms ++ rest) (marks_of cs)) (chunk_marks c)
