-- The words of a command: which marks may stand where, and where a word ends.
use Rattle.std.specs.Prelude.{◌==◌, ◌&&◌, nat_le, nat_lt, count_by, bytes_eq, Bool, true, false, List, [], ◌∷◌, ◌++◌, length, codes, Option, None, Some, option_map, option_and_then, if◌then◌else◌}
use Rattle.std.specs.List.{list_all}
use Rattle.cdc_base.specs.Words.{is_in}
use Rattle.clock_constraints.specs.Refusals.{Text}
use Rattle.sdc_subset.specs.declared.bytes.Class.TheVariants as class
use Rattle.sdc_subset.specs.Bytes.{in_class}
use Rattle.sdc_subset.specs.declared.marks.Mark.{Mark}
use Rattle.sdc_subset.specs.declared.marks.Mark.TheVariants as mark
use Rattle.sdc_subset.specs.declared.nest.Opening.{Opening}
use Rattle.sdc_subset.specs.declared.nest.Opening.TheVariants.{Command, Braces, Bracket, Collection, Full}
use Rattle.sdc_subset.specs.declared.words.Word.{Word}

-- what brackets may collect
abbrev pub collections : List Text
collections = codes "get_ports" ∷ codes "get_clocks" ∷ []

-- among words, a mark is a plain word or opens one; this is what is open behind it in place of what was open
abbrev pub among_words : Opening → Mark → Option (List Opening)
among_words o (mark.Plain t) = Some (o ∷ [])
among_words o mark.Brace = Some (Braces ∷ o ∷ [])
among_words o mark.Bracket = Some (Bracket ∷ o ∷ [])
among_words o m = None

-- a command and braces hold words; brackets hold the name of a collection, then one word or braces
abbrev pub in_place : Opening → Mark → Option (List Opening)
in_place Command m = among_words Command m
in_place Braces mark.BraceEnd = Some []
in_place Braces m = among_words Braces m
in_place Bracket (mark.Plain t) = if is_in collections t then Some (Collection ∷ []) else None
in_place Collection (mark.Plain t) = Some (Full ∷ [])
in_place Collection mark.Brace = Some (Braces ∷ Full ∷ [])
in_place Full mark.BracketEnd = Some []
in_place o m = None

-- what is open behind a mark, innermost first, unless the mark may not stand there
abbrev pub behind : List Opening → Mark → Option (List Opening)
behind [] m = None
behind (o ∷ os) m = option_map (λ inner. inner ++ os) (in_place o m)

-- a word ends where only the command is open
abbrev pub is_whole : List Opening → Bool
is_whole nest = length nest == 1

-- the words of marks, of which the first has these marks already
abbrev pub words_from : List Opening → List Mark → List Mark → Option (List Word)
words_from nest word [] = if is_whole nest then Some [] else None
words_from nest word (m ∷ ms) = option_and_then (λ inner.
    if is_whole inner then option_map (λ ws. record { marks = word ++ m ∷ [] } ∷ ws) (words_from inner [] ms)
    else words_from inner (word ++ m ∷ []) ms) (behind nest m)

abbrev pub words_of : List Mark → Option (List Word)
words_of ms = words_from (Command ∷ []) [] ms

-- ---- what words say

-- a plain word alone
abbrev pub plain_of : List Mark → Option Text
plain_of (mark.Plain t ∷ []) = Some t
plain_of ms = None

-- a name: a plain word, or braces with exactly one
abbrev pub name_of : List Mark → Option Text
name_of (mark.Plain t ∷ []) = Some t
name_of (mark.Brace ∷ mark.Plain t ∷ mark.BraceEnd ∷ []) = Some t
name_of ms = None

abbrev pub is_braces : List Mark → Bool
is_braces (mark.Brace ∷ ms) = true
is_braces ms = false

-- the plain words of marks, which are names, but for those behind brackets, which name this collection
abbrev pub names_from : Text → Bool → List Mark → Option (List Text)
names_from collection named [] = Some []
names_from collection false (mark.Plain t ∷ ms) = option_map (λ ns. t ∷ ns) (names_from collection false ms)
names_from collection true (mark.Plain t ∷ ms) = if bytes_eq t collection then names_from collection false ms else None
names_from collection named (mark.Bracket ∷ ms) = names_from collection true ms
names_from collection named (m ∷ ms) = names_from collection false ms

-- the names of a list, whatever braces and collections of this kind they stand in
abbrev pub names_of : Text → List Mark → Option (List Text)
names_of collection ms = names_from collection false ms

-- a number: digits, of which there is one or more, with at most one `.`
abbrev pub is_number : Text → Bool
is_number text =
    let dots = count_by (in_class class.Dot) text in
    list_all (in_class class.Figure) text && nat_le dots 1 && nat_lt dots (length text)

abbrev pub is_number_or : Option Text → Bool
is_number_or None = false
is_number_or (Some t) = is_number t
