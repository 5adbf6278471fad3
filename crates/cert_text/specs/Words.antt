-- The lines of a text, and the words of a line.
use Rattle.std.specs.Prelude.{◌≢◌, ℕ, ◌<◌, ◌==◌, ◌*◌, ◌+◌, ◌-◌, nat_lt, ◌&&◌, ◌||◌, not, Bool, true, false, List, [], ◌∷◌, ◌++◌, slice_index, Option, None, Some, if◌then◌else◌}
use Rattle.std.specs.Char.{is_ascii_digit}
use Rattle.std.specs.List.{list_all}
use Rattle.clock_constraints.specs.Refusals.{Text}

-- a byte in front of the first line; where a line's end isn't there yet, it has none
abbrev pub onto_line : ℕ → List (Option Text) → List (Option Text)
onto_line b [] = None ∷ []
onto_line b (None ∷ ls) = None ∷ ls
onto_line b (Some l ∷ ls) = Some (b ∷ l) ∷ ls

-- the lines of a text, each without the line feed that ends it; a last one that no line feed ends is none
abbrev pub lines_of : Text → List (Option Text)
lines_of [] = []
lines_of (b ∷ bs) = if b == 10 then Some [] ∷ lines_of bs else onto_line b (lines_of bs)

-- no line feed stands before the place
abbrev pub HasNoFeed : Text → ℕ → Type 0
HasNoFeed text n = (k : ℕ) → k < n → slice_index text k ≢ 10

-- bytes in front of the first word
abbrev pub onto_word : Text → List Text → List Text
onto_word front [] = front ∷ []
onto_word front (w ∷ ws) = (front ++ w) ∷ ws

-- an escaped identifier goes from a backslash to its first space
abbrev pub stays_escaped : Bool → ℕ → Bool
stays_escaped escaped b = not (b == 32) && (escaped || (b == 92))

-- a space ends a word, but for one that ends an escaped identifier
abbrev pub parts_words : Bool → ℕ → Bool
parts_words escaped b = not escaped && (b == 32)

-- the words of a line: a space parts them, but for one that ends an escaped identifier
abbrev pub words_from : Bool → Text → List Text
words_from escaped [] = [] ∷ []
words_from escaped (b ∷ bs) = if parts_words escaped b then [] ∷ words_from false bs else onto_word (b ∷ []) (words_from (stays_escaped escaped b) bs)

abbrev pub words_of : Text → List Text
words_of line = words_from false line

-- the value of decimal digits behind those with the value n
abbrev pub value_from : ℕ → Text → ℕ
value_from n [] = n
value_from n (d ∷ ds) = value_from (n * 10 + (d - 48)) ds

-- there is a first digit, and it is no zero in front of others
abbrev pub leads_plainly : Text → Bool
leads_plainly [] = false
leads_plainly (d ∷ []) = true
leads_plainly (d ∷ e ∷ ds) = not (d == 48)

-- decimal digits without a leading zero
abbrev pub is_decimal : Text → Bool
is_decimal text = leads_plainly text && list_all is_ascii_digit text

-- a plain decimal below a bound
abbrev pub number_below : ℕ → Text → Option ℕ
number_below bound text = if is_decimal text && nat_lt (value_from 0 text) bound then Some (value_from 0 text) else None
