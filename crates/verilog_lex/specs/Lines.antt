-- The directives, and what stands behind the word of each on its line.
use Rattle.std.specs.Prelude.{ℕ, Bool, false, ◌||◌, ◌==◌, if◌then◌else◌, List, [], ◌∷◌, length, codes, drop, Option, Some, None, option_map, ◌+◌}
use Rattle.std.specs.List.{starts_with, prefix_len}
use Rattle.std.specs.Char.{is_ascii_digit, is_ascii_lowercase}
use Rattle.cdc_base.specs.Bytes.{front, is_blank}
use Rattle.cdc_base.specs.Words.{found_in}
use Rattle.verilog_lex.specs.declared.spans.Within.TheVariants.{Quoted}
use Rattle.verilog_lex.specs.declared.lines.Directive.{Directive}
use Rattle.verilog_lex.specs.declared.lines.Directive.TheVariants as directive
use Rattle.verilog_lex.specs.declared.lines.Part.{Part}
use Rattle.verilog_lex.specs.declared.lines.Part.TheVariants as part
use Rattle.verilog_lex.specs.Spans.{string_end}

abbrev pub directives : List (List ℕ × Directive)
directives =
    (codes "celldefine", directive.Alone) ∷ (codes "endcelldefine", directive.Alone) ∷ (codes "resetall", directive.Alone) ∷
    (codes "default_nettype", directive.NetType) ∷ (codes "timescale", directive.TimeScale) ∷ (codes "line", directive.Line) ∷ []

unfoldable pub directive_of : List ℕ → Option Directive
directive_of word = found_in directives word

-- what stands behind a directive's word, part by part
abbrev pub parts_of : Directive → List Part
parts_of directive.Alone = []
parts_of directive.NetType = part.Space ∷ part.WireOrNone ∷ []
parts_of directive.TimeScale =
    part.Gap ∷ part.Digits ∷ part.Gap ∷ part.Letters ∷ part.Gap ∷ part.Slash ∷
    part.Gap ∷ part.Digits ∷ part.Gap ∷ part.Letters ∷ []
parts_of directive.Line = part.Space ∷ part.Digits ∷ part.Space ∷ part.Text ∷ part.Space ∷ part.Digits ∷ []

-- one byte or more
abbrev pub some_bytes : ℕ → Option ℕ
some_bytes n = if n == 0 then None else Some n

-- how many bytes at the front of the line are this part: white space or nothing, white space, digits,
-- lower-case letters, `/`, `wire` or `none`, a string
abbrev pub part_length : Part → List ℕ → Option ℕ
part_length part.Gap line = Some (prefix_len is_blank line)
part_length part.Space line = some_bytes (prefix_len is_blank line)
part_length part.Digits line = some_bytes (prefix_len is_ascii_digit line)
part_length part.Letters line = some_bytes (prefix_len is_ascii_lowercase line)
part_length part.Slash line = if front line == 47 then Some 1 else None
part_length part.WireOrNone line =
    if starts_with ◌==◌ line (codes "wire") || starts_with ◌==◌ line (codes "none") then Some 4 else None
part_length part.Text line = if front line == 34 then option_map (λ n. n + 1) (string_end Quoted (drop 1 line)) else None

-- whether white space stands there, and nothing or a `//` comment behind it
abbrev pub is_line_end : List ℕ → Bool
is_line_end line =
    length (drop (prefix_len is_blank line) line) == 0 || starts_with ◌==◌ (drop (prefix_len is_blank line) line) (codes "//")

-- whether the line has the parts, one behind the other, and then its end
abbrev pub has_if : Option ℕ → (ℕ → Bool) → Bool
has_if None rest = false
has_if (Some n) rest = rest n

abbrev pub has_parts : List Part → List ℕ → Bool
has_parts [] line = is_line_end line
has_parts (p ∷ ps) line = has_if (part_length p line) (λ n. has_parts ps (drop n line))

-- whether the line is right behind the word
abbrev pub is_form_of : Option Directive → List ℕ → Bool
is_form_of None line = false
is_form_of (Some d) line = has_parts (parts_of d) line
