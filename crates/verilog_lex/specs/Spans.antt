-- Where a comment, a string and an attribute end.
use Rattle.std.specs.Prelude.{ℕ, Bool, false, ◌||◌, ◌==◌, if◌then◌else◌, List, [], ◌∷◌, codes, Option, Some, None, option_map, ◌+◌}
use Rattle.std.specs.List.{starts_with}
use Rattle.cdc_base.specs.Bytes.{front}
use Rattle.verilog_lex.specs.declared.spans.Within.{Within}
use Rattle.verilog_lex.specs.declared.spans.Within.TheVariants.{Outside, Quoted, Escaped}

-- how many bytes stand up to the first `*/` and with it
abbrev pub behind_comment : List ℕ → Option ℕ
behind_comment [] = None
behind_comment (b ∷ bs) = if starts_with ◌==◌ (b ∷ bs) (codes "*/") then Some 2 else option_map (λ n. n + 1) (behind_comment bs)

-- where the next byte stands: a string goes from `"` to `"`, and in it `\` takes a byte with it
abbrev pub within_behind : Within → ℕ → Within
within_behind Outside b = if b == 34 then Quoted else Outside
within_behind Quoted b = if b == 34 then Outside else if b == 92 then Escaped else Quoted
within_behind Escaped b = Quoted

-- what may not stand there: outside strings `\`, a backquote, `//` and `/*`; in a string a line feed
abbrev pub is_barred : Within → List ℕ → Bool
is_barred Outside text = front text == 92 || front text == 96 || starts_with ◌==◌ text (codes "//") || starts_with ◌==◌ text (codes "/*")
is_barred Quoted text = front text == 10
is_barred Escaped text = front text == 10

-- whether `*)` stands here outside a string
abbrev pub closes : Within → List ℕ → Bool
closes Outside text = starts_with ◌==◌ text (codes "*)")
closes Quoted text = false
closes Escaped text = false

-- how many bytes stand up to the first `*)` outside a string and with it, if an attribute may have them
abbrev pub attribute_end : Within → List ℕ → Option ℕ
attribute_end within [] = None
attribute_end within (b ∷ bs) =
    if closes within (b ∷ bs) then Some 2
    else if is_barred within (b ∷ bs) then None
    else option_map (λ n. n + 1) (attribute_end (within_behind within b) bs)

-- how many bytes of an open string stand up to its `"` and with it
abbrev pub string_end : Within → List ℕ → Option ℕ
string_end within [] = None
string_end Outside (b ∷ bs) = None
string_end Quoted (b ∷ bs) =
    if b == 34 then Some 1
    else if b == 10 then None
    else option_map (λ n. n + 1) (string_end (within_behind Quoted b) bs)
string_end Escaped (b ∷ bs) = if b == 10 then None else option_map (λ n. n + 1) (string_end Quoted bs)
