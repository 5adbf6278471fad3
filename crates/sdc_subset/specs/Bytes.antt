-- Classes of bytes.
use Rattle.std.specs.Prelude.{ℕ, Bool, not, ◌&&◌, ◌||◌, ◌==◌, nat_le}
use Rattle.sdc_subset.specs.declared.bytes.Class.{Class}
use Rattle.sdc_subset.specs.declared.bytes.Class.TheVariants.{LineFeed, Semicolon, Blank, Opening, Closing, Plain, Ordinary, Figure, Dot}

-- `;` and line feeds end commands; spaces, tabs and carriage returns stand between words
abbrev pub in_class : Class → ℕ → Bool
in_class LineFeed b = b == 10
in_class Semicolon b = b == 59
in_class Blank b = b == 32 || b == 9 || b == 13
in_class Opening b = b == 123 || b == 91
in_class Closing b = b == 125 || b == 93
in_class Plain b = nat_le 33 b && nat_le b 126 && not (b == 123) && not (b == 125) && not (b == 91) && not (b == 93) && not (b == 59) && not (b == 34)
in_class Ordinary b = b == 9 || b == 10 || b == 13 || (nat_le 32 b && nat_le b 126)
in_class Figure b = b == 46 || (nat_le 48 b && nat_le b 57)
in_class Dot b = b == 46
