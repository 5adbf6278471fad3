-- The line of a refusal.
use Rattle.std.specs.Prelude.{ℕ, ◌+◌, ◌/◌, ◌%◌, ◌==◌, nat_lt, if◌then◌else◌, List, [], ◌∷◌, ◌++◌, map, codes, Option, Some, None}
use Rattle.std.specs.Fmt.{decimal}
use Rattle.cdc_base.specs.declared.fault.Fault.{Fault}
use Rattle.cdc_base.specs.declared.fault.Place.{Place}

abbrev pub messages : List (ℕ × List ℕ)
messages =
    (1, codes "cannot read")
    ∷ (101, codes "no token begins here")
    ∷ (102, codes "unfinished comment or attribute")
    ∷ (103, codes "bad number")
    ∷ (104, codes "directive left out")
    ∷ (105, codes "reserved word left out")
    ∷ (201, codes "no reading")
    ∷ (202, codes "nested too deep")
    ∷ (301, codes "no top module")
    ∷ (302, codes "unknown module")
    ∷ (303, codes "module inside itself")
    ∷ (304, codes "name declared twice")
    ∷ (305, codes "unknown name")
    ∷ (306, codes "port or parameter mismatch")
    ∷ (307, codes "constant out of range")
    ∷ (308, codes "width not 1 to 64")
    ∷ (309, codes "two drivers")
    ∷ (310, codes "undriven bit is read")
    ∷ (311, codes "latch")
    ∷ (312, codes "combinational loop")
    ∷ (313, codes "wrong kind of assignment")
    ∷ (314, codes "index out of range")
    ∷ (315, codes "index may miss")
    ∷ (316, codes "clock form")
    ∷ (317, codes "reset form")
    ∷ (319, codes "memory")
    ∷ (401, codes "not TOML")
    ∷ (402, codes "wrong key")
    ∷ (403, codes "no such input or reset")
    ∷ (404, codes "name declared twice")
    ∷ (405, codes "input not declared")
    ∷ (406, codes "no declared clock pin")
    ∷ (407, codes "clock is not one bit")
    ∷ (408, codes "reset is not one bit")
    ∷ (409, codes "no such clock")
    ∷ (410, codes "finding waived twice")
    ∷ (411, codes "waiver meets no finding")
    ∷ (412, codes "SDC command left out")
    ∷ (413, codes "SDC words not read")
    ∷ (501, codes "not JSON")
    ∷ (502, codes "wrong shape")
    ∷ (503, codes "unknown name")
    ∷ (504, codes "bit is not loose")
    ∷ (505, codes "same value")
    ∷ (506, codes "no clock ticks")
    ∷ (507, codes "clock does not tick")
    ∷ (508, codes "value too wide")
    ∷ (509, codes "start value differs")
    ∷ (510, codes "not a certificate")
    ∷ (600, codes "file over 256 MiB")
    ∷ (601, codes "too many signals")
    ∷ (602, codes "too many cells")
    ∷ (603, codes "too many crossings")
    ∷ (604, codes "too many steps")
    ∷ (605, codes "too many state bits")
    ∷ []

-- the message at a number, or nothing where the list hasn't the number
abbrev pub message_in : List (ℕ × List ℕ) → ℕ → List ℕ
message_in [] number = []
message_in (row ∷ rows) number = if row.0 == number then row.1 else message_in rows number

abbrev pub message_of : ℕ → List ℕ
message_of number = message_in messages number

-- the last digit
abbrev pub digit_of : ℕ → ℕ
digit_of number = 48 + number % 10

abbrev pub three_digits : ℕ → List ℕ
three_digits number = digit_of (number / 100) ∷ digit_of (number / 10) ∷ digit_of number ∷ []

abbrev pub place_of : Option Place → List ℕ
place_of None = []
place_of (Some place) = codes " at " ++ decimal place.line ++ codes ":" ++ decimal place.column

-- a byte that isn't printed is shown as a question mark
abbrev pub shown : ℕ → ℕ
shown byte = if nat_lt byte 32 then 63 else byte

abbrev pub name_of : List ℕ → List ℕ
name_of [] = []
name_of (byte ∷ bytes) = codes ": " ++ map shown (byte ∷ bytes)

abbrev pub line_of : Fault → List ℕ
line_of fault = codes "error E" ++ three_digits fault.number ++ codes ": " ++ message_of fault.number ++ place_of fault.place
    ++ name_of fault.name ++ 10 ∷ []
