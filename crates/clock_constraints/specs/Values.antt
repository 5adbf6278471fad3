-- What a value at a key says, and which keys a table may have.
use Rattle.std.specs.Prelude.{ℕ, List, Bool, true, false, not, ◌&&◌, ◌==◌, nat_le, length, Option, None, Some, Result, Ok, option_map, option_and_then, pos, codes, if◌then◌else◌}
use Rattle.std.specs.List.{list_all, list_any}
use Rattle.std.specs.Str.{bytes_eq}
use Rattle.cdc_base.specs.declared.fault.Fault.{Fault}
use Rattle.toml.specs.Data.{Data, integer, Members, no_members, member, get, as_str}
use Rattle.clock_constraints.specs.Refusals.{Text, broken, required}

-- a key that is unknown, missing or mistyped
abbrev pub wrong_key : Text → Fault
wrong_key key = broken 402 key

-- the first key, in byte order, that isn't among the known ones
abbrev pub first_unknown : List Text → Members → Option Text
first_unknown known no_members = None
first_unknown known (member k d ms) = if list_any (bytes_eq k) known then first_unknown known ms else Some k

-- a table with an unknown key is refused by the first
abbrev pub unknown_in : List Text → Option Members → Option Fault
unknown_in known ms = option_map wrong_key (option_and_then (first_unknown known) ms)

-- the string at a key
abbrev pub text_at : Text → Data → Option Text
text_at key d = option_and_then as_str (get key d)

abbrev pub text : Text → Data → Result Text Fault
text key d = required 402 key (text_at key d)

-- a text that passes the test
abbrev pub passing : (Text → Bool) → Text → Option Text
passing test t = if test t then Some t else None

abbrev pub text_passing : (Text → Bool) → Text → Data → Result Text Fault
text_passing test key d = required 402 key (option_and_then (passing test) (text_at key d))

-- each byte lies in this range, ends included
abbrev pub all_within : ℕ → ℕ → Text → Bool
all_within least greatest = list_all (λ b. nat_le least b && nat_le b greatest)

-- a group has a byte, and none below 32
abbrev pub is_group : Text → Bool
is_group t = not (length t == 0) && all_within 32 255 t

-- a reason has 1 to 200 bytes, from 32 to 126
abbrev pub is_reason : Text → Bool
is_reason t = (not (length t == 0) && nat_le (length t) 200) && all_within 32 126 t

-- a settling number is 1 to 3
abbrev pub settle_number : Data → Option ℕ
settle_number (integer (pos n)) = if nat_le 1 n && nat_le n 3 then Some n else None
settle_number _ = None

-- a clock without the key settles in one cycle
abbrev pub settle_or_one : Option Data → Result ℕ Fault
settle_or_one None = Ok 1
settle_or_one (Some d) = required 402 (codes "settle") (settle_number d)

-- whether a reset's active level is high
abbrev pub level_of : Text → Option Bool
level_of t = if bytes_eq t (codes "low") then Some false else (if bytes_eq t (codes "high") then Some true else None)

abbrev pub level : Data → Result Bool Fault
level d = required 402 (codes "active") (option_and_then level_of (text_at (codes "active") d))
