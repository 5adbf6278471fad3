-- What the text of a certificate reads as, or its first broken line.
use Rattle.std.specs.Prelude.{ℕ, zero, suc, ◌+◌, ◌-◌, ◌==◌, nat_le, ◌&&◌, not, Bool, true, false, List, [], ◌∷◌, ◌++◌, length, take, drop, codes, slice_get, unwrap_or, Option, None, Some, Result, Ok, Err, if◌then◌else◌}
use Rattle.std.specs.Fmt.{decimal}
use Rattle.std.specs.List.{list_all, starts_with}
use Rattle.std.specs.Str.{bytes_eq}
use Rattle.cdc_base.specs.declared.bit.Bit.{Bit}
use Rattle.cdc_base.specs.declared.fault.Fault.{Fault}
use Rattle.cdc_base.specs.declared.signal.Signal.{Signal}
use Rattle.cdc_model.specs.declared.scheme.Shape.{Shape}
use Rattle.cdc_model.specs.declared.scheme.Shape.TheVariants.{G1, G2, G3}
use Rattle.clock_constraints.specs.Refusals.{Text, broken}
use Rattle.cert_text.specs.declared.certificate.Certificate.{Certificate}
use Rattle.cert_text.specs.declared.certificate.Entry.{Entry}
use Rattle.cert_text.specs.declared.certificate.Entry.TheVariants as entry
use Rattle.cert_text.specs.Names.{bit_named, bits_named, is_name, signal_named}
use Rattle.cert_text.specs.Texts.{head_line, is_empty}
use Rattle.cert_text.specs.Words.{lines_of, number_below, is_decimal, words_of}

-- a synchronizer, where its source and its flops are known
abbrev pub sync_of : Option Bit → Option (List Bit) → Option Entry
sync_of None flops = None
sync_of (Some from) None = None
sync_of (Some from) (Some flops) = Some (entry.Sync (record { from = from; flops = flops }))

-- B : F1 F2, with one flop or more
abbrev pub sync_in : List Signal → List Text → Option Entry
sync_in signals (b ∷ colon ∷ f ∷ fs) = if bytes_eq colon (codes ":") then sync_of (bit_named signals b) (bits_named signals (f ∷ fs)) else None
sync_in signals words = None

abbrev pub shape_named : Text → Option Shape
shape_named word = if bytes_eq word (codes "G1") then Some G1 else if bytes_eq word (codes "G2") then Some G2 else if bytes_eq word (codes "G3") then Some G3 else None

-- a Gray register, where its two signals and its shape are known
abbrev pub gray_of : Option ℕ → Option ℕ → Option Shape → Option Entry
gray_of (Some gray) (Some count) (Some shape) = Some (entry.Gray (record { count = count; gray = gray; shape = shape }))
gray_of gray count shape = None

-- G of B SHAPE
abbrev pub gray_in : List Signal → List Text → Option Entry
gray_in signals (g ∷ of ∷ b ∷ s ∷ []) = if bytes_eq of (codes "of") then gray_of (signal_named signals g) (signal_named signals b) (shape_named s) else None
gray_in signals words = None

-- Of a ring's line, the names of its bits and the words of its two places.
pub record RingWords : Type 0 where
  pub names : List Text
  pub end : Text
  pub ack : Text

-- a printed name, which the word `end` isn't
abbrev pub is_bit_name : Text → Bool
is_bit_name word = is_name word && not (bytes_eq word (codes "end"))

-- one name or more, and in front of two numbers the words `end` and `ack`
abbrev pub are_ring_words : List Text → (end_mark end ack_mark ack : Text) → Bool
are_ring_words names m p n q =
    not (is_empty names) && (bytes_eq m (codes "end") && (bytes_eq n (codes "ack") && (list_all is_bit_name names && (is_decimal p && is_decimal q))))

abbrev pub parted_ring : List Text → List Text → Option RingWords
parted_ring names (m ∷ p ∷ n ∷ q ∷ []) = if are_ring_words names m p n q then Some (record { names = names; end = p; ack = q }) else None
parted_ring names words = None

-- C0 .. CN end P ack P: the names in front of the last four words
abbrev pub ring_words : List Text → Option RingWords
ring_words words = parted_ring (take (length words - 4) words) (drop (length words - 4) words)

-- a ring, where its two places lie inside it
abbrev pub placed_ring : List Bit → Option ℕ → Option ℕ → Option Entry
placed_ring bits (Some end) (Some ack) = Some (entry.Ring (record { bits = bits; end = end; ack = ack }))
placed_ring bits end ack = None

abbrev pub ring_of : List Bit → Text → Text → Option Entry
ring_of bits end ack = placed_ring bits (number_below (length bits) end) (number_below (length bits) ack)

-- where its bits are known
abbrev pub known_ring : Option (List Bit) → Text → Text → Option Entry
known_ring None end ack = None
known_ring (Some bits) end ack = ring_of bits end ack

abbrev pub worded_ring : List Signal → Option RingWords → Option Entry
worded_ring signals None = None
worded_ring signals (Some r) = known_ring (bits_named signals r.names) r.end r.ack

abbrev pub ring_in : List Signal → List Text → Option Entry
ring_in signals words = worded_ring signals (ring_words words)

-- the place of the ring with this number, counted from 1, among so many rings
abbrev pub place_numbered : Option ℕ → Option ℕ
place_numbered None = None
place_numbered (Some zero) = None
place_numbered (Some (suc n)) = Some n

abbrev pub ring_numbered : ℕ → Text → Option ℕ
ring_numbered rings word = place_numbered (number_below (rings + 1) word)

-- a load, where its gate lies inside its ring
abbrev pub gated_load : Bit → Bit → ℕ → Option ℕ → Option Entry
gated_load from to ring None = None
gated_load from to ring (Some gate) = Some (entry.Load (record { from = from; to = to; ring = ring; gate = gate; recirculating = false }))

-- where its ring is there; the list has how many places each ring has
abbrev pub ringed_load : List ℕ → Bit → Bit → Option ℕ → Text → Option Entry
ringed_load places from to None gate = None
ringed_load places from to (Some ring) gate = gated_load from to ring (number_below (unwrap_or (slice_get places ring) 0) gate)

abbrev pub load_of : List ℕ → Bit → Bit → Text → Text → Option Entry
load_of places from to ring gate = ringed_load places from to (ring_numbered (length places) ring) gate

-- where its bits are known
abbrev pub known_load : List ℕ → Option Bit → Option Bit → Text → Text → Option Entry
known_load places None to ring gate = None
known_load places (Some from) None ring gate = None
known_load places (Some from) (Some to) ring gate = load_of places from to ring gate

abbrev pub are_load_marks : Text → Text → Text → Bool
are_load_marks arrow ring gate = bytes_eq arrow (codes "->") && (bytes_eq ring (codes "ring") && bytes_eq gate (codes "gate"))

-- B -> X ring R gate P
abbrev pub load_in : List Signal → List ℕ → List Text → Option Entry
load_in signals places (b ∷ arrow ∷ x ∷ ring ∷ r ∷ gate ∷ p ∷ []) = if are_load_marks arrow ring gate then known_load places (bit_named signals b) (bit_named signals x) r p else None
load_in signals places words = None

-- a FIFO, where its two counts are known
abbrev pub fifo_of : Option ℕ → Option ℕ → Option Entry
fifo_of (Some wb) (Some rb) = Some (entry.Fifo (record { wb = wb; rb = rb }))
fifo_of wb rb = None

-- WB RB
abbrev pub fifo_in : List Signal → List Text → Option Entry
fifo_in signals (w ∷ r ∷ []) = fifo_of (signal_named signals w) (signal_named signals r)
fifo_in signals words = None

abbrev pub end_in : List Text → Option Entry
end_in [] = Some entry.End
end_in (w ∷ ws) = None

-- what the words of a line say, by the first of them
abbrev pub small_entry_in : List Signal → Text → List Text → Option Entry
small_entry_in signals w ws =
    if bytes_eq w (codes "gray") then gray_in signals ws else
    if bytes_eq w (codes "fifo") then fifo_in signals ws else
    if bytes_eq w (codes "end") then end_in ws else None

abbrev pub entry_in : List Signal → List ℕ → List Text → Option Entry
entry_in signals places [] = None
entry_in signals places (w ∷ ws) =
    if bytes_eq w (codes "sync") then sync_in signals ws else
    if bytes_eq w (codes "ring") then ring_in signals ws else
    if bytes_eq w (codes "load") then load_in signals places ws else small_entry_in signals w ws

-- what a line says, which a line feed has to end
abbrev pub line_in : List Signal → List ℕ → Option Text → Option Entry
line_in signals places None = None
line_in signals places (Some line) = entry_in signals places (words_of line)

-- ---- all lines

-- how many places the ring of these words has; a badly formed one has none
abbrev pub size_of : Option RingWords → ℕ
size_of None = 0
size_of (Some r) = length r.names

-- the line begins as that of a ring
abbrev pub begins_ring : Text → Bool
begins_ring line = starts_with (λ a b. a == b) line (codes "ring ")

-- how many places the ring of a line has, where it begins as one
abbrev pub ring_place : Option Text → List ℕ
ring_place None = []
ring_place (Some line) = if begins_ring line then size_of (ring_words (drop 1 (words_of line))) ∷ [] else []

-- how many places the rings of these lines have
abbrev pub ring_places : List (Option Text) → List ℕ
ring_places [] = []
ring_places (l ∷ ls) = ring_place l ++ ring_places ls

-- kinds of items go in this order
abbrev pub kind_of : Entry → ℕ
kind_of (entry.Sync s) = 0
kind_of (entry.Gray g) = 1
kind_of (entry.Ring r) = 2
kind_of (entry.Load l) = 3
kind_of (entry.Fifo p) = 4
kind_of entry.End = 5

-- the certificate with an item more
abbrev pub with_entry : Certificate → Entry → Certificate
with_entry c (entry.Sync s) = record c { syncs = c.syncs ++ s ∷ [] }
with_entry c (entry.Gray g) = record c { grays = c.grays ++ g ∷ [] }
with_entry c (entry.Ring r) = record c { rings = c.rings ++ r ∷ [] }
with_entry c (entry.Load l) = record c { loads = c.loads ++ l ∷ [] }
with_entry c (entry.Fifo p) = record c { fifos = c.fifos ++ p ∷ [] }
with_entry c entry.End = c

abbrev pub empty : Certificate
empty = record { syncs = []; grays = []; rings = []; loads = []; fifos = [] }

-- the refusal of a line by its number
abbrev pub broken_line : ℕ → Fault
broken_line n = broken 510 (codes "line " ++ decimal n)

-- no line stands behind the end
abbrev pub at_end : ℕ → Certificate → List (Option Text) → Result Certificate Fault
at_end n c [] = Ok c
at_end n c (l ∷ ls) = Err (broken_line n)

abbrev pub is_end : Entry → Bool
is_end entry.End = true
is_end (entry.Sync s) = false
is_end (entry.Gray g) = false
is_end (entry.Ring r) = false
is_end (entry.Load l) = false
is_end (entry.Fifo p) = false

-- what the line says, whose kind isn't one before that which was reached
abbrev pub entry_read : (kind n : ℕ) → Option Entry → Result Entry Fault
entry_read kind n None = Err (broken_line n)
entry_read kind n (Some e) = if nat_le kind (kind_of e) then Ok e else Err (broken_line n)

-- what goes on behind it: the certificate ends, or it has an item more
abbrev pub behind_line : Result Entry Fault → Result Certificate Fault → (Entry → Result Certificate Fault) → Result Certificate Fault
behind_line (Err f) ended next = Err f
behind_line (Ok e) ended next = if is_end e then ended else next e

-- the certificate that the lines from number n on complete, or the first of them that breaks a rule; the end has to be there
abbrev pub lines_read : List Signal → List ℕ → (kind n : ℕ) → Certificate → List (Option Text) → Result Certificate Fault
lines_read signals places kind n c [] = Err (broken_line n)
lines_read signals places kind n c (l ∷ ls) = behind_line (entry_read kind n (line_in signals places l)) (at_end (n + 1) c ls)
    (λ e. lines_read signals places (kind_of e) (n + 1) (with_entry c e) ls)

-- the first line is the head line
abbrev pub is_head : Option Text → Bool
is_head None = false
is_head (Some line) = bytes_eq line head_line

abbrev pub text_read : List Signal → List ℕ → List (Option Text) → Result Certificate Fault
text_read signals places [] = Err (broken_line 1)
text_read signals places (l ∷ ls) = if is_head l then lines_read signals places 0 2 empty ls else Err (broken_line 1)

-- the certificate that the text is of, or its first broken line; rings are counted over the whole text
abbrev pub certificate_in : List Signal → Text → Result Certificate Fault
certificate_in signals text = text_read signals (ring_places (lines_of text)) (lines_of text)

-- the number of the refusal
abbrev pub certificate_numbers : List ℕ
certificate_numbers = 510 ∷ []
