-- The lines of a finding, without line feeds.
use Rattle.std.specs.Prelude.{ℕ, ◌+◌, ◌-◌, ◌^◌, ◌==◌, nat_lt, min, if◌then◌else◌, List, [], ◌∷◌, ◌++◌, map, codes, Option, None, Some, slice_get, option_and_then}
use Rattle.std.specs.List.{list_any}
use Rattle.std.specs.Option.{option_map_or}
use Rattle.std.specs.Fmt.{decimal}
use Rattle.cdc_base.specs.declared.bit.Bit.{Bit}
use Rattle.cdc_base.specs.declared.fault.Place.{Place}
use Rattle.cdc_base.specs.declared.signal.Signal.{Signal}
use Rattle.cell_graph.specs.declared.cell.Node.{Node}
use Rattle.cell_graph.specs.declared.net.Net.{Net}
use Rattle.cell_graph.specs.Cells.{Cells}
use Rattle.domains.specs.declared.Domains.{Domains}
use Rattle.domains.specs.Assignment.{clock_of}
use Rattle.cdc_model.specs.declared.scheme.Arrival.{Arrival}
use Rattle.cdc_model.specs.declared.scheme.Crossing.{Crossing}
use Rattle.cdc_model.specs.declared.verdict.Finding.{Finding}
use Rattle.cdc_model.specs.declared.verdict.Finding.TheVariants.{V1, V2, V3, V4, V5, V6, V7, V8}
use Rattle.report.specs.Names.{bit_of, signal_of, group_of, node_of}

-- what the finding violates
abbrev pub code_of : Finding → List ℕ
code_of (V1 from to path) = codes "V1"
code_of (V2 from to path) = codes "V2"
code_of (V3 word group flops) = codes "V3"
code_of (V4 from group flops) = codes "V4"
code_of (V5 word group flops) = codes "V5"
code_of (V6 to group arrivals) = codes "V6"
code_of (V7 from to ring path) = codes "V7"
code_of (V8 from to ring path) = codes "V8"

abbrev pub crossing_of : List Signal → Bit → Bit → List ℕ
crossing_of signals b x = bit_of signals b ++ codes " -> " ++ bit_of signals x

-- a word and the group that it enters
abbrev pub entry_of : Net → Domains → ℕ → ℕ → List ℕ
entry_of net domains word group = signal_of net.graph.signals word ++ codes " -> " ++ group_of domains.groups group

-- within how many cycles of its clock a bit settles
abbrev pub settle_of : Domains → Bit → ℕ
settle_of domains x = option_map_or (λ pin. pin.settle) (option_and_then (slice_get domains.clocks) (clock_of domains x)) 1

abbrev pub fewer_than : ℕ → List ℕ
fewer_than flops = codes ": fewer than " ++ decimal flops ++ codes " flops"

-- what a copy without a synchronizer lacks
abbrev pub lack_of : ℕ → List ℕ
lack_of settle = if nat_lt settle 2 then codes ": no second flop" else fewer_than (settle + 1)

-- how many bits of one word these flops copy, beside those that the flops before them copy
abbrev pub bits_copied : List Crossing → List Crossing → ℕ
bits_copied before [] = 0
bits_copied before (f ∷ fs) = (if list_any (λ g. g.from.at == f.from.at) before then 0 else 1) + bits_copied (before ++ f ∷ []) fs

-- the number, counted from 1, of the ring at a place; it stands still at the end of its type
abbrev pub ring_number : ℕ → ℕ
ring_number place = min (place + 1) (2 ^ 64 - 1)

abbrev pub copied_of : List Crossing → List ℕ
copied_of flops = codes ": " ++ decimal (bits_copied [] flops) ++ codes " bits by first flops and no Gray register"

-- the bits, words and groups concerned, and what is wrong with them
abbrev pub what_of : Net → Domains → Finding → List ℕ
what_of net domains (V1 from to path) = crossing_of net.graph.signals from to ++ codes ": no scheme"
what_of net domains (V2 from to path) = crossing_of net.graph.signals from to ++ lack_of (settle_of domains to)
what_of net domains (V3 word group flops) = entry_of net domains word group ++ copied_of flops
what_of net domains (V4 from group flops) =
    bit_of net.graph.signals from ++ codes " -> " ++ group_of domains.groups group ++ codes ": several first flops"
what_of net domains (V5 word group flops) = entry_of net domains word group ++ codes ": several clocks"
what_of net domains (V6 to group arrivals) =
    bit_of net.graph.signals to ++ codes ": arrivals of several families from " ++ group_of domains.groups group
what_of net domains (V7 from to ring path) =
    crossing_of net.graph.signals from to ++ (codes ": data not held by ring " ++ decimal (ring_number ring))
what_of net domains (V8 from to ring path) =
    crossing_of net.graph.signals from to ++ (codes ": not gated by ring " ++ decimal (ring_number ring))

abbrev pub first_line : Net → Domains → Finding → List ℕ
first_line net domains f = code_of f ++ codes " " ++ what_of net domains f

-- the nodes of a path, each behind an arrow
abbrev pub nodes_of : Cells → List Node → List ℕ
nodes_of g [] = []
nodes_of g (n ∷ ns) = (codes " <- " ++ node_of g n) ++ nodes_of g ns

abbrev pub path_line : Cells → Bit → List Node → List ℕ
path_line g x path = codes "  path " ++ bit_of g.signals x ++ nodes_of g path

abbrev pub flop_line : List Signal → Crossing → List ℕ
flop_line signals f = codes "  flop " ++ crossing_of signals f.from f.to

abbrev pub arrival_line : List Signal → Arrival → List ℕ
arrival_line signals a =
    codes "  arrival " ++ bit_of signals a.bit ++ codes " of " ++ bit_of signals a.source ++ codes " depth " ++ decimal a.depth

-- the lines that show the finding: its path, its flops or its arrivals
abbrev pub more_lines : Cells → Finding → List (List ℕ)
more_lines g (V1 from to path) = path_line g to path ∷ []
more_lines g (V2 from to path) = path_line g to path ∷ []
more_lines g (V3 word group flops) = map (flop_line g.signals) flops
more_lines g (V4 from group flops) = map (flop_line g.signals) flops
more_lines g (V5 word group flops) = map (flop_line g.signals) flops
more_lines g (V6 to group arrivals) = map (arrival_line g.signals) arrivals
more_lines g (V7 from to ring path) = path_line g to path ∷ []
more_lines g (V8 from to ring path) = path_line g to path ∷ []

abbrev pub finding_lines : Net → Domains → Finding → List (List ℕ)
finding_lines net domains f = first_line net domains f ∷ more_lines net.graph f

-- the signal that the finding is about: the register that reads, the word, or the source that several flops copy
abbrev pub subject_of : Finding → ℕ
subject_of (V1 from to path) = to.sig
subject_of (V2 from to path) = to.sig
subject_of (V3 word group flops) = word
subject_of (V4 from group flops) = from.sig
subject_of (V5 word group flops) = word
subject_of (V6 to group arrivals) = to.sig
subject_of (V7 from to ring path) = to.sig
subject_of (V8 from to ring path) = to.sig

-- where the netlist declares it
abbrev pub place_of : List Signal → Finding → Place
place_of signals f = option_map_or (λ s. s.place) (slice_get signals (subject_of f)) (record { line = 0; column = 0 })

abbrev pub at_line : Place → List ℕ
at_line place = codes "  at " ++ decimal place.line ++ codes ":" ++ decimal place.column

-- the last line of a finding that is waived
abbrev pub reason_lines : Option (List ℕ) → List (List ℕ)
reason_lines None = []
reason_lines (Some reason) = (codes "  waived: " ++ reason) ∷ []
