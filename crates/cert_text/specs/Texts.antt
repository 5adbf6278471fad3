-- The text of a certificate.
use Rattle.std.specs.Prelude.{Bool, true, false, List, [], ◌∷◌, ◌++◌, map, codes, ℕ}
use Rattle.std.specs.Fmt.{decimal}
use Rattle.cdc_base.specs.declared.signal.Signal.{Signal}
use Rattle.cdc_model.specs.declared.scheme.Load.{Load}
use Rattle.cdc_model.specs.declared.scheme.Ring.{Ring}
use Rattle.cdc_model.specs.declared.scheme.Sync.{Sync}
use Rattle.report.specs.Findings.{ring_number}
use Rattle.report.specs.Names.{bit_of, bits_of, signal_of}
use Rattle.report.specs.VerdictText.{ended, gray_line}
use Rattle.cert_text.specs.declared.certificate.Certificate.{Certificate}
use Rattle.cert_text.specs.declared.certificate.Entry.{Entry}
use Rattle.cert_text.specs.declared.certificate.Entry.TheVariants as entry
use Rattle.fifo_scheme.specs.declared.found.FifoPair.{FifoPair}

abbrev pub is_empty : {A : Type 0} → List A → Bool
is_empty [] = true
is_empty (x ∷ xs) = false

-- a synchronizer by its source and its flops
abbrev pub sync_line : List Signal → Sync → List ℕ
sync_line signals s = codes "sync " ++ bit_of signals s.from ++ codes " : " ++ bits_of signals s.flops

-- a ring by its bits and the places of the last flop there and of the acknowledgement
abbrev pub ring_line : List Signal → Ring → List ℕ
ring_line signals r = codes "ring " ++ bits_of signals r.bits ++ codes " end " ++ decimal r.end ++ codes " ack " ++ decimal r.ack

-- a load by its crossing, the number of its ring, counted from 1, and the place of its gate
abbrev pub load_line : List Signal → Load → List ℕ
load_line signals l = codes "load " ++ bit_of signals l.from ++ codes " -> " ++ bit_of signals l.to ++ codes " ring " ++ decimal (ring_number l.ring)
    ++ codes " gate " ++ decimal l.gate

-- a FIFO by its two counts
abbrev pub fifo_line : List Signal → FifoPair → List ℕ
fifo_line signals p = codes "fifo " ++ signal_of signals p.wb ++ codes " " ++ signal_of signals p.rb

abbrev pub entry_line : List Signal → Entry → List ℕ
entry_line signals (entry.Sync s) = sync_line signals s
entry_line signals (entry.Gray g) = gray_line signals g
entry_line signals (entry.Ring r) = ring_line signals r
entry_line signals (entry.Load l) = load_line signals l
entry_line signals (entry.Fifo p) = fifo_line signals p
entry_line signals entry.End = codes "end"

-- the items of a certificate in the order of their lines
abbrev pub entries_of : Certificate → List Entry
entries_of c = map entry.Sync c.syncs ++ (map entry.Gray c.grays ++ (map entry.Ring c.rings ++ (map entry.Load c.loads ++ map entry.Fifo c.fifos)))

-- the first line, a line for each item, and the last line
abbrev pub head_line : List ℕ
head_line = codes "cdc certificate 1"

abbrev pub certificate_lines : List Signal → Certificate → List (List ℕ)
certificate_lines signals c = head_line ∷ (map (entry_line signals) (entries_of c) ++ entry_line signals entry.End ∷ [])

-- each line is ended by a line feed
abbrev pub certificate_text : List Signal → Certificate → List ℕ
certificate_text signals c = ended (certificate_lines signals c)
