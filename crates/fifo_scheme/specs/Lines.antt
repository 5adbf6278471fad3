-- The text lines of FIFOs.
use Rattle.std.specs.Prelude.{ℕ, ◌+◌, List, [], ◌∷◌, ◌++◌, length, codes, slice_get}
use Rattle.std.specs.Option.{option_map_or}
use Rattle.std.specs.Fmt.{decimal}
use Rattle.cdc_base.specs.declared.signal.Signal.{Signal}
use Rattle.fifo_scheme.specs.declared.found.Fifo.{Fifo as Entry}

-- the printed name of a signal
abbrev pub signal_text : List Signal → ℕ → List ℕ
signal_text signals sig = option_map_or (λ (s : Signal). s.name) (slice_get signals sig) []

-- fifo N: WB -> RB depth D crossings K
abbrev pub line_between : (n : ℕ) → (wb rb : List ℕ) → (depth count : ℕ) → List ℕ
line_between n wb rb depth count =
    codes "fifo " ++ (decimal n ++ (codes ": " ++
    (wb ++ (codes " -> " ++ (rb ++ (codes " depth " ++ (decimal depth ++ (codes " crossings " ++ decimal count))))))))

abbrev pub fifo_line : List Signal → ℕ → Entry → List ℕ
fifo_line signals n e = line_between n (signal_text signals e.wb) (signal_text signals e.rb) e.depth (length e.crossings)

-- the lines of FIFOs, numbered from n on
abbrev pub fifo_lines_from : List Signal → ℕ → List Entry → List (List ℕ)
fifo_lines_from signals n [] = []
fifo_lines_from signals n (e ∷ es) = fifo_line signals n e ∷ fifo_lines_from signals (n + 1) es
