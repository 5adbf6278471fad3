-- Lines of FIFOs, one after the other.
use Rattle.std.proofs.Common.{◌≡◌, ◌∙◌, ◌<◌, ◌+◌, ◌++◌, ℕ, List, [], ◌∷◌, ap, ap₂, sym, length, drop, get_or}
use Rattle.std.proofs.lemmas.List.{drop_more}
use mathlib.Core.List.{append_assoc}
use Rattle.cdc_base.specs.declared.signal.Signal.{Signal}
use Rattle.fifo_scheme.specs.declared.found.Fifo.{Fifo as Entry}
use Rattle.fifo_scheme.specs.Lines.{fifo_line, fifo_lines_from}

pub one_line_more : (signals : List Signal) (fifos : List Entry) (i n : ℕ) (lines more : List (List ℕ)) (e : Entry) (line : List ℕ) (next : ℕ)
    → i < length fifos → e ≡ get_or fifos i e
    → line ≡ fifo_line signals n e → more ≡ lines ++ line ∷ [] → next ≡ n + 1
    → lines ++ fifo_lines_from signals n (drop i fifos) ≡ more ++ fifo_lines_from signals next (drop (i + 1) fifos)
one_line_more signals fifos i n lines more e line next lt item is pushed number =
    ap (λ xs. lines ++ fifo_lines_from signals n xs) (drop_more fifos i e lt)
    ∙ ap (λ (x : Entry). lines ++ fifo_line signals n x ∷ fifo_lines_from signals (n + 1) rest) (sym item)
    ∙ ap₂ (λ (x : List ℕ) (m : ℕ). lines ++ x ∷ fifo_lines_from signals m rest) (sym is) (sym number)
    ∙ sym (append_assoc lines (line ∷ []) (fifo_lines_from signals next rest))
    ∙ ap (λ ys. ys ++ fifo_lines_from signals next rest) (sym pushed)
  where
    rest : List Entry
    rest = drop (i + 1) fifos
