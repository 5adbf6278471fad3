-- The clocks that a lane's step draws.
use Rattle.std.specs.Prelude.{ℕ, ◌%◌, ◌==◌, Bool, true, cond, List, [], ◌∷◌, length}
use Rattle.cell_graph.specs.Tree.{bit_at}
use Rattle.domains.specs.declared.Domains.{Domains}
use Rattle.campaign.specs.Numbers.{numbers_from}
use Rattle.campaign.specs.Draws.{word, behind}

-- all clocks tick in each fourth step
abbrev pub is_full : ℕ → Bool
is_full number = number % 4 == 0

-- the first clock, where no other ticks
abbrev pub or_first : List ℕ → List ℕ
or_first [] = 0 ∷ []
or_first (c ∷ cs) = c ∷ cs

-- the clocks that tick: all of them, or those whose bits of the drawn word are set
abbrev pub edges_of : Domains → ℕ → List ℕ → List ℕ
edges_of domains number rng =
    cond (is_full number) (numbers_from (λ c. true) 0 (length domains.clocks)) (or_first (numbers_from (λ c. bit_at (word rng) (c % 64)) 0 (length domains.clocks)))

abbrev pub behind_edges : ℕ → List ℕ → List ℕ
behind_edges number rng = cond (is_full number) rng (behind rng)
