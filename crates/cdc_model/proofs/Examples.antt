-- Worked examples, by computation.
use Rattle.std.proofs.Common.{◌≡◌, ℕ, true, false, Some, None, [], ◌∷◌, refl}
use Rattle.cdc_base.specs.declared.bit.Bit.{Bit}
use Rattle.cell_graph.specs.Tree.{Tree, Var, Const, Not, And, Eq, Mux}
use Rattle.cell_graph.specs.Cofactor.{known, same, reads}
use Rattle.cdc_model.specs.Path.{path}

abbrev bit_of : ℕ → Bit
bit_of sig = record { sig = sig; at = 0 }

-- a toggle handshake: req (signal 0), k2 (1), send (2), data (3), d (4), s2 (5), s3 (6), x (7)
abbrev fires : Tree
fires = And (Var 2 1) (Eq (Var 0 1) (Var 1 1))

abbrev next_req : Tree
next_req = Mux fires (Not (Var 0 1)) (Var 0 1)

abbrev next_data : Tree
next_data = Mux fires (Var 4 1) (Var 3 1)

abbrev next_x : Tree
next_x = Mux (Not (Eq (Var 5 1) (Var 6 1))) (Var 3 1) (Var 7 1)

waits_low : known ((bit_of 0, false) ∷ (bit_of 1, true) ∷ []) next_req 0 ≡ Some false
waits_low = refl

waits_high : known ((bit_of 0, true) ∷ (bit_of 1, false) ∷ []) next_req 0 ≡ Some true
waits_high = refl

free : known ((bit_of 0, true) ∷ (bit_of 1, true) ∷ []) next_req 0 ≡ None
free = refl

holds : same ((bit_of 0, true) ∷ (bit_of 1, false) ∷ []) next_data 0 ≡ Some (bit_of 3)
holds = refl

blind : reads ((bit_of 5, true) ∷ (bit_of 6, true) ∷ []) next_x 0 (bit_of 3) ≡ false
blind = refl

sees : reads [] next_x 0 (bit_of 3) ≡ true
sees = refl

-- a multiplexer isn't known by its first branch
branch : known [] (Mux (Var 0 1) (Const 1 1) (Const 1 0)) 0 ≡ None
branch = refl

-- a path takes the feed of least number that reads the bit, also a branch that a known condition never takes
least_feed : path (Mux (Const 1 0) (And (Var 0 1) (Var 1 1)) (Var 0 1)) 0 (bit_of 0)
    ≡ (Mux (Const 1 0) (And (Var 0 1) (Var 1 1)) (Var 0 1), 0) ∷ (And (Var 0 1) (Var 1 1), 0) ∷ (Var 0 1, 0) ∷ []
least_feed = refl
