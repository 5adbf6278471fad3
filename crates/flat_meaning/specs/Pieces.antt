-- The trees of wires: what each driver gives a signal, joined.
use Rattle.std.specs.Prelude.{◌≡◌, ℕ, zero, suc, ◌+◌, ◌-◌, ◌<◌, ◌≤◌, max, min, Bool, false, cond, ◌==◌, nat_lt, List, [], ◌∷◌, ◌++◌}
use Rattle.cell_graph.specs.Reading.{Reading}
use Rattle.cell_graph.specs.Tree.{Tree, Const, Slice, width, bit}
use Rattle.flat_meaning.specs.Values.{Word}
use Rattle.flat_meaning.specs.Flat.{Expr, Stmt, Target, Whole, Part, Pick, Group, Targets, no_targets, target, target_size, target_sizes}
use Rattle.flat_meaning.specs.Trees.{Selects, glue, cut, value_tree}
use Rattle.flat_meaning.specs.Assigned.{may_assign}
use Rattle.flat_meaning.specs.Law.{wire_tree}

-- the bits of a signal from a place on, as those of a tree of `size` bits from the place `inside` on
pub record Piece : Type 0 where
  pub at : ℕ
  pub bits : ℕ
  pub tree : Tree
  pub size : ℕ
  pub inside : ℕ

-- a tree that gives all its bits
abbrev pub whole_piece : (at bits : ℕ) → Tree → Piece
whole_piece at bits t = record { at = at; bits = bits; tree = t; size = bits; inside = 0 }

-- an assignment's pieces of one signal, in the target of a value's tree
module _ (wid : ℕ → ℕ) (x : ℕ) where
  abbrev mutual
    pub pieces : Target → Tree → List Piece
    pieces (Whole s) t = cond (x == s) (whole_piece 0 (wid s) t ∷ []) []
    pieces (Part s at w) t = cond (x == s) (whole_piece at w t ∷ []) []
    pieces (Pick s e) t = []
    pieces (Group ts) t = all_pieces ts t

    pub all_pieces : Targets → Tree → List Piece
    all_pieces no_targets t = []
    all_pieces (target g gs) t = pieces g (Slice t (target_sizes wid gs) (target_size wid g)) ++ all_pieces gs t

-- a run of bits
pub record Run : Type 0 where
  pub at : ℕ
  pub bits : ℕ

abbrev pub add_bit : ℕ → List Run → List Run
add_bit n [] = record { at = n; bits = 1 } ∷ []
add_bit n (r ∷ rs) = cond (r.at == suc n) (record { at = n; bits = suc r.bits } ∷ rs) (record { at = n; bits = 1 } ∷ r ∷ rs)

-- the longest runs of a set below n, in front of the runs above
abbrev pub runs : (ℕ → Bool) → ℕ → List Run → List Run
runs p zero rs = rs
runs p (suc n) rs = runs p n (cond (p n) (add_bit n rs) rs)

-- a process's pieces of one signal: each run of bits that it may assign is a part of the finished tree
abbrev pub run_pieces : (size : ℕ) → Tree → List Run → List Piece
run_pieces n t [] = []
run_pieces n t (r ∷ rs) = record { at = r.at; bits = r.bits; tree = t; size = n; inside = r.at } ∷ run_pieces n t rs

abbrev pub comb_pieces : (ℕ → ℕ) → Selects → ℕ → Stmt → List Piece
comb_pieces wid sel x body = run_pieces (wid x) (wire_tree wid sel body x) (runs (may_assign wid body x) (wid x) [])

abbrev pub assigned_pieces : (ℕ → ℕ) → Selects → ℕ → List (Target × Expr) → List Piece
assigned_pieces wid sel x [] = []
assigned_pieces wid sel x (a ∷ more) = pieces wid x a.0 (value_tree wid sel a.0 a.1) ++ assigned_pieces wid sel x more

abbrev pub all_comb_pieces : (ℕ → ℕ) → Selects → ℕ → List Stmt → List Piece
all_comb_pieces wid sel x [] = []
all_comb_pieces wid sel x (body ∷ more) = comb_pieces wid sel x body ++ all_comb_pieces wid sel x more

abbrev pub placed : Piece → List Piece → List Piece
placed p [] = p ∷ []
placed p (q ∷ qs) = cond (nat_lt p.at q.at) (p ∷ q ∷ qs) (q ∷ placed p qs)

-- by place, the lowest first
abbrev pub in_order : List Piece → List Piece
in_order [] = []
in_order (p ∷ ps) = placed p (in_order ps)

-- the parts of those pieces that a select of w bits from a place on meets, with places from its own lowest bit
abbrev pub met : (at w : ℕ) → List Piece → List Piece
met at w [] = []
met at w (p ∷ ps) =
    let low = max at p.at in let high = min (at + w) (p.bits + p.at) in
    cond (nat_lt low high) (whole_piece (low - at) (high - low) (cut p.size (p.inside + (low - p.at)) (high - low) p.tree) ∷ met at w ps) (met at w ps)

-- n low bits with the tree `low`, whole pieces above them, and zeros between, up to w bits
abbrev pub join_pieces : (n : ℕ) → Tree → List Piece → (w : ℕ) → Tree
join_pieces n low [] w = glue (w - n) (Const (w - n) 0) n low
join_pieces n low (p ∷ ps) w = join_pieces (p.bits + p.at) (glue p.bits p.tree p.at (glue (p.at - n) (Const (p.at - n) 0) n low)) ps w

-- a select of a wire, or the whole wire
abbrev pub wire_select : List Piece → (at w : ℕ) → Tree
wire_select ps at w = join_pieces 0 (Const 0 0) (met at w ps) w

-- the piece has the word's bits
pub record IsRight (r : Reading) (f : Word) (p : Piece) : Type 0 where
  pub wide : width p.tree ≡ p.size
  pub room : p.inside + p.bits ≤ p.size
  pub same : (i : ℕ) → i < p.bits → bit r p.tree (p.inside + i) ≡ f (p.at + i)

-- pieces in ascending order, each above the ones before it: those that a select meets have the bits of a word, which is zero between. The
-- others' trees may be anything
abbrev pub AreMet : Reading → Word → (at w n : ℕ) → List Piece → (whole : ℕ) → Type 0
AreMet r f at w n [] whole = (n ≤ whole) × ((i : ℕ) → n ≤ i → i < whole → f i ≡ false)
AreMet r f at w n (p ∷ ps) whole = (n ≤ p.at) × ((i : ℕ) → n ≤ i → i < p.at → f i ≡ false) × (max at p.at < min (at + w) (p.bits + p.at) → IsRight r f p) × AreMet r f at w (p.bits + p.at) ps whole

-- a select of a wire has the wire's bits where the pieces that it meets do
abbrev pub SelectLaw : Type 0
SelectLaw = (r : Reading) (f : Word) (ps : List Piece) (whole at w : ℕ) → at + w ≤ whole → whole ≤ 64 → AreMet r f at w 0 ps whole
    → (width (wire_select ps at w) ≡ w) × ((i : ℕ) → i < w → bit r (wire_select ps at w) i ≡ f (at + i))
