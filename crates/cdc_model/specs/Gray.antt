-- Gray codes of counters. A word is the list of its bits, the least significant first.
use Rattle.std.specs.Prelude.{◌≡◌, ℕ, Bool, true, false, cond, not, Some, List, [], ◌∷◌, ◌⊎◌, map, Contains}
use Rattle.std.specs.List.{AllByRecursion}
use Rattle.cdc_base.specs.declared.bit.Bit.{Bit}
use Rattle.cell_graph.specs.Reading.{Reading}
use Rattle.cdc_model.specs.declared.scheme.GrayReg.{GrayReg}
use Rattle.cdc_model.specs.declared.scheme.Shape.{Shape}
use Rattle.cdc_model.specs.declared.scheme.Shape.TheVariants.{G1, G2, G3}
use Rattle.cdc_model.specs.Design.{Design, word}

-- the next count, which wraps round
abbrev pub increment : List Bool → List Bool
increment [] = []
increment (false ∷ bs) = true ∷ bs
increment (true ∷ bs) = false ∷ increment bs

-- the exclusive or of two bits
abbrev pub exclusive_or : Bool → Bool → Bool
exclusive_or b c = cond b (not c) c

-- the binary-reflected Gray code: the word xor itself shifted right by one
abbrev pub gray_code : List Bool → List Bool
gray_code [] = []
gray_code (b ∷ []) = b ∷ []
gray_code (b ∷ c ∷ bs) = exclusive_or b c ∷ gray_code (c ∷ bs)

-- the words differ in exactly one bit
abbrev pub DifferInOne : List Bool → List Bool → Type 0
DifferInOne [] ys = ⊥
DifferInOne (x ∷ xs) [] = ⊥
DifferInOne (x ∷ xs) (y ∷ ys) = ((x ≡ y) × DifferInOne xs ys) ⊎ ((x ≡ not y) × (xs ≡ ys))

-- the next code h, from count b and code g, where the next count is c: that of the next count, or both may stay, or that of the count before
abbrev pub Codes : Shape → List Bool → List Bool → List Bool → List Bool → Type 0
Codes G1 b g c h = h ≡ gray_code c
Codes G2 b g c h = (h ≡ gray_code c) ⊎ ((c ≡ b) × (h ≡ g))
Codes G3 b g c h = h ≡ gray_code b

-- A register bit of the clock, which copies no bit but itself and the others.
pub record IsOwn (d : Design) (c : ℕ) (others : List Bit) (b : Bit) : Type 0 where
  pub register : d.is_register b ≡ true
  pub clock : d.clock b ≡ Some c
  pub own : (a : Bit) → d.copied b ≡ Some a → (a ≡ b) ⊎ Contains others a

-- A counter that stays or counts by one, and a register of its clock that follows with its Gray code.
pub record IsGray (d : Design) (g : GrayReg) : Type 0 where
  -- no bit of it copies a flop of another register, but for the code's, which may copy the counter's
  pub one_clock : (c : ℕ) × AllByRecursion (IsOwn d c []) (word d g.count) × AllByRecursion (IsOwn d c (word d g.count)) (word d g.gray)
  -- the code starts as that of the count
  pub start : (r : Reading) → ((b : Bit) (v : Bool) → d.start b ≡ Some v → r b ≡ v) → map r (word d g.gray) ≡ gray_code (map r (word d g.count))
  pub counts : (r : Reading) → (map (d.next r) (word d g.count) ≡ map r (word d g.count)) ⊎ (map (d.next r) (word d g.count) ≡ increment (map r (word d g.count)))
  pub codes : (r : Reading) → Codes g.shape (map r (word d g.count)) (map r (word d g.gray)) (map (d.next r) (word d g.count)) (map (d.next r) (word d g.gray))
