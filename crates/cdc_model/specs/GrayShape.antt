-- Pairs of registers that have the shape of a counter and its Gray code.
use Rattle.std.specs.Prelude.{◌≡◌, ◌≢◌, ℕ, ◌≤◌, Bool, true, Some, List, [], map}
use Rattle.std.specs.List.{AllByRecursion}
use Rattle.cdc_base.specs.declared.bit.Bit.{Bit}
use Rattle.cell_graph.specs.Reading.{Reading}
use Rattle.cell_graph.specs.Tree.{Tree, bit}
use Rattle.cell_graph.specs.Cofactor.{same}
use Rattle.cell_graph.specs.Origin.{TreeBit}
use Rattle.cdc_model.specs.declared.scheme.GrayReg.{GrayReg}
use Rattle.cdc_model.specs.declared.scheme.Shape.{Shape}
use Rattle.cdc_model.specs.declared.scheme.Shape.TheVariants.{G1, G2, G3}
use Rattle.cdc_model.specs.Design.{Design, word}
use Rattle.cdc_model.specs.Gray.{gray_code}
use Rattle.cdc_model.specs.Word.{origins, own_word, IsCount, IsGrayWord, IsJoint}

-- The trees, by signal, are those of the next values.
pub record AreNextTrees (d : Design) (tree : ℕ → Tree) : Type 0 where
  pub next : (r : Reading) (x : Bit) → d.is_register x ≡ true → d.next r x ≡ bit r (tree x.sig) x.at
  pub copied : (x : Bit) → d.is_register x ≡ true → d.copied x ≡ same [] (tree x.sig) x.at

-- the origins n and m of the next values of b and g, of width w, have the shape: each shape only where the ones before it don't hold
abbrev pub HasShape : Shape → (b g w : ℕ) → List TreeBit → List TreeBit → Type 0
HasShape G1 b g w n m = IsCount b w n × IsGrayWord m n
HasShape G2 b g w n m = (IsCount b w n × IsGrayWord m n → ⊥) × IsJoint b g w n m
HasShape G3 b g w n m = (IsCount b w n × IsGrayWord m n → ⊥) × (IsJoint b g w n m → ⊥) × IsCount b w n × IsGrayWord m (own_word b w)

-- A Gray register: two registers of one clock and one width from 2 to 64, with known start values that fit, and next values of one of the shapes.
pub record IsGrayReg (d : Design) (tree : ℕ → Tree) (g : GrayReg) : Type 0 where
  pub apart : g.count ≢ g.gray
  pub width : (2 ≤ d.width g.count) × (d.width g.count ≤ 64) × (d.width g.gray ≡ d.width g.count)
  pub one_clock : (c : ℕ) × AllByRecursion (λ b. (d.is_register b ≡ true) × (d.clock b ≡ Some c)) (word d g.count)
      × AllByRecursion (λ b. (d.is_register b ≡ true) × (d.clock b ≡ Some c)) (word d g.gray)
  pub start : (vs : List Bool) × (map d.start (word d g.count) ≡ map Some vs) × (map d.start (word d g.gray) ≡ map Some (gray_code vs))
  pub shape : HasShape g.shape g.count g.gray (d.width g.count) (origins (tree g.count) 0 (d.width g.count)) (origins (tree g.gray) 0 (d.width g.count))
