-- Gray words of cells, bit by bit.
use Rattle.std.proofs.Common.{◌≡◌, sym, subst, arith, ℕ, suc, ◌+◌, ◌<◌, List}
use Rattle.cell_graph.specs.declared.cell.CellId.{CellId}
use Rattle.cell_graph.specs.Cells.{Cells}
use Rattle.cell_graph.specs.Tree.{Var}
use Rattle.cell_graph.specs.Origin.{TreeBit, origin}
use Rattle.cell_graph.specs.Unfolded.{tree_of}
use Rattle.cdc_model.specs.Word.{IsXorOf, IsTopOf, IsGrayWord}
use Rattle.gray_pointer.specs.declared.word.Coded.{Coded}
use Rattle.gray_pointer.specs.declared.word.Coded.TheVariants as coded
use Rattle.gray_pointer.specs.Words.{word_of, coded_word, coded_bit}
use Rattle.gray_pointer.proofs.Bits.{bits, origins_are, cells_are, AreCodeBits, code_bits, code_word}

module _ (g : Cells) (id : CellId) (word : Coded) (w n : ℕ) (e : w ≡ suc n) where
  coded_bits : (c : Coded) → coded_word g c w ≡ bits (coded_bit g c w) 0 w
  coded_bits (coded.Cell x) = origins_are (tree_of g x) 0 w
  coded_bits (coded.Own sig) = cells_are (Var sig w) 0 w

  pub gray_word : ((j : ℕ) → j < n → IsXorOf (origin (tree_of g id) j) (coded_bit g word w j) (coded_bit g word w (suc j))) → IsTopOf (origin (tree_of g id) n) (coded_bit g word w n)
      → IsGrayWord (word_of g id w) (coded_word g word w)
  gray_word pairs top =
      subst (λ (m : List TreeBit). IsGrayWord m (coded_word g word w)) (sym (origins_are (tree_of g id) 0 w))
      (subst (IsGrayWord (bits (origin (tree_of g id)) 0 w)) (sym (coded_bits word))
      (subst (λ (k : ℕ). IsGrayWord (bits (origin (tree_of g id)) 0 k) (bits (coded_bit g word w) 0 k)) (sym e)
      (code_word (origin (tree_of g id)) (coded_bit g word w) 0 n (record {
        pairs = λ j l m. pairs j (omega arith);
        top = subst (λ (k : ℕ). IsTopOf (origin (tree_of g id) k) (coded_bit g word w k)) (let s : n ≡ 0 + n = omega arith in s) top;
      }))))

  module _ (h : IsGrayWord (word_of g id w) (coded_word g word w)) where
    parts : AreCodeBits (origin (tree_of g id)) (coded_bit g word w) 0 n
    parts = code_bits (origin (tree_of g id)) (coded_bit g word w) 0 n
        (subst (λ (k : ℕ). IsGrayWord (bits (origin (tree_of g id)) 0 k) (bits (coded_bit g word w) 0 k)) e
        (subst (IsGrayWord (bits (origin (tree_of g id)) 0 w)) (coded_bits word)
        (subst (λ (m : List TreeBit). IsGrayWord m (coded_word g word w)) (origins_are (tree_of g id) 0 w) h)))

    pub gray_pair : (j : ℕ) → j < n → IsXorOf (origin (tree_of g id) j) (coded_bit g word w j) (coded_bit g word w (suc j))
    gray_pair j l = parts.pairs j (omega arith) (omega arith)

    pub gray_top : IsTopOf (origin (tree_of g id) n) (coded_bit g word w n)
    gray_top = subst (λ (k : ℕ). IsTopOf (origin (tree_of g id) k) (coded_bit g word w k)) (let s : 0 + n ≡ n = omega arith in s) parts.top
