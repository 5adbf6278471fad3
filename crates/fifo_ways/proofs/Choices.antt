-- One word of a choice after the other.
use Rattle.std.proofs.Common.{◌≡◌, ◌∙◌, sym, ap, ap₂, subst, refl, arith, ℕ, suc, ◌+◌, ◌-◌, ◌*◌, ◌^◌, ◌%◌, ◌<◌, ◌≤◌, List, [], ◌∷◌, ◌++◌, length, Option, Some, None}
use Rattle.std.proofs.lemmas.Nat.{pow_pos}
use Rattle.std.proofs.Math.Nat.{mod-eq_of_lt}
use Rattle.std.proofs.Math.Pow.{pow_mono}
use Rattle.cdc_base.specs.declared.bit.Bit.{Bit}
use Rattle.cell_graph.specs.Tree.{Tree, Mux, Var}
use Rattle.cell_graph.specs.Origin.{TreeBit, origin}
use Rattle.cdc_model.specs.Design.{Design}
use Rattle.fifo_laws.specs.Sides.{Side, bit_node, side_width}
use Rattle.fifo_laws.specs.Words.{Chooses, depth_of}
use Rattle.gray_pointer.proofs.Bits.{own_bit, same_tree, same_place}
use Rattle.fifo_ways.specs.Chosen.{IsChosen}
use Rattle.fifo_ways.specs.Steps.{ChoosesFirst, IsEnded, IsIndexOf}

-- the bit of a signal that a node is
abbrev signal_of : Tree → ℕ
signal_of (Var sig w) = sig
signal_of t = 0

abbrev bit_there : TreeBit → Bit
bit_there None = record { sig = 0; at = 0 }
bit_there (Some n) = record { sig = signal_of n.0; at = n.1 }

module _ (d : Design) (s : Side) where
  same_word : (m k : Bit) → bit_node d m ≡ bit_node d k → m ≡ k
  same_word m k e = ap bit_there e

  -- a word before a choice
  pub with-first : (n : ℕ) (x rest : TreeBit) (word : Bit) → ChoosesFirst d s n x word rest → (ms : List Bit) → Chooses d s (suc n) ms rest
      → Chooses d s n (word ∷ ms) x
  with-first n x rest word f [] h = absurd h
  with-first n x rest word f (m ∷ ms) h = (f.0, f.1, f.2, f.3, f.4, f.5, f.6, subst (λ y. Chooses d s (suc n) (m ∷ ms) y) (sym f.7) h)

  -- a choice of two words or more has that word first, and then a choice among the others
  pub without-first : (n : ℕ) (x rest : TreeBit) (word : Bit) → ChoosesFirst d s n x word rest → (ms : List Bit) → 2 ≤ length ms → Chooses d s n ms x
      → (ks : List Bit) × (ms ≡ word ∷ ks) × Chooses d s (suc n) ks rest
  without-first n x rest word f [] l h = absurd h
  without-first n x rest word f (m ∷ []) l h = absurd (omega arith)
  without-first n x rest word f (m ∷ k ∷ ms) l h =
      let e : own_bit (Mux f.0 f.1 f.2) f.3 ≡ own_bit (Mux h.0 h.1 h.2) h.3 = sym f.4 ∙ h.4 in
      let t = same_tree (Mux f.0 f.1 f.2) (Mux h.0 h.1 h.2) f.3 h.3 e in
      let i = same_place (Mux f.0 f.1 f.2) (Mux h.0 h.1 h.2) f.3 h.3 e in
      let p : f.1 ≡ h.1 = cc in let q : f.2 ≡ h.2 = cc in
      let o : bit_node d m ≡ bit_node d word = sym h.6 ∙ ap₂ origin (sym p) (sym i) ∙ f.6 in
      let r : origin h.2 h.3 ≡ rest = ap₂ origin (sym q) (sym i) ∙ f.7 in
      (k ∷ ms, ap (λ y. y ∷ k ∷ ms) (same_word m word o), subst (λ y. Chooses d s (suc n) (k ∷ ms) y) r h.7)

  -- where there is no such word there is no choice of two words or more
  pub none-first : (n : ℕ) (x : TreeBit) → ((word : Bit) (rest : TreeBit) → ChoosesFirst d s n x word rest → ⊥) → (ms : List Bit) → 2 ≤ length ms
      → Chooses d s n ms x → ⊥
  none-first n x none [] l h = h
  none-first n x none (m ∷ []) l h = absurd (omega arith)
  none-first n x none (m ∷ k ∷ ms) l h = none m (origin h.2 h.3) (h.0, h.1, h.2, h.3, h.4, h.5, h.6, refl)

  -- the words so far, and what chooses among the others
  pub record AreFirst (x : TreeBit) (n : ℕ) (words : List Bit) (rest : TreeBit) : Type 0 where
    pub so_many : length words ≡ n
    pub all : (ms : List Bit) → Chooses d s n ms rest → Chooses d s 0 (words ++ ms) x
    pub only : (ws : List Bit) → n < length ws → Chooses d s 0 ws x → (ms : List Bit) × (ws ≡ words ++ ms) × Chooses d s n ms rest

  pub no-words : (x : TreeBit) → AreFirst x 0 [] x
  no-words x = record { so_many = refl; all = λ ms h. h; only = λ ws l h. (ws, refl, h) }

  append-last : (words ms : List Bit) (w : Bit) → (words ++ w ∷ []) ++ ms ≡ words ++ (w ∷ ms)
  append-last [] ms w = refl
  append-last (v ∷ words) ms w = ap (λ xs. v ∷ xs) (append-last words ms w)

  length-both : (words ms : List Bit) → length (words ++ ms) ≡ length words + length ms
  length-both [] ms = omega arith
  length-both (w ∷ words) ms = let e = length-both words ms in omega arith

  pub one-more : (x : TreeBit) (n : ℕ) (words : List Bit) (rest further : TreeBit) (word : Bit) → AreFirst x n words rest
      → ChoosesFirst d s n rest word further → AreFirst x (n + 1) (words ++ word ∷ []) further
  one-more x n words rest further word so f = record {
    so_many = let e = so.so_many in let l = length-both words (word ∷ []) in omega arith;
    all = λ ms h.
        let g : Chooses d s (suc n) ms further = subst (λ k. Chooses d s k ms further) (let e : n + 1 ≡ suc n = omega arith in e) h in
        subst (λ ws. Chooses d s 0 ws x) (sym (append-last words ms word)) (so.all (word ∷ ms) (with-first n rest further word f ms g));
    only = λ ws l h.
        let t = so.only ws (omega arith) h in
        let e = so.so_many in
        let k = ap length t.1 in
        let j = length-both words t.0 in
        let r = without-first n rest further word f t.0 (omega arith) t.2 in (
          r.0,
          t.1 ∙ ap (λ ms. words ++ ms) r.1 ∙ sym (append-last words r.0 word),
          subst (λ k. Chooses d s k r.0 further) (let e : suc n ≡ n + 1 = omega arith in e) r.2,
        );
  }

  -- the last word
  pub last-word : (x : TreeBit) (n : ℕ) (words : List Bit) (rest : TreeBit) (word : Bit) → AreFirst x n words rest → rest ≡ bit_node d word
      → Chooses d s 0 (words ++ word ∷ []) x
  last-word x n words rest word so e = so.all (word ∷ []) e

  pub no-last : (x : TreeBit) (n : ℕ) (words : List Bit) (rest : TreeBit) → AreFirst x n words rest → ((word : Bit) → rest ≡ bit_node d word → ⊥)
      → (ws : List Bit) → length ws ≡ n + 1 → Chooses d s 0 ws x → ⊥
  no-last x n words rest so none ws l h =
      let t = so.only ws (omega arith) h in
      let e = so.so_many in
      let k = ap length t.1 in
      let j = length-both words t.0 in
      single t.0 (omega arith) t.2
    where
      single : (ms : List Bit) → length ms ≡ 1 → Chooses d s n ms rest → ⊥
      single [] l h = h
      single (m ∷ []) l h = none m h
      single (m ∷ k ∷ ms) l h = absurd (omega arith)

  pub no-more : (x : TreeBit) (n : ℕ) (words : List Bit) (rest : TreeBit) → AreFirst x n words rest
      → ((word : Bit) (further : TreeBit) → ChoosesFirst d s n rest word further → ⊥)
      → (ws : List Bit) → n + 2 ≤ length ws → Chooses d s 0 ws x → ⊥
  no-more x n words rest so none ws l h =
      let t = so.only ws (omega arith) h in
      let e = so.so_many in
      let k = ap length t.1 in
      let j = length-both words t.0 in
      none-first n rest none t.0 (omega arith) t.2

  -- with a last word, or none, they are what is chosen
  pub all-chosen : (x : TreeBit) (n : ℕ) (words : List Bit) (rest : TreeBit) → AreFirst x n words rest → n + 1 ≡ depth_of d s
      → (found : Option (List Bit)) → IsEnded d words rest found
      → IsChosen d s x found
  all-chosen x n words rest so e None none = λ ws l h. no-last x n words rest so none ws (l ∙ sym e) h
  all-chosen x n words rest so e (Some all) h = (
    (let l = ap length h.2 ∙ length-both words (h.0 ∷ []) in let k = so.so_many in omega arith),
    subst (λ ws. Chooses d s 0 ws x) (sym h.2) (last-word x n words rest h.0 so h.1),
  )

  -- ---- the index of a count of w bits

  module _ (w bits : ℕ) (is : bits ≡ w - 1) (wide : side_width d s ≡ w) where
    pub index_is : (count : ℕ) → s.reg.count ≡ count → 2 ≤ w → w ≤ 11 → IsIndexOf d s (record { count = count; bits = bits })
    index_is count same many few =
        record { count = same; bits = wide ∙ (let e : w ≡ bits + 1 = omega arith in e); some = omega arith; few = omega arith }

    -- the place of the last word
    pub last_place : w ≤ 11 → (by shifted last : ℕ) → by ≡ bits → shifted ≡ 1 * 2 ^ by % 2 ^ 64 → last ≡ shifted - 1 → last + 1 ≡ depth_of d s
    last_place few by shifted last same moved down =
        let low : bits ≤ 10 = omega arith in
        let up : 2 ^ bits ≤ 2 ^ 10 = pow_mono low in
        let some = pow_pos bits in
        let plain : 2 ^ bits % 2 ^ 64 ≡ 2 ^ bits = mod-eq_of_lt (omega arith) in
        let one : 1 * 2 ^ bits ≡ 2 ^ bits = omega arith in
        let all : shifted ≡ 2 ^ bits = moved ∙ ap (λ k. 1 * 2 ^ k % 2 ^ 64) same ∙ ap (λ m. m % 2 ^ 64) one ∙ plain in
        let depth : depth_of d s ≡ 2 ^ bits = ap (λ v. 2 ^ (v - 1)) wide ∙ ap (λ k. 2 ^ k) (sym is) in
        omega arith
