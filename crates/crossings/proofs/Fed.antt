-- What the words of its operands show of a cell's bits, for each kind of cell.
use Rattle.std.proofs.Common.{◌≡◌, ◌∙◌, ◌⊎◌, inl, inr, sym, ap, subst, refl, arith, ℕ, ◌+◌, ◌*◌, ◌/◌, ◌%◌, ◌^◌, ◌<◌, ◌≤◌, ◌||◌, Bool, true, false, List, Option, Some, None, []}
use Rattle.std.specs.Prelude.{bit_or}
use Rattle.std.proofs.lemmas.Bool.{or_left, or_right, or_cases}
use Rattle.cdc_base.specs.declared.bit.Bit.{Bit}
use Rattle.cell_graph.specs.declared.cell.Cell.{Cell}
use Rattle.cell_graph.specs.declared.cell.Cell.TheVariants.{And, Or, Xor, Add, Sub, Eq, Lt, Shl, Shr, Mux, Concat, Slice}
use Rattle.cell_graph.specs.declared.cell.CellId.{CellId}
use Rattle.cell_graph.specs.Cells.{Cells, cell_width}
use Rattle.cell_graph.specs.Cofactor.{reads, known, known_number}
use Rattle.cell_graph.specs.Tree.{bit_at}
use Rattle.cell_graph.specs.Unfolded.{IsCellOf, tree_of}
use Rattle.cell_graph.proofs.Words.{bit_or-bit}
use Rattle.cofactor.specs.Made.{IsMovedUp, IsMovedDown, IsOfChoice, IsMadeOf}
use Rattle.cofactor.proofs.Makers.{down-there, down-only, up-there, up-only}
use Rattle.crossings.specs.Readings.{word_at, IsReading, AreOperandsRead, AreFed, IsFromLowest, IsAllIfAny}

module _ (g : Cells) (b : Bit) (words : List ℕ) where
  abbrev W : CellId → ℕ
  W x = cell_width g x

  abbrev R : CellId → ℕ → Type 0
  R x j = reads [] (tree_of g x) j b ≡ true

  abbrev word : CellId → ℕ
  word a = word_at words a

  -- ---- bits of one word, and of two

  set-one : (a x : CellId) (j : ℕ) → IsReading g b a (word a) → x ≡ a → j < W x → R x j → bit_at (word a) j ≡ true
  set-one a x j h e l r = (h j).1 (subst (λ y. (j < W y) × R y j) e (l, r))

  set-two : (a d x : CellId) (j : ℕ) → IsReading g b a (word a) → IsReading g b d (word d) → (x ≡ a) ⊎ (x ≡ d) → j < W x → R x j → bit_at (bit_or (word a) (word d)) j ≡ true
  set-two a d x j h k (inl e) l r = bit_or-bit (word a) (word d) j ∙ or_left (bit_at (word a) j) (bit_at (word d) j) (set-one a x j h e l r)
  set-two a d x j h k (inr e) l r = bit_or-bit (word a) (word d) j ∙ or_right (bit_at (word a) j) (bit_at (word d) j) (set-one d x j k e l r)

  of-two : (a d : CellId) (j : ℕ) → IsReading g b a (word a) → IsReading g b d (word d) → bit_at (bit_or (word a) (word d)) j ≡ true
      → (x : CellId) × ((x ≡ a) ⊎ (x ≡ d)) × (j < W x) × R x j
  of-two a d j h k set = elim (or_cases (bit_at (word a) j) (bit_at (word d) j) (sym (bit_or-bit (word a) (word d) j) ∙ set)) [
    | inl s ↦ (let p = (h j).0 s in (a, inl refl, p.0, p.1))
    | inr s ↦ (let p = (k j).0 s in (d, inr refl, p.0, p.1))
  ]

  -- ---- cells of one operand, and of two, where P tells which of its bits make bit i

  fed-one : (c : Cell) (a : CellId) (r : ℕ) (P : ℕ → ℕ → Type 0) → ((x : CellId) (i j : ℕ) → IsMadeOf g [] c i x j → (x ≡ a) × P i j) → ((i j : ℕ) → j < W a → P i j → IsMadeOf g [] c i a j)
      → ((i j : ℕ) → i < 64 → bit_at (word a) j ≡ true → P i j → bit_at r i ≡ true) → ((i : ℕ) → i < 64 → bit_at r i ≡ true → (j : ℕ) × (bit_at (word a) j ≡ true) × (j < W a → P i j))
      → IsReading g b a (word a) → AreFed g b c r
  fed-one c a r P from to there only h i lt = (
    λ s. let o = only i lt s in let p = (h o.0).0 o.1 in (a, o.0, to i o.0 p.0 (o.2 p.0), p.0, p.1),
    λ m. let p = from m.0 i m.1 m.2 in there i m.1 lt (set-one a m.0 m.1 h p.0 m.3 m.4) p.1,
  )

  fed-two : (c : Cell) (a d : CellId) (r : ℕ) (P : CellId → ℕ → ℕ → Type 0) → ((x : CellId) (i j : ℕ) → IsMadeOf g [] c i x j → ((x ≡ a) ⊎ (x ≡ d)) × P x i j)
      → ((x : CellId) (i j : ℕ) → (x ≡ a) ⊎ (x ≡ d) → P x i j → IsMadeOf g [] c i x j)
      → ((x : CellId) (i j : ℕ) → i < 64 → bit_at (bit_or (word a) (word d)) j ≡ true → P x i j → bit_at r i ≡ true)
      → ((i : ℕ) → i < 64 → bit_at r i ≡ true → (j : ℕ) × (bit_at (bit_or (word a) (word d)) j ≡ true) × ((x : CellId) → (x ≡ a) ⊎ (x ≡ d) → j < W x → P x i j))
      → IsReading g b a (word a) → IsReading g b d (word d) → AreFed g b c r
  fed-two c a d r P from to there only h k i lt = (
    λ s.
        let o = only i lt s in
        let p = of-two a d o.0 h k o.1 in
        (p.0, o.0, to p.0 i o.0 p.1 (o.2 p.0 p.1 p.2), p.2, p.3),
    λ m. let p = from m.0 i m.1 m.2 in there m.0 i m.1 lt (set-two a d m.0 m.1 h k p.0 m.3 m.4) p.1,
  )

  -- ---- the kinds of cells

  -- a cell is fed what its operands' words show
  abbrev pub Feeds : ℕ → ℕ → Cell → Type 0
  Feeds n r c = IsCellOf g n c → AreOperandsRead g b words c → AreFed g b c r

  module _ (n r : ℕ) where
    pub slice-feeds : (a : CellId) (at w : ℕ) → r ≡ word a / 2 ^ at → Feeds n r (Slice a at w)
    slice-feeds a at w e is ops = fed-one (Slice a at w) a r (λ i j. j ≡ at + i) (λ x i j m. m) (λ i j l p. (refl, p))
        (λ i j lt s p. down-there (word a) at r j i e s (omega arith)) (λ i lt s. (i + at, down-only (word a) at r i e s, λ l. omega arith)) (ops a refl)

    -- bit by bit
    gate : (c : Cell) (a d : CellId) → r ≡ bit_or (word a) (word d) → ((x : CellId) (i j : ℕ) → IsMadeOf g [] c i x j → ((x ≡ a) ⊎ (x ≡ d)) × (j ≡ i))
        → ((x : CellId) (i j : ℕ) → (x ≡ a) ⊎ (x ≡ d) → j ≡ i → IsMadeOf g [] c i x j) → IsReading g b a (word a) → IsReading g b d (word d) → AreFed g b c r
    gate c a d e from to = fed-two c a d r (λ x i j. j ≡ i) from to (λ x i j lt s p. ap (λ v. bit_at v i) e ∙ ap (bit_at (bit_or (word a) (word d))) (sym p) ∙ s)
        (λ i lt s. (i, sym (ap (λ v. bit_at v i) e) ∙ s, λ x p l. refl))

    pub and-feeds : (a d : CellId) → r ≡ bit_or (word a) (word d) → Feeds n r (And a d)
    and-feeds a d e is ops = gate (And a d) a d e (λ x i j m. m) (λ x i j p q. (p, q)) (ops a (inl refl)) (ops d (inr refl))

    pub or-feeds : (a d : CellId) → r ≡ bit_or (word a) (word d) → Feeds n r (Or a d)
    or-feeds a d e is ops = gate (Or a d) a d e (λ x i j m. m) (λ x i j p q. (p, q)) (ops a (inl refl)) (ops d (inr refl))

    pub xor-feeds : (a d : CellId) → r ≡ bit_or (word a) (word d) → Feeds n r (Xor a d)
    xor-feeds a d e is ops = gate (Xor a d) a d e (λ x i j m. m) (λ x i j p q. (p, q)) (ops a (inl refl)) (ops d (inr refl))

    -- by all lower bits
    sum : (c : Cell) (a d : CellId) → IsFromLowest (bit_or (word a) (word d)) r → ((x : CellId) (i j : ℕ) → IsMadeOf g [] c i x j → ((x ≡ a) ⊎ (x ≡ d)) × (j ≤ i))
        → ((x : CellId) (i j : ℕ) → (x ≡ a) ⊎ (x ≡ d) → j ≤ i → IsMadeOf g [] c i x j) → IsReading g b a (word a) → IsReading g b d (word d) → AreFed g b c r
    sum c a d low from to = fed-two c a d r (λ x i j. j ≤ i) from to (λ x i j lt s p. (low i lt).1 (j, s, p)) (λ i lt s. let o = (low i lt).0 s in (o.0, o.1, λ x p l. o.2))

    pub add-feeds : (a d : CellId) → IsFromLowest (bit_or (word a) (word d)) r → Feeds n r (Add a d)
    add-feeds a d low is ops = sum (Add a d) a d low (λ x i j m. m) (λ x i j p q. (p, q)) (ops a (inl refl)) (ops d (inr refl))

    pub sub-feeds : (a d : CellId) → IsFromLowest (bit_or (word a) (word d)) r → Feeds n r (Sub a d)
    sub-feeds a d low is ops = sum (Sub a d) a d low (λ x i j m. m) (λ x i j p q. (p, q)) (ops a (inl refl)) (ops d (inr refl))

    -- by all bits
    like : (a d x : CellId) (j : ℕ) → W a ≡ W d → (x ≡ a) ⊎ (x ≡ d) → j < W x → j < W a
    like a d x j e (inl s) l = subst (λ y. j < W y) s l
    like a d x j e (inr s) l = let m = subst (λ y. j < W y) s l in omega arith

    whole : (c : Cell) (a d : CellId) → W a ≡ W d → IsAllIfAny (bit_or (word a) (word d)) r → ((x : CellId) (i j : ℕ) → IsMadeOf g [] c i x j → ((x ≡ a) ⊎ (x ≡ d)) × (j < W a))
        → ((x : CellId) (i j : ℕ) → (x ≡ a) ⊎ (x ≡ d) → j < W a → IsMadeOf g [] c i x j) → IsReading g b a (word a) → IsReading g b d (word d) → AreFed g b c r
    whole c a d e all from to = fed-two c a d r (λ x i j. j < W a) from to (λ x i j lt s p. (all i lt).1 (j, s))
        (λ i lt s. let o = (all i lt).0 s in (o.0, o.1, λ x p l. like a d x o.0 e p l))

    pub eq-feeds : (a d : CellId) → IsAllIfAny (bit_or (word a) (word d)) r → Feeds n r (Eq a d)
    eq-feeds a d all is ops = whole (Eq a d) a d is.2 all (λ x i j m. m) (λ x i j p q. (p, q)) (ops a (inl refl)) (ops d (inr refl))

    pub lt-feeds : (a d : CellId) → IsAllIfAny (bit_or (word a) (word d)) r → Feeds n r (Lt a d)
    lt-feeds a d all is ops = whole (Lt a d) a d is.2 all (λ x i j m. m) (λ x i j p q. (p, q)) (ops a (inl refl)) (ops d (inr refl))

    -- ---- shifts

    abbrev Amount : CellId → Option ℕ
    Amount by = known_number (known [] (tree_of g by)) (W by)

    pub shl-feeds : (a by : CellId) (m : ℕ) → Some m ≡ Amount by → r ≡ word a * 2 ^ m % 2 ^ 64 → r < 2 ^ 64 → Feeds n r (Shl a by)
    shl-feeds a by m e f small is ops = fed-one (Shl a by) a r (λ i j. i ≡ j + m)
        (λ x i j made. subst (λ o. IsMovedUp g o a by i x j) (sym e) made) (λ i j l p. subst (λ o. IsMovedUp g o a by i a j) e (refl, p))
        (λ i j lt s p. up-there (word a) m r j i f s p lt) (λ i lt s. let u = up-only (word a) m r i f small s in (u.0, u.1, λ l. u.2)) (ops a (inl refl))

    pub shr-feeds : (a by : CellId) (m : ℕ) → Some m ≡ Amount by → r ≡ word a / 2 ^ m → Feeds n r (Shr a by)
    shr-feeds a by m e f is ops = fed-one (Shr a by) a r (λ i j. j ≡ i + m)
        (λ x i j made. subst (λ o. IsMovedDown g o a by i x j) (sym e) made) (λ i j l p. subst (λ o. IsMovedDown g o a by i a j) e (refl, p))
        (λ i j lt s p. down-there (word a) m r j i f s p) (λ i lt s. (i + m, down-only (word a) m r i f s, λ l. refl)) (ops a (inl refl))

    pub shl-any : (a by : CellId) → None ≡ Amount by → IsAllIfAny (bit_or (word a) (word by)) r → Feeds n r (Shl a by)
    shl-any a by e all is ops = fed-two (Shl a by) a by r (λ x i j. j < W x)
        (λ x i j made. subst (λ o. IsMovedUp g o a by i x j) (sym e) made) (λ x i j p l. subst (λ o. IsMovedUp g o a by i x j) e (p, l))
        (λ x i j lt s p. (all i lt).1 (j, s)) (λ i lt s. let o = (all i lt).0 s in (o.0, o.1, λ x p l. l)) (ops a (inl refl)) (ops by (inr refl))

    pub shr-any : (a by : CellId) → None ≡ Amount by → IsAllIfAny (bit_or (word a) (word by)) r → Feeds n r (Shr a by)
    shr-any a by e all is ops = fed-two (Shr a by) a by r (λ x i j. j < W x)
        (λ x i j made. subst (λ o. IsMovedDown g o a by i x j) (sym e) made) (λ x i j p l. subst (λ o. IsMovedDown g o a by i x j) e (p, l))
        (λ x i j lt s p. (all i lt).1 (j, s)) (λ i lt s. let o = (all i lt).0 s in (o.0, o.1, λ x p l. l)) (ops a (inl refl)) (ops by (inr refl))

    -- ---- concatenations

    pub concat-feeds : (high low : CellId) (w moved : ℕ) → w ≡ W low → moved ≡ word high * 2 ^ w % 2 ^ 64 → moved < 2 ^ 64 → r ≡ bit_or (word low) moved → Feeds n r (Concat high low)
    concat-feeds high low w moved e f small is-or is ops i lt = (
      λ s. elim (or_cases (bit_at (word low) i) (bit_at moved i) (sym (ap (λ v. bit_at v i) is-or ∙ bit_or-bit (word low) moved i) ∙ s)) [
        | inl k ↦ (let p = (ops low (inr refl) i).0 k in (low, i, inl (refl, p.0, refl), p.0, p.1))
        | inr k ↦ (let u = up-only (word high) w moved i f small k in let p = (ops high (inl refl) u.0).0 u.1 in (high, u.0, inr (refl, omega (arith, u.2)), p.0, p.1))
      ],
      λ m. ap (λ v. bit_at v i) is-or ∙ bit_or-bit (word low) moved i ∙ made m.0 m.1 m.2 m.3 m.4,
    )
      where
        made : (x : CellId) (j : ℕ) → IsMadeOf g [] (Concat high low) i x j → j < W x → R x j → (bit_at (word low) i || bit_at moved i) ≡ true
        made x j (inl p) l k = or_left (bit_at (word low) i) (bit_at moved i) (ap (bit_at (word low)) (sym p.2) ∙ set-one low x j (ops low (inr refl)) p.0 l k)
        made x j (inr p) l k = or_right (bit_at (word low) i) (bit_at moved i) (up-there (word high) w moved j i f (set-one high x j (ops high (inl refl)) p.0 l k) (let q = p.1 in omega arith) lt)

  -- ---- choices

  module _ (r : ℕ) (c y z : CellId) (ops : AreOperandsRead g b words (Mux c y z)) where
    abbrev Condition : Option Bool
    Condition = known [] (tree_of g c) 0

    pub other-feeds : Some false ≡ Condition → r ≡ word z → AreFed g b (Mux c y z) r
    other-feeds e f = fed-one (Mux c y z) z r (λ i j. j ≡ i) (λ x i j m. subst (λ o. IsOfChoice o c y z i x j) (sym e) m) (λ i j l p. subst (λ o. IsOfChoice o c y z i z j) e (refl, p))
        (λ i j lt s p. ap (λ v. bit_at v i) f ∙ ap (bit_at (word z)) (sym p) ∙ s) (λ i lt s. (i, sym (ap (λ v. bit_at v i) f) ∙ s, λ l. refl)) (ops z (inr (inr refl)))

    pub both-feed : None ≡ Condition → W c ≡ 1 → (all : ℕ) → IsAllIfAny (word c) all → r ≡ bit_or all (bit_or (word y) (word z)) → AreFed g b (Mux c y z) r
    both-feed e one all any f i lt = (
      λ s. elim (or_cases (bit_at all i) (bit_at (bit_or (word y) (word z)) i) (sym (ap (λ v. bit_at v i) f ∙ bit_or-bit all (bit_or (word y) (word z)) i) ∙ s)) [
        | inl k ↦ (let o = (any i lt).0 k in let p = (ops c (inl refl) o.0).0 o.1 in (c, o.0, subst (λ o. IsOfChoice o c y z i c ((any i lt).0 k).0) e (inl (refl, omega (arith, p.0))), p.0, p.1))
        | inr k ↦ (let p = of-two y z i (ops y (inr (inl refl))) (ops z (inr (inr refl))) k in (p.0, i, subst (λ o. IsOfChoice o c y z i p.0 i) e (inr (p.1, refl)), p.2, p.3))
      ],
      λ m. ap (λ v. bit_at v i) f ∙ bit_or-bit all (bit_or (word y) (word z)) i ∙ made m.0 m.1 (subst (λ o. IsOfChoice o c y z i m.0 m.1) (sym e) m.2) m.3 m.4,
    )
      where
        made : (x : CellId) (j : ℕ) → IsOfChoice None c y z i x j → j < W x → R x j → (bit_at all i || bit_at (bit_or (word y) (word z)) i) ≡ true
        made x j (inl p) l k = or_left (bit_at all i) (bit_at (bit_or (word y) (word z)) i) ((any i lt).1 (j, set-one c x j (ops c (inl refl)) p.0 l k))
        made x j (inr p) l k = or_right (bit_at all i) (bit_at (bit_or (word y) (word z)) i)
            (ap (bit_at (bit_or (word y) (word z))) (sym p.1) ∙ set-two y z x j (ops y (inr (inl refl))) (ops z (inr (inr refl))) p.0 l k)
