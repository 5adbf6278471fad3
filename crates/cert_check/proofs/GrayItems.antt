-- Listed Gray registers are tested among the registers of a net.
use Rattle.std.proofs.Common.{◌≡◌, ◌∙◌, inl, inr, sym, ap, ap₂, subst, arith, rules, true, ℕ, Some, None, List, [], ◌∷◌, get_or, Contains, Ok}
use Rattle.std.specs.List.Sorted.{IsBinarySearchResult}
use Rattle.std.specs.Ordering.{nat_cmp}
use Rattle.std.proofs.lemmas.Cmp.{ranked}
use Rattle.cell_graph.specs.declared.net.Net.{Net}
use Rattle.domains.specs.declared.Domains.{Domains}
use Rattle.domains.specs.Nets.{IsNet}
use Rattle.cdc_model.specs.contracts.scheme.ShapePartialEq.TheImpl as equality
use Rattle.cdc_model.specs.declared.scheme.GrayReg.{GrayReg}
use Rattle.cdc_model.specs.declared.scheme.Shape.{Shape}
use Rattle.cdc_model.specs.GrayShape.{HasShape, IsGrayReg}
use Rattle.cdc_model.specs.Nets.{HasNextCells, design_of, next_tree}
use Rattle.cdc_model.proofs.Ascending.{parts, nothing_in}
use Rattle.cdc_model.proofs.Found.{net_ascends}
use Rattle.gray_pointer.specs.declared.register.Register.{Register}
use Rattle.gray_pointer.specs.Grays.{Follows}
use Rattle.gray_pointer.specs.Registers.{AreStartsNarrow, registers_among, Ascend, Fits}
use Rattle.gray_pointer.specs.Shapes.{IsRegisterIn, IsShape}
use Rattle.gray_pointer.specs.Words.{word_of}
use Rattle.gray_pointer.proofs.Every.{every_gray}
use Rattle.gray_pointer.proofs.Grays.{one_shape}
use Rattle.gray_pointer.proofs.Registers.{among_ascend, registers_in, is_gray}
use Rattle.cert_check.specs.Items.{IsRegisterAt}

-- shapes are compared as they are
pub equal_shapes : (s t : Shape) → equality.ghosts.eq s t ≡ true → s ≡ t
equal_shapes s t h = search rules

pub same_shapes : (s t : Shape) → s ≡ t → equality.ghosts.eq s t ≡ true
same_shapes s t e = subst (λ u. equality.ghosts.eq s u ≡ true) e (itself s)
  where
    itself : (u : Shape) → equality.ghosts.eq u u ≡ true
    itself u = search rules

-- registers that ascend have one for a signal at most
pub one_register : (rs : List Register) → Ascend rs → (r s : Register) → Contains rs r → Contains rs s → r.sig ≡ s.sig → r ≡ s
one_register [] h r s i j e = absurd (nothing_in r i)
one_register (q ∷ rs) h r s i j e = elim (parts q rs r i) [
  | inl a ↦ elim (parts q rs s j) [
    | inl b ↦ sym a ∙ b
    | inr b ↦ absurd (let l = h.0 s b in let k : q.sig ≡ r.sig = ap (λ (p : Register). p.sig) a in omega arith)
  ]
  | inr a ↦ elim (parts q rs s j) [
    | inl b ↦ absurd (let l = h.0 r a in let k : q.sig ≡ s.sig = ap (λ (p : Register). p.sig) b in omega arith)
    | inr b ↦ one_register rs h.1 r s a b e
  ]
]

-- the search by a signal ends at its register
pub found_sig : (rs : List Register) (sig i : ℕ) → IsBinarySearchResult (λ q. nat_cmp q.sig sig) rs (Ok i) → (d : Register) → (get_or rs i d).sig ≡ sig
found_sig rs sig i equal d = ranked _ sig _ (sym (equal d))

module _ (net : Net) (domains : Domains) (is : IsNet net) (has : HasNextCells net) (narrow : AreStartsNarrow net) where
  ascend : Ascend (registers_among net domains net.regs)
  ascend = among_ascend net domains net.regs (net_ascends net is)

  pub register_in : (rs : List Register) → rs ≡ registers_among net domains net.regs → (sig : ℕ) (r : Register) → IsRegisterAt rs sig (Some r) → IsRegisterIn net.graph r
  register_in rs e sig r h = (registers_in net domains is has narrow r (subst (λ xs. Contains xs r) e h.0)).0

  module _ (rs : List Register) (are : rs ≡ registers_among net domains net.regs) (g : GrayReg) where
    -- a Gray register has both its registers, and they follow each other
    found : IsGrayReg (design_of net domains) (next_tree net) g
        → (c r : Register) × Contains rs c × Contains rs r × (c.sig ≡ g.count) × (r.sig ≡ g.gray) × Follows net.graph c r g.shape
    found h =
        let (c, r, i, j, follows, same) = every_gray net domains is has narrow g h in (
          c,
          r,
          subst (λ xs. Contains xs c) (sym are) i,
          subst (λ xs. Contains xs r) (sym are) j,
          ap (λ (x : GrayReg). x.count) (sym same),
          ap (λ (x : GrayReg). x.gray) (sym same),
          follows,
        )

    up : Ascend rs
    up = subst Ascend (sym are) ascend

    pub no_count : IsRegisterAt rs g.count None → IsGrayReg (design_of net domains) (next_tree net) g → ⊥
    no_count none h = let f = found h in none up f.0 f.2 f.4

    pub no_code : IsRegisterAt rs g.gray None → IsGrayReg (design_of net domains) (next_tree net) g → ⊥
    no_code none h = let f = found h in none up f.1 f.3 f.5

    module _ (c r : Register) (count : IsRegisterAt rs g.count (Some c)) (code : IsRegisterAt rs g.gray (Some r)) where
      follow : IsGrayReg (design_of net domains) (next_tree net) g → Follows net.graph c r g.shape
      follow h =
          let f = found h in
          let one = one_register rs up f.0 c f.2 count.0 (f.4 ∙ sym count.1) in
          let two = one_register rs up f.1 r f.3 code.0 (f.5 ∙ sym code.1) in
          subst (λ (x : Register). Follows net.graph x r g.shape) one (subst (λ (x : Register). Follows net.graph f.0 x g.shape) two f.6)

      pub unfit : (Fits c r → ⊥) → IsGrayReg (design_of net domains) (next_tree net) g → ⊥
      unfit unfits h = unfits (follow h).0

      pub shapeless : IsShape c.sig r.sig c.width (word_of net.graph c.next c.width) (word_of net.graph r.next c.width) None → IsGrayReg (design_of net domains) (next_tree net) g → ⊥
      shapeless unshaped h = unshaped g.shape (follow h).1

      module _ (s : Shape) (is_shape : HasShape s c.sig r.sig c.width (word_of net.graph c.next c.width) (word_of net.graph r.next c.width)) where
        pub other_shape : IsGrayReg (design_of net domains) (next_tree net) g → s ≡ g.shape
        other_shape h = one_shape s g.shape c.sig r.sig c.width _ _ is_shape (follow h).1

        pub has_shape : Fits c r → s ≡ g.shape → IsGrayReg (design_of net domains) (next_tree net) g
        has_shape fits e =
            let here = is_gray net domains is has narrow c r (subst (λ xs. Contains xs c) are count.0) (subst (λ xs. Contains xs r) are code.0) fits s is_shape in
            subst (IsGrayReg (design_of net domains) (next_tree net))
            (ap₂ (λ (x y : ℕ). let q : GrayReg = record { count = x; gray = y; shape = s } in q) count.1 code.1 ∙ ap (λ (z : Shape). let q : GrayReg = record { count = g.count; gray = g.gray; shape = z } in q) e) here
