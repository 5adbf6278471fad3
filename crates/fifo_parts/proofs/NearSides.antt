-- The near side's codes, and the word in which the far side's code comes over, as the code has them.
use Rattle.std.proofs.Common.{◌≡◌, ◌∙◌, sym, ap, ap₂, refl, subst, inl, inr, ℕ, Bool, List, [], ◌∷◌, map, Contains}
use Rattle.cdc_base.specs.declared.bit.Bit.{Bit}
use Rattle.cell_graph.specs.declared.net.Net.{Net}
use Rattle.cell_graph.specs.Origin.{TreeBit}
use Rattle.cell_graph.specs.Tree.{Tree}
use Rattle.domains.specs.declared.Domains.{Domains}
use Rattle.cdc_model.specs.declared.scheme.GrayReg.{GrayReg}
use Rattle.cdc_model.specs.Nets.{design_of, next_tree}
use Rattle.cdc_model.specs.Nets.{bit_count}
use Rattle.cdc_model.specs.Schemes.{Sync, last_flop}
use Rattle.cdc_model.specs.Word.{origins, own_word}
use Rattle.fifo_terms.specs.Codes.{Code, IsCodeBit, Next, Now}
use Rattle.fifo_terms.specs.Shows.{IsFlagTest}
use Rattle.fifo_terms.specs.Terms.{Term, HaveOneSet}
use Rattle.fifo_laws.specs.Sides as laws
use Rattle.fifo_laws.specs.Sides.{Side, bit_node, held_in, side_width}
use Rattle.fifo_nodes.specs.Codes.{code_of, nodes_of}
use Rattle.fifo_nodes.specs.Terms.{terms_of}
use Rattle.fifo_parts.specs.declared.side.Side.{Side as SideEntry}
use Rattle.fifo_parts.specs.Tellers.{IsSideOf}

-- terms with the same items have one set with the same terms
one_set : (ts us vs : List Term) → ((t : Term) → Contains ts t → Contains us t) → ((t : Term) → Contains us t → Contains ts t) → HaveOneSet ts vs
    → HaveOneSet us vs
one_set ts us vs more fewer h = (λ t i. h.0 t (fewer t i), λ t i. let k = h.1 t i in (k.0, more k.0 k.1, k.2))

-- a code of a register whose next value counts under these terms
abbrev counting : (b w : ℕ) → List TreeBit → List Term → Code
counting b w held ts = record { b = b; w = w; held = held; moment = Next ts }

same_bits : (b w : ℕ) (held : List TreeBit) (ts us : List Term) → ((t : Term) → Contains ts t → Contains us t)
    → ((t : Term) → Contains us t → Contains ts t)
    → (i : ℕ) (x : TreeBit) → IsCodeBit (counting b w held ts) i x → IsCodeBit (counting b w held us) i x
same_bits b w held ts us more fewer i x (inl e) = inl e
same_bits b w held ts us more fewer i x (inr (n, (vs, counts, set, bits), fits)) = inr (n, (vs, counts, one_set ts us vs more fewer set, bits), fits)

-- what tests a flag by one code does so by a code that has its bits
same_flag_test : (k l : Code) → ((i : ℕ) (x : TreeBit) → IsCodeBit k i x → IsCodeBit l i x)
    → (over : List TreeBit) (apart : ℕ → ℕ → Bool) (t : Tree) (i : ℕ) (u : Bool)
    → IsFlagTest k over apart t i u → IsFlagTest l over apart t i u
same_flag_test k l h over apart t i u (term, there, test) =
    (term, there, (test.0, test.1, test.2, λ s m. let p = test.3 s m in (p.0, p.1, p.2, p.3, h p.0 p.1 p.4, p.5, p.6)))

module _ (net : Net) (domains : Domains) where
  -- the word in which a side's code comes over
  pub over_nodes : (over : List Bit) (syncs : List Sync) → over ≡ map last_flop syncs
      → nodes_of net.graph over ≡ map (λ y. bit_node (design_of net domains) (last_flop y)) syncs
  over_nodes over syncs e = ap (nodes_of net.graph) e ∙ go syncs
    where
      go : (ys : List Sync) → nodes_of net.graph (map last_flop ys) ≡ map (λ y. bit_node (design_of net domains) (last_flop y)) ys
      go [] = refl
      go (y ∷ ys) = ap (λ ns. bit_node (design_of net domains) (last_flop y) ∷ ns) (go ys)

  module _ (e : SideEntry) (near : Side) (is : IsSideOf net domains e near) where
    wide : side_width (design_of net domains) near ≡ e.width
    wide = ap (λ (r : GrayReg). bit_count net.graph.signals r.count) is.reg ∙ is.alone.count_width

    -- the code of its count
    pub now_code : code_of net.graph e.now ≡ laws.code_of (design_of net domains) near
    now_code = is.alone.now.0
        ∙ ap₂ (λ (r : GrayReg) (w : ℕ). let k : Code = record { b = r.count; w = w; held = held_in r.shape (own_word r.gray w); moment = Now } in k)
        (sym is.reg) (sym wide)

    -- that of its next count, but for the order of the terms
    abbrev by_terms : List Term → Code
    by_terms ts = counting near.reg.count (side_width (design_of net domains) near)
        (held_in near.reg.shape (origins (next_tree net near.reg.gray) 0 (side_width (design_of net domains) near))) ts

    next_code : code_of net.graph e.next ≡ by_terms (terms_of net.graph e.under)
    next_code = is.alone.next.0
        ∙ ap₂ (λ (r : GrayReg) (w : ℕ). counting r.count w (held_in r.shape (origins (next_tree net r.gray) 0 w)) (terms_of net.graph e.under))
        (sym is.reg) (sym wide)

    pub next_test : (over : List TreeBit) (apart : ℕ → ℕ → Bool) (t : Tree) (i : ℕ) (u : Bool)
        → IsFlagTest (code_of net.graph e.next) over apart t i u
        → IsFlagTest (laws.next_code_of (design_of net domains) (next_tree net) near) over apart t i u
    next_test over apart t i u h =
        same_flag_test (by_terms (terms_of net.graph e.under)) (by_terms near.under)
        (same_bits _ _ _ (terms_of net.graph e.under) near.under is.alone.under.only is.alone.under.all) over apart t i u
        (subst (λ (k : Code). IsFlagTest k over apart t i u) next_code h)

    pub test_next : (over : List TreeBit) (apart : ℕ → ℕ → Bool) (t : Tree) (i : ℕ) (u : Bool)
        → IsFlagTest (laws.next_code_of (design_of net domains) (next_tree net) near) over apart t i u
        → IsFlagTest (code_of net.graph e.next) over apart t i u
    test_next over apart t i u h =
        subst (λ (k : Code). IsFlagTest k over apart t i u) (sym next_code)
        (same_flag_test (by_terms near.under) (by_terms (terms_of net.graph e.under))
        (same_bits _ _ _ near.under (terms_of net.graph e.under) is.alone.under.all is.alone.under.only) over apart t i u h)
