-- Rings and loads are the same whatever is taken for Gray registers; groups by the domains are those of the design.
use Rattle.std.proofs.Common.{◌≡◌, ◌∙◌, refl, sym, ap, ap₂, ℕ, eqb-true, eq-eqb, Bool, true, Option, Some, None, List}
use Rattle.cdc_base.specs.declared.bit.Bit.{Bit}
use Rattle.cell_graph.specs.declared.net.Net.{Net}
use Rattle.domains.specs.declared.Domains.{Domains}
use Rattle.domains.specs.Assignment.{group_of}
use Rattle.domains.specs.Fit.{Fit}
use Rattle.cdc_model.specs.declared.scheme.GrayReg.{GrayReg}
use Rattle.cdc_model.specs.declared.scheme.Load.{Load}
use Rattle.cdc_model.specs.Design.{group, are_equal}
use Rattle.cdc_model.specs.Nets.{design_of, net_trees, is_within}
use Rattle.cdc_model.specs.Ordered.{IsAll}
use Rattle.cdc_model.specs.Schemes.{Sync, Ring, IsCrossing, IsRing, IsHeld, IsBlind, IsLoad}
use Rattle.cdc_model.specs.Verdict.{HoldsUnder, BlindUnder, IsFirstLoad, load_key}
use Rattle.cdc_model.proofs.NetDesign.{group_is}

module _ (net : Net) (domains : Domains) (grays other : GrayReg → Bool) where
  pub same_ring : (syncs : List Sync) (r : Ring) → IsRing (design_of net domains) (net_trees net grays) syncs r → IsRing (design_of net domains) (net_trees net other) syncs r
  same_ring syncs r is = record {
    there = is.there;
    back = is.back;
    registers = is.registers;
    there_group = is.there_group;
    back_group = is.back_group;
    apart = is.apart;
    start = is.start;
    reads = is.reads;
    waits = is.waits;
    answers = is.answers;
  }

  pub same_crossing : (b x : Bit) → IsCrossing (design_of net domains) (net_trees net grays) b x → IsCrossing (design_of net domains) (net_trees net other) b x
  same_crossing b x is = record { register = is.register; reads = is.reads; async = is.async }

  pub same_held : (r : Ring) (b : Bit) → IsHeld (design_of net domains) (net_trees net grays) r b → IsHeld (design_of net domains) (net_trees net other) r b
  same_held r b is = record { register = is.register; group = is.group; holds = is.holds }

  pub same_blind : (r : Ring) (place : ℕ) (b x : Bit) → IsBlind (design_of net domains) (net_trees net grays) r place b x → IsBlind (design_of net domains) (net_trees net other) r place b x
  same_blind r place b x is = record { group = is.group; gate = is.gate }

module _ (net : Net) (domains : Domains) (grays other : GrayReg → Bool) (rings : List Ring) where
  both_under : (b x : Bit) (r : Ring) → HoldsUnder (design_of net domains) (net_trees net grays) b x r × BlindUnder (design_of net domains) (net_trees net grays) b x r
      → HoldsUnder (design_of net domains) (net_trees net other) b x r × BlindUnder (design_of net domains) (net_trees net other) b x r
  both_under b x r h = (
    (h.0.0, same_held net domains grays other r b h.0.1),
    (h.1.0, (h.1.1.0, same_blind net domains grays other r h.1.1.0 b x h.1.1.1)),
  )

  same_load : (l : Load) → IsLoad (design_of net domains) (net_trees net grays) rings l → IsLoad (design_of net domains) (net_trees net other) rings l
  same_load l is = record {
    crossing = same_crossing net domains grays other l.from l.to is.crossing;
    no_copy = is.no_copy;
    ring = (is.ring.0, is.ring.1, same_held net domains grays other is.ring.0 l.from is.ring.2, same_blind net domains grays other is.ring.0 l.gate l.from l.to is.ring.3);
  }

module _ (net : Net) (domains : Domains) (grays other : GrayReg → Bool) (rings : List Ring) where
  pub same_first : (l : Load) → IsFirstLoad (design_of net domains) (net_trees net grays) rings l → IsFirstLoad (design_of net domains) (net_trees net other) rings l
  same_first l is = record {
    load = same_load net domains grays other rings l is.load;
    first_ring = (
      (is.first_ring.0.0, is.first_ring.0.1, both_under net domains grays other rings l.from l.to is.first_ring.0.0 is.first_ring.0.2),
      λ m q lt at h. is.first_ring.1 m q lt at (both_under net domains other grays rings l.from l.to q h),
    );
    first_gate = λ r place at lt h. is.first_gate r place at lt (same_blind net domains other grays r place l.from l.to h);
    recirculates = is.recirculates;
  }

-- a list of all loads is one whatever is taken for Gray registers
pub same_loads : (net : Net) (domains : Domains) (grays other : GrayReg → Bool) (rings : List Ring) (loads : List Load) → IsAll (IsFirstLoad (design_of net domains) (net_trees net grays) rings) load_key loads
    → IsAll (IsFirstLoad (design_of net domains) (net_trees net other) rings) load_key loads
same_loads net domains grays other rings loads all = record {
  all = λ l is. all.all l (same_first net domains other grays rings l is);
  only = λ l i. same_first net domains grays other rings l (all.only l i);
  ordered = all.ordered;
}

-- ---- groups

equal_options : (o p : Option ℕ) → are_equal o p ≡ true → o ≡ p
equal_options (Some m) (Some n) h = ap Some (eqb-true m n h)
equal_options (Some m) None h = cc
equal_options None p h = cc

options_equal : (o p : Option ℕ) (g : ℕ) → o ≡ p → p ≡ Some g → are_equal o p ≡ true
options_equal o p g e f = ap₂ are_equal (e ∙ f) f ∙ eq-eqb g g refl

module _ (net : Net) (domains : Domains) (fit : Fit net domains) (a b : Bit) (inside : is_within net a ≡ true) (within : is_within net b ≡ true) where
  -- bits that the domains put together have one group
  pub together : are_equal (group_of domains a) (group_of domains b) ≡ true → group (design_of net domains) a ≡ group (design_of net domains) b
  together h = group_is net domains fit a inside ∙ equal_options (group_of domains a) (group_of domains b) h ∙ sym (group_is net domains fit b within)

  -- and those of one group are put together, where it is one
  pub put_together : (g : ℕ) → group (design_of net domains) a ≡ group (design_of net domains) b → group (design_of net domains) b ≡ Some g → are_equal (group_of domains a) (group_of domains b) ≡ true
  put_together g e f =
      options_equal (group_of domains a) (group_of domains b) g (sym (group_is net domains fit a inside) ∙ e ∙ group_is net domains fit b within) (sym (group_is net domains fit b within) ∙ f)
