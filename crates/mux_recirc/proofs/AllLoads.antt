-- The loads crossing by crossing, and all of them in order.
use Rattle.std.proofs.Common.{◌≡◌, ◌∙◌, ◌↔◌, inl, inr, refl, sym, ap, ap₂, subst, arith, ℕ, ◌+◌, ◌<◌, ◌≤◌, Bool, false, get_or, Option, Some, None, List, [], ◌∷◌, ◌++◌, map, length, slice_get, Contains}
use Rattle.std.proofs.lemmas.Bool.{cases_lt}
use Rattle.std.proofs.lemmas.Option.{slice_get-get_or}
use Rattle.cdc_base.specs.declared.bit.Bit.{Bit}
use Rattle.cell_graph.specs.declared.net.Net.{Net}
use Rattle.domains.specs.declared.Domains.{Domains}
use Rattle.cdc_model.specs.declared.scheme.Crossing.{Crossing}
use Rattle.cdc_model.specs.declared.scheme.GrayReg.{GrayReg}
use Rattle.cdc_model.specs.declared.scheme.Load.{Load}
use Rattle.cdc_model.specs.Listed.{ring_entry}
use Rattle.cdc_model.specs.Nets.{design_of, net_trees}
use Rattle.cdc_model.specs.Ordered.{is_before, IsAll}
use Rattle.cdc_model.specs.Schemes.{Ring}
use Rattle.cdc_model.specs.Verdict.{bit_key, crossing_key, load_key, IsFirstLoad}
use Rattle.cdc_model.proofs.Ascending.{here, parts, nothing_in, Ascends, ascending, joined_ascend}
use Rattle.cdc_model.proofs.Found.{crossings_are_all, net_ascends}
use Rattle.cdc_model.proofs.Justify.{in_slice}
use Rattle.mux_recirc.specs.declared.guards.Guards.{Guards}
use Rattle.mux_recirc.specs.Given.{AreGuards, IsLoadAt, load_there, plain_trees}
use Rattle.mux_recirc.proofs.Added.{in_joined, in_none, same_item}
use Rattle.mux_recirc.proofs.Crossed.{ordered}
use Rattle.mux_recirc.proofs.Plain.{same_loads}

abbrev none : Crossing
none = record { from = record { sig = 0; at = 0 }; to = record { sig = 0; at = 0 } }

in_there : (o : Option Load) (l : Load) → Contains (load_there o) l ↔ (o ≡ Some l)
in_there None l = (λ i. absurd (nothing_in l i), λ e. cc)
in_there (Some m) l = (
  λ i. elim (parts m [] l i) [ inl e ↦ ap Some e | inr j ↦ absurd (nothing_in l j) ],
  λ e. subst (Contains (m ∷ [])) (same_item (Some m) m l refl e) (here m []),
)

module _ (net : Net) (domains : Domains) (crossings : List Crossing) (rings : List Ring) where
  -- the load is that of a crossing before place n
  abbrev pub IsLoadBelow : ℕ → Load → Type 0
  IsLoadBelow n l = (j : ℕ) × (k : Crossing) × (j < n) × (slice_get crossings j ≡ Some k) × IsFirstLoad (design_of net domains) (plain_trees net) rings l × (l.from ≡ k.from) × (l.to ≡ k.to)

  -- The loads of the crossings before place n, in order.
  pub record AreLoadsBelow (n : ℕ) (loads : List Load) : Type 0 where
    pub only : (l : Load) → Contains loads l → IsLoadBelow n l
    pub all : (l : Load) → IsLoadBelow n l → Contains loads l
    pub ordered : Ascends load_key loads

  pub no_loads : (loads : List Load) → loads ≡ [] → AreLoadsBelow 0 loads
  no_loads loads e = record {
    only = λ l i. absurd (in_none loads l e i);
    all = λ l h. absurd (let m = h.2 in omega arith);
    ordered = subst (Ascends load_key) (sym e) tt;
  }

  key_is : (l : Load) (k : Crossing) → l.from ≡ k.from → l.to ≡ k.to → load_key l ≡ crossing_key k
  key_is l k e f = ap₂ (λ (b x : Bit). bit_key x (bit_key b [])) e f

  module _ (guards : Guards) (are : AreGuards net domains crossings rings guards) where
    pub loads_more : (n : ℕ) (old new : List Load) (o : Option Load) → n < length crossings → IsLoadAt net domains crossings rings n o → new ≡ old ++ load_there o → AreLoadsBelow n old → AreLoadsBelow (n + 1) new
    loads_more n old new o l load e below =
        let k = get_or crossings n none in
        let at = slice_get-get_or crossings n none l in
        record {
          only = λ m i. elim ((in_joined old (load_there o) new m e).0 i) [
            | inl j ↦ let h = below.only m j in (h.0, h.1, (let f = h.2 in omega arith), h.3, h.4, h.5, h.6)
            | inr j ↦ let h = (load k at m).0 ((in_there o m).0 j) in (n, k, omega arith, at, h.0, h.1, h.2)
          ];
          all = λ m h. (in_joined old (load_there o) new m e).1 (elim (cases_lt h.0 n) [
            | inl f ↦ inl (below.all m (h.0, h.1, f, h.3, h.4, h.5, h.6))
            | inr f ↦
                let same : n ≡ h.0 = let g = h.2 in omega arith in
                inr ((in_there o m).1 ((load h.1 (ap (slice_get crossings) same ∙ h.3) m).1 (h.4, h.5, h.6)))
          ]);
          ordered = subst (Ascends load_key) (sym e) (joined_ascend load_key old (load_there o) below.ordered (alone o) (λ x y i j.
              let h = below.only x i in
              let g = (load k at y).0 ((in_there o y).0 j) in
              ap₂ is_before (key_is x h.1 h.5 h.6) (key_is y k g.1 g.2) ∙ ordered net domains (λ g. false) crossings rings (map ring_entry rings) are.given h.0 n h.1 k h.2 h.3 at));
        }
      where
        alone : (p : Option Load) → Ascends load_key (load_there p)
        alone None = tt
        alone (Some m) = (λ y i. absurd (nothing_in y i), tt)

    pub loads_all : (grays : GrayReg → Bool) (n : ℕ) (loads : List Load) → length crossings ≤ n → AreLoadsBelow n loads → IsAll (IsFirstLoad (design_of net domains) (net_trees net grays) rings) load_key loads
    loads_all grays n loads l below = same_loads net domains (λ g. false) grays rings loads (record {
      all = λ m is.
          let k : Crossing = record { from = m.from; to = m.to } in
          let i = subst (λ xs. Contains xs k) (sym are.given.all_crossings) ((crossings_are_all net domains (λ g. false) (net_ascends net are.given.is_net)).all k is.load.crossing) in
          below.all m (i.0, k, (let f = i.1 in omega arith), in_slice crossings k i, is, refl, refl);
      only = λ m i. (below.only m i).4;
      ordered = ascending load_key loads below.ordered;
    })
