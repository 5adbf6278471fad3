-- The verdict on the net: one crossing, which a synchronizer of two flops guards, and no finding.
use Rattle.std.proofs.Common.{◌≡◌, ◌∙◌, refl, sym, ap, subst, arith, ℕ, zero, suc, ◌≤◌, Bool, true, false, List, [], ◌∷◌, Some, Contains, inl, inr, slice_get}
use Rattle.cdc_base.specs.declared.bit.Bit.{Bit}
use Rattle.cdc_model.specs.declared.scheme.Cover.{Cover}
use Rattle.cdc_model.specs.declared.scheme.Crossing.{Crossing}
use Rattle.cdc_model.specs.declared.scheme.GrayReg.{GrayReg}
use Rattle.cdc_model.specs.declared.scheme.Load.{Load}
use Rattle.cdc_model.specs.Design.{Design, group}
use Rattle.cdc_model.specs.Found.{crossings_of}
use Rattle.cdc_model.specs.GrayShape.{IsGrayReg}
use Rattle.cdc_model.specs.Listed.{IsVerdictOf}
use Rattle.cdc_model.specs.Nets.{FindsGrays, design_of, net_trees, next_tree}
use Rattle.cdc_model.specs.Facts.{none_extra, none_justified}
use Rattle.cdc_model.specs.Ordered.{IsAscending, IsAll}
use Rattle.cdc_model.specs.Schemes.{IsCrossing, IsRing, IsSync, Ring, Sync, Trees}
use Rattle.cdc_model.specs.Syncs.{syncs_of}
use Rattle.cdc_model.specs.Verdict.{IsCover, IsFinding, IsFirstLoad, IsPair, IsServed, Finding, V1, V2, V3, V4, V5, V6, V7, V8, Verdict, IsVerdict, cover_key, crossing_key, family, finding_key, gray_key, load_key, ring_key, scheme_of_sync, sync_key}
use Rattle.cdc_model.proofs.Ascending.{here, nothing_in, parts}
use Rattle.cdc_model.proofs.CleanVerdict.{justified, one_family, covers_are}
use Rattle.cdc_model.proofs.Covers.{cover_facts}
use Rattle.cdc_model.proofs.NetDesign.{net_trees_are}
use Rattle.cdc_model.proofs.Sound.{sound}
use Rattle.cdc_model.proofs.Together.{together}
use Rattle.cdc_model.proofs.Found.{crossings_are_all, net_ascends}
use Rattle.cdc_model.proofs.Synced.{syncs_are_all}
use Rattle.worked_audit.specs.Design.{bit_of, cover, crossing, domains, judged, net}
use Rattle.fifo_scheme.specs.declared.found.Fifo.{Fifo as Entry}
use Rattle.fifo_scheme.specs.Entries.{IsListedFifo, fifo_key}
use Rattle.net_verdict.specs.Fifos.{AreFifosOf}
use Rattle.net_verdict.specs.Judged.{IsJudged}
use Rattle.net_verdict.specs.Verdicts.{IsVerdictOn}
use Rattle.worked_audit.specs.Design as worked
use Rattle.worked_audit.proofs.Net.{fit, is_net}

abbrev design : Design
design = design_of net domains

-- two flops behind a
abbrev pub sync : Sync
sync = record { from = bit_of 4; first = bit_of 5; more = bit_of 6 ∷ [] }

abbrev pub verdict : Verdict
verdict = record { crossings = crossing ∷ []; grays = []; rings = []; covers = cover ∷ []; findings = [] }

-- no word has two bits
abbrev pub no_grays : GrayReg → Bool
no_grays g = false

abbrev trees : Trees
trees = net_trees net no_grays

one_bit : (sig : ℕ) → design.width sig ≤ 1
one_bit zero = omega arith
one_bit (suc zero) = omega arith
one_bit (suc (suc zero)) = omega arith
one_bit (suc (suc (suc zero))) = omega arith
one_bit (suc (suc (suc (suc zero)))) = omega arith
one_bit (suc (suc (suc (suc (suc zero))))) = omega arith
one_bit (suc (suc (suc (suc (suc (suc zero)))))) = omega arith
one_bit (suc (suc (suc (suc (suc (suc (suc sig))))))) = omega arith

no_gray : (g : GrayReg) → IsGrayReg design (next_tree net) g → ⊥
no_gray g h = let l = one_bit g.count in omega (arith, l, h.width.0)

pub finds : FindsGrays net domains no_grays
finds g = ((λ e. absurd (never e)), λ h. absurd (no_gray g h))
  where
    never : false ≡ true → ⊥
    never e = cc

-- ---- the one crossing, and its synchronizer

pub crossings : crossings_of net domains ≡ crossing ∷ []
crossings = refl

pub syncs : syncs_of net domains ≡ sync ∷ []
syncs = refl

all_crossings : IsAll (λ (c : Crossing). IsCrossing design trees c.from c.to) crossing_key (crossing ∷ [])
all_crossings = subst (IsAll (λ (c : Crossing). IsCrossing design trees c.from c.to) crossing_key) crossings (crossings_are_all net domains no_grays (net_ascends net is_net))

all_syncs : IsAll (IsSync design trees) sync_key (sync ∷ [])
all_syncs = subst (IsAll (IsSync design trees) sync_key) syncs (syncs_are_all net domains no_grays is_net fit)

-- what is in a list of one
only_one : {A : Type 0} (x y : A) → Contains (x ∷ []) y → x ≡ y
only_one x y i = elim (parts x [] y i) [ inl e ↦ e | inr j ↦ absurd (nothing_in y j) ]

ordered_one : {A : Type 0} (key : A → List ℕ) (x : A) → IsAscending key (x ∷ [])
ordered_one key x i zero y z l e f = absurd (omega (arith, l))
ordered_one key x i (suc j) y z l e f = cc

ordered_none : {A : Type 0} (key : A → List ℕ) → IsAscending key []
ordered_none key i j y z l e f = cc

-- ---- no ring, and so no load

-- the request is no answer to itself
no_ring : (r : Ring) → IsRing design trees (sync ∷ []) r → ⊥
no_ring r h = groups_differ
    (ap (λ (s : Sync). group design s.from) (only_one sync r.back h.back) ∙ h.there_group
    ∙ sym (ap (λ (s : Sync). group design s.first) (only_one sync r.there h.there)))
  where
    groups_differ : group design (bit_of 4) ≡ group design (bit_of 5) → ⊥
    groups_differ e = cc

no_load : (l : Load) → IsFirstLoad design trees [] l → ⊥
no_load l h = none l.ring h.load.ring.0 h.load.ring.1
  where
    none : (n : ℕ) (r : Ring) → slice_get [] n ≡ Some r → ⊥
    none n r e = cc

-- ---- the cover

all_covers : IsAll (IsCover [] (sync ∷ []) []) cover_key (cover ∷ [])
all_covers = record { all = all; only = only; ordered = ordered_one cover_key cover }
  where
    all : (c : Cover) → IsCover [] (sync ∷ []) [] c → Contains (cover ∷ []) c
    all c (inl h) = subst (Contains (cover ∷ []))
        (ap (λ (s : Sync). let k : Cover = record { from = s.from; to = s.first; scheme = scheme_of_sync [] s } in k) (only_one sync h.0 h.1) ∙ sym h.2) (here cover [])
    all c (inr h) = absurd (nothing_in h.0 h.1)

    only : (c : Cover) → Contains (cover ∷ []) c → IsCover [] (sync ∷ []) [] c
    only c i = inl (sync, here sync [], sym (only_one cover c i))

-- ---- no finding, whatever else may guard crossings

module _ (extra : Bit → Bit → Bool) where
  only_crossing : (b x : Bit) → IsCrossing design trees b x → crossing ≡ record { from = b; to = x }
  only_crossing b x h = let k : Crossing = record { from = b; to = x } in only_one crossing k (all_crossings.all k h)

  served : (b x : Bit) → IsCrossing design trees b x → IsServed (sync ∷ []) [] extra b x
  served b x h = let e = only_crossing b x h in inl (sync, here sync [], ap (λ (k : Crossing). k.from) e, ap (λ (k : Crossing). k.to) e)

  -- two synchronizers into a group are one
  one_sync : (g : ℕ) (s r : Sync) → IsPair design trees [] (sync ∷ []) [] [] extra g s r → s ≡ r
  one_sync g s r p = sym (only_one sync s p.one) ∙ only_one sync r p.other

  no_finding : (f : Finding) → IsFinding design trees [] (sync ∷ []) [] [] extra f → ⊥
  no_finding (V1 b x) h = h.0.1 (served b x h.0.0)
  no_finding (V2 b x) h = h.2 sync (here sync []) (ap (λ (k : Crossing). k.to) (only_crossing b x h.0))
  no_finding (V3 w g) h = let (s, r, pair, first, second, differ) = h.0 in differ (ap (λ (k : Sync). k.from) (one_sync g s r pair))
  no_finding (V4 b g) (s, r, pair, first, second, differ) = differ (ap (λ (k : Sync). k.first) (one_sync g s r pair))
  no_finding (V5 w g) (s, r, pair, first, second, differ) = differ (ap (λ (k : Sync). design.clock k.first) (one_sync g s r pair))
  no_finding (V6 x g) h = let (s, r, y, z, n, m, first, second, differ) = h.2 in
      differ (ap (family design []) (sym (only_one sync s first.sync) ∙ only_one sync r second.sync))
  no_finding (V7 b x n) h = h.0.1 (served b x h.0.0)
  no_finding (V8 b x n) h = h.0.1 (served b x h.0.0)

  is_verdict : IsVerdict design trees extra (sync ∷ []) [] verdict
  is_verdict = record {
    all_crossings = all_crossings;
    all_syncs = all_syncs;
    all_grays = record { all = λ g h. cc; only = λ g i. absurd (nothing_in g i); ordered = ordered_none gray_key };
    all_rings = record { all = λ r h. absurd (no_ring r h); only = λ r i. absurd (nothing_in r i); ordered = ordered_none ring_key };
    all_loads = record { all = λ l h. absurd (no_load l h); only = λ l i. absurd (nothing_in l i); ordered = ordered_none load_key };
    all_covers = all_covers;
    all_findings = record { all = λ f h. absurd (no_finding f h); only = λ f i. absurd (nothing_in f i); ordered = ordered_none finding_key };
  }

  pub is_verdict_of : IsVerdictOf net domains extra worked.verdict
  is_verdict_of = record {
    grays = no_grays;
    finds = finds;
    syncs = sync ∷ [];
    loads = [];
    verdict = verdict;
    is_verdict = is_verdict;
    is_listed = record { crossings = refl; grays = refl; rings = refl; covers = refl; findings = tt };
  }

-- ---- the theorem at this net, with no further crossing

pub is_verdict_on : IsVerdictOn none_extra net domains worked.verdict
unfolding is_verdict_of
is_verdict_on =
    let laws = net_trees_are net domains fit no_grays finds in
    let ok = justified design trees none_extra (sync ∷ []) [] verdict (is_verdict none_extra) refl in
    let none = none_justified design (sync ∷ []) [] [] in
    record {
      exact = is_verdict_of none_extra;
      sound = λ clean. sound design trees laws (sync ∷ []) [] [] [] none_extra ok (λ s. Unit {0}) none (cover ∷ [])
          (cover_facts [] (sync ∷ []) [] (cover ∷ []) (covers_are design trees none_extra (sync ∷ []) [] verdict (is_verdict none_extra) refl));
      together = λ clean run h x register g depth. together design trees laws (sync ∷ []) [] [] [] none_extra ok (λ s. Unit {0}) none
          (one_family design trees none_extra (sync ∷ []) [] verdict (is_verdict none_extra) refl) run h x register g depth;
    }

-- ---- no FIFO, since no word has two bits

no_fifo : (e : Entry) → IsListedFifo net domains (syncs_of net domains) [] e → ⊥
no_fifo e (f, h, entry) = let l = one_bit h.write.reg.count in omega (arith, l, h.wide.0, h.wide.2)

pub are_fifos : AreFifosOf net domains [] []
are_fifos = record { all = λ e h. absurd (no_fifo e h); only = λ e i. absurd (nothing_in e i); ordered = ordered_none fifo_key }

pub is_judged : IsJudged net domains judged
is_judged = record {
  fifos = [];
  are_fifos = are_fifos;
  on = is_verdict_on;
  in_order = λ clean e i. absurd (nothing_in e i);
  syncs = refl;
  counts = refl;
  lines = refl;
}
