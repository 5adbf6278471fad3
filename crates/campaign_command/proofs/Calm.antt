-- Where the verdict on a net has no finding, over all of its FIFOs, no net of the same design shows a capture.
use Rattle.std.proofs.Common.{◌≡◌, ◌≢◌, ◌∙◌, ◌↔◌, inl, inr, refl, sym, subst, ℕ, Bool, true, false, List, [], ◌∷◌, map, flat_map, Contains}
use Rattle.std.proofs.lemmas.List.Elements.{Contains-append_cases, Contains-append_left, Contains-append_right}
use Rattle.cdc_base.specs.declared.bit.Bit.{Bit}
use Rattle.cell_graph.specs.declared.net.Net.{Net}
use Rattle.domains.specs.declared.Domains.{Domains}
use Rattle.domains.specs.Fit.{Fit}
use Rattle.domains.specs.Nets.{IsNet}
use Rattle.cdc_model.specs.declared.scheme.Crossing.{Crossing}
use Rattle.cdc_model.specs.declared.scheme.GrayReg.{GrayReg}
use Rattle.cdc_model.specs.declared.verdict.Verdict.{Verdict as VerdictEntry}
use Rattle.cdc_model.specs.Design.{Design, flipped}
use Rattle.cdc_model.specs.Facts.{AreJustifiedBy}
use Rattle.cdc_model.specs.Listed.{IsVerdictOf, sync_entry}
use Rattle.cdc_model.specs.Nets.{design_of, net_trees, next_tree}
use Rattle.cdc_model.specs.Replay.{has_bit}
use Rattle.cdc_model.specs.Runs.{State, Then, Trace, now, ticks, AreLoose, IsLoose, IsRun}
use Rattle.cdc_model.specs.Schemes.{AreTrees, IsSync, Justified, Sync, Trees, is_settling}
use Rattle.cdc_model.specs.Syncs.{syncs_of}
use Rattle.cdc_model.specs.Verdict.{sync_key}
use Rattle.cdc_model.proofs.Ascending.{here, later, nothing_in, parts}
use Rattle.cdc_model.proofs.CleanVerdict.{justified}
use Rattle.cdc_model.proofs.Listing.{clean_listed}
use Rattle.cdc_model.proofs.NetDesign.{net_trees_are}
use Rattle.cdc_model.proofs.Ordered.{one_list}
use Rattle.cdc_model.proofs.Replay.{each_bit}
use Rattle.cdc_model.proofs.Synced.{syncs_are_all}
use Rattle.cdc_model.proofs.Whole.{calm_run}
use Rattle.fifo_laws.specs.Laws.{AreLists}
use Rattle.fifo_scheme.specs.declared.found.Fifo.{Fifo}
use Rattle.fifo_scheme.specs.Entries.{IsCrossingOfOne, IsListedFifo}
use Rattle.fifo_scheme.specs.Extra.{found_justify}
use Rattle.fifo_scheme.specs.Found.{Found as FifosFound, IsFoundFor, KeepsFound}
use Rattle.fifo_scheme.proofs.FoundFor.{made_fit}
use Rattle.net_verdict.specs.Fifos.{AreFifosOf, is_of_fifo}
use Rattle.net_verdict.proofs.Judging.{of_fifos}
use Rattle.campaign.specs.declared.found.Found.{Found}
use Rattle.campaign.specs.Shows.{ShowsCapture}

-- ---- the crossings of all FIFOs

from_one : (fifos : List Fifo) (c : Crossing) → Contains (flat_map (λ (e : Fifo). e.crossings) fifos) c → IsCrossingOfOne fifos c
from_one [] c i = absurd (nothing_in c i)
from_one (e ∷ es) c i = elim (Contains-append_cases e.crossings (flat_map (λ (e : Fifo). e.crossings) es) c i) [
  | inl j ↦ (e, here e es, j)
  | inr j ↦ (let r = from_one es c j in (r.0, later e es r.0 r.1, r.2))
]

in_all : (fifos : List Fifo) (c : Crossing) → IsCrossingOfOne fifos c → Contains (flat_map (λ (e : Fifo). e.crossings) fifos) c
in_all [] c h = absurd (nothing_in h.0 h.1)
in_all (e ∷ es) c h = elim (parts e es h.0 h.1) [
  | inl same ↦ Contains-append_left e.crossings (flat_map (λ (e : Fifo). e.crossings) es) c (subst (λ (f : Fifo). Contains f.crossings c) (sym same) h.2)
  | inr j ↦ Contains-append_right e.crossings (flat_map (λ (e : Fifo). e.crossings) es) c (in_all es c (h.0, j, h.2))
]

-- ---- a verdict without findings

-- in the last step of a run a register bit, no settling flop, takes another value than its next one, by a bit that is loose for it
record IsCapture (d : Design) (syncs : List Sync) (past : Trace) (edges : ℕ → Bool) (new : State) (x b : Bit) : Type 0 where
  run : IsRun d (Then past edges new)
  register : d.is_register x ≡ true
  plain : is_settling d syncs x ≡ false
  ticking : ticks d edges x ≡ true
  loose : IsLoose d (now past) new.values x b
  taken : new.values x ≡ d.next (flipped (has_bit (b ∷ [])) (now past).values) x
  other : new.values x ≢ d.next (now past).values x

module _ (net : Net) (domains : Domains) (is_net : IsNet net) (fits : Fit net domains) (e : VerdictEntry) (fifos : List Fifo) (all : AreFifosOf net domains e.grays fifos)
    (w : IsVerdictOf net domains (is_of_fifo fifos) e) (clean : e.findings ≡ []) where
  abbrev d : Design
  d = design_of net domains

  abbrev t : Trees
  t = net_trees net w.grays

  abbrev crossings : List Crossing
  crossings = flat_map (λ (f : Fifo). f.crossings) fifos

  laws : AreTrees d t
  laws = net_trees_are net domains fits w.grays w.finds

  ok : Justified d t w.syncs w.verdict.grays w.verdict.rings w.loads (is_of_fifo fifos)
  ok = justified d t (is_of_fifo fifos) w.syncs w.loads w.verdict w.is_verdict (clean_listed net d t w.syncs w.verdict e w.is_listed clean)

  same_syncs : syncs_of net domains ≡ w.syncs
  same_syncs = one_list sync_key (IsSync d t) (syncs_of net domains) w.syncs (syncs_are_all net domains w.grays is_net fits) w.is_verdict.all_syncs

  -- the Gray registers that are listed
  are_grays : (g : GrayReg) → Contains e.grays g → t.is_gray g ≡ true
  are_grays g i = ok.are_grays g (subst (λ (gs : List GrayReg). Contains gs g) w.is_listed.grays i)

  lists : AreLists d (next_tree net) t w.syncs e.grays
  lists = record {
    next = record { next = λ r x register. refl; copied = λ x register. refl };
    trees = laws;
    reads = λ x b register. refl;
    are_syncs = ok.are_syncs;
    are_grays = λ g i. (w.finds g).0 (are_grays g i);
  }

  abbrev found : FifosFound
  found = record { net = net; domains = domains; syncs = map sync_entry w.syncs; grays = e.grays; fifos = fifos; crossings = crossings }

  are : (f : Fifo) → Contains fifos f → IsListedFifo net domains w.syncs e.grays f
  are f i = subst (λ (ss : List Sync). IsListedFifo net domains ss e.grays f) same_syncs (all.only f i)

  all_tell : (c : Crossing) → Contains crossings c ↔ IsCrossingOfOne fifos c
  all_tell c = (from_one fifos c, in_all fifos c)

  found_for : IsFoundFor found d t w.syncs e.grays
  found_for = made_fit net domains w.syncs e.grays found fifos t (map sync_entry w.syncs) lists refl (refl, refl, refl, refl, refl) are all_tell

  -- the FIFOs justify their crossings
  justify : AreJustifiedBy d w.syncs w.verdict.grays w.verdict.rings (is_of_fifo fifos) (KeepsFound found)
  justify =
      subst (λ (gs : List GrayReg). AreJustifiedBy d w.syncs gs w.verdict.rings (is_of_fifo fifos) (KeepsFound found)) w.is_listed.grays
      (subst (λ (extra : Bit → Bit → Bool). AreJustifiedBy d w.syncs e.grays w.verdict.rings extra (KeepsFound found)) (of_fifos fifos crossings all_tell)
      (found_justify found d t w.syncs e.grays w.verdict.rings found_for laws ok.are_syncs are_grays))

  -- so no run captures a loose bit
  never : (past : Trace) (edges : ℕ → Bool) (new : State) (x b : Bit) → IsCapture d w.syncs past edges new x b → ⊥
  never past edges new x b k =
      let loose : AreLoose d (now past) new.values x (has_bit (b ∷ []))
      = λ c h. each_bit (λ (c : Bit). IsLoose d (now past) new.values x c) (b ∷ []) c (k.loose, tt) h in
      k.other (k.taken
      ∙ calm_run d t laws w.syncs w.verdict.grays w.verdict.rings w.loads (is_of_fifo fifos) ok (KeepsFound found) justify past edges new k.run x k.register k.ticking k.plain tt
      (has_bit (b ∷ [])) loose)

  -- nor does one of another net with this design
  pub none_shown : (other : Net) (others : Domains) → design_of other others ≡ d → syncs_of other others ≡ w.syncs → (f : Found) → ShowsCapture other others f → ⊥
  none_shown other others same syncs f k =
      never k.past k.edges k.new f.to f.from
      (subst (λ (x : Design). IsCapture x w.syncs k.past k.edges k.new f.to f.from) same
      (subst (λ (ss : List Sync). IsCapture (design_of other others) ss k.past k.edges k.new f.to f.from) syncs (record {
        run = k.run;
        register = k.register;
        plain = k.plain;
        ticking = k.ticking;
        loose = k.loose;
        taken = k.taken;
        other = k.other;
      })))
