-- FIFOs that were found guard their crossings.
use Rattle.std.proofs.Common.{◌≡◌, ℕ, Bool, true, Some, List, [], ◌∷◌, map, refl, sym, ap, ap₂, subst, ◌∙◌}
use Rattle.std.specs.Prelude.{◌≢◌, Contains}
use mathlib.Core.Path.{fun_ext}
use Rattle.cdc_base.specs.declared.bit.Bit.{Bit}
use Rattle.cell_graph.specs.Tree.{Tree}
use Rattle.cdc_model.specs.declared.scheme.GrayReg.{GrayReg}
use Rattle.cdc_model.specs.declared.scheme.Sync.{Sync as SyncEntry}
use Rattle.cdc_model.specs.Design.{Design}
use Rattle.cdc_model.specs.Facts.{AreJustifiedBy}
use Rattle.cdc_model.specs.Listed.{sync_entry}
use Rattle.cdc_model.specs.Nets.{design_of, next_tree}
use Rattle.cdc_model.specs.Runs.{State}
use Rattle.cdc_model.specs.Schemes.{Trees, AreTrees, AreSyncs, IsCrossing, Sync, Ring}
use Rattle.fifo_laws.specs.Fifos.{Fifo, AreFifos, is_fifo_crossing}
use Rattle.fifo_laws.specs.Keeps.{KeepsAll}
use Rattle.fifo_laws.specs.Laws.{AreLists}
use Rattle.fifo_laws.proofs.Cross.{all_cross}
use Rattle.fifo_laws.proofs.FlipAll.{all_flip}
use Rattle.fifo_laws.proofs.FlipRoom.{room_of}
use Rattle.fifo_laws.proofs.Start.{all_start}
use Rattle.fifo_laws.proofs.Step.{all_kept}
use Rattle.fifo_scheme.specs.Found.{AreThose, Found, IsFoundFor, KeepsFound, KeepsOver, is_listed}

heads : {A : Type 0} (x y : A) (xs ys : List A) → x ∷ xs ≡ y ∷ ys → (x ≡ y) × (xs ≡ ys)
heads x y xs ys e = (cc, cc)

one_sync : (s r : Sync) → sync_entry s ≡ sync_entry r → s ≡ r
one_sync s r e =
    let from : s.from ≡ r.from = ap (λ (x : SyncEntry). x.from) e in
    let flops = heads s.first r.first s.more r.more (ap (λ (x : SyncEntry). x.flops) e) in
    λ i. record { from = from i; first = flops.0 i; more = flops.1 i }

-- a list of entries is that of one list of synchronizers
pub one_listing : (ss rs : List Sync) → map sync_entry ss ≡ map sync_entry rs → ss ≡ rs
one_listing [] [] e = refl
one_listing [] (r ∷ rs) e = cc
one_listing (s ∷ ss) [] e = cc
one_listing (s ∷ ss) (r ∷ rs) e = let h = heads (sync_entry s) (sync_entry r) (map sync_entry ss) (map sync_entry rs) e in
    ap₂ (λ (x : Sync) xs. x ∷ xs) (one_sync s r h.0) (one_listing ss rs h.1)

pub found_cross : (a : Found) (d : Design) (t : Trees) (syncs : List Sync) (grays : List GrayReg) → IsFoundFor a d t syncs grays
    → (b x : Bit) → is_listed a.crossings b x ≡ true → IsCrossing d t b x × (d.copied x ≢ Some b)
found_cross a d t syncs grays k b x extra =
    all_cross d (next_tree a.net) t syncs grays k.lists k.those.fifos k.those.are_fifos b x (sym (k.those.crossings_are b x) ∙ extra)

module _ (d : Design) (tree : ℕ
    → Tree) (t : Trees) (syncs : List Sync) (grays : List GrayReg) (rings : List Ring) (lists : AreLists d tree t syncs grays) where
  fifos_justify : (fifos : List Fifo) → AreFifos d tree syncs grays fifos
      → AreJustifiedBy d syncs grays rings (is_fifo_crossing fifos) (KeepsAll d tree syncs grays fifos)
  fifos_justify fifos are = record {
    start = λ s first. all_start d s first tree t syncs grays lists fifos are;
    step = λ past edges new run keeps facts calm whole. all_kept d tree t syncs grays rings lists past edges new run.1 facts calm whole fifos are
        keeps;
    flip = λ edges old new step keeps facts calm x reg ticking flips loose. all_flip d tree t syncs grays lists rings edges old new step facts x reg
        flips loose fifos
        (λ f i. (are f i, room_of d tree t syncs grays lists f (are f i) old (keeps f i (are f i)) rings facts));
  }

-- FIFOs over the lists that were given justify what is listed of their crossings
module _ (a : Found) (t : Trees) (syncs : List Sync) (rings : List Ring) (listed : a.syncs ≡ map sync_entry syncs)
    (lists : AreLists (design_of a.net a.domains) (next_tree a.net) t syncs a.grays)
    (those : AreThose (design_of a.net a.domains) a.net syncs a.grays a.crossings) where
  by_law : (fifos : List Fifo) → AreFifos (design_of a.net a.domains) (next_tree a.net) syncs a.grays fifos
      → AreJustifiedBy (design_of a.net a.domains) syncs a.grays rings (is_fifo_crossing fifos)
      (KeepsAll (design_of a.net a.domains) (next_tree a.net) syncs a.grays fifos)
  by_law = fifos_justify (design_of a.net a.domains) (next_tree a.net) t syncs a.grays rings lists

  -- what a state keeps over these synchronizers is kept over all that have the entries
  over_all : (s : State) → KeepsOver a syncs s → KeepsFound a s
  over_all s h others e = subst (λ (ss : List Sync). KeepsOver a ss s) (one_listing syncs others (sym listed ∙ e)) h

  listing : is_fifo_crossing those.fifos ≡ is_listed a.crossings
  listing = fun_ext (λ (b : Bit). fun_ext (λ (x : Bit). sym (those.crossings_are b x)))

  justified : AreJustifiedBy (design_of a.net a.domains) syncs a.grays rings (is_listed a.crossings) (KeepsFound a)
  justified = record {
    start = λ s first. over_all s (λ fifos are. (by_law fifos are).start s first);
    step = λ past edges new run keeps facts calm whole. over_all new
        (λ fifos are. (by_law fifos are).step past edges new run (keeps syncs listed fifos are) facts calm whole);
    flip = λ edges old new step keeps. flips.flip edges old new step (keeps syncs listed those.fifos those.are_fifos);
  }
    where
      flips : AreJustifiedBy (design_of a.net a.domains) syncs a.grays rings (is_listed a.crossings)
          (KeepsAll (design_of a.net a.domains) (next_tree a.net) syncs a.grays those.fifos)
      flips = subst (λ (e : Bit → Bit
          → Bool). AreJustifiedBy (design_of a.net a.domains) syncs a.grays rings e
          (KeepsAll (design_of a.net a.domains) (next_tree a.net) syncs a.grays those.fifos))
          listing (by_law those.fifos those.are_fifos)

pub found_justify : (a : Found) (d : Design) (t : Trees) (syncs : List Sync) (grays : List GrayReg) (rings : List Ring) → IsFoundFor a d t syncs grays
    → AreTrees d t → AreSyncs d t syncs → ((g : GrayReg) → Contains grays g → t.is_gray g ≡ true)
    → AreJustifiedBy d syncs grays rings (is_listed a.crossings) (KeepsFound a)
found_justify a d t syncs grays rings k laws are_syncs are_grays = at d grays k.design k.listed.1 k.lists k.those
  where
    at : (e : Design) (gs : List GrayReg) → design_of a.net a.domains ≡ e → a.grays ≡ gs → AreLists e (next_tree a.net) t syncs gs
        → AreThose e a.net syncs gs a.crossings
        → AreJustifiedBy e syncs gs rings (is_listed a.crossings) (KeepsFound a)
    at e gs p q lists those =
        subst (λ (z : Design). AreJustifiedBy z syncs gs rings (is_listed a.crossings) (KeepsFound a)) p
        (subst (λ (hs : List GrayReg). AreJustifiedBy (design_of a.net a.domains) syncs hs rings (is_listed a.crossings) (KeepsFound a)) q
        (justified a t syncs rings k.listed.0
        (subst (λ (hs : List GrayReg). AreLists (design_of a.net a.domains) (next_tree a.net) t syncs hs) (sym q)
        (subst (λ (z : Design). AreLists z (next_tree a.net) t syncs gs) (sym p) lists))
        (subst (λ (hs : List GrayReg). AreThose (design_of a.net a.domains) a.net syncs hs a.crossings) (sym q)
        (subst (λ (z : Design). AreThose z a.net syncs gs a.crossings) (sym p) those))))
