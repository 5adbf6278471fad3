-- The first flop of each synchronizer has a group and a clock.
use Rattle.std.proofs.Common.{◌≡◌, ◌∙◌, refl, sym, ap, ap₂, subst, ℕ, ◌+◌, ◌<◌, ◌≤◌, Bool, false, Option, Some, None, is_some, option_map, List, [], ◌∷◌, ◌++◌, take, length, slice_get, get_or, Contains, arith}
use Rattle.std.specs.Prelude.{option_and_then}
use Rattle.std.proofs.lemmas.Bool.{and_parts}
use Rattle.std.proofs.lemmas.List.{take_more, take_all, length-map}
use Rattle.std.proofs.lemmas.Option.{slice_get_within, get_or_from_slice_get}
use Rattle.cell_graph.specs.declared.net.Net.{Net}
use Rattle.domains.specs.declared.Domains.{Domains}
use Rattle.domains.specs.Assignment.{clock_of}
use Rattle.domains.specs.Fit.{Fit}
use Rattle.domains.specs.Nets.{IsNet}
use Rattle.cdc_model.specs.declared.scheme.GrayReg.{GrayReg}
use Rattle.cdc_model.specs.declared.scheme.Sync.{Sync as SyncEntry}
use Rattle.cdc_model.specs.Design.{Design, group}
use Rattle.cdc_model.specs.Listed.{sync_entry}
use Rattle.cdc_model.specs.Nets.{next_cell, is_within, design_of}
use Rattle.cdc_model.specs.Schemes.{Sync, Ring}
use Rattle.cdc_model.specs.Syncs.{syncs_of}
use Rattle.cdc_model.proofs.Behind.{async_clock}
use Rattle.cdc_model.proofs.Justify.{slice_in}
use Rattle.cdc_model.proofs.NetDesign.{group_is, cond_some}
use Rattle.cdc_model.proofs.Synced.{syncs_are_all}
use Rattle.obligations.specs.declared.Found.{Found}
use Rattle.obligations.specs.declared.words.Entry.{Entry}
use Rattle.obligations.specs.Given.{AreFound, design_in, syncs_in}
use Rattle.obligations.specs.Words.{entry_of, IsEntryOf, AreEntries}
use Rattle.obligations.proofs.Lists.{item_of}

module _ (net : Net) (domains : Domains) (is : IsNet net) (fit : Fit net domains) where
  abbrev d : Design
  d = design_of net domains

  entry_there : (s : Sync) → Contains (syncs_of net domains) s → (e : Entry) × (entry_of domains s ≡ Some e) × IsEntryOf (design_of net domains) s e
  entry_there s i =
      let sync = (syncs_are_all net domains (λ g. false) is fit).only s i in
      let c = async_clock d s.from s.first sync.crossing.async in
      let w = and_parts (is_some (next_cell net.regs s.first.sig)) (is_within net s.first) sync.crossing.register in
      let grouped : group d s.first ≡ Some (d.group_of c.0) = ap (option_map d.group_of) c.1 in (
        record { from = s.from; to = s.first; group = d.group_of c.0; clock = c.0 },
        ap₂ (λ o p. option_and_then (λ (g : ℕ). option_map (λ (k : ℕ). record { from = s.from; to = s.first; group = g; clock = k }) p) o)
            (sym (group_is net domains fit s.first w.1) ∙ grouped) (cond_some (is_within net s.first) (clock_of domains s.first) c.0 c.1).1,
        (refl, refl, grouped, c.1),
      )

entries_push : (d : Design) (ss : List Sync) (es : List Entry) (s : Sync) (e : Entry) → AreEntries d ss es → IsEntryOf d s e → AreEntries d (ss ++ s ∷ []) (es ++ e ∷ [])
entries_push d [] [] s e are is = (is, tt)
entries_push d [] (f ∷ es) s e are is = absurd are
entries_push d (r ∷ ss) [] s e are is = absurd are
entries_push d (r ∷ ss) (f ∷ es) s e are is = (are.0, entries_push d ss es s e are.1 is)

some_one : {A : Type 0} (x y : A) → Some x ≡ Some y → x ≡ y
some_one x y e = cc

module _ (grays : GrayReg → Bool) (rings : List Ring) (found : Found) (are : AreFound grays rings found) (i : ℕ) (x : SyncEntry) (within : i < length found.syncs.now) (at : x ≡ get_or found.syncs.now i x) where
  abbrev turn : (s : Sync) × (x ≡ sync_entry s) × (slice_get (syncs_in found) i ≡ Some s)
  turn = item_of sync_entry found.syncs.now (syncs_in found) i x are.all_syncs within at

  abbrev there : (e : Entry) × (entry_of found.domains.now turn.0 ≡ Some e) × IsEntryOf (design_in found) turn.0 e
  there = entry_there found.net.now found.domains.now are.is_net are.fits turn.0 (slice_in (syncs_in found) i turn.0 turn.2)

  -- each synchronizer's first flop is an entry
  pub no_none : (o : Option Entry) → ((s : Sync) → x ≡ sync_entry s → o ≡ entry_of found.domains.now s) → o ≡ None → ⊥
  no_none o is e = absurd (never (sym e ∙ is turn.0 turn.1 ∙ there.1))
    where
      never : None ≡ Some there.0 → ⊥
      never f = cc

  pub entry_more : (es : List Entry) (e : Entry) (o : Option Entry) → ((s : Sync) → x ≡ sync_entry s → o ≡ entry_of found.domains.now s) → o ≡ Some e
      → AreEntries (design_in found) (take i (syncs_in found)) es → AreEntries (design_in found) (take (i + 1) (syncs_in found)) (es ++ e ∷ [])
  entry_more es e o is f h =
      subst (λ ss. AreEntries (design_in found) ss (es ++ e ∷ [])) (sym (longer (syncs_in found) i turn.0 turn.2))
      (entries_push (design_in found) (take i (syncs_in found)) es turn.0 e h
      (subst (IsEntryOf (design_in found) turn.0) (some_one there.0 e (sym there.1 ∙ sym (is turn.0 turn.1) ∙ f)) there.2))
    where
      longer : (ss : List Sync) (k : ℕ) (s : Sync) → slice_get ss k ≡ Some s → take (k + 1) ss ≡ take k ss ++ s ∷ []
      longer ss k s g = take_more ss k s (slice_get_within ss k s g) ∙ ap (λ r. take k ss ++ r ∷ []) (get_or_from_slice_get ss k s s g)

-- in the end all have been met
pub all_met : (grays : GrayReg → Bool) (rings : List Ring) (found : Found) → AreFound grays rings found → (i : ℕ) (es : List Entry) → length found.syncs.now ≤ i
    → AreEntries (design_in found) (take i (syncs_in found)) es → AreEntries (design_in found) (syncs_in found) es
all_met grays rings found are i es done h =
    subst (λ ss. AreEntries (design_in found) ss es) (take_all i (syncs_in found) (let same = ap length are.all_syncs ∙ length-map (syncs_in found) sync_entry in omega (arith, done, same))) h
