-- The trees of a net where the listed Gray registers are all that there are.
use Rattle.std.proofs.Common.{◌≡◌, refl, sym, subst, rules, true, List, Contains}
use Rattle.std.specs.Cmp.Rules.{comparing}
use Rattle.std.proofs.lemmas.List.Folds.{Any-from_list_any, list_any-from_Any}
use Rattle.cell_graph.specs.declared.net.Net.{Net}
use Rattle.domains.specs.declared.Domains.{Domains}
use Rattle.domains.specs.Fit.{Fit}
use Rattle.cdc_model.specs.contracts.scheme.GrayRegPartialEq.TheImpl as equality
use Rattle.cdc_model.specs.declared.scheme.GrayReg.{GrayReg}
use Rattle.cdc_model.specs.Nets.{design_of, is_read_by_output, net_trees, next_tree}
use Rattle.cdc_model.specs.Schemes.{AreSyncs, AreTrees, Sync}
use Rattle.cdc_model.proofs.Net.{trees_are}
use Rattle.cdc_model.proofs.NetDesign.{plain_trees_are, settles}
use Rattle.fifo_laws.specs.Laws.{AreLists}
use Rattle.cert_check.specs.OnNets.{is_among, IsGrayOn}

equal_is : (a b : GrayReg) → equality.ghosts.eq a b ≡ true → a ≡ b
equal_is a b h = search rules

itself : (a : GrayReg) → equality.ghosts.eq a a ≡ true
itself a = search (comparing, rules)

-- the test finds what is listed
pub among_in : (grays : List GrayReg) (g : GrayReg) → is_among grays g ≡ true → Contains grays g
among_in grays g h = let (k, a, l, at, p) = Any-from_list_any (equality.ghosts.eq g) grays h in subst (Contains grays) (sym (equal_is g a p)) (k, l, at)

pub in_among : (grays : List GrayReg) (g : GrayReg) → Contains grays g → is_among grays g ≡ true
in_among grays g i = list_any-from_Any (equality.ghosts.eq g) grays (i.0, g, i.1, i.2, itself g)

module _ (net : Net) (domains : Domains) (fits : Fit net domains) (grays : List GrayReg) (are : (g : GrayReg) → Contains grays g → IsGrayOn net domains g) where
  -- where all that are listed are Gray registers, the trees show what is so
  pub listed_trees_are : AreTrees (design_of net domains) (net_trees net (is_among grays))
  listed_trees_are = trees_are (design_of net domains) (next_tree net) (is_read_by_output net) (is_among grays)
      (record { next = λ r x reg. refl; copied = λ x reg. refl }) (settles net domains fits) (plain_trees_are net domains fits).within
      (λ g h. are g (among_in grays g h))

  -- lists of synchronizers and of these Gray registers
  pub lists_of : (syncs : List Sync) → AreSyncs (design_of net domains) (net_trees net (is_among grays)) syncs
      → AreLists (design_of net domains) (next_tree net) (net_trees net (is_among grays)) syncs grays
  lists_of syncs are_syncs = record {
    next = record { next = λ r x reg. refl; copied = λ x reg. refl };
    trees = listed_trees_are;
    reads = λ x b reg. refl;
    are_syncs = are_syncs;
    are_grays = are;
  }
