-- Two texts describe one design, whatever its cells.
use Rattle.std.proofs.Common.{◌≡◌, ◌∙◌, sym, ap, subst, ℕ, Bool, true, false, List, ◌++◌, map, Some, Result, Ok}
use Rattle.std.proofs.Math.Path.{fun_ext}
use Rattle.cdc_base.specs.declared.bit.Bit.{Bit}
use Rattle.cdc_base.specs.declared.fault.Fault.{Fault}
use Rattle.cdc_base.specs.declared.signal.ResetPin.{ResetPin}
use Rattle.toml.specs.Data.{Members}
use Rattle.toml.specs.Parse.{parse_document}
use Rattle.cell_graph.specs.declared.net.Net.{Net}
use Rattle.cell_graph.specs.Reading.{Reading}
use Rattle.cell_graph.specs.Tree.{Tree, bit}
use Rattle.clock_constraints.specs.declared.Constraints.{Constraints}
use Rattle.clock_constraints.specs.Files.{constraints as constraints_of}
use Rattle.sdc_subset.specs.Meanings.{meaning}
use Rattle.cofactor.specs.contracts.nodes.PlainCofactors.TheImpl as plain
use Rattle.domains.specs.declared.Domains.{Domains}
use Rattle.domains.specs.Assignment.{AreDomains}
use Rattle.cdc_model.specs.declared.scheme.GrayReg.{GrayReg}
use Rattle.cdc_model.specs.Design.{Design}
use Rattle.cdc_model.specs.Nets.{design_of, net_trees, next_tree}
use Rattle.verilog_lex.specs.declared.token.Token.{Token}
use Rattle.verilog_lex.specs.Tokens.{tokens_of}
use Rattle.verilog_reading.specs.ItemReading.{IsSource}
use Rattle.verilog_reading.specs.SourceTree.{ModuleTree}
use Rattle.flat_meaning.specs.Design.{Flat}
use Rattle.flat_meaning.specs.SignalTrees.{AreTrees}
use Rattle.flat_meaning.specs.Trees.{Selects}
use Rattle.flat_unfolding.specs.Outcome.{Outcome, good}
use Rattle.flat_unfolding.specs.Unfolding.{unfolded}
use Rattle.reset_nets.specs.Designs.{Unfolds}
use Rattle.reset_nets.proofs.Designs.{one_list}
use Rattle.elaborate.specs.NetTrees.{HasTrees}
use Rattle.elaborate.specs.Words.{as_word}
use Rattle.flat_model.specs.Laws.{IsNetOf}
use Rattle.flat_model.proofs.Fields.{next_trees}
use Rattle.flat_model.proofs.Meanings.{same_design}
use Rattle.flat_model.proofs.NetDesign.{has_meaning}
use Rattle.described_design.specs.ConstraintFiles.{HasConstraints, Says, is_sdc, last_name}
use Rattle.described_design.specs.Described.{ReadsAs, UnfoldsTo, named_in}
use Rattle.described_design.specs.Designs.{IsDesignOf}
use Rattle.described_design.proofs.Described.{net_of_design}

-- ---- two nets of a flat design

module _ (f : Flat) (sel : Selects) (c : Constraints) (net other : Net) (domains others : Domains)
    (n : IsNetOf f sel c net domains) (o : IsNetOf f sel c other others) where
  one_tree : next_tree net ≡ next_tree other
  one_tree = fun_ext (λ sig. next_trees f sel c net domains n sig ∙ sym (next_trees f sel c other others o sig))

  abbrev nexts : (ℕ → Tree) → Reading → Bit → Bool
  nexts tree r x = bit r (tree x.sig) x.at

  pub one_design : design_of net domains ≡ design_of other others
  one_design =
      let meaning = has_meaning f sel c net domains n in
      let first = same_design f sel c net domains n meaning.0 meaning.1 in
      let second = same_design f sel c other others o meaning.0 meaning.1 in
      ap (λ (d : Design). record d { next = nexts (next_tree net) }) (sym first.fields ∙ second.fields)
      ∙ ap (λ (tree : ℕ → Tree). record (design_of other others) { next = nexts tree }) one_tree

  pub one_shape : (grays : GrayReg → Bool) → net_trees net grays ≡ net_trees other grays
  one_shape grays =
      let meaning = has_meaning f sel c net domains n in
      sym ((same_design f sel c net domains n meaning.0 meaning.1).trees grays) ∙ (same_design f sel c other others o meaning.0 meaning.1).trees grays

-- ---- two texts

once : {A : Type 0} (a b : A) (r : Result A Fault) → r ≡ Ok a → r ≡ Ok b → a ≡ b
once a b r h k = cc

one_document : (s t : Members) (bytes : List ℕ) → parse_document bytes ≡ Some s → parse_document bytes ≡ Some t → s ≡ t
one_document s t bytes h k = cc

says_once : (sdc : Bool) (modules : List ModuleTree) (bytes : List ℕ) (c d : Constraints) → Says sdc modules bytes c → Says sdc modules bytes d → c ≡ d
says_once true modules bytes c d h k = once c d (meaning bytes (last_name modules)) h k
says_once false modules bytes c d (s, (utf8, is), h) (t, (valid, also), k) =
    once c d (constraints_of t) (subst (λ (x : Members). constraints_of x ≡ Ok c) (one_document s t bytes is also) h) k

modules_once : (text : List ℕ) (a b : List ModuleTree) → ReadsAs text a → ReadsAs text b → a ≡ b
modules_once text a b r s =
    s.alone a (subst (λ (ts : List Token). IsSource ts a) (once r.tokens s.tokens (tokens_of text) r.are_tokens s.are_tokens) r.reads)

unfolds_once : (modules : List ModuleTree) (top : List ℕ) (resets : List ResetPin) (named : List (List ℕ)) (f g : Flat) → Unfolds modules top resets named (good f)
    → Unfolds modules top resets named (good g) → f ≡ g
unfolds_once modules top resets named f g h k =
    let nets = one_list modules top resets h.nets k.nets h.are_nets k.are_nets in
    one (unfolded modules top (resets ++ k.nets) named) (subst (λ (ns : List ResetPin). unfolded modules top (resets ++ ns) named ≡ good f) nets h.unfolds) k.unfolds
  where
    one : (o : Outcome Flat) → o ≡ good f → o ≡ good g → f ≡ g
    one o h k = cc

module _ (word text con : List ℕ) (c d : Constraints) (net other : Net) (domains others : Domains)
    (a : IsDesignOf word text con c net domains) (b : IsDesignOf word text con d other others) where
  same_modules : a.modules ≡ b.modules
  same_modules = modules_once text a.modules b.modules a.reads b.reads

  same_constraints : c ≡ d
  same_constraints = says_once (is_sdc word) b.modules con c d (subst (λ (ms : List ModuleTree). HasConstraints word ms con c) same_modules a.means) b.means

  same_flat : b.of_modules.flat ≡ a.of_modules.flat
  same_flat = sym (unfolds_once b.modules d.top d.resets (named_in d) a.of_modules.flat b.of_modules.flat
      (subst (λ (e : Constraints). UnfoldsTo b.modules e a.of_modules.flat) same_constraints
      (subst (λ (ms : List ModuleTree). UnfoldsTo ms c a.of_modules.flat) same_modules a.of_modules.unfolds)) b.of_modules.unfolds)

  -- both are nets of one flat design
  pub both_nets : (sel : Selects) × IsNetOf a.of_modules.flat sel c net domains × IsNetOf a.of_modules.flat sel c other others
  both_nets =
      let (sel, n) = net_of_design a.modules c net domains a.design a.of_modules in (
        sel,
        n,
        record {
          sound = n.sound;
          loop_free = n.loop_free;
          are_trees = n.are_trees;
          has_trees = subst (λ (f : Flat). (s : Selects) → AreTrees f s → HasTrees f s other) same_flat b.of_modules.has_trees sel n.are_trees;
          sized = n.sized;
          signals = subst (λ (f : Flat). other.graph.signals ≡ map as_word f.signals) same_flat b.of_modules.signals;
          is_net = b.design.can.is_net;
          next_cells = b.design.can.next_cells;
          assigned = subst (λ (e : Constraints). AreDomains plain.ghosts.reads other e others) (sym same_constraints) b.design.assigned;
          fit = b.design.can.fit;
        },
      )
