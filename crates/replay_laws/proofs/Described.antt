-- Records of a described design are replayed on its net as on the flat design.
use Rattle.std.proofs.Common.{ℕ, List, ◌++◌}
use Rattle.cell_graph.specs.declared.net.Net.{Net}
use Rattle.clock_constraints.specs.declared.Constraints.{Constraints}
use Rattle.domains.specs.declared.Domains.{Domains}
use Rattle.flat_meaning.specs.Design.{Flat}
use Rattle.flat_meaning.specs.Trees.{Selects}
use Rattle.flat_unfolding.specs.Formed.{IsSourceFormed}
use Rattle.flat_unfolding.proofs.Sound.{well_clocked_law}
use Rattle.signal_names.specs.Laws.{AreNames, names_in}
use Rattle.signal_names.proofs.Visits.{names_differ}
use Rattle.flat_model.specs.Laws.{IsNetOf}
use Rattle.flat_model.proofs.NetDesign.{has_meaning}
use Rattle.reset_reads.proofs.Unread.{resets_are_unread}
use Rattle.described_design.specs.Described.{named_in}
use Rattle.described_design.specs.Designs.{IsDesignOf}
use Rattle.described_design.proofs.Described.{modules_formed, net_of_design}
use Rattle.found_names.proofs.Visible.{read-visible}
use Rattle.replay_laws.specs.Laws.{ReplaysAreDescribed}
use Rattle.replay_laws.proofs.Levels.{replays_alike}

module _ (word text con : List ℕ) (c : Constraints) (net : Net) (domains : Domains) (is : IsDesignOf word text con c net domains) where
  abbrev flat : Flat
  flat = is.of_modules.flat

  formed : IsSourceFormed is.modules
  formed = modules_formed text is.modules is.reads

  names : AreNames (names_in flat)
  names = names_differ is.modules (read-visible text is.reads.tokens is.modules is.reads.are_tokens is.reads.reads)
      c.top (c.resets ++ is.of_modules.unfolds.nets) (named_in c) flat is.of_modules.unfolds.unfolds

  net_is : (sel : Selects) × IsNetOf flat sel c net domains
  net_is = net_of_design is.modules c net domains is.design is.of_modules

pub replays_are_described : ReplaysAreDescribed
replays_are_described word text con run c net domains is r means =
    let nets = is.of_modules.unfolds.nets in
    let of_source = is.of_modules.unfolds.unfolds in
    let made = net_is word text con c net domains is in
    let sources_formed = formed word text con c net domains is in
    record {
      some = has_meaning is.of_modules.flat made.0 c net domains made.1;
      same = λ d m. replays_alike is.of_modules.flat made.0 c net domains made.1 nets
          (resets_are_unread is.modules sources_formed c.top (c.resets ++ nets) (named_in c) is.of_modules.flat of_source)
          (well_clocked_law is.modules sources_formed c.top (c.resets ++ nets) (named_in c) is.of_modules.flat of_source)
          (names word text con c net domains is).differ d m is.design.can.starts run r means;
    }
