use Rattle.flat_model.proofs.Meanings.{finite_meaning, nexts_meaning, replays_meaning, same_design, trees_meaning, verdict_meaning}
use Rattle.flat_model.proofs.NetDesign.{are_domains, has_meaning}
use Rattle.flat_model.proofs.net_is_flat.Goals as goal

pub returns : goal.returns
returns c = record {
  domains = are_domains;
  meaning = has_meaning;
  same = same_design;
  nexts = nexts_meaning;
  replays = replays_meaning;
  trees = trees_meaning;
  finite = finite_meaning;
  verdict = verdict_meaning;
}
