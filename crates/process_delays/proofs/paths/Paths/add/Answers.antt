use Rattle.std.proofs.Common.{ap, ◌∙◌}
use Rattle.std.proofs.lemmas.Map.Text.{hash_map_updates_str}
use Rattle.flat_unfolding.specs.Delays.{joined}
use Rattle.process_delays.specs.declared.paths.Paths.{Paths}
use Rattle.process_delays.specs.Paths.{ways_of}
use Rattle.process_delays.proofs.Ways.{grown-kept}
use Rattle.process_delays.proofs.paths.Paths.add.Goals as goal

pub returns-in-Ok : goal.returns-in-Ok
returns-in-Ok c =
    let old = c.args.self.now in
    let new : Paths = record { by_name = c.insert.new.self } in
    let w = ways_of c.args.more in
    grown-kept old new c.args.name.now c.joined-all.result w (c.joined-all.ensures ∙ ap (λ d. joined d w) c.of.ensures) (hash_map_updates_str c.args.name.now old.by_name new.by_name _ c.in-Ok.ensures.updates)
