use Rattle.std.proofs.Common.{◌∙◌, sym, ap, Bor, List, ℕ}
use Rattle.std.specs.List.{list_any}
use Rattle.std.specs.Str.{bytes_eq}
use Rattle.clock_constraints.proofs.Places.{list_any-map}
use Rattle.sdc_subset.proofs.names.Names.has.Goals as goal

pub returns : goal.returns
returns c = c.contains.ensures ∙ sym (list_any-map (bytes_eq c.args.name.now) (λ (n : Bor (List ℕ)). n.now) c.self.inside.set.keys)
    ∙ ap (list_any (bytes_eq c.args.name.now)) c.self.view_is
