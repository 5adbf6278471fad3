use Rattle.std.proofs.Common.{◌∙◌, sym, ap, Bor, List, ℕ}
use Rattle.std.specs.Prelude.{position}
use Rattle.std.specs.Str.{bytes_eq}
use Rattle.sdc_subset.proofs.Lookups.{position-map}
use Rattle.sdc_subset.proofs.names.Names.place.Goals as goal

pub returns : goal.returns
returns c = c.get_index_of.ensures.index ∙ sym (position-map (bytes_eq c.args.name.now) (λ (n : Bor (List ℕ)). n.now) c.self.inside.set.keys)
    ∙ ap (position (bytes_eq c.args.name.now)) c.self.view_is
