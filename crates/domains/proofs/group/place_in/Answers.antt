use Rattle.std.proofs.Common.{◌≡◌, ◌∙◌, sym, ap, map, Some, option_map, Bor, slice_get}
use Rattle.std.proofs.lemmas.Option.{slice_get-map}
use Rattle.std.proofs.lemmas.Slice.Eq.{bytes_eq-Decides}
use Rattle.clock_constraints.specs.Refusals.{Text}
use Rattle.domains.proofs.GroupPlaces.{names-insert}
use Rattle.domains.proofs.group.place_in.Goals as goal

pub returns-in-Ok-try_from-clause-names : goal.returns-in-Ok-try_from-clause-names
returns-in-Ok-try_from-clause-names c =
    ap (map (λ (n : Bor Text). n.now)) c.in-Ok.ensures.keys ∙ names-insert c.args.names.now.keys c.args.name

pub returns-in-Ok-try_from-clause-place : goal.returns-in-Ok-try_from-clause-place
returns-in-Ok-try_from-clause-place c =
    let stored = c.in-Ok.ensures.stored in
    let same : c.in-Ok-try_from.place ≡ c.in-Ok.place = c.in-Ok-try_from.ensures.1 in
    ap (slice_get (map (λ (n : Bor Text). n.now) c.insert_full.new.self.keys)) same
    ∙ slice_get-map (λ (n : Bor Text). n.now) c.insert_full.new.self.keys c.in-Ok.place
    ∙ ap (option_map (λ (n : Bor Text). n.now)) stored.1
    ∙ ap Some (sym ((bytes_eq-Decides c.args.name.now stored.0.now).0 stored.2))
