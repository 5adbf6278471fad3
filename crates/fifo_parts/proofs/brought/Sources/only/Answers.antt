-- Those at the places of the bit.
use Rattle.std.proofs.Common.{◌≡◌, ◌∙◌, [], ◌∷◌, sym, ap, subst, option_map, Bor}
use Rattle.std.specs.List.{filter}
use Rattle.std.specs.Option.{option_copied}
use Rattle.cdc_model.specs.declared.scheme.Sync.{Sync as SyncEntry}
use Rattle.fifo_parts.specs.Brought.{at_places, IsOnly, is_on, places_in}
use Rattle.fifo_parts.proofs.Only.{tested_from}
use Rattle.fifo_parts.proofs.brought.Sources.only.Goals as goal

pub returns-in-Some : goal.returns-in-Some
returns-in-Some c = λ meant e are.
    let test = is_on c.args.net.now c.args.domains.now c.args.clock in
    let there = c.as_slice.ensures.value ∙ sym (ap places_in (sym c.get.ensures.value ∙ ap option_copied c.in-Some.is)) ∙ are c.args.from in
    subst (λ ss. IsOnly ss (option_map (λ (s : Bor SyncEntry). s.now) c.only_on.result)) (ap (λ ns. filter test (at_places meant ns)) there
    ∙ tested_from c.args.from test meant) (c.only_on.ensures meant e)

pub returns-in-None : goal.returns-in-None
returns-in-None c = λ meant e are y one.
    let test = is_on c.args.net.now c.args.domains.now c.args.clock in
    let there = sym (ap places_in (sym c.get.ensures.value ∙ ap option_copied c.in-None.is)) ∙ are c.args.from in
    let both : [] ≡ y ∷ [] = ap (λ ns. filter test (at_places meant ns)) there ∙ tested_from c.args.from test meant ∙ one in
    cc
