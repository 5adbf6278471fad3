use Rattle.std.proofs.Common.{Some, None, ap, ◌∙◌}
use Rattle.flat_names.specs.Looks.{kept_in}
use Rattle.flat_design.proofs.Links.{signal-is}
use Rattle.flat_design.proofs.Places.{name-same}
use Rattle.flat_design.proofs.instance.inner_signal.Goals as goal

pub returns-in-Some : goal.returns-in-Some
returns-in-Some c = λ names x h e.
    let inner = c.args.inner.now in
    let found = c.in_ok-name in
    let same = name-same c.args.ports.now c.args.port x found.name.now found.field-0-1.now found.ensures.entry e in
    c.signal_meant.ensures ∙ signal-is inner names h x (Some c.in-Some.meaning.now) (c.in-Some.ensures.value ∙ ap (kept_in inner) same)

pub returns-in-None : goal.returns-in-None
returns-in-None c = λ names x h e.
    let inner = c.args.inner.now in
    let found = c.in_ok-name in
    let same = name-same c.args.ports.now c.args.port x found.name.now found.field-0-1.now found.ensures.entry e in
    signal-is inner names h x None (c.in-None.ensures.value ∙ ap (kept_in inner) same)
