use Rattle.std.proofs.Common.{◌≡◌, ◌++◌, ◌<◌, length, refl, sym, ap, subst, ◌∙◌, rules}
use Rattle.std.specs.Prelude.{option_map}
use Rattle.flat_unfolding.specs.Names.{printed_part}
use Rattle.flat_unfolding.specs.Declarations.{entry}
use Rattle.flat_names.specs.declared.design.Design.{Design}
use Rattle.flat_names.specs.Looks.{range_of, shown}
use Rattle.flat_declarations.proofs.Tables.{signals-counted, added-shows}
use Rattle.flat_declarations.proofs.Added.{adds-shown}
use Rattle.flat_declarations.proofs.declare.add_signal.Goals as goal

pub returns-clause-exact : goal.returns-clause-exact
returns-clause-exact c = λ pins e at sh is placed narrow.
    let r = option_map range_of c.args.bounds in let own = c.args.own.now in
    let made = entry at c.args.kind r c.args.is_open own in
    let old = c.args.design.now in
    let new : Design = record old { signals = c.push.new.items; entries = c.push-2.new.items } in
    let number : c.unwrap_or.result ≡ c.len-number.result = search rules in
    let few : c.len-number.result < 1048576 = search rules in
    let many : c.len-number.result ≡ length old.signals.items = search rules in
    let named : c.in_ok-name.name ≡ at.prefix ++ printed_part own = c.in_ok-name.ensures ∙ c.as_str.ensures.value ∙ c.in_ok-text.ensures ∙ ap (λ p. p ++ printed_part own) is.prefix in
    adds-shown pins e made new c.unwrap_or.result (number ∙ many ∙ signals-counted pins old e sh) (subst (λ i. i < 1048576) (sym number) few)
    (added-shows pins old new e c.entry.result c.signal.result made sh refl c.in_ok-push.ensures.pushed c.in_ok-push-2.ensures.pushed (c.signal.ensures at own c.args.kind c.args.is_open named placed narrow)
    (record {
      seen = c.entry.ensures.shown at narrow ∙ ap (λ x. shown (entry at c.args.kind r c.args.is_open x)) c.in_ok-own.ensures;
      may_repeat = c.entry.ensures.may_repeat;
      reset = c.entry.ensures.reset;
      start = c.entry.ensures.start;
      known = c.entry.ensures.known;
      value = c.entry.ensures.value;
      no_reset = refl;
    }))
