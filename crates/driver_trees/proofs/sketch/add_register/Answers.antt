-- A register has its next value and its clock.
use Rattle.std.proofs.Common.{rules, ◌≡◌, ◌<◌, ◌≤◌, ℕ, List, All, Some, true, [], ◌∷◌, ◌++◌, sym, ap, subst, ◌∙◌, arith}
use Rattle.std.proofs.lemmas.List.Elements.{All-push}
use Rattle.cell_graph.specs.Nets.{is_register as register_kind}
use Rattle.flat_meaning.specs.Design.{kind_in, kind_is_variable}
use Rattle.driver_trees.specs.declared.sketch.Register.{Register}
use Rattle.driver_trees.specs.Sketched.{next_in, clock_in, IsRegisterOf}
use Rattle.driver_trees.proofs.Growing.{ok-map}
use Rattle.driver_trees.proofs.Registers.{register_variable, registers_grow}
use Rattle.driver_trees.proofs.sketch.add_register.Goals as goal

pub returns-clause-exact : goal.returns-clause-exact
returns-clause-exact c = λ wid signals all drafts words at width some nexts done.
    let p = c.args.place in let s = c.in_ok-sig.sig in let ds = c.args.drafts.now in let es = c.next_of.new.drafts in let signal = c.args.signal.now in let old = c.args.registers.now.items in
    let same : s ≡ p = c.in_ok-sig.ensures in
    let kind : register_kind signal.kind ≡ true = search rules in
    let small = words p in
    let r = c.in_ok-next.ensures.exact wid all drafts (width ∙ ap wid (sym same)) some (omega (arith, width, small)) nexts in
    let one : Register = record { sig = s; next = c.in_ok-next.next; clock = c.in_ok-next.clock } in
    ok-map c.push.result (λ u e. (
      r.0,
      subst (All (λ r. IsRegisterOf wid signals es r (next_in wid all) (clock_in all))) (sym e)
          (All-push (λ r. IsRegisterOf wid signals es r (next_in wid all) (clock_in all)) old one (registers_grow wid signals ds es r.0 old (next_in wid all) (clock_in all) done)
          (record { is_variable = ap (λ n. kind_is_variable (kind_in signals n)) same ∙ register_variable signals p signal at kind; given = r.1 })),
    )) c.push.ensures
