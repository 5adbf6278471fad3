use Rattle.std.proofs.Common.{◌≡◌, List, true, map, refl, sym, ap, ◌∙◌}
use Rattle.std.specs.List.{list_any}
use Rattle.flat_unfolding.specs.Instances.{is_short}
use Rattle.flat_unfolding.specs.Design.{Stage}
use Rattle.flat_names.specs.Designs.{ShowsStage}
use Rattle.flat_design.specs.declared.instance.Leaning.{Leaning}
use Rattle.flat_design.specs.Visiting.{leaning_in}
use Rattle.flat_design.proofs.Taken.{closed-short, closed-wide, first-short, then-short}
use Rattle.flat_design.proofs.visit.try_given.Goals as goal
use Rattle.flat_design.proofs.visit.try_given.Goals.{then-has_short-via-then-has_short, then-has_short-via-else-has_short+then-has_short-2}

pub returns-then-has_short-clause-exact : goal.returns-then-has_short-clause-exact
returns-then-has_short-clause-exact c = λ pins f d h shown fit.
    let modules = c.args.library.now.modules.now in let o = c.args.open.now in
    let s : Stage = record { names = f.names; design = d } in
    let shows : ShowsStage pins o.names c.args.design.now s = record { names = h.names; design = shown } in
    let first : c.has_short.result ≡ list_any (is_short s) (map leaning_in o.given.params.items) =
    c.has_short.ensures pins s shows fit ∙ ap (λ (gs : List Leaning). list_any (is_short s) (map leaning_in gs)) c.as_slice-params.ensures.value in
    let short : true ≡ list_any (is_short s) f.given = elim c.then-has_short.branch [
      | then-has_short-via-then-has_short w ↦ first-short modules o f h s c.has_short.result first w.if-has_short.true
      | then-has_short-via-else-has_short+then-has_short-2 w ↦
          sym w.if-has_short-2.true ∙ then-short modules o f h s c.has_short.result w.has_short-else-has_short.result first w.if-has_short.false
          (w.has_short-else-has_short.ensures pins s shows fit ∙ ap (λ (gs : List Leaning). list_any (is_short s) (map leaning_in gs)) c.as_slice-ports.ensures.value)
    ] in
    closed-short modules o f h s true short refl c.name.result.now c.name.ensures c.refused.result c.refused.ensures.exact

pub returns-clause-exact : goal.returns-clause-exact
returns-clause-exact c = λ pins f d h shown fit.
    let modules = c.args.library.now.modules.now in let o = c.args.open.now in
    let s : Stage = record { names = f.names; design = d } in
    let shows : ShowsStage pins o.names c.args.design.now s = record { names = h.names; design = shown } in
    let first : c.has_short.result ≡ list_any (is_short s) (map leaning_in o.given.params.items) =
    c.has_short.ensures pins s shows fit ∙ ap (λ (gs : List Leaning). list_any (is_short s) (map leaning_in gs)) c.as_slice-params.ensures.value in
    closed-wide modules o f h s c.has_short-else-has_short.result
    (then-short modules o f h s c.has_short.result c.has_short-else-has_short.result first c.if-has_short.false
    (c.has_short-else-has_short.ensures pins s shows fit ∙ ap (λ (gs : List Leaning). list_any (is_short s) (map leaning_in gs)) c.as_slice-ports.ensures.value)) c.if-has_short-2.false
