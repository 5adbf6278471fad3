use Rattle.std.proofs.Common.{◌≡◌, ◌+◌, ◌<◌, ◌≤◌, ◌++◌, Err, length, get_or, rules, ap, sym, ◌∙◌, subst}
use Rattle.std.specs.Prelude.{option_map}
use Rattle.cdc_base.specs.declared.fault.Place.{Place}
use Rattle.verilog_reading.specs.SourceTree.{ParamTree, param_of as tree_of_param, module_of}
use Rattle.flat_unfolding.specs.Outcome.{good, each}
use Rattle.flat_unfolding.specs.Parameters.{parameter, parameters}
use Rattle.flat_unfolding.specs.Formed.{IsParamFormed}
use Rattle.flat_unfolding.proofs.Formed.{params_formed}
use Rattle.flat_declarations.specs.Declaring.{MeetsFit, override_of, IsGivenSized}
use Rattle.flat_declarations.proofs.Ended.{then-good, walk-ok, walk-err, walk-skip, walk-end, IsWalk, walk-begin, walk-on}
use Rattle.flat_declarations.proofs.Walks.{params_left, inner_left, params-next, params-done, inner-next, inner-done, a-param, no-param, all-inner}
use Rattle.flat_declarations.proofs.parameter.add_parameters.Goals as goal
use Rattle.flat_declarations.proofs.parameter.add_parameters.Goals.{in-Param+in_ok-add_parameter-2, in_default}

pub returns-in_err-add_parameter-clause-exact : goal.returns-in_err-add_parameter-clause-exact
returns-in_err-add_parameter-clause-exact c = λ pins s given sh is so fo formed.
    let m = c.args.module.now in let x = c.param-item.result in let i = c.loop-param.param-index in let at = c.as_slice-param-items.ensures in
    let same : c.from_residual.result ≡ Err c.in_err-add_parameter.field-0.0 = search rules in
    subst (λ r. MeetsFit pins c.add_parameter.new.names (parameters given (module_of m) s) r c.args.design.now) (sym same)
    (walk-err pins (parameters given (module_of m) s) (parameter given) (λ t. good t) (λ (q : Place × ParamTree). IsParamFormed q.1) c.loop-param.names c.add_parameter.new.names c.args.design.now c.args.design.now
    (params_left m i) (params_left m (i + 1)) (m.place, tree_of_param x) c.in_err-add_parameter.field-0.0
    (params-next m i x (subst (λ xs. i < length xs) at c.loop-param-test.true) (subst (λ xs. x ≡ get_or xs i x) at c.param-item.is)) (c.loop-param.invariant pins s given sh is so fo formed)
    (λ f t th tf. c.in_err-add_parameter.ensures.exact pins t given th tf fo f (ap (option_map override_of) c.get-outer.ensures.value ∙ so.found x.name) (subst IsGivenSized (sym c.get-outer.ensures.value) (so.sized x.name))))

pub loop-param-preserved : goal.loop-param-preserved
loop-param-preserved c = λ pins s given sh is so fo formed.
    let m = c.args.module.now in let x = c.param-item.result in let i = c.loop-param.param-index in let at = c.as_slice-param-items.ensures in
    walk-ok pins (parameters given (module_of m) s) (parameter given) (λ t. good t) (λ (q : Place × ParamTree). IsParamFormed q.1) c.loop-param.names c.add_parameter.new.names c.args.design.now c.args.design.now
    (params_left m i) (params_left m (i + 1)) (m.place, tree_of_param x) tt
    (params-next m i x (subst (λ xs. i < length xs) at c.loop-param-test.true) (subst (λ xs. x ≡ get_or xs i x) at c.param-item.is)) (c.loop-param.invariant pins s given sh is so fo formed)
    (λ f t th tf. c.in_ok-add_parameter.ensures.exact pins t given th tf fo f (ap (option_map override_of) c.get-outer.ensures.value ∙ so.found x.name) (subst IsGivenSized (sym c.get-outer.ensures.value) (so.sized x.name)))

pub loop-param-init : goal.loop-param-init
loop-param-init c = λ pins s given sh is so fo formed.
    let m = c.args.module.now in
    walk-begin pins (parameter given) (λ t. good t) (λ (q : Place × ParamTree). IsParamFormed q.1) c.args.names.now c.args.design.now s (params_left m 0) (parameters given (module_of m) s)
    (sym (then-good (each (parameter given) s (params_left m 0)))) sh is (params_formed (module_of m) formed)

pub loop-item-init : goal.loop-item-init
loop-item-init c = λ pins s given sh is so fo formed.
    walk-begin pins (parameter given) (λ t. good t) (λ (q : Place × ParamTree). IsParamFormed q.1) c.loop-param.names c.args.design.now s (inner_left c.args.module.now 0) (each (parameter given) s (inner_left c.args.module.now 0))
    (sym (then-good (each (parameter given) s (inner_left c.args.module.now 0)))) sh is (all-inner c.args.module.now formed)

pub returns-in_err-add_parameter-2-clause-exact : goal.returns-in_err-add_parameter-2-clause-exact
returns-in_err-add_parameter-2-clause-exact c = λ pins s given sh is so fo formed.
    let m = c.args.module.now in let x = c.item-item.result in let q = c.in-Param.param in let i = c.loop-item.item-index in let at = c.as_slice-item-items.ensures in let value = c.get-outer-in-Param.ensures.value in
    let same : c.from_residual-in_err-add_parameter-2.result ≡ Err c.in_err-add_parameter-2.field-0.0 = search rules in
    let w = walk-on pins (parameters given (module_of m) s) (parameter given) (λ t. good t) (λ (q : Place × ParamTree). IsParamFormed q.1) c.loop-param.names c.args.design.now (params_left m c.loop-param.param-index) (inner_left m 0)
    (params-done m c.loop-param.param-index (subst (λ xs. length xs ≤ c.loop-param.param-index) c.as_slice-param-items.ensures c.loop-param-test.false)) (c.loop-param.invariant pins s given sh is so fo formed) in
    subst (λ r. MeetsFit pins c.add_parameter-in-Param.new.names (parameters given (module_of m) s) r c.args.design.now) (sym same)
    (subst (λ o. MeetsFit pins c.add_parameter-in-Param.new.names o (Err c.in_err-add_parameter-2.field-0.0) c.args.design.now) (sym (w.1 ∙ then-good (each (parameter given) w.0 (inner_left m 0))))
    (walk-err pins (each (parameter given) w.0 (inner_left m 0)) (parameter given) (λ t. good t) (λ (q : Place × ParamTree). IsParamFormed q.1) c.loop-item.names c.add_parameter-in-Param.new.names c.args.design.now c.args.design.now
    (inner_left m i) (inner_left m (i + 1)) (x.place, tree_of_param q) c.in_err-add_parameter-2.field-0.0
    (inner-next m i x (subst (λ xs. i < length xs) at c.loop-item-test.true) (subst (λ xs. x ≡ get_or xs i x) at c.item-item.is) ∙ ap (λ ps. ps ++ inner_left m (i + 1)) (a-param x q c.in-Param.is))
    (c.loop-item.invariant pins w.0 given w.2 w.3 so fo formed)
    (λ f t th tf. c.in_err-add_parameter-2.ensures.exact pins t given th tf fo f (ap (option_map override_of) value ∙ so.found q.name) (subst IsGivenSized (sym value) (so.sized q.name)))))

pub loop-item-preserved : goal.loop-item-preserved
loop-item-preserved c = λ pins s given sh is so fo formed.
    let m = c.args.module.now in let x = c.item-item.result in let i = c.loop-item.item-index in let at = c.as_slice-item-items.ensures in
    let next = inner-next m i x (subst (λ xs. i < length xs) at c.loop-item-test.true) (subst (λ xs. x ≡ get_or xs i x) at c.item-item.is) in
    let o = each (parameter given) s (inner_left m 0) in
    elim c.match-item.branch [
      | in-Param+in_ok-add_parameter-2 w ↦
          let q = w.in-Param.param in let value = w.get-outer-in-Param.ensures.value in
          subst (λ names. IsWalk pins o (parameter given) (λ t. good t) (λ (q : Place × ParamTree). IsParamFormed q.1) names c.args.design.now (inner_left m (i + 1))) (sym w.names-is)
          (walk-ok pins o (parameter given) (λ t. good t) (λ (q : Place × ParamTree). IsParamFormed q.1) c.loop-item.names w.add_parameter-in-Param.new.names c.args.design.now c.args.design.now
          (inner_left m i) (inner_left m (i + 1)) (x.place, tree_of_param q) tt (next ∙ ap (λ ps. ps ++ inner_left m (i + 1)) (a-param x q w.in-Param.is)) (c.loop-item.invariant pins s given sh is so fo formed)
          (λ f t th tf. w.in_ok-add_parameter-2.ensures.exact pins t given th tf fo f (ap (option_map override_of) value ∙ so.found q.name) (subst IsGivenSized (sym value) (so.sized q.name))))
      | in_default w ↦
          subst (λ names. IsWalk pins o (parameter given) (λ t. good t) (λ (q : Place × ParamTree). IsParamFormed q.1) names c.args.design.now (inner_left m (i + 1))) (sym w.names-is)
          (walk-skip pins o (parameter given) (λ t. good t) (λ (q : Place × ParamTree). IsParamFormed q.1) c.loop-item.names c.args.design.now (inner_left m i) (inner_left m (i + 1))
          (next ∙ ap (λ ps. ps ++ inner_left m (i + 1)) (no-param x w.in_default.not-Param)) (c.loop-item.invariant pins s given sh is so fo formed))
    ]

pub returns-clause-exact : goal.returns-clause-exact
returns-clause-exact c = λ pins s given sh is so fo formed.
    let m = c.args.module.now in
    let w = walk-on pins (parameters given (module_of m) s) (parameter given) (λ t. good t) (λ (q : Place × ParamTree). IsParamFormed q.1) c.loop-param.names c.args.design.now (params_left m c.loop-param.param-index) (inner_left m 0)
    (params-done m c.loop-param.param-index (subst (λ xs. length xs ≤ c.loop-param.param-index) c.as_slice-param-items.ensures c.loop-param-test.false)) (c.loop-param.invariant pins s given sh is so fo formed) in
    let o = each (parameter given) w.0 (inner_left m 0) in
    let z = walk-end pins o (parameter given) (λ t. good t) (λ (q : Place × ParamTree). IsParamFormed q.1) c.loop-item.names c.args.design.now (inner_left m c.loop-item.item-index)
    (inner-done m c.loop-item.item-index (subst (λ xs. length xs ≤ c.loop-item.item-index) c.as_slice-item-items.ensures c.loop-item-test.false)) (c.loop-item.invariant pins w.0 given w.2 w.3 so fo formed) in
    (z.0, w.1 ∙ then-good o ∙ z.1, z.2, z.3)
