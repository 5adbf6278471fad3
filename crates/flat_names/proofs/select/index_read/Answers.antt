use Rattle.std.proofs.Common.{◌≡◌, ◌++◌, true, Some, None, refl, sym, ap, ◌∙◌}
use Rattle.flat_unfolding.specs.Outcome.{breaks_if}
use Rattle.flat_unfolding.specs.Names.{Meaning, a_param, a_signal, a_memory, meaning}
use Rattle.flat_names.specs.declared.scope.Meaning.TheVariants as m
use Rattle.flat_names.specs.Looks.{param_of, memory_of}
use Rattle.flat_names.specs.Selects.{index_of}
use Rattle.flat_names.proofs.Selected.{select-as, means, means-nothing, never-no_value, index-all, index-done, index-unknown}
use Rattle.flat_names.proofs.select.index_read.Goals as goal

pub returns-in-Some-Param : goal.returns-in-Some-Param
returns-in-Some-Param c = λ l t h f is.
    let x = c.args.name.now in let p = param_of c.in-Some-Param.param in
    let v : Meaning = a_param p in
    let e : meaning l x ≡ Some v = means c.args.look.now l h x (Some (m.Param c.in-Some-Param.param)) (sym (c.in-Some-Param.is ∙ ap Some c.in-Some-Param.field-0-is) ∙ c.meaning.ensures) in
    index-all l x t c.args.index c.args.faults.now (Some v) c.index_of_parameter.new.faults c.index_of_parameter.result e (c.index_of_parameter.ensures l t (f.params x p e) is)

pub returns-in-Some-Signal : goal.returns-in-Some-Signal
returns-in-Some-Signal c = λ l t h f is.
    let x = c.args.name.now in let s = c.in-Some-Signal.sig in
    let v : Meaning = a_signal s in
    let e : meaning l x ≡ Some v = means c.args.look.now l h x (Some (m.Signal s)) (sym (c.in-Some-Signal.is ∙ ap Some c.in-Some-Signal.field-0-is) ∙ c.meaning.ensures) in
    index-all l x t c.args.index c.args.faults.now (Some v) c.index_of_signal.new.faults c.index_of_signal.result e (c.index_of_signal.ensures l t h f (f.signals x s e) is)

pub returns-in-Some-Memory : goal.returns-in-Some-Memory
returns-in-Some-Memory c = λ l t h f is.
    let k = c.args.look.now in let x = c.args.name.now in let a = c.in-Some-Memory.memory in
    let v : Meaning = a_memory (memory_of a) in
    let i = c.in-Some-Memory.is ∙ ap Some c.in-Some-Memory.field-0-is in
    let e : meaning l x ≡ Some v = means k l h x (Some (m.Memory a)) (sym i ∙ c.meaning.ensures) in
    index-all l x t c.args.index c.args.faults.now (Some v) c.index_of_memory.new.faults c.index_of_memory.result e
    (c.index_of_memory.ensures l t h f (f.memories x (memory_of a) e).1 is)

pub returns-in-Some-NoValue : goal.returns-in-Some-NoValue
returns-in-Some-NoValue c = λ l t h f is.
    let k = c.args.look.now in let x = c.args.name.now in let old = c.args.faults.now in
    let e = means-nothing k l h x (never-no_value k x c.meaning.result c.meaning.ensures (c.in-Some-NoValue.is ∙ ap Some c.in-Some-NoValue.field-0-is)) in
    index-done l x t c.args.index old None old c.broken.result e (select-as (breaks_if true 305 x ++ t.broken) (index_of l x t None) old old old c.broken.result _ refl c.broken.ensures (index-unknown l x t c.args.index old is))

pub returns-in-None : goal.returns-in-None
returns-in-None c = λ l t h f is.
    let k = c.args.look.now in let x = c.args.name.now in let old = c.args.faults.now in
    let e = means-nothing k l h x (sym c.meaning.ensures ∙ c.in-None.is) in
    index-done l x t c.args.index old None old c.broken-in-None.result e (select-as (breaks_if true 305 x ++ t.broken) (index_of l x t None) old old old c.broken-in-None.result _ refl c.broken-in-None.ensures (index-unknown l x t c.args.index old is))
