use Rattle.std.proofs.Common.{◌≡◌, Some, None, is_some, refl, sym, ap, ◌∙◌}
use Rattle.std.specs.Prelude.{option_map}
use Rattle.flat_unfolding.specs.Names.{Meaning, a_param, a_signal, a_memory, meaning}
use Rattle.flat_names.specs.declared.scope.Meaning.TheVariants as m
use Rattle.flat_names.specs.Looks.{range_of, param_of, memory_of}
use Rattle.flat_names.specs.Selects.{part_at}
use Rattle.flat_names.proofs.Selected.{select-as, missed, some-map, means, means-nothing, never-no_value, part_broken, part-bounds, part-all, part-done, part-memory, part-unknown}
use Rattle.flat_names.proofs.select.part_read.Goals as goal

pub returns-in-Some-Param : goal.returns-in-Some-Param
returns-in-Some-Param c = λ l t u h f a b.
    let x = c.args.name.now in let o = c.in_ok-bounds.bounds in let g = c.in_ok-bounds.ensures t u a b in let p = param_of c.in-Some-Param.param in
    let v : Meaning = a_param p in
    let e : meaning l x ≡ Some v = means c.args.look.now l h x (Some (m.Param c.in-Some-Param.param)) (sym (c.in-Some-Param.is ∙ ap Some c.in-Some-Param.field-0-is) ∙ c.meaning.ensures) in
    part-all l x c.args.kind t u (Some v) (option_map range_of o) c.args.faults.now c.part_numbers.new.faults c.part_of_parameter.new.faults c.part_of_parameter.result e g.0 g.1
    (c.part_of_parameter.ensures l (part_broken x c.args.kind (Some v) t u) (f.params x p e) (part-bounds x c.args.kind v t u ∙ ap is_some (sym g.0) ∙ sym (some-map range_of o)))

pub returns-in-Some-Signal : goal.returns-in-Some-Signal
returns-in-Some-Signal c = λ l t u h f a b.
    let x = c.args.name.now in let o = c.in_ok-bounds.bounds in let g = c.in_ok-bounds.ensures t u a b in let s = c.in-Some-Signal.sig in
    let v : Meaning = a_signal s in
    let e : meaning l x ≡ Some v = means c.args.look.now l h x (Some (m.Signal s)) (sym (c.in-Some-Signal.is ∙ ap Some c.in-Some-Signal.field-0-is) ∙ c.meaning.ensures) in
    part-all l x c.args.kind t u (Some v) (option_map range_of o) c.args.faults.now c.part_numbers.new.faults c.part_of_signal.new.faults c.part_of_signal.result e g.0 g.1
    (c.part_of_signal.ensures l (part_broken x c.args.kind (Some v) t u) h f (f.signals x s e) (part-bounds x c.args.kind v t u ∙ ap is_some (sym g.0) ∙ sym (some-map range_of o)))

pub returns-in_ok-note-in-Some-Memory : goal.returns-in_ok-note-in-Some-Memory
returns-in_ok-note-in-Some-Memory c = λ l t u h f a b.
    let x = c.args.name.now in let o = option_map range_of c.in_ok-bounds.bounds in let g = c.in_ok-bounds.ensures t u a b in let mid = c.part_numbers.new.faults in
    let v : Meaning = a_memory (memory_of c.in-Some-Memory.field-0-0) in
    let e : meaning l x ≡ Some v = means c.args.look.now l h x (Some (m.Memory c.in-Some-Memory.field-0-0)) (sym (c.in-Some-Memory.is ∙ ap Some c.in-Some-Memory.field-0-is) ∙ c.meaning.ensures) in
    let bs = part_broken x c.args.kind (Some v) t u in
    part-done l x c.args.kind t u (Some v) o c.args.faults.now mid c.note.new.self c.broken.result e g.0 g.1
    (select-as bs (part_at l x c.args.kind o (Some v)) mid c.note.new.self (missed mid 319 x) c.broken.result _ (c.in_ok-note-in-Some-Memory.ensures ∙ ap (missed mid 319) c.as_str.ensures) c.broken.ensures
    (part-memory l x c.args.kind bs mid (memory_of c.in-Some-Memory.field-0-0) o c.nothing.result c.nothing.ensures))

pub returns-in-Some-NoValue : goal.returns-in-Some-NoValue
returns-in-Some-NoValue c = λ l t u h f a b.
    let x = c.args.name.now in let o = option_map range_of c.in_ok-bounds.bounds in let g = c.in_ok-bounds.ensures t u a b in let mid = c.part_numbers.new.faults in
    let e = means-nothing c.args.look.now l h x (never-no_value c.args.look.now x c.meaning.result c.meaning.ensures (c.in-Some-NoValue.is ∙ ap Some c.in-Some-NoValue.field-0-is)) in
    let bs = part_broken x c.args.kind None t u in
    part-done l x c.args.kind t u None o c.args.faults.now mid mid c.broken-in-Some-NoValue.result e g.0 g.1
    (select-as bs (part_at l x c.args.kind o None) mid mid mid c.broken-in-Some-NoValue.result _ refl c.broken-in-Some-NoValue.ensures (part-unknown l x c.args.kind bs o c.nothing-in-Some-NoValue.result mid refl c.nothing-in-Some-NoValue.ensures))

pub returns-in-None : goal.returns-in-None
returns-in-None c = λ l t u h f a b.
    let x = c.args.name.now in let o = option_map range_of c.in_ok-bounds.bounds in let g = c.in_ok-bounds.ensures t u a b in let mid = c.part_numbers.new.faults in
    let e = means-nothing c.args.look.now l h x (sym c.meaning.ensures ∙ c.in-None.is) in
    let bs = part_broken x c.args.kind None t u in
    part-done l x c.args.kind t u None o c.args.faults.now mid mid c.broken-in-None.result e g.0 g.1
    (select-as bs (part_at l x c.args.kind o None) mid mid mid c.broken-in-None.result _ refl c.broken-in-None.ensures (part-unknown l x c.args.kind bs o c.nothing-in-None.result mid refl c.nothing-in-None.ensures))
