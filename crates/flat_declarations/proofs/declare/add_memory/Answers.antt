use Rattle.std.proofs.Common.{◌≡◌, suc, ◌+◌, ◌^◌, ◌<◌, ◌≤◌, ◌==◌, false, cond, length, Some, Ok, Err, refl, ap, sym, subst, ◌∙◌, arith, rules}
use Rattle.std.specs.Prelude.{option_map}
use Rattle.std.specs.Cmp.Lexicographic.{pointwise}
use Rattle.verilog_reading.specs.SourceTree.{decl_of}
use Rattle.flat_unfolding.specs.Names.{word_name}
use Rattle.flat_unfolding.specs.Declarations.{entry, add_memory}
use Rattle.flat_names.specs.declared.scope.Memory.{Memory}
use Rattle.flat_names.specs.declared.scope.Meaning.TheVariants as m
use Rattle.flat_names.specs.Looks.{range_of, kept_in}
use Rattle.flat_names.specs.Designs.{ShowsStage, Meets}
use Rattle.flat_declarations.specs.Declaring.{Adds}
use Rattle.flat_declarations.proofs.Tables.{signals-counted}
use Rattle.flat_declarations.proofs.Added.{with_words, next-word, word-err, memory-ok, memory-many}
use Rattle.flat_declarations.proofs.Declares.{depth-small}
use Rattle.flat_declarations.proofs.declare.add_memory.Goals as goal

pub returns-then-unwrap_or-room-clause-exact : goal.returns-then-unwrap_or-room-clause-exact
returns-then-unwrap_or-room-clause-exact c = λ pins s at sh here placed narrow free deep untaken.
    let x = decl_of c.args.decl.now in let old = c.args.design.now in
    let words : c.unwrap_or.result ≡ c.args.words = search rules in
    let len : c.len.result ≡ length old.signals.items = search rules in
    let room = c.saturating_sub-room.ensures in let over = c.if-unwrap_or-room.true in
    let counted = signals-counted pins old s.design sh.design in
    memory-many s at x (option_map range_of c.args.bounds) pins c.args.names.now old c.args.words c.refused.result (omega (arith, words, len, room, over, counted)) c.refused.ensures.exact

pub returns-in_err-add_signal-clause-exact : goal.returns-in_err-add_signal-clause-exact
returns-in_err-add_signal-clause-exact c = λ pins s at sh here placed narrow free deep untaken.
    let x = decl_of c.args.decl.now in let r = option_map range_of c.args.bounds in let old = c.args.design.now in let k = c.loop-k.k in let d = c.add_signal.new.design in let stop = c.in_err-add_signal.field-0.0 in
    let words : c.unwrap_or.result ≡ c.args.words = search rules in
    let len : c.len.result ≡ length old.signals.items = search rules in
    let room = c.saturating_sub-room.ensures in let within = c.if-unwrap_or-room.false in
    let counted = signals-counted pins old s.design sh.design in
    let small = depth-small c.args.words deep in
    let most : length s.design.entries + c.args.words ≤ 1048576 = omega (arith, words, len, room, within, counted, small) in
    let stage = with_words s at x r k in
    let shown = c.loop-k.invariant pins s at sh here placed narrow deep untaken in
    let word = c.as_str-name.ensures.value ∙ c.in_ok-word.ensures ∙ ap (λ y. word_name y k) c.as_str.ensures in
    let same : c.from_residual-in_err-add_signal.result ≡ Err stop = search rules in
    subst (λ q. Meets pins c.loop-k.names (add_memory s at x r c.args.words) q d) (sym same) (word-err s at x r pins c.loop-k.names d c.args.words k stop most c.loop-k-test.true
    (subst (λ y. Adds pins stage.design (entry at x.kind r false y) (Err stop) d) word (c.in_err-add_signal.ensures.exact pins stage.design at shown.design here placed narrow)))

pub loop-k-preserved : goal.loop-k-preserved
loop-k-preserved c = λ pins s at sh here placed narrow deep untaken.
    let x = decl_of c.args.decl.now in let r = option_map range_of c.args.bounds in let k = c.loop-k.k in let d = c.add_signal.new.design in let sig = c.in_ok-add_signal.field-0 in
    let stage = with_words s at x r k in
    let shown = c.loop-k.invariant pins s at sh here placed narrow deep untaken in
    let word = c.as_str-name.ensures.value ∙ c.in_ok-word.ensures ∙ ap (λ y. word_name y k) c.as_str.ensures in
    let more : suc k ≡ k + 1 = omega arith in
    subst (λ i. ShowsStage pins c.define.new.names d (with_words s at x r i)) more
    (next-word s at x r pins c.loop-k.names c.define.new.names c.loop-k.design d c.args.words k sig shown (depth-small c.args.words deep).1 c.loop-k-test.true untaken
    (subst (λ y. Adds pins stage.design (entry at x.kind r false y) (Ok sig) d) word (c.in_ok-add_signal.ensures.exact pins stage.design at shown.design here placed narrow))
    (λ y. c.in_ok-define.ensures y ∙ ap (λ z. cond (pointwise ◌==◌ z y) (Some m.NoValue) (kept_in c.loop-k.names y)) word))

pub returns-clause-exact : goal.returns-clause-exact
returns-clause-exact c = λ pins s at sh here placed narrow free deep untaken.
    let x = decl_of c.args.decl.now in let r = option_map range_of c.args.bounds in let old = c.args.design.now in let d = c.loop-k.design in
    let words : c.unwrap_or.result ≡ c.args.words = search rules in
    let len : c.len.result ≡ length old.signals.items = search rules in
    let len_2 : c.len-2.result ≡ length old.signals.items = search rules in
    let room = c.saturating_sub-room.ensures in let within = c.if-unwrap_or-room.false in
    let counted = signals-counted pins old s.design sh.design in
    let small = depth-small c.args.words deep in
    let most : length s.design.entries + c.args.words ≤ 1048576 = omega (arith, words, len, room, within, counted, small) in
    let few : c.len-2.result < 2 ^ 32 = omega (arith, most, counted, len_2) in
    let first : c.unwrap_or-first.result ≡ c.len-2.result = search (rules, few) in
    let memory : Memory = record { first = c.unwrap_or-first.result; words = c.args.words } in
    let last : c.loop-k.k ≡ c.args.words = let a = c.loop-k-test.false in let b = c.loop-k.auto.k-end in omega (arith, a, b) in
    let shown = c.loop-k.invariant pins s at sh here placed narrow deep untaken in
    memory-ok s at x r pins c.loop-k.names c.define-2.new.names d c.args.words memory tt (subst (λ k. ShowsStage pins c.loop-k.names d (with_words s at x r k)) last shown) free most
    (first ∙ len_2 ∙ counted) refl
    (λ y. c.in_ok-define-2.ensures y ∙ ap (λ z. cond (pointwise ◌==◌ z y) (Some (m.Memory memory)) (kept_in c.loop-k.names y)) c.as_str-2.ensures)
