-- Each root's walk against the links adds the vertices that lead to it and back.
use Rattle.std.proofs.Common.{◌≡◌, ◌∙◌, sym, ap, subst, rules, [], ◌∷◌, ◌++◌, append_assoc, append-nil, Some, slice_get, length, false}
use Rattle.std.proofs.lemmas.List.{length-replicate}
use Rattle.driver_loops.proofs.Components.{HasJoined, joining_begun, loop_joined, other_joined, all_marked, added_behind, get_middle}
use Rattle.driver_loops.proofs.walk.loops_against.Goals as goal

pub loop-root-init : goal.loop-root-init
loop-root-init c = record {
  size = ap length c.in_ok-on_loops.ensures ∙ length-replicate c.len-2.result false ∙ c.len-2.ensures;
  front = ([], sym (append-nil c.args.order.now));
  joined = λ roots is reversed.
      joining_begun c.args.links.now c.args.back.now roots c.args.order.now is reversed.size reversed.turned c.in_ok-walk.walk c.len.result c.len-2.result c.in_ok-on_loops.on_loops.items c.len.ensures
      c.in_ok-walk.ensures.entered c.in_ok-walk.ensures.way c.in_ok-walk.ensures.order c.in_ok-on_loops.ensures;
}

pub loop-root-preserved-then-are_on_loop : goal.loop-root-preserved-then-are_on_loop
loop-root-preserved-then-are_on_loop c =
    let ls = c.args.links.now in
    let back = c.args.back.now in
    let o = c.args.order.now in
    let walk = c.loop-root.walk in
    let marks = c.loop-root.on_loops.items in
    let added = c.behind-added.result.now in
    let rest = c.in-Some.rest.now in
    let r = c.in-Some.root.now in
    let f = c.loop-root.invariant.front in
    let front : o ≡ rest ++ r ∷ f.0 = f.1 ∙ ap (λ xs. xs ++ f.0) c.in-Some.ensures.cases.0 ∙ append_assoc rest (r ∷ []) f.0 in
    let at : slice_get o (length rest) ≡ Some r = ap (λ xs. slice_get xs (length rest)) front ∙ get_middle rest r f.0 in
    let count : c.len-from.result ≡ length walk.order.items = search rules in
    record {
      size = c.mark_all.ensures.size ∙ c.loop-root.invariant.size;
      front = (r ∷ f.0, front);
      joined = λ roots is reversed.
          let old = subst (λ n. HasJoined ls back o n walk marks) (sym c.in-Some.ensures.cases.1) (c.loop-root.invariant.joined roots is reversed) in
          let more = c.in_ok-go.ensures.longer old.way old.done in
          let longer : c.go.new.self.order.items ≡ walk.order.items ++ added =
          added_behind walk.order.items c.go.new.self.order.items more.0 c.as_slice.result.now c.len-from.result count more.1 c.as_slice.ensures.value
          ∙ ap (λ xs. walk.order.items ++ xs) (sym c.behind-added.ensures) in
          loop_joined ls back roots o is reversed.size reversed.turned (length rest) r at walk c.go.new.self marks c.loop-root.invariant.size old added longer
          c.in_ok-go.ensures.way (c.in_ok-go.ensures.done old.way old.done) (c.in_ok-go.ensures.reached old.way old.done)
          c.mark_all.new.marks.items (c.are_on_loop.ensures.0 c.if-are_on_loop.true) c.mark_all.ensures.exact;
    }

pub loop-root-preserved : goal.loop-root-preserved
loop-root-preserved c =
    let ls = c.args.links.now in
    let back = c.args.back.now in
    let o = c.args.order.now in
    let walk = c.loop-root.walk in
    let marks = c.loop-root.on_loops.items in
    let added = c.behind-added.result.now in
    let rest = c.in-Some.rest.now in
    let r = c.in-Some.root.now in
    let f = c.loop-root.invariant.front in
    let front : o ≡ rest ++ r ∷ f.0 = f.1 ∙ ap (λ xs. xs ++ f.0) c.in-Some.ensures.cases.0 ∙ append_assoc rest (r ∷ []) f.0 in
    let at : slice_get o (length rest) ≡ Some r = ap (λ xs. slice_get xs (length rest)) front ∙ get_middle rest r f.0 in
    let count : c.len-from.result ≡ length walk.order.items = search rules in
    record {
      size = c.loop-root.invariant.size;
      front = (r ∷ f.0, front);
      joined = λ roots is reversed.
          let old = subst (λ n. HasJoined ls back o n walk marks) (sym c.in-Some.ensures.cases.1) (c.loop-root.invariant.joined roots is reversed) in
          let more = c.in_ok-go.ensures.longer old.way old.done in
          let longer : c.go.new.self.order.items ≡ walk.order.items ++ added =
          added_behind walk.order.items c.go.new.self.order.items more.0 c.as_slice.result.now c.len-from.result count more.1 c.as_slice.ensures.value
          ∙ ap (λ xs. walk.order.items ++ xs) (sym c.behind-added.ensures) in
          other_joined ls back roots o is reversed.size reversed.turned (length rest) r at walk c.go.new.self marks c.loop-root.invariant.size old added longer
          c.in_ok-go.ensures.way (c.in_ok-go.ensures.done old.way old.done) (c.in_ok-go.ensures.reached old.way old.done)
          (λ test. absurd (let t = c.are_on_loop.ensures.1 test in cc));
    }

pub returns-clause-exact : goal.returns-clause-exact
returns-clause-exact c = λ roots is reversed.
    let none : length c.loop-root.left.now ≡ 0 = c.in_default.ensures.cases in
    all_marked c.args.links.now c.args.back.now roots c.args.order.now is reversed.size reversed.turned c.loop-root.walk c.loop-root.on_loops.items
    (subst (λ n. HasJoined c.args.links.now c.args.back.now c.args.order.now n c.loop-root.walk c.loop-root.on_loops.items) none (c.loop-root.invariant.joined roots is reversed))
