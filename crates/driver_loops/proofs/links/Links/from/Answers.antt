-- A vertex's ends stand between its start and the next one's.
use Rattle.std.proofs.Common.{◌≡◌, ◌∙◌, sym, ap, ap₂, length, rules, arith, suc, add-one}
use Rattle.std.specs.Prelude.{slice_range}
use Rattle.driver_loops.specs.Links.{ends_of, start_at}
use Rattle.driver_loops.proofs.Rows.{row_is, start-within, starts-ascend}
use Rattle.driver_loops.proofs.links.Links.from.Goals as goal

pub part-requires : goal.part-requires
part-requires c =
    let ss = c.self.inside.starts.items in
    let es = c.self.inside.ends.items in
    let low : c.start-low.result ≡ start_at ss c.args.vertex (length es) = search rules in
    let high : c.start-high.result ≡ start_at ss (suc c.args.vertex) (length es) = search (rules, add-one) in
    let a = starts-ascend ss (length es) c.args.vertex c.self.invariant in
    let w = start-within ss (length es) (suc c.args.vertex) c.self.invariant in
    let e : length c.as_slice-3.result.now ≡ length es = search rules in
    (omega arith, omega arith)

pub returns : goal.returns
returns c =
    let ss = c.self.inside.starts.items in
    let es = c.self.inside.ends.items in
    let low : c.start-low.result ≡ start_at ss c.args.vertex (length es) = search rules in
    let high : c.start-high.result ≡ start_at ss (suc c.args.vertex) (length es) = search (rules, add-one) in
    let is : c.as_slice-3.result.now ≡ es = search rules in
    c.part.ensures ∙ ap (λ xs. slice_range xs c.start-low.result c.start-high.result) is ∙ ap₂ (slice_range es) low high
    ∙ sym (row_is ss es c.args.vertex) ∙ ap (λ ls. ends_of ls c.args.vertex) c.self.view_is
