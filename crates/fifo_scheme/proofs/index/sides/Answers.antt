use Rattle.std.proofs.Common.{rules, arith, ◌≡◌, ◌∙◌, ◌++◌, ◌+◌, ◌∷◌, [], Option, not, get_or, subst, sym}
use Rattle.std.specs.HashSet as set
use Rattle.std.proofs.lemmas.Option.{slice_get-get_or}
use Rattle.std.specs.Option.{IfSome}
use Rattle.cdc_model.specs.declared.scheme.GrayReg.{GrayReg}
use Rattle.cdc_model.specs.declared.scheme.Shape.TheVariants.{G1}
use Rattle.cdc_model.proofs.Justify.{slice_in}
use Rattle.fifo_scheme.specs.contracts.index.NamesPartialEq.TheImpl as names
use Rattle.fifo_parts.specs.declared.side.Side.{Side}
use Rattle.fifo_parts.specs.Sides.{IsSomeSide}
use Rattle.fifo_scheme.proofs.SidesFound.{AreSidesBelow, in_take, met_more, names_of, sides_end, sides_met, sides_more, sides_none, unnot}
use Rattle.fifo_scheme.proofs.index.sides.Goals as goal
use Rattle.fifo_scheme.proofs.index.sides.Goals.{then-is_new+in_ok-side+in-Some+in_ok-map_err, then-is_new+in_ok-side+in_default, else-is_new}

abbrev nothing : GrayReg
nothing = record { gray = 0; count = 0; shape = G1 }

pub loop-gray-preserved : goal.loop-gray-preserved
loop-gray-preserved c =
    let net = c.args.net.now in
    let domains = c.args.domains.now in
    let grays = c.args.grays.now in
    let i = c.loop-gray.gray-index in
    let g = get_or grays i nothing in (
      λ shown.
          let old = c.loop-gray.invariant.0 shown in
          elim c.if-is_new.branch [
            | then-is_new+in_ok-side+in-Some+in_ok-map_err w ↦
                let s = w.in-Some.side in
                let reg : s.reg ≡ g = subst (λ (o : Option Side). IfSome o (λ (x : Side). x.reg ≡ g)) w.in-Some.is w.in_ok-side.ensures.reg in
                let some : IsSomeSide net domains s =
                subst (λ (o : Option Side). IfSome o (λ (x : Side). IsSomeSide net domains x)) w.in-Some.is
                (w.in_ok-side.ensures.sound shown.is_net shown.has_next shown.is_shared shown.shows c.in_ok-vars.ensures) in
                let e : w.push.new.self.items ≡ c.loop-gray.sides.items ++ s ∷ [] = search rules in
                subst (λ v. AreSidesBelow net domains grays (i + 1) v.items) (sym w.sides-is)
                (subst (AreSidesBelow net domains grays (i + 1)) (sym e)
                (sides_more net domains grays i nothing (omega arith) c.loop-gray.sides.items old s some reg
                (slice_in grays i g (slice_get-get_or grays i nothing (omega arith)))))
            | then-is_new+in_ok-side+in_default w ↦ subst (λ v. AreSidesBelow net domains grays (i + 1) v.items) (sym w.sides-is)
                (sides_none net domains grays i nothing (omega arith) c.loop-gray.sides.items old
                (w.in_ok-side.ensures.exact shown.is_net shown.has_next shown.is_shared shown.shows c.in_ok-vars.ensures w.in_default.is))
            | else-is_new w ↦
                let added : c.in_ok-is_new.is_new ≡ not (set.contains names.ghosts.eq c.loop-gray.met (names_of g)) = search rules in
                let met = unnot (set.contains names.ghosts.eq c.loop-gray.met (names_of g)) (sym added ∙ w.if-is_new.false) in
                subst (λ v. AreSidesBelow net domains grays (i + 1) v.items) (sym w.sides-is)
                (sides_met net domains grays i nothing (omega arith) c.loop-gray.sides.items old (in_take grays i)
                (c.loop-gray.invariant.1 (names_of g) met))
          ],
      λ n. met_more grays i nothing (omega arith) n (set.contains names.ghosts.eq c.loop-gray.met n)
          (set.contains names.ghosts.eq c.insert.new.self n) (c.loop-gray.invariant.1 n) (search rules),
    )

pub returns : goal.returns
returns c = λ shown. sides_end c.args.net.now c.args.domains.now c.args.grays.now c.loop-gray.gray-index c.loop-gray.sides.items (omega arith)
    (c.loop-gray.invariant.0 shown)
