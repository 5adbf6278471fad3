use Rattle.std.proofs.Common.{Some, sym, subst}
use Rattle.flat_unfolding.specs.Names.{a_param}
use Rattle.flat_names.specs.Looks.{param_of}
use Rattle.flat_names.specs.Pieces.{IsPiece}
use Rattle.flat_names.specs.Selects.{name_piece}
use Rattle.flat_names.proofs.Named.{counted-param, sized-param}
use Rattle.flat_names.proofs.expr.parameter.Goals as goal

pub returns-then-param : goal.returns-then-param
returns-then-param c = λ l x fit. subst (IsPiece (name_piece l x (Some (a_param (param_of c.args.param))))) (sym c.counted_number.ensures) (counted-param l x c.args.param _ fit c.if-param.true (c.signs_of.ensures l x))

pub returns-else-param : goal.returns-else-param
returns-else-param c = λ l x fit. subst (IsPiece (name_piece l x (Some (a_param (param_of c.args.param))))) (sym c.constant.ensures) (sized-param l x c.args.param _ fit c.if-param.false (c.signs_of-else-param.ensures l x))
