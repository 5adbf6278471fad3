-- Continuous assignments and gates.
use Rattle.std.specs.Prelude.{ℕ, Bool, true, false, cond, not, ◌==◌, nat_le, List, [], ◌∷◌, ◌++◌, length, map, flat_map, Option, Some, None, codes, ◌&&◌}
use Rattle.cdc_base.specs.declared.fault.Place.{Place}
use Rattle.verilog_ast.specs.declared.GateKind.{GateKind}
use Rattle.verilog_ast.specs.declared.GateKind.TheVariants as g
use Rattle.verilog_reading.specs.ExprTree.{ExprTree, TargetTree}
use Rattle.flat_meaning.specs.Flat.{complement, BinaryOp, bitwise_and, bitwise_or, bitwise_xor, Expr, Unary, Gate, size}
use Rattle.flat_unfolding.specs.Outcome.{Text, Broken, breaks_if, Outcome, judged, by_number}
use Rattle.flat_unfolding.specs.Expressions.{Term, is_sound, joined, read}
use Rattle.flat_unfolding.specs.Targets.{wire_aim, driven}
use Rattle.flat_unfolding.specs.Design.{assigned, Stage, look_of, with_design}

-- `assign target = value`, and a wire's declaration with a value
abbrev pub assign_item : Stage → Place → TargetTree → ExprTree → Outcome Stage
assign_item s p t e = let look = look_of s in let a = wire_aim look t in let v = read look e in
    judged by_number p (a.broken ++ v.broken) (with_design s (assigned s.design a.target v.expr))

abbrev pub gate_word : GateKind → Text
gate_word g.And = codes "and"
gate_word g.Nand = codes "nand"
gate_word g.Or = codes "or"
gate_word g.Nor = codes "nor"
gate_word g.Xor = codes "xor"
gate_word g.Xnor = codes "xnor"
gate_word g.Buf = codes "buf"
gate_word g.Not = codes "not"

-- `buf` and `not` have two terminals, all others two at least
abbrev pub has_terminals : GateKind → ℕ → Bool
has_terminals g.Buf n = n == 2
has_terminals g.Not n = n == 2
has_terminals kind n = nat_le 2 n

-- inputs are folded from the left; one input stands for itself
abbrev pub gate_op : GateKind → BinaryOp
gate_op g.And = bitwise_and
gate_op g.Nand = bitwise_and
gate_op g.Or = bitwise_or
gate_op g.Nor = bitwise_or
gate_op kind = bitwise_xor

abbrev pub is_inverted : GateKind → Bool
is_inverted g.Nand = true
is_inverted g.Nor = true
is_inverted g.Xnor = true
is_inverted g.Not = true
is_inverted kind = false

abbrev pub gate_value : GateKind → List Term → Expr
gate_value kind inputs = let folded = Gate (gate_op kind) (joined inputs) in cond (is_inverted kind) (Unary complement folded) folded

-- E306: each terminal has one bit
abbrev pub output_rule : GateKind → Option ℕ → List Broken
output_rule kind None = []
output_rule kind (Some n) = breaks_if (not (n == 1)) 306 (gate_word kind)

abbrev pub input_rules : GateKind → Term → List Broken
input_rules kind t = t.broken ++ breaks_if (is_sound t && not (size t.expr == 1)) 306 (gate_word kind)

abbrev pub count_rule : GateKind → ℕ → List Broken
count_rule kind n = breaks_if (not (has_terminals kind n)) 306 (gate_word kind)

-- the first terminal is driven by the others
abbrev pub gate_item : Stage → Place → GateKind → List ExprTree → Outcome Stage
gate_item s p kind [] = judged by_number p (count_rule kind 0) s
gate_item s p kind (output ∷ rest) = let look = look_of s in let a = driven look output in let inputs = map (read look) rest in
    judged by_number p (count_rule kind (length (output ∷ rest)) ++ a.broken ++ output_rule kind a.bits ++ flat_map (input_rules kind) inputs)
    (with_design s (assigned s.design a.target (gate_value kind inputs)))
