-- Worked examples, by computation: small sources with their flat designs or their refusals.
use Rattle.std.proofs.Common.{◌≡◌, ℕ, true, false, List, [], ◌∷◌, Some, None, refl}
use Rattle.std.specs.Prelude.{codes}
use Rattle.std.specs.Fmt.{digits}
use Rattle.cdc_base.specs.Words.{keyword_of, is_left_out}
use Rattle.cdc_base.specs.declared.signal.SigKind.TheVariants.{Input, Register, Wire}
use Rattle.verilog_ast.specs.declared.BinaryOp.TheVariants as b
use Rattle.verilog_ast.specs.declared.UnaryOp.TheVariants as u
use Rattle.verilog_ast.specs.declared.DeclKind.TheVariants as k
use Rattle.verilog_ast.specs.declared.GateKind.TheVariants as g
use Rattle.verilog_ast.specs.declared.Event.TheVariants as event
use Rattle.verilog_ast.specs.declared.EdgeKind.TheVariants as edge
use Rattle.verilog_reading.specs.ExprTree.{ExprTree, part, unary, binary, choice, repeat, and_trees, no_trees, paren}
use Rattle.verilog_reading.specs.StmtTree.{when, either, set, switch, switch_else, subject_of, by_value, by_mask, and_arms, no_arms}
use Rattle.verilog_ast.specs.declared.PartKind.TheVariants as select
use Rattle.verilog_ast.specs.declared.Delay.TheVariants as delay
use Rattle.verilog_reading.specs.SourceTree.{BodyTree, ModuleTree, assign, decl, gate, instance, always, ordered}
use Rattle.flat_meaning.specs.Flat as f
use Rattle.flat_meaning.specs.Design.{Flat}
use Rattle.flat_unfolding.specs.Outcome.{Outcome, good, refused}
use Rattle.flat_unfolding.proofs.Sources.{v, plain, sized, unsized, bit, pair, to, to_bit, to_pair, blocking, later, rows, range, down_to_zero, wire, wire_with, reg, memory, parameter_of, parameter, localparam, of_wires, on, at_clock, instance_of, port_item, port, input, output, a_module, an_old_module, top_m, h, h_reset, with_stub, refused_at, one_bit, ranged}

-- ---- modules, names, places

-- the empty text has no top; E301 has no place
no_top : top_m [] ≡ refused 301 None (codes "m")
no_top = refl

-- n u(ca);
unknown_module : h (instance_of "n" "u" (v "ca" ∷ []) ∷ []) ≡ refused_at 302 2 "n"
unknown_module = refl

-- m u(ca);
inside_itself : h (instance_of "m" "u" (v "ca" ∷ []) ∷ []) ≡ refused_at 303 2 "m"
inside_itself = refl

-- reg ca;
declared_twice : h (reg None "ca" ∷ []) ≡ refused_at 304 2 "ca"
declared_twice = refl

-- wire A; parameter A = 1; a parameter comes before the declarations
parameter_first : h (wire None "A" ∷ parameter None "A" (plain 1) ∷ []) ≡ refused_at 304 2 "A"
parameter_first = refl

-- localparam A = 1; localparam A = Z; of one parameter E305 is tried first
unknown_before_twice : h (localparam "A" (plain 1) ∷ localparam "A" (v "Z") ∷ []) ≡ refused_at 305 3 "Z"
unknown_before_twice = refl

-- wire [w2:0] w; wire w2;
declared_later : h (wire (range (v "w2") (plain 0)) "w" ∷ wire None "w2" ∷ []) ≡ refused_at 305 2 "w2"
declared_later = refl

-- wire w2; wire [w2:0] w;
no_constant : h (wire None "w2" ∷ wire (range (v "w2") (plain 0)) "w" ∷ []) ≡ refused_at 307 3 ""
no_constant = refl

-- ---- sizes and constants

-- assign o = v & ~1; `~1` is no whole number from 0 to 2^31 - 1
complement_of_number : h (assign (to "o") (binary b.And (v "v") (unary u.Not (plain 1))) ∷ []) ≡ refused_at 307 2 ""
complement_of_number = refl

-- wire [64:0] w; has the name, wire w = {65{d}}; has none
wide_range : h (wire (down_to_zero 64) "w" ∷ []) ≡ refused_at 308 2 "w"
wide_range = refl

wide_value : h (wire_with "w" (repeat (plain 65) (and_trees (v "d") no_trees)) ∷ []) ≡ refused_at 308 2 ""
wide_value = refl

-- parameter P = 5; assign q = P[2];
parameter_without_range : h (parameter None "P" (plain 5) ∷ assign (to "q") (bit "P" (plain 2)) ∷ []) ≡ refused_at 314 3 "P"
parameter_without_range = refl

-- assign q = v[v & 1]; the number has 32 bits, and so has the index
index_may_miss : h (assign (to "q") (bit "v" (binary b.And (v "v") (plain 1))) ∷ []) ≡ refused_at 315 2 "v"
index_may_miss = refl

-- module m(output [3:0] q); parameter W = 3; parameter [3:0] P = 5; wire [W-1:0] w; assign w = {3{P[2]}}; assign q = w << (W > 2); endmodule
-- `W-1` is whole, so the range is [2:0]; P[2] is a constant of one bit; `W > 2` stands in no whole expression and has one bit
constants : top_m (a_module "m" [] (port k.Output (down_to_zero 3) "q" ∷ []) (
    parameter None "W" (plain 3)
    ∷ parameter (down_to_zero 3) "P" (plain 5)
    ∷ wire (range (binary b.Sub (v "W") (plain 1)) (plain 0)) "w"
    ∷ assign (to "w") (repeat (plain 3) (and_trees (bit "P" (plain 2)) no_trees))
    ∷ assign (to "q") (binary b.Shl (v "w") (binary b.Gt (v "W") (plain 2)))
    ∷ []) ∷ [])
    ≡ good (record {
      signals = ranged "q" 1 3 Wire ∷ ranged "w" 4 2 Wire ∷ [];
      assigns = (f.Whole 1, f.Repeat 3 (f.expr (f.Number 1 1) f.no_exprs))
          ∷ (f.Whole 0, f.Binary f.shift_left (f.Read 1 0 3) (f.Binary f.is_greater (f.Number 32 3) (f.Number 32 2)))
          ∷ [];
      combs = [];
      clocked = [];
      outputs = 0 ∷ [];
    })
unfolding keyword_of is_left_out
constants = refl

-- module m(input [3:0] v, output [4:0] o); assign o = -v; endmodule
-- this is `0 - v`, and the 0 has four bits
minus : top_m (a_module "m" [] (port k.Input (down_to_zero 3) "v" ∷ port k.Output (down_to_zero 4) "o" ∷ []) (assign (to "o") (unary u.Minus (v "v")) ∷ []) ∷ [])
    ≡ good (record {
      signals = ranged "v" 1 3 Input ∷ ranged "o" 1 4 Wire ∷ [];
      assigns = (f.Whole 1, f.Binary f.minus (f.Number 4 0) (f.Read 0 0 4)) ∷ [];
      combs = [];
      clocked = [];
      outputs = 1 ∷ [];
    })
unfolding keyword_of is_left_out
minus = refl

-- assign o = v & -1; `-1` is no whole number from 0 to 2^31 - 1
minus_of_number : h (assign (to "o") (binary b.And (v "v") (unary u.Minus (plain 1))) ∷ []) ≡ refused_at 307 2 ""
minus_of_number = refl

-- assign o = v & -0;
minus_of_zero : h (assign (to "o") (binary b.And (v "v") (unary u.Minus (plain 0))) ∷ assign (to "q") (v "d") ∷ []) ≡ h (assign (to "o") (binary b.And (v "v") (plain 0)) ∷ assign (to "q") (v "d") ∷ [])
minus_of_zero = refl

-- v[1 +: 2] is v[2:1], v[3 -: 2] is v[3:2]
part_up : h (assign (to "o") (part (codes "v") select.Up (plain 1) (plain 2)) ∷ []) ≡ h (assign (to "o") (part (codes "v") select.Range (plain 2) (plain 1)) ∷ [])
part_up = refl

part_down : h (assign (to "o") (part (codes "v") select.Down (plain 3) (plain 2)) ∷ []) ≡ h (assign (to "o") (part (codes "v") select.Range (plain 3) (plain 2)) ∷ [])
part_down = refl

-- v[3 +: 2] and v[0 -: 2] are outside, v[d +: 2] has no constant base, and v[1 +: 0] no bits
part_above : h (assign (to "o") (part (codes "v") select.Up (plain 3) (plain 2)) ∷ []) ≡ refused_at 314 2 "v"
part_above = refl

part_below : h (assign (to "o") (part (codes "v") select.Down (plain 0) (plain 2)) ∷ []) ≡ refused_at 314 2 "v"
part_below = refl

part_of_variable : h (assign (to "o") (part (codes "v") select.Up (v "d") (plain 2)) ∷ []) ≡ refused_at 307 2 ""
part_of_variable = refl

part_of_nothing : h (assign (to "o") (part (codes "v") select.Up (plain 1) (plain 0)) ∷ []) ≡ refused_at 307 2 ""
part_of_nothing = refl

-- assign o = {3, d}; and assign o = {'h3, d}; a part has a size of its own
plain_part : h (assign (to "o") (pair (plain 3) (v "d")) ∷ []) ≡ refused_at 308 2 ""
plain_part = refl

unsized_part : h (assign (to "o") (pair (unsized 3) (v "d")) ∷ []) ≡ refused_at 308 2 ""
unsized_part = refl

-- assign o = {2{15 + 2}}; is counted with the size 32
whole_part : h (assign (to "o") (repeat (plain 2) (and_trees (binary b.Add (plain 15) (plain 2)) no_trees)) ∷ []) ≡ refused_at 308 2 ""
whole_part = refl

-- module m(input d, output [32:0] q); assign q = {d + 1, d}; endmodule
-- the sum has 32 bits, so the concatenation has 33
sum_as_part : top_m (a_module "m" [] (input "d" ∷ port k.Output (down_to_zero 32) "q" ∷ []) (assign (to "q") (pair (binary b.Add (v "d") (plain 1)) (v "d")) ∷ []) ∷ [])
    ≡ good (record {
      signals = one_bit "d" 1 Input ∷ ranged "q" 1 32 Wire ∷ [];
      assigns = (f.Whole 1, f.Join (f.expr (f.Binary f.plus (f.Read 0 0 1) (f.Number 32 1)) (f.expr (f.Read 0 0 1) f.no_exprs))) ∷ [];
      combs = [];
      clocked = [];
      outputs = 1 ∷ [];
    })
unfolding keyword_of is_left_out
sum_as_part = refl

-- ---- signed expressions

-- assign q = 1 << d < 5; compares two signed operands, of which one isn't counted
signed_comparison : h (assign (to "q") (binary b.Lt (binary b.Shl (plain 1) (v "d")) (plain 5)) ∷ []) ≡ refused_at 307 2 ""
signed_comparison = refl

-- with parameter W = 5: assign q = W >= (d ? 1 : 2); a counted parameter of 32 bits is signed
signed_parameter : h (parameter None "W" (plain 5) ∷ assign (to "q") (binary b.Ge (v "W") (choice (v "d") (plain 1) (plain 2))) ∷ []) ≡ refused_at 307 3 ""
signed_parameter = refl

-- module m(input d, output q); parameter W = 5; parameter P = W > 4; assign q = P < (d ? 1 : 2); endmodule
-- one of one bit isn't
unsigned_parameter : top_m (a_module "m" [] (input "d" ∷ output "q" ∷ []) (
    parameter None "W" (plain 5)
    ∷ parameter None "P" (binary b.Gt (v "W") (plain 4))
    ∷ assign (to "q") (binary b.Lt (v "P") (choice (v "d") (plain 1) (plain 2)))
    ∷ []) ∷ [])
    ≡ good (record {
      signals = one_bit "d" 1 Input ∷ one_bit "q" 1 Wire ∷ [];
      assigns = (f.Whole 1, f.Binary f.is_less (f.Number 1 1) (f.Choose (f.Read 0 0 1) (f.Number 32 1) (f.Number 32 2))) ∷ [];
      combs = [];
      clocked = [];
      outputs = 1 ∷ [];
    })
unfolding keyword_of is_left_out
unsigned_parameter = refl

-- parameter P = 1 << 5'd31; is signed, and its value has the sign's bit
negative_parameter : h (parameter None "P" (binary b.Shl (plain 1) (sized 5 31)) ∷ []) ≡ refused_at 307 2 ""
negative_parameter = refl

-- ---- declarations

-- module m(a, q); input a; wire a; output q; assign q = a; endmodule
-- an input of the old style may be declared again, and stands at its first declaration
input_again : top_m (an_old_module "m" ("a" ∷ "q" ∷ []) (port_item k.Input None "a" ∷ wire None "a" ∷ port_item k.Output None "q" ∷ assign (to "q") (v "a") ∷ []) ∷ [])
    ≡ good (record {
      signals = one_bit "a" 2 Input ∷ one_bit "q" 4 Wire ∷ [];
      assigns = (f.Whole 1, f.Read 0 0 1) ∷ [];
      combs = [];
      clocked = [];
      outputs = 1 ∷ [];
    })
unfolding keyword_of is_left_out
input_again = refl

-- input a; reg a;
input_as_register : top_m (an_old_module "m" ("a" ∷ []) (port_item k.Input None "a" ∷ reg None "a" ∷ []) ∷ []) ≡ refused_at 304 3 "a"
input_as_register = refl

-- input a; wire a; wire a;
input_thrice : top_m (an_old_module "m" ("a" ∷ []) (port_item k.Input None "a" ∷ wire None "a" ∷ wire None "a" ∷ []) ∷ []) ≡ refused_at 304 4 "a"
input_thrice = refl

-- input a; wire [1:0] a;
input_of_other_range : top_m (an_old_module "m" ("a" ∷ []) (port_item k.Input None "a" ∷ wire (down_to_zero 1) "a" ∷ []) ∷ []) ≡ refused_at 306 3 "a"
input_of_other_range = refl

-- ---- assignments, gates and drivers

-- wire w; assign {w, w} = 2'b10; assigns the bit twice
twice_at_once : h (wire None "w" ∷ assign (to_pair (to "w") (to "w")) (sized 2 2) ∷ []) ≡ refused_at 313 3 "w"
twice_at_once = refl

-- reg [1:0] r; always @(posedge ca) {r, r} <= 2'b10;
twice_in_process : h (reg (down_to_zero 1) "r" ∷ at_clock "ca" (later (to_pair (to "r") (to "r")) (sized 2 2)) ∷ []) ≡ refused_at 313 3 "r"
twice_in_process = refl

-- reg i; reg [1:0] r; always @(posedge ca) {i, r[i]} = v; the index reads what is assigned, which is told before the blocking assignment
index_of_itself : h (reg None "i" ∷ reg (down_to_zero 1) "r" ∷ at_clock "ca" (blocking (to_pair (to "i") (to_bit "r" (v "i"))) (v "v")) ∷ []) ≡ refused_at 313 4 "r"
index_of_itself = refl

-- reg [1:0] r; always @(posedge ca) {r[d], r[e]} <= v; may assign a bit twice
indices_meet : h (reg (down_to_zero 1) "r" ∷ at_clock "ca" (later (to_pair (to_bit "r" (v "d")) (to_bit "r" (v "e"))) (v "v")) ∷ []) ≡ refused_at 313 3 "r"
indices_meet = refl

-- module m(input d, output [1:0] q); assign {q[1], q[0]} = d; endmodule
parts_apart : top_m (a_module "m" [] (input "d" ∷ port k.Output (down_to_zero 1) "q" ∷ []) (assign (to_pair (to_bit "q" (plain 1)) (to_bit "q" (plain 0))) (v "d") ∷ []) ∷ [])
    ≡ good (record {
      signals = one_bit "d" 1 Input ∷ ranged "q" 1 1 Wire ∷ [];
      assigns = (f.Group (f.target (f.Part 1 1 1) (f.target (f.Part 1 0 1) f.no_targets)), f.Read 0 0 1) ∷ [];
      combs = [];
      clocked = [];
      outputs = 1 ∷ [];
    })
unfolding keyword_of is_left_out
parts_apart = refl

-- wire w; assign q = w;
undriven : h (wire None "w" ∷ assign (to "q") (v "w") ∷ []) ≡ refused_at 310 2 "w"
unfolding keyword_of is_left_out
undriven = refl

-- reg a; assign a = d;
register_by_assign : h (reg None "a" ∷ assign (to "a") (v "d") ∷ []) ≡ refused_at 313 3 "a"
register_by_assign = refl

-- and (q);
one_terminal : h (gate g.And (v "q" ∷ []) ∷ []) ≡ refused_at 306 2 "and"
one_terminal = refl

-- module m(input a, b, output q); nand (q, a, b); endmodule
gates : top_m (a_module "m" [] (input "a" ∷ input "b" ∷ output "q" ∷ []) (gate g.Nand (v "q" ∷ v "a" ∷ v "b" ∷ []) ∷ []) ∷ [])
    ≡ good (record {
      signals = one_bit "a" 1 Input ∷ one_bit "b" 1 Input ∷ one_bit "q" 1 Wire ∷ [];
      assigns = (f.Whole 2, f.Unary f.complement (f.Gate f.bitwise_and (f.expr (f.Read 0 0 1) (f.expr (f.Read 1 0 1) f.no_exprs)))) ∷ [];
      combs = [];
      clocked = [];
      outputs = 2 ∷ [];
    })
unfolding keyword_of is_left_out
gates = refl

-- ---- processes

-- reg a, b; always @* begin if (d) b = 1; if (d) a = 1; end names the first signal by its number
two_latches : h (reg None "a" ∷ reg None "b" ∷ of_wires (rows (when (v "d") (blocking (to "b") (plain 1)) ∷ when (v "d") (blocking (to "a") (plain 1)) ∷ [])) ∷ [])
    ≡ refused_at 311 4 "a"
two_latches = refl

-- always @* if (d) q <= 1'b1; breaks E311 and E313
least_number : h (of_wires (when (v "d") (later (to "q") (sized 1 1))) ∷ []) ≡ refused_at 311 2 "q"
least_number = refl

-- always @* {i, r[i]} = v; reads i before it is assigned
index_before : h (reg None "i" ∷ reg (down_to_zero 1) "r" ∷ of_wires (blocking (to_pair (to "i") (to_bit "r" (v "i"))) (v "v")) ∷ []) ≡ refused_at 311 4 "i"
index_before = refl

-- reg r; always @* r = r & v[9]; reads r before it is assigned, and v[9] breaks E314
read_beside_broken : h (reg None "r" ∷ of_wires (blocking (to "r") (binary b.And (v "r") (bit "v" (plain 9)))) ∷ []) ≡ refused_at 311 3 "r"
read_beside_broken = refl

-- always @(d or e) r = d & e; is read as with `@*`, and so it is where further names are in the list
plain_levels : h (reg None "r" ∷ always (event.Edges (on edge.Level "d" ∷ on edge.Level "e" ∷ [])) (blocking (to "r") (binary b.And (v "d") (v "e"))) ∷ [])
    ≡ h (reg None "r" ∷ of_wires (blocking (to "r") (binary b.And (v "d") (v "e"))) ∷ [])
plain_levels = refl

more_levels : h (reg None "r" ∷ always (event.Edges (on edge.Level "d" ∷ on edge.Level "r" ∷ on edge.Level "e" ∷ [])) (blocking (to "r") (v "d")) ∷ []) ≡ h (reg None "r" ∷ of_wires (blocking (to "r") (v "d")) ∷ [])
more_levels = refl

-- always @(d) r = d & e; a name is missing
missing_level : h (reg None "r" ∷ always (event.Edges (on edge.Level "d" ∷ [])) (blocking (to "r") (binary b.And (v "d") (v "e"))) ∷ []) ≡ refused_at 316 3 "d"
missing_level = refl

-- always @(d) if (d) r = e; the list stands for `@*`, so that the latch counts too, with the lesser number
missing_level_in_latch : h (reg None "r" ∷ always (event.Edges (on edge.Level "d" ∷ [])) (when (v "d") (blocking (to "r") (v "e"))) ∷ []) ≡ refused_at 311 3 "r"
missing_level_in_latch = refl

-- always @* begin s = d; r <= s; end reads nothing that it assigns by `<=`
later_in_star : h (reg None "r" ∷ reg None "s" ∷ of_wires (rows (blocking (to "s") (v "d") ∷ later (to "r") (v "s") ∷ [])) ∷ [])
    ≡ h (reg None "r" ∷ reg None "s" ∷ always (event.Edges (on edge.Level "d" ∷ [])) (rows (blocking (to "s") (v "d") ∷ later (to "r") (v "s") ∷ [])) ∷ [])
later_in_star = refl

-- always @* begin s <= d; r = s; end does
later_is_read : h (reg None "r" ∷ reg None "s" ∷ of_wires (rows (later (to "s") (v "d") ∷ blocking (to "r") (v "s") ∷ [])) ∷ []) ≡ refused_at 313 4 "s"
later_is_read = refl

-- always @* r <= #1 d;
delay_in_star : h (reg None "r" ∷ of_wires (set false (Some (delay.Number 1)) (to "r") (v "d")) ∷ []) ≡ refused_at 313 3 "r"
delay_in_star = refl

-- always @(posedge ca) begin r <= #1 d; r <= e; end the first one would win
two_delays : h (reg None "r" ∷ at_clock "ca" (rows (set false (Some (delay.Number 1)) (to "r") (v "d") ∷ later (to "r") (v "e") ∷ [])) ∷ []) ≡ refused_at 313 3 "r"
two_delays = refl

-- always @(posedge ca) if (d) r <= #1 d; else r <= e; these are two paths
delays_apart : h (reg None "r" ∷ at_clock "ca" (either (v "d") (set false (Some (delay.Number 1)) (to "r") (v "d")) (later (to "r") (v "e"))) ∷ assign (to "q") (v "r") ∷ [])
    ≡ h (reg None "r" ∷ at_clock "ca" (either (v "d") (later (to "r") (v "d")) (later (to "r") (v "e"))) ∷ assign (to "q") (v "r") ∷ [])
delays_apart = refl

-- a third one behind them has one delay or another
delay_behind_two : h (reg None "r" ∷ at_clock "ca" (rows (either (v "d") (set false (Some (delay.Number 1)) (to "r") (v "d")) (later (to "r") (v "e")) ∷ later (to "r") (v "d") ∷ [])) ∷ []) ≡ refused_at 313 3 "r"
delay_behind_two = refl

-- always @(posedge v) r = d; a clock of four bits has the form, and the assignment is of the wrong kind
wide_clock : h (reg None "r" ∷ at_clock "v" (blocking (to "r") (v "d")) ∷ []) ≡ refused_at 313 3 "r"
wide_clock = refl

-- module m(input [1:0] v, input e, output q); reg r; always @* casez (v) 2'b1?, 2'b00: r = e; 2'b?1: r = 1'b0; default: r = 1'b1; endcase assign q = r; endmodule
-- what isn't open is compared, at the largest size; 2'b00 has no open bit
masks : top_m (a_module "m" [] (port k.Input (down_to_zero 1) "v" ∷ input "e" ∷ output "q" ∷ []) (
    reg None "r"
    ∷ of_wires (switch_else (subject_of true (v "v"))
    (and_arms (by_mask 2 1 2 ∷ by_value (sized 2 0) ∷ []) (blocking (to "r") (v "e")) (and_arms (by_mask 1 2 2 ∷ []) (blocking (to "r") (sized 1 0)) no_arms)) (blocking (to "r") (sized 1 1)))
    ∷ assign (to "q") (v "r")
    ∷ []) ∷ [])
    ≡ good (record {
      signals = ranged "v" 1 1 Input ∷ one_bit "e" 1 Input ∷ one_bit "q" 1 Wire ∷ one_bit "r" 2 Wire ∷ [];
      assigns = (f.Whole 2, f.Read 3 0 1) ∷ [];
      combs = f.If (f.Binary f.logical_or (f.Binary f.is_equal (f.Binary f.bitwise_and (f.Read 0 0 2) (f.Number 2 2)) (f.Number 2 2)) (f.Binary f.is_equal (f.Read 0 0 2) (f.Number 2 0)))
          (f.Set true (f.Whole 3) (f.Read 1 0 1))
          (f.If (f.Binary f.is_equal (f.Binary f.bitwise_and (f.Read 0 0 2) (f.Number 2 1)) (f.Number 2 1)) (f.Set true (f.Whole 3) (f.Number 1 0)) (f.Set true (f.Whole 3) (f.Number 1 1))) ∷ [];
      clocked = [];
      outputs = 2 ∷ [];
    })
unfolding keyword_of is_left_out
masks = refl

-- reg r; always @* casez (v) d: r = 1'b1; default: r = 1'b0; endcase a label is a mask or a constant
mask_of_signal : h (reg None "r" ∷ of_wires (switch_else (subject_of true (v "v")) (and_arms (by_value (v "d") ∷ []) (blocking (to "r") (sized 1 1)) no_arms) (blocking (to "r") (sized 1 0))) ∷ [])
    ≡ refused_at 307 3 ""
mask_of_signal = refl

-- reg r; always @* casez (d) 1'b?: r = 1'b1; endcase there is no `else`
open_mask : h (reg None "r" ∷ of_wires (switch (subject_of true (v "d")) (and_arms (by_mask 0 1 1 ∷ []) (blocking (to "r") (sized 1 1)) no_arms)) ∷ []) ≡ refused_at 311 3 "r"
open_mask = refl

-- module m(input d, e, output q); reg r; always @* case (d) 1'b0: r = e; 1'b1: r = 1'b0; endcase assign q = r; endmodule
-- the labels take every value, so there is no default
full_case : top_m (a_module "m" [] (input "d" ∷ input "e" ∷ output "q" ∷ []) (
    reg None "r"
    ∷ of_wires (switch (subject_of false (v "d")) (and_arms (by_value (sized 1 0) ∷ []) (blocking (to "r") (v "e")) (and_arms (by_value (sized 1 1) ∷ []) (blocking (to "r") (sized 1 0)) no_arms)))
    ∷ assign (to "q") (v "r")
    ∷ []) ∷ [])
    ≡ good (record {
      signals = one_bit "d" 1 Input ∷ one_bit "e" 1 Input ∷ one_bit "q" 1 Wire ∷ one_bit "r" 2 Wire ∷ [];
      assigns = (f.Whole 2, f.Read 3 0 1) ∷ [];
      combs = f.Case (f.Read 0 0 1) (f.item (f.expr (f.Number 1 0) f.no_exprs) (f.Set true (f.Whole 3) (f.Read 1 0 1))
          (f.item (f.expr (f.Number 1 1) f.no_exprs) (f.Set true (f.Whole 3) (f.Number 1 0)) f.no_items)) ∷ [];
      clocked = [];
      outputs = 2 ∷ [];
    })
unfolding keyword_of is_left_out
full_case = refl

-- ---- memories

-- wire [0-1:0] M [0:3]; E319 comes before E307
memory_of_wires : h (decl (record { kind = k.Wire; range = range (binary b.Sub (plain 0) (plain 1)) (plain 0); name = codes "M"; init = None; array = range (plain 0) (plain 3) }) ∷ []) ≡ refused_at 319 2 "M"
memory_of_wires = refl

-- reg [1:0] M [0:3]; always @(posedge ca) M[v] <= d; has four bits for two
wide_index : h (memory (down_to_zero 1) "M" (range (plain 0) (plain 3)) ∷ at_clock "ca" (later (to_bit "M" (v "v")) (v "d")) ∷ []) ≡ refused_at 315 3 "M"
unfolding keyword_of is_left_out digits
wide_index = refl

-- reg M [0:2]; assign q = M[v[1:0]]; has four values for three words
index_beyond_words : h (memory None "M" (range (plain 0) (plain 2)) ∷ assign (to "q") (bit "M" (part (codes "v") select.Range (plain 1) (plain 0))) ∷ []) ≡ refused_at 315 3 "M"
unfolding keyword_of is_left_out digits
index_beyond_words = refl

-- reg M [0:1]; assign q = \M[0] ; the printed name of a word denotes nothing
word_by_name : h (memory None "M" (range (plain 0) (plain 1)) ∷ assign (to "q") (v "M[0]") ∷ []) ≡ refused_at 305 3 "M[0]"
unfolding keyword_of is_left_out digits
word_by_name = refl

-- reg M [0:1]; always @(posedge ca) \M[0] <= d;
word_assigned_by_name : h (memory None "M" (range (plain 0) (plain 1)) ∷ at_clock "ca" (later (to "M[0]") (v "d")) ∷ []) ≡ refused_at 305 3 "M[0]"
unfolding keyword_of is_left_out digits
word_assigned_by_name = refl

-- reg M [0:1]; wire \M[1] ; and it is taken
word_declared : h (memory None "M" (range (plain 0) (plain 1)) ∷ wire None "M[1]" ∷ []) ≡ refused_at 304 3 "M[1]"
unfolding keyword_of is_left_out digits
word_declared = refl

-- reg M [0:1]; always @(posedge ca) M[d] <= e; assign q = M[e];
read_and_write : top_m (a_module "m" [] (input "c" ∷ input "d" ∷ output "q" ∷ []) (
    memory None "M" (range (plain 0) (plain 1))
    ∷ at_clock "c" (later (to_bit "M" (v "d")) (v "d"))
    ∷ assign (to "q") (bit "M" (v "d"))
    ∷ []) ∷ [])
    ≡ good (record {
      signals = one_bit "c" 1 Input ∷ one_bit "d" 1 Input ∷ one_bit "q" 1 Wire ∷ one_bit "\\M[0] " 2 Register ∷ one_bit "\\M[1] " 2 Register ∷ [];
      assigns = (f.Whole 2, f.Choose (f.Binary f.is_equal (f.Read 1 0 1) (f.Number 1 0)) (f.Read 3 0 1) (f.Read 4 0 1)) ∷ [];
      combs = [];
      clocked = (
        0,
        f.Block (
            f.stmt (f.If (f.Binary f.is_equal (f.Read 1 0 1) (f.Number 1 0)) (f.Set false (f.Whole 3) (f.Read 1 0 1)) f.Null)
            (f.stmt (f.If (f.Binary f.is_equal (f.Read 1 0 1) (f.Number 1 1)) (f.Set false (f.Whole 4) (f.Read 1 0 1)) f.Null) f.no_stmts)),
      ) ∷ [];
      outputs = 2 ∷ [];
    })
unfolding keyword_of is_left_out digits
read_and_write = refl

-- `i == n`, and the write of the word that is the signal s
abbrev is_at : ℕ → f.Expr
is_at n = f.Binary f.is_equal (f.Read 2 0 2) (f.Number 2 n)

abbrev write : (n s : ℕ) → f.Stmt
write n s = f.If (is_at n) (f.Set false (f.Whole s) (f.Read 1 0 1)) f.Null

-- module m(input c, d, input [1:0] i, output q); reg M [0:4]; always @(posedge c) M[i] <= d; assign q = M[i]; endmodule
-- the index reaches four of five words
read_and_write_front : top_m (a_module "m" [] (input "c" ∷ input "d" ∷ port k.Input (down_to_zero 1) "i" ∷ output "q" ∷ []) (
    memory None "M" (range (plain 0) (plain 4))
    ∷ at_clock "c" (later (to_bit "M" (v "i")) (v "d"))
    ∷ assign (to "q") (bit "M" (v "i"))
    ∷ []) ∷ [])
    ≡ good (record {
      signals = one_bit "c" 1 Input ∷ one_bit "d" 1 Input ∷ ranged "i" 1 1 Input ∷ one_bit "q" 1 Wire
          ∷ one_bit "\\M[0] " 2 Register ∷ one_bit "\\M[1] " 2 Register ∷ one_bit "\\M[2] " 2 Register ∷ one_bit "\\M[3] " 2 Register ∷ one_bit "\\M[4] " 2 Wire ∷ [];
      assigns = (f.Whole 3, f.Choose (is_at 0) (f.Read 4 0 1) (f.Choose (is_at 1) (f.Read 5 0 1) (f.Choose (is_at 2) (f.Read 6 0 1) (f.Read 7 0 1)))) ∷ [];
      combs = [];
      clocked = (0, f.Block (f.stmt (write 0 4) (f.stmt (write 1 5) (f.stmt (write 2 6) (f.stmt (write 3 7) f.no_stmts))))) ∷ [];
      outputs = 3 ∷ [];
    })
unfolding keyword_of is_left_out digits
read_and_write_front = refl

-- with the reset e: if (!e) M[d] <= 0; has a variable index in the target of its first branch
reset_at_variable_index : h_reset (memory None "M" (range (plain 0) (plain 1)) ∷ reg None "x"
    ∷ at_clock "ca" (either (unary u.LogicNot (v "e")) (later (to_bit "M" (v "d")) (plain 0)) (later (to "x") (v "d"))) ∷ []) ≡ refused_at 317 4 "ca"
unfolding keyword_of is_left_out digits
reset_at_variable_index = refl

-- in {M[d], x} <= 0 such a word breaks a rule of the item, which comes before
reset_in_concatenation : h_reset (memory None "M" (range (plain 0) (plain 1)) ∷ reg None "x"
    ∷ at_clock "ca" (either (unary u.LogicNot (v "e")) (later (to_pair (to_bit "M" (v "d")) (to "x")) (plain 0)) (later (to "x") (v "d"))) ∷ []) ≡ refused_at 319 4 "M"
unfolding keyword_of is_left_out digits
reset_in_concatenation = refl

-- ---- instances

-- module n #(parameter W = 2) (input [W-1:0] a, output [W-1:0] b); assign b = ~a; endmodule
abbrev inverter : ModuleTree
inverter = let width = range (binary b.Sub (v "W") (plain 1)) (plain 0) in
    a_module "n" (parameter_of false None "W" (plain 2) ∷ []) (port k.Input width "a" ∷ port k.Output width "b" ∷ []) (assign (to "b") (unary u.Not (v "a")) ∷ [])

-- module m(input [3:0] v, output [3:0] o); n #(4) \u.x (v, o); endmodule
with_override : top_m (inverter ∷ a_module "m" [] (port k.Input (down_to_zero 3) "v" ∷ port k.Output (down_to_zero 3) "o" ∷ [])
    (instance (codes "n") (ordered (Some (plain 4) ∷ [])) (codes "u.x") (ordered (Some (v "v") ∷ Some (v "o") ∷ [])) ∷ []) ∷ [])
    ≡ good (record {
      signals = ranged "v" 1 3 Input ∷ ranged "o" 1 3 Wire ∷ ranged "\\u.x .a" 1 3 Wire ∷ ranged "\\u.x .b" 1 3 Wire ∷ [];
      assigns = (f.Whole 2, f.Read 0 0 4) ∷ (f.Whole 1, f.Read 3 0 4) ∷ (f.Whole 3, f.Unary f.complement (f.Read 2 0 4)) ∷ [];
      combs = [];
      clocked = [];
      outputs = 1 ∷ [];
    })
unfolding keyword_of is_left_out
with_override = refl

-- n u((q)); a connection to an output is a target
output_in_brackets : top_m (inverter ∷ a_module "m" [] (input "d" ∷ output "q" ∷ []) (instance_of "n" "u" (v "d" ∷ paren (v "q") ∷ []) ∷ []) ∷ []) ≡ refused_at 313 2 ""
output_in_brackets = refl

-- n #(1,) u(d, q); has one entry too many
entry_too_many : top_m (inverter ∷ a_module "m" [] (input "d" ∷ output "q" ∷ [])
    (instance (codes "n") (ordered (Some (plain 1) ∷ None ∷ [])) (codes "u") (ordered (Some (v "d") ∷ Some (v "q") ∷ [])) ∷ []) ∷ []) ≡ refused_at 306 2 "n"
entry_too_many = refl

-- n u(, q); an input without an expression has no driver
open_input : top_m (inverter ∷ a_module "m" [] (port k.Output (down_to_zero 1) "q" ∷ []) (instance (codes "n") (ordered []) (codes "u") (ordered (None ∷ Some (v "q") ∷ [])) ∷ []) ∷ []) ≡ refused_at 310 1 "u.a[0]"
unfolding keyword_of is_left_out digits
open_input = refl

-- module c(input c, d, output q); reg r; always @(posedge c) r <= d; assign q = r; endmodule, and in m: c u(, d, q); an event reads it
open_clock : top_m (a_module "c" [] (input "c" ∷ input "d" ∷ output "q" ∷ []) (reg None "r" ∷ at_clock "c" (later (to "r") (v "d")) ∷ assign (to "q") (v "r") ∷ [])
    ∷ a_module "m" [] (input "d" ∷ output "q" ∷ []) (instance (codes "c") (ordered []) (codes "u") (ordered (None ∷ Some (v "d") ∷ Some (v "q") ∷ [])) ∷ []) ∷ []) ≡ refused_at 310 1 "u.c"
unfolding keyword_of is_left_out
open_clock = refl

-- module c(input a, output b); assign b = 1'b0; endmodule, and in m: c u(, q); nothing reads it
open_unread : top_m (a_module "c" [] (input "a" ∷ output "b" ∷ []) (assign (to "b") (sized 1 0) ∷ [])
    ∷ a_module "m" [] (output "q" ∷ []) (instance (codes "c") (ordered []) (codes "u") (ordered (None ∷ Some (v "q") ∷ [])) ∷ []) ∷ [])
    ≡ good (record {
      signals = one_bit "q" 1 Wire ∷ one_bit "u.a" 1 Wire ∷ one_bit "u.b" 1 Wire ∷ [];
      assigns = (f.Whole 0, f.Read 2 0 1) ∷ (f.Whole 2, f.Number 1 0) ∷ [];
      combs = [];
      clocked = [];
      outputs = 0 ∷ [];
    })
unfolding keyword_of is_left_out
open_unread = refl

-- module m(input d, e, output [1:0] q); n u(.., q); endmodule
abbrev inverted : ExprTree → Outcome Flat
inverted e = top_m (inverter ∷ a_module "m" [] (input "d" ∷ input "e" ∷ port k.Output (down_to_zero 1) "q" ∷ []) (instance_of "n" "u" (e ∷ v "q" ∷ []) ∷ []) ∷ [])

-- n u(d + e, q); leans on the two bits of the input
leaning_input : inverted (binary b.Add (v "d") (v "e")) ≡ refused_at 306 2 "n"
unfolding keyword_of is_left_out
leaning_input = refl

-- n u(d & e, q); doesn't
narrow_input : inverted (binary b.And (v "d") (v "e"))
    ≡ good (record {
      signals = one_bit "d" 1 Input ∷ one_bit "e" 1 Input ∷ ranged "q" 1 1 Wire ∷ ranged "u.a" 1 1 Wire ∷ ranged "u.b" 1 1 Wire ∷ [];
      assigns = (f.Whole 3, f.Binary f.bitwise_and (f.Read 0 0 1) (f.Read 1 0 1)) ∷ (f.Whole 2, f.Read 4 0 2) ∷ (f.Whole 4, f.Unary f.complement (f.Read 3 0 2)) ∷ [];
      combs = [];
      clocked = [];
      outputs = 2 ∷ [];
    })
unfolding keyword_of is_left_out
narrow_input = refl

-- module n #(parameter [7:0] P = 0) (output b); assign b = P[4]; endmodule
abbrev fifth_bit : List BodyTree → ModuleTree
fifth_bit more = a_module "n" (parameter_of false (down_to_zero 7) "P" (plain 0) ∷ []) (output "b" ∷ []) (assign (to "b") (bit "P" (plain 4)) ∷ more)

-- module m(output q); n #(..) u(q); endmodule
abbrev with_value : List BodyTree → ExprTree → Outcome Flat
with_value more e = top_m (fifth_bit more ∷ a_module "m" [] (output "q" ∷ []) (instance (codes "n") (ordered (Some e ∷ [])) (codes "u") (ordered (Some (v "q") ∷ [])) ∷ []) ∷ [])

-- n #(15 + 2) u(q); is whole
whole_override : with_value [] (binary b.Add (plain 15) (plain 2))
    ≡ good (record {
      signals = one_bit "q" 1 Wire ∷ one_bit "u.b" 1 Wire ∷ [];
      assigns = (f.Whole 0, f.Read 1 0 1) ∷ (f.Whole 1, f.Number 1 1) ∷ [];
      combs = [];
      clocked = [];
      outputs = 0 ∷ [];
    })
unfolding keyword_of is_left_out
whole_override = refl

-- n #(4'd15 + 4'd2) u(q); has 4 bits, and leans on the 8 of the parameter
leaning_override : with_value [] (binary b.Add (sized 4 15) (sized 4 2)) ≡ refused_at 306 2 "n"
unfolding keyword_of is_left_out
leaning_override = refl

-- what the module itself breaks is told before
fault_inside : with_value (assign (to "b") (v "Z") ∷ []) (binary b.Add (sized 4 15) (sized 4 2)) ≡ refused_at 305 3 "Z"
unfolding keyword_of is_left_out
fault_inside = refl

-- ---- free signals

-- module n(input a, output b); endmodule
-- nothing drives u.b, which the constraints name: it comes from outside, and may be read
stub : with_stub []
    ≡ good (record {
      signals = one_bit "d" 1 Input ∷ one_bit "q" 1 Wire ∷ one_bit "u.a" 1 Wire ∷ one_bit "u.b" 1 Input ∷ [];
      assigns = (f.Whole 2, f.Read 0 0 1) ∷ (f.Whole 1, f.Read 3 0 1) ∷ [];
      combs = [];
      clocked = [];
      outputs = 1 ∷ [];
    })
unfolding keyword_of is_left_out
stub = refl

-- module n(input a, output b); assign b = ~a; endmodule
-- what has a driver stays a wire
named_but_driven : with_stub (assign (to "b") (unary u.Not (v "a")) ∷ [])
    ≡ good (record {
      signals = one_bit "d" 1 Input ∷ one_bit "q" 1 Wire ∷ one_bit "u.a" 1 Wire ∷ one_bit "u.b" 1 Wire ∷ [];
      assigns = (f.Whole 2, f.Read 0 0 1) ∷ (f.Whole 1, f.Read 3 0 1) ∷ (f.Whole 3, f.Unary f.complement (f.Read 2 0 1)) ∷ [];
      combs = [];
      clocked = [];
      outputs = 1 ∷ [];
    })
unfolding keyword_of is_left_out
named_but_driven = refl
