-- Worked examples of resets and of start values, by computation: small sources with their flat designs or their refusals.
use Rattle.std.proofs.Common.{◌≡◌, true, false, List, [], ◌∷◌, None, refl}
use Rattle.std.specs.Prelude.{codes}
use Rattle.cdc_base.specs.Words.{keyword_of, is_left_out}
use Rattle.cdc_base.specs.declared.signal.Signal.{Signal}
use Rattle.cdc_base.specs.declared.signal.SigKind.TheVariants.{Input, Register, Wire}
use Rattle.verilog_ast.specs.declared.BinaryOp.TheVariants as b
use Rattle.verilog_ast.specs.declared.UnaryOp.TheVariants as u
use Rattle.verilog_ast.specs.declared.Event.TheVariants as event
use Rattle.verilog_ast.specs.declared.EdgeKind.TheVariants as edge
use Rattle.verilog_reading.specs.ExprTree.{unary, binary}
use Rattle.verilog_reading.specs.StmtTree.{StmtTree, either, switch, switch_else, subject_of, by_value, by_mask, and_arms, no_arms}
use Rattle.verilog_reading.specs.SourceTree.{assign, initial, always}
use Rattle.flat_meaning.specs.Flat as f
use Rattle.flat_meaning.specs.Design.{Flat}
use Rattle.flat_unfolding.specs.Outcome.{Outcome, good}
use Rattle.flat_unfolding.specs.Unfolding.{unfolded}
use Rattle.flat_unfolding.proofs.Sources.{v, plain, sized, bit, to, to_bit, blocking, later, rows, down_to_zero, wire, reg, reg_with, of_wires, on, at_clock, at_clock_or, instance_of, input, output, a_module, in_h, h, h_reset, refused_at, one_bit, ranged, starts_as}

-- reg a = 1; initial a = 0; stands at the declaration
two_starts : h (wire None "w" ∷ reg_with None "a" (plain 1) ∷ initial (blocking (to "a") (plain 0)) ∷ []) ≡ refused_at 309 3 "a"
unfolding keyword_of is_left_out
two_starts = refl

-- initial r[0] = 1;
part_of_register : h (reg (down_to_zero 1) "r" ∷ initial (blocking (to_bit "r" (plain 0)) (plain 1)) ∷ []) ≡ refused_at 313 3 "r"
part_of_register = refl

-- with the reset e: reg r; always @(posedge ca) if (!e) r <= d; else r <= d; has reset form, and its first branch no constant
reset_to_signal : h_reset (reg None "r" ∷ at_clock "ca" (either (unary u.LogicNot (v "e")) (later (to "r") (v "d")) (later (to "r") (v "d"))) ∷ []) ≡ refused_at 317 3 "ca"
unfolding keyword_of is_left_out
reset_to_signal = refl

-- of two such processes the first one is told
first_process_is_told : h_reset (reg None "r" ∷ reg None "x" ∷ at_clock "ca" (either (unary u.LogicNot (v "e")) (later (to "r") (v "d")) (later (to "r") (v "d")))
    ∷ at_clock "cb" (either (unary u.LogicNot (v "e")) (later (to "x") (v "d")) (later (to "x") (v "d"))) ∷ []) ≡ refused_at 317 4 "ca"
unfolding keyword_of is_left_out
first_process_is_told = refl

-- assign q = Z; behind it is refused before it
resets_come_last : h_reset (reg None "r" ∷ at_clock "ca" (either (unary u.LogicNot (v "e")) (later (to "r") (v "d")) (later (to "r") (v "d"))) ∷ assign (to "q") (v "Z") ∷ []) ≡ refused_at 305 4 "Z"
unfolding keyword_of is_left_out
resets_come_last = refl

-- wire w; assign q = w; which has no driver, is refused after it
resets_before_drivers : h_reset (reg None "r" ∷ at_clock "ca" (either (unary u.LogicNot (v "e")) (later (to "r") (v "d")) (later (to "r") (v "d"))) ∷ wire None "w" ∷ assign (to "q") (v "w") ∷ []) ≡ refused_at 317 3 "ca"
unfolding keyword_of is_left_out
resets_before_drivers = refl

-- with the resets e and d, both active low: the `else` reads the other one
second_reset_is_read : unfolded (in_h (reg None "r"
    ∷ at_clock_or "ca" (on edge.Neg "e") (either (unary u.LogicNot (v "e")) (later (to "r") (plain 0))
    (either (unary u.LogicNot (v "d")) (later (to "r") (plain 1)) (later (to "r") (bit "v" (plain 0))))) ∷ []) ∷ [])
    (codes "m") (record { name = codes "e"; high = false } ∷ record { name = codes "d"; high = false } ∷ []) [] ≡ refused_at 317 3 "ca"
unfolding keyword_of is_left_out
second_reset_is_read = refl

-- with the reset e: always @(negedge ca or posedge e) if (!e) r <= 0; else r <= d; has a falling clock, which has the lesser number
falling_clock : h_reset (reg None "r" ∷ always (event.Edges (on edge.Neg "ca" ∷ on edge.Pos "e" ∷ [])) (either (unary u.LogicNot (v "e")) (later (to "r") (plain 0)) (later (to "r") (v "d"))) ∷ [])
    ≡ refused_at 316 3 "ca"
unfolding keyword_of is_left_out
falling_clock = refl

-- reg [3:0] r = 5; assign q = r[0]; no process assigns r, which has its start value
constant_register : h (reg_with (down_to_zero 3) "r" (plain 5) ∷ assign (to "q") (bit "r" (plain 0)) ∷ [])
    ≡ good (record {
      signals = one_bit "ca" 1 Input ∷ one_bit "cb" 1 Input ∷ one_bit "d" 1 Input ∷ one_bit "e" 1 Input ∷ ranged "v" 1 3 Input
          ∷ one_bit "q" 1 Wire ∷ ranged "o" 1 7 Wire ∷ ranged "r" 2 3 Wire ∷ [];
      assigns = (f.Whole 5, f.Read 7 0 1) ∷ (f.Whole 7, f.Number 4 5) ∷ [];
      combs = [];
      clocked = [];
      outputs = 5 ∷ 6 ∷ [];
    })
unfolding keyword_of is_left_out
constant_register = refl

-- reg r = 1; always @* r = d; assign q = r; one that a process assigns hasn't
started_wire : h (reg_with None "r" (plain 1) ∷ of_wires (blocking (to "r") (v "d")) ∷ assign (to "q") (v "r") ∷ [])
    ≡ h (reg None "r" ∷ of_wires (blocking (to "r") (v "d")) ∷ assign (to "q") (v "r") ∷ [])
unfolding keyword_of is_left_out
started_wire = refl

-- with the reset e: reg x, hold; always @(posedge ca or negedge e) if (!e) hold <= 0; else x <= d; assign q = hold;
-- what the first branch alone assigns keeps the value that the reset gives it
kept_by_reset : h_reset (reg None "x" ∷ reg None "hold"
    ∷ at_clock_or "ca" (on edge.Neg "e") (either (unary u.LogicNot (v "e")) (later (to "hold") (plain 0)) (later (to "x") (v "d")))
    ∷ assign (to "q") (v "hold") ∷ [])
    ≡ good (record {
      signals = one_bit "ca" 1 Input ∷ one_bit "cb" 1 Input ∷ one_bit "d" 1 Input ∷ one_bit "e" 1 Input ∷ ranged "v" 1 3 Input
          ∷ one_bit "q" 1 Wire ∷ ranged "o" 1 7 Wire ∷ one_bit "x" 2 Register ∷ starts_as 1 0 (one_bit "hold" 3 Register) ∷ [];
      assigns = (f.Whole 5, f.Read 8 0 1) ∷ [];
      combs = [];
      clocked = (0, f.Block (f.stmt (f.Set false (f.Whole 8) (f.Read 8 0 1)) (f.stmt (f.Set false (f.Whole 7) (f.Read 2 0 1)) f.no_stmts))) ∷ [];
      outputs = 5 ∷ 6 ∷ [];
    })
unfolding keyword_of is_left_out
kept_by_reset = refl

-- with the reset e: reg x; reg [1:0] r = 2; always @(posedge ca) if (!e) r[0] <= 1'b1; else x <= d; assign q = r[0];
-- the bits that it doesn't assign keep their start values too
kept_in_part : h_reset (reg None "x" ∷ reg_with (down_to_zero 1) "r" (plain 2)
    ∷ at_clock "ca" (either (unary u.LogicNot (v "e")) (later (to_bit "r" (plain 0)) (sized 1 1)) (later (to "x") (v "d")))
    ∷ assign (to "q") (bit "r" (plain 0)) ∷ [])
    ≡ good (record {
      signals = one_bit "ca" 1 Input ∷ one_bit "cb" 1 Input ∷ one_bit "d" 1 Input ∷ one_bit "e" 1 Input ∷ ranged "v" 1 3 Input
          ∷ one_bit "q" 1 Wire ∷ ranged "o" 1 7 Wire ∷ one_bit "x" 2 Register ∷ starts_as 3 3 (ranged "r" 3 1 Register) ∷ [];
      assigns = (f.Whole 5, f.Read 8 0 1) ∷ [];
      combs = [];
      clocked = (0, f.Block (f.stmt (f.Set false (f.Part 8 0 1) (f.Read 8 0 1)) (f.stmt (f.Set false (f.Whole 7) (f.Read 2 0 1)) f.no_stmts))) ∷ [];
      outputs = 5 ∷ 6 ∷ [];
    })
unfolding keyword_of is_left_out
kept_in_part = refl

-- with the reset e: reg [3:0] r = 5; always @(posedge ca or negedge e) begin if (!e) r[3] <= 1'b1; else r <= v; end assign q = r[0] & e;
-- the reset's value wins over the declaration's, bit by bit; elsewhere the reset reads as 1
with_reset : h_reset (reg_with (down_to_zero 3) "r" (plain 5)
    ∷ at_clock_or "ca" (on edge.Neg "e") (rows (either (unary u.LogicNot (v "e")) (later (to_bit "r" (plain 3)) (sized 1 1)) (later (to "r") (v "v")) ∷ []))
    ∷ assign (to "q") (binary b.And (bit "r" (plain 0)) (v "e")) ∷ [])
    ≡ good (record {
      signals = one_bit "ca" 1 Input ∷ one_bit "cb" 1 Input ∷ one_bit "d" 1 Input ∷ one_bit "e" 1 Input ∷ ranged "v" 1 3 Input
          ∷ one_bit "q" 1 Wire ∷ ranged "o" 1 7 Wire ∷ starts_as 15 13 (ranged "r" 2 3 Register) ∷ [];
      assigns = (f.Whole 5, f.Binary f.bitwise_and (f.Read 7 0 1) (f.Number 1 1)) ∷ [];
      combs = [];
      clocked = (0, f.Set false (f.Whole 7) (f.Read 4 0 4)) ∷ [];
      outputs = 5 ∷ 6 ∷ [];
    })
unfolding keyword_of is_left_out
with_reset = refl

-- with the reset e: reg r; always @(negedge e or posedge ca) if (!e) r <= 0; else r <= d; assign q = r; the edges may come in either order
reset_edge_first : h_reset (reg None "r"
    ∷ always (event.Edges (on edge.Neg "e" ∷ on edge.Pos "ca" ∷ []))
    (either (unary u.LogicNot (v "e")) (later (to "r") (plain 0)) (later (to "r") (v "d")))
    ∷ assign (to "q") (v "r") ∷ [])
    ≡ good (record {
      signals = one_bit "ca" 1 Input ∷ one_bit "cb" 1 Input ∷ one_bit "d" 1 Input ∷ one_bit "e" 1 Input ∷ ranged "v" 1 3 Input
          ∷ one_bit "q" 1 Wire ∷ ranged "o" 1 7 Wire ∷ starts_as 1 0 (one_bit "r" 2 Register) ∷ [];
      assigns = (f.Whole 5, f.Read 7 0 1) ∷ [];
      combs = [];
      clocked = (0, f.Set false (f.Whole 7) (f.Read 2 0 1)) ∷ [];
      outputs = 5 ∷ 6 ∷ [];
    })
unfolding keyword_of is_left_out
reset_edge_first = refl

-- with the reset e: reg r; always @(posedge ca or negedge e) if (!e || d) r <= 0; else r <= v[0]; assign q = r;
-- d clears the register beside the reset, so that the body keeps the `if`; the start value is known
clear_beside_reset : h_reset (reg None "r"
    ∷ at_clock_or "ca" (on edge.Neg "e")
    (either (binary b.LogicOr (unary u.LogicNot (v "e")) (v "d")) (later (to "r") (plain 0)) (later (to "r") (bit "v" (plain 0))))
    ∷ assign (to "q") (v "r") ∷ [])
    ≡ good (record {
      signals = one_bit "ca" 1 Input ∷ one_bit "cb" 1 Input ∷ one_bit "d" 1 Input ∷ one_bit "e" 1 Input ∷ ranged "v" 1 3 Input
          ∷ one_bit "q" 1 Wire ∷ ranged "o" 1 7 Wire ∷ starts_as 1 0 (one_bit "r" 2 Register) ∷ [];
      assigns = (f.Whole 5, f.Read 7 0 1) ∷ [];
      combs = [];
      clocked = (
        0,
        f.If (f.Binary f.logical_or (f.Unary f.logical_not (f.Number 1 1)) (f.Read 2 0 1))
            (f.Set false (f.Whole 7) (f.Number 32 0)) (f.Set false (f.Whole 7) (f.Read 4 0 1)),
      ) ∷ [];
      outputs = 5 ∷ 6 ∷ [];
    })
unfolding keyword_of is_left_out
clear_beside_reset = refl

-- with the reset e: reg r; always @(posedge ca or negedge e) casez ..; assign q = r;
abbrev at_reset : StmtTree → Outcome Flat
at_reset body = h_reset (reg None "r" ∷ at_clock_or "ca" (on edge.Neg "e") body ∷ assign (to "q") (v "r") ∷ [])

abbrev cleared : StmtTree
cleared = later (to "r") (plain 0)

abbrev loaded : StmtTree
loaded = later (to "r") (v "d")

abbrev signals_at_reset : List Signal
signals_at_reset = one_bit "ca" 1 Input ∷ one_bit "cb" 1 Input ∷ one_bit "d" 1 Input ∷ one_bit "e" 1 Input ∷ ranged "v" 1 3 Input
    ∷ one_bit "q" 1 Wire ∷ ranged "o" 1 7 Wire ∷ starts_as 1 0 (one_bit "r" 2 Register) ∷ []

-- casez (e) 1'b0: r <= 0; default: r <= d; endcase is an `if`
masked_reset : at_reset (switch_else (subject_of true (v "e")) (and_arms (by_value (sized 1 0) ∷ []) cleared no_arms) loaded)
    ≡ at_reset (either (unary u.LogicNot (v "e")) cleared loaded)
unfolding keyword_of is_left_out
masked_reset = refl

-- and so is casez (~e) 2'b?1: r <= 0; default: r <= d; endcase, but for its high bit
open_reset : at_reset (switch_else (subject_of true (unary u.Not (v "e"))) (and_arms (by_mask 1 2 2 ∷ []) cleared no_arms) loaded)
    ≡ at_reset (either (unary u.LogicNot (v "e")) cleared loaded)
unfolding keyword_of is_left_out
open_reset = refl

-- casez (~e) 2'b11: r <= 0; 1'b0: r <= d; endcase compares the second label at two bits as well, where ~e is 2'b10
wide_reset : at_reset (switch (subject_of true (unary u.Not (v "e"))) (and_arms (by_value (sized 2 3) ∷ []) cleared (and_arms (by_value (sized 1 0) ∷ []) loaded no_arms)))
    ≡ good (record {
      signals = signals_at_reset;
      assigns = (f.Whole 5, f.Read 7 0 1) ∷ [];
      combs = [];
      clocked = (0, f.If (f.Binary f.is_equal (f.Unary f.complement (f.Number 1 1)) (f.Number 2 0)) (f.Set false (f.Whole 7) (f.Read 2 0 1)) f.Null) ∷ [];
      outputs = 5 ∷ 6 ∷ [];
    })
unfolding keyword_of is_left_out
wide_reset = refl

-- casez (~e) 1'b1: r <= 0; 2'b00: r <= d; endcase has no reset form, since ~e is 2'b11 while the reset is active
wider_behind : at_reset (switch (subject_of true (unary u.Not (v "e"))) (and_arms (by_value (sized 1 1) ∷ []) cleared (and_arms (by_value (sized 2 0) ∷ []) loaded no_arms)))
    ≡ refused_at 317 3 "ca"
unfolding keyword_of is_left_out
wider_behind = refl

-- casez (e) 1'b0, 1'b?: r <= 0; default: r <= d; endcase tests something beside the reset, so that it stays whole
open_beside_reset : at_reset (switch_else (subject_of true (v "e")) (and_arms (by_value (sized 1 0) ∷ by_mask 0 1 1 ∷ []) cleared no_arms) loaded)
    ≡ good (record {
      signals = signals_at_reset;
      assigns = (f.Whole 5, f.Read 7 0 1) ∷ [];
      combs = [];
      clocked = (
        0,
        f.If (f.Binary f.logical_or (f.Binary f.is_equal (f.Number 1 1) (f.Number 1 0)) (f.Binary f.is_equal (f.Binary f.bitwise_and (f.Number 1 1) (f.Number 1 0)) (f.Number 1 0)))
            (f.Set false (f.Whole 7) (f.Number 32 0)) (f.Set false (f.Whole 7) (f.Read 2 0 1)),
      ) ∷ [];
      outputs = 5 ∷ 6 ∷ [];
    })
unfolding keyword_of is_left_out
open_beside_reset = refl

-- case (e) 1'b0: r <= 0; default: r <= d; endcase is no `if`
case_on_reset : at_reset (switch_else (subject_of false (v "e")) (and_arms (by_value (sized 1 0) ∷ []) cleared no_arms) loaded) ≡ refused_at 317 3 "ca"
unfolding keyword_of is_left_out
case_on_reset = refl

-- with the reset e: reg r; always @(posedge ca or negedge d) if (!d) r <= 0; else r <= v[0]; of two edges one is a reset's
edge_of_no_reset : h_reset (reg None "r"
    ∷ at_clock_or "ca" (on edge.Neg "d")
    (either (unary u.LogicNot (v "d")) (later (to "r") (plain 0)) (later (to "r") (bit "v" (plain 0)))) ∷ []) ≡ refused_at 317 3 "ca"
unfolding keyword_of is_left_out
edge_of_no_reset = refl

-- module n(input c, d, output b); reg r, x; always @(posedge c) r <= d;
-- always @(posedge c or negedge r) if (!r) x <= 0; else x <= d; assign b = x & r; endmodule
-- module m(input c, d, output q); n u(c, d, q); endmodule
-- with the reset u.r, active low: the register resets as its printed name says, and reads as 1 elsewhere
reset_of_an_instance : unfolded (
    a_module "n" [] (input "c" ∷ input "d" ∷ output "b" ∷ []) (
    reg None "r"
    ∷ reg None "x"
    ∷ at_clock "c" (later (to "r") (v "d"))
    ∷ at_clock_or "c" (on edge.Neg "r") (either (unary u.LogicNot (v "r")) (later (to "x") (plain 0)) (later (to "x") (v "d")))
    ∷ assign (to "b") (binary b.And (v "x") (v "r"))
    ∷ [])
    ∷ a_module "m" [] (input "c" ∷ input "d" ∷ output "q" ∷ []) (instance_of "n" "u" (v "c" ∷ v "d" ∷ v "q" ∷ []) ∷ [])
    ∷ []) (codes "m") (record { name = codes "u.r"; high = false } ∷ []) []
    ≡ good (record {
      signals = one_bit "c" 1 Input ∷ one_bit "d" 1 Input ∷ one_bit "q" 1 Wire ∷ one_bit "u.c" 1 Wire ∷ one_bit "u.d" 1 Wire ∷ one_bit "u.b" 1 Wire
          ∷ one_bit "u.r" 2 Register ∷ starts_as 1 0 (one_bit "u.x" 3 Register) ∷ [];
      assigns = (f.Whole 3, f.Read 0 0 1) ∷ (f.Whole 4, f.Read 1 0 1) ∷ (f.Whole 2, f.Read 5 0 1)
          ∷ (f.Whole 5, f.Binary f.bitwise_and (f.Read 7 0 1) (f.Number 1 1)) ∷ [];
      combs = [];
      clocked = (3, f.Set false (f.Whole 6) (f.Read 4 0 1)) ∷ (3, f.Set false (f.Whole 7) (f.Read 4 0 1)) ∷ [];
      outputs = 2 ∷ [];
    })
unfolding keyword_of is_left_out
reset_of_an_instance = refl

-- module n(input c, output b); endmodule module m(input c, output q); n u(c, q); endmodule
-- with the reset u.b, active low, which nothing drives: q reads its inactive level
output_that_is_a_reset : unfolded (
    a_module "n" [] (input "c" ∷ output "b" ∷ []) []
    ∷ a_module "m" [] (input "c" ∷ output "q" ∷ []) (instance_of "n" "u" (v "c" ∷ v "q" ∷ []) ∷ [])
    ∷ []) (codes "m") (record { name = codes "u.b"; high = false } ∷ []) []
    ≡ good (record {
      signals = one_bit "c" 1 Input ∷ one_bit "q" 1 Wire ∷ one_bit "u.c" 1 Wire ∷ one_bit "u.b" 1 Input ∷ [];
      assigns = (f.Whole 2, f.Read 0 0 1) ∷ (f.Whole 1, f.Number 1 1) ∷ [];
      combs = [];
      clocked = [];
      outputs = 1 ∷ [];
    })
unfolding keyword_of is_left_out
output_that_is_a_reset = refl
