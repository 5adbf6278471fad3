-- What is printed of the values of the Rust types.
use Rattle.std.specs.Prelude.{ℕ, Bool, true, false, List, [], ◌∷◌, map, Option, Some, None, Box}
use Rattle.std.specs.declared.alloc.Global.{Global}
use Rattle.verilog_ast.specs.declared.Expr.{Expr}
use Rattle.verilog_ast.specs.declared.Target.{Target}
use Rattle.verilog_ast.specs.declared.Stmt.{Stmt}
use Rattle.verilog_ast.specs.declared.CaseItem.{CaseItem}
use Rattle.verilog_ast.specs.declared.Label.{Label}
use Rattle.verilog_ast.specs.declared.Range.{Range}
use Rattle.verilog_ast.specs.declared.ParamDecl.{ParamDecl}
use Rattle.verilog_ast.specs.declared.Decl.{Decl}
use Rattle.verilog_ast.specs.declared.Port.{Port}
use Rattle.verilog_ast.specs.declared.Conn.{Conn}
use Rattle.verilog_ast.specs.declared.Conns.{Conns}
use Rattle.verilog_ast.specs.declared.Item.{Item}
use Rattle.verilog_ast.specs.declared.Module.{Module}
use Rattle.verilog_ast.specs.declared.Source.{Source}
use Rattle.verilog_reading.specs.ExprTree.{tree_of, target_tree_of}
use Rattle.verilog_reading.specs.StmtTree.{ArmTree, label_tree_of, stmt_tree_of}
use Rattle.verilog_reading.specs.SourceTree.{maybe, bounds_of, param_of, decl_of, port_of, conn_of, ConnsTree, ordered, named, conns_of, item_of, module_of, source_of}
use Rattle.verilog_stmts.specs.Forms.{arm_tree_of}
use Rattle.verilog_parse.specs.Printed.{Printed, bytes_of}
use Rattle.verilog_parse.specs.Pieces.{expr_pieces, target_pieces, stmt_pieces, label_pieces, row_line, arm_line, default_line, if_any, bounds_pieces, init_pieces, param_pieces, decl_pieces, value_pieces, conn_pieces, conns_pieces, item_pieces, header_pieces, is_short, port_pieces, module_pieces, source_pieces}

abbrev pub printed_expr : Expr → List Printed
printed_expr e = expr_pieces (tree_of e)

abbrev pub printed_target : Target → List Printed
printed_target t = target_pieces (target_tree_of t)

abbrev pub printed_stmt : Stmt → List Printed
printed_stmt s = stmt_pieces (stmt_tree_of s)

-- a line of a block
abbrev pub printed_row : Stmt → List Printed
printed_row s = row_line (printed_stmt s)

-- a line of a `case`
abbrev pub arm_pieces : ArmTree → List Printed
arm_pieces a = arm_line a.labels (stmt_pieces a.body)

abbrev pub printed_arm : CaseItem → List Printed
printed_arm i = arm_pieces (arm_tree_of i)

abbrev pub printed_label : Label → List Printed
printed_label a = label_pieces (label_tree_of a)

abbrev pub printed_default : Option (Box Stmt Global) → List Printed
printed_default None = []
printed_default (Some b) = default_line (printed_stmt b.value)

abbrev pub printed_range : Option Range → List Printed
printed_range r = if_any bounds_pieces (maybe bounds_of r)

abbrev pub printed_init : Option Expr → List Printed
printed_init e = init_pieces (maybe tree_of e)

abbrev pub printed_param : ParamDecl → List Printed
printed_param p = param_pieces (param_of p)

abbrev pub printed_decl : Decl → List Printed
printed_decl d = decl_pieces (decl_of d)

abbrev pub printed_value : Option Expr → List Printed
printed_value e = value_pieces (maybe tree_of e)

abbrev pub printed_conn : Conn → List Printed
printed_conn c = conn_pieces (conn_of c)

abbrev pub printed_conns : Conns → List Printed
printed_conns c = conns_pieces (conns_of c)

-- overrides that are left out
abbrev pub no_entries : ConnsTree → Bool
no_entries (ordered []) = true
no_entries (ordered (e ∷ es)) = false
no_entries (named cs) = false

abbrev pub is_empty_list : Conns → Bool
is_empty_list c = no_entries (conns_of c)

abbrev pub printed_item : Item → List Printed
printed_item i = item_pieces (item_of i)

abbrev pub printed_header : List ParamDecl → List Printed
printed_header ps = header_pieces (map param_of ps)

abbrev pub printed_port : Port → List Printed
printed_port p = port_pieces (port_of p)

abbrev pub short_decl : Decl → Bool
short_decl d = is_short d.kind (maybe tree_of d.init)

abbrev pub printed_module : Module → List Printed
printed_module s = module_pieces (module_of s)

abbrev pub printed_source : Source → List Printed
printed_source s = source_pieces (source_of s)

-- the text of a source
abbrev pub source_text : Source → List ℕ
source_text s = bytes_of (printed_source s)
