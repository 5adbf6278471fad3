-- What is printed of items, headers and modules.
use Rattle.std.proofs.Common.{◌≡◌, ◌≢◌, List, [], ◌∷◌, ◌++◌, map, length, Option, Some, refl, sym, ap, ◌∙◌}
use Rattle.cdc_base.specs.declared.words.Keyword.{Keyword}
use Rattle.cdc_base.specs.declared.words.Keyword.TheVariants as k
use Rattle.verilog_ast.specs.declared.Expr.{Expr}
use Rattle.verilog_ast.specs.declared.Range.{Range}
use Rattle.verilog_ast.specs.declared.ParamDecl.{ParamDecl}
use Rattle.verilog_ast.specs.declared.Decl.{Decl}
use Rattle.verilog_ast.specs.declared.Port.{Port}
use Rattle.verilog_ast.specs.declared.GateKind.{GateKind}
use Rattle.verilog_ast.specs.declared.Conn.{Conn}
use Rattle.verilog_ast.specs.declared.Conns.{Conns}
use Rattle.verilog_ast.specs.declared.Conns.TheVariants.{Ordered, Named}
use Rattle.verilog_ast.specs.declared.Edge.{Edge}
use Rattle.verilog_ast.specs.declared.Event.{Event}
use Rattle.verilog_ast.specs.declared.Event.TheVariants as event
use Rattle.verilog_ast.specs.declared.Item.{Item}
use Rattle.verilog_ast.specs.declared.ItemBody.{ItemBody}
use Rattle.verilog_ast.specs.declared.ItemBody.TheVariants as body
use Rattle.verilog_ast.specs.declared.Stmt.{Stmt}
use Rattle.verilog_ast.specs.declared.Module.{Module}
use Rattle.verilog_ast.specs.declared.Source.{Source}
use Rattle.verilog_lex.specs.declared.marks.MarkKind.TheVariants.{ParenOpen, ParenClose, BracketOpen, BracketClose, Colon, Semicolon, Equals, Hash, At}
use Rattle.verilog_reading.specs.ExprTree.{tree_of}
use Rattle.verilog_reading.specs.ItemReading.{param_word}
use Rattle.verilog_reading.specs.SourceTree.{maybe, conn_of, conns_of, param_of, port_of, body_of, item_of, module_of}
use Rattle.verilog_parse.specs.Pieces.{expr_pieces, gate_word, body_pieces, gate_pieces, value_pieces, conn_pieces, entries_pieces, edge_pieces, event_pieces, param_pieces, port_pieces, item_pieces, module_pieces}
use Rattle.verilog_parse.specs.Printed.{Printed, word, mark, ident, new_line, with_commas, separated, in_turn}
use Rattle.verilog_parse.specs.Texts.{printed_expr, printed_stmt, printed_range, printed_param, printed_decl, printed_value, printed_conn, printed_item, printed_header, printed_port, printed_module, printed_source}
use Rattle.verilog_parse.proofs.TextSteps.{map_twice}

pub gate_printed : (kind : GateKind) (es : List Expr) (w : Keyword) → w ≡ gate_word kind
    → gate_pieces kind (map tree_of es) ≡ word w ++ (mark ParenOpen ++ (with_commas (map printed_expr es) ++ (mark ParenClose ++ mark Semicolon)))
gate_printed kind es w p = ap (λ z. word (gate_word kind) ++ (mark ParenOpen ++ (with_commas z ++ (mark ParenClose ++ mark Semicolon)))) (map_twice tree_of expr_pieces es)
    ∙ ap (λ z. word z ++ (mark ParenOpen ++ (with_commas (map printed_expr es) ++ (mark ParenClose ++ mark Semicolon)))) (sym p)

pub param_printed : (p : ParamDecl) (w : Keyword) → w ≡ param_word p.local
    → printed_param p ≡ word w ++ (printed_range p.range ++ (ident p.name ++ (mark Equals ++ printed_expr p.value)))
param_printed p w q = ap (λ z. word z ++ (printed_range p.range ++ (ident p.name ++ (mark Equals ++ printed_expr p.value)))) (sym q)

pub range_printed : (o : Option Range) (r : Range) → o ≡ Some r
    → printed_range o ≡ mark BracketOpen ++ ((printed_expr r.left ++ (mark Colon ++ printed_expr r.right)) ++ mark BracketClose)
range_printed o r p = ap printed_range p

pub ordered_printed : (c : Conns) (es us : List (Option Expr)) → c ≡ Ordered es → us ≡ es → entries_pieces (conns_of c) ≡ with_commas (map printed_value us)
ordered_printed c es us p q = ap (λ z. entries_pieces (conns_of z)) p ∙ ap with_commas (map_twice (maybe tree_of) value_pieces es) ∙ ap (λ z. with_commas (map printed_value z)) (sym q)

pub named_printed : (c : Conns) (cs us : List Conn) → c ≡ Named cs → us ≡ cs → entries_pieces (conns_of c) ≡ with_commas (map printed_conn us)
named_printed c cs us p q = ap (λ z. entries_pieces (conns_of z)) p ∙ ap with_commas (map_twice conn_of conn_pieces cs) ∙ ap (λ z. with_commas (map printed_conn z)) (sym q)

pub edges_printed : (e : Event) (es us : List Edge) → e ≡ event.Edges es → us ≡ es → event_pieces e ≡ mark At ++ (mark ParenOpen ++ (separated (word k.Or) (map edge_pieces us) ++ mark ParenClose))
edges_printed e es us p q = ap event_pieces p ∙ ap (λ z. mark At ++ (mark ParenOpen ++ (separated (word k.Or) (map edge_pieces z) ++ mark ParenClose))) (sym q)

pub param_body : (b : ItemBody) (p : ParamDecl) → b ≡ body.Param p → body_pieces (body_of b) ≡ printed_param p ++ mark Semicolon
param_body b p e = ap (λ z. body_pieces (body_of z)) e

pub decl_body : (b : ItemBody) (d : Decl) → b ≡ body.Decl d → body_pieces (body_of b) ≡ printed_decl d ++ mark Semicolon
decl_body b d e = ap (λ z. body_pieces (body_of z)) e

pub always_body : (b : ItemBody) (e : Event) (s : Stmt) → b ≡ body.Always e s → body_pieces (body_of b) ≡ word k.Always ++ (event_pieces e ++ printed_stmt s)
always_body b e s p = ap (λ z. body_pieces (body_of z)) p

pub header_some : (ps : List ParamDecl) → length ps ≢ 0 → printed_header ps ≡ mark Hash ++ (mark ParenOpen ++ (with_commas (map printed_param ps) ++ mark ParenClose))
header_some [] p = absurd (p refl)
header_some (q ∷ ps) p = ap (λ z. mark Hash ++ (mark ParenOpen ++ (with_commas z ++ mark ParenClose))) (map_twice param_of param_pieces (q ∷ ps))

pub module_printed : (s : Module) (ports : List Port) (items : List Item) (params : List ParamDecl) → params ≡ s.params → ports ≡ s.ports → items ≡ s.items
    → printed_module s ≡ word k.Module ++ (ident s.name ++ (printed_header params ++ (mark ParenOpen ++ (with_commas (map printed_port ports) ++ (mark ParenClose ++ (mark Semicolon ++ (new_line
    ++ (in_turn (map printed_item items) ++ (word k.EndModule ++ new_line)))))))))
module_printed s ports items params p q r = ap (λ z. whole (printed_header s.params) z (map item_pieces (map item_of s.items))) (map_twice port_of port_pieces s.ports)
    ∙ ap (λ z. whole (printed_header s.params) (map printed_port s.ports) z) (map_twice item_of item_pieces s.items)
    ∙ ap (λ z. whole (printed_header z) (map printed_port s.ports) (map printed_item s.items)) (sym p)
    ∙ ap (λ z. whole (printed_header params) (map printed_port z) (map printed_item s.items)) (sym q)
    ∙ ap (λ z. whole (printed_header params) (map printed_port ports) (map printed_item z)) (sym r)
  where
    whole : List Printed → List (List Printed) → List (List Printed) → List Printed
    whole header ps is = word k.Module ++ (ident s.name ++ (header ++ (mark ParenOpen ++ (with_commas ps ++ (mark ParenClose ++ (mark Semicolon ++ (new_line
        ++ (in_turn is ++ (word k.EndModule ++ new_line)))))))))

pub source_printed : (s : Source) (ms : List Module) → ms ≡ s.modules → printed_source s ≡ in_turn (map printed_module ms)
source_printed s ms p = ap in_turn (map_twice module_of module_pieces s.modules) ∙ ap (λ z. in_turn (map printed_module z)) (sym p)
