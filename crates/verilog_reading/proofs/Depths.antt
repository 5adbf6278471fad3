-- The depth of a Rust value is that of its tree.
use Rattle.std.proofs.Common.{◌≡◌, ◌≤◌, ◌↔◌, ℕ, suc, max, List, [], ◌∷◌, map, Option, Some, None, refl, sym, ap, subst, ◌∙◌, arith}
use Rattle.verilog_ast.specs.declared.Expr.{Expr, map-Expr}
use Rattle.verilog_ast.specs.declared.Expr.TheOpen.{Expr-F}
use Rattle.verilog_ast.specs.declared.Expr.TheFolds.{ind-Expr, fold-roll-Expr}
use Rattle.verilog_ast.specs.declared.Target.{Target, map-Target}
use Rattle.verilog_ast.specs.declared.Target.TheOpen.{Target-F}
use Rattle.verilog_ast.specs.declared.Target.TheFolds.{ind-Target, fold-roll-Target}
use Rattle.verilog_ast.specs.declared.Stmt.{Stmt, map-Stmt}
use Rattle.verilog_ast.specs.declared.CaseItem.{CaseItem, map-CaseItem}
use Rattle.verilog_ast.specs.declared.Label.{Label}
use Rattle.verilog_ast.specs.declared.Label.TheVariants as label
use Rattle.verilog_ast.specs.declared.Stmt.TheOpen.{Stmt-F, CaseItem-F}
use Rattle.verilog_ast.specs.declared.Stmt.TheFolds.{fold-CaseItem, ind-Stmt, fold-roll-Stmt, fold-roll-CaseItem}
use Rattle.verilog_ast.specs.Depth.{expr_depth, expr_step, label_depth, greatest, optional, range_depth, param_depth, decl_depth, port_depth, conn_depth, conns_depth, body_depth, item_depth, module_depth, source_depth, target_depth, target_step, stmt_depth, stmt_step, case_item_depth, case_item_step}
use Rattle.verilog_reading.specs.StmtTree.{StmtTree, ArmTree, stmt_trees_of, arms_of, stmt_tree_of, stmt_tree_step, arm_tree_step, stmt_height, row_heights, arm_heights, label_tree_of, label_height, label_heights}
use Rattle.verilog_ast.specs.declared.Range.{Range}
use Rattle.verilog_ast.specs.declared.ParamDecl.{ParamDecl}
use Rattle.verilog_ast.specs.declared.Decl.{Decl}
use Rattle.verilog_ast.specs.declared.Port.{Port}
use Rattle.verilog_ast.specs.declared.Conn.{Conn}
use Rattle.verilog_ast.specs.declared.Conns.{Conns}
use Rattle.verilog_ast.specs.declared.Conns.TheVariants as conns
use Rattle.verilog_ast.specs.declared.ItemBody.{ItemBody}
use Rattle.verilog_ast.specs.declared.ItemBody.TheVariants as body
use Rattle.verilog_ast.specs.declared.Item.{Item}
use Rattle.verilog_ast.specs.declared.Module.{Module}
use Rattle.verilog_ast.specs.declared.Source.{Source}
use Rattle.verilog_reading.specs.SourceTree.{maybe, bounds_of, param_of, decl_of, port_of, conn_of, conns_of, body_of, item_of, module_of, source_of, most, in_option, bounds_height, param_height, decl_height, port_height, conn_height, conns_height, body_height, item_height, module_height, source_height}
use Rattle.verilog_reading.proofs.StmtSays.{arm_height}
use Rattle.verilog_reading.specs.ExprTree.{ExprTree, tree_of, expr_tree_step, trees_of, depth, height, heights, TargetTree, target_tree_of, target_tree_step, target_trees_of, target_height, target_heights}

abbrev Same : Expr → Type 0
Same e = expr_depth e ≡ depth (tree_of e)

list_same : (es : List ((e : Expr) × Same e)) → greatest (map expr_depth (map (λ e. e.0) es)) ≡ heights (trees_of (map tree_of (map (λ e. e.0) es)))
list_same [] = refl
list_same (e ∷ es) = let h = e.1 in let i = list_same es in omega (arith, h, i)

layer_same : (y : Expr-F ((e : Expr) × Same e)) → expr_step (map-Expr Expr ℕ expr_depth (map-Expr ((e : Expr) × Same e) Expr (λ e. e.0) y)) ≡ depth (expr_tree_step (map-Expr Expr ExprTree tree_of (map-Expr ((e : Expr) × Same e) Expr (λ e. e.0) y)))
layer_same (Expr-F.Number value width spelt) = refl
layer_same (Expr-F.Ident n) = refl
layer_same (Expr-F.At n i) = let h = i.value.1 in omega (arith, h)
layer_same (Expr-F.Part n kind a b) = let h = a.value.1 in let j = b.value.1 in omega (arith, h, j)
layer_same (Expr-F.Unary op a) = let h = a.value.1 in omega (arith, h)
layer_same (Expr-F.Binary op a b) = let h = a.value.1 in let j = b.value.1 in omega (arith, h, j)
layer_same (Expr-F.Choose c a b) = let h = c.value.1 in let i = a.value.1 in let j = b.value.1 in omega (arith, h, i, j)
layer_same (Expr-F.Join parts) = let h = list_same parts in omega (arith, h)
layer_same (Expr-F.Repeat c parts) = let h = c.value.1 in let i = list_same parts in omega (arith, h, i)
layer_same (Expr-F.Paren a) = let h = a.value.1 in omega (arith, h)

pub expr_same : (e : Expr) → expr_depth e ≡ depth (tree_of e)
expr_same = ind-Expr Same (λ x y is. fold-roll-Expr ℕ expr_step x ∙ subst (λ z. expr_step (map-Expr Expr ℕ expr_depth z) ≡ depth (expr_tree_step (map-Expr Expr ExprTree tree_of z))) is (layer_same y) ∙ ap depth (sym (fold-roll-Expr ExprTree expr_tree_step x)))

abbrev SameTarget : Target → Type 0
SameTarget t = target_depth t ≡ suc (target_height (target_tree_of t))

targets_same : (es : List ((e : Target) × SameTarget e)) → greatest (map target_depth (map (λ e. e.0) es)) ≡ target_heights (target_trees_of (map target_tree_of (map (λ e. e.0) es)))
targets_same [] = refl
targets_same (e ∷ es) = let h = e.1 in let i = targets_same es in omega (arith, h, i)

target_layer : (y : Target-F ((e : Target) × SameTarget e)) → target_step (map-Target Target ℕ target_depth (map-Target ((e : Target) × SameTarget e) Target (λ e. e.0) y)) ≡ suc (target_height (target_tree_step (map-Target Target TargetTree target_tree_of (map-Target ((e : Target) × SameTarget e) Target (λ e. e.0) y))))
target_layer (Target-F.Whole n) = refl
target_layer (Target-F.At n i) = let h = expr_same i in omega (arith, h)
target_layer (Target-F.Part n kind a b) = let h = expr_same a in let j = expr_same b in omega (arith, h, j)
target_layer (Target-F.Join parts) = let h = targets_same parts in omega (arith, h)

pub target_same : (t : Target) → target_depth t ≡ suc (target_height (target_tree_of t))
target_same = ind-Target SameTarget (λ x y is. fold-roll-Target ℕ target_step x ∙ subst (λ z. target_step (map-Target Target ℕ target_depth z) ≡ suc (target_height (target_tree_step (map-Target Target TargetTree target_tree_of z)))) is (target_layer y)
    ∙ ap (λ a. suc (target_height a)) (sym (fold-roll-Target TargetTree target_tree_step x)))

abbrev SameStmt : Stmt → Type 0
SameStmt s = stmt_depth s ≡ suc (stmt_height (stmt_tree_of s))

abbrev SameItem : CaseItem → Type 0
SameItem i = case_item_depth i ≡ suc (arm_height (fold-CaseItem StmtTree ArmTree stmt_tree_step arm_tree_step i))

abbrev S : Type 0
S = (s : Stmt) × SameStmt s

abbrev I : Type 0
I = (i : CaseItem) × SameItem i

abbrev stmt_at : Stmt-F S I → Stmt-F Stmt CaseItem
stmt_at = map-Stmt S I Stmt CaseItem (λ e. e.0) (λ e. e.0)

abbrev item_at : CaseItem-F S I → CaseItem-F Stmt CaseItem
item_at = map-CaseItem S I Stmt CaseItem (λ e. e.0) (λ e. e.0)

abbrev depth_layer : Stmt-F Stmt CaseItem → ℕ
depth_layer x = stmt_step (map-Stmt Stmt CaseItem ℕ ℕ stmt_depth case_item_depth x)

abbrev arm_of : CaseItem → ArmTree
arm_of = fold-CaseItem StmtTree ArmTree stmt_tree_step arm_tree_step

abbrev tree_layer : Stmt-F Stmt CaseItem → StmtTree
tree_layer x = stmt_tree_step (map-Stmt Stmt CaseItem StmtTree ArmTree stmt_tree_of arm_of x)

stmts_same : (es : List S) → greatest (map stmt_depth (map (λ e. e.0) es)) ≡ row_heights (stmt_trees_of (map stmt_tree_of (map (λ e. e.0) es)))
stmts_same [] = refl
stmts_same (e ∷ es) = let h = e.1 in let i = stmts_same es in omega (arith, h, i)

items_same : (es : List I) → max 1 (greatest (map case_item_depth (map (λ e. e.0) es))) ≡ suc (arm_heights (arms_of (map arm_of (map (λ e. e.0) es))))
items_same [] = refl
items_same (e ∷ es) = let h = e.1 in let i = items_same es in omega (arith, h, i)

label_same : (a : Label) → label_depth a ≡ suc (label_height (label_tree_of a))
label_same (label.Value e) = expr_same e
label_same (label.Mask value opened width) = refl

labels_same : (es : List Label) → max 1 (greatest (map label_depth es)) ≡ suc (label_heights (map label_tree_of es))
labels_same [] = refl
labels_same (e ∷ es) = let h = label_same e in let i = labels_same es in omega (arith, h, i)

stmt_layer : (y : Stmt-F S I) → depth_layer (stmt_at y) ≡ suc (stmt_height (tree_layer (stmt_at y)))
stmt_layer Stmt-F.Null = refl
stmt_layer (Stmt-F.Set b d t e) = let h = target_same t in let i = expr_same e in omega (arith, h, i)
stmt_layer (Stmt-F.If c a None) = let h = expr_same c in let i = a.value.1 in omega (arith, h, i)
stmt_layer (Stmt-F.If c a (Some z)) = let h = expr_same c in let i = a.value.1 in let j = z.value.1 in omega (arith, h, i, j)
stmt_layer (Stmt-F.Case masks c items None) = let h = expr_same c in let i = items_same items in omega (arith, h, i)
stmt_layer (Stmt-F.Case masks c items (Some z)) = let h = expr_same c in let i = items_same items in let j = z.value.1 in omega (arith, h, i, j)
stmt_layer (Stmt-F.Block parts) = let h = stmts_same parts in omega (arith, h)

item_layer : (y : CaseItem-F S I) → case_item_step (map-CaseItem Stmt CaseItem ℕ ℕ stmt_depth case_item_depth (item_at y)) ≡ suc (arm_height (arm_tree_step (map-CaseItem Stmt CaseItem StmtTree ArmTree stmt_tree_of arm_of (item_at y))))
item_layer y = let h = labels_same y.labels in let i = y.body.1 in omega (arith, h, i)

pub stmt_same : (s : Stmt) → SameStmt s
stmt_same = ind-Stmt SameStmt SameItem
    (λ x y is. fold-roll-Stmt ℕ ℕ stmt_step case_item_step x ∙ subst (λ z. depth_layer z ≡ suc (stmt_height (tree_layer z))) is (stmt_layer y) ∙ ap (λ a. suc (stmt_height a)) (sym (fold-roll-Stmt StmtTree ArmTree stmt_tree_step arm_tree_step x)))
    (λ x y is. fold-roll-CaseItem ℕ ℕ stmt_step case_item_step x
    ∙ subst (λ z. case_item_step (map-CaseItem Stmt CaseItem ℕ ℕ stmt_depth case_item_depth z) ≡ suc (arm_height (arm_tree_step (map-CaseItem Stmt CaseItem StmtTree ArmTree stmt_tree_of arm_of z)))) is (item_layer y)
    ∙ ap (λ a. suc (arm_height a)) (sym (fold-roll-CaseItem StmtTree ArmTree stmt_tree_step arm_tree_step x)))

-- of items, whose depth may be none: 0, or one more than the height
abbrev Agree : ℕ → ℕ → Type 0
Agree d h = max 1 d ≡ suc h

agree : (d h : ℕ) → d ≡ suc h → Agree d h
agree d h e = omega (arith, e)

agree_max : (d e h i : ℕ) → Agree d h → Agree e i → Agree (max d e) (max h i)
agree_max d e h i p q = omega (arith, p, q)

agree_all : {A B : Type 0} (d : A → ℕ) (f : A → B) (h : B → ℕ) → ((a : A) → Agree (d a) (h (f a))) → (xs : List A) → Agree (greatest (map d xs)) (most h (map f xs))
agree_all d f h e [] = refl
agree_all d f h e (x ∷ xs) = agree_max (d x) (greatest (map d xs)) (h (f x)) (most h (map f xs)) (e x) (agree_all d f h e xs)

agree_option : {A B : Type 0} (d : A → ℕ) (f : A → B) (h : B → ℕ) → ((a : A) → Agree (d a) (h (f a))) → (x : Option A) → Agree (optional d x) (in_option h (maybe f x))
agree_option d f h e None = refl
agree_option d f h e (Some a) = e a

expr_agrees : (e : Expr) → Agree (expr_depth e) (height (tree_of e))
expr_agrees e = agree (expr_depth e) (height (tree_of e)) (expr_same e)

range_agrees : (r : Range) → Agree (range_depth r) (bounds_height (bounds_of r))
range_agrees r = agree_max (expr_depth r.left) (expr_depth r.right) (height (tree_of r.left)) (height (tree_of r.right)) (expr_agrees r.left) (expr_agrees r.right)

maybe_range_agrees : (r : Option Range) → Agree (optional range_depth r) (in_option bounds_height (maybe bounds_of r))
maybe_range_agrees = agree_option range_depth bounds_of bounds_height range_agrees

maybe_expr_agrees : (e : Option Expr) → Agree (optional expr_depth e) (in_option height (maybe tree_of e))
maybe_expr_agrees = agree_option expr_depth tree_of height expr_agrees

param_agrees : (p : ParamDecl) → Agree (param_depth p) (param_height (param_of p))
param_agrees p = let h = maybe_range_agrees p.range in let i = expr_agrees p.value in omega (arith, h, i)

decl_agrees : (d : Decl) → Agree (decl_depth d) (decl_height (decl_of d))
decl_agrees d = let h = maybe_range_agrees d.range in let i = maybe_expr_agrees d.init in let j = maybe_range_agrees d.array in omega (arith, h, i, j)

port_agrees : (p : Port) → Agree (port_depth p) (port_height (port_of p))
port_agrees p = agree_option decl_depth decl_of decl_height decl_agrees p.decl

conn_agrees : (c : Conn) → Agree (conn_depth c) (conn_height (conn_of c))
conn_agrees c = maybe_expr_agrees c.value

conns_agree : (c : Conns) → Agree (conns_depth c) (conns_height (conns_of c))
conns_agree (conns.Ordered entries) = agree_all (optional expr_depth) (maybe tree_of) (in_option height) maybe_expr_agrees entries
conns_agree (conns.Named entries) = agree_all conn_depth conn_of conn_height conn_agrees entries

body_agrees : (b : ItemBody) → Agree (body_depth b) (body_height (body_of b))
body_agrees (body.Param p) = param_agrees p
body_agrees (body.Decl d) = decl_agrees d
body_agrees (body.Assign t e) = let h = target_same t in let i = expr_same e in omega (arith, h, i)
body_agrees (body.Gate kind terminals) = agree_all expr_depth tree_of height expr_agrees terminals
body_agrees (body.Instance child params name ports) = let h = conns_agree params in let i = conns_agree ports in omega (arith, h, i)
body_agrees (body.Always event s) = let h = stmt_same s in omega (arith, h)
body_agrees (body.Initial s) = let h = stmt_same s in omega (arith, h)

item_agrees : (i : Item) → Agree (item_depth i) (item_height (item_of i))
item_agrees i = body_agrees i.body

module_agrees : (m : Module) → Agree (module_depth m) (module_height (module_of m))
module_agrees m =
    let h = agree_all param_depth param_of param_height param_agrees m.params in
    let i = agree_all port_depth port_of port_height port_agrees m.ports in
    let j = agree_all item_depth item_of item_height item_agrees m.items in
    omega (arith, h, i, j)

source_agrees : (s : Source) → Agree (source_depth s) (source_height (source_of s))
source_agrees s = agree_all module_depth module_of module_height module_agrees s.modules

pub source_same : (s : Source) (k : ℕ) → (source_depth s ≤ suc k) ↔ (source_height (source_of s) ≤ k)
source_same s k = let h = source_agrees s in (λ i. omega (arith, h, i), λ i. omega (arith, h, i))
