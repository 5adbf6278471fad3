-- Items, modules and sources without their pointers, and how deep they are.
use Rattle.std.specs.Prelude.{ℕ, max, Bool, List, [], ◌∷◌, ◌++◌, map, Option, Some, None}
use Rattle.cdc_base.specs.declared.fault.Place.{Place}
use Rattle.verilog_ast.specs.declared.Range.{Range}
use Rattle.verilog_ast.specs.declared.ParamDecl.{ParamDecl}
use Rattle.verilog_ast.specs.declared.DeclKind.{DeclKind}
use Rattle.verilog_ast.specs.declared.Decl.{Decl}
use Rattle.verilog_ast.specs.declared.Port.{Port}
use Rattle.verilog_ast.specs.declared.GateKind.{GateKind}
use Rattle.verilog_ast.specs.declared.Conn.{Conn}
use Rattle.verilog_ast.specs.declared.Conns.{Conns}
use Rattle.verilog_ast.specs.declared.Conns.TheVariants as conns
use Rattle.verilog_ast.specs.declared.Event.{Event}
use Rattle.verilog_ast.specs.declared.ItemBody.{ItemBody}
use Rattle.verilog_ast.specs.declared.ItemBody.TheVariants as body
use Rattle.verilog_ast.specs.declared.Item.{Item}
use Rattle.verilog_ast.specs.declared.Module.{Module}
use Rattle.verilog_ast.specs.declared.Source.{Source}
use Rattle.verilog_reading.specs.ExprTree.{ExprTree, tree_of, height, TargetTree, target_tree_of, target_height}
use Rattle.verilog_reading.specs.StmtTree.{StmtTree, stmt_tree_of, stmt_height}

pub record Bounds : Type 0 where
  pub left : ExprTree
  pub right : ExprTree

pub record ParamTree : Type 0 where
  pub local : Bool
  pub range : Option Bounds
  pub name : List ℕ
  pub value : ExprTree

pub record DeclTree : Type 0 where
  pub kind : DeclKind
  pub range : Option Bounds
  pub name : List ℕ
  pub init : Option ExprTree
  pub array : Option Bounds

pub record PortTree : Type 0 where
  pub name : List ℕ
  pub decl : Option DeclTree

pub record ConnTree : Type 0 where
  pub name : List ℕ
  pub value : Option ExprTree

pub data ConnsTree : Type 0 where
  ordered : List (Option ExprTree) → ConnsTree
  named : List ConnTree → ConnsTree

pub data BodyTree : Type 0 where
  param : ParamTree → BodyTree
  decl : DeclTree → BodyTree
  assign : TargetTree → ExprTree → BodyTree
  gate : GateKind → List ExprTree → BodyTree
  instance : List ℕ → ConnsTree → List ℕ → ConnsTree → BodyTree
  always : Event → StmtTree → BodyTree
  initial : StmtTree → BodyTree

pub record ItemTree : Type 0 where
  pub place : Place
  pub body : BodyTree

pub record ModuleTree : Type 0 where
  pub place : Place
  pub name : List ℕ
  pub ansi : Bool
  pub params : List ParamTree
  pub ports : List PortTree
  pub items : List ItemTree

-- the trees of what the Rust types hold
abbrev pub maybe : {A B : Type 0} → (A → B) → Option A → Option B
maybe f None = None
maybe f (Some a) = Some (f a)

abbrev pub bounds_of : Range → Bounds
bounds_of r = record { left = tree_of r.left; right = tree_of r.right }

abbrev pub param_of : ParamDecl → ParamTree
param_of p = record { local = p.local; range = maybe bounds_of p.range; name = p.name; value = tree_of p.value }

abbrev pub decl_of : Decl → DeclTree
decl_of d = record { kind = d.kind; range = maybe bounds_of d.range; name = d.name; init = maybe tree_of d.init; array = maybe bounds_of d.array }

abbrev pub port_of : Port → PortTree
port_of p = record { name = p.name; decl = maybe decl_of p.decl }

abbrev pub conn_of : Conn → ConnTree
conn_of c = record { name = c.name; value = maybe tree_of c.value }

abbrev pub conns_of : Conns → ConnsTree
conns_of (conns.Ordered entries) = ordered (map (maybe tree_of) entries)
conns_of (conns.Named entries) = named (map conn_of entries)

abbrev pub body_of : ItemBody → BodyTree
body_of (body.Param p) = param (param_of p)
body_of (body.Decl d) = decl (decl_of d)
body_of (body.Assign target value) = assign (target_tree_of target) (tree_of value)
body_of (body.Gate kind terminals) = gate kind (map tree_of terminals)
body_of (body.Instance child params name ports) = instance child (conns_of params) name (conns_of ports)
body_of (body.Always event stmt) = always event (stmt_tree_of stmt)
body_of (body.Initial stmt) = initial (stmt_tree_of stmt)

abbrev pub item_of : Item → ItemTree
item_of i = record { place = i.place; body = body_of i.body }

abbrev pub module_of : Module → ModuleTree
module_of m = record { place = m.place; name = m.name; ansi = m.ansi; params = map param_of m.params; ports = map port_of m.ports; items = map item_of m.items }

-- the tree of a source
abbrev pub source_of : Source → List ModuleTree
source_of s = map module_of s.modules

-- the greatest height in it, 0 where nothing is
abbrev pub most : {A : Type 0} → (A → ℕ) → List A → ℕ
most h [] = 0
most h (a ∷ bs) = max (h a) (most h bs)

abbrev pub in_option : {A : Type 0} → (A → ℕ) → Option A → ℕ
in_option h None = 0
in_option h (Some a) = h a

abbrev pub bounds_height : Bounds → ℕ
bounds_height b = max (height b.left) (height b.right)

abbrev pub param_height : ParamTree → ℕ
param_height p = max (in_option bounds_height p.range) (height p.value)

abbrev pub decl_height : DeclTree → ℕ
decl_height d = max (max (in_option bounds_height d.range) (in_option height d.init)) (in_option bounds_height d.array)

abbrev pub port_height : PortTree → ℕ
port_height p = in_option decl_height p.decl

abbrev pub conn_height : ConnTree → ℕ
conn_height c = in_option height c.value

abbrev pub conns_height : ConnsTree → ℕ
conns_height (ordered entries) = most (in_option height) entries
conns_height (named entries) = most conn_height entries

abbrev pub body_height : BodyTree → ℕ
body_height (param p) = param_height p
body_height (decl d) = decl_height d
body_height (assign target value) = max (target_height target) (height value)
body_height (gate kind terminals) = most height terminals
body_height (instance child params name ports) = max (conns_height params) (conns_height ports)
body_height (always event s) = stmt_height s
body_height (initial s) = stmt_height s

abbrev pub item_height : ItemTree → ℕ
item_height i = body_height i.body

abbrev pub module_height : ModuleTree → ℕ
module_height m = max (max (most param_height m.params) (most port_height m.ports)) (most item_height m.items)

abbrev pub source_height : List ModuleTree → ℕ
source_height s = most module_height s

-- `{ .. }` of entries: each entry of a list is an item of its own
abbrev pub joined : {A : Type 0} → List (List A) → List A
joined [] = []
joined (a ∷ bs) = a ++ joined bs
